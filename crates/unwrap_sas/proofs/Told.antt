-- What the copies of one SA open to, by what was found.
use Prim.Native.Nat.{ℕ, ◌+◌}
use mathlib.Core.Path.{◌≡◌, ◌∙◌, subst}
use mathlib.Core.List.{List}
use lib.ListN.{take}
use Rattle.wire_attributes.specs.Tree.{WrapKey}
use Rattle.wire_policies.specs.Policy.{GroupSaPolicy}
use Rattle.wire_frames.specs.Frame.{Frame}
use Rattle.state_sa.specs.declared.entry.Lifetime.{Lifetime}
use Rattle.state_sa.specs.declared.entry.Sa.{Sa}
use Rattle.rules_chains.specs.Chain.{Root}
use Rattle.rules_chains.specs.Refusals.{KeyOf}
use Rattle.unwrap_copies.specs.inner.Answer.{CopyAnswersBy}
use Rattle.unwrap_copies.specs.declared.answer.CopyFound.{CopyFound}
use Rattle.unwrap_copies.specs.declared.answer.CopyFound.TheVariants.{Conflict, Nothing, Key}
use Rattle.unwrap_copies.specs.declared.answer.Copied.{Copied}
use Rattle.rules_outcome.specs.Roots.{need_of, announced_as}
use Rattle.rules_outcome.specs.After.{sa_from}
use Rattle.unwrap_sas.specs.inner.Policies.{IsConflict, IsUnopened, IsSa, PolicyGives, IsOpened}

module _ (p : ℕ) (x : List ℕ) (e w : ℕ) (t : Lifetime) (tick : ℕ) (one : Copied) (roots : List Root) (entries : List WrapKey) (size : ℕ)
    (f : Frame) (a : GroupSaPolicy) (o : IsOpened p x e w t tick one roots entries size f a) where
  told : (g : CopyFound) → one.opened.found ≡ g →
      CopyAnswersBy roots entries size (announced_as f a) g one.opened.octets one.opened.count
  told g h =
      subst (λ (g : CopyFound). CopyAnswersBy roots entries size (announced_as f a) g one.opened.octets one.opened.count) h
      o.answers.answers

  pub of-conflict : one.opened.found ≡ Conflict → IsConflict roots entries size f a
  of-conflict h = told Conflict h

  pub of_none : one.opened.found ≡ Nothing → IsUnopened roots entries size f a
  of_none h = told Nothing h

  pub of-key : one.opened.found ≡ Key → (sa : Sa) →
      ((n : ℕ) (b : GroupSaPolicy) → PolicyGives p x e w t n b → sa ≡ sa_from n b (take (e + w) one.opened.octets)) →
      IsSa tick sa one.openers roots entries size f a
  unfolding need_of
  of-key h sa made =
      let k = told Key h in
      let n : one.opened.count ≡ e + w = k.need ∙ (λ i. o.name.encryption-is i + o.name.wrapping-is i) in
      record {
        x = take (e + w) one.opened.octets;
        key = subst (λ (m : ℕ). KeyOf roots entries size (announced_as f a) (take m one.opened.octets)) n k.key;
        fit = k.fit;
        is = made tick a o.name;
        opened = o.answers.openers h;
      }
