-- WHAT A QUESTION FINDS after an accepted frame: "the keying octets and condition of the SA with a given protocol and SPI"; "the question
-- about an SA gives them too", its lifetime and the tick of its start (document 02, T-07).
use native.Mathlib.Omega.{arith}
use Prim.Native.Nat.{ℕ, ◌+◌, ◌-◌, ◌≤◌}
use mathlib.Core.Path.{◌≡◌, refl, ap, sym, ◌∙◌, subst}
use mathlib.Core.Bool.{Bool, true, false, ◌||◌, false≢true}
use mathlib.Core.List.{List, [], ◌∷◌, ◌++◌}
use borrow.Author.Tests.{eq-eqb, eqb-true, ltb-false, lt-ltb}
use lib.Dec.{eqb, ltb}
use lib.ListN.{length, take, replicate}
use lib.Seq.{take-append_seam, take_at}
use Rattle.octets.specs.Compare.{same}
use Rattle.octets.proofs.Order.{eq-same}
use Rattle.state_keys.specs.Limits.{Limits}
use Rattle.lists.specs.Lists.{any}
use Rattle.lists.proofs.Cases.{and_parts, and-whole}
use Rattle.wire_policies.specs.Policy.{GroupSaPolicy}
use Rattle.wire_frames.specs.Frame.{Frame}
use Rattle.wire_frames.specs.Grammar.{IsFrame}
use Rattle.state_sa.specs.Entry.{sa_spi, named, most_seconds, esp_sa, rekey_sa}
use Rattle.state_sa.specs.declared.entry.Condition.TheVariants.{Live}
use Rattle.state_sa.specs.declared.entry.Lifetime.TheVariants.{Unlimited, Limited}
use Rattle.state_sa.specs.declared.entry.Sa.{Sa}
use Rattle.state_table.specs.Table.{table_formed, sas_of}
use Rattle.state_table.proofs.Finds.{sa-found}
use Rattle.state.specs.declared.State.{State}
use Rattle.state.specs.Held.{held_formed}
use Rattle.state.specs.State.{state_formed, asked_sa}
use Rattle.rules_refusals.specs.Contents.{several, announced}
use Rattle.rules_refusals.specs.Fitness.{sum, encryption_octets, key_wrap_octets}
use Rattle.rules_chains.specs.Chain.{In}
use Rattle.rules_chains.proofs.Members.{in-member}
use Rattle.rules_outcome.specs.Roots.{need_of}
use Rattle.rules_outcome.specs.After.{lifetime_from, sa_from}
use Rattle.rules_outcome.specs.Outcome.{Outcome}
use Rattle.rules_outcome.specs.LifetimeSays.{LifetimeAs, its-seconds, no-lifetime}
use Rattle.rules_outcome.specs.AskedSays.{AskedSays}
use Rattle.rules_outcome.proofs.Demands.{each_stands}
use Rattle.rules_outcome.proofs.RunsClear.{taken}
use Rattle.rules_outcome.proofs.RunsAccepted.{kinds, lasts}
use Rattle.rules_outcome.proofs.RunsMade.{Kind, an-esp, a-rekey, Lasts, made-protocol, made-spi}
use Rattle.rules_outcome.proofs.Runs.{accepted-formed}
use Rattle.std.specs.Prelude.{Some}

by-none : (now : ℕ) → lifetime_from now [] ≡ Unlimited
unfolding lifetime_from
by-none now = refl

by-seconds : (now n : ℕ) → lifetime_from now (n ∷ []) ≡ Limited now n
unfolding lifetime_from sum
by-seconds now n = let e : n + 0 ≡ n = omega arith in ap (Limited now) e

few-seconds : (n : ℕ) → any (λ (k : ℕ). ltb most_seconds k) (n ∷ []) ≡ false → n ≤ most_seconds
unfolding any
few-seconds n g = by (ltb most_seconds n) refl g
  where
    by : (b : Bool) → ltb most_seconds n ≡ b → b || false ≡ false → n ≤ most_seconds
    by true e f = absurd (false≢true (sym f))
    by false e f = let k = ltb-false most_seconds n e in omega arith

lifetime-as : (now : ℕ) (p : GroupSaPolicy) → Lasts p → LifetimeAs now p (lifetime_from now p.key_lifetimes)
lifetime-as now p h = go p.key_lifetimes refl h.0 h.1
  where
    go : (l : List ℕ) → p.key_lifetimes ≡ l → several l ≡ false → any (λ (n : ℕ). ltb most_seconds n) l ≡ false →
        LifetimeAs now p (lifetime_from now l)
    go [] e f g = subst (LifetimeAs now p) (sym (by-none now)) (no-lifetime e)
    go (n ∷ []) e f g = subst (LifetimeAs now p) (sym (by-seconds now n)) (its-seconds n e (few-seconds n g))
    go (n ∷ m ∷ l) e f g = absurd (false≢true (sym f ∙ lt-ltb 1 (length (n ∷ m ∷ l)) (omega arith)))

-- ---- an SA that a policy announces has the octets x that it is made of, as many as the policy needs, and is live
module _ (now : ℕ) (a : GroupSaPolicy) (x : List ℕ) (n : length x ≡ need_of a) where
  made-octets : Kind a → take (sa_from now a x).count (sa_from now a x).octets ≡ x
  unfolding need_of sa_from esp_sa rekey_sa
  made-octets (an-esp e l s k) =
      let g : take (length x) (x ++ replicate (36 - length x) 0) ≡ x = take-append_seam x (replicate (36 - length x) 0) in
      rw (e, g) (take-append_seam x (replicate (68 - length x) 0))
  made-octets (a-rekey e r l s) = rw e (take_at x (replicate (68 - length x) 0) _ n)

  made-size : Kind a → (sa_from now a x).count ≡ need_of a
  unfolding need_of sa_from esp_sa rekey_sa
  made-size (an-esp e l s k) = rw e n
  made-size (a-rekey e r l s) = rw e

  made-condition : Kind a → (sa_from now a x).condition ≡ Live
  unfolding sa_from esp_sa rekey_sa
  made-condition (an-esp e l s k) = rw e
  made-condition (a-rekey e r l s) = rw e

  made-lasts : Kind a → (sa_from now a x).lifetime ≡ lifetime_from now a.key_lifetimes
  unfolding sa_from esp_sa rekey_sa
  made-lasts (an-esp e l s k) = rw e
  made-lasts (a-rekey e r l s) = rw e

  made-parts : Kind a → a.protocol ≡ 6 → ((sa_from now a x).encryption ≡ encryption_octets a) × ((sa_from now a x).wrapping ≡ key_wrap_octets a)
  unfolding sa_from rekey_sa
  made-parts (an-esp e l s k) p = let q : a.protocol ≡ 3 = eqb-true a.protocol 3 e in absurd (omega arith)
  made-parts (a-rekey e r l s) p = (rw e, rw e)

  made-name : Kind a → named a.protocol a.spi (sa_from now a x) ≡ true
  unfolding named
  made-name k =
      and-whole (eqb (sa_from now a x).protocol a.protocol) (same (sa_spi (sa_from now a x)) a.spi)
      (eq-eqb (sa_from now a x).protocol a.protocol (made-protocol now a x k))
      (eq-same (sa_spi (sa_from now a x)) a.spi (made-spi now a x k))

module _ (limits : Limits) (s : State) (now : ℕ) (lent octets : List ℕ) (f : Frame)
    (e : IsFrame s.profile octets f) (next : State) (o : Outcome limits s now lent octets 0 next) where
  next-formed : state_formed limits next ≡ true
  next-formed =
      let t = taken limits s now lent octets f next e o in
      accepted-formed limits s now lent f t.is-clear next t.after octets e

  asked-found : (p : ℕ) (x : List ℕ) (b : Sa) → In b (sas_of next.table) → named p x b ≡ true →
      asked_sa limits p x next ≡ Some b
  unfolding asked_sa state_formed
  asked-found p x b m n =
      let t = and_parts (table_formed limits next.table) (held_formed limits next.held) next-formed in
      rw next-formed (sa-found limits next.table t.0 p x b (in-member b (sas_of next.table) m) n)

  pub asked-after : (p : GroupSaPolicy) → In p (announced f) → AskedSays limits s now lent f next p
  asked-after p m =
      let n = each_stands limits s now lent octets f e next o p m in
      let x = n.octets in
      let t = taken limits s now lent octets f next e o in
      let k = kinds limits s now lent f t.is-clear octets e p (in-member p (announced f) m) in
      record {
        keying = x;
        opens = n.opens;
        every = n.every;
        size = n.fits;
        sa = sa_from now p x;
        found = asked-found p.protocol p.spi (sa_from now p x) n.stands (made-name now p x n.fits k);
        protocol = made-protocol now p x k;
        has = made-octets now p x n.fits k;
        count = made-size now p x n.fits k;
        live = made-condition now p x n.fits k;
        lifetime =
            subst (LifetimeAs now p) (sym (made-lasts now p x n.fits k))
            (lifetime-as now p (lasts limits s now lent f t.is-clear p (in-member p (announced f) m)));
        parts = made-parts now p x n.fits k;
      }
