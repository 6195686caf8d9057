-- The SPIs of the policies of a frame whose layout is whole have the octets that their protocol asks for.
use native.Mathlib.Omega.{arith}
use Prim.Native.Nat.{ℕ, ◌+◌, ◌-◌}
use mathlib.Core.Path.{◌≡◌, refl, ap, sym, ◌∙◌, subst}
use mathlib.Core.Bool.{Bool}
use mathlib.Core.Logic.{⊎_elim}
use mathlib.Core.List.Memᴰ
use mathlib.Core.List.{List, [], ◌∷◌, Memᴰ, flat_map}
use lib.ListN.{length, drop, length-drop}
use lib.Seq.{length-take-le}
use Rattle.octets.specs.Walk.{Spans, none, more, Row, no-more, then}
use Rattle.wire_policies.specs.Policy.{spi_size, GroupSaPolicy, Policy}
use Rattle.wire_policies.specs.Grammar.{IsGroupSa, IsPolicy, is-sa, is_wide}
use Rattle.wire_frames.specs.Frame.{Frame, Payload, Content, none_next}
use Rattle.wire_frames.specs.Exchange.{reads_fresh}
use Rattle.wire_frames.specs.Grammar.{IsContent, is-gsa, is-kd, is-delete, is-unread, IsPayload, IsFrame}
use Rattle.rules_refusals.specs.Contents.{group_sa_in, policies_of_content, policies_of, announced}

-- ---- what is gathered stands in what one of the list gives
pub record Gathered {A B : Type 0} (g : A → List B) (l : List A) (b : B) : Type 0 where
  pub from : A
  pub stands : Memᴰ from l
  pub gives : Memᴰ b (g from)

pub gathered : {A B : Type 0} (g : A → List B) (b : B) (l : List A) → Memᴰ b (flat_map g l) → Gathered g l b
unfolding flat_map
gathered g b [] m = absurd (Memᴰ.not-nil m)
gathered g b (a ∷ l) m =
    ⊎_elim (λ x. record { from = a; stands = Memᴰ.head refl; gives = x })
    (λ x. let r = gathered g b l x in record { from = r.from; stands = Memᴰ.tail r.stands; gives = r.gives })
    (Memᴰ.append_cases (g a) m)

-- ---- the octets of each item
pub record Octets (Is : List ℕ → Policy → Type 0) (q : Policy) : Type 0 where
  pub octets : List ℕ
  pub is : Is octets q

in_row : {s : List ℕ} {l : List Policy} → Row IsPolicy s l → (q : Policy) → Memᴰ q l → Octets IsPolicy q
in_row no-more q m = absurd (Memᴰ.not-nil m)
in_row (then o s i r) q m =
    ⊎_elim (λ e. record { octets = o; is = subst (IsPolicy o) (sym e) i }) (λ w. in_row r q w) (Memᴰ.cases_cons m)

in-content : (fresh : Bool) (k : ℕ) (s : List ℕ) (c : Content) → IsContent fresh k s c → (q : Policy) → Memᴰ q (policies_of_content c) →
    Octets IsPolicy q
in-content fresh k s _ (is-gsa e r) q m = in_row r q m
in-content fresh k s _ (is-kd e r) q m = absurd (Memᴰ.not-nil m)
in-content fresh k s _ (is-delete e r) q m = absurd (Memᴰ.not-nil m)
in-content fresh k s _ (is-unread d e f) q m = absurd (Memᴰ.not-nil m)

in-spans : (fresh : Bool) {k : ℕ} {s rest : List ℕ} {l : List Payload} → Spans none_next (IsPayload fresh) k s l rest → (p : Payload) →
    Memᴰ p l →
    (q : Policy) → Memᴰ q (policies_of_content p.content) → Octets IsPolicy q
in-spans fresh (none e) p m q n = absurd (Memᴰ.not-nil m)
in-spans fresh {k} (more {st' = j} o s {a = x} e i r) p m q n =
    ⊎_elim
    (λ w.
    in-content fresh k (drop 4 o) x.content i.content q (subst (λ (y : Payload). Memᴰ q (policies_of_content y.content)) w n))
    (λ w. in-spans fresh r p w q n) (Memᴰ.cases_cons m)

of-policy : (o : List ℕ) (q : Policy) → IsPolicy o q → (a : GroupSaPolicy) → Memᴰ a (group_sa_in q) → IsGroupSa o a
of-policy o _ (is-sa i) a m = subst (IsGroupSa o) (sym (Memᴰ.eq_of_singleton m)) i
of-policy o _ (is_wide i) a m = absurd (Memᴰ.not-nil m)

spi-of : (o : List ℕ) (a : GroupSaPolicy) → IsGroupSa o a → length a.spi ≡ spi_size a.protocol
spi-of o a i =
    let n = spi_size a.protocol in
    let l = i.least in
    let d = length-drop 4 o in
    ap length (sym i.spi) ∙ length-take-le ((4 + n) - 4) (drop 4 o) (omega arith) ∙ omega arith

module _ (profile : Bool) (octets : List ℕ) (f : Frame) (e : IsFrame profile octets f) (a : GroupSaPolicy)
    (m : Memᴰ a (announced f)) where
  pub spi-size : length a.spi ≡ spi_size a.protocol
  spi-size =
      let q = gathered group_sa_in a (policies_of f) m in
      let p = gathered (λ (x : Payload). policies_of_content x.content) q.from f.payloads q.stands in
      let i = in-spans (reads_fresh profile f.header.exchange) e.payloads p.from p.stands q.from p.gives in
      spi-of i.octets a (of-policy i.octets q.from i.is a q.gives)

  pub esp-spi : a.protocol ≡ 3 → length a.spi ≡ 4
  esp-spi g = spi-size ∙ ap spi_size g

  pub rekey-spi : a.protocol ≡ 6 → length a.spi ≡ 16
  rekey-spi g = spi-size ∙ ap spi_size g
