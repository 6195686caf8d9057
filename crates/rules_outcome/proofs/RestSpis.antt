-- The SPIs that the Delete payloads of an accepted frame name have four octets: number 5 lets pass ESP alone, and "the size is 4 for ESP".
use Prim.Native.Nat.{ℕ}
use mathlib.Core.Path.{◌≡◌, sym, ◌∙◌, subst}
use mathlib.Core.Bool.{Bool}
use mathlib.Core.Logic.{⊎_elim}
use mathlib.Core.List.Memᴰ
use mathlib.Core.List.{List, Memᴰ}
use lib.ListN.{length, drop}
use Rattle.octets.specs.Walk as walk
use Rattle.wire_frames.specs.Delete.{Delete}
use Rattle.wire_frames.specs.Frame.{Frame, Payload, Content, none_next}
use Rattle.wire_frames.specs.Exchange.{reads_fresh}
use Rattle.wire_frames.specs.Grammar.{Each, none, more, IsDelete, IsContent, is-gsa, is-kd, is-delete, is-unread, IsPayload, IsFrame}
use Rattle.rules_refusals.specs.Contents.{deletes_of_content, deletes_of, deleted_spis}
use Rattle.rules_outcome.proofs.RunsSpis.{gathered}

-- the octets of a Delete payload's body
pub record Body (d : Delete) : Type 0 where
  pub octets : List ℕ
  pub is : IsDelete octets d

in-content : (fresh : Bool) (k : ℕ) (s : List ℕ) (c : Content) → IsContent fresh k s c → (d : Delete) → Memᴰ d (deletes_of_content c) →
    Body d
in-content fresh k s _ (is-gsa e r) d m = absurd (Memᴰ.not-nil m)
in-content fresh k s _ (is-kd e r) d m = absurd (Memᴰ.not-nil m)
in-content fresh k s _ (is-delete e r) d m = record { octets = s; is = subst (IsDelete s) (sym (Memᴰ.eq_of_singleton m)) r }
in-content fresh k s _ (is-unread a b c) d m = absurd (Memᴰ.not-nil m)

in-spans : (fresh : Bool) {k : ℕ} {s rest : List ℕ} {l : List Payload} → walk.Spans none_next (IsPayload fresh) k s l rest → (p : Payload) →
    Memᴰ p l →
    (d : Delete) → Memᴰ d (deletes_of_content p.content) → Body d
in-spans fresh (walk.none e) p m d n = absurd (Memᴰ.not-nil m)
in-spans fresh {k} (walk.more {st' = j} o s {a = x} e i r) p m d n =
    ⊎_elim
    (λ w.
    in-content fresh k (drop 4 o) x.content i.content d (subst (λ (y : Payload). Memᴰ d (deletes_of_content y.content)) w n))
    (λ w. in-spans fresh r p w d n) (Memᴰ.cases_cons m)

each-size : {k : ℕ} {l : List (List ℕ)} → Each k l → (x : List ℕ) → Memᴰ x l → length x ≡ k
each-size none x m = absurd (Memᴰ.not-nil m)
each-size {k} (more {o} e r) x m =
    ⊎_elim (λ q. subst (λ (y : List ℕ). length y ≡ k) (sym q) e) (λ n. each-size r x n) (Memᴰ.cases_cons m)

module _ (profile : Bool) (octets : List ℕ) (f : Frame) (e : IsFrame profile octets f) where
  pub deleted-size : ((d : Delete) → Memᴰ d (deletes_of f) → d.protocol ≡ 3) → (x : List ℕ) → Memᴰ x (deleted_spis f) →
      length x ≡ 4
  deleted-size esp x m =
      let q = gathered (λ (d : Delete). d.spis) x (deletes_of f) m in
      let p = gathered (λ (y : Payload). deletes_of_content y.content) q.from f.payloads q.stands in
      let b = in-spans (reads_fresh profile f.header.exchange) e.payloads p.from p.stands q.from p.gives in
      each-size b.is.each x q.gives ∙ b.is.esp (esp q.from q.stands)
