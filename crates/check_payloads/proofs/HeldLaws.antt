-- What the payloads of a kind hold is what the frame holds.
use Prim.Native.Nat.{ℕ, ◌+◌, ◌≤◌}
use mathlib.Core.Path.{◌≡◌, refl, ap, sym, ◌∙◌, subst}
use mathlib.Core.List.{List, [], ◌∷◌, ◌++◌, append-nil, flat_map}
use mathlib.Core.Bool.{Bool, true, false, cond}
use native.Mathlib.Omega.{arith}
use borrow.Author.Tests.{ne_eqb}
use lib.ListN.{length, drop, length-append}
use lib.Dec.{eqb}
use Rattle.octets.specs.Walk.{Reading, whole, Spans, none, more, no-more}
use Rattle.lists.specs.Lists.{count, keep}
use Rattle.lists.proofs.Cases.{bool_cases}
use Rattle.wire_policies.specs.Policy.{policies}
use Rattle.wire_policies.proofs.PolicyGrammar.{policies-read}
use Rattle.wire_bags.specs.Bag.{bags}
use Rattle.wire_bags.proofs.BagGrammar.{bags-read}
use Rattle.wire_frames.specs.Frame.{Content, gsa, kd, delete, unread, Payload, none_next}
use Rattle.wire_frames.specs.Grammar.{IsContent, is-gsa, is-kd, is-delete, is-unread, IsPayload}
use Rattle.wire_readers.specs.inner.Values.{is_whole}
use Rattle.wire_readers.specs.inner.Policies.{policies_in}
use Rattle.wire_readers.specs.inner.Bags.{bags_in}
use Rattle.wire_readers.proofs.ValuesLaws.{is-whole}
use Rattle.rules_refusals.specs.Contents.{is_gsa, is_kd, has_gsa, has_kd, policies_of_content as policiesOfOne}
use Rattle.rules_refusals.specs.Contents.{bags_of_content as bagsOfOne, deletes_of_content}
use Rattle.check_payloads.specs.inner.Facts.{of_kind}
use Rattle.check_payloads.proofs.KindLaws.{FirstBody, no_body, a_body}

-- payloads whose contents are those of their kinds
pub data Formed (fresh : Bool) : List Payload → Type 0 where
  nothing : Formed fresh []
  also : {p : Payload} {l : List Payload} (o : List ℕ) → IsContent fresh p.kind o p.content → Formed fresh l → Formed fresh (p ∷ l)

pub formed : {fresh : Bool} {k : ℕ} {s : List ℕ} {l : List Payload} {rest : List ℕ} → Spans none_next (IsPayload fresh) k s l rest
    → Formed fresh l
formed (none e) = nothing
formed {fresh = fresh} (more o s {a = a} e i r) =
    also (drop 4 o) (subst (λ (n : ℕ). IsContent fresh n (drop 4 o) a.content) i.kind i.content) (formed r)

-- BY THE KIND
at-kind : {k : ℕ} (n m : ℕ) → k ≡ n → eqb n m ≡ eqb k m
at-kind n m e = ap (λ (x : ℕ). eqb x m) (sym e)

module _ {fresh : Bool} {k : ℕ} {o : List ℕ} where
  gsa-kind : {c : Content} → IsContent fresh k o c → is_gsa c ≡ eqb k 51
  gsa-kind (is-gsa e f) = at-kind 51 51 e
  gsa-kind (is-kd e f) = at-kind 52 51 e
  gsa-kind (is-delete e f) = at-kind 42 51 e
  gsa-kind (is-unread a b c) = sym (ne_eqb k 51 a)

  kd-kind : {c : Content} → IsContent fresh k o c → is_kd c ≡ eqb k 52
  kd-kind (is-gsa e f) = at-kind 51 52 e
  kd-kind (is-kd e f) = at-kind 52 52 e
  kd-kind (is-delete e f) = at-kind 42 52 e
  kd-kind (is-unread a b c) = sym (ne_eqb k 52 b)

  delete-kind : {c : Content} → IsContent fresh k o c → length (deletes_of_content c) ≡ cond (eqb k 42) 1 0
  delete-kind (is-gsa e f) = ap (λ (t : Bool). cond t 1 0) (at-kind 51 42 e)
  delete-kind (is-kd e f) = ap (λ (t : Bool). cond t 1 0) (at-kind 52 42 e)
  delete-kind (is-delete e f) = ap (λ (t : Bool). cond t 1 0) (at-kind 42 42 e)
  delete-kind (is-unread a b c) = ap (λ (t : Bool). cond t 1 0) (sym (ne_eqb k 42 c))

  no-policies : (c : Content) → IsContent fresh k o c → eqb k 51 ≡ false → policiesOfOne c ≡ []
  no-policies (gsa l) (is-gsa e f) q = let u : true ≡ false = at-kind 51 51 e ∙ q in let z : ◌≡◌ {A = ℕ} 0 1 = cc in absurd (omega arith)
  no-policies (kd l) (is-kd e f) q = refl
  no-policies (delete d) (is-delete e f) q = refl
  no-policies unread (is-unread a b c) q = refl

  no-bags : (c : Content) → IsContent fresh k o c → eqb k 52 ≡ false → bagsOfOne c ≡ []
  no-bags (gsa l) (is-gsa e f) q = refl
  no-bags (kd l) (is-kd e f) q = let u : true ≡ false = at-kind 52 52 e ∙ q in let z : ◌≡◌ {A = ℕ} 0 1 = cc in absurd (omega arith)
  no-bags (delete d) (is-delete e f) q = refl
  no-bags unread (is-unread a b c) q = refl

-- HOW MANY
pub count-gsa : {fresh : Bool} {l : List Payload} → Formed fresh l → count has_gsa l ≡ count (of_kind 51) l
unfolding count
count-gsa nothing = refl
count-gsa (also o i r) = λ j. cond (gsa-kind i j) (count-gsa r j + 1) (count-gsa r j)

pub count-kd : {fresh : Bool} {l : List Payload} → Formed fresh l → count has_kd l ≡ count (of_kind 52) l
unfolding count
count-kd nothing = refl
count-kd (also o i r) = λ j. cond (kd-kind i j) (count-kd r j + 1) (count-kd r j)

one_more : (t : Bool) (n m x y : ℕ) → x ≡ cond t 1 0 → n ≡ x + y → y ≡ m → n ≡ cond t (m + 1) m
one_more true n m x y e f g = omega arith
one_more false n m x y e f g = omega arith

pub count-deletes : {fresh : Bool} {l : List Payload} → Formed fresh l
    → length (flat_map (λ (p : Payload). deletes_of_content p.content) l) ≡ count (of_kind 42) l
unfolding count flat_map
count-deletes nothing = refl
count-deletes (also {p} {l} o i r) =
    one_more (eqb p.kind 42) _ (count (of_kind 42) l) (length (deletes_of_content p.content))
    (length (flat_map (λ (q : Payload). deletes_of_content q.content) l))
    (delete-kind i) (length-append (deletes_of_content p.content) (flat_map (λ (q : Payload). deletes_of_content q.content) l))
    (count-deletes r)

-- WHAT IS IN THEM
pub length-kept : {A : Type 0} (p : A → Bool) (l : List A) → length (keep p l) ≡ count p l
unfolding keep count
length-kept p [] = refl
length-kept p (a ∷ l) =
    bool_cases (p a) (λ e. rw e (omega (arith, length-kept p l))) (λ e. rw e (length-kept p l))

-- the body of the only payload of a kind holds all that the payloads hold of this kind
module _ {B : Type 0} (fresh : Bool) (k : ℕ) (g : Content → List B)
    (other : (n : ℕ) (o : List ℕ) (c : Content) → IsContent fresh n o c → eqb n k ≡ false → g c ≡ [])
    (p : List ℕ → Reading (List B)) (one : (o : List ℕ) (c : Content) → IsContent fresh k o c → p o ≡ whole (g c) [])
    (empty : p [] ≡ whole [] []) where
  gathered : List Payload → List B
  gathered l = flat_map (λ (q : Payload). g q.content) l

  from-kept : {l : List Payload} → Formed fresh l → gathered (keep (of_kind k) l) ≡ gathered l
  unfolding keep flat_map gathered
  from-kept nothing = refl
  from-kept (also {p = q} {l} o i r) =
      bool_cases (eqb q.kind k) (λ e. rw e (ap (λ (x : List B). g q.content ++ x) (from-kept r)))
      (λ e. rw e (from-kept r ∙ ap (λ (x : List B). x ++ gathered l) (sym (other q.kind o q.content i e))))

  only : (o : List ℕ) {l : List Payload} → FirstBody fresh k o l → length l ≤ 1 → p o ≡ whole (gathered l) []
  unfolding flat_map gathered
  only o (no_body e) h = ap p e ∙ empty
  only o (a_body {p = q} {l = []} i) h = one o q.content i ∙ ap (λ (x : List B). whole x []) (sym (append-nil (g q.content)))
  only o (a_body {l = x ∷ l} i) h = absurd (omega arith)

  pub all_held : {l : List Payload} → Formed fresh l → (o : List ℕ) → FirstBody fresh k o (keep (of_kind k) l) → count (of_kind k) l ≤ 1
      → p o ≡ whole (flat_map (λ (q : Payload). g q.content) l) []
  unfolding gathered
  all_held {l} r o f h =
      only o f (omega (arith, length-kept (of_kind k) l)) ∙ ap (λ (x : List B). whole x []) (from-kept r)

gsa-read : (fresh : Bool) (o : List ℕ) (c : Content) → IsContent fresh 51 o c → policies 0 o ≡ whole (policiesOfOne c) []
gsa-read fresh o (gsa l) (is-gsa e f) = policies-read f 0
gsa-read fresh o (kd l) (is-kd e f) = absurd (omega (arith, e))
gsa-read fresh o (delete d) (is-delete e f) = absurd (omega (arith, e))
gsa-read fresh o unread (is-unread a b c) = absurd (a refl)

kd-read : (fresh : Bool) (o : List ℕ) (c : Content) → IsContent fresh 52 o c → bags fresh 0 o ≡ whole (bagsOfOne c) []
kd-read fresh o (gsa l) (is-gsa e f) = absurd (omega (arith, e))
kd-read fresh o (kd l) (is-kd e f) = bags-read fresh f 0
kd-read fresh o (delete d) (is-delete e f) = absurd (omega (arith, e))
kd-read fresh o unread (is-unread a b c) = absurd (b refl)

module _ {fresh : Bool} {l : List Payload} (r : Formed fresh l) (o : List ℕ) where
  pub policies-held : FirstBody fresh 51 o (keep (of_kind 51) l) → count (of_kind 51) l ≤ 1
      → (is_whole (policies 0 o) ≡ true) × (policies_in o ≡ flat_map (λ (p : Payload). policiesOfOne p.content) l)
  policies-held f h =
      is-whole (policies 0 o) (flat_map (λ (p : Payload). policiesOfOne p.content) l) []
      (all_held fresh 51 policiesOfOne (λ n b c i e. no-policies c i e) (policies 0) (gsa-read fresh) (policies-read no-more 0) r o f h)

  pub bags-held : FirstBody fresh 52 o (keep (of_kind 52) l) → count (of_kind 52) l ≤ 1
      → (is_whole (bags fresh 0 o) ≡ true) × (bags_in fresh o ≡ flat_map (λ (p : Payload). bagsOfOne p.content) l)
  bags-held f h =
      is-whole (bags fresh 0 o) (flat_map (λ (p : Payload). bagsOfOne p.content) l) []
      (all_held fresh 52 bagsOfOne (λ n b c i e. no-bags c i e) (bags fresh 0) (kd-read fresh) (bags-read fresh no-more 0) r o f h)

-- the first body of a kind is whole, whatever comes after it
pub gsa-whole : {fresh : Bool} (o : List ℕ) {l : List Payload} → FirstBody fresh 51 o l → is_whole (policies 0 o) ≡ true
gsa-whole o (no_body e) = ap (λ (x : List ℕ). is_whole (policies 0 x)) e ∙ ap is_whole (policies-read no-more 0)
gsa-whole {fresh} o (a_body {p = q} i) = ap is_whole (gsa-read fresh o q.content i)

pub kd-whole : (fresh : Bool) (o : List ℕ) {l : List Payload} → FirstBody fresh 52 o l → is_whole (bags fresh 0 o) ≡ true
kd-whole fresh o (no_body e) = ap (λ (x : List ℕ). is_whole (bags fresh 0 x)) e ∙ ap is_whole (bags-read fresh no-more 0)
kd-whole fresh o (a_body {p = q} i) = ap is_whole (kd-read fresh o q.content i)
