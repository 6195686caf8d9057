-- The reader of policies answers a list exactly when the octets are that list's.
use Prim.Native.Nat.{ℕ, ◌+◌, ◌-◌, ◌<◌, ◌≤◌}
use mathlib.Core.Path.{◌≡◌, refl, ap, sym, ◌∙◌, subst}
use mathlib.Core.List.{List, [], ◌++◌}
use mathlib.Core.Bool.{Bool, true, false, cond, ◌&&◌, ◌||◌}
use native.Mathlib.Omega.{arith}
use borrow.Author.Tests.{le-leb, lt-ltb, ltb-true, eq-eqb, ne_eqb, eqb-true, eqb-false}
use lib.Dec.{leb, ltb, eqb}
use lib.ListN.{length, drop, length-drop}
use lib.Seq.{take_all, drop-length}
use Rattle.lists.proofs.Cases.{and_parts}
use Rattle.octets.specs.Numbers.{oct}
use Rattle.octets.specs.Walk.{be16, part, sized, whole, mapped, opened, closed, within}
use Rattle.octets.proofs.Local.{extended, oct-append, be16-append, part-append, size-append, opened-extend, within-extend, Local}
use Rattle.octets.proofs.Inverse.{inverse-mapped, inverse-opened, inverse-within}
use Rattle.octets.proofs.Grammar.{Cuts, row_read, read-row, sound-of, complete-of}
use Rattle.wire_attributes.specs.Place.{in_policy}
use Rattle.wire_attributes.specs.Tree.{initial_message_ids, key_lifetimes}
use Rattle.wire_attributes.specs.Layout.{attributes}
use Rattle.wire_attributes.specs.Grammar.{Attributes}
use Rattle.wire_attributes.specs.declared.tables.Place.TheVariants as place
use Rattle.wire_attributes.proofs.GrammarLaws.{are-read, read-are}
use Rattle.wire_attributes.proofs.SplitGrammar.{joined, Each, Split, together, splits, one_way}
use Rattle.wire_policies.specs.Policy.{spi_size, first_known, spi_sized, head_size, head_fits, head_spi, Policy}
use Rattle.wire_policies.specs.Policy.{group_sa, group_wide}
use Rattle.wire_policies.specs.Policy.{SaBody, sa_body, group_sa_of, group_wide_of, policy_holds, policy, policies}
use Rattle.wire_policies.specs.Grammar.{IsSaBody, IsPolicy, is-sa, is_wide, Policies}
use Rattle.wire_policies.proofs.HeadLaws.{head-is}
use Rattle.wire_policies.proofs.PolicyLaws.{takes}
use Rattle.wire_policies.proofs.BodyGrammar.{body-to, body-from}

-- A POLICY IS READ FROM ITS OWN OCTETS
abbrev size_at : List ℕ → ℕ
size_at s = be16 s 2

pub record Read (b : ℕ) (s : List ℕ) (x : Policy) (rest : List ℕ) : Type 0 where
  pub fits : head_fits s ≡ true
  pub left : List ℕ
  pub inner : policy_holds b s (b + head_size s) (part s (head_size s) (be16 s 2)) ≡ whole x left
  pub after : rest ≡ drop (be16 s 2) s

pub inverse : (b : ℕ) (s : List ℕ) (x : Policy) (rest : List ℕ) → policy b s ≡ whole x rest → Read b s x rest
unfolding policy
inverse b s x rest q =
    let f = inverse-opened b (head_fits s) (within (head_size s) (be16 s 2) (policy_holds b s) b s) x rest q in
    let k = inverse-within (head_size s) (be16 s 2) (policy_holds b s) b s x rest f.1 in
    record { fits = f.0; left = k.left; inner = k.inner; after = k.after }

same_size : (o r : List ℕ) → 4 ≤ length o → size_at (o ++ r) ≡ size_at o
same_size o r l = be16-append o r 2 (omega arith)

counted : (b : ℕ) (s : List ℕ) (x : Policy) (rest : List ℕ) → policy b s ≡ whole x rest
    → (4 ≤ size_at s) × (size_at s ≤ length s) × (rest ≡ drop (size_at s) s)
counted b s x rest q =
    let f = inverse b s x rest q in
    let g = head-is s f.fits in
    (omega (arith, g.0), g.1, f.after)

-- the head, which key bags share
module _ (o r : List ℕ) (l : 4 ≤ length o) (k : be16 o 2 ≤ length o) where
  pub first : oct (o ++ r) 0 ≡ oct o 0
  first = oct-append o r 0 (omega arith)

  pub same_head : head_fits (o ++ r) ≡ head_fits o
  same_head =
      (λ i. sized (4 + spi_size (first i)) (o ++ r)
      && (first_known (first i) && (eqb (first i) 0 || eqb (oct-append o r 1 (omega arith) i) (spi_size (first i)))))
      ∙ ap (λ (t : Bool). t && (first_known (oct o 0) && spi_sized o)) (size-append o r (head_size o) l k)

  pub same-spi : head_fits o ≡ true → head_spi (o ++ r) ≡ head_spi o
  same-spi e =
      let f = head-is o e in
      ap (λ (t : ℕ). part (o ++ r) 4 (4 + spi_size t)) first
      ∙ part-append o r 4 (head_size o) (omega arith) (omega (arith, f.0))

module _ (b : ℕ) (o r : List ℕ) (l : 4 ≤ length o) (k : size_at o ≤ length o) where
  same-held : head_fits o ≡ true
      → within (head_size (o ++ r)) (be16 (o ++ r) 2) (policy_holds b (o ++ r)) b (o ++ r)
      ≡ extended r (within (head_size o) (be16 o 2) (policy_holds b o) b o)
  same-held e =
      let f = head-is o e in
      (λ i. within (4 + spi_size (first o r l k i)) (same_size o r l i)
      (λ c y. cond (eqb (first o r l k i) 0) (mapped group_wide_of (attributes place.GroupWidePolicy c y))
      (mapped
      (λ (x : SaBody). group_sa (record {
        protocol = first o r l k i;
        spi = same-spi o r l k e i;
        source = x.source;
        destination = x.destination;
        transforms = x.suite.transforms;
        initial_message_ids = initial_message_ids (in_policy (first o r l k i)) x.suite.attributes;
        key_lifetimes = key_lifetimes (in_policy (first o r l k i)) x.suite.attributes;
      }))
      (sa_body b (in_policy (first o r l k i)) c y)))
      b (o ++ r))
      ∙ within-extend o r (head_size o) (be16 o 2) (policy_holds b o) b f.0 k

  extends : policy b (o ++ r) ≡ extended r (policy b o)
  unfolding policy
  extends =
      opened-extend o r b (head_fits (o ++ r)) (head_fits o) (within (head_size (o ++ r)) (be16 (o ++ r) 2) (policy_holds b (o ++ r)) b
      (o ++ r))
      (within (head_size o) (be16 o 2) (policy_holds b o) b o) (same_head o r l k) same-held

pub local : Local policy 4 size_at
local = record { same = same_size; counts = counted; extend = extends }

-- THE RELATION AND THE READER AGREE on the octets of one policy
pub exact-size : (o : List ℕ) → head_fits o ≡ true → [] ≡ drop (be16 o 2) o → be16 o 2 ≡ length o
exact-size o e d = let g = head-is o e in omega (arith, g.0, g.1, ap length d, length-drop (be16 o 2) o)

pub body-octets : (o : List ℕ) → head_fits o ≡ true → be16 o 2 ≡ length o → part o (head_size o) (be16 o 2) ≡ drop (head_size o) o
body-octets o e n =
    take_all (be16 o 2 - head_size o) (drop (head_size o) o) (rw length-drop (omega arith))

pub known-spi : (o : List ℕ) → head_fits o ≡ true → (oct o 0 ≡ 0 → ⊥) → (0 < spi_size (oct o 0)) × (oct o 1 ≡ spi_size (oct o 0))
known-spi o e z =
    let f = and_parts (sized (head_size o) o) (first_known (oct o 0) && spi_sized o) e in
    let g = and_parts (first_known (oct o 0)) (spi_sized o) f.1 in
    let t = ne_eqb (oct o 0) 0 z in (
      ltb-true 0 (spi_size (oct o 0)) (ap (λ (u : Bool). u || ltb 0 (spi_size (oct o 0))) (sym t) ∙ g.0),
      eqb-true (oct o 1) (spi_size (oct o 0)) (ap (λ (u : Bool). u || eqb (oct o 1) (spi_size (oct o 0))) (sym t) ∙ g.1),
    )

pub made-head : (o : List ℕ) → head_size o ≤ be16 o 2 → be16 o 2 ≡ length o → first_known (oct o 0) ≡ true → spi_sized o ≡ true
    → head_fits o ≡ true
made-head o l n f g =
    ap (λ (t : Bool). t && (first_known (oct o 0) && spi_sized o))
    (ap (λ (t : Bool). t && leb (be16 o 2) (length o)) (le-leb (head_size o) (be16 o 2) l) ∙ le-leb (be16 o 2) (length o) (omega arith))
    ∙ ap (λ (t : Bool). t && spi_sized o) f ∙ g

module _ (b : ℕ) (o : List ℕ) where
  wide-to : (x : Policy) (left : List ℕ) → head_fits o ≡ true → be16 o 2 ≡ length o → oct o 0 ≡ 0
      → mapped group_wide_of (attributes place.GroupWidePolicy (b + head_size o) (part o (head_size o) (be16 o 2))) ≡ whole x left
      → IsPolicy o x
  wide-to x left e n z q =
      let c = b + head_size o in
      let g = head-is o e in
      let m = inverse-mapped group_wide_of (attributes place.GroupWidePolicy c (part o (head_size o) (be16 o 2))) x left q in
      let a = read-are place.GroupWidePolicy c (part o (head_size o) (be16 o 2)) m.item left m.is in
      let d : part o (head_size o) (be16 o 2) ≡ drop 4 o = body-octets o e n ∙ ap (λ (t : ℕ). drop (4 + spi_size t) o) z in
      subst (IsPolicy o) m.gives
      (is_wide (record {
        first = z;
        size = n;
        least = omega (arith, g.0);
        attributes = m.item;
        held = subst (λ (y : List ℕ). Attributes place.GroupWidePolicy y m.item) d a;
        deactivation_delays = refl;
      }))

  sa-to : (x : Policy) (left : List ℕ) → head_fits o ≡ true → be16 o 2 ≡ length o → (oct o 0 ≡ 0 → ⊥)
      → mapped (group_sa_of o) (sa_body b (in_policy (oct o 0)) (b + head_size o) (part o (head_size o) (be16 o 2))) ≡ whole x left → IsPolicy o x
  sa-to x left e n z q =
      let c = b + head_size o in
      let g = head-is o e in
      let m = inverse-mapped (group_sa_of o) (sa_body b (in_policy (oct o 0)) c (part o (head_size o) (be16 o 2))) x left q in
      let a = body-to b (in_policy (oct o 0)) c (part o (head_size o) (be16 o 2)) m.item left m.is in
      let k = known-spi o e z in
      subst (IsPolicy o) m.gives
      (is-sa (record {
        protocol = refl;
        known = k.0;
        spi_octets = k.1;
        size = n;
        least = omega (arith, g.0);
        spi = refl;
        body = m.item;
        holds = subst (λ (y : List ℕ). IsSaBody (in_policy (oct o 0)) y m.item) (body-octets o e n) a;
        source = refl;
        destination = refl;
        transforms = refl;
        initial_message_ids = refl;
        key_lifetimes = refl;
      }))

  to : (x : Policy) → policy b o ≡ whole x [] → IsPolicy o x
  to x q =
      let f = inverse b o x [] q in
      let n = exact-size o f.fits f.after in
      go f.left f.fits n (eqb (oct o 0) 0) refl f.inner
    where
      go : (left : List ℕ) → head_fits o ≡ true → be16 o 2 ≡ length o → (t : Bool) → eqb (oct o 0) 0 ≡ t
          → cond t (mapped group_wide_of (attributes place.GroupWidePolicy (b + head_size o) (part o (head_size o) (be16 o 2))))
          (mapped (group_sa_of o) (sa_body b (in_policy (oct o 0)) (b + head_size o) (part o (head_size o) (be16 o 2)))) ≡ whole x left
          → IsPolicy o x
      go left e n true t q = wide-to x left e n (eqb-true (oct o 0) 0 t) q
      go left e n false t q = sa-to x left e n (eqb-false (oct o 0) 0 t) q

  opens : (x : Policy) → head_fits o ≡ true → be16 o 2 ≡ length o → policy_holds b o (b + head_size o) (drop (head_size o) o) ≡ whole x []
      → policy b o ≡ whole x []
  unfolding policy
  opens x e n q =
      ap (λ (t : Bool). opened b t (within (head_size o) (be16 o 2) (policy_holds b o) b o)) e
      ∙ ap (λ (y : List ℕ). closed (drop (be16 o 2) o) (policy_holds b o (b + head_size o) y)) (body-octets o e n)
      ∙ ap (closed (drop (be16 o 2) o)) q ∙ ap (λ (t : ℕ). whole x (drop t o)) n ∙ ap (whole x) (drop-length o)

  from : (x : Policy) → IsPolicy o x → policy b o ≡ whole x []
  from (group_wide x) (is_wide i) =
      let z = i.first in
      let n = i.size in
      let l = i.least in
      let h : head_size o ≡ 4 = ap (λ (t : ℕ). 4 + spi_size t) z in
      let t = eq-eqb (oct o 0) 0 z in
      let e : head_fits o ≡ true =
      made-head o (omega arith) n (ap (λ (u : Bool). u || ltb 0 (spi_size (oct o 0))) t)
      (ap (λ (u : Bool). u || eqb (oct o 1) (spi_size (oct o 0))) t) in
      let a : Attributes place.GroupWidePolicy (drop (head_size o) o) i.attributes =
      subst (λ (u : ℕ). Attributes place.GroupWidePolicy (drop u o) i.attributes) (sym h) i.held in
      opens (group_wide x) e n
      (ap (λ (u : Bool). cond u (mapped group_wide_of (attributes place.GroupWidePolicy (b + head_size o) (drop (head_size o) o)))
      (mapped (group_sa_of o) (sa_body b (in_policy (oct o 0)) (b + head_size o) (drop (head_size o) o)))) t
      ∙ ap (mapped group_wide_of) (are-read place.GroupWidePolicy a (b + head_size o))
      ∙ (λ j. whole (group_wide (record { deactivation_delays = i.deactivation_delays j })) []))
  from (group_sa x) (is-sa i) =
      let p = i.protocol in
      let n = i.size in
      let k : 0 < spi_size (oct o 0) = subst (λ (t : ℕ). 0 < spi_size t) (sym p) i.known in
      let l : head_size o ≤ length o = subst (λ (t : ℕ). 4 + spi_size t ≤ length o) (sym p) i.least in
      let z : oct o 0 ≡ 0 → ⊥ = λ y. omega (arith, k, ap spi_size y) in
      let t = ne_eqb (oct o 0) 0 z in
      let e : head_fits o ≡ true =
      made-head o (omega arith) n (ap (λ (u : Bool). u || ltb 0 (spi_size (oct o 0))) t ∙ lt-ltb 0 (spi_size (oct o 0)) k)
      (ap (λ (u : Bool). u || eqb (oct o 1) (spi_size (oct o 0))) t ∙ eq-eqb (oct o 1) (spi_size (oct o 0)) (i.spi_octets
      ∙ ap spi_size (sym p))) in
      let a : IsSaBody (in_policy (oct o 0)) (drop (head_size o) o) i.body =
      subst (λ (u : ℕ). IsSaBody (in_policy u) (drop (4 + spi_size u) o) i.body) (sym p) i.holds in
      let sp : head_spi o ≡ x.spi = ap (λ (u : ℕ). part o 4 (4 + spi_size u)) p ∙ i.spi in
      let ids : initial_message_ids (in_policy (oct o 0)) i.body.suite.attributes ≡ x.initial_message_ids =
      ap (λ (u : ℕ). initial_message_ids (in_policy u) i.body.suite.attributes) p ∙ i.initial_message_ids in
      let lives : key_lifetimes (in_policy (oct o 0)) i.body.suite.attributes ≡ x.key_lifetimes =
      ap (λ (u : ℕ). key_lifetimes (in_policy u) i.body.suite.attributes) p ∙ i.key_lifetimes in
      opens (group_sa x) e n
      (ap (λ (u : Bool). cond u (mapped group_wide_of (attributes place.GroupWidePolicy (b + head_size o) (drop (head_size o) o)))
      (mapped (group_sa_of o) (sa_body b (in_policy (oct o 0)) (b + head_size o) (drop (head_size o) o)))) t
      ∙ ap (mapped (group_sa_of o)) (body-from b (in_policy (oct o 0)) (drop (head_size o) o) i.body a (b + head_size o))
      ∙ (λ j. whole (group_sa (record {
        protocol = p j;
        spi = sp j;
        source = i.source j;
        destination = i.destination j;
        transforms = i.transforms j;
        initial_message_ids = ids j;
        key_lifetimes = lives j;
      })) []))

pub sound : (b : ℕ) (s : List ℕ) (x : Policy) (rest : List ℕ) → policy b s ≡ whole x rest → Cuts IsPolicy s x rest
sound = sound-of policy 4 size_at local IsPolicy to

pub complete : (b : ℕ) (o rest : List ℕ) (x : Policy) → IsPolicy o x → policy b (o ++ rest) ≡ whole x rest
complete = complete-of policy 4 size_at local IsPolicy from

pub policies-read : {s : List ℕ} {l : List Policy} → Policies s l → (b : ℕ) → policies b s ≡ whole l []
policies-read f b = row_read policy takes IsPolicy sound complete f b

pub read-policies : (b : ℕ) (s : List ℕ) (l : List Policy) (rest : List ℕ) → policies b s ≡ whole l rest → Policies s l
read-policies b s l rest q = read-row policy takes IsPolicy sound complete b s l rest q

-- whole policies one after the other are read to the list of what each is read to; whole octets split into policies in one way
pub policies-together : {os : List (List ℕ)} {l : List Policy} → Each policy os l → (b : ℕ) → policies b (joined os) ≡ whole l []
policies-together f b = together policy takes IsPolicy sound complete f b

pub policies-split : (b : ℕ) (s : List ℕ) (l : List Policy) (rest : List ℕ) → policies b s ≡ whole l rest → Split policy s l
policies-split b s l rest q = splits policy takes IsPolicy sound complete b s l rest q

pub policies-one-way : {os os' : List (List ℕ)} {l l' : List Policy} → Each policy os l → Each policy os' l' → joined os ≡ joined os'
    → (os ≡ os') × (l ≡ l')
policies-one-way f g e = one_way policy takes IsPolicy sound complete f g e
