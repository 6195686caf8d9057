-- Going through policies whose layout is whole: the first one, and the others.
use Prim.Native.Nat.{ℕ, ◌+◌, ◌<◌}
use mathlib.Core.Path.{◌≡◌, ap, sym, ◌∙◌, subst}
use mathlib.Core.List.{List, [], ◌∷◌}
use mathlib.Core.Bool.{Bool, true, cond}
use borrow.Author.Tests.{eq-eqb, ne_eqb}
use lib.ListN.{length, drop}
use Rattle.octets.specs.Numbers.{oct}
use Rattle.octets.specs.Walk.{be16, part, whole, mapped}
use Rattle.octets.proofs.Inverse.{inverse-mapped}
use Rattle.octets.proofs.Grammar.{first_rest}
use Rattle.wire_attributes.specs.Place.{in_policy}
use Rattle.wire_attributes.specs.Layout.{attributes}
use Rattle.wire_readers.specs.inner.Values.{is_whole, attributes_in}
use Rattle.wire_attributes.specs.declared.tables.Place.TheVariants as place
use Rattle.wire_readers.proofs.ValuesLaws.{whole_is, is-whole, any-offset}
use Rattle.wire_policies.specs.Policy.{head_size, head_fits, Policy, SaBody, sa_body, group_sa_of, group_wide_of, policy_holds, policy, policies}
use Rattle.wire_policies.specs.Grammar.{IsSaBody, IsPolicy}
use Rattle.wire_readers.specs.inner.Policies.{Heads, policies_in, PolicyIs}
use Rattle.wire_readers.specs.declared.policy.Parts.{Parts}
use Rattle.wire_policies.proofs.PolicyLaws.{takes}
use Rattle.wire_policies.proofs.PolicyGrammar.{inverse, sound, complete}
use Rattle.wire_policies.proofs.BodyGrammar.{body-to}

record Head (s : List ℕ) : Type 0 where
  fits : head_fits s ≡ true
  item : Policy
  left : List ℕ
  inner : policy_holds 0 s (0 + head_size s) (part s (head_size s) (be16 s 2)) ≡ whole item left
  first : policies_in s ≡ item ∷ policies_in (drop (be16 s 2) s)
  rest : is_whole (policies 0 (drop (be16 s 2) s)) ≡ true

head_of : (s : List ℕ) → is_whole (policies 0 s) ≡ true → 0 < length s → Head s
head_of s e h =
    let w = whole_is (policies 0 s) e in
    let f = first_rest policy takes IsPolicy sound complete 0 s (policies_in s) w.0 h w.1 in
    let g = inverse 0 s f.item (drop f.size s) (f.is 0) in
    let k : policies 0 (drop (be16 s 2) s) ≡ whole f.others [] = ap (policies 0) (sym g.after) ∙ f.rest 0 in
    let i = is-whole (policies 0 (drop (be16 s 2) s)) f.others [] k in
    record {
      fits = g.fits;
      item = f.item;
      left = g.left;
      inner = g.inner;
      first = f.all ∙ ap (λ (l : List Policy). f.item ∷ l) (sym i.1);
      rest = i.0;
    }

pub fits-first : (s : List ℕ) → is_whole (policies 0 s) ≡ true → 0 < length s → head_fits s ≡ true
fits-first s e h = (head_of s e h).fits

module _ (s : List ℕ) (e : is_whole (policies 0 s) ≡ true) (h : 0 < length s) where
  wide-first : oct s 0 ≡ 0
      → (policies_in s ≡ group_wide_of (attributes_in place.GroupWidePolicy (part s (head_size s) (be16 s 2))) ∷ policies_in (drop (be16 s 2) s))
      × (is_whole (attributes place.GroupWidePolicy 0 (part s (head_size s) (be16 s 2))) ≡ true)
  wide-first z =
      let f = head_of s e h in
      let t = part s (head_size s) (be16 s 2) in
      let q : mapped group_wide_of (attributes place.GroupWidePolicy (0 + head_size s) t) ≡ whole f.item f.left =
      ap (λ (u : Bool). cond u (mapped group_wide_of (attributes place.GroupWidePolicy (0 + head_size s) t))
      (mapped (group_sa_of s) (sa_body 0 (in_policy (oct s 0)) (0 + head_size s) t))) (sym (eq-eqb (oct s 0) 0 z)) ∙ f.inner in
      let m = inverse-mapped group_wide_of (attributes place.GroupWidePolicy (0 + head_size s) t) f.item f.left q in
      let i = is-whole (attributes place.GroupWidePolicy 0 t) m.item []
      (any-offset place.GroupWidePolicy (0 + head_size s) 0 t m.item f.left m.is) in (
        f.first ∙ ap (λ (x : Policy). x ∷ policies_in (drop (be16 s 2) s)) (sym m.gives ∙ ap group_wide_of (sym i.1)),
        i.0,
      )

  record SaHead : Type 0 where
    content : SaBody
    item : policies_in s ≡ group_sa_of s content ∷ policies_in (drop (be16 s 2) s)
    is : IsSaBody (in_policy (oct s 0)) (part s (head_size s) (be16 s 2)) content

  sa-first : (oct s 0 ≡ 0 → ⊥) → SaHead
  sa-first z =
      let f = head_of s e h in
      let t = part s (head_size s) (be16 s 2) in
      let q : mapped (group_sa_of s) (sa_body 0 (in_policy (oct s 0)) (0 + head_size s) t) ≡ whole f.item f.left =
      ap (λ (u : Bool). cond u (mapped group_wide_of (attributes place.GroupWidePolicy (0 + head_size s) t))
      (mapped (group_sa_of s) (sa_body 0 (in_policy (oct s 0)) (0 + head_size s) t))) (sym (ne_eqb (oct s 0) 0 z)) ∙ f.inner in
      let m = inverse-mapped (group_sa_of s) (sa_body 0 (in_policy (oct s 0)) (0 + head_size s) t) f.item f.left q in
      record {
        content = m.item;
        item = f.first ∙ ap (λ (x : Policy). x ∷ policies_in (drop (be16 s 2) s)) (sym m.gives);
        is = body-to 0 (in_policy (oct s 0)) (0 + head_size s) t m.item f.left m.is;
      }

  pub policy-is : (r : Parts) → Heads s r → PolicyIs s r
  policy-is r x = record {
    head = x;
    wide = λ z.
        let f = wide-first (sym x.first ∙ z) in
        record {
          item = subst (λ (n : ℕ). policies_in s ≡ group_wide_of (attributes_in place.GroupWidePolicy (part s r.body n)) ∷ policies_in
              (drop n s)) (sym x.end)
              (subst (λ (n : ℕ). policies_in s ≡ group_wide_of (attributes_in place.GroupWidePolicy (part s n (be16 s 2))) ∷ policies_in (drop
              (be16 s 2) s)) (sym x.body) f.0);
          held = subst (λ (n : ℕ). is_whole (attributes place.GroupWidePolicy 0 (part s r.body n)) ≡ true) (sym x.end)
              (subst (λ (n : ℕ). is_whole (attributes place.GroupWidePolicy 0 (part s n (be16 s 2))) ≡ true) (sym x.body) f.1);
        };
    sa = λ z.
        let f = sa-first (λ y. z (x.first ∙ y)) in
        record {
          body = f.content;
          item = subst (λ (n : ℕ). policies_in s ≡ group_sa_of s f.content ∷ policies_in (drop n s)) (sym x.end) f.item;
          is = subst (λ (n : ℕ). IsSaBody (in_policy n) (part s r.body r.end) f.content) (sym x.first)
              (subst (λ (n : ℕ). IsSaBody (in_policy (oct s 0)) (part s r.body n) f.content) (sym x.end)
              (subst (λ (n : ℕ). IsSaBody (in_policy (oct s 0)) (part s n (be16 s 2)) f.content) (sym x.body) f.is));
        };
    rest = subst (λ (n : ℕ). is_whole (policies 0 (drop n s)) ≡ true) (sym x.end) (head_of s e h).rest;
  }
