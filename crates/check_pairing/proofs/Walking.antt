-- Going through the heads of a GSA's or KD's body.
use Prim.Native.Nat.{ℕ, ◌+◌, ◌<◌, ◌≤◌}
use mathlib.Core.Path.{◌≡◌, refl, ap, sym, ◌∙◌, subst}
use mathlib.Core.List.{List, [], ◌++◌}
use mathlib.Core.Bool.{true}
use native.Mathlib.Omega.{arith}
use lib.ListN.{length, drop, length-drop}
use lib.Seq.{drop-drop}
use Rattle.octets.specs.Walk.{be16, part}
use Rattle.octets.proofs.Walks.{tail, to_end}
use Rattle.wire_policies.specs.Policy.{head_fits}
use Rattle.wire_readers.specs.inner.Policies.{Heads}
use Rattle.wire_readers.specs.declared.policy.Parts.{Parts}
use Rattle.check_bagkeys.proofs.BagAt.{part-within}
use Rattle.check_pairing.specs.inner.Names.{Name, name_of, name_at, Names, no-more, next}

-- ---- the first head and the others
record First (s : List ℕ) (l : List Name) : Type 0 where
  fits : head_fits s ≡ true
  others : List Name
  rest : Names (drop (be16 s 2) s) others
  all : l ≡ name_at s ++ others

first_of : {s : List ℕ} {l : List Name} → Names s l → 0 < length s → First s l
first_of (no-more s e) h = absurd (omega arith)
first_of (next s {l} g f n) h = record { fits = f; others = l; rest = n; all = refl }

none_of : {s : List ℕ} {l : List Name} → Names s l → length s ≡ 0 → l ≡ []
none_of (no-more s e) h = refl
none_of (next s g f n) h = absurd (omega arith)

-- ---- where a pass stands at a place: the names that are left are to those of the whole as E has it
pub record Left (s : List ℕ) (at : ℕ) (E : List Name → List Name → Type 0) (l : List Name) : Type 0 where
  pub names : List Name
  pub are : Names (drop at s) names
  pub so : E l names

pub record Along (s : List ℕ) (at : ℕ) (E : List Name → List Name → Type 0) : Type 0 where
  pub inside : at ≤ length s
  pub left : (l : List Name) → Names s l → Left s at E l

-- a head at a place
pub record HeadAt (s : List ℕ) (at : ℕ) (r : Parts) : Type 0 where
  pub some : 4 ≤ r.body
  pub order : r.body ≤ r.end
  pub inside : at + r.end ≤ length s
  pub end : r.end ≡ be16 (drop at s) 2
  pub name : name_of r.first (part s (at + 4) (at + r.body)) ≡ name_at (drop at s)

pub head_at : (s : List ℕ) (at : ℕ) (r : Parts) → at < length s → Heads (tail s at) r → HeadAt s at r
head_at s at r h b =
    let c : Heads (drop at s) r = subst (λ (x : List ℕ). Heads x r) (to_end s at) b in
    record {
      some = c.some;
      order = c.order;
      inside = omega (arith, c.inside, length-drop at s);
      end = c.end;
      name = λ i. name_of (c.first i) ((sym (part-within s at 4 r.body) ∙ ap (part (drop at s) 4) c.body) i);
    }

module _ (s : List ℕ) (at : ℕ) (E : List Name → List Name → Type 0) (a : Along s at E) where
  pub along-end : length s ≤ at → (l : List Name) → Names s l → E l []
  along-end h l n =
      let f = a.left l n in
      subst (E l) (none_of f.are (rw length-drop (omega arith))) f.so

  module _ (h : at < length s) where
    some_left : 0 < length (drop at s)
    some_left = rw length-drop (omega arith)

    pub along-fits : (l : List Name) → Names s l → head_fits (tail s at) ≡ true
    along-fits l n =
        subst (λ (x : List ℕ). head_fits x ≡ true) (sym (to_end s at)) (first_of (a.left l n).are some_left).fits

    module _ (r : Parts) (q : HeadAt s at r) where
      -- what E has of the first name and the others
      pub along-first : (l : List Name) → Names s l → (m : List Name) × E l (name_at (drop at s) ++ m)
      along-first l n =
          let f = a.left l n in
          let g = first_of f.are some_left in
          (g.others, subst (E l) g.all f.so)

      pub along-next : (F : List Name → List Name → Type 0) → ((l m : List Name) → E l (name_at (drop at s) ++ m) → F l m) →
          Along s (at + r.end) F
      along-next F t = record {
        inside = q.inside;
        left = λ l n.
            let f = a.left l n in
            let g = first_of f.are some_left in
            record {
              names = g.others;
              are =
                  subst (λ (x : List ℕ). Names x g.others) (ap (λ (y : ℕ). drop y (drop at s)) (sym q.end) ∙ drop-drop r.end at s)
                  g.rest;
              so = t l g.others (subst (E l) g.all f.so);
            };
      }
