-- The key that a path starts from, of those that copies name: the loop over their Key IDs.
use native.Mathlib.Omega.{arith}
use Prim.Native.Nat.{ℕ, ◌+◌, ◌≤◌, ◌<◌}
use mathlib.Core.Path.{◌≡◌, refl, sym, subst}
use mathlib.Core.Logic.{inl, inr, ⊎_elim}
use mathlib.Core.List.{List}
use borrow.Author.Count.{below_more}
use Rattle.octets.specs.Numbers.{oct}
use Rattle.unwrap_paths.specs.declared.nearest.Nearest.{Nearest}
use Rattle.unwrap_paths.specs.inner.Code.{HasLevel}
use Rattle.unwrap_paths.specs.inner.Nearest.{NotBehind, NearerOf, Before, NearestOf}

not_behind : (r a : Nearest) (k l : ℕ) → NotBehind r a.kwk a.level → NotBehind a k l → NotBehind r k l
not_behind r a k l (inl g) (inl h) = inl (omega arith)
not_behind r a k l (inl g) (inr h) = let e = h.0 in inl (omega arith)
not_behind r a k l (inr g) (inl h) = let e = g.0 in inl (omega arith)
not_behind r a k l (inr g) (inr h) =
    let e = g.0 in
    let f = h.0 in
    let x = g.1 in
    let y = h.1 in
    let u : r.level ≡ l = omega arith in
    let v : r.kwk ≤ k = omega arith in inr (u, v)

-- ---- the loop
module _ (n : ℕ) (ids levels kwks : List ℕ) where
  pub nearest-first : (k level : ℕ) → k ≡ oct kwks 0 → HasLevel n ids levels k level →
      NearestOf n ids levels 1 kwks (record { kwk = k; level = level })
  nearest-first k level e h =
      record {
        place = 0;
        inside = omega arith;
        is = sym e;
        has = h;
        before = below_more (λ i. Before n ids levels (record { kwk = k; level = level }) (oct kwks i)) 0 (λ i g. absurd (omega arith))
            (subst (Before n ids levels (record { kwk = k; level = level })) e
            (record { level = level; has = h; order = inr (refl, omega arith) }));
      }

  pub nearest-next : (m : ℕ) (a r : Nearest) (k level : ℕ) → k ≡ oct kwks m →
      HasLevel n ids levels k level → NearerOf a k level r → NearestOf n ids levels m kwks a →
      NearestOf n ids levels (m + 1) kwks r
  nearest-next m a r k level e h w b =
      let before : (i : ℕ) → i < m + 1 → Before n ids levels r (oct kwks i) =
      below_more (λ i. Before n ids levels r (oct kwks i)) m
      (λ i g.
      let o = b.before i g in
      record { level = o.level; has = o.has; order = not_behind r a (oct kwks i) o.level w.first o.order })
      (subst (Before n ids levels r) e (record { level = level; has = h; order = w.second })) in
      ⊎_elim
      (λ q.
      let z = b.inside in
      subst (NearestOf n ids levels (m + 1) kwks) (sym q)
      (record {
        place = b.place;
        inside = omega arith;
        is = b.is;
        has = b.has;
        before = subst (λ (s : Nearest). (i : ℕ) → i < m + 1 → Before n ids levels s (oct kwks i)) q before;
      }))
      (λ q.
      subst (NearestOf n ids levels (m + 1) kwks) (sym q)
      (record {
        place = m;
        inside = omega arith;
        is = sym e;
        has = h;
        before = subst (λ (s : Nearest). (i : ℕ) → i < m + 1 → Before n ids levels s (oct kwks i)) q before;
      }))
      w.one
