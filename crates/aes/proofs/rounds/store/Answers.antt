use mathlib.Core.List.{[], ◌∷◌}
use lib.ListN.{get_or}
use Rattle.aes.proofs.rounds.store.Goals as goal

-- `aes::rounds::store` meets its contract.

pub returns : goal.returns
returns c =
    let a = c.apart-a.ensures in
    let b = c.apart-b.ensures in
    let d = c.apart-c.ensures in
    let e = c.apart-d.ensures in
    λ i. get_or (a i) 0 0 ∷ get_or (a i) 1 0 ∷ get_or (a i) 2 0 ∷ get_or (a i) 3 0
    ∷ get_or (b i) 0 0 ∷ get_or (b i) 1 0 ∷ get_or (b i) 2 0 ∷ get_or (b i) 3 0
    ∷ get_or (d i) 0 0 ∷ get_or (d i) 1 0 ∷ get_or (d i) 2 0 ∷ get_or (d i) 3 0
    ∷ get_or (e i) 0 0 ∷ get_or (e i) 1 0 ∷ get_or (e i) 2 0 ∷ get_or (e i) 3 0 ∷ []
