-- Walks over entries that opened, and their levels. Inner.
use Rattle.std.specs.Prelude.{ℕ, suc, ◌≤◌, ◌<◌, ◌≡◌, Bool, true, false, ◌⊎◌, List, [], ◌∷◌, length}

-- n entries: the Key ID and the KWK ID of each, whether it opened, and the Key IDs that chains start with
module _ (n : ℕ) (id kwk : ℕ → ℕ) (opened : ℕ → Bool) (is_root : ℕ → Bool) where
  -- a walk to key k by the entries at these places, the last one first
  pub data Walk : List ℕ → ℕ → Type 0 where
    starts : (k : ℕ) → is_root k ≡ true → Walk [] k
    goes : {p : List ℕ} {k : ℕ} (i : ℕ) → i < n → opened i ≡ true → id i ≡ k → Walk p (kwk i) → Walk (i ∷ p) k

  -- a walk of l entries ends with the one at i
  pub record WalkOf (i l : ℕ) : Type 0 where
    pub before : List ℕ
    pub walk : Walk (i ∷ before) (id i)
    pub is : suc (length before) ≡ l

  -- ---- the levels while the search goes on (0: none yet), and the entries whose key was tried on all others
  pub record Levelling (L : ℕ → ℕ) (S : ℕ → Bool) : Type 0 where
    pub sound : (i : ℕ) → i < n → 0 < L i → WalkOf i (L i)
    pub rooted : (i : ℕ) → i < n → opened i ≡ true → is_root (kwk i) ≡ true → L i ≡ 1
    pub tried : (j : ℕ) → j < n → S j ≡ true → 0 < L j
    pub spread : (j : ℕ) → j < n → S j ≡ true → (i : ℕ) → i < n → opened i ≡ true → kwk i ≡ id j → (0 < L i) × (L i ≤ suc (L j))
    pub ordered : (i j : ℕ) → i < n → j < n → S i ≡ true → S j ≡ false → 0 < L j → L i ≤ L j
    pub came : (i : ℕ) → i < n → 0 < L i → (L i ≡ 1) ⊎ ((j : ℕ) × (j < n) × (S j ≡ true) × (0 < L j) × (L i ≡ suc (L j)))

  -- the level l of the entry at i after the key of the one at j was tried on it
  pub data Next (L : ℕ → ℕ) (j i l : ℕ) : Type 0 where
    set : L i ≡ 0 → opened i ≡ true → kwk i ≡ id j → l ≡ suc (L j) → Next L j i l
    stays : (L i ≡ 0 → opened i ≡ true → kwk i ≡ id j → ⊥) → l ≡ L i → Next L j i l

  -- the entry at j is the lowest of those that were not tried yet
  pub record Lowest (L : ℕ → ℕ) (S : ℕ → Bool) (j : ℕ) : Type 0 where
    pub inside : j < n
    pub untried : S j ≡ false
    pub some : 0 < L j
    pub least : (i : ℕ) → i < n → S i ≡ false → 0 < L i → L j ≤ L i

  -- ---- at the end: the level of an entry is the length of the shortest walks that end with it
  pub record Levelled (L : ℕ → ℕ) : Type 0 where
    pub shortest : (i : ℕ) → i < n → 0 < L i → WalkOf i (L i)
    pub least : (i k : ℕ) (p : List ℕ) → Walk (i ∷ p) k → (0 < L i) × (L i ≤ suc (length p))

  -- THE PATH TO KEY k, read off the levels: back from k by the entry of the lowest level, the lowest KWK ID among these. `trail` are the
  -- KWK IDs that it goes by, so that its Key IDs are k and all of these but the last, which is the key it starts with
  pub data Best (L : ℕ → ℕ) : ℕ → ℕ → List ℕ → List ℕ → Type 0 where
    at-root : (k : ℕ) → is_root k ≡ true → Best L k 0 [] []
    back : {d : ℕ} {p t : List ℕ} {k : ℕ} (i : ℕ) → i < n → id i ≡ k → is_root k ≡ false → L i ≡ suc d → opened i ≡ true →
        ((j : ℕ) → j < n → id j ≡ k → 0 < L j → suc d ≤ L j) →
        ((j : ℕ) → j < n → id j ≡ k → L j ≡ suc d → kwk i ≤ kwk j) →
        Best L (kwk i) d p t → Best L k (suc d) (i ∷ p) (kwk i ∷ t)

  -- some path is read off to key k by d entries, those at the places p
  pub record ReadOff (L : ℕ → ℕ) (k d : ℕ) (p : List ℕ) : Type 0 where
    pub trail : List ℕ
    pub best : Best L k d p trail

-- the level of key k: 0 where chains start with it, else that of the lowest entry that gives it
pub record Distance (n : ℕ) (id : ℕ → ℕ) (is_root : ℕ → Bool) (L : ℕ → ℕ) (k d : ℕ) : Type 0 where
  pub root : d ≡ 0 → is_root k ≡ true
  pub not_root : 0 < d → is_root k ≡ false
  pub some : 0 < d → (j : ℕ) × (j < n) × (id j ≡ k) × (L j ≡ d)
  pub least : 0 < d → (j : ℕ) → j < n → id j ≡ k → 0 < L j → d ≤ L j
