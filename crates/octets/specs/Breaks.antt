-- WHERE OCTETS BREAK, defined without the readers. Document 02, T-06: "Number 1 carries the offset of the innermost payload, policy, bag,
-- selector, transform or attribute whose layout broke first, or 0 for the header .. Each is judged by its own fields, then by what it
-- holds, then comes the next; one cut short has begun; what is missing or left over counts for its holder". In these definitions b is the
-- offset in the frame of the first octet looked at, and o is the offset that number 1 carries. Each level of the layout gives the faults of
-- its own fields.
use Rattle.std.specs.Prelude.{ℕ, ◌+◌, ◌<◌, ◌≡◌, List, ◌++◌, Bool, false, length}
use Rattle.octets.specs.Walk.{be16}

-- "Each is judged by its own fields, then by what it holds": a structure at offset b breaks at b if its own fields have a fault. If they
-- have none, it breaks where something inside it breaks
pub data BreaksStructure (Fault Inside : Type 0) (b o : ℕ) : Type 0 where
  own : Fault → o ≡ b → BreaksStructure Fault Inside b o
  inside : (Fault → ⊥) → Inside → BreaksStructure Fault Inside b o

-- "one cut short has begun; what is missing .. counts for its holder": a structure must stand at the start of s, in a holder at offset h.
-- If s is empty, the structure is missing and the break is at h. Otherwise it has begun, and the break is its own
pub data BreaksDue (h : ℕ) (s : List ℕ) (Breaks : Type 0) (o : ℕ) : Type 0 where
  missing : length s ≡ 0 → o ≡ h → BreaksDue h s Breaks o
  has-begun : 0 < length s → Breaks → BreaksDue h s Breaks o

-- "then comes the next", of items in a chain: the first breaks, or it is whole and one after it breaks
pub data BreaksInChain {S A : Type 0} (stop : S → List ℕ → Bool) (Is : S → List ℕ → A → S → Type 0) (Breaks : S → ℕ → List ℕ → ℕ → Type 0)
    : S → ℕ → List ℕ → ℕ → Type 0 where
  here : {st : S} {b : ℕ} {s : List ℕ} {o : ℕ} → stop st s ≡ false → Breaks st b s o → BreaksInChain stop Is Breaks st b s o
  later : {st st' : S} {b : ℕ} (front s : List ℕ) {a : A} {o : ℕ} → stop st (front ++ s) ≡ false → Is st front a st'
      → BreaksInChain stop Is Breaks st' (b + length front) s o → BreaksInChain stop Is Breaks st b (front ++ s) o

-- the same for items that fill the octets to the end: as long as octets are left, the next item has begun
pub data BreaksInRow {A : Type 0} (Is : List ℕ → A → Type 0) (Breaks : ℕ → List ℕ → ℕ → Type 0) : ℕ → List ℕ → ℕ → Type 0 where
  first : {b : ℕ} {s : List ℕ} {o : ℕ} → 0 < length s → Breaks b s o → BreaksInRow Is Breaks b s o
  next : {b : ℕ} (front s : List ℕ) {a : A} {o : ℕ} → Is front a → BreaksInRow Is Breaks (b + length front) s o
      → BreaksInRow Is Breaks b (front ++ s) o

-- the faults of a structure of at least k octets with its length in octets 2 and 3: it is cut short, its length is too small for its own
-- fields, or its length runs past the end of its holder
pub data FaultOfLength (k : ℕ) (s : List ℕ) : Type 0 where
  cut : length s < k → FaultOfLength k s
  too_small : be16 s 2 < k → FaultOfLength k s
  runs_past : length s < be16 s 2 → FaultOfLength k s
