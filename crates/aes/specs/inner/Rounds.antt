-- The rounds over a state of four words, a word for each column, as the code does them.
use Rattle.std.specs.Prelude.{ℕ, zero, suc, ◌+◌, ◌*◌, ◌/◌, ◌%◌, ◌-◌, List, ◌++◌, get_or}
use Rattle.std.specs.Int.Bits.{bit_xor}
use Rattle.aes.specs.declared.AesState.{AesState}
use Rattle.aes.specs.declared.Pair.{Pair}
use Rattle.aes.specs.inner.Word.{word_octets, word_of, column_of, last_column_of}

-- the 16 octets of a state
abbrev pub state_octets : AesState → List ℕ
state_octets s = word_octets s.a ++ (word_octets s.b ++ (word_octets s.c ++ word_octets s.d))

-- the state of 16 octets
unfoldable pub load_of : List ℕ → AesState
load_of s =
    record {
      a = word_of (get_or s 0 0) (get_or s 1 0) (get_or s 2 0) (get_or s 3 0);
      b = word_of (get_or s 4 0) (get_or s 5 0) (get_or s 6 0) (get_or s 7 0);
      c = word_of (get_or s 8 0) (get_or s 9 0) (get_or s 10 0) (get_or s 11 0);
      d = word_of (get_or s 12 0) (get_or s 13 0) (get_or s 14 0) (get_or s 15 0);
    }

-- the state of a block given as two numbers of 64 bits
unfoldable pub split_of : ℕ → ℕ → AesState
split_of hi lo =
    record { a = hi / 4294967296 % 4294967296; b = hi % 4294967296; c = lo / 4294967296 % 4294967296; d = lo % 4294967296 }

-- a state as two numbers of 64 bits
unfoldable pub unite_of : AesState → Pair
unite_of s =
    record {
      hi = s.a % 4294967296 * 4294967296 + s.b % 4294967296;
      lo = s.c % 4294967296 * 4294967296 + s.d % 4294967296;
    }

-- the columns counted the other way round: 0, 3, 2, 1
abbrev pub swapped_of : AesState → AesState
swapped_of s = record { a = s.a; b = s.d; c = s.c; d = s.b }

-- round key r of the words k
abbrev pub round_key_of : List ℕ → ℕ → AesState
round_key_of k r = record { a = get_or k (4 * r) 0; b = get_or k (4 * r + 1) 0; c = get_or k (4 * r + 2) 0; d = get_or k (4 * r + 3) 0 }

-- the state with round key 0 added
unfoldable pub add_first_key : List ℕ → AesState → AesState
add_first_key k s =
    record {
      a = bit_xor s.a (get_or k 0 0);
      b = bit_xor s.b (get_or k 1 0);
      c = bit_xor s.c (get_or k 2 0);
      d = bit_xor s.d (get_or k 3 0);
    }

-- round r, with the combined table at the start of t
unfoldable pub round_of : List ℕ → List ℕ → ℕ → AesState → AesState
round_of t k r s =
    record {
      a = column_of t s.a s.b s.c s.d (get_or k (4 * r) 0);
      b = column_of t s.b s.c s.d s.a (get_or k (4 * r + 1) 0);
      c = column_of t s.c s.d s.a s.b (get_or k (4 * r + 2) 0);
      d = column_of t s.d s.a s.b s.c (get_or k (4 * r + 3) 0);
    }

-- the last round, r, with the substitution box in t from index 256 on
unfoldable pub last_round_of : List ℕ → List ℕ → ℕ → AesState → AesState
last_round_of t k r s =
    record {
      a = last_column_of t 256 s.a s.b s.c s.d (get_or k (4 * r) 0);
      b = last_column_of t 256 s.b s.c s.d s.a (get_or k (4 * r + 1) 0);
      c = last_column_of t 256 s.c s.d s.a s.b (get_or k (4 * r + 2) 0);
      d = last_column_of t 256 s.d s.a s.b s.c (get_or k (4 * r + 3) 0);
    }

-- rounds 1 to n
abbrev pub rounds_up_to : List ℕ → List ℕ → ℕ → AesState → AesState
rounds_up_to t k zero s = s
rounds_up_to t k (suc n) s = round_of t k (suc n) (rounds_up_to t k n s)

-- all rounds of the schedule k, as many as its word 60 says
unfoldable pub run_of : List ℕ → List ℕ → AesState → AesState
run_of t k s =
    let n : ℕ = get_or k 60 0 in
    last_round_of t k n (rounds_up_to t k (n - 1) (add_first_key k s))
