-- The theorems that docs/CLAIMS.md cites under "Document 02: T-03, the block cipher".
use Prim.Native.Nat.{ℕ}
use mathlib.Core.List.{List}
use mathlib.Core.Path.{◌≡◌}
use Rattle.fips197.specs.Cipher.{cipher, inv_cipher}
use Rattle.aes.proofs.Determined.{Words}
use Rattle.aes.specs.declared.AesState.{AesState}
use Rattle.aes.specs.inner.Rounds.{state_octets, run_of, swapped_of}
use Rattle.aes.specs.inner.Schedule.{Expands, ExpandsInverse}
use Rattle.aes.specs.inner.Tables.{encipher_tables, decipher_tables}
use Rattle.aes.proofs.Enciphering as ofEnciphering
use Rattle.aes.proofs.Deciphering as ofDeciphering
use Rattle.aes.proofs.Determined as ofDetermined

pub enciphered : {key t k : List ℕ} (e : t ≡ encipher_tables) (x : Expands key k) (s : AesState) →
    state_octets (run_of t k s) ≡ cipher key (state_octets s)
enciphered = ofEnciphering.enciphered

pub deciphered : {key t k : List ℕ} (e : t ≡ decipher_tables) (x : ExpandsInverse key k) (s : AesState) →
    state_octets (swapped_of (run_of t k (swapped_of s))) ≡ inv_cipher key (state_octets s)
deciphered = ofDeciphering.deciphered

pub expands-one : (s t : List ℕ) (small : Words s) (small' : Words t) (key : List ℕ) → Expands key s → Expands key t → s ≡ t
expands-one = ofDetermined.expands-one

pub expands-inverse-one : (s t : List ℕ) (small : Words s) (small' : Words t) (key : List ℕ) → ExpandsInverse key s → ExpandsInverse key t →
    s ≡ t
expands-inverse-one = ofDetermined.expands-inverse-one
