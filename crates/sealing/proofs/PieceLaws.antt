-- What is judged and written of a fragment is its piece.
use mathlib.Core.Path.{◌≡◌, sym, ap, ap₂, ◌∙◌}
use mathlib.Core.List.{List}
use Prim.Native.Nat.{ℕ, ◌+◌, ◌-◌, ◌≤◌}
use native.Mathlib.Omega.{arith}
use lib.ListN.{length, take, drop}
use Rattle.octets.specs.Octets.{Octets}
use Rattle.sp800_38d.specs.Decryption.{plaintext}
use Rattle.gcm.specs.Opening.{put_at_start}
use Rattle.rfc5282.specs.Keys.{aes_key_of, salt_of, nonce_for}
use Rattle.rfc5282.specs.SealedFragment.{OpensFragment}
use Rattle.rfc5282.specs.inner.Opened.{opened_payloads}
use Rattle.rfc5282.proofs.BodyLaws.{length-held}
use Rattle.rfc5282.proofs.FragmentLaws.{Fragment}
use Rattle.rfc5282.proofs.PieceLaws.{opens-fragment, fragment-long, piece_is, piece-one}
use Rattle.std.specs.Prelude.{Option, None, Some}
use Rattle.sealing.specs.Pieces.{PieceOf, PieceJudged}
use Rattle.sealing.specs.inner.Judging.{BodyJudged}

pub piece-judged : (part s : List ℕ) → Octets s → Fragment s → (r : Option ℕ) → BodyJudged 36 part s r
    → (room : List ℕ) → 16384 ≤ length room → PieceJudged part s room r
piece-judged part s o f None j room holds = j room
piece-judged part s o f (Some p) j room holds =
    record {
      of = record {
        piece = opened_payloads 36 part s p;
        opens = opens-fragment part s o f p j;
        count = length-held 36 part s p j o;
      };
      holds = holds;
    }

module _ (part s : List ℕ) (p : ℕ) (w : PieceOf part s p) where
  pub piece-within : 61 + p ≤ length s
  piece-within = omega (arith, fragment-long part s w.piece w.opens, w.count)

  pub piece-most : length s ≤ 16384
  piece-most = w.opens.most

  pub piece-put : (piece : List ℕ) → OpensFragment (aes_key_of part) (salt_of part) s piece → (out : List ℕ) {nonce after : List ℕ}
      → nonce ≡ nonce_for 36 part s → after ≡ put_at_start (plaintext (aes_key_of part) nonce (take (44 + p - 44) (drop 44 s))) out
      → after ≡ put_at_start piece out
  piece-put piece h out en e =
      e ∙ ap (λ (x : List ℕ). put_at_start x out)
      (ap₂ (λ (v : List ℕ) (n : ℕ). plaintext (aes_key_of part) v (take n (drop 44 s))) en size ∙ piece_is part s piece h)
    where
      size : 44 + p - 44 ≡ length piece
      size =
          let q : 44 + p - 44 ≡ p = omega arith in
          q ∙ sym w.count ∙ ap length (piece-one part s w.piece piece w.opens h)
