-- What the answers of the readers say of a header and of a generic payload header.
use Prim.Native.Nat.{ℕ}
use mathlib.Core.Path.{◌≡◌, refl, ap}
use mathlib.Core.List.{List}
use mathlib.Core.Bool.{Bool, true, false, cond}
use Rattle.octets.specs.Walk.{be16}
use Rattle.wire_frames.specs.Header.{header_fits, payload_fits}
use Rattle.wire_frames.specs.inner.Answers.{fields_of, payload_fields, header_read, payload_read}
use Rattle.wire_frames.specs.declared.IkeHeader.{IkeHeader}
use Rattle.wire_frames.specs.declared.PayloadHeader.{PayloadHeader}
use Rattle.std.specs.Prelude.{Some, None}

-- THE HEADER
pub header_is : (s : List ℕ) (h : IkeHeader) → Some h ≡ header_read s → (header_fits s ≡ true) × (h ≡ fields_of s)
header_is s h = go (header_fits s) refl
  where
    go : (t : Bool) → header_fits s ≡ t → Some h ≡ cond t (Some (fields_of s)) None → (header_fits s ≡ true) × (h ≡ fields_of s)
    go true e q = (e, cc)
    go false e q = cc

pub header-not : (s : List ℕ) → None ≡ header_read s → header_fits s ≡ false
header-not s = go (header_fits s) refl
  where
    go : (t : Bool) → header_fits s ≡ t → None ≡ cond t (Some (fields_of s)) None → header_fits s ≡ false
    go true e q = cc
    go false e q = e

-- THE GENERIC PAYLOAD HEADER
pub payload-is : (s : List ℕ) (h : PayloadHeader) → Some h ≡ payload_read s → (payload_fits s ≡ true) × (h.end ≡ be16 s 2)
payload-is s h = go (payload_fits s) refl
  where
    go : (t : Bool) → payload_fits s ≡ t → Some h ≡ cond t (Some (payload_fields s)) None → (payload_fits s ≡ true) × (h.end ≡ be16 s 2)
    go true e q = let u : h ≡ payload_fields s = cc in (e, ap (λ (x : PayloadHeader). x.end) u)
    go false e q = cc

pub payload-not : (s : List ℕ) → None ≡ payload_read s → payload_fits s ≡ false
payload-not s = go (payload_fits s) refl
  where
    go : (t : Bool) → payload_fits s ≡ t → None ≡ cond t (Some (payload_fields s)) None → payload_fits s ≡ false
    go true e q = cc
    go false e q = e
