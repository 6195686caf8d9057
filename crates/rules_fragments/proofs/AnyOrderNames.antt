-- A piece that was sealed and handed in: it opens to itself, and says of itself what it was sealed with.
use native.Mathlib.Omega.{arith}
use Prim.Native.Nat.{ℕ, zero, suc, ◌-◌, ◌/◌, ◌<◌, ◌≤◌}
use mathlib.Core.Path.{◌≡◌, refl, ap, sym, ◌∙◌, subst}
use mathlib.Core.List.{List, [], ◌∷◌, ◌++◌, flat_map}
use lib.ListN.{length, take, get_or}
use lib.Seq.{length-take-le, take-append_seam, drop-append_seam, take-take, get_or-take}
use Rattle.octets.specs.Numbers.{oct}
use Rattle.octets.specs.Octets.{Octets}
use Rattle.octets.proofs.Numerals.{number-take}
use Rattle.octets.proofs.Octets.{no-octets, take-octets, drop-octets}
use Rattle.state_keys.specs.Limits.{Limits}
use Rattle.wire_frames.specs.Header.{Header, header_of, first_payload}
use Rattle.state.specs.declared.State.{State}
use Rattle.rfc5282.specs.Keys.{aes_key_of, salt_of}
use Rattle.rfc5282.specs.SealedFragment.{OpensFragment}
use Rattle.rfc5282.specs.Number10.{OpensFragmentInto}
use Rattle.rfc5282.specs.OuterFragment.{IsFragment, number_in, total_in, next_in}
use Rattle.rfc5282.proofs.PieceLaws.{fragment-next, fragment-number, fragment-total, fragment-spis, fragment-version, fragment-exchange}
use Rattle.rfc5282.proofs.PieceLaws.{fragment-flags, fragment-message, piece-one}
use Rattle.fragments.specs.Collection.{Lead}
use Rattle.fragments.specs.inner.FitWaiting.{FitNames}
use Rattle.fragments.proofs.AnyOrderLaws.{OneOf}
use Rattle.rules_sealed.specs.SealingKey.{sealing_part}
use Rattle.rules_fragments.specs.FragmentOutcome.{names_in}
use Rattle.rules_fragments.specs.AnyOrder.{RekeyFrame, CutOf, HandedIn, sealed_piece, FitHandedIn}
use Rattle.rules_fragments.proofs.AnyOrderSealed.{sealed-is-fragment}

-- the pieces of octets are octets
octets-parts : (p q : List ℕ) → Octets (p ++ q) → Octets p × Octets q
octets-parts p q o = (
  subst Octets (take-append_seam p q) (take-octets (length p) (p ++ q) o),
  subst Octets (drop-append_seam p q) (drop-octets (length p) (p ++ q) o),
)

piece-octets : (l : List (List ℕ)) → Octets (flat_map (λ (p : List ℕ). p) l) → (i : ℕ) → Octets (get_or l i [])
unfolding flat_map
piece-octets [] o i = no-octets
piece-octets (p ∷ l) o zero = (octets-parts p (flat_map (λ (q : List ℕ). q) l) o).0
piece-octets (p ∷ l) o (suc i) = piece-octets l (octets-parts p (flat_map (λ (q : List ℕ). q) l) o).1 i

-- what fragment 1 gives of a frame
abbrev pub lead_of : List ℕ → Lead
lead_of frame = record { version = oct frame 17; flags = oct frame 19; next = first_payload frame }

module _ (limits : Limits) (s : State) (frame : List ℕ) (pieces : List (List ℕ)) (r : RekeyFrame frame) (cut : CutOf frame pieces)
    (x : HandedIn) (fit : FitHandedIn limits s frame pieces x) where
  abbrev octets : List ℕ
  octets = sealed_piece limits s frame pieces x

  abbrev pub piece_of : List ℕ
  piece_of = get_or pieces (x.number - 1) []

  long : 28 ≤ length frame
  long = r.opened.header

  abbrev opens : OpensFragment (aes_key_of (sealing_part limits s)) (salt_of (sealing_part limits s)) octets piece_of
  opens =
      let a = fit.most in
      let b = cut.most in
      record {
        choice = x.choice;
        fit = fit.choice-fit;
        header = take 28 frame;
        header-size = length-take-le 28 frame long;
        header-small = take-octets 28 frame r.opened.small;
        next = x.next;
        next_small = fit.next_small;
        number = x.number;
        number-most = omega arith;
        total = length pieces;
        total-most = omega arith;
        piece-small =
            piece-octets pieces (subst Octets (sym cut.joined) (drop-octets 28 frame r.opened.small)) (x.number - 1);
        most = fit.short;
        seals = refl;
      }

  pub opens-into : OpensFragmentInto (sealing_part limits s) octets x.room piece_of
  opens-into = record { opens = opens; holds = fit.room-holds }

  -- to no other piece
  pub opens_one : (p : List ℕ) → OpensFragmentInto (sealing_part limits s) octets x.room p → piece_of ≡ p
  opens_one p h = piece-one (sealing_part limits s) octets piece_of p opens h.opens

  in-header : (i : ℕ) → i < 28 → oct (take 28 frame) i ≡ oct frame i
  in-header i g = get_or-take 28 frame i 0 g

  version-is : oct octets 17 ≡ oct frame 17
  version-is = fragment-version (sealing_part limits s) octets piece_of opens ∙ in-header 17 (omega arith)

  pub is-fragment : IsFragment octets
  is-fragment =
      sealed-is-fragment (sealing_part limits s) octets piece_of opens fit.least fit.most
      (ap (λ (n : ℕ). n / 16) (in-header 17 (omega arith)) ∙ r.version)

  -- the header is the frame's
  pub header_is : header_of octets ≡ header_of frame
  header_is =
      let a = fragment-spis (sealing_part limits s) octets piece_of opens ∙ take-take 16 28 frame (omega arith) in
      let b = fragment-exchange (sealing_part limits s) octets piece_of opens ∙ in-header 18 (omega arith) in
      let d = fragment-message (sealing_part limits s) octets piece_of opens ∙ number-take 4 20 28 frame (omega arith) in
      λ i. record { spi = a i; exchange = b i; message_id = d i }

  pub number_is : number_in octets ≡ x.number
  number_is = fragment-number (sealing_part limits s) octets piece_of opens

  pub total-is : total_in octets ≡ length pieces
  total-is = fragment-total (sealing_part limits s) octets piece_of opens

  lead_is : x.number ≡ 1 →
      ◌≡◌ {A = Lead} (record { version = oct octets 17; flags = oct octets 19; next = next_in octets }) (lead_of frame)
  lead_is e =
      let v = version-is in
      let f = fragment-flags (sealing_part limits s) octets piece_of opens ∙ in-header 19 (omega arith) in
      let n = fragment-next (sealing_part limits s) octets piece_of opens ∙ fit.first_next e in
      λ i. record { version = v i; flags = f i; next = n i }

  pub one_of : OneOf (header_of frame).spi (header_of frame).message_id (lead_of frame) pieces (names_in octets)
  one_of =
      let a = number_is in
      let b = fit.least in
      let d = fit.most in
      record {
        spis-are = ap (λ (h : Header). h.spi) header_is;
        id-is = ap (λ (h : Header). h.message_id) header_is;
        total-is = total-is;
        least = omega arith;
        most = omega arith;
        lead_is = λ e. lead_is (sym number_is ∙ e);
      }

  pub fit-names : FitNames (names_in octets)
  fit-names =
      let a = number_is in
      let t = total-is in
      let b = fit.least in
      let d = fit.most in
      let m = cut.most in
      record {
        least = omega arith;
        in-total = omega arith;
        total-most = omega arith;
        version = ap (λ (n : ℕ). n / 16) version-is ∙ r.version;
        spis-size = ap (λ (h : Header). length h.spi) header_is ∙ length-take-le 16 frame (omega (arith, long));
      }
