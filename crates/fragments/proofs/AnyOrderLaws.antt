-- IN ANY ORDER, over what waits: after fragments of one rekey, in any order and any of them any number of times, what waits is exactly the
-- pieces whose numbers came, rising; it is complete exactly when each came, and then the pieces are those of the whole.
use native.Mathlib.Omega.{arith}
use Prim.Native.Nat.{ℕ, suc, ◌+◌, ◌-◌, ◌≤◌}
use mathlib.Core.Path.{◌≡◌, refl, ap, sym, ◌∙◌}
use mathlib.Core.Bool.{Bool, true, false, cond}
use mathlib.Core.List.{List, [], ◌∷◌, flat_map}
use lib.Dec.{ltb, eqb}
use lib.ListN.{length, get_or}
use borrow.Author.Tests.{eqb-true, eqb-false, le-ltb, eq-eqb, ne_eqb}
use Rattle.ikev2_numbers.specs.Codes.{header_octets}
use Rattle.octets.proofs.Order.{eq-same}
use Rattle.lists.specs.Lists.{any, keep}
use Rattle.lists.proofs.Cases.{bool_cases}
use Rattle.fragments.specs.declared.Case.TheVariants.{Anew, PassedOver, Kept}
use Rattle.fragments.specs.declared.Names.{Names}
use Rattle.fragments.specs.Collection.{KeptPiece, Lead, Waiting, empty_lead, is_first, joined_pieces, frame_size}
use Rattle.fragments.specs.Gathering.{of_same_rekey, is_kept, case_of, lead_with, with_piece, gathered, is_complete}
use Rattle.fragments.proofs.AnyOrderPieces.{numbered_from, came, has_come, length-numbered, payloads-numbered, kept-came, put-came}
use Rattle.fragments.proofs.AnyOrderPieces.{each-kept, full-came, fewer-octets}

-- one frame's pieces, the SPIs and the Message ID of their rekey, and what fragment 1 gives beside its piece
module _ (spis : List ℕ) (id : ℕ) (lead : Lead) (pieces : List (List ℕ)) where
  -- what waits after the fragments with these numbers
  abbrev pub waiting_for : List ℕ → Waiting
  waiting_for c =
      record {
        spis = spis;
        id = id;
        total = length pieces;
        kept = keep (has_come c) (numbered_from 1 pieces);
        lead = cond (came c 1) lead empty_lead;
      }

  abbrev pub piece_at : ℕ → List ℕ
  piece_at i = get_or pieces (i - 1) []

  -- one of the fragments. Flags, version and next payload count of fragment 1 alone
  pub record OneOf (f : Names) : Type 0 where
    pub spis-are : f.spis ≡ spis
    pub id-is : f.id ≡ id
    pub total-is : f.total ≡ length pieces
    pub least : 1 ≤ f.number
    pub most : f.number ≤ length pieces
    pub lead_is : f.number ≡ 1 → ◌≡◌ {A = Lead} (record { version = f.version; flags = f.flags; next = f.next }) lead

  module _ (f : Names) (o : OneOf f) (c : List ℕ) where
    same-rekey : of_same_rekey (waiting_for c) f ≡ true
    same-rekey = rw (eq-same spis f.spis (sym o.spis-are)) (eq-eqb id f.id (sym o.id-is))

    kept-is : is_kept f.number (waiting_for c).kept ≡ came c f.number
    kept-is = let a = o.most in kept-came c f.number 1 pieces o.least (omega arith)

    -- a copy is passed over, and another is kept
    pub case-is : case_of (waiting_for c) f ≡ cond (came c f.number) PassedOver Kept
    unfolding case_of
    case-is =
        let a : ltb (length pieces) (length pieces) ≡ false = le-ltb (length pieces) (length pieces) (omega arith) in
        rw (same-rekey, o.total-is, a, kept-is)

    lead-with : lead_with (waiting_for c).lead f ≡ cond (came (f.number ∷ c) 1) lead empty_lead
    unfolding any
    lead-with =
        bool_cases (is_first f.number)
        (λ e. let n = eqb-true f.number 1 e in rw (e, eq-eqb 1 f.number (sym n)) (o.lead_is n))
        (λ e. let n = eqb-false f.number 1 e in rw (e, ne_eqb 1 f.number (λ g. n (sym g))))

    -- one more
    pub with-one : came c f.number ≡ false → with_piece (waiting_for c) f (piece_at f.number) ≡ waiting_for (f.number ∷ c)
    unfolding with_piece
    with-one e =
        let a = o.most in
        let k = put-came c f.number 1 pieces e o.least (omega arith) in
        let l = lead-with in
        λ i. record { spis = o.spis-are i; id = o.id-is i; total = o.total-is i; kept = k i; lead = l i }

    pub gathered-one : came c f.number ≡ false → gathered (waiting_for c) f (piece_at f.number) ≡ waiting_for (f.number ∷ c)
    gathered-one e = rw (case-is, e) (with-one e)

  -- none came yet
  none_kept : (i : ℕ) (l : List (List ℕ)) → keep (has_come []) (numbered_from i l) ≡ []
  unfolding numbered_from keep any
  none_kept i [] = refl
  none_kept i (p ∷ l) = none_kept (suc i) l

  module _ (f : Names) (o : OneOf f) (w : Waiting) where
    -- the first, where nothing waits or what waits is of another rekey
    pub gathered-first : case_of w f ≡ Anew → gathered w f (piece_at f.number) ≡ waiting_for (f.number ∷ [])
    unfolding with_piece any
    gathered-first e = rw e (rw (none_kept 1 pieces) at (with-one f o [] refl))

  -- a copy changes nothing
  came-again : (c : List ℕ) (i : ℕ) → came c i ≡ true → (k : ℕ) → came (i ∷ c) k ≡ came c k
  unfolding any
  came-again c i e k = bool_cases (eqb k i) (λ g. let h = eqb-true k i g in rw (g, h) (sym e)) (λ g. rw g)

  pub waiting-again : (c : List ℕ) (i : ℕ) → came c i ≡ true → waiting_for (i ∷ c) ≡ waiting_for c
  waiting-again c i e =
      let k = came-again c i e in
      ap (λ (h : ℕ → Bool).
      record {
        spis = spis;
        id = id;
        total = length pieces;
        kept = keep (λ (x : KeptPiece). h x.number) (numbered_from 1 pieces);
        lead = cond (h 1) lead empty_lead;
      }) (λ j x. k x j)

  -- ---- when it is complete
  abbrev pub EachCame : List ℕ → Type 0
  EachCame c = (i : ℕ) → 1 ≤ i → i ≤ length pieces → came c i ≡ true

  module _ (c : List ℕ) where
    pub complete-each : is_complete (waiting_for c) ≡ true → EachCame c
    complete-each e i h g =
        full-came c 1 pieces (eqb-true (length (waiting_for c).kept) (length pieces) e) i h (omega arith)

    all-kept : EachCame c → (waiting_for c).kept ≡ numbered_from 1 pieces
    all-kept h = each-kept c 1 pieces (λ i f g. h i f (omega arith))

    pub each-complete : EachCame c → is_complete (waiting_for c) ≡ true
    each-complete h =
        eq-eqb (length (waiting_for c).kept) (length pieces) (ap length (all-kept h) ∙ length-numbered 1 pieces)

    -- then the pieces are those of the whole, in their order
    pub each-payloads : EachCame c → joined_pieces (waiting_for c).kept ≡ flat_map (λ (p : List ℕ). p) pieces
    each-payloads h = ap joined_pieces (all-kept h) ∙ payloads-numbered 1 pieces

    -- so far there are no more octets than in the whole
    pub waiting-octets : frame_size (waiting_for c).kept ≤ header_octets + length (flat_map (λ (p : List ℕ). p) pieces)
    waiting-octets =
        let a = fewer-octets (has_come c) (numbered_from 1 pieces) in
        let b = ap length (payloads-numbered 1 pieces) in
        omega arith
