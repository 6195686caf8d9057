-- The answer to a fragment: from what the code finds to the fragment's outcome, and that the outcome is one.
use Prim.Native.Nat.{ℕ, ◌-◌, ◌<◌, ◌≤◌}
use native.Mathlib.Omega.{arith}
use mathlib.Core.Path.{◌≡◌, refl, sym, ap, ap₂, ◌∙◌, subst}
use mathlib.Core.Bool.{true, false, false≢true}
use mathlib.Core.Logic.{inl, inr}
use mathlib.Core.List.{List, [], ◌++◌, append-nil}
use lib.ListN.{length, take, drop, replicate, length-append}
use lib.Seq.{length-take-le, take-append_seam}
use Rattle.octets.specs.Numbers.{oct}
use Rattle.octets.specs.Octets.{Octets}
use Rattle.octets.specs.Walk.{be32}
use Rattle.ikev2_numbers.specs.Codes.{flags_at, header_octets, message_id_at, most_octets, version_at}
use Rattle.state_keys.specs.Limits.{limits}
use Rattle.state_keys.specs.declared.kinds.EncryptionKey.{EncryptionKey}
use Rattle.lists.proofs.Parts.{copied}
use Rattle.wire_frames.specs.Header.{header_of}
use Rattle.rules_refusals.specs.Refusals.{applies, number3}
use Rattle.rfc5282.specs.Keys.{aes_key_of, salt_of}
use Rattle.rfc5282.specs.SealedFragment.{OpensFragment}
use Rattle.rfc5282.specs.OuterFragment.{IsFragment, outer_fragment, number_in, total_in}
use Rattle.rfc5282.specs.Number10.{UnopenedFragment, OpensFragmentInto}
use Rattle.rfc5282.proofs.FragmentLaws.{fragment-relates, relates-fragment}
use Rattle.rfc5282.proofs.Number10Laws.{unopened-fragment-none}
use Rattle.rfc5282.proofs.PieceLaws.{piece-one}
use Rattle.gcm.specs.Opening.{put_at_start}
use Rattle.fragments.specs.declared.Case.TheVariants.{PassedOver}
use Rattle.fragments.specs.declared.Names.{Names}
use Rattle.fragments.specs.declared.Collection.{Collection}
use Rattle.fragments.specs.Collection.{Waiting, most_fragments, frame_size, collection_of, empty_collection, counted}
use Rattle.fragments.specs.Gathering.{case_of, gathered, is_complete, whole}
use Rattle.fragments.specs.inner.Writing.{WholeWritten}
use Rattle.sealing.specs.Pieces.{PieceInto}
use Rattle.rules_sealed.specs.SealingKey.{sealing_part, encryption_octets_of}
use Rattle.rules_sealed.specs.SealedOutcome.{sealed_number2}
use Rattle.rules_fragments.specs.FragmentOutcome.{names_in, Turn, OfPiece, FirstTurn, judging_rows}
use Rattle.rules_fragments.specs.FragmentOutcome.{FragmentOutcome, complete, is-refused, is-passed-over, is-waiting, is-complete}
use Rattle.gikev2.specs.declared.Member.{Member}
use Rattle.gikev2.specs.declared.call.Answer.{Answer}
use Rattle.gikev2.specs.declared.call.Answer.TheVariants as answer
use Rattle.gikev2.specs.declared.fragment.FragmentAnswer.{FragmentAnswer}
use Rattle.gikev2.specs.declared.fragment.FragmentAnswer.TheVariants as said
use Rattle.gikev2.specs.declared.fragment.Gathered.{Gathered}
use Rattle.gikev2.specs.Receive.{number_of, Receives}
use Rattle.gikev2.specs.ReceiveFragment.{fragment_said, ReceivesFragment}
use Rattle.gikev2.specs.inner.Sealing.{IsSealingKey}
use Rattle.gikev2.specs.inner.Gathering.{refused_by, PassedOutside, ReceivedWhole}
use Rattle.gikev2.proofs.SealedLaws.{not_so, key-part}

-- ---- what a fragment says of itself
names-spis : (s : List ℕ) → 36 ≤ length s → {x : List ℕ} →
    x ≡ take (length (take 16 s)) (take 16 s) ++ drop (length (take 16 s)) (replicate 16 0) → x ≡ take 16 s
names-spis s l {x} e =
    let n : length (take 16 s) ≡ 16 = length-take-le 16 s (omega (arith, l)) in
    copied 16 (take 16 s) x e ∙ ap (λ (k : ℕ). take 16 s ++ replicate (16 - k) 0) n ∙ append-nil (take 16 s)

pub names-made : (s : List ℕ) → 36 ≤ length s → {x : List ℕ} →
    x ≡ take (length (take 16 s)) (take 16 s) ++ drop (length (take 16 s)) (replicate 16 0) → {i n t : ℕ} → i ≡ be32 s message_id_at →
    n ≡ number_in s → t ≡ total_in s →
    ◌≡◌ {A = Names} (record {
      spis = x;
      id = i;
      number = n;
      total = t;
      version = oct s version_at;
      flags = oct s flags_at;
      next = oct s header_octets;
    }) (names_in s)
names-made s l e ei en et =
    let es = names-spis s l e in
    λ k. record {
      spis = es k;
      id = ei k;
      number = en k;
      total = et k;
      version = oct s version_at;
      flags = oct s flags_at;
      next = oct s header_octets;
    }

-- ---- the key and the piece
pub opens-piece : (m : Member) (k : EncryptionKey) (s room : List ℕ) (p : ℕ) → IsSealingKey m.state.table k →
    (x : PieceInto (encryption_octets_of k) s room p) → OpensFragmentInto (sealing_part limits m.state) s room x.of.piece
opens-piece m k s room p i x =
    record {
      opens = subst (λ (y : List ℕ). OpensFragment (aes_key_of y) (salt_of y) s x.of.piece) (key-part m k i) x.of.opens;
      holds = x.holds;
    }

-- what was written of a piece is the piece
pub piece_cut : (piece : List ℕ) (p : ℕ) → length piece ≡ p → (after out : List ℕ) → after ≡ put_at_start piece out →
    take (p - 0) (drop 0 after) ≡ piece
piece_cut piece p e after out w =
    let k : p - 0 ≡ p = omega arith in
    ap₂ take (k ∙ sym e) w ∙ take-append_seam piece (drop (length piece) out)

-- ---- the whole frame
module _ (m : Member) (now : ℕ) (w : Waiting) (room : List ℕ) (n : ℕ) (after : List ℕ) (e : WholeWritten w room n after) where
  pub whole-within : n ≤ length after
  whole-within =
      let l = ap length e.room-is ∙ length-append (whole w) (drop (length (whole w)) room) in omega (arith, l, e.count-is)

  pub whole-answered : (a : Answer) (g : Gathered) → Receives m now [] (take (n - 0) (drop 0 after)) a g.member →
      g.answer ≡ said.Complete a → g.collection ≡ empty_collection → ReceivedWhole m now w room g after
  whole-answered a g r s z =
      let k : n - 0 ≡ n = omega arith in
      let t : take (n - 0) (drop 0 after) ≡ whole w =
      ap₂ take (k ∙ e.count-is) e.room-is ∙ take-append_seam (whole w) (drop (length (whole w)) room) in
      let v = subst (λ (y : List ℕ). Receives m now [] y a g.member) t r in
      record { answer = a; says = s; outcome = v.outcome; offset = v.offset; emptied = z; room-is = e.room-is }

module _ (m : Member) (c : Collection) (now : ℕ) (octets room : List ℕ) where
  abbrev pub Given : Gathered → List ℕ → Type 0
  Given g after = ReceivesFragment m c now octets room g.answer g.member g.collection after

  -- ---- the rows of the judging order, one by one
  abbrev Turns : Turn → Type 0
  Turns t = FirstTurn (judging_rows limits m.state now c octets room) t

  pub not-fragment : outer_fragment octets ≡ false → Given (refused_by (answer.BrokenLayout 0) m c) room
  not-fragment e = is-refused 1 (inl (λ i. false≢true (sym e ∙ relates-fragment octets i), refl))

  module _ (o : Octets octets) (e : outer_fragment octets ≡ true) where
    is-fragment : (IsFragment octets → ⊥) → ⊥
    is-fragment k = k (fragment-relates octets o e)

    pub not-for : applies (sealed_number2 limits m.state now (header_of octets)) ≡ true → Given (refused_by answer.NotForMember m c) room
    not-for a = is-refused 2 (inr (is-fragment, inl (a, refl)))

  module _ (o : Octets octets) (u : PassedOutside m now octets) where
    past-1 : (IsFragment octets → ⊥) → ⊥
    past-1 = is-fragment o u.fragment

    pub unopened : UnopenedFragment (sealing_part limits m.state) octets room → Given (refused_by answer.Unopened m c) room
    unopened x = is-refused 10 (inr (past-1, inr (not_so u.not-2, inl (x, refl))))

    module _ (piece : List ℕ) (h : OpensFragmentInto (sealing_part limits m.state) octets room piece) where
      past-10 : UnopenedFragment (sealing_part limits m.state) octets room → ⊥
      past-10 x = unopened-fragment-none (sealing_part limits m.state) octets room x piece h

      pub replayed : applies (number3 m.state (header_of octets).exchange (header_of octets).message_id) ≡ true →
          Given (refused_by answer.Replayed m c) room
      replayed a = is-refused 3 (inr (past-1, inr (not_so u.not-2, inr (past-10, inl (a, refl)))))

      module _ (not-3 : applies (number3 m.state (header_of octets).exchange (header_of octets).message_id) ≡ false) where
        pub too_many : most_fragments < total_in octets → Given (refused_by answer.OverLimit m c) room
        too_many l = is-refused 7 (inr (past-1, inr (not_so u.not-2, inr (past-10, inr (not_so not-3, inl (l, refl))))))

        module _ (few : total_in octets ≤ most_fragments) where
          past-7 : most_fragments < total_in octets → ⊥
          past-7 l = omega (arith, l, few)

          pub passed : case_of (counted c) (names_in octets) ≡ PassedOver →
              Given (record { answer = said.PassedOver; member = m; collection = c }) room
          passed a =
              is-passed-over
              (inr (past-1, inr (not_so u.not-2, inr (past-10, inr (not_so not-3, inr (past-7, inl (a, refl)))))))

          module _ (over : case_of (counted c) (names_in octets) ≡ PassedOver → ⊥) where
            -- what is behind "passed over" in the judging order
            behind : {t : Turn} → FirstTurn (drop 6 (judging_rows limits m.state now c octets room)) t → Turns t
            behind x = inr (past-1, inr (not_so u.not-2, inr (past-10, inr (not_so not-3, inr (past-7, inr (over, x))))))

            -- what waits with the piece
            abbrev together : List ℕ → Waiting
            together x = gathered (counted c) (names_in octets) x

            -- of two pieces that the fragment opens to, the second is the first
            same-piece : (P : List ℕ → Type 0) → OfPiece limits m.state now c octets room P → P piece
            same-piece P x =
                subst P (piece-one (sealing_part limits m.state) octets x.piece piece x.opens.opens h.opens) x.meets

            abbrev Long : List ℕ → Type 0
            Long x = most_octets < frame_size (together x).kept

            abbrev Lacks : List ℕ → Type 0
            Lacks x = is_complete (together x) ≡ false

            pub too_long : Long piece → Given (refused_by answer.OverLimit m c) room
            too_long l = is-refused 7 (behind (inl (record { piece = piece; opens = h; meets = l }, refl)))

            module _ (fits : frame_size (together piece).kept ≤ most_octets) where
              not-long : OfPiece limits m.state now c octets room Long → ⊥
              not-long x = let l = same-piece Long x in omega (arith, l, fits)

              pub kept : is_complete (together piece) ≡ false →
                  Given (record { answer = said.Waiting; member = m; collection = collection_of (together piece) }) room
              kept e = is-waiting piece (behind (inr (not-long, inl (record { piece = piece; opens = h; meets = e }, refl)))) h

              pub received-whole : is_complete (together piece) ≡ true → (g : Gathered) (after : List ℕ) →
                  ReceivedWhole m now (together piece) room g after → Given g after
              received-whole e g after r =
                  let lacks : OfPiece limits m.state now c octets room Lacks → ⊥ =
                  λ x. false≢true (sym (same-piece Lacks x) ∙ e) in
                  let t = behind (inr (not-long, inr (lacks, inl (record { piece = piece; opens = h; meets = e }, refl)))) in
                  let w = together piece in
                  let o = subst (λ (z : ℕ). FragmentOutcome limits m.state now c octets room (complete (number_of r.answer) z)
                  g.member.state empty_collection (put_at_start (whole w) room)) (sym r.offset) (is-complete piece t h r.outcome) in
                  let s = subst (λ (z : FragmentAnswer). FragmentOutcome limits m.state now c octets room (fragment_said z)
                  g.member.state empty_collection (put_at_start (whole w) room)) (sym r.says) o in
                  let d = subst (λ (z : Collection). FragmentOutcome limits m.state now c octets room (fragment_said g.answer)
                  g.member.state z (put_at_start (whole w) room)) (sym r.emptied) s in
                  subst (λ (z : List ℕ). FragmentOutcome limits m.state now c octets room (fragment_said g.answer) g.member.state
                  g.collection z) (sym r.room-is) d
