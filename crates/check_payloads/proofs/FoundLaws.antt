-- The facts of the payloads are what the frame's tree holds.
use Prim.Native.Nat.{ℕ, ◌+◌, ◌-◌, ◌≤◌}
use mathlib.Core.Path.{◌≡◌, refl, ap, sym, ◌∙◌, subst}
use mathlib.Core.List.{List, [], ◌∷◌, map}
use mathlib.Core.Bool.{Bool, true, false, cond, ◌||◌}
use native.Mathlib.Omega.{arith}
use lib.ListN.{length, drop}
use Rattle.octets.specs.Walk.{part, whole}
use Rattle.lists.specs.Lists.{any, count, keep}
use Rattle.wire_policies.specs.Policy.{policies}
use Rattle.wire_bags.specs.Bag.{bags}
use Rattle.wire_frames.specs.Header.{first_payload}
use Rattle.wire_frames.specs.Exchange.{reads_fresh}
use Rattle.wire_frames.specs.Grammar.{IsFrame}
use Rattle.wire_frames.specs.Plain.{plain_payload, plain_frame}
use Rattle.wire_frames.specs.Delete.{Delete}
use Rattle.wire_frames.specs.Frame.{Frame, Payload, frame}
use Rattle.wire_frames.proofs.FrameGrammar.{read-frame}
use Rattle.wire_frames.proofs.PlainLaws.{on-to-off}
use Rattle.wire_readers.specs.inner.Payloads.{payloads_in}
use Rattle.wire_readers.specs.inner.Values.{is_whole}
use Rattle.wire_readers.specs.inner.Policies.{policies_in}
use Rattle.wire_readers.specs.inner.Bags.{bags_in}
use Rattle.rules_refusals.specs.Contents.{has_gsa, has_kd, policies_of, bags_of, deletes_of, deleted_spis}
use Rattle.rules_refusals.specs.Number4.{unknown_critical, critical_unknown}
use Rattle.rules_refusals.specs.Number5.{delete_of_other, delete_of_none}
use Rattle.check_payloads.specs.inner.Places.{body_of}
use Rattle.check_payloads.specs.inner.Facts.{payloads_of, of_kind, payload_facts_of}
use Rattle.check_payloads.specs.inner.Deletion.{of_other, of_none, spis_in, DeletesFrom}
use Rattle.check_payloads.specs.declared.PayloadFacts.{PayloadFacts}
use Rattle.check_payloads.specs.declared.deletion.Deletes.{Deletes}
use Rattle.check_payloads.proofs.FrameLaws.{are-payloads, whole-payloads}
use Rattle.check_payloads.proofs.KindLaws.{FirstBody}
use Rattle.check_payloads.proofs.HeldLaws.{Formed, formed, count-gsa, count-kd, count-deletes, policies-held, bags-held}
use Rattle.check_payloads.proofs.HeldLaws.{gsa-whole, kd-whole}
use Rattle.check_payloads.proofs.DeletedLaws.{among-frame}
use Rattle.check_payloads.proofs.BodyLaws.{FirstOf, first-from, FirstDelete, deletes-from}

-- a stretch that holds all the policies, all the bags of a frame
pub record HoldsPolicies (o : List ℕ) (f : Frame) : Type 0 where
  pub all : policies_in o ≡ policies_of f
  pub held : is_whole (policies 0 o) ≡ true

pub record HoldsBags (fresh : Bool) (o : List ℕ) (f : Frame) : Type 0 where
  pub all : bags_in fresh o ≡ bags_of f
  pub held : is_whole (bags fresh 0 o) ≡ true

pub record IsDeletes (f : Frame) (r : Deletes) : Type 0 where
  pub other : r.other ≡ delete_of_other f
  pub none : r.none ≡ delete_of_none f
  pub spis : r.spis ≡ length (deleted_spis f)

pub record OfFrame (fresh : Bool) (s : List ℕ) (f : Frame) (r : PayloadFacts) : Type 0 where
  pub gsas : r.gsas ≡ count has_gsa f.payloads
  pub kds : r.kds ≡ count has_kd f.payloads
  pub deletes : r.deletes ≡ length (deletes_of f)
  pub critical : r.critical ≡ critical_unknown f
  pub gsa_order : r.gsa.start ≤ r.gsa.end
  pub gsa_inside : r.gsa.end ≤ length s
  pub kd_order : r.kd.start ≤ r.kd.end
  pub kd_inside : r.kd.end ≤ length s
  pub gsa_whole : is_whole (policies 0 (part s r.gsa.start r.gsa.end)) ≡ true
  pub kd_whole : is_whole (bags fresh 0 (part s r.kd.start r.kd.end)) ≡ true
  pub deletion : IsDeletes f r.deletion
  pub policies : r.gsas ≤ 1 → HoldsPolicies (part s r.gsa.start r.gsa.end) f
  pub bags : r.kds ≤ 1 → HoldsBags fresh (part s r.kd.start r.kd.end) f
  pub delete : (length (deletes_of f) ≡ 0 → ⊥) → FirstDelete s (deletes_of f) r.delete

-- a payload's kind and critical bit are the same without its fresh keys
count-plain : (k : ℕ) (l : List Payload) → count (of_kind k) (map plain_payload l) ≡ count (of_kind k) l
unfolding count
count-plain k [] = refl
count-plain k (p ∷ l) = ap (λ (n : ℕ). cond (of_kind k p) (n + 1) n) (count-plain k l)

critical-plain : (l : List Payload) → any unknown_critical (map plain_payload l) ≡ any unknown_critical l
unfolding any
critical-plain [] = refl
critical-plain (p ∷ l) = ap (λ (b : Bool). unknown_critical p || b) (critical-plain l)

module _ (profile : Bool) (s : List ℕ) (f : Frame) (q : frame profile s ≡ whole f []) where
  -- whether fresh keys are read in the frame
  abbrev fresh : Bool
  fresh = reads_fresh profile f.header.exchange

  is : IsFrame profile s f
  is = read-frame profile s f [] q

  is_plain : IsFrame false s (plain_frame f)
  is_plain = on-to-off profile s f is

  same-list : payloads_of s ≡ map plain_payload f.payloads
  same-list = sym (are-payloads false s (plain_frame f) is_plain)

  all-formed : Formed fresh f.payloads
  all-formed = formed is.payloads

  long : 28 ≤ length s
  long = is.least

  first : (w : ℕ) → FirstOf fresh w s (payloads_in fresh (first_payload s) (drop 28 s)) (body_of w s)
  first w = first-from fresh w s (length s) (first_payload s) 28 long (omega arith) (whole-payloads profile s f is)

  in_frame : (k : ℕ) → FirstBody fresh k (part s (body_of k s).start (body_of k s).end) (keep (of_kind k) f.payloads)
  in_frame k =
      subst (λ (l : List Payload). FirstBody fresh k (part s (body_of k s).start (body_of k s).end) (keep (of_kind k) l))
      (sym (are-payloads profile s f is)) (first k).body

  counted : (k : ℕ) → count (of_kind k) (payloads_of s) ≡ count (of_kind k) f.payloads
  counted k = ap (count (of_kind k)) same-list ∙ count-plain k f.payloads

  first-delete : (length (deletes_of f) ≡ 0 → ⊥) → FirstDelete s (deletes_of f) (body_of 42 s)
  first-delete some =
      let e = among-frame profile s f q in
      let d = deletes-from s (length s) (first_payload s) 28 long (omega arith) (whole-payloads false s (plain_frame f) is_plain)
      (λ z. some (ap length (sym e) ∙ z)) in
      (d.0, subst (λ (l : List Delete). DeletesFrom s l ((body_of 42 s).start - 4)) e d.1)

  pub of-frame : OfFrame (reads_fresh profile f.header.exchange) s f (payload_facts_of s)
  unfolding critical_unknown delete_of_other delete_of_none
  of-frame =
      let e = among-frame profile s f q in
      record {
        gsas = counted 51 ∙ sym (count-gsa all-formed);
        kds = counted 52 ∙ sym (count-kd all-formed);
        deletes = counted 42 ∙ sym (count-deletes all-formed);
        critical = ap (any unknown_critical) same-list ∙ critical-plain f.payloads;
        gsa_order = (first 51).order;
        gsa_inside = (first 51).inside;
        kd_order = (first 52).order;
        kd_inside = (first 52).inside;
        gsa_whole = gsa-whole _ (first 51).body;
        kd_whole = kd-whole fresh _ (first 52).body;
        deletion = record {
          other = ap (any of_other) e;
          none = ap (any of_none) e;
          spis = ap (λ (l : List Delete). length (spis_in l)) e;
        };
        policies = λ h.
            let p = policies-held all-formed _ (in_frame 51) (omega (arith, counted 51)) in
            record { all = p.1; held = p.0 };
        bags = λ h.
            let p = bags-held all-formed _ (in_frame 52) (omega (arith, counted 52)) in
            record { all = p.1; held = p.0 };
        delete = first-delete;
      }

-- of facts that equal them
pub facts-of : (profile : Bool) (s : List ℕ) (r : PayloadFacts) → r ≡ payload_facts_of s → (f : Frame) → frame profile s ≡ whole f []
    → OfFrame (reads_fresh profile f.header.exchange) s f r
facts-of profile s r e f q = subst (OfFrame (reads_fresh profile f.header.exchange) s f) (sym e) (of-frame profile s f q)
