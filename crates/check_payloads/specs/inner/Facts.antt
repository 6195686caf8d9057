-- The facts of the payloads of a frame whose layout is whole. Each is what a clause of numbers 4, 5 and 7 asks of them, or where the
-- first payload of a type stands. Fresh keys (document 02, T-11) make no difference to them: the payloads are those that are read where
-- fresh keys are not.
use Rattle.std.specs.Prelude.{ℕ, ◌+◌, ◌<◌, ◌≤◌, ◌≡◌, List, Bool, true, false, not, cond, ◌&&◌, ◌||◌, drop, eqb}
use Rattle.ikev2_numbers.specs.Codes.{header_octets, payload_delete, payload_gsa, payload_kd}
use Rattle.lists.specs.Lists.{any, count}
use Rattle.wire_frames.specs.Header.{first_payload}
use Rattle.wire_frames.specs.Delete.{delete_fits}
use Rattle.wire_frames.specs.Frame.{Payload, is_known}
use Rattle.wire_readers.specs.inner.Payloads.{payloads_in}
use Rattle.wire_readers.specs.declared.Stretch.{Stretch}
use Rattle.rules_refusals.specs.Number4.{unknown_critical}
use Rattle.check_payloads.specs.declared.PayloadFacts.{PayloadFacts}
use Rattle.check_payloads.specs.inner.Places.{body_of}
use Rattle.wire_readers.specs.inner.Values.{nowhere, once}
use Rattle.check_payloads.specs.inner.Deletion.{deletes_among, deletes_by, deletes_with}

-- the payloads of the frame with octets `s`
abbrev pub payloads_of : List ℕ → List Payload
payloads_of s = payloads_in false (first_payload s) (drop header_octets s)

abbrev pub of_kind : ℕ → Payload → Bool
of_kind k p = eqb p.kind k

-- THE FACTS OF THE PAYLOADS OF FRAME `s`. Of GSA, KD and D: how many there are, and where the first one's body stands
abbrev pub payload_facts_of : List ℕ → PayloadFacts
payload_facts_of s = record {
  gsas = count (of_kind payload_gsa) (payloads_of s);
  kds = count (of_kind payload_kd) (payloads_of s);
  deletes = count (of_kind payload_delete) (payloads_of s);
  gsa = body_of payload_gsa s;
  kd = body_of payload_kd s;
  delete = body_of payload_delete s;
  critical = any unknown_critical (payloads_of s);
  deletion = deletes_by (deletes_among (payloads_of s));
}

-- ---- one payload after the other
abbrev pub no_payloads : PayloadFacts
no_payloads = record {
  gsas = 0;
  kds = 0;
  deletes = 0;
  gsa = nowhere;
  kd = nowhere;
  delete = nowhere;
  critical = false;
  deletion = record { other = false; none = false; spis = 0 };
}

-- where the first payload of a type stands, once the payload at `this` is read: at `this` if it has the type (`hit`) and none `before` it
-- had, else at `known`
abbrev pub first_with : Bool → ℕ → Stretch → Stretch → Stretch
first_with hit before this known = cond (hit && eqb before 0) this known

-- the facts `b` with one payload more: its type, whether it is critical, the `place` of its body, and the body `o`
abbrev pub with_payload : PayloadFacts → ℕ → Bool → Stretch → List ℕ → PayloadFacts
with_payload b kind critical place o = record {
  gsas = b.gsas + once (eqb kind payload_gsa);
  kds = b.kds + once (eqb kind payload_kd);
  deletes = b.deletes + once (eqb kind payload_delete);
  gsa = first_with (eqb kind payload_gsa) b.gsas place b.gsa;
  kd = first_with (eqb kind payload_kd) b.kds place b.kd;
  delete = first_with (eqb kind payload_delete) b.deletes place b.delete;
  critical = b.critical || (critical && not (is_known kind));
  deletion = deletes_with b.deletion kind o;
}

-- the counts of `b` leave room for one payload more, of type `kind`; where it is a Delete payload, its body `o` fits
pub record CountsFit (kind : ℕ) (o : List ℕ) (b : PayloadFacts) : Type 0 where
  pub gsas : b.gsas < 4294967296
  pub kds : b.kds < 4294967296
  pub deletes : b.deletes < 4294967296
  pub spis : b.deletion.spis < 4294967296
  pub fits : kind ≡ payload_delete → delete_fits o ≡ true

-- how much one payload adds at most: `b` are the facts before it, `r` those with it
pub record CountsGrown (b r : PayloadFacts) : Type 0 where
  pub gsas : r.gsas ≤ b.gsas + 1
  pub kds : r.kds ≤ b.kds + 1
  pub deletes : r.deletes ≤ b.deletes + 1
  pub spis : r.deletion.spis < b.deletion.spis + 65536
