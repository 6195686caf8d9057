-- The facts of the Delete payloads of a frame whose layout is whole. Fresh keys (document 02, T-11) make no difference to them: the
-- payloads are those that are read where fresh keys are not.
use Rattle.std.specs.Prelude.{ℕ, ◌+◌, ◌*◌, ◌<◌, ◌≤◌, ◌≡◌, Bool, true, false, not, cond, ◌||◌, length, drop, eqb}
use mathlib.Core.List.{List, flat_map}
use Rattle.ikev2_numbers.specs.Codes.{delete_head_octets, payload_delete}
use Rattle.octets.specs.Numbers.{oct}
use Rattle.lists.specs.Lists.{any}
use Rattle.wire_frames.specs.Delete.{Delete, delete_of}
use Rattle.wire_frames.specs.Frame.{Payload, payloads, nothing_left}
use Rattle.wire_readers.specs.inner.Values.{is_whole}
use Rattle.wire_readers.specs.inner.Payloads.{payloads_in}
use Rattle.rules_refusals.specs.Contents.{deletes_of_content}
use Rattle.state_sa.specs.Entry.{esp_protocol}
use Rattle.check_payloads.specs.declared.deletion.DeleteParts.{DeleteParts}
use Rattle.check_payloads.specs.declared.deletion.Deletes.{Deletes}

-- `r` are the fields of a Delete payload's body `o`, and the SPIs fill the body
pub record DeleteIs (o : List ℕ) (r : DeleteParts) : Type 0 where
  pub protocol : r.protocol ≡ (delete_of o).protocol
  pub size : r.size ≡ oct o 1
  pub count : r.count ≡ length (delete_of o).spis
  pub few : r.count < 65536
  pub filled : delete_head_octets + r.size * r.count ≡ length o

-- ---- what number 5 and number 7 ask of Delete payloads
abbrev pub of_other : Delete → Bool
of_other d = not (eqb d.protocol esp_protocol)

abbrev pub of_none : Delete → Bool
of_none d = eqb (length d.spis) 0

abbrev pub spis_in : List Delete → List (List ℕ)
spis_in l = flat_map (λ (d : Delete). d.spis) l

abbrev pub deletes_among : List Payload → List Delete
deletes_among l = flat_map (λ (p : Payload). deletes_of_content p.content) l

abbrev pub deletes_by : List Delete → Deletes
deletes_by l = record { other = any of_other l; none = any of_none l; spis = length (spis_in l) }

-- a Delete payload begins at octet `at` of `s`, and `l` are the Delete payloads from there on
pub record DeletesFrom (s : List ℕ) (l : List Delete) (at : ℕ) : Type 0 where
  pub inside : at ≤ length s
  pub rest : is_whole (nothing_left (payloads false payload_delete 0 (drop at s))) ≡ true
  pub all : deletes_among (payloads_in false payload_delete (drop at s)) ≡ l

-- ---- one payload after the other
abbrev pub with_one : Deletes → Delete → Deletes
with_one d x = record {
  other = not (eqb x.protocol esp_protocol) || d.other;
  none = eqb (length x.spis) 0 || d.none;
  spis = d.spis + length x.spis;
}

-- the facts `d` with one payload more, of type `kind` and with body `o`: only a Delete payload changes them
abbrev pub deletes_with : Deletes → ℕ → List ℕ → Deletes
deletes_with d kind o = cond (eqb kind payload_delete) (with_one d (delete_of o)) d
