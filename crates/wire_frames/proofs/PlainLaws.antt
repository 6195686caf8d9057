-- WHAT THE PROFILE CHANGES in the reading of a frame (document 02, T-11): "Elsewhere, and with the profile off, the attribute is skipped."
use Prim.Native.Nat.{ℕ}
use mathlib.Core.Path.{◌≡◌, refl, ap, sym, ◌∙◌}
use mathlib.Core.List.{List, [], ◌∷◌, map}
use mathlib.Core.Bool.{Bool, true, false}
use lib.ListN.{drop}
use borrow.Author.Tests.{eqb-true}
use lib.Dec.{eqb}
use Rattle.lists.proofs.Cases.{bool_cases}
use Rattle.ikev2_numbers.specs.Codes.{exchange_at, gsa_auth, gsa_inband_rekey, gsa_registration, gsa_rekey, header_octets}
use Rattle.octets.specs.Numbers.{oct}
use Rattle.octets.specs.Walk.{whole, mapped, opened, Spans, none, more}
use Rattle.wire_bags.proofs.PlainLaws.{bags-plain, none-in-bags}
use Rattle.wire_frames.specs.Header.{header_fits, first_payload}
use Rattle.wire_frames.specs.Exchange.{exchange_of, reads_fresh}
use Rattle.wire_frames.specs.Frame.{Content, gsa, kd, delete, unread, Payload, none_next, payloads, nothing_left, Frame, frame_of}
use Rattle.wire_frames.specs.Frame.{frame}
use Rattle.wire_frames.specs.Grammar.{IsContent, is-gsa, is-kd, is-delete, is-unread, IsPayload, IsFrame}
use Rattle.wire_frames.specs.Breaks.{BreaksFrame}
use Rattle.wire_frames.specs.Plain.{plain_content, plain_payload, plain_frame}
use Rattle.wire_frames.proofs.FrameGrammar.{read-frame, frame-read}
use Rattle.wire_frames.proofs.FrameBreaks.{frame-to, frame-from}

-- ---- where fresh keys are read: what is whole is whole without reading them, and is the same less the fresh keys
content-plain : (fresh : Bool) (k : ℕ) (s : List ℕ) (c : Content) → IsContent fresh k s c → IsContent false k s (plain_content c)
content-plain fresh k s (gsa l) (is-gsa e i) = is-gsa e i
content-plain fresh k s (kd l) (is-kd e i) = is-kd e (bags-plain fresh i)
content-plain fresh k s (delete d) (is-delete e i) = is-delete e i
content-plain fresh k s unread (is-unread a b c) = is-unread a b c

payload-plain : (fresh : Bool) (k : ℕ) (o : List ℕ) (x : Payload) (next : ℕ) → IsPayload fresh k o x next
    → IsPayload false k o (plain_payload x) next
payload-plain fresh k o x next i = record {
  kind = i.kind;
  following = i.following;
  critical = i.critical;
  size = i.size;
  least = i.least;
  content = content-plain fresh k _ x.content i.content;
}

pub payloads-plain : (fresh : Bool) {k : ℕ} {s : List ℕ} {l : List Payload} {rest : List ℕ}
    → Spans none_next (IsPayload fresh) k s l rest → Spans none_next (IsPayload false) k s (map plain_payload l) rest
payloads-plain fresh (none e) = none e
payloads-plain fresh (more {st = k} {st' = n} o s {a = a} e i r) = more o s e (payload-plain fresh k o a n i) (payloads-plain fresh r)

-- where they are not read there is none
none-in-content : (k : ℕ) (s : List ℕ) (c : Content) → IsContent false k s c → plain_content c ≡ c
none-in-content k s (gsa l) (is-gsa e i) = refl
none-in-content k s (kd l) (is-kd e i) = ap kd (none-in-bags i)
none-in-content k s (delete d) (is-delete e i) = refl
none-in-content k s unread (is-unread a b c) = refl

none-in-payloads : {k : ℕ} {s : List ℕ} {l : List Payload} {rest : List ℕ} → Spans none_next (IsPayload false) k s l rest
    → map plain_payload l ≡ l
none-in-payloads (none e) = refl
none-in-payloads (more {st = k} o s {a = a} e i r) =
    let c = none-in-content k _ a.content i.content in
    λ j. record { kind = a.kind; critical = a.critical; content = c j } ∷ none-in-payloads r j

-- ---- THE LAWS
-- with the profile off no fresh key is read: a frame's tree has none
pub off-reads-none : (s : List ℕ) (f : Frame) → IsFrame false s f → plain_frame f ≡ f
off-reads-none s f i = λ j. record { header = f.header; payloads = none-in-payloads i.payloads j }

-- the table of exchanges says of GSA_REKEY alone that fresh keys are read
pub in-rekeys-alone : (x : ℕ) → (x ≡ gsa_rekey → ⊥) → (exchange_of x).reads_fresh_keys ≡ false
in-rekeys-alone x other =
    bool_cases (eqb x gsa_auth) (λ a. rw a refl)
    (λ a.
    bool_cases (eqb x gsa_registration) (λ b. rw (a, b) refl)
    (λ b.
    bool_cases (eqb x gsa_rekey) (λ c. absurd (other (eqb-true x gsa_rekey c)))
    (λ c. bool_cases (eqb x gsa_inband_rekey) (λ d. rw (a, b, c, d) refl) (λ d. rw (a, b, c, d) refl))))

-- "Elsewhere": in an exchange other than GSA_REKEY the profile changes nothing, not the tree and not the offset of a break
pub same-elsewhere : (profile : Bool) (s : List ℕ) → (oct s exchange_at ≡ gsa_rekey → ⊥) → frame profile s ≡ frame false s
unfolding frame
same-elsewhere true s other = ap
    (λ (t : Bool). opened 0 (header_fits s) (mapped (frame_of s) (nothing_left (payloads t (first_payload s) header_octets
    (drop header_octets s))))) (in-rekeys-alone (oct s exchange_at) other)
same-elsewhere false s other = refl

pub breaks-elsewhere : (profile : Bool) (s : List ℕ) (o : ℕ) → (oct s exchange_at ≡ gsa_rekey → ⊥) → BreaksFrame profile s o →
    BreaksFrame false s o
breaks-elsewhere profile s o other i = frame-to false s o (sym (same-elsewhere profile s other) ∙ frame-from profile s o i)

-- a frame that is whole for a member with the profile is whole without it: its tree is the same less the fresh keys
pub on-to-off : (profile : Bool) (s : List ℕ) (f : Frame) → IsFrame profile s f → IsFrame false s (plain_frame f)
on-to-off profile s f i = record {
  least = i.least;
  most = i.most;
  size = i.size;
  major = i.major;
  spi = i.spi;
  exchange = i.exchange;
  message_id = i.message_id;
  payloads = payloads-plain (reads_fresh profile f.header.exchange) i.payloads;
}

pub read-to-off : (profile : Bool) (s : List ℕ) (f : Frame) (rest : List ℕ) → frame profile s ≡ whole f rest
    → frame false s ≡ whole (plain_frame f) []
read-to-off profile s f rest q = frame-read false s (plain_frame f) (on-to-off profile s f (read-frame profile s f rest q))
