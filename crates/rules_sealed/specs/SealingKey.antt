-- Document 02, T-05: the opener is "keyed by the live Rekey SA". Its keying octets are GSK_e | GSK_w (RFC 9838, section 3.4); GSK_e, the
-- encryption part, is the AES key and the salt.
use Rattle.std.specs.Prelude.{List, ℕ, take, Option, option_and_then}
use Rattle.state_keys.specs.Limits.{Limits}
use Rattle.state_keys.specs.Kinds.{encryption_part, encryption_or_blank}
use Rattle.state_keys.specs.declared.kinds.EncryptionKey.{EncryptionKey}
use Rattle.state_sa.specs.Entry.{keying_of}
use Rattle.state_sa.specs.declared.entry.Sa.{Sa}
use Rattle.state_table.specs.Table.{found_rekey}
use Rattle.state.specs.declared.State.{State}

unfoldable pub encryption_of_found : Option Sa → Option EncryptionKey
encryption_of_found f = option_and_then (λ (s : Sa). encryption_part (keying_of s)) f

-- of the table's live Rekey SA. Number 2 has passed when it is used, so that SA has the frame's SPIs and is not due
unfoldable pub sealing_key : Limits → State → EncryptionKey
sealing_key limits s = encryption_or_blank (encryption_of_found (found_rekey limits s.table))

abbrev pub encryption_octets_of : EncryptionKey → List ℕ
encryption_octets_of k = take k.count k.octets

abbrev pub sealing_part : Limits → State → List ℕ
sealing_part limits s = encryption_octets_of (sealing_key limits s)
