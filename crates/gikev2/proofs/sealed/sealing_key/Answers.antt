use Rattle.std.proofs.Common.{◌≡◌, length, rules, sym, ◌∙◌, ap}
use Rattle.state_keys.specs.Limits.{limits}
use Rattle.state_keys.specs.Kinds.{encryption_part}
use Rattle.rules_sealed.proofs.SealedKeys.{live-stands, sealing-part-stands, sealing-key-found, sealing-key-sized}
use Rattle.gikev2.proofs.sealed.sealing_key.Goals as goal

-- `gikev2::sealed::sealing_key` meets its contract.

pub unwrap-s-requires : goal.unwrap-s-requires
unwrap-s-requires c = live-stands limits c.args.t c.requires.0 c.requires.1 c.live_rekey.result c.live_rekey.ensures

pub unwrap-requires : goal.unwrap-requires
unwrap-requires c =
    let s = c.unwrap-s.result in
    let long : length s.octets ≡ 68 = search rules in
    sealing-part-stands limits c.args.t c.requires.0 c.requires.1 s (sym c.live_rekey.ensures ∙ c.unwrap-s.ensures) long
    c.encryption_part.result (c.encryption_part.ensures ∙ ap encryption_part c.rekey_key.ensures)

pub returns : goal.returns
returns c =
    let s = c.unwrap-s.result in
    let long : length s.octets ≡ 68 = search rules in
    let is = sym c.live_rekey.ensures ∙ c.unwrap-s.ensures in
    let k = c.unwrap.result in
    let q = sym (c.encryption_part.ensures ∙ ap encryption_part c.rekey_key.ensures) ∙ c.unwrap.ensures in
    record {
      is = sealing-key-found limits c.args.t c.requires.0 c.requires.1 s is long k q;
      sized = sealing-key-sized limits c.args.t c.requires.0 c.requires.1 s is long k q;
    }
