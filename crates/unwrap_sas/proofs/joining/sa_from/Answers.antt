use native.Mathlib.Omega.{arith}
use mathlib.Core.Path.{◌≡◌, sym, ◌∙◌}
use lib.ListN.{length}
use Rattle.state_keys.proofs.Sizes.{rekey-le}
use Rattle.unwrap_sas.proofs.Making.{esp-inside, esp-stands, esp-small, esp-from, rekey-inside, rekey-stands, rekey-small, rekey-from}
use borrow.Author.Rules.{rules}
use Rattle.unwrap_sas.proofs.joining.sa_from.Goals as goal

pub slice_bounds-new-end : goal.slice_bounds-new-end
slice_bounds-new-end c =
    let n : length c.args.octets ≡ 68 = search rules in
    esp-inside c.args.octets n c.args.encryption (c.requires.esp c.if-protocol-eq-ESP.true).1

pub unwrap-key-requires : goal.unwrap-key-requires
unwrap-key-requires c =
    let n : length c.args.octets ≡ 68 = search rules in
    esp-stands c.args.octets n c.args.encryption (c.requires.esp c.if-protocol-eq-ESP.true).1 c.new.result c.new.ensures

pub esp-requires : goal.esp-requires
esp-requires c =
    let n : length c.args.octets ≡ 68 = search rules in
    let p = c.requires.esp c.if-protocol-eq-ESP.true in
    (p.0, esp-small c.args.octets n c.args.encryption p.1 c.unwrap-key.result (sym c.new.ensures ∙ c.unwrap-key.ensures))

pub returns-then-protocol-eq-ESP : goal.returns-then-protocol-eq-ESP
returns-then-protocol-eq-ESP c tick a h =
    let n : length c.args.octets ≡ 68 = search rules in
    let t = c.if-protocol-eq-ESP.true in
    let p = c.requires.esp t in
    esp-from c.args.octets n c.args.encryption p.1 c.unwrap-key.result (sym c.new.ensures ∙ c.unwrap-key.ensures)
    c.args.lifetime tick a c.args.protocol c.args.spi.now c.args.wrapping c.esp.result c.esp.ensures t p.2 h

pub overflow_add-all : goal.overflow_add-all
overflow_add-all c =
    let b = rekey-le c.args.encryption c.args.wrapping (c.requires.rekey c.if-protocol-eq-ESP.false).1 in
    record { fits = omega arith }

pub slice_bounds-new-end-2 : goal.slice_bounds-new-end-2
slice_bounds-new-end-2 c =
    let n : length c.args.octets ≡ 68 = search rules in
    rekey-inside c.args.octets n c.args.encryption c.args.wrapping (c.requires.rekey c.if-protocol-eq-ESP.false).1

pub unwrap-key-requires-2 : goal.unwrap-key-requires-2
unwrap-key-requires-2 c =
    let n : length c.args.octets ≡ 68 = search rules in
    rekey-stands c.args.octets n c.args.encryption c.args.wrapping (c.requires.rekey c.if-protocol-eq-ESP.false).1
    c.new-2.result c.new-2.ensures

pub rekey-requires : goal.rekey-requires
rekey-requires c =
    let n : length c.args.octets ≡ 68 = search rules in
    let p = c.requires.rekey c.if-protocol-eq-ESP.false in
    (p.0, rekey-small c.args.octets n c.args.encryption c.args.wrapping p.1 c.unwrap-key-2.result (sym c.new-2.ensures ∙ c.unwrap-key-2.ensures))

pub returns : goal.returns
returns c tick a h =
    let n : length c.args.octets ≡ 68 = search rules in
    let t = c.if-protocol-eq-ESP.false in
    let p = c.requires.rekey t in
    rekey-from c.args.octets n c.args.encryption c.args.wrapping p.1 c.unwrap-key-2.result (sym c.new-2.ensures ∙ c.unwrap-key-2.ensures)
    c.args.lifetime tick a c.args.protocol c.args.spi.now c.rekey.result c.rekey.ensures t h
