use mathlib.Core.Path.{refl}
use Rattle.octets.specs.Octets.{Octets}
use Rattle.gikev2.proofs.GatheringLaws.{given-as, not_opened, opened}
use Rattle.state_keys.specs.Limits.{limits}
use Rattle.rules_sealed.proofs.SealedKeys.{table-formed, some-live}
use Rattle.gikev2.proofs.SealedLaws.{not_so}
use Rattle.gikev2.proofs.Member.open_fragment.Goals as goal

-- `gikev2::Member::open_fragment` meets its contract.

pub sealing_key-key-requires : goal.sealing_key-key-requires
sealing_key-key-requires c =
    let a = c.args in (
      table-formed limits a.self.state a.tick a.frame.now (not_so c.requires.not-2),
      some-live limits a.self.state a.tick a.frame.now (not_so c.requires.not-2),
    )

pub piece_length-requires : goal.piece_length-requires
piece_length-requires c =
    record {
      count_value = c.sealing_key-key.ensures.sized;
      frame_value = c.requires.fragment;
    }

pub judge_piece-requires : goal.judge_piece-requires
judge_piece-requires c =
    let o : Octets c.args.frame.now = λ i. (c.type_inv.frame i).fits in
    opened c.args.collection o c.requires c.sealing_key-key.ensures c.piece_length.result
    (c.piece_length.ensures c.args.room.now refl) c.in-Some.p c.in-Some.is

pub returns-in-None : goal.returns-in-None
returns-in-None c =
    let o : Octets c.args.frame.now = λ i. (c.type_inv.frame i).fits in
    given-as c.refuse_fragment.ensures
    (not_opened c.args.collection o c.requires c.sealing_key-key.ensures c.piece_length.result
    (c.piece_length.ensures c.args.room.now refl) c.in-None.is)
