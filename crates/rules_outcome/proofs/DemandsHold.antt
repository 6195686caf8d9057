-- EACH OF THE CUSTOMER'S DEMANDS HOLDS.
use Prim.Native.Nat.{ℕ}
use mathlib.Core.Path.{◌≡◌, refl, ap, sym, ◌∙◌, subst}
use mathlib.Core.List.{List}
use lib.ListN.{length, take, drop}
use lib.Seq.{take-append_seam}
use Rattle.fips197.specs.Key.{Key}
use Rattle.rfc5649.specs.Wrap.{wrap_of}
use Rattle.rfc5649.specs.Opens.{Opens}
use Rattle.keywrap.specs.Answers.{written, Wrote, Opening, OpenAnswers}
use Rattle.std.specs.Prelude.{Option, Some}
use Rattle.keywrap.proofs.Determined.{open-determined}
use Rattle.state_keys.specs.Limits.{limits}
use Rattle.wire_frames.proofs.FrameGrammar.{one-tree}
use Rattle.rules_chains.proofs.Closure.{reached-first, reached-on, reached-least}
use Rattle.rules_outcome.specs.Demands.{Fits, OpenedTo, Demand, any-input, refusals, reading, opening, keys, chains}
use Rattle.rules_outcome.specs.Demands.{Claims}
use Rattle.rules_outcome.proofs.Meets.{refused-first, accepted-is, accepted-none}
use Rattle.rules_outcome.proofs.Demands.{accepted-exactly, zero-due, one-of-the-numbers}
use Rattle.rules_outcome.proofs.Determined.{outcome-one, after_one}
use Rattle.rules_outcome.proofs.EachAnswered.{each-answered}
use Rattle.rules_outcome.proofs.Demand3.{demand-3-within}

any-input-holds : Claims any-input
any-input-holds s now lent octets =
    record { some = each-answered limits s now lent octets; one = outcome-one limits s now lent octets }

refusals-hold : Claims refusals
refusals-hold s now lent octets =
    record {
      nine = one-of-the-numbers limits s now lent octets;
      exactly = refused-first limits s now lent octets;
      accepted = accepted-exactly limits s now lent octets;
      zero-due = zero-due limits s now lent octets;
    }

reading-holds : Claims reading
reading-holds s now lent octets next o =
    let a = accepted-is limits s now lent octets next o in
    let f = a.tree in
    record {
      tree = f;
      layout = a.layout;
      one = λ g e. one-tree s.profile octets g f e a.layout;
      within = accepted-none limits s now lent octets next a 7;
      is-formed = ((demand-3-within s now lent octets f a.layout 0 next o).after refl).is-formed;
      after = a.after;
      only = λ other b. after_one limits s now lent f other next b a.after;
    }

-- ---- what `open` opens to
module _ (key wrapped room : List ℕ) (is : Key key) where
  -- two results of one length, written into one room, are one
  written_one : (x y : List ℕ) → length x ≡ length y → written x room ≡ written y room → x ≡ y
  written_one x y n e =
      sym (take-append_seam x (drop (length x) room)) ∙ ap (take (length x)) e ∙ ap (λ (k : ℕ). take k (written y room)) n
      ∙ take-append_seam y (drop (length y) room)

  opened-wraps : (x : List ℕ) (n : ℕ) (after : List ℕ) → n ≡ length x → after ≡ written x room →
      Wrote (Opening key wrapped room) room n after → wrap_of key x ≡ wrapped
  opened-wraps x n after c e w =
      let q = written_one w.x x (w.count ∙ c) (sym w.room-is ∙ e) in ap (wrap_of key) (sym q) ∙ w.result.opens.wraps

  module _ (a : Option ℕ) (after : List ℕ) (answers : OpenAnswers key wrapped room a after) (x : List ℕ) (fits : Fits room x) where
    to : OpenedTo room x a after → wrap_of key x ≡ wrapped
    to o =
        opened-wraps x (length x) after refl o.room-is
        (subst (λ (b : Option ℕ). OpenAnswers key wrapped room b after) o.answer answers)

    from : wrap_of key x ≡ wrapped → OpenedTo room x a after
    from w =
        let opens : Opens key wrapped x = record { least = fits.least; most = fits.most; octets = fits.octets; wraps = w } in
        let result : Opening key wrapped room x = record { key-size = is.size; opens = opens; holds = fits.holds } in
        let wrote : OpenAnswers key wrapped room (Some (length x)) (written x room) =
        record { x = x; result = result; count = refl; room-is = refl } in
        let same = open-determined key wrapped room is.small a (Some (length x)) after (written x room) answers wrote in
        record { answer = same.0; room-is = same.1 }

opening-holds : Claims opening
opening-holds key wrapped room is a after answers =
    record {
      exactly = λ x fits. (to key wrapped room is a after answers x fits, from key wrapped room is a after answers x fits);
      answers-no = λ q.
          let none = subst (λ (b : Option ℕ). OpenAnswers key wrapped room b after) q answers in (
            λ x fits w.
                none.none x
                (record {
                  key-size = is.size;
                  opens = record { least = fits.least; most = fits.most; octets = fits.octets; wraps = w };
                  holds = fits.holds;
                }),
            none.room-is,
          );
    }

chains-hold : Claims chains
chains-hold roots entries size =
    record {
      closed = record { first = reached-first roots entries size; on = reached-on roots entries size };
      least = λ P c. reached-least roots entries size P c.first c.on;
    }

-- THE CLAIM
pub demands-hold : (d : Demand) → Claims d
demands-hold any-input = any-input-holds
demands-hold refusals = refusals-hold
demands-hold reading = reading-holds
demands-hold opening = opening-holds
demands-hold keys = demand-3-within
demands-hold chains = chains-hold
