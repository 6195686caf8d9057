use mathlib.Core.Path.{◌∙◌, ap, sym, subst}
use lib.ListN.{get_or}
use Rattle.state_keys.specs.Kinds.{wrapping_key}
use Rattle.state_keys.proofs.Made.{or-blank}
use Rattle.state.specs.Held.{blank_key}
use Rattle.unwrap_search.specs.inner.Search.{KeyFrom}
use Rattle.unwrap_search.proofs.Starting.{key-from}
use Rattle.unwrap_search.proofs.search.key_at.Goals as goal

-- `unwrap_search::search::key_at` meets its contract.

pub returns : goal.returns
returns c keys ids lends h size =
    let v = c.value_at in
    subst (KeyFrom (get_or keys c.args.i blank_key).key) (sym (or-blank c.new.result c.blank.result c.unwrap_or.result c.blank.ensures c.unwrap_or.ensures))
    (key-from keys ids _ lends _ h size c.new.result (c.new.ensures ∙ ap wrapping_key (v.ensures.result_value keys ids lends h)))
