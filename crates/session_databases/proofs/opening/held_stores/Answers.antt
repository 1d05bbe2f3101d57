use Rattle.std.proofs.Common.{◌∙◌}
use Rattle.session_databases.proofs.Opened.{all_held}
use Rattle.session_databases.proofs.opening.held_stores.Goals as goal

pub returns : goal.returns
returns g c = c.in_ok-held.ensures ∙ all_held c.args.stores c.into_vec-stores.result.items c.into_vec-stores.ensures c.len-count.ensures.sound
