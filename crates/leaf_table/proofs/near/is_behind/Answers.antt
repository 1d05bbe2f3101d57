use Rattle.std.proofs.Common.{ap, sym, ◌∙◌}
use Rattle.sorted_table.specs.Orders.{precedes}
use Rattle.leaf_table.proofs.near.is_behind.Goals as goal

pub returns : goal.returns
returns g c = λ t. (c.pair_in.result.now, c.pair_in.ensures, sym (c.is_less.ensures ∙ ap (precedes c.args.number) c.abbreviated.ensures) ∙ t)
