use Rattle.std.proofs.Common.{◌∙◌, ap, set}
use Rattle.sorted_table.proofs.Laws.{set_value}
use Rattle.leaf_blocks.proofs.leaf.replace_in.Goals as goal

pub returns-clause-items : goal.returns-clause-items
returns-clause-items g c = ap (λ v. set c.args.items.now.items c.args.place (c.index_mut.result.now.0, v)) c.replace.ensures.after ∙ set_value c.args.items.now.items c.args.place c.index_mut.result.now c.args.value c.requires c.index_mut.ensures.value
