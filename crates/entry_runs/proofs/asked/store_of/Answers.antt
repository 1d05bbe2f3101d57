use Rattle.std.proofs.Common.{sym, ◌∙◌}
use Rattle.entry_runs.proofs.Named.{store_at, store_nowhere}
use Rattle.entry_runs.proofs.asked.store_of.Goals as goal

pub returns-in-Some : goal.returns-in-Some
returns-in-Some c = c.store.ensures.item ∙ store_at c.args.schema.now c.args.store c.in-Some.place (sym c.in-Some.ensures.value)

pub returns-in-None : goal.returns-in-None
returns-in-None c = sym (store_nowhere c.args.schema.now c.args.store (sym c.in-None.ensures.value))
