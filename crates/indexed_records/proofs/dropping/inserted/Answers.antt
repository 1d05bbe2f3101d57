use Rattle.std.proofs.Common.{subst}
use Rattle.store_contents.specs.Walks.{IsFilled}
use Rattle.indexed_records.proofs.dropping.inserted.Goals as goal

pub returns : goal.returns
returns g c = (c.fill.new.tables.items, subst (λ ts. IsFilled c.args.place ts c.fill.new.tables.items) c.moved-all.ensures.items c.fill.ensures.filled, c.put_one.ensures)
