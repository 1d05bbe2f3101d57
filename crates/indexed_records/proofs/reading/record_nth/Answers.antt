use Rattle.std.proofs.Common.{◌∙◌, sym, ap}
use Rattle.std.specs.Prelude.{option_map}
use Rattle.store_contents.specs.View.{record_of}
use Rattle.store_contents.proofs.Laws.{seen_again, entry_of}
use Rattle.indexed_records.proofs.reading.record_nth.Goals as goal

pub returns : goal.returns
returns g c = seen_again _ ∙ ap (option_map record_of) c.nth.ensures ∙ sym (entry_of _ c.args.place (g.met.R.OrderedTable.rises c.args.records.now))
