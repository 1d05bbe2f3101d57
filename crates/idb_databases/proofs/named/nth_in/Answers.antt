use Rattle.std.proofs.Common.{sym, ap, option_map}
use Rattle.std.proofs.lemmas.Option.{slice_get_past}
use Rattle.idb_databases.proofs.ByNames.{read_at}
use Rattle.idb_databases.proofs.named.nth_in.Goals as goal

pub returns-in-Some : goal.returns-in-Some
returns-in-Some g c = sym (ap (option_map (λ e. e.1)) (read_at c.args.items.now c.args.place c.in-Some.field-0.now c.in-Some.ensures.lookup.3.0 c.in-Some.ensures.lookup.1))

pub returns-in-None : goal.returns-in-None
returns-in-None g c = sym (ap (option_map (λ e. e.1)) (slice_get_past c.args.items.now c.args.place c.in-None.ensures.lookup.3))
