use Rattle.std.proofs.Common.{◌+◌, ◌-◌, sym, ap, ◌∙◌, arith}
use Rattle.std.proofs.lemmas.Option.{none-some}
use Rattle.std.specs.FinMap as finite
use Rattle.idb_databases.specs.Views.{database_alone}
use Rattle.record_changes.proofs.Back.{last_stands, one_fewer}
use Rattle.record_changes.proofs.Unbroken.{entry_found}
use Rattle.record_changes.proofs.restoring.take_last_database.Goals as goal

pub unreachable-requires : goal.unreachable-requires
unreachable-requires g c = last_stands c.args.aside.now (c.len-last.result - 1) (omega (arith, c.len-last.ensures.count, c.requires)) c.in-None.ensures

pub unreachable-requires-in-None-remove : goal.unreachable-requires-in-None-remove
unreachable-requires-in-None-remove g c =
    let d = database_alone c.in-Some.database.now in
    none-some d (c.in-None-remove.ensures.taken ∙ ap (finite.get c.args.aside.now) c.in_ok-name-in-Some.ensures ∙ entry_found c.args.aside.now (c.len-last.result - 1) (c.in-Some.database.now.name, d) (sym c.in-Some.ensures))

pub returns-clause-count : goal.returns-clause-count
returns-clause-count g c =
    ap (λ m. finite.len m + 1) c.in-Some-remove.ensures.left ∙ one_fewer c.args.aside.now c.in_ok-name-in-Some.name (database_alone c.in-Some-remove.database) (sym c.in-Some-remove.ensures.taken) c.requires
