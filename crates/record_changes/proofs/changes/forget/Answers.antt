use Rattle.record_changes.proofs.Asides.{forgets}
use Rattle.record_changes.proofs.changes.forget.Goals as goal

pub returns : goal.returns
returns g c =
    forgets c.args.aside.now c.change_safely.new.items c.args.db.now c.args.name.now c.in_ok-copy.field-0 c.in_ok-copy-2.field-0 c.in_ok-_found._found
    c.in_ok-copy.ensures c.in_ok-copy-2.ensures c.in_ok-_found.ensures.found c.in_ok-_found.ensures.made c.in_ok-_found.ensures.same
