use Rattle.std.proofs.Common.{◌≡◌, drop}
use Rattle.serde_json.specs.View.{items_view}
use Rattle.script_exprs.specs.Forms.{entries_behind}
use Rattle.script_exprs.specs.Documents.{datas_of}
use Rattle.script_exprs.proofs.forms.entries_behind.Given as goal

abbrev pub invariant-loop-entry : goal.invariant-loop-entry
invariant-loop-entry l =
    entries_behind (datas_of l.parts.items) (items_view (drop l.entry-index l.entry-items)) ≡ entries_behind (datas_of l.fn.before.items) (items_view l.entry-items)
