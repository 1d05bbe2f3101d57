use Rattle.std.proofs.Common.{◌≡◌, drop}
use Rattle.serde_json.specs.View.{items_view}
use Rattle.script_exprs.specs.Forms.{listed_behind}
use Rattle.script_exprs.specs.Documents.{datas_of}
use Rattle.script_exprs.proofs.forms.listed_behind.Given as goal

abbrev pub invariant-loop-part : goal.invariant-loop-part
invariant-loop-part l =
    listed_behind (datas_of l.parts.items) (items_view (drop l.part-index l.part-items)) ≡ listed_behind (datas_of l.fn.before.items) (items_view l.part-items)
