use Rattle.std.proofs.Common.{◌≡◌, []}
use Rattle.serde_json.specs.View.{members_view}
use Rattle.script_exprs.specs.Forms.{members_behind}
use Rattle.script_exprs.specs.Documents.{datas_of}
use Rattle.script_exprs.proofs.forms.members_behind.Given as goal

abbrev pub invariant-loop-name : goal.invariant-loop-name
invariant-loop-name l = members_behind (l.names, datas_of l.parts.items) (members_view l.name-iterator) ≡ members_behind ([], []) (members_view l.members.entries)
