use Rattle.std.proofs.Common.{◌≡◌, drop}
use Rattle.std.specs.List.{list_all}
use Rattle.serde_json.specs.View.{view}
use Rattle.script_reading.specs.StatementForms.{has_field}
use Rattle.script_reading.proofs.ops.has_all.Given as goal

abbrev pub invariant-loop-field : goal.invariant-loop-field
invariant-loop-field l = list_all (has_field (view l.json)) (drop l.field-index l.fields) ≡ list_all (has_field (view l.json)) l.fields
