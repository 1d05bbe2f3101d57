use Rattle.std.proofs.Common.{◌≡◌, drop}
use Rattle.script_reading.specs.StatementForms.{field_among}
use Rattle.script_reading.proofs.ops.field_among.Given as goal

abbrev pub invariant-loop-field : goal.invariant-loop-field
invariant-loop-field l = field_among (drop l.field-index l.fields) l.name ≡ field_among l.fields l.name
