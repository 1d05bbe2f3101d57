-- The fields of a statement.
--     no_fields             none of them
--     field_kind            what kind of value a field has
--     with_field            what was read, with one field more
use Rattle.std.specs.Prelude.{ℕ, List, Bool, Option, Some, None, option_map}
use Rattle.serde_json.specs.Data.{Data}
use Rattle.serde_json.specs.Find.{as_bool}
use Rattle.script_exprs.specs.Expression.{Expression}
use Rattle.script_exprs.specs.Expressions.{expr_in}
use Rattle.script_exprs.specs.Forms.{name_in}
use Rattle.script_reading.specs.BlockPlaces.{BlockPlaces}
use Rattle.script_reading.specs.Kinds.{block_in, natural_in, times_in, names_in, mode_in, durability_in, range_in, direction_in, path_in}
use Rattle.script_reading.specs.declared.fields.Fields.{Fields}
use Rattle.script_reading.specs.declared.fields.Kind.{Kind}
use Rattle.script_reading.specs.declared.fields.Kind.TheVariants as kind
use Rattle.script_reading.specs.declared.ops.Field.{Field}
use Rattle.script_reading.specs.declared.ops.Field.TheVariants as field

abbrev pub no_fields : Fields
no_fields = record { db = None; version = None; upgrade = None; blocked = None; success = None; error = None; version_change = None; closed = None; conn = None; scope = None; mode = None; durability = None; body = None; complete = None; abort = None; block = None; times = None; test = None; then = None; otherwise = None; name = None; value = None; store = None; key = None; index = None; query = None; range = None; count = None; direction = None; primary_key = None; key_path = None; auto_increment = None; unique = None; multi_entry = None }

abbrev pub field_kind : Field → Kind
field_kind field.Db = kind.Name
field_kind field.Version = kind.Expr
field_kind field.Upgrade = kind.Block
field_kind field.Blocked = kind.Block
field_kind field.Success = kind.Block
field_kind field.Error = kind.Block
field_kind field.VersionChange = kind.Block
field_kind field.Closed = kind.Block
field_kind field.Conn = kind.Other
field_kind field.Scope = kind.Other
field_kind field.Mode = kind.Other
field_kind field.Durability = kind.Other
field_kind field.Body = kind.Block
field_kind field.Complete = kind.Block
field_kind field.Abort = kind.Block
field_kind field.Do = kind.Block
field_kind field.Times = kind.Other
field_kind field.Test = kind.Expr
field_kind field.Then = kind.Block
field_kind field.Else = kind.Block
field_kind field.Name = kind.Name
field_kind field.Value = kind.Expr
field_kind field.Store = kind.Name
field_kind field.Key = kind.Expr
field_kind field.Index = kind.Name
field_kind field.Query = kind.Expr
field_kind field.Range = kind.Other
field_kind field.Count = kind.Expr
field_kind field.Direction = kind.Other
field_kind field.PrimaryKey = kind.Expr
field_kind field.KeyPath = kind.Other
field_kind field.AutoIncrement = kind.Flag
field_kind field.Unique = kind.Flag
field_kind field.MultiEntry = kind.Flag

abbrev pub with_name : Field → List ℕ → Fields → Fields
with_name field.Db x fs = record fs { db = Some x }
with_name field.Name x fs = record fs { name = Some x }
with_name field.Store x fs = record fs { store = Some x }
with_name field.Index x fs = record fs { index = Some x }
with_name _ x fs = fs

abbrev pub with_block : Field → ℕ → Fields → Fields
with_block field.Upgrade x fs = record fs { upgrade = Some x }
with_block field.Blocked x fs = record fs { blocked = Some x }
with_block field.Success x fs = record fs { success = Some x }
with_block field.Error x fs = record fs { error = Some x }
with_block field.VersionChange x fs = record fs { version_change = Some x }
with_block field.Closed x fs = record fs { closed = Some x }
with_block field.Body x fs = record fs { body = Some x }
with_block field.Complete x fs = record fs { complete = Some x }
with_block field.Abort x fs = record fs { abort = Some x }
with_block field.Do x fs = record fs { block = Some x }
with_block field.Then x fs = record fs { then = Some x }
with_block field.Else x fs = record fs { otherwise = Some x }
with_block _ x fs = fs

abbrev pub with_expr : Field → Expression → Fields → Fields
with_expr field.Version x fs = record fs { version = Some x }
with_expr field.Test x fs = record fs { test = Some x }
with_expr field.Value x fs = record fs { value = Some x }
with_expr field.Key x fs = record fs { key = Some x }
with_expr field.Query x fs = record fs { query = Some x }
with_expr field.Count x fs = record fs { count = Some x }
with_expr field.PrimaryKey x fs = record fs { primary_key = Some x }
with_expr _ x fs = fs

abbrev pub with_flag : Field → Bool → Fields → Fields
with_flag field.AutoIncrement x fs = record fs { auto_increment = Some x }
with_flag field.Unique x fs = record fs { unique = Some x }
with_flag field.MultiEntry x fs = record fs { multi_entry = Some x }
with_flag _ x fs = fs

-- those that have a kind of their own
abbrev pub with_other : Field → Data → Fields → Option Fields
with_other field.Conn d fs = option_map (λ x. record fs { conn = Some x }) (natural_in d)
with_other field.Scope d fs = option_map (λ x. record fs { scope = Some x }) (names_in d)
with_other field.Mode d fs = option_map (λ x. record fs { mode = Some x }) (mode_in d)
with_other field.Durability d fs = option_map (λ x. record fs { durability = Some x }) (durability_in d)
with_other field.Times d fs = option_map (λ x. record fs { times = Some x }) (times_in d)
with_other field.Range d fs = option_map (λ x. record fs { range = Some x }) (range_in d)
with_other field.Direction d fs = option_map (λ x. record fs { direction = Some x }) (direction_in d)
with_other field.KeyPath d fs = option_map (λ x. record fs { key_path = Some x }) (path_in d)
with_other _ d fs = Some fs

abbrev with_kind : Kind → BlockPlaces → Field → Data → Fields → Option Fields
with_kind kind.Name places f d fs = option_map (λ x. with_name f x fs) (name_in d)
with_kind kind.Block places f d fs = option_map (λ x. with_block f x fs) (block_in places d)
with_kind kind.Expr places f d fs = option_map (λ x. with_expr f x fs) (expr_in d)
with_kind kind.Flag places f d fs = option_map (λ x. with_flag f x fs) (as_bool d)
with_kind kind.Other places f d fs = with_other f d fs

unfoldable pub with_field : BlockPlaces → Field → Data → Fields → Option Fields
with_field places f d fs = with_kind (field_kind f) places f d fs
