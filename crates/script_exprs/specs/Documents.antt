-- Documents as the code holds them while it reads.
--     datas_of              the documents that are lent
--     form_seen             a form, and the documents of its parts
--     named_seen            names, and the documents of what they name
use Rattle.std.specs.Prelude.{ℕ, List, map, Vec}
use Rattle.std.specs.Borrow.{Bor}
use Rattle.std.specs.declared.alloc.Global.{Global}
use Rattle.serde_json.specs.Data.{Data}
use Rattle.serde_json.specs.View.{view}
use Rattle.serde_json.specs.declared.value.Value.{Value}
use Rattle.script_exprs.specs.declared.expr.ExprForm.{ExprForm}

abbrev pub datas_of : List (Bor Value) → List Data
datas_of lent = map (λ v. view v.now) lent

abbrev pub form_seen : ExprForm × Vec (Bor Value) Global → ExprForm × List Data
form_seen p = (p.0, datas_of p.1.items)

abbrev pub named_seen : List (List ℕ) × Vec (Bor Value) Global → List (List ℕ) × List Data
named_seen p = (p.0, datas_of p.1.items)
