-- What a document reads as: an expression whose parts are read from the documents of its parts.
--     expr_within           the expression, where so many levels suffice for the document
--     all_read              each of a list of documents, behind those before it
--     expr_in               the expression, where the document is one
use Rattle.std.specs.Prelude.{ℕ, zero, suc, List, [], ◌∷◌, ◌++◌, Option, Some, None, option_map, option_and_then}
use Rattle.serde_json.specs.Data.{Data}
use Rattle.script_exprs.specs.Expression.{Expression, expression, expressions_of}
use Rattle.script_exprs.specs.Forms.{spelled_in}
use Rattle.script_exprs.specs.declared.limits.TheConstants.{MOST_LEVELS}

abbrev pub all_read : (Data → Option Expression) → List Expression → List Data → Option (List Expression)
all_read read before [] = Some before
all_read read before (d ∷ ds) = option_and_then (λ e. all_read read (before ++ e ∷ []) ds) (read d)

unfoldable pub expr_within : ℕ → Data → Option Expression
expr_within zero d = None
expr_within (suc n) d = option_and_then (λ f. option_map (λ es. expression f.0 (expressions_of es)) (all_read (expr_within n) [] f.1)) (spelled_in d)

unfoldable pub expr_in : Data → Option Expression
expr_in d = expr_within MOST_LEVELS d
