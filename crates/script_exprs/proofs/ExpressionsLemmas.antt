-- One level of reading.
use Rattle.std.proofs.Common.{◌≡◌, ℕ, zero, suc, ◌-◌, ◌<◌, List, [], refl, option_map, option_and_then, Option, Some, None, ◌∙◌, ap, arith}
use Rattle.serde_json.specs.Data.{Data}
use Rattle.script_exprs.specs.Expression.{Expression, expression, expressions_of}
use Rattle.script_exprs.specs.declared.expr.ExprForm.{ExprForm}
use Rattle.script_exprs.specs.Forms.{spelled_in}
use Rattle.script_exprs.specs.Expressions.{expr_within, all_read}

pub none_within : (n : ℕ) (d : Data) → n ≡ 0 → expr_within n d ≡ None
unfolding expr_within
none_within zero d e = refl
none_within (suc n) d e = absurd (omega (arith, e))

one_level : (n : ℕ) (d : Data) → 0 < n → expr_within n d ≡ option_and_then (λ f. option_map (λ es. expression f.0 (expressions_of es)) (all_read (expr_within (n - 1)) [] f.1)) (spelled_in d)
unfolding expr_within
one_level zero d h = absurd (omega (arith, h))
one_level (suc n) d h = let e : suc n - 1 ≡ n = omega arith in rw e refl

pub none_spelled : (n : ℕ) (d : Data) → 0 < n → spelled_in d ≡ None → expr_within n d ≡ None
none_spelled n d h e = one_level n d h ∙ ap (option_and_then (λ f. option_map (λ es. expression f.0 (expressions_of es)) (all_read (expr_within (n - 1)) [] f.1))) e

pub with_parts : (n : ℕ) (d : Data) (f : ExprForm) (ds : List Data) (o : Option (List Expression)) → 0 < n → spelled_in d ≡ Some (f, ds) → all_read (expr_within (n - 1)) [] ds ≡ o
    → expr_within n d ≡ option_map (λ es. expression f (expressions_of es)) o
with_parts n d f ds o h e k =
    one_level n d h ∙ ap (option_and_then (λ f. option_map (λ es. expression f.0 (expressions_of es)) (all_read (expr_within (n - 1)) [] f.1))) e ∙ ap (option_map (λ es. expression f (expressions_of es))) k

pub none_read : (n : ℕ) (d : Data) (f : ExprForm) (ds : List Data) → 0 < n → spelled_in d ≡ Some (f, ds) → all_read (expr_within (n - 1)) [] ds ≡ None → expr_within n d ≡ None
none_read n d f ds h e k = with_parts n d f ds None h e k

pub one_read : (n : ℕ) (d : Data) (f : ExprForm) (ds : List Data) (es : List Expression) → 0 < n → spelled_in d ≡ Some (f, ds) → all_read (expr_within (n - 1)) [] ds ≡ Some es
    → expr_within n d ≡ Some (expression f (expressions_of es))
one_read n d f ds es h e k = with_parts n d f ds (Some es) h e k
