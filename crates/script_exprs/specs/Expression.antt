-- An expression as contracts see it: its form, and the expressions that are its parts.
--     Expression            an expression
--     expression_form, expression_parts     its form, and its parts
--     expressions_of        the list of parts as a part of an expression
--     expression_size       a measure: greater than that of each part
--     expression_code       by which a proof tells two expressions apart
use Rattle.std.specs.Prelude.{◌≡◌, ℕ, ◌+◌, ◌≤◌, List, [], ◌∷◌, slice_index_or, refl}
use Rattle.std.proofs.Common.{sym, ◌∙◌, ap, arith}
use base.Stored.{Gv, gnil, gnum, gcons, Coded}
use denote.Param.Weighed.{most}
use Rattle.clone_values.specs.Tree.{bytes_code, coded_bytes, bytes_back, tree_to_code, code_to_tree, tree_back}
use Rattle.clone_values.specs.declared.path_types.PathSpec.{PathSpec}
use Rattle.clone_values.specs.declared.path_types.PathSpec.TheVariants.{One, Many}
use Rattle.script_exprs.specs.declared.expr.ExprForm.{ExprForm}
use Rattle.script_exprs.specs.declared.expr.ExprForm.TheVariants as form

mutual
  pub data Expression : Type 0 where
    expression : ExprForm → Expressions → Expression

  pub data Expressions : Type 0 where
    no_parts : Expressions
    more_parts : Expression → Expressions → Expressions

abbrev pub expressions_of : List Expression → Expressions
expressions_of [] = no_parts
expressions_of (e ∷ es) = more_parts e (expressions_of es)

abbrev pub expression_form : Expression → ExprForm
expression_form (expression f es) = f

abbrev pub expression_parts : Expression → Expressions
expression_parts (expression f es) = es

-- ---- a measure
abbrev mutual
  pub expression_size : Expression → ℕ
  expression_size (expression f es) = 1 + parts_size es

  pub parts_size : Expressions → ℕ
  parts_size no_parts = 1
  parts_size (more_parts e es) = 1 + expression_size e + parts_size es

-- ---- a code for each, and what reads it back
abbrev names_code : List (List ℕ) → Gv
names_code [] = gnil
names_code (n ∷ ns) = gcons (bytes_code n) (names_code ns)

abbrev coded_names : Gv → List (List ℕ)
coded_names (gcons a b) = coded_bytes a ∷ coded_names b
coded_names _ = []

names_back : (ns : List (List ℕ)) → coded_names (names_code ns) ≡ ns
names_back [] = refl
names_back (n ∷ ns) = λ i. bytes_back n i ∷ names_back ns i

abbrev path_to_code : PathSpec → Gv
path_to_code (One s) = gcons (gnum 0) (bytes_code s)
path_to_code (Many ss) = gcons (gnum 1) (names_code ss)

abbrev code_to_path : Gv → PathSpec
code_to_path (gcons (gnum n) a) = slice_index_or (One (coded_bytes a) ∷ []) n (Many (coded_names a))
code_to_path _ = Many []

path_back : (p : PathSpec) → code_to_path (path_to_code p) ≡ p
path_back (One s) = ap One (bytes_back s)
path_back (Many ss) = ap Many (names_back ss)

abbrev form_to_code : ExprForm → Gv
form_to_code (form.Literal t) = gcons (gnum 0) (tree_to_code t)
form_to_code (form.Array ns) = gcons (gnum 1) (names_code ns)
form_to_code (form.Object ns) = gcons (gnum 2) (names_code ns)
form_to_code form.Map = gcons (gnum 3) gnil
form_to_code form.Set = gcons (gnum 4) gnil
form_to_code (form.Var n) = gcons (gnum 5) (bytes_code n)
form_to_code form.Plus = gcons (gnum 6) gnil
form_to_code (form.Prop p) = gcons (gnum 7) (path_to_code p)
form_to_code (form.With n) = gcons (gnum 8) (bytes_code n)
form_to_code form.Same = gcons (gnum 9) gnil

abbrev code_to_form : Gv → ExprForm
code_to_form (gcons (gnum n) a) = slice_index_or (form.Literal (code_to_tree a) ∷ form.Array (coded_names a) ∷ form.Object (coded_names a)
    ∷ form.Map ∷ form.Set ∷ form.Var (coded_bytes a) ∷ form.Plus ∷ form.Prop (code_to_path a) ∷ form.With (coded_bytes a) ∷ []) n form.Same
code_to_form _ = form.Same

form_back : (f : ExprForm) → code_to_form (form_to_code f) ≡ f
form_back (form.Literal t) = ap form.Literal (tree_back t)
form_back (form.Array ns) = ap form.Array (names_back ns)
form_back (form.Object ns) = ap form.Object (names_back ns)
form_back form.Map = refl
form_back form.Set = refl
form_back (form.Var n) = ap form.Var (bytes_back n)
form_back form.Plus = refl
form_back (form.Prop p) = ap form.Prop (path_back p)
form_back (form.With n) = ap form.With (bytes_back n)
form_back form.Same = refl

abbrev mutual
  pub expression_to_code : Expression → Gv
  expression_to_code (expression f es) = gcons (form_to_code f) (parts_to_code es)

  pub parts_to_code : Expressions → Gv
  parts_to_code no_parts = gnil
  parts_to_code (more_parts e es) = gcons (expression_to_code e) (parts_to_code es)

abbrev mutual
  pub code_to_expression : Gv → Expression
  code_to_expression (gcons a b) = expression (code_to_form a) (code_to_parts b)
  code_to_expression _ = expression form.Same no_parts

  pub code_to_parts : Gv → Expressions
  code_to_parts (gcons a b) = more_parts (code_to_expression a) (code_to_parts b)
  code_to_parts _ = no_parts

mutual
  pub expression_back : (e : Expression) → code_to_expression (expression_to_code e) ≡ e
  expression_back (expression f es) = λ i. expression (form_back f i) (parts_back es i)

  pub parts_back : (es : Expressions) → code_to_parts (parts_to_code es) ≡ es
  parts_back no_parts = refl
  parts_back (more_parts e es) = λ i. more_parts (expression_back e i) (parts_back es i)

abbrev pub expression_code : Coded Expression
expression_code = record { code = expression_to_code; inj = λ s t e. sym (expression_back s) ∙ ap code_to_expression e ∙ expression_back t }

-- ---- the parts are smaller than the whole
pub parts_fall : (es : List Expression) → most (λ e. expression_size e + 1) es ≤ parts_size (expressions_of es)
parts_fall [] = omega arith
parts_fall (e ∷ es) = omega (arith, parts_fall es)
