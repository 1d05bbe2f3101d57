-- What an expression gives where variables are set. The variables are named values, as the properties of an Object.
--     value_in              the value of an expression
--     within_limits         a value, or Undefined where it is no value that an expression may have
--     form_made               what a form gives of the values of its parts
--     given_by              the same as a value that is kept
use Rattle.std.specs.Prelude.{ℕ, ◌-◌, ◌&&◌, nat_le, Bool, ℤ, pos, ◌+ℤ◌, List, [], ◌∷◌, length, take, drop, if◌then◌else◌, Option, Some, None, unwrap_or}
use Rattle.std.specs.List.{zip, fold}
use Rattle.clone_values.specs.Tree.{Tree, Trees, Members, undefined, int, array, object, map_object, set_object, boolean, trees_of, members_of, pairs_of, list_of_trees, list_of_members, list_of_pairs}
use Rattle.clone_values.specs.Tree as tree
use Rattle.clone_values.specs.Names.{get_member, set_member, set_members}
use Rattle.clone_values.specs.Sameness.{same_tree, put_once, put_pair}
use Rattle.clone_values.specs.Values.{depth_of}
use Rattle.clone_values.specs.WellFormed.{is_value, is_int}
use Rattle.clone_values.specs.declared.value_types.Value.{Value}
use Rattle.clone_values.specs.declared.value_types.Value.TheVariants as value
use Rattle.value_bytes.specs.Spelling.{spelling_of}
use Rattle.key_paths.specs.Evaluation.{evaluated}
use Rattle.script_exprs.specs.Expression.{Expression, Expressions, expression, no_parts, more_parts}
use Rattle.script_exprs.specs.declared.expr.ExprForm.{ExprForm}
use Rattle.script_exprs.specs.declared.expr.ExprForm.TheVariants as form
use Rattle.script_values.specs.declared.limits.TheConstants.{GREATEST_EXPR_DEPTH, GREATEST_EXPR_SIZE}

-- variables by rising names
abbrev pub Variables : Type 0
Variables = List (List ℕ × Tree)

-- ---- limits
-- well formed, not too deep, and not too long as bytes
unfoldable pub is_expr_value : Tree → Bool
is_expr_value t = nat_le (length (spelling_of t)) GREATEST_EXPR_SIZE && nat_le (depth_of t) GREATEST_EXPR_DEPTH && is_value t

abbrev pub within_limits : Tree → Tree
within_limits t = if is_expr_value t then t else undefined

-- ---- the forms
-- what counts as a whole number in a sum
abbrev pub addend : Tree → Option ℤ
addend undefined = Some (pos 0)
addend (int n) = Some n
addend _ = None

-- a whole number in its range
abbrev pub int_or_undefined : ℤ → Tree
int_or_undefined n = if is_int n then int n else undefined

abbrev pub sum_of_addends : Option ℤ → Option ℤ → Tree
sum_of_addends (Some m) (Some n) = int_or_undefined (m +ℤ n)
sum_of_addends _ _ = undefined

abbrev pub sum_of_two : Tree → Tree → Tree
sum_of_two s t = sum_of_addends (addend s) (addend t)

-- an Object with the property of that name set
abbrev pub with_property : List ℕ → Tree → Tree → Tree
with_property n (object ms) v = object (members_of (set_member (list_of_members ms) n v))
with_property n _ v = undefined

-- the first lists of values are items, as many last ones as there are names are their named properties
abbrev pub array_made : List (List ℕ) → List Tree → Tree
array_made names ts = array (trees_of (take (length ts - length names) ts)) (members_of (set_members [] (zip names (drop (length ts - length names) ts))))

-- keys and values in turn; a last key alone counts for nothing
abbrev pub entries_put : List (Tree × Tree) → List Tree → List (Tree × Tree)
entries_put done [] = done
entries_put done (k ∷ []) = done
entries_put done (k ∷ v ∷ ts) = entries_put (put_pair done k v) ts

-- the one part, and the two parts, where there are so many
abbrev pub only_part : List Tree → Option Tree
only_part (t ∷ []) = Some t
only_part _ = None

abbrev pub both_parts : List Tree → Option (Tree × Tree)
both_parts (s ∷ t ∷ []) = Some (s, t)
both_parts _ = None

abbrev pub of_one : (Tree → Tree) → Option Tree → Tree
of_one f (Some t) = f t
of_one f None = undefined

abbrev pub of_two : (Tree → Tree → Tree) → Option (Tree × Tree) → Tree
of_two f (Some p) = f p.0 p.1
of_two f None = undefined

abbrev pub form_made : Variables → ExprForm → List Tree → Tree
form_made variables (form.Literal t) ts = t
form_made variables (form.Array names) ts = array_made names ts
form_made variables (form.Object names) ts = object (members_of (set_members [] (zip names ts)))
form_made variables form.Map ts = map_object (pairs_of (entries_put [] ts))
form_made variables form.Set ts = set_object (trees_of (fold put_once [] ts))
form_made variables (form.Var name) ts = unwrap_or (get_member variables name) undefined
form_made variables form.Plus ts = of_two sum_of_two (both_parts ts)
form_made variables (form.Prop path) ts = of_one (λ t. unwrap_or (evaluated path t) undefined) (only_part ts)
form_made variables (form.With name) ts = of_two (with_property name) (both_parts ts)
form_made variables form.Same ts = of_two (λ s t. boolean (same_tree s t)) (both_parts ts)

-- ---- each expression, its parts first
abbrev mutual
  pub value_in : Variables → Expression → Tree
  value_in variables (expression f es) = within_limits (form_made variables f (parts_in variables es))

  pub parts_in : Variables → Expressions → List Tree
  parts_in variables no_parts = []
  parts_in variables (more_parts e es) = value_in variables e ∷ parts_in variables es

-- ---- a tree as a value that is kept
abbrev pub value_kept : Tree → Value
value_kept undefined = value.Undefined
value_kept tree.null = value.Null
value_kept (boolean b) = value.Bool b
value_kept (int n) = value.Int n
value_kept (tree.text s) = value.Text s
value_kept (tree.date d) = value.Date d
value_kept (tree.bytes bs) = value.Bytes bs
value_kept (array ts ms) = value.Array (list_of_trees ts) (list_of_members ms)
value_kept (object ms) = value.Object (list_of_members ms)
value_kept (map_object ps) = value.Map (list_of_pairs ps)
value_kept (set_object ts) = value.Set (list_of_trees ts)
value_kept tree.function = value.Function

abbrev pub given_by : Variables → Expression → Value
given_by variables e = value_kept (value_in variables e)
