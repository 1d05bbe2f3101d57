-- Which form of expression a document spells, and which documents its parts are.
--     formula_named         what the one member of an object stands for, beside the kinds of values
--     spelled_in            the form of a document and the documents of its parts, where it has one
--     two_in, three_in      what a list of two or three holds
--     are_apart             no name stands twice
use Rattle.std.specs.Prelude.{ℕ, Bool, true, false, not, ◌&&◌, ◌||◌, ◌==◌, List, [], ◌∷◌, ◌++◌, length, map, if◌then◌else◌, Option, Some, None, option_map, option_and_then, codes}
use Rattle.std.specs.Str.{bytes_eq}
use Rattle.clone_values.specs.Tree.{undefined}
use Rattle.clone_values.specs.Names.{set_members}
use Rattle.clone_values.specs.WellFormed.{is_within_limit, is_array_name}
use Rattle.clone_values.specs.declared.path_types.PathSpec.TheVariants.{One}
use Rattle.path_grammar.specs.KeyPath.{is_key_path}
use Rattle.serde_json.specs.Data.{Data, Items, Members}
use Rattle.serde_json.specs.Data as json
use Rattle.serde_json.specs.Find.{as_str}
use Rattle.value_json.specs.Levels.{Level, leaf, items_level, named_items_level, members_level, named_members_level, entries_level, set_level, level_in}
use Rattle.script_exprs.specs.declared.expr.ExprForm.{ExprForm}
use Rattle.script_exprs.specs.declared.expr.ExprForm.TheVariants as form
use Rattle.script_exprs.specs.declared.forms.Formula.{Formula}
use Rattle.script_exprs.specs.declared.forms.Formula.TheVariants as formula

-- the value, where the test passes
abbrev pub where_so : {A : Type 0} → Bool → A → Option A
where_so b a = if b then Some a else None

-- ---- lists of two and of three
abbrev pub two_in : Data → Option (Data × Data)
two_in (json.array (json.item a (json.item b json.no_items))) = Some (a, b)
two_in _ = None

abbrev pub three_in : Data → Option (Data × Data × Data)
three_in (json.array (json.item a (json.item b (json.item c json.no_items)))) = Some (a, b, c)
three_in _ = None

-- a string that is no longer than a text may be
abbrev pub name_in : Data → Option (List ℕ)
name_in (json.string s) = where_so (is_within_limit s) s
name_in _ = None

-- ---- the five forms that are no values
abbrev pub formula_named : List ℕ → Option Formula
formula_named name = if bytes_eq name (codes "$var") then Some formula.Var
    else if bytes_eq name (codes "$plus") then Some formula.Plus
    else if bytes_eq name (codes "$prop") then Some formula.Prop
    else if bytes_eq name (codes "$with") then Some formula.With
    else if bytes_eq name (codes "$same") then Some formula.Same
    else None

-- the formula of an object of one member, and what stands there
abbrev pub formula_of : Data → Option (Formula × Data)
formula_of (json.object (json.member name d json.no_members)) = option_map (λ f. (f, d)) (formula_named name)
formula_of _ = None

-- a form with its two parts
abbrev pub with_two : ExprForm → Option (Data × Data) → Option (ExprForm × List Data)
with_two f two = option_map (λ p. (f, p.0 ∷ p.1 ∷ [])) two

-- one valid path string
abbrev pub path_of_one : List ℕ → Option ExprForm
path_of_one s = where_so (is_key_path (One s)) (form.Prop (One s))

abbrev pub formula_in : Formula → Data → Option (ExprForm × List Data)
formula_in formula.Var d = option_map (λ n. (form.Var n, [])) (name_in d)
formula_in formula.Plus d = with_two form.Plus (two_in d)
formula_in formula.Prop d = option_and_then (λ p. option_map (λ f. (f, p.0 ∷ [])) (option_and_then path_of_one (name_in p.1))) (two_in d)
formula_in formula.With d = option_and_then (λ p. option_map (λ n. (form.With n, p.0 ∷ p.2 ∷ [])) (name_in p.1)) (three_in d)
formula_in formula.Same d = with_two form.Same (two_in d)

-- ---- values: those whose level they have, with the documents of what they hold
-- the documents of a list, behind those before it
abbrev pub listed_behind : List Data → Items → List Data
listed_behind before json.no_items = before
listed_behind before (json.item d ds) = listed_behind (before ++ d ∷ []) ds

-- the keys and values of a list of lists of two, in turn
abbrev pub entries_behind : List Data → Items → Option (List Data)
entries_behind before json.no_items = Some before
entries_behind before (json.item d ds) = option_and_then (λ p. entries_behind ((before ++ p.0 ∷ []) ++ p.1 ∷ []) ds) (two_in d)

-- names, and the documents of what they name
abbrev pub NamedParts : Type 0
NamedParts = List (List ℕ) × List Data

abbrev pub one_named : NamedParts → List ℕ → Data → NamedParts
one_named before n d = (before.0 ++ n ∷ [], before.1 ++ d ∷ [])

-- a name that a property may have, of an Array or of an Object
abbrev pub property_name : Bool → Data → Option (List ℕ)
property_name of_array d = option_and_then (λ n. where_so (not of_array || is_array_name n) n) (name_in d)

-- the names of a list of lists of a name and a document
abbrev pub named_behind : Bool → NamedParts → Items → Option NamedParts
named_behind of_array before json.no_items = Some before
named_behind of_array before (json.item d ds) =
    option_and_then (λ p. option_and_then (λ n. named_behind of_array (one_named before n p.1) ds) (property_name of_array p.0)) (two_in d)

-- those of an object
abbrev pub members_behind : NamedParts → Members → Option NamedParts
members_behind before json.no_members = Some before
members_behind before (json.member n d ms) = if is_within_limit n then members_behind (one_named before n d) ms else None

-- no more than a list may have, and as many as when each stands once
abbrev pub are_apart : List (List ℕ) → Bool
are_apart names = is_within_limit names && (length (set_members [] (map (λ n. (n, undefined)) names)) == length names)

abbrev pub apart_as : (List (List ℕ) → ExprForm) → Option NamedParts → Option (ExprForm × List Data)
apart_as f named = option_and_then (λ m. where_so (are_apart m.0) (f m.0, m.1)) named

abbrev pub level_parts : Level → Option (ExprForm × List Data)
level_parts (leaf t) = Some (form.Literal t, [])
level_parts (items_level ds) = Some (form.Array [], listed_behind [] ds)
level_parts (named_items_level ds es) = apart_as form.Array (named_behind true ([], listed_behind [] ds) es)
level_parts (members_level ms) = option_map (λ m. (form.Object m.0, m.1)) (members_behind ([], []) ms)
level_parts (named_members_level es) = apart_as form.Object (named_behind false ([], []) es)
level_parts (entries_level es) = option_map (λ ds. (form.Map, ds)) (entries_behind [] es)
level_parts (set_level ds) = Some (form.Set, listed_behind [] ds)

-- ---- each document
abbrev pub spelled_by : Option (Formula × Data) → Data → Option (ExprForm × List Data)
spelled_by (Some p) d = formula_in p.0 p.1
spelled_by None d = option_and_then level_parts (level_in d)

abbrev pub spelled_in : Data → Option (ExprForm × List Data)
spelled_in d = spelled_by (formula_of d) d
