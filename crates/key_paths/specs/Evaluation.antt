-- Evaluation of key paths, and extraction of keys (Indexed Database API 3.0, "extract a key from a value using a key path").
--     evaluated             the value that a key path gives on a value, or none: failure
--     Extract, AreKeys      what an extraction comes to; its keys are well formed
--     extracted             the key or keys that a key path and the multi-entry flag give
use Rattle.std.specs.Prelude.{⊤, ◌==◌, ◌&&◌, nat_eq, ℕ, Bool, pos, List, [], ◌∷◌, length, map, codes, if◌then◌else◌, Option, Some, None, option_map}
use Rattle.std.specs.Option.{is_some, option_and_then}
use Rattle.std.specs.Cmp.Lexicographic.{pointwise}
use Rattle.clone_values.specs.Tree.{Tree, undefined, int, text, array, object, no_members, trees_of, list_of_trees, list_of_members}
use Rattle.clone_values.specs.KeyTree.{KeyTree}
use Rattle.std.specs.List.{All}
use Rattle.clone_values.specs.KeyValues.{IsKey}
use Rattle.clone_values.specs.Names.{get_member}
use Rattle.clone_values.specs.declared.path_types.PathSpec.{PathSpec}
use Rattle.clone_values.specs.declared.path_types.PathSpec.TheVariants.{One, Many}
use Rattle.key_order.specs.KeyOrder.{code_units}
use Rattle.path_grammar.specs.KeyPath.{parts_of}
use Rattle.key_order.specs.Conversion.{key_of, keys_of}

-- the identifier `length`
abbrev pub is_length : List ℕ → Bool
is_length n = pointwise nat_eq n (codes "length")

-- what `length` gives: the number of code units of a Text, or of items of an Array
abbrev pub length_of : Tree → Option Tree
length_of (text s) = Some (int (pos (length (code_units s))))
length_of (array ts ms) = Some (int (pos (length (list_of_trees ts))))
length_of _ = None

-- the named properties of an Object or Array; nothing else has any
abbrev pub named_properties : Tree → List (List ℕ × Tree)
named_properties (array ts ms) = list_of_members ms
named_properties (object ms) = list_of_members ms
named_properties _ = []

-- a property that is Undefined counts as missing
abbrev pub unless_undefined : Option Tree → Option Tree
unless_undefined (Some undefined) = None
unless_undefined o = o

-- the value of the property of that name
abbrev pub property_of : List ℕ → Tree → Option Tree
property_of n t = unless_undefined (get_member (named_properties t) n)

-- whether this identifier is `length`, of a Text or an Array
abbrev pub takes_length : List ℕ → Tree → Bool
takes_length n t = is_length n && is_some (length_of t)

-- one step: `length` of a Text or an Array, or else a property
abbrev pub step_of : List ℕ → Tree → Option Tree
step_of n t = if takes_length n t then length_of t else property_of n t

-- step by step along these identifiers
abbrev pub walked : List (List ℕ) → Tree → Option Tree
walked [] t = Some t
walked (n ∷ ns) t = option_and_then (walked ns) (step_of n t)

-- the empty string gives the value itself
abbrev pub string_evaluated : List ℕ → Tree → Option Tree
string_evaluated s t = if length s == 0 then Some t else walked (parts_of s) t

-- all of them, where all are there
abbrev pub all_there : List (Option Tree) → Option (List Tree)
all_there [] = Some []
all_there (None ∷ os) = None
all_there (Some t ∷ os) = option_map (λ ts. t ∷ ts) (all_there os)

-- a list gives the Array of its parts' values, and fails where any part fails
abbrev pub evaluated : PathSpec → Tree → Option Tree
evaluated (One s) t = string_evaluated s t
evaluated (Many ss) t = option_map (λ ts. array (trees_of ts) no_members) (all_there (map (λ s. string_evaluated s t) ss))

-- what an extraction comes to
pub data Extract : Type 0 where
  one : KeyTree → Extract
  many : List KeyTree → Extract
  invalid : Extract
  failure : Extract

abbrev pub one_or_invalid : Option KeyTree → Extract
one_or_invalid (Some k) = one k
one_or_invalid None = invalid

-- the key, or each of the keys, is well formed
abbrev pub AreKeys : Extract → Type 0
AreKeys (one k) = IsKey k
AreKeys (many ks) = All IsKey ks
AreKeys invalid = ⊤
AreKeys failure = ⊤

-- multi-entry conversion is for an Array alone
abbrev pub converted : Bool → Tree → Extract
converted multi (array ts ms) = if multi then many (keys_of (list_of_trees ts)) else one_or_invalid (key_of (array ts ms))
converted multi t = one_or_invalid (key_of t)

abbrev pub extracted_from : Bool → Option Tree → Extract
extracted_from multi (Some t) = converted multi t
extracted_from multi None = failure

-- failure where evaluation fails, else what its value converts to
abbrev pub extracted : PathSpec → Bool → Tree → Extract
extracted path multi t = extracted_from multi (evaluated path t)
