-- Injection of a key into a value (Indexed Database API 3.0, "inject a key into a value using a key path").
--     can_inject            whether a key could be injected
--     injected              the value with the key's value put in
--     has_room_for          the list of properties that gets a member has room for it
use Rattle.std.specs.Prelude.{◌==◌, ℕ, Bool, true, false, not, ◌&&◌, List, [], ◌∷◌, length, nat_lt, option_map, unwrap_or}
use Rattle.clone_values.specs.Tree.{Tree, array, object, no_members, members_of}
use Rattle.clone_values.specs.KeyTree.{KeyTree}
use Rattle.clone_values.specs.Names.{get_member, set_member}
use Rattle.clone_values.specs.declared.path_types.PathSpec.{PathSpec}
use Rattle.clone_values.specs.declared.path_types.PathSpec.TheVariants.{One, Many}
use Rattle.path_grammar.specs.KeyPath.{parts_of}
use Rattle.clone_values.specs.KeyValues.{value_of_key}
use Rattle.key_paths.specs.Evaluation.{takes_length, named_properties}

-- an Object or an Array, and nothing else
abbrev pub is_holder : Tree → Bool
is_holder (array ts ms) = true
is_holder (object ms) = true
is_holder _ = false

-- all identifiers but the last
abbrev pub all_but_last : List (List ℕ) → List (List ℕ)
all_but_last [] = []
all_but_last (n ∷ []) = []
all_but_last (n ∷ m ∷ ns) = n ∷ all_but_last (m ∷ ns)

-- a walk along these identifiers ends at an Object or Array, or at a missing property of one; it never goes to the
-- length of an Array
abbrev pub ends_at_holder : List (List ℕ) → Tree → Bool
ends_at_holder [] t = is_holder t
ends_at_holder (n ∷ ns) t = is_holder t && not (takes_length n t) && unwrap_or (option_map (ends_at_holder ns) (get_member (named_properties t) n)) true

-- whether a key could be injected by this path: by the empty string or a list never
abbrev pub can_inject : PathSpec → Tree → Bool
can_inject (One s) t = not (length s == 0) && ends_at_holder (all_but_last (parts_of s)) t
can_inject (Many ss) t = false

-- the Object or Array with these properties
abbrev pub with_properties : Tree → List (List ℕ × Tree) → Tree
with_properties (array ts ms) ps = array ts (members_of ps)
with_properties (object ms) ps = object (members_of ps)
with_properties t ps = t

-- what the property of that name holds; where it is missing, a new Object
abbrev pub held_under : List ℕ → List (List ℕ × Tree) → Tree
held_under n ms = unwrap_or (get_member ms n) (object no_members)

-- with the value at the end of these identifiers, and the missing Objects made
abbrev pub placed : List (List ℕ) → Tree → Tree → Tree
placed [] t v = v
placed (n ∷ ns) t v = with_properties t (set_member (named_properties t) n (placed ns (held_under n (named_properties t)) v))

-- with the key's value at the end of the path
abbrev pub injected : PathSpec → Tree → KeyTree → Tree
injected (One s) t k = placed (parts_of s) t (value_of_key k)
injected (Many ss) t k = t

-- where the walk comes to a missing property, its list has room for one more
abbrev pub has_room_along : List (List ℕ) → Tree → Bool
has_room_along [] t = true
has_room_along (n ∷ ns) t = unwrap_or (option_map (has_room_along ns) (get_member (named_properties t) n)) (nat_lt (length (named_properties t)) 4294967295)

-- the list of properties that gets a member stays within its greatest size
abbrev pub has_room_for : PathSpec → Tree → Bool
has_room_for (One s) t = has_room_along (parts_of s) t
has_room_for (Many ss) t = true

-- ---- the same of a list of properties, for the clauses of private functions
abbrev pub ends_in : List (List ℕ) → List (List ℕ × Tree) → Bool
ends_in [] ms = true
ends_in (n ∷ ns) ms = unwrap_or (option_map (ends_at_holder ns) (get_member ms n)) true

abbrev pub placed_in : List (List ℕ) → List (List ℕ × Tree) → Tree → List (List ℕ × Tree)
placed_in [] ms v = ms
placed_in (n ∷ ns) ms v = set_member ms n (placed ns (held_under n ms) v)

abbrev pub has_room_in : List (List ℕ) → List (List ℕ × Tree) → Bool
has_room_in [] ms = true
has_room_in (n ∷ ns) ms = unwrap_or (option_map (has_room_along ns) (get_member ms n)) (nat_lt (length ms) 4294967295)
