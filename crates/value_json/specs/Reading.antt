-- What a JSON document reads as.
--     IsUnread                   what an error says of reading
--     tree_in                    the value, where the document has a reading
--     trees_in, pairs_in         the values of a list, and its pairs
--     members_in                 the names and values of an object's members
--     set_of, map_of, named_in      what is made of these
use Rattle.std.specs.Prelude.{◌≡◌, ⊤, ℕ, Bool, true, false, not, ◌&&◌, ◌||◌, nat_le, List, [], ◌∷◌, if◌then◌else◌, Option, Some, None, option_map, option_and_then, length, ◌==◌, Result, Ok, Err}
use Rattle.std.specs.List.{fold}
use Rattle.idb_base.specs.declared.limits.TheConstants.{GREATEST_LENGTH}
use Rattle.clone_values.specs.Tree.{Tree, undefined, null, boolean, int, text, date, bytes, array, object, map_object, set_object, function, no_members, trees_of, members_of, pairs_of}
use Rattle.clone_values.specs.Names.{set_members}
use Rattle.clone_values.specs.Sameness.{put_once, put_pair}
use Rattle.clone_values.specs.WellFormed.{is_int, is_date, is_text, is_byte_string, is_array_name}
use Rattle.serde_json.specs.Data.{Data, Num, Items, Members}
use Rattle.serde_json.specs.Data as json
use Rattle.serde_json.specs.Events.{items_len, members_len}
use Rattle.serde_json.specs.Find.{as_i64}
use Rattle.hex.specs.Hex.{decode_of}
use Rattle.hex.specs.declared.error.FromHexError.{FromHexError}
use Rattle.value_json.specs.declared.error.JsonError.{JsonError}
use Rattle.value_json.specs.declared.error.JsonError.TheVariants.{Spelling, NoMemory}
use Rattle.value_json.specs.Marks.{mark_in, is_full_array, any_marked}
use Rattle.value_json.specs.declared.marks.Mark.{Mark}
use Rattle.value_json.specs.declared.marks.Mark.TheVariants as mark

-- What an error says of reading: that there is no reading, or for want of memory nothing at all.
abbrev pub IsUnread : {Y : Type 0} → JsonError → Option Y → Type 0
IsUnread Spelling read = read ≡ None
IsUnread NoMemory read = ⊤

-- the value, where the test passes
abbrev pub tested : {A : Type 0} → Bool → A → Option A
tested b a = if b then Some a else None

-- ---- values without members

abbrev pub int_in : Num → Option Tree
int_in n = option_and_then (λ z. tested (is_int z) (int z)) (as_i64 n)

abbrev pub date_in : Num → Option Tree
date_in n = option_and_then (λ z. tested (is_date z) (date z)) (as_i64 n)

abbrev pub text_in : List ℕ → Option Tree
text_in s = tested (is_text s) (text s)

abbrev pub decoded : Result (List ℕ) FromHexError → Option Tree
decoded (Ok bs) = tested (is_byte_string bs) (bytes bs)
decoded (Err e) = None

-- hex digits, two a byte
abbrev pub bytes_in : List ℕ → Option Tree
bytes_in s = decoded (decode_of s)

-- ---- lists: with at most 4,294,967,295 members

abbrev pub short_list : {A : Type 0} → ℕ → Option A → Option A
short_list n o = if nat_le n GREATEST_LENGTH then o else None

-- an Array of these items alone
abbrev pub plain_array : List Tree → Tree
plain_array ts = array (trees_of ts) no_members

-- an Object of these properties
abbrev pub plain_object : List (List ℕ × Tree) → Tree
plain_object ms = object (members_of ms)

-- an Array of these items and named properties
abbrev pub full_array : Option (List Tree) → Option (List (List ℕ × Tree)) → Option Tree
full_array items names = option_and_then (λ ts. option_map (λ ms. array (trees_of ts) (members_of ms)) names) items

-- put one by one: the members of a Set, the entries of a Map
abbrev pub set_of : List Tree → List Tree
set_of ts = fold put_once [] ts

abbrev pub map_of : List (Tree × Tree) → List (Tree × Tree)
map_of ps = fold (λ done p. put_pair done p.0 p.1) [] ps

-- a property whose name is a text that is allowed
abbrev pub named_one : Bool → Tree → Tree → Option (List ℕ × Tree)
named_one of_array (text n) v = tested (not of_array || is_array_name n) (n, v)
named_one of_array _ v = None

abbrev pub each_named : Bool → List (Tree × Tree) → Option (List (List ℕ × Tree))
each_named of_array [] = Some []
each_named of_array (p ∷ ps) = option_and_then (λ m. option_map (λ ms. m ∷ ms) (each_named of_array ps)) (named_one of_array p.0 p.1)

-- these properties in the order of their names, where none is named as another is
abbrev pub named_apart : List (List ℕ × Tree) → Option (List (List ℕ × Tree))
named_apart ms = tested (length (set_members [] ms) == length ms) (set_members [] ms)

-- the properties that a list of names and values has, of an Array or an Object
abbrev pub named_in : Bool → Option (List (Tree × Tree)) → Option (List (List ℕ × Tree))
named_in of_array pairs = option_and_then named_apart (option_and_then (each_named of_array) pairs)

-- ---- documents

abbrev mutual
  pub tree_in : Data → Option Tree
  tree_in json.null = Some null
  tree_in (json.boolean b) = Some (boolean b)
  tree_in (json.number n) = int_in n
  tree_in (json.string s) = text_in s
  tree_in (json.array ds) = option_map plain_array (short_list (items_len ds) (trees_in ds))
  tree_in (json.object ms) = if any_marked ms then object_in ms
      else option_map plain_object (option_map (set_members []) (short_list (members_len ms) (members_in ms)))

  -- an object with a name that begins with `$`
  pub object_in : Members → Option Tree
  object_in json.no_members = None
  object_in (json.member name d json.no_members) = marked_in (mark_in name) d
  object_in (json.member name d (json.member other e json.no_members)) =
      if is_full_array name other then full_array (list_in d) (named_in true (pair_list_in e)) else None
  object_in (json.member name d (json.member other e (json.member third f ms))) = None

  -- what stands behind the one name of an object
  pub marked_in : Option Mark → Data → Option Tree
  marked_in (Some mark.Undefined) json.null = Some undefined
  marked_in (Some mark.Function) json.null = Some function
  marked_in (Some mark.Date) (json.number n) = date_in n
  marked_in (Some mark.Bytes) (json.string s) = bytes_in s
  marked_in (Some mark.Array) (json.array ds) = option_map plain_array (short_list (items_len ds) (trees_in ds))
  marked_in (Some mark.Object) (json.array ds) = option_map plain_object (named_in false (short_list (items_len ds) (pairs_in ds)))
  marked_in (Some mark.Map) (json.array ds) = option_map (λ ps. map_object (pairs_of (map_of ps))) (short_list (items_len ds) (pairs_in ds))
  marked_in (Some mark.Set) (json.array ds) = option_map (λ ts. set_object (trees_of (set_of ts))) (short_list (items_len ds) (trees_in ds))
  marked_in _ _ = None

  -- a list of values
  pub list_in : Data → Option (List Tree)
  list_in (json.array ds) = short_list (items_len ds) (trees_in ds)
  list_in _ = None

  -- a list of pairs
  pub pair_list_in : Data → Option (List (Tree × Tree))
  pair_list_in (json.array ds) = short_list (items_len ds) (pairs_in ds)
  pair_list_in _ = None

  -- each of a list
  pub trees_in : Items → Option (List Tree)
  trees_in json.no_items = Some []
  trees_in (json.item d ds) = option_and_then (λ t. option_map (λ ts. t ∷ ts) (trees_in ds)) (tree_in d)

  pub pairs_in : Items → Option (List (Tree × Tree))
  pairs_in json.no_items = Some []
  pairs_in (json.item d ds) = option_and_then (λ p. option_map (λ ps. p ∷ ps) (pairs_in ds)) (pair_in d)

  -- a list of two values
  pub pair_in : Data → Option (Tree × Tree)
  pair_in (json.array (json.item k (json.item v json.no_items))) = option_and_then (λ s. option_map (λ t. (s, t)) (tree_in v)) (tree_in k)
  pair_in _ = None

  -- each member of an object
  pub members_in : Members → Option (List (List ℕ × Tree))
  members_in json.no_members = Some []
  members_in (json.member name d ms) = if is_text name
      then option_and_then (λ t. option_map (λ ps. (name, t) ∷ ps) (members_in ms)) (tree_in d) else None
