-- The JSON document that a value is written as.
--     json_of               that of a value
use Rattle.std.specs.Prelude.{ℕ, Bool, false, ◌||◌, List, [], ◌∷◌, if◌then◌else◌, codes}
use Rattle.clone_values.specs.Tree.{Tree, Trees, Members, PairTrees, undefined, null, boolean, int, text, date, bytes, array, object, map_object, set_object, function, no_trees, tree_more, no_members, member_more, no_pairs, pair_more}
use Rattle.serde_json.specs.Data.{Data, put}
use Rattle.serde_json.specs.Data as json
use Rattle.serde_json.specs.Find.{of_integer}
use Rattle.serde_json.specs.View.{items_of}
use Rattle.hex.specs.Hex.{encode_lower}
use Rattle.value_json.specs.Marks.{begins_marked}

-- an object of one member
abbrev pub marked : List ℕ → Data → Data
marked name d = json.object (json.member name d json.no_members)

abbrev pub list_data : List Data → Data
list_data ds = json.array (items_of ds)

-- a list of two
abbrev pub pair_data : Data → Data → Data
pair_data d e = json.array (json.item d (json.item e json.no_items))

-- some property's name begins with `$`
abbrev pub any_marked_name : Members → Bool
any_marked_name no_members = false
any_marked_name (member_more n t ms) = begins_marked n || any_marked_name ms

-- items, and named properties where there are some
abbrev pub array_data : List Data → List Data → Data
array_data items [] = list_data items
array_data items (d ∷ ds) = json.object (json.member (codes "$array") (list_data items) (json.member (codes "$named") (list_data (d ∷ ds)) json.no_members))

abbrev mutual
  pub json_of : Tree → Data
  json_of undefined = marked (codes "$undefined") json.null
  json_of null = json.null
  json_of (boolean b) = json.boolean b
  json_of (int n) = json.number (of_integer n)
  json_of (text s) = json.string s
  json_of (date d) = marked (codes "$date") (json.number (of_integer d))
  json_of (bytes b) = marked (codes "$bytes") (json.string (encode_lower b))
  json_of (array ts ms) = array_data (items_json ts) (named_json ms)
  json_of (object ms) = if any_marked_name ms then marked (codes "$object") (list_data (named_json ms)) else json.object (members_json json.no_members ms)
  json_of (map_object ps) = marked (codes "$map") (list_data (pairs_json ps))
  json_of (set_object ts) = marked (codes "$set") (list_data (items_json ts))
  json_of function = marked (codes "$function") json.null

  pub items_json : Trees → List Data
  items_json no_trees = []
  items_json (tree_more t ts) = json_of t ∷ items_json ts

  -- lists of a key and a value
  pub pairs_json : PairTrees → List Data
  pairs_json no_pairs = []
  pairs_json (pair_more s t ps) = pair_data (json_of s) (json_of t) ∷ pairs_json ps

  -- lists of a name and a value
  pub named_json : Members → List Data
  named_json no_members = []
  named_json (member_more n t ms) = pair_data (json.string n) (json_of t) ∷ named_json ms

  -- these members, and each property at its name
  pub members_json : json.Members → Members → json.Members
  members_json done no_members = done
  members_json done (member_more n t ms) = members_json (put n (json_of t) done) ms
