-- One level of a value's document: what kind of value it is, with what it holds still unread.
--     Level                 the forms
--     level_in              the level of a document, where it has one
--     made_of               the value that a level makes once what it holds is read
--     level_seen, IsShort   a level of the code, and that none of its lists is too long
use Rattle.std.specs.Prelude.{List, [], true, false, if◌then◌else◌, Option, Some, None, option_map, option_and_then, ⊤}
use Rattle.idb_base.specs.Lists.{IsWithinLimit}
use Rattle.clone_values.specs.Tree.{Tree, undefined, null, boolean, function, map_object, set_object, trees_of, pairs_of}
use Rattle.clone_values.specs.Names.{set_members}
use Rattle.clone_values.specs.View.{tree_of}
use Rattle.serde_json.specs.Data.{Data, Items, Members}
use Rattle.serde_json.specs.Data as json
use Rattle.serde_json.specs.Events.{items_len, members_len}
use Rattle.serde_json.specs.View.{items_view, members_view}
use Rattle.value_json.specs.Marks.{mark_in, is_full_array, any_marked}
use Rattle.value_json.specs.Reading.{int_in, date_in, text_in, bytes_in, short_list, plain_array, plain_object, full_array, set_of, map_of, named_in, trees_in, pairs_in, members_in}
use Rattle.value_json.specs.declared.levels.Level.{Level as LevelRead}
use Rattle.value_json.specs.declared.levels.Level.TheVariants as read
use Rattle.value_json.specs.declared.marks.Mark.{Mark}
use Rattle.value_json.specs.declared.marks.Mark.TheVariants as mark

-- a value that holds no other; an Array of items, alone or with a list of names and values; an Object of members, or of
-- a list of names and values; a Map of a list of pairs; a Set of a list
pub data Level : Type 0 where
  leaf : Tree → Level
  items_level : Items → Level
  named_items_level : Items → Items → Level
  members_level : Members → Level
  named_members_level : Items → Level
  entries_level : Items → Level
  set_level : Items → Level

-- a list that isn't too long
abbrev pub short_in : Items → Option Items
short_in ds = short_list (items_len ds) (Some ds)

-- members that aren't too many
abbrev pub few_in : Members → Option Members
few_in ms = short_list (members_len ms) (Some ms)

-- two lists, of items and of names with values
abbrev pub lists_level : Data → Data → Option Level
lists_level (json.array ds) (json.array es) = option_and_then (λ items. option_map (named_items_level items) (short_in es)) (short_in ds)
lists_level _ _ = None

-- what stands behind the one name of an object
abbrev pub marked_level : Option Mark → Data → Option Level
marked_level (Some mark.Undefined) json.null = Some (leaf undefined)
marked_level (Some mark.Function) json.null = Some (leaf function)
marked_level (Some mark.Date) (json.number n) = option_map leaf (date_in n)
marked_level (Some mark.Bytes) (json.string s) = option_map leaf (bytes_in s)
marked_level (Some mark.Array) (json.array ds) = option_map items_level (short_in ds)
marked_level (Some mark.Object) (json.array ds) = option_map named_members_level (short_in ds)
marked_level (Some mark.Map) (json.array ds) = option_map entries_level (short_in ds)
marked_level (Some mark.Set) (json.array ds) = option_map set_level (short_in ds)
marked_level _ _ = None

-- an object with a name that begins with `$`
abbrev pub object_level : Members → Option Level
object_level json.no_members = None
object_level (json.member name d json.no_members) = marked_level (mark_in name) d
object_level (json.member name d (json.member other e json.no_members)) = if is_full_array name other then lists_level d e else None
object_level (json.member name d (json.member other e (json.member third f ms))) = None

abbrev pub level_in : Data → Option Level
level_in json.null = Some (leaf null)
level_in (json.boolean b) = Some (leaf (boolean b))
level_in (json.number n) = option_map leaf (int_in n)
level_in (json.string s) = option_map leaf (text_in s)
level_in (json.array ds) = option_map items_level (short_in ds)
level_in (json.object ms) = if any_marked ms then object_level ms else option_map members_level (few_in ms)

abbrev pub made_of : Level → Option Tree
made_of (leaf t) = Some t
made_of (items_level ds) = option_map plain_array (trees_in ds)
made_of (named_items_level ds es) = full_array (trees_in ds) (named_in true (pairs_in es))
made_of (members_level ms) = option_map plain_object (option_map (set_members []) (members_in ms))
made_of (named_members_level ds) = option_map plain_object (named_in false (pairs_in ds))
made_of (entries_level ds) = option_map (λ ps. map_object (pairs_of (map_of ps))) (pairs_in ds)
made_of (set_level ds) = option_map (λ ts. set_object (trees_of (set_of ts))) (trees_in ds)

-- ---- as the code reads it
abbrev pub level_seen : LevelRead → Level
level_seen (read.Leaf v) = leaf (tree_of v)
level_seen (read.Array list) = items_level (items_view list.now.items)
level_seen (read.NamedArray list names) = named_items_level (items_view list.now.items) (items_view names.now.items)
level_seen (read.Object members) = members_level (members_view members.now.entries)
level_seen (read.NamedObject names) = named_members_level (items_view names.now.items)
level_seen (read.Map list) = entries_level (items_view list.now.items)
level_seen (read.Set list) = set_level (items_view list.now.items)

abbrev pub IsShort : LevelRead → Type 0
IsShort (read.Leaf v) = ⊤
IsShort (read.Array list) = IsWithinLimit list.now.items
IsShort (read.NamedArray list names) = IsWithinLimit list.now.items × IsWithinLimit names.now.items
IsShort (read.Object members) = IsWithinLimit members.now.entries
IsShort (read.NamedObject names) = IsWithinLimit names.now.items
IsShort (read.Map list) = IsWithinLimit list.now.items
IsShort (read.Set list) = IsWithinLimit list.now.items
