-- The member names that tell one kind of value from another in a document.
--     mark_in          what the name of an object's one member stands for
--     begins_marked    whether a name begins with `$`, as only these names may
use Rattle.std.specs.Prelude.{ℕ, Bool, false, ◌||◌, ◌&&◌, ◌==◌, List, [], ◌∷◌, if◌then◌else◌, Option, Some, None, codes}
use Rattle.std.specs.Str.{bytes_eq}
use Rattle.serde_json.specs.Data.{Members, no_members, member}
use Rattle.value_json.specs.declared.marks.Mark.{Mark}
use Rattle.value_json.specs.declared.marks.Mark.TheVariants as mark

abbrev pub mark_in : List ℕ → Option Mark
mark_in name = if bytes_eq name (codes "$undefined") then Some mark.Undefined
    else if bytes_eq name (codes "$function") then Some mark.Function
    else if bytes_eq name (codes "$date") then Some mark.Date
    else if bytes_eq name (codes "$bytes") then Some mark.Bytes
    else if bytes_eq name (codes "$array") then Some mark.Array
    else if bytes_eq name (codes "$object") then Some mark.Object
    else if bytes_eq name (codes "$map") then Some mark.Map
    else if bytes_eq name (codes "$set") then Some mark.Set
    else None

-- the names of the one object with two members: items and named properties
abbrev pub is_full_array : List ℕ → List ℕ → Bool
is_full_array name other = bytes_eq name (codes "$array") && bytes_eq other (codes "$named")

abbrev pub begins_marked : List ℕ → Bool
begins_marked [] = false
begins_marked (b ∷ bs) = b == 36

-- some name of the object begins with `$`
abbrev pub any_marked : Members → Bool
any_marked no_members = false
any_marked (member name d ms) = begins_marked name || any_marked ms
