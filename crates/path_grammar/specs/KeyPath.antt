-- The grammar of key paths (Indexed Database API 3.0, "valid key path").
--     is_identifier         an identifier, as the list of its characters
--     parts_of              what stands between the full stops of a string
--     is_part_name          what the parts of a key path are: names that properties may have
--     is_path_string        a string that is a key path: a text that fits_grammar
--     is_key_path           the strings and lists of strings that are key paths
use Rattle.std.specs.Prelude.{ℕ, Bool, false, not, ◌&&◌, ◌||◌, ◌==◌, nat_le, List, [], ◌∷◌, length}
use Rattle.std.specs.List.{list_all, slice_split}
use Rattle.std.specs.Str.{chars}
use Rattle.unicode_ident.specs.Ident.{is_xid_start, is_xid_continue}
use Rattle.clone_values.specs.WellFormed.{is_text, is_within_limit, are_digits}
use Rattle.path_grammar.specs.declared.TheConstants.{GREATEST_PART_COUNT}
use Rattle.clone_values.specs.declared.path_types.PathSpec.{PathSpec}
use Rattle.clone_values.specs.declared.path_types.PathSpec.TheVariants.{One, Many}

-- `$`, `_` or an XID_Start character
abbrev pub starts_identifier : ℕ → Bool
starts_identifier c = (c == 36) || (c == 95) || is_xid_start c

-- `$`, U+200C, U+200D or an XID_Continue character
abbrev pub continues_identifier : ℕ → Bool
continues_identifier c = (c == 36) || (c == 8204) || (c == 8205) || is_xid_continue c

abbrev pub is_identifier : List ℕ → Bool
is_identifier [] = false
is_identifier (c ∷ cs) = starts_identifier c && list_all continues_identifier cs

-- the parts of a string between its full stops, one more than these
abbrev pub parts_of : List ℕ → List (List ℕ)
parts_of s = slice_split (λ b. b == 46) s

-- a text that isn't made of digits alone, which name the items of an Array
abbrev pub is_part_name : List ℕ → Bool
is_part_name p = is_text p && not (are_digits p)

-- the empty string, or at most 99 identifiers joined by single full stops
abbrev pub fits_grammar : List ℕ → Bool
fits_grammar s = (length s == 0) || (nat_le (length (parts_of s)) GREATEST_PART_COUNT && list_all (λ p. is_identifier (chars p)) (parts_of s))

-- a text that keeps to the grammar
abbrev pub is_path_string : List ℕ → Bool
is_path_string s = is_text s && fits_grammar s

-- such a string, or a list of one or more, of a stored size
abbrev pub is_key_path : PathSpec → Bool
is_key_path (One s) = is_path_string s
is_key_path (Many ss) = is_within_limit ss && not (length ss == 0) && list_all is_path_string ss
