-- The whole reading is that of the level, and then of what it holds.
use Rattle.std.proofs.Common.{◌≡◌, ℕ, Bool, true, false, if◌then◌else◌, List, [], ◌∷◌, Option, Some, None, option_map, option_and_then, refl, sym, ◌∙◌, ap, nat_le, string_bytes}
use Rattle.clone_values.specs.Tree.{Tree}
use Rattle.clone_values.specs.Names.{set_members}
use Rattle.serde_json.specs.Data.{Data, Num, Items, Members}
use Rattle.serde_json.specs.Data as json
use Rattle.serde_json.specs.Events.{items_len, members_len}
use Rattle.serde_json.specs.View.{view, members_view}
use Rattle.serde_json.proofs.Views.{Entry}
use Rattle.value_json.specs.Marks.{mark_in, is_full_array, any_marked}
use Rattle.value_json.specs.declared.marks.Mark.{Mark}
use Rattle.value_json.specs.declared.marks.Mark.TheVariants as mark
use Rattle.value_json.specs.declared.error.JsonError.{JsonError}
use Rattle.value_json.specs.declared.error.JsonError.TheVariants.{Spelling, NoMemory}
use Rattle.value_json.specs.Reading.{IsUnread, int_in, date_in, text_in, bytes_in, short_list, plain_object, full_array, named_in, tree_in, object_in, marked_in, list_in, pair_list_in, trees_in, pairs_in, members_in}
use Rattle.value_json.specs.Levels.{Level, leaf, items_level, named_items_level, named_members_level, entries_level, set_level, members_level, short_in, lists_level, marked_level, object_level, level_in, made_of}
use Rattle.value_json.specs.Laws.{ReadsByLevels}

a_leaf : (o : Option Tree) → o ≡ option_and_then made_of (option_map leaf o)
a_leaf None = refl
a_leaf (Some t) = refl

-- a list, and what is made of what it reads as
a_list : {A : Type 0} (n : ℕ) (ds : Items) (form : Items → Level) (o : Option A) (f : A → Tree) → made_of (form ds) ≡ option_map f o
    → option_map f (short_list n o) ≡ option_and_then made_of (option_map form (short_list n (Some ds)))
a_list n ds form o f e = by (nat_le n 4294967295)
  where
    by : (b : Bool) → option_map f (if b then o else None) ≡ option_and_then made_of (option_map form (if b then Some ds else None))
    by true = sym e
    by false = refl

without_names : (o : Option (List Tree)) → full_array o None ≡ None
without_names None = refl
without_names (Some ts) = refl

two_lists : (ds es : Items) → full_array (short_list (items_len ds) (trees_in ds)) (named_in true (short_list (items_len es) (pairs_in es))) ≡ option_and_then made_of (lists_level (json.array ds) (json.array es))
two_lists ds es = by (nat_le (items_len ds) 4294967295) (nat_le (items_len es) 4294967295)
  where
    by : (b c : Bool) → full_array (if b then trees_in ds else None) (named_in true (if c then pairs_in es else None))
        ≡ option_and_then made_of (option_and_then (λ items. option_map (named_items_level items) (if c then Some es else None)) (if b then Some ds else None))
    by true true = refl
    by true false = without_names (trees_in ds)
    by false c = refl

both_lists : (d e : Data) → full_array (list_in d) (named_in true (pair_list_in e)) ≡ option_and_then made_of (lists_level d e)
both_lists (json.array ds) (json.array es) = two_lists ds es
both_lists (json.array ds) _ = without_names (list_in (json.array ds))
both_lists _ e = refl

a_mark : (m : Option Mark) (d : Data) → marked_in m d ≡ option_and_then made_of (marked_level m d)
a_mark (Some mark.Date) (json.number n) = a_leaf (date_in n)
a_mark (Some mark.Bytes) (json.string s) = a_leaf (bytes_in s)
a_mark (Some mark.Undefined) json.null = refl
a_mark (Some mark.Function) json.null = refl
a_mark (Some mark.Array) (json.array ds) = a_list _ ds _ (trees_in ds) _ refl
a_mark (Some mark.Object) (json.array ds) = by (nat_le (items_len ds) 4294967295)
  where
    by : (b : Bool) → option_map plain_object (named_in false (if b then pairs_in ds else None)) ≡ option_and_then made_of (option_map named_members_level (if b then Some ds else None))
    by true = refl
    by false = refl
a_mark (Some mark.Map) (json.array ds) = a_list _ ds _ (pairs_in ds) _ refl
a_mark (Some mark.Set) (json.array ds) = a_list _ ds _ (trees_in ds) _ refl
a_mark _ _ = refl

either : (b : Bool) (d e : Data) → (if b then full_array (list_in d) (named_in true (pair_list_in e)) else None) ≡ option_and_then made_of (if b then lists_level d e else None)
either true d e = both_lists d e
either false d e = refl

an_object : (ms : Members) → object_in ms ≡ option_and_then made_of (object_level ms)
an_object json.no_members = refl
an_object (json.member name d json.no_members) = a_mark (mark_in name) d
an_object (json.member name d (json.member other e json.no_members)) = either (is_full_array name other) d e
an_object (json.member name d (json.member other e (json.member third f ms))) = refl

pub by_levels : (d : Data) → ReadsByLevels d
by_levels json.null = refl
by_levels (json.boolean b) = refl
by_levels (json.number n) = a_leaf (int_in n)
by_levels (json.string s) = a_leaf (text_in s)
by_levels (json.array ds) = a_list _ ds _ (trees_in ds) _ refl
by_levels (json.object ms) = by (any_marked ms) (nat_le (members_len ms) 4294967295)
  where
    by : (b c : Bool) → (if b then object_in ms else option_map plain_object (option_map (set_members []) (if c then members_in ms else None)))
        ≡ option_and_then made_of (if b then object_level ms else option_map members_level (if c then Some ms else None))
    by true c = an_object ms
    by false true = refl
    by false false = refl

-- an object of two members
pub two_members_level : (es left more : List Entry) (m o : Entry) → es ≡ m ∷ left → left ≡ o ∷ more → more ≡ [] → is_full_array (string_bytes m.0) (string_bytes o.0) ≡ true
    → object_level (members_view es) ≡ lists_level (view m.1) (view o.1)
two_members_level es left more m o first second end names = rw (first, second, end, names) refl
