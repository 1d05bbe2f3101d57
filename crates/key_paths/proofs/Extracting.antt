-- What an extraction comes to, without its keys.
--     kind_of_one           by whether a value is a key
--     Kind                  what a list of strings comes to, by the values so far and what the other strings give
use Rattle.std.proofs.Common.{◌≡◌, nat_le, Bool, true, false, ◌&&◌, List, [], ◌∷◌, map, ℕ, Option, Some, None, is_some, option_map, max, ◌+◌, refl, sym, ◌∙◌, ap, arith}
use Rattle.std.proofs.lemmas.Grind.{common_steps}
use Rattle.std.specs.List.{list_all}
use Rattle.clone_values.specs.Tree.{Tree, array, no_members, trees_of}
use Rattle.clone_values.specs.KeyTree.{KeyTree}
use Rattle.clone_values.specs.Values.{depth_of, trees_depth}
use Rattle.clone_values.specs.declared.path_types.PathSpec.TheVariants.{Many}
use Rattle.key_paths.specs.declared.extraction.Extraction.{Extraction}
use Rattle.key_paths.specs.declared.extraction.Extraction.TheVariants as kind
use Rattle.key_order.specs.Conversion.{key_of, is_convertible, are_convertible, fits_in_array}
use Rattle.key_paths.specs.Evaluation.{one_or_invalid, all_there, string_evaluated, extracted_from, extracted}
use Rattle.key_paths.specs.View.{extraction_of, key_or_invalid}
use Rattle.key_paths.proofs.Convertible.{array_tests}

pub kind_of_one : (o : Option KeyTree) (b : Bool) → b ≡ is_some o → key_or_invalid b ≡ extraction_of (one_or_invalid o)
kind_of_one None b e = ap key_or_invalid e
kind_of_one (Some k) b e = ap key_or_invalid e

abbrev pub Kind : Bool → Bool → Option (List Tree) → Extraction
Kind multi b None = kind.Failure
Kind true b (Some ts) = kind.Keys
Kind false b (Some ts) = key_or_invalid (b && list_all fits_in_array ts)

-- ---- an Array of the values
deeper : (d e : ℕ) → nat_le (1 + max (max d e) 0) 100 ≡ (nat_le d 99 && nat_le (1 + max e 0) 100)
deeper d e = grind (arith, common_steps)

pub turned : (a b c d : Bool) → ((a && b) && (c && d)) ≡ ((a && c) && (b && d))
turned true true c d = refl
turned true false true d = refl
turned true false false d = refl
turned false b c d = refl

pub all_fit : (ts : List Tree) → (are_convertible (trees_of ts) && nat_le (1 + max (trees_depth (trees_of ts)) 0) 100) ≡ list_all fits_in_array ts
all_fit [] = refl
all_fit (t ∷ ts) =
    let rest = are_convertible (trees_of ts) in
    ap (λ b. is_convertible t && rest && b) (deeper (depth_of t) (trees_depth (trees_of ts)))
    ∙ turned (is_convertible t) rest (nat_le (depth_of t) 99) (nat_le (1 + max (trees_depth (trees_of ts)) 0) 100)
    ∙ ap (λ b. fits_in_array t && b) (all_fit ts)

kind_of_all : (multi : Bool) (o : Option (List Tree)) → Kind multi true o ≡ extraction_of (extracted_from multi (option_map (λ ts. array (trees_of ts) no_members) o))
kind_of_all multi None = refl
kind_of_all true (Some ts) = refl
kind_of_all false (Some ts) = kind_of_one (key_of (array (trees_of ts) no_members)) (list_all fits_in_array ts) (sym (all_fit ts) ∙ sym (array_tests (trees_of ts) no_members))

pub all_read : (multi b : Bool) (t : Tree) (ss rest : List (List ℕ)) → rest ≡ [] → multi ≡ false
    → Kind multi b (all_there (map (λ s. string_evaluated s t) rest)) ≡ Kind multi true (all_there (map (λ s. string_evaluated s t) ss))
    → key_or_invalid b ≡ extraction_of (extracted (Many ss) multi t)
all_read multi b t ss rest e f so_far =
    ap key_or_invalid (alone b) ∙ (λ i. Kind (sym f i) b (all_there (map (λ s. string_evaluated s t) (sym e i)))) ∙ so_far ∙ kind_of_all multi (all_there (map (λ s. string_evaluated s t) ss))
  where
    alone : (c : Bool) → c ≡ (c && true)
    alone true = refl
    alone false = refl
