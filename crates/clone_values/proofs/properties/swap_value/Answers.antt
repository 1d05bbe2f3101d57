use Rattle.std.proofs.Common.{rules, ◌≡◌, ℕ, zero, suc, ◌<◌, Some, List, [], ◌∷◌, map, length, slice_get, slice_set, get_or, option_map, refl, sym, ◌∙◌, ap}
use Rattle.std.proofs.lemmas.List.{map-set}
use Rattle.std.proofs.lemmas.Option.{slice_get-map, slice_get_read}
use Rattle.clone_values.specs.declared.value_types.Prop.{Prop}
use Rattle.clone_values.specs.declared.value_types.Value.{Value}
use Rattle.value_trees.specs.Names.{names_of, HasNameAt}
use Rattle.clone_values.specs.View.{prop_of, tree_of}
use Rattle.clone_values.proofs.properties.swap_value.Goals as goal

names_stay : (ps : List Prop) (i : ℕ) (p : Prop) (w : Value) → p ≡ get_or ps i p → names_of (map prop_of (slice_set ps i (record { name = p.name; value = w }))) ≡ names_of (map prop_of ps)
names_stay [] i p w e = refl
names_stay (q ∷ ps) zero p w e = ap (λ (r : Prop). r.name ∷ names_of (map prop_of ps)) e
names_stay (q ∷ ps) (suc i) p w e = ap (λ r. q.name ∷ r) (names_stay ps i p w e)

swapped : (ps : List Prop) (i : ℕ) (p : Prop) (w v : Value) → i < length ps → p ≡ get_or ps i p → w ≡ v → (n : List ℕ) → HasNameAt (map prop_of ps) i n
    → map prop_of (slice_set ps i (record { name = p.name; value = w })) ≡ slice_set (map prop_of ps) i (n, tree_of v)
swapped ps i p w v within here same n named =
    let item : slice_get ps i ≡ Some p = slice_get_read ps (length ps) i p refl within here in
    let name : Some p.name ≡ Some n =
    sym (slice_get-map (λ m. m.0) (map prop_of ps) i ∙ ap (option_map (λ m. m.0)) (slice_get-map prop_of ps i ∙ ap (option_map prop_of) item)) ∙ named in
    let is_name : p.name ≡ n = cc in
    map-set prop_of ps i (record { name = p.name; value = w }) ∙ ap (λ a. slice_set (map prop_of ps) i (a, tree_of w)) is_name ∙ ap (λ a. slice_set (map prop_of ps) i (n, tree_of a)) same

pub returns-clause-put : goal.returns-clause-put
returns-clause-put c =
    let within : c.args.place < length c.args.props.now.items = search rules in
    swapped _ _ _ _ _ within c.index_mut.ensures.value c.swap.ensures.x_after

pub returns-clause-same_names : goal.returns-clause-same_names
returns-clause-same_names c = names_stay _ _ _ _ c.index_mut.ensures.value
