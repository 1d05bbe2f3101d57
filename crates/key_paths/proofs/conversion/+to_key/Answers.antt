use Rattle.std.proofs.Common.{◌≤◌, [], ◌∷◌, length, length-append, sym, ◌∙◌, ap, arith, option_map}
use Rattle.std.proofs.lemmas.List.{drop_all}
use Rattle.clone_values.specs.View.{tree_of, key_tree_of}
use Rattle.key_paths.proofs.KeysFound.{item_invalid, item_valid, all_valid}
use Rattle.key_paths.proofs.conversion.+to_key.Goals as goal
use Rattle.key_paths.proofs.conversion.+to_key.Goals.{keys_within-in-Some+in_ok-key+in-Some-2+in_ok-push-in-Some-2, keys_within-in_default}

pub keys_within-returns-in-None : goal.keys_within-returns-in-None
keys_within-returns-in-None t c =
    item_invalid c.loop-place.keys.items _ _ (tree_of c.in-Some.item.now) _ c.in-Some.ensures.stands c.loop-place.invariant.so_far
    (sym (ap (option_map key_tree_of) c.in-None.is) ∙ c.in_ok-key.ensures)

pub keys_within-loop-place-preserved : goal.keys_within-loop-place-preserved
keys_within-loop-place-preserved t c = elim c.match-at.branch [
  | keys_within-in-Some+in_ok-key+in-Some-2+in_ok-push-in-Some-2 w ↦
      record {
        so_far = item_valid c.loop-place.keys.items _ _ (tree_of w.in-Some.item.now) _ w.in-Some.ensures.stands c.loop-place.invariant.so_far w.in-Some-2.key c.match-at.keys.items
            (sym (ap (option_map key_tree_of) w.in-Some-2.is) ∙ w.in_ok-key.ensures) (ap (λ k. k.items) w.keys-is ∙ w.in_ok-push-in-Some-2.ensures.items);
        count = omega (arith, ap (λ k. length k.items) w.keys-is, ap length w.in_ok-push-in-Some-2.ensures.items, length-append c.loop-place.keys.items (w.in-Some-2.key ∷ []));
      }
  | keys_within-in_default w ↦ let past : length c.args.items.now ≤ c.loop-place.place = w.in_default.ensures.past_end in absurd (omega arith)
]

pub keys_within-returns : goal.keys_within-returns
keys_within-returns t c =
    let past : length c.args.items.now ≤ c.loop-place.place = omega arith in
    rw c.in_ok-from_vec.ensures (all_valid _ _ _ (drop_all _ _ past) c.loop-place.invariant.so_far)
