use Rattle.std.proofs.Common.{◌+◌, ◌≤◌, drop, length, arith, ap, sym, ◌∙◌, option_map, map}
use Rattle.clone_values.specs.View.{tree_of, key_tree_of}
use Rattle.key_paths.proofs.EachOnce.{Adds, nothing_found, none_seen, kept, skipped}
use Rattle.key_paths.proofs.multi_entry.keys_of.Goals as goal
use Rattle.key_paths.proofs.multi_entry.keys_of.Goals.{in-Some+in_ok-key+in-Some-2+in_ok-keep_new, in-Some+in_ok-key+in_default-2, in_default}

pub loop-place-init : goal.loop-place-init
loop-place-init c = record {
  adds = rw c.new-keys.ensures.items (sym (nothing_found c.args.items.now));
  count = omega (arith, ap length c.new-keys.ensures.items);
  seen = rw c.new-keys.ensures.items (none_seen _ c.new-seen.ensures.empty);
}

pub loop-place-preserved : goal.loop-place-preserved
loop-place-preserved c = elim c.match-at.branch [
  | in-Some+in_ok-key+in-Some-2+in_ok-keep_new w ↦
      let same = ap (λ v. map key_tree_of v.items) w.keys-is ∙ w.in_ok-keep_new.ensures.kept in
      record {
        adds = ap (λ ks. Adds ks (drop (c.loop-place.place + 1) c.args.items.now)) same
            ∙ kept _ (key_tree_of w.in-Some-2.key) (tree_of w.in-Some.item.now) _ _ w.in-Some.ensures.stands (sym w.in_ok-key.ensures.key ∙ ap (option_map key_tree_of) w.in-Some-2.is)
            ∙ c.loop-place.invariant.adds;
        count = omega (arith, ap (λ v. length v.items) w.keys-is, w.in_ok-keep_new.ensures.count);
        seen = rw (w.seen-is, w.keys-is) w.in_ok-keep_new.ensures.same;
      }
  | in-Some+in_ok-key+in_default-2 w ↦ record {
    adds = ap (λ v. Adds (map key_tree_of v.items) (drop (c.loop-place.place + 1) c.args.items.now)) w.keys-is
        ∙ skipped _ (tree_of w.in-Some.item.now) _ _ w.in-Some.ensures.stands (sym w.in_ok-key.ensures.key ∙ ap (option_map key_tree_of) w.in_default-2.is)
        ∙ c.loop-place.invariant.adds;
    count = omega (arith, ap (λ v. length v.items) w.keys-is);
    seen = rw (w.seen-is, w.keys-is) c.loop-place.invariant.seen;
  }
  | in_default w ↦ let past : length c.args.items.now ≤ c.loop-place.place = w.in_default.ensures.past_end in absurd (omega arith)
]
