use Rattle.std.proofs.Common.{◌∙◌, [], ◌∷◌, sym, ap, Some, map}
use Rattle.std.proofs.lemmas.List.{map-append}
use Rattle.std.specs.Prelude.{option_map}
use Rattle.indexed_records.specs.Reading.{keys_seen}
use Rattle.clone_values.specs.KeyTree.{KeyTree}
use Rattle.clone_values.specs.View.{key_tree_of}
use Rattle.indexed_records.specs.Reading.{members_in}
use Rattle.range_reads.proofs.MemberLemmas.{more_keys, no_key}
use Rattle.range_reads.proofs.reads.get_all_keys.Goals as goal
use Rattle.range_reads.proofs.reads.get_all_keys.Goals.{in-Some+in_ok-copy+in_ok-push, in_default}

pub loop-place-preserved : goal.loop-place-preserved
loop-place-preserved g c =
    elim c.match-row.branch [
      | in-Some+in_ok-copy+in_ok-push w ↦
          ap (λ v. map key_tree_of v.items) w.keys-is ∙ ap (map key_tree_of) w.in_ok-push.ensures.items
          ∙ map-append key_tree_of c.loop-place.keys.items (w.in_ok-copy.field-0 ∷ [])
          ∙ more_keys (λ (m : KeyTree × KeyTree). m.1) c.limited_span-start.result.0 c.loop-place.place (members_in c.args.records.now.info.indexes c.args.records.now.records c.args.over) (Some (key_tree_of w.in_ok-copy.field-0)) _ c.loop-place.auto.place
          (ap (λ x. Some (key_tree_of x)) w.in_ok-copy.ensures ∙ ap (option_map (λ (m : KeyTree × KeyTree). m.1)) w.in-Some.ensures) c.loop-place.invariant
      | in_default w ↦
          ap (λ v. map key_tree_of v.items) w.keys-is
          ∙ no_key (λ (m : KeyTree × KeyTree). m.1) c.limited_span-start.result.0 c.loop-place.place (members_in c.args.records.now.info.indexes c.args.records.now.records c.args.over) _ c.loop-place.auto.place
          (ap (option_map (λ (m : KeyTree × KeyTree). m.1)) (sym (ap (option_map keys_seen) w.in_default.is) ∙ c.row.ensures)) c.loop-place.invariant
    ]
