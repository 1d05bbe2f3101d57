use Rattle.std.proofs.Common.{◌∙◌, [], ◌∷◌, sym, ap, Some, map}
use Rattle.std.proofs.lemmas.List.{map-append}
use Rattle.std.specs.Prelude.{option_map}
use Rattle.std.specs.FinMap as finite
use Rattle.clone_values.specs.KeyTree.{KeyTree}
use Rattle.clone_values.specs.View.{tree_of}
use Rattle.indexed_records.specs.Reading.{members_in, value_seen}
use Rattle.range_reads.proofs.MemberLemmas.{more_values, no_value}
use Rattle.range_reads.proofs.reads.get_all.Goals as goal
use Rattle.range_reads.proofs.reads.get_all.Goals.{in-Some+in_ok-copy_value+in_ok-push, in_default}

pub loop-place-preserved : goal.loop-place-preserved
loop-place-preserved g c =
    elim c.match-value_at.branch [
      | in-Some+in_ok-copy_value+in_ok-push w ↦
          ap (λ v. map tree_of v.items) w.items-is ∙ ap (map tree_of) w.in_ok-push.ensures.items
          ∙ map-append tree_of c.loop-place.items.items (w.in_ok-copy_value.field-0 ∷ [])
          ∙ more_values (λ (m : KeyTree × KeyTree). finite.get c.args.records.now.records m.1) c.limited_span-start.result.0 c.loop-place.place (members_in c.args.records.now.info.indexes c.args.records.now.records c.args.over) (Some (tree_of w.in_ok-copy_value.field-0)) _ c.loop-place.auto.place
          (ap (λ x. Some (tree_of x)) w.in_ok-copy_value.ensures ∙ w.in-Some.ensures) c.loop-place.invariant
      | in_default w ↦
          ap (λ v. map tree_of v.items) w.items-is
          ∙ no_value (λ (m : KeyTree × KeyTree). finite.get c.args.records.now.records m.1) c.limited_span-start.result.0 c.loop-place.place (members_in c.args.records.now.info.indexes c.args.records.now.records c.args.over) _ c.loop-place.auto.place
          (sym (ap (option_map value_seen) w.in_default.is) ∙ c.value_at.ensures) c.loop-place.invariant
    ]
