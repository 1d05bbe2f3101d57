use Rattle.std.proofs.Common.{◌<◌, length, refl, ◌∙◌, sym, arith}
use Rattle.std.proofs.lemmas.Option.{slice_get-get_or}
use Rattle.index_tables.proofs.Laws.{past_end}
use Rattle.store_contents.specs.Walks.{Replaces, CanAdd}
use Rattle.store_contents.proofs.Laws.{walked_get, walked_on, walked_all, all_at, all_counted, next_at, next_left, none_next, paired_get}
use Rattle.indexed_records.proofs.growing.replace_in.Goals as goal
use Rattle.indexed_records.proofs.growing.replace_in.Goals.{in-Some+in-Some-next, in-Some+in_default-next, in_default}

pub loop-place-init : goal.loop-place-init
loop-place-init g c = record { left = c.into_iter-lists.ensures.rest; walked = refl }

pub replace_rows-requires-after_bounds : goal.replace_rows-requires-after_bounds
replace_rows-requires-after_bounds g c =
    let lt : c.loop-place.place < length c.loop-place.tables = omega (arith, c.loop-place.auto.tables, c.loop-place-test.true) in
    let there = sym (walked_get Replaces _ _ _ _ c.loop-place.invariant.walked) ∙ slice_get-get_or c.loop-place.tables c.loop-place.place c.index-tables-place.result lt in
    λ κs h. all_at CanAdd _ _ _ c.loop-place.place _ _ _ c.requires.room (next_at _ c.loop-place.place _ _ _ c.loop-place.invariant.left c.in-Some-next.ensures.items) there there

pub loop-place-preserved : goal.loop-place-preserved
loop-place-preserved g c =
    let lt : c.loop-place.place < length c.loop-place.tables = omega (arith, c.loop-place.auto.tables, c.loop-place-test.true) in
    elim c.match-at.branch [
      | in-Some+in-Some-next w ↦ record {
        left = rw w.lists-is (next_left _ c.loop-place.place _ _ _ c.loop-place.invariant.left w.in-Some-next.ensures.items);
        walked = rw w.tables-is (walked_on Replaces _ _ _ _ _ c.index-tables-place.result _ c.loop-place.invariant.walked lt
            (paired_get c.args.old.now c.args.new.items c.loop-place.place _ _ (sym w.in-Some.ensures) (next_at _ c.loop-place.place _ _ _ c.loop-place.invariant.left w.in-Some-next.ensures.items))
            (w.replace_rows.ensures.rows, w.replace_rows.ensures.spare));
      }
      | in-Some+in_default-next w ↦ absurd (omega (arith, none_next c.args.new.items c.loop-place.place c.loop-place.lists.rest.items c.loop-place.invariant.left (omega (arith, w.in_default-next.ensures.cases.0, c.loop-place.lists.rest.ok.0)), all_counted CanAdd c.args.new.items c.args.tables.now c.args.tables.now c.requires.room, c.loop-place-test.true))
      | in_default w ↦ absurd (omega (arith, past_end c.args.old.now c.loop-place.place w.in_default.ensures, c.loop-place-test.true, c.requires.rows))
    ]

pub returns : goal.returns
returns g c = walked_all Replaces _ _ _ _ c.loop-place.invariant.walked c.loop-place-test.false
