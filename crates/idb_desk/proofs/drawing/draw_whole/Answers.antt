use Rattle.std.proofs.Common.{ap, ◌∙◌}
use Rattle.std.proofs.lemmas.Result.{on_ok_weaker}
use Rattle.idb_keys.specs.declared.names.Mode.TheVariants.{VersionChange}
use Rattle.desk_steps.specs.Numbers.{with_place, place_of_name, whole_database}
use Rattle.idb_desk.specs.Parts.{board_of}
use Rattle.idb_desk.proofs.Draws.{drawn_there}
use Rattle.idb_desk.proofs.drawing.draw_whole.Goals as goal

pub returns-clause-drawn : goal.returns-clause-drawn
returns-clause-drawn c = on_ok_weaker c.draw_at.result (λ q. q ∙ drawn_there (board_of c.args.board.now) c.as_slice.result.now c.args.name.now c.args.who c.args.kind c.as_slice-2.result.now (whole_database (place_of_name c.args.name.now (with_place c.args.name.now c.args.board.now.places.items))) VersionChange c.in_ok-place.place c.in_ok-place.p c.as_slice.ensures.value c.in_ok-place.ensures.placed (c.as_slice-2.ensures.value ∙ c.in_ok-items.ensures ∙ ap whole_database (c.in_ok-place.ensures.number ∙ ap (λ qs. place_of_name c.args.name.now (with_place c.args.name.now qs)) c.as_slice.ensures.value))) c.draw_at.ensures.drawn
