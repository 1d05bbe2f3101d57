use Rattle.std.proofs.Common.{ap, ◌∙◌}
use Rattle.desk_steps.specs.Numbers.{with_place, place_of_name, scope_items}
use Rattle.idb_desk.specs.Parts.{board_of}
use Rattle.desk_steps.specs.declared.stands.TxKind.TheVariants as kind
use Rattle.idb_desk.proofs.Draws.{drawn_there, counted_there}
use Rattle.idb_desk.proofs.drawing.draw_plain.Goals as goal

pub returns-clause-drawn : goal.returns-clause-drawn
returns-clause-drawn c =
    counted_there (board_of c.args.board.now) (board_of c.draw_at.new.board) c.args.name.now c.args.who (scope_items (place_of_name c.args.name.now (with_place c.args.name.now c.args.board.now.places.items)) c.args.schema.now c.args.scope.now) c.args.mode c.count_create.new.clients.items
    (c.in_ok-draw_at.ensures.drawn ∙ drawn_there (board_of c.args.board.now) c.as_slice.result.now c.args.name.now c.args.who kind.Plain c.as_slice-3.result.now (scope_items (place_of_name c.args.name.now (with_place c.args.name.now c.args.board.now.places.items)) c.args.schema.now c.args.scope.now) c.args.mode c.in_ok-place.place c.in_ok-place.p c.as_slice.ensures.value c.in_ok-place.ensures.placed (c.as_slice-3.ensures.value ∙ c.in_ok-items.ensures ∙ ap (λ place. scope_items place c.args.schema.now c.args.scope.now) (c.in_ok-place.ensures.number ∙ ap (λ qs. place_of_name c.args.name.now (with_place c.args.name.now qs)) c.as_slice.ensures.value)))
    c.count_create.ensures
