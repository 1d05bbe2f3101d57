use Rattle.std.proofs.Common.{ℕ, List, length, ap, ◌∙◌}
use Rattle.desk_steps.specs.Numbers.{new_place, one_more_unfinished}
use Rattle.desk_steps.specs.Placing.{placed_at}
use Rattle.desk_steps.proofs.Laws.{Puts, puts_again, puts_free, puts_behind}
use Rattle.idb_desk.proofs.places.place_to_draw.Goals as goal

pub returns-in-Some-clause-placed : goal.returns-in-Some-clause-placed
returns-in-Some-clause-placed c =
    let puts : Puts c.args.name.now c.args.places.now c.in-Some.place (one_more_unfinished c.index-places-place.result) = puts_again c.args.name.now c.args.places.now c.in-Some.place c.index-places-place.result c.in-Some.ensures c.index-places-place.is in
    ap (λ p. placed_at c.in-Some.place p c.args.places.now) c.in_ok-p.ensures ∙ puts.placed

pub returns-in-Some-clause-number : goal.returns-in-Some-clause-number
returns-in-Some-clause-number c =
    let puts : Puts c.args.name.now c.args.places.now c.in-Some.place (one_more_unfinished c.index-places-place.result) = puts_again c.args.name.now c.args.places.now c.in-Some.place c.index-places-place.result c.in-Some.ensures c.index-places-place.is in
    puts.number

pub returns-in-Some-free_place-clause-placed : goal.returns-in-Some-free_place-clause-placed
returns-in-Some-free_place-clause-placed c =
    let puts = puts_free c.args.name.now c.args.places.now c.in-Some-free_place.place c.in_default.ensures c.in-Some-free_place.ensures in
    ap (λ p. placed_at c.in-Some-free_place.place p c.args.places.now) (c.place_anew-p.ensures ∙ ap (λ (n : List ℕ). one_more_unfinished (new_place n)) c.in_ok-copy-2.ensures) ∙ puts.placed

pub returns-in-Some-free_place-clause-number : goal.returns-in-Some-free_place-clause-number
returns-in-Some-free_place-clause-number c = (puts_free c.args.name.now c.args.places.now c.in-Some-free_place.place c.in_default.ensures c.in-Some-free_place.ensures).number

pub returns-in-None-clause-placed : goal.returns-in-None-clause-placed
returns-in-None-clause-placed c =
    ap (λ p. placed_at (length c.args.places.now) p c.args.places.now) (c.place_anew-p.ensures ∙ ap (λ (n : List ℕ). one_more_unfinished (new_place n)) c.in_ok-copy-2.ensures)
    ∙ (puts_behind c.args.name.now c.args.places.now c.in_default.ensures c.in-None.ensures).placed

pub returns-in-None-clause-number : goal.returns-in-None-clause-number
returns-in-None-clause-number c = (puts_behind c.args.name.now c.args.places.now c.in_default.ensures c.in-None.ensures).number
