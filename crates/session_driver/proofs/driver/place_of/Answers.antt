use Rattle.std.proofs.Common.{sym, ◌∙◌}
use Rattle.client_ties.proofs.Laws.{sound_run}
use Rattle.idb_desk.specs.Steps.{desk_run}
use Rattle.session_driver.proofs.Driving.{chosen_there, least_chosen, least_drawn}
use Rattle.session_driver.proofs.driver.place_of.Goals as goal

pub overflow_sub-result : goal.overflow_sub-result
overflow_sub-result c =
    let d = c.requires.driving in
    (chosen_there c.under_way_laws.ensures.ready c.args.of.now.value c.args.desk.now c.args.seats.now d.0 d.1.0 c.args.number c.in-Some.tx d.1.1 c.requires.next c.requires.may_start (sym c.drawn.ensures ∙ c.in-Some.is)).0

pub unreachable-requires : goal.unreachable-requires
unreachable-requires c = least_drawn (sound_run c.desk_laws.ensures.numbers) c.args.desk.now c.args.number c.requires.driving.1.1.driven.under_way.in_step.desk (least_chosen (desk_run c.args.desk.now) c.args.seats.now c.args.number c.requires.next)
    (sym c.drawn.ensures ∙ c.in-None.is)

pub returns : goal.returns
returns c =
    let d = c.requires.driving in
    (chosen_there c.under_way_laws.ensures.ready c.args.of.now.value c.args.desk.now c.args.seats.now d.0 d.1.0 c.args.number c.in-Some.tx d.1.1 c.requires.next c.requires.may_start (sym c.drawn.ensures ∙ c.in-Some.is)).1
