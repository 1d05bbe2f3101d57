use Rattle.std.proofs.Common.{◌≡◌, ◌∙◌, ap, sym, subst, true}
use Rattle.std.proofs.lemmas.Result.{on_ok_weaker}
use Rattle.idb_desk.specs.Parts.{desk_state_of}
use Rattle.desk_steps.specs.Refusals.{is_allowed}
use Rattle.desk_steps.specs.Steps.{DeskRun, desk_run, after, IsDeskRun}
use Rattle.desk_steps.proofs.Laws.{goes_relaxed, goes_on}
use Rattle.idb_desk.proofs.desk.Desk.step.Goals as goal

moved : (c : goal.After-settle) → (desk_state_of c.advance-event.new.parts ≡ desk_run (record { opening = c.self.inside.opening.value; order = c.advance-event.new.order.items })) × IsDeskRun (record { opening = c.self.inside.opening.value; order = c.advance-event.new.order.items })
moved c =
    let allowed : is_allowed (desk_run (record { opening = c.self.inside.opening.value; order = c.self.inside.order.items })) c.args.step ≡ true = subst (λ (r : DeskRun). is_allowed (desk_run r) c.args.step ≡ true) (sym c.self.view_is) c.requires.allowed in
    let a = c.advance-event in
    goes_on a.result (record { opening = c.self.inside.opening.value; order = c.self.inside.order.items }) a.new.order.items c.args.step (desk_state_of c.self.inside.parts) (desk_state_of a.new.parts) c.self.invariant.0 c.self.invariant.1 allowed a.ensures.order a.ensures.same a.ensures.made a.ensures.unchanged

pub invariant_of-self : goal.invariant_of-self
invariant_of-self c =
    let i = c.self.invariant in
    (i.0, i.1, i.2, i.3, λ n. c.in_err-added.ensures.same n ∙ i.4 n)

pub invariant_of-self-2 : goal.invariant_of-self-2
invariant_of-self-2 c =
    let a = c.advance-event in (
      (moved c).0,
      (moved c).1,
      a.ensures.owed,
      a.ensures.room,
      goes_relaxed a.result c.is_ok.result c.self.inside.relaxed c.note_relaxed.new.numbers c.settle.new.numbers c.self.inside.order.items a.new.order.items c.args.step c.in_ok-added.added
          c.is_ok.ensures.value c.self.invariant.4 (c.in_ok-added.ensures.noted c.self.inside.order.items c.self.invariant.4) c.in_ok-added.ensures.added c.settle.ensures.kept c.settle.ensures.taken a.ensures.order a.ensures.same,
    )

pub returns-clause-run : goal.returns-clause-run
returns-clause-run c = (moved c).1

pub returns-clause-after : goal.returns-clause-after
returns-clause-after c = on_ok_weaker c.advance-event.result (λ m. sym (moved c).0 ∙ m ∙ ap (λ d. after d c.args.step) (c.self.invariant.0 ∙ ap desk_run c.self.view_is)) c.advance-event.ensures.made
