use Rattle.std.proofs.Common.{◌++◌, ◌∷◌, [], length, refl, sym, ap, ◌∙◌, arith}
use Rattle.idb_desk.specs.Steps.{with_step}
use Rattle.client_parts.specs.Clients.{client_seen}
use Rattle.task_statements.specs.Doing.{TookAsk, RefusedAsk}
use Rattle.task_statements.proofs.Acted.{ask_is, asked_seated}
use Rattle.task_statements.proofs.asking.ask.Goals as goal

pub returns-in-Some-clause-asked : goal.returns-in-Some-clause-asked
returns-in-Some-clause-asked c = RefusedAsk c.in-Some.error (ap (λ os. record (client_seen c.args.parts.now) { opens = os }) c.reserve.ensures.items) refl (sym c.refusal.ensures ∙ c.in-Some.is)

pub returns-in_ok-step-in-None-clause-asked : goal.returns-in_ok-step-in-None-clause-asked
returns-in_ok-step-in-None-clause-asked c =
    let kept = c.args.kept in
    let old = client_seen c.args.parts.now in
    TookAsk
    (ap (λ os. record old { opens = os }) (c.put_open.ensures ∙ ap (λ os. os ++ kept ∷ []) c.reserve.ensures.items))
    (c.in_ok-step-in-None.ensures.made ∙ ap (with_step c.args.desk.now) (ask_is old kept c.args.wants _ _ (omega (arith, ap length c.reserve.ensures.items)) (c.in_ok-clone.ensures.cases ∙ c.name.ensures)))

pub returns-in_ok-step-in-None-clause-seated : goal.returns-in_ok-step-in-None-clause-seated
returns-in_ok-step-in-None-clause-seated c =
    let kept = c.args.kept in
    let old = client_seen c.args.parts.now in
    asked_seated old _ c.args.desk.now c.step.new.self kept c.args.wants c.requires (sym c.refusal.ensures ∙ c.in-None.is)
    (ap (λ os. record old { opens = os }) (c.put_open.ensures ∙ ap (λ os. os ++ kept ∷ []) c.reserve.ensures.items))
    (c.in_ok-step-in-None.ensures.made ∙ ap (with_step c.args.desk.now) (ask_is old kept c.args.wants _ _ (omega (arith, ap length c.reserve.ensures.items)) (c.in_ok-clone.ensures.cases ∙ c.name.ensures)))
