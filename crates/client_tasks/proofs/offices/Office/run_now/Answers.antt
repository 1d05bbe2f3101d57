use Rattle.std.proofs.Common.{ℕ, Option, sym, ap, ◌∙◌, subst, drop}
use Rattle.std.specs.Arc.{arc_value}
use Rattle.script_statements.specs.declared.script.Client.{Client}
use Rattle.client_machine.specs.ClientStates.{with_notes}
use Rattle.client_parts.specs.Clients.{client_seen}
use Rattle.task_statements.specs.Offices.{OfficeState}
use Rattle.client_tasks.specs.Between.{RunsNowInto}
use Rattle.client_tasks.proofs.Carried.{nothing_now, ran_now}
use Rattle.client_tasks.proofs.offices.Office.run_now.Goals as goal

pub returns-in_default : goal.returns-in_default
returns-in_default c = subst (λ (b : Option ℕ). RunsNowInto c.args.self.now c.args.env b c.args.notes.now c.args.self.now c.args.notes.now) (sym c.in_default.is) (nothing_now c.args.self.now c.args.env c.args.notes.now)

pub returns : goal.returns
returns c =
    let o = c.self-2.inside in
    let new = client_seen c.take_posts.new.parts in
    let mid : OfficeState = record { blocks = (arc_value o.script).blocks; client = client_seen o.parts; run = o.desk } in
    subst (λ (b : Option ℕ). RunsNowInto c.args.self.now c.args.env b c.args.notes.now (record mid { client = new }) c.enter.new.notes) (sym c.in-Some.is)
    (ran_now c.args.self.now mid new c.deref.result.now.blocks c.args.env (record { world = c.enter.new.world; at = c.enter.new.at }) c.in-Some.block c.args.notes.now c.enter.new.notes c.in_ok-enter.field-0
    (ap (λ (x : Client). x.blocks) (c.deref.ensures ∙ c.in_ok-script.ensures.cases) ∙ ap (λ (x : OfficeState). x.blocks) c.self.view_is)
    (sym c.self-2.view_is) c.take_posts.ensures.alike.number c.in_ok-enter.ensures.goes
    (c.in_ok-take_posts.ensures.posted ∙ ap (λ (n : ℕ). with_notes (client_seen o.parts) (drop n c.enter.new.notes)) c.len-from.ensures))
