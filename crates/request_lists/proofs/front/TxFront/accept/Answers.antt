use Rattle.std.proofs.Common.{◌≡◌, ℕ, Some, None, OnOk, IfOk, subst, sym, ap, ◌∙◌}
use Rattle.request_lists.specs.Fronts.{Front}
use Rattle.request_lists.specs.Placing.{opened_by}
use Rattle.request_lists.proofs.Accepted.{placed_opened, number_opened, placed_turned, number_turned}
use Rattle.request_lists.proofs.front.TxFront.accept.Goals as goal

pub returns-in-Ok-Some-clause-placed : goal.returns-in-Ok-Some-clause-placed
returns-in-Ok-Some-clause-placed g c = subst (λ (f : Front g.row.H.Denot). OnOk c.add_cursor.result (c.add_cursor.new.self ≡ f)) (sym (placed_opened c.args.call c.args.handler c.args.self.now (c.in-Ok-Some.target, c.in-Ok-Some.cursor) (ap (λ (f : Front g.row.H.Denot). opened_by f.schema c.args.call) (sym c.self.view_is) ∙ sym c.in-Ok-Some.ensures ∙ c.in-Ok-Some.field-0-is))) c.add_cursor.ensures.placed

pub returns-in-Ok-Some-clause-number : goal.returns-in-Ok-Some-clause-number
returns-in-Ok-Some-clause-number g c = subst (λ (m : ℕ). IfOk c.add_cursor.result (λ n. n ≡ m)) (sym (number_opened c.args.call c.args.self.now (c.in-Ok-Some.target, c.in-Ok-Some.cursor) (ap (λ (f : Front g.row.H.Denot). opened_by f.schema c.args.call) (sym c.self.view_is) ∙ sym c.in-Ok-Some.ensures ∙ c.in-Ok-Some.field-0-is))) c.add_cursor.ensures.number

pub returns-in-Some-clause-placed : goal.returns-in-Some-clause-placed
returns-in-Some-clause-placed g c = subst (λ (f : Front g.row.H.Denot). OnOk c.add_turn.result (c.add_turn.new.self ≡ f)) (sym (placed_turned c.args.call c.args.handler c.args.self.now (Some c.in-Some.number) (ap (λ (f : Front g.row.H.Denot). opened_by f.schema c.args.call) (sym c.self.view_is) ∙ sym c.in-Ok-None.ensures ∙ c.in-Ok-None.field-0-is) (sym c.in-Some.ensures))) c.add_turn.ensures.placed

pub returns-in-Some-clause-number : goal.returns-in-Some-clause-number
returns-in-Some-clause-number g c = subst (λ (m : ℕ). IfOk c.add_turn.result (λ n. n ≡ m)) (sym (number_turned c.args.call c.args.self.now (Some c.in-Some.number) (ap (λ (f : Front g.row.H.Denot). opened_by f.schema c.args.call) (sym c.self.view_is) ∙ sym c.in-Ok-None.ensures ∙ c.in-Ok-None.field-0-is) (sym c.in-Some.ensures))) c.add_turn.ensures.number

pub returns-in-None-clause-placed : goal.returns-in-None-clause-placed
returns-in-None-clause-placed g c = subst (λ (f : Front g.row.H.Denot). OnOk c.add_request.result (c.add_request.new.self ≡ f)) (sym (placed_turned c.args.call c.args.handler c.args.self.now None (ap (λ (f : Front g.row.H.Denot). opened_by f.schema c.args.call) (sym c.self.view_is) ∙ sym c.in-Ok-None.ensures ∙ c.in-Ok-None.field-0-is) (sym c.in-None.ensures))) c.add_request.ensures.placed

pub returns-in-None-clause-number : goal.returns-in-None-clause-number
returns-in-None-clause-number g c = subst (λ (m : ℕ). IfOk c.add_request.result (λ n. n ≡ m)) (sym (number_turned c.args.call c.args.self.now None (ap (λ (f : Front g.row.H.Denot). opened_by f.schema c.args.call) (sym c.self.view_is) ∙ sym c.in-Ok-None.ensures ∙ c.in-Ok-None.field-0-is) (sym c.in-None.ensures))) c.add_request.ensures.number
