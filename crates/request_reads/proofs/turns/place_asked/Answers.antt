use Rattle.std.proofs.Common.{◌≡◌, ◌∙◌, subst, ℕ, Option, IfOk}
use Rattle.std.specs.Prelude.{◌-◌}
use Rattle.clone_values.specs.KeyTree.{KeyTree}
use Rattle.idb_cursors.specs.View.{key_shown}
use Rattle.object_stores.specs.Showing.{shown_in}
use Rattle.request_lists.specs.Fronts.{cursor_of}
use Rattle.request_lists.specs.Running.{turn_found}
use Rattle.list_machine.specs.Requests.{key_asked, primary_asked, more_turns}
use Rattle.request_reads.proofs.turns.place_asked.Goals as goal

pub returns-clause-found : goal.returns-clause-found
returns-clause-found g c =
    let found = λ (k p : Option KeyTree) (n : ℕ). IfOk c.place_taken.result (λ place. place ≡ turn_found (shown_in c.args.store.now.store c.args.over) (cursor_of c.args.front.now c.args.number) k p n) in
    subst (λ k. found k (primary_asked c.args.call.now) (more_turns c.args.call.now)) (c.lent.ensures ∙ c.in_ok-key.ensures)
    (subst (λ p. found (key_shown c.lent.result) p (more_turns c.args.call.now)) (c.lent-2.ensures ∙ c.in_ok-primary.ensures)
    (subst (λ n. found (key_shown c.lent.result) (key_shown c.lent-2.result) n) c.turn_count.ensures.count c.place_taken.ensures.found))
