-- What a front made of a call, with its handlers as plain data.
use Rattle.std.proofs.Common.{◌≡◌, ℕ, Bool, Option, Some, None, refl, sym, ap, ◌∙◌}
use Rattle.idb_calls.specs.declared.calls.Call.{Call}
use Rattle.idb_schema.specs.declared.calls.SchemaCall.{SchemaCall}
use Rattle.idb_keys.specs.declared.names.ErrorName.{ErrorName}
use Rattle.request_lists.specs.Fronts.{Front, front_map}
use Rattle.request_lists.specs.Refusals.{refusal_of, refusal_of_change}
use Rattle.request_lists.specs.Placing.{after_call, IsRefusal}
use Rattle.request_lists.specs.declared.refusing.Refusal.{Refusal}
use Rattle.request_lists.specs.declared.refusing.Refusal.TheVariants as why
use Rattle.request_lists.proofs.Laws.{refusal_plain, after_plain}
use Rattle.script_runs.specs.declared.environments.Env.{Env}
use Rattle.script_handlers.specs.declared.asks.Ask.{Ask}
use Rattle.script_handlers.specs.declared.asks.Ask.TheVariants as ask
use Rattle.script_handlers.specs.declared.handlers.ScriptHandler.{ScriptHandler}
use Rattle.script_handlers.specs.declared.lent_fronts.LentFront.{LentFront}
use Rattle.script_handlers.specs.Handling.{did_of, handler_made}
use Rattle.script_handlers.specs.Seeing.{script_seen, lent_seen}

named : (r : Refusal) (found : Option ErrorName) (name : ErrorName) → r ≡ why.Name name → IsRefusal r found → found ≡ Some name
named r found name e h = let i : IsRefusal (why.Name name) found = rw e at h in i

pub placed_did : (l : LentFront) (placed : Front ScriptHandler) (call : Call) (h : ScriptHandler) (env : Env) (success error : Option ℕ) (opens : Bool)
    → refusal_of call l.front ≡ None → placed ≡ after_call call h l.front → script_seen h ≡ handler_made (lent_seen l) env success error opens
    → (lent_seen (record l { front = placed }), None) ≡ did_of (lent_seen l) env (ask.Places call success error opens)
placed_did l placed call h env success error opens taken is made =
    let front : front_map script_seen placed ≡ after_call call (handler_made (lent_seen l) env success error opens) (front_map script_seen l.front) =
    ap (front_map script_seen) is ∙ sym (after_plain script_seen call h l.front) ∙ ap (λ d. after_call call d (front_map script_seen l.front)) made in
    let none : refusal_of call (front_map script_seen l.front) ≡ None = refusal_plain script_seen call l.front ∙ taken in
    rw none (ap (λ f. (record (lent_seen l) { front = f }, None)) front)

pub place_refused : (l : LentFront) (same : Front ScriptHandler) (r : Refusal) (name : ErrorName) (call : Call) (env : Env) (success error : Option ℕ) (opens : Bool)
    → r ≡ why.Name name → IsRefusal r (refusal_of call l.front) → same ≡ l.front
    → (lent_seen (record l { front = same }), Some name) ≡ did_of (lent_seen l) env (ask.Places call success error opens)
place_refused l same r name call env success error opens e h is =
    let some : refusal_of call (front_map script_seen l.front) ≡ Some name = refusal_plain script_seen call l.front ∙ named r (refusal_of call l.front) name e h in
    rw some (ap (λ f. (lent_seen (record l { front = f }), Some name)) is)
