-- One call is a step of becoming.
use Rattle.std.proofs.Common.{◌≡◌, ℕ, None, Ok, Err, OnOk, OnErr, sym, subst}
use Rattle.std.specs.Prelude.{Result}
use Rattle.request_lists.specs.declared.refusing.Refused.{Refused}
use Rattle.idb_calls.specs.declared.calls.Call.{Call}
use Rattle.idb_schema.specs.declared.calls.SchemaCall.{SchemaCall}
use Rattle.request_lists.specs.Fronts.{Front}
use Rattle.request_lists.specs.Refusals.{refusal_of, refusal_of_change, refusal_of_commit, refusal_of_abort}
use Rattle.request_lists.specs.Placing.{Becomes, Stays, Places, Changes, Commits, Aborts, IsCall, after_call, after_schema_call, after_commit, after_abort}

module _ {D : Type 0} where
  pub becomes_same : (before after : Front D) → after ≡ before → Becomes before after
  becomes_same before after e = subst (λ f. Becomes before f) (sym e) Stays

  pub becomes_placed : (before after : Front D) (call : Call) (handler : D) → IsCall call → refusal_of call before ≡ None → after ≡ after_call call handler before → Becomes before after
  becomes_placed before after call handler c t e = Places before after call handler Stays c (record { taken = t; front = e })

  pub becomes_changed : (before after : Front D) (call : SchemaCall) → refusal_of_change call before ≡ None → after ≡ after_schema_call call before → Becomes before after
  becomes_changed before after call t e = Changes before after call Stays (record { taken = t; front = e })

  pub becomes_committing : (before after : Front D) → refusal_of_commit before ≡ None → after ≡ after_commit before → Becomes before after
  becomes_committing before after t e = Commits before after Stays (record { taken = t; front = e })

  pub becomes_aborted : (before after : Front D) → refusal_of_abort before ≡ None → after ≡ after_abort before → Becomes before after
  becomes_aborted before after t e = Aborts before after Stays (record { taken = t; front = e })

  pub becomes_accepted : (before after : Front D) (call : Call) (handler : D) (result : Result ℕ (Refused D)) → IsCall call → refusal_of call before ≡ None → OnOk result (after ≡ after_call call handler before) → OnErr result (after ≡ before) → Becomes before after
  becomes_accepted before after call handler (Ok n) c t e u = becomes_placed before after call handler c t e
  becomes_accepted before after call handler (Err r) c t e u = becomes_same before after u

  pub becomes_tried : {X E : Type 0} (before after : Front D) (call : SchemaCall) (result : Result X E) → refusal_of_change call before ≡ None → OnOk result (after ≡ after_schema_call call before) → OnErr result (after ≡ before) → Becomes before after
  becomes_tried before after call (Ok x) t e u = becomes_changed before after call t e
  becomes_tried before after call (Err r) t e u = becomes_same before after u
