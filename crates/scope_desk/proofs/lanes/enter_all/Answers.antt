use Rattle.std.proofs.Common.{◌≡◌, ◌∙◌, take, false, sym, Ok, Err, Result, OnErr}
use Rattle.idb_base.specs.declared.memory.NoMemory.{NoMemory}
use Rattle.scope_desk.specs.Starts.{has_item}
use Rattle.scope_desk.proofs.LaneLemmas.{not_yet, has_of_take}
use Rattle.scope_desk.proofs.lanes.enter_all.Goals as goal

pub enter_one-requires-clause-greater : goal.enter_one-requires-clause-greater
enter_one-requires-clause-greater c =
    let not_in : has_item c.from.result (take c.loop-i.i c.args.scope.now) ≡ false = rw c.from.ensures (sym c.contains.ensures.value ∙ c.if-not-contains.true) in
    rw (c.loop-i.invariant c.from.result, not_in) (c.requires c.from.result)

stands : {P : Type 0} (r : Result (Unit {0}) NoMemory) → P → OnErr r P
stands (Ok x) p = tt
stands (Err e) p = p

pub returns-in_err-enter_one-clause-some : goal.returns-in_err-enter_one-clause-some
returns-in_err-enter_one-clause-some c = stands c.from_residual.result
    (λ k. not_yet c.args.number (has_item k (take c.loop-i.i c.args.scope.now)) _ _ _ (c.in_err-enter_one.ensures.unchanged k ∙ c.loop-i.invariant k) (has_of_take k c.args.scope.now c.loop-i.i))
