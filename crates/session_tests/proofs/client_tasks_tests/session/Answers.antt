use Rattle.std.proofs.Common.{◌≡◌, List, [], subst, sym}
use Rattle.idb_schema.specs.Schemas.{SchemaData}
use Rattle.idb_desk.specs.Steps.{DeskRun}
use Rattle.client_machine.specs.ClientStates.{ClientState, fresh_client}
use Rattle.client_seats.specs.Seating.{IsSeated}
use Rattle.session_tests.proofs.client_tasks_tests.session.Goals as goal

begins_seated : (c : ClientState) (r : DeskRun) (schemas : List SchemaData) → c ≡ fresh_client 1 0 → r ≡ record { opening = schemas; order = [] } → IsSeated (fresh_client 1 0) (record { opening = schemas; order = [] }) → IsSeated c r
begins_seated c r schemas e f s = subst (λ (q : DeskRun). IsSeated c q) (sym f) (subst (λ (k : ClientState). IsSeated k (record { opening = schemas; order = [] })) (sym e) s)

pub new-office-requires : goal.new-office-requires
new-office-requires g c =
    let client_is = rw c.expect-client.ensures at c.new-3.ensures in
    let desk_is = rw c.expect-desk.ensures at c.new-2.ensures in
    begins_seated _ _ _ client_is desk_is (c.seat_laws.ensures.begins 1 0 _)
