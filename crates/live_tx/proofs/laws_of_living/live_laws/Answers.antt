use Rattle.machine_laws.proofs.Laws.{KeyLaws}
use Rattle.live_tx.proofs.Stands.{ready_fresh}
use Rattle.live_tx.proofs.laws_of_living.live_laws.Goals as goal

pub returns : goal.returns
returns g c =
    let laws : KeyLaws = record { formed = c.conversion_laws.ensures.key; shallow = c.conversion_laws.ensures.shallow } in
    record { body = λ mode schema scope before body b is shows raised. ready_fresh laws mode schema scope before body b is shows raised }
