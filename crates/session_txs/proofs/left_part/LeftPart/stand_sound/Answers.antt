use Rattle.session_txs.proofs.Finishing.{sound_with}
use Rattle.session_txs.proofs.left_part.LeftPart.stand_sound.Goals as goal

pub returns : goal.returns
returns g c = sound_with _ c.self.inside.stores _ c.self.invariant c.args.databases.now c.part_laws.ensures.changed c.part_laws.ensures.sound c.args.self.now c.self.view_is c.stores_are_sound.ensures c.stand_sound.ensures
