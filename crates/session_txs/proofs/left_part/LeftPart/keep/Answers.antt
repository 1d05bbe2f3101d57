use Rattle.std.proofs.Common.{rules}
use Rattle.session_txs.proofs.Finishing.{lasts_with, kept_so}
use Rattle.session_txs.proofs.left_part.LeftPart.keep.Goals as goal

pub give-requires-after_bounds : goal.give-requires-after_bounds
give-requires-after_bounds g c κs within = lasts_with c.self.inside.stores.database _ _ (first_of (cc, search rules)) (first_of (cc, search rules))

pub returns : goal.returns
returns g c = kept_so _ c.self.inside.stores _ c.self.invariant c.args.self c.self.view_is c.args.databases.now _ _ _ c.in_ok-give.ensures.given c.part_laws.ensures.changed (first_of (cc, search rules)) (first_of (cc, search rules))
