use Rattle.std.proofs.Common.{◌∙◌}
use Rattle.tx_book.proofs.Spelled.{emptied}
use Rattle.tx_book.proofs.waiting.Waiting.reuse.Goals as goal

pub invariant_of-self : goal.invariant_of-self
invariant_of-self c =
    emptied c.self.inside.count c.self.inside.bytes.items c.truncate.new.self.items c.into_vec-bytes.result.items c.self.invariant (c.self.view_is ∙ c.requires) c.truncate.ensures.items
