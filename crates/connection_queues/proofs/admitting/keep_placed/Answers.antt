use Rattle.std.proofs.Common.{rules}
use Rattle.std.proofs.lemmas.Fn.{filter_same}
use borrow.Author.Tests.{tests}
use Rattle.name_queues.specs.Names.{has_place}
use Rattle.connection_queues.proofs.admitting.keep_placed.Goals as goal

pub returns : goal.returns
returns c = filter_same _ has_place _ (λ x b q k. search (rules, tests)) _ _ c.retain.ensures.filtered
