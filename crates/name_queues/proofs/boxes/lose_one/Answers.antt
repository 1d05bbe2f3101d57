use Rattle.std.proofs.Common.{rules, not}
use Rattle.std.proofs.lemmas.Fn.{filter_same}
use borrow.Author.Tests.{tests}
use Rattle.name_queues.specs.Mails.{is_change, is_change_of}
use Rattle.name_queues.proofs.boxes.lose_one.Goals as goal

pub returns-clause-left : goal.returns-clause-left
returns-clause-left c = filter_same _ (λ e. not (is_change_of c.args.who e)) _ (λ x b q k. search (rules, tests)) _ _ c.retain.ensures.filtered
