use Rattle.std.proofs.Common.{sym, subst}
use Rattle.gate_log.specs.Log.{disk_of, live_of}
use Rattle.tx_book.specs.Books.{fresh}
use Rattle.tx_book.specs.Keeper.{GivesKept}
use Rattle.tx_book.proofs.KeeperLemmas.{reopened}
use Rattle.tx_book.proofs.keeper.reopen.Goals as goal

pub returns-in-Ok : goal.returns-in-Ok
returns-in-Ok g c = λ opening now commits end f apply.
    let disk = c.into_parts-parts.result.0 in
    subst (GivesKept g.D.Disk.shows opening commits end) (sym c.new.ensures.log)
    (reopened g.D.Disk.shows opening commits end disk (fresh (disk_of c.in-Ok.opened.0) (live_of c.in-Ok.opened.0)) c.in-Ok.opened.1
    (λ image left. c.book_laws.ensures.images opening now commits end c.args.book.log image f apply (c.into_parts-parts.ensures.images image left))
    (g.met.D.Disk.reads_are_an_image disk) c.in-Ok.ensures.any_moment.told c.in-Ok.ensures.same_batches c.in-Ok.ensures.has)
