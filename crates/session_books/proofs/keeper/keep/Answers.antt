use Rattle.session_books.proofs.KeeperLemmas.{kept_of}
use Rattle.session_books.proofs.keeper.keep.Goals as goal

pub returns : goal.returns
returns g c = kept_of (g.D.Disk.shows c.into_parts.result.0) c.args.traces.now c.args.book c.enter_all.new.book c.flush_if.new.book c.enter_all.ensures c.flush_if.ensures.opening c.flush_if.ensures.commits c.into_parts.ensures.images
