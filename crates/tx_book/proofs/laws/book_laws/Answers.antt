use Rattle.tx_book.proofs.Following.{Laws, follows_fresh, follows_finish, follows_flush, images_kept, moments_of_finish, moments_of_flush}
use Rattle.tx_book.proofs.laws.book_laws.Goals as goal

pub returns : goal.returns
returns g c =
    let laws : Laws = record {
      one_more_commit = c.batch_laws.ensures.one_more;
      all = c.batch_laws.ensures.all;
      both = c.replay_laws.ensures.both;
      one_more_batch = c.replay_laws.ensures.one_more;
      made = c.replay_laws.ensures.commits;
    } in
    record {
      opened = follows_fresh g.D.Disk.shows;
      finish = follows_finish laws g.D.Disk.shows;
      flush = follows_flush laws g.D.Disk.shows;
      images = images_kept laws g.D.Disk.shows;
      within_finish = moments_of_finish laws g.D.Disk.shows;
      within_flush = moments_of_flush laws g.D.Disk.shows;
    }
