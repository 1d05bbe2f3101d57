use Rattle.std.proofs.Common.{◌≡◌, ℕ, ◌+◌, ◌*◌, ◌≤◌, length, true, sym, subst}
use Rattle.std.specs.Option.{ForSome}
use Rattle.disk_trait.specs.Disk.{EachImage}
use Rattle.gate_log.specs.Found.{batches_in}
use Rattle.gate_log.specs.Journal.{is_count}
use Rattle.gate_log.specs.Log.{content_of, disk_of, last_gate}
use Rattle.gate_log.proofs.journal.Journal.compact.Goals as goal

pub invariant_of-self-in-Faulted-1 : goal.invariant_of-self-in-Faulted-1
invariant_of-self-in-Faulted-1 g c =
    let s = c.args.self.now in
    let same = sym (c.in-Err-Faulted.ensures.refused c.in-Err-Faulted.seen ((c.in-Err-Faulted.ensures.faulted c.in-Err-Faulted.seen).0 (cc))) in
    subst (λ log. record {
      counts : ForSome (content_of g.D.Disk.shows log) (λ batches. length batches ≡ s.number);
      fits : 17 + 9 * s.number ≤ last_gate log;
      images : EachImage (g.D.Disk.shows (disk_of log)) (λ image. is_count s.number s.other (batches_in image) ≡ true);
    }) same (record { counts = s.counts; fits = s.fits; images = s.images })
