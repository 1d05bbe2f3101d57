use Rattle.std.proofs.lemmas.List.{map-append}
use Rattle.key_paths.proofs.EachOnce.{still_same}
use Rattle.key_paths.proofs.multi_entry.keep_new.Goals as goal

pub returns-in_ok-push-clause-same : goal.returns-in_ok-push-clause-same
returns-in_ok-push-clause-same c =
    rw (c.in_ok-push.ensures.items, map-append) (still_same c.args.seen.now _ _ _ c.requires (rw c.in_ok-copy.ensures at c.in_ok-insert.ensures.updates))
