use Rattle.std.proofs.Common.{◌≡◌, Some, sym, ap, ◌∙◌}
use Rattle.gate_log.specs.Log.{failed_at}
use Rattle.tx_book.specs.Seen.{failed_in}
use Rattle.tx_book.proofs.Faults.{not_both}
use Rattle.tx_book.proofs.place.append.Goals as goal

pub unreachable-requires : goal.unreachable-requires
unreachable-requires g c =
    let f : failed_at c.in-Open.log ≡ Some c.in-Err-Faulted.field-0-0 = (c.append.ensures.faulted c.in-Err-Faulted.field-0-0).0 (cc) in
    not_both (failed_at c.in-Open.log) c.in-Err-Faulted.field-0-0 f (sym (ap failed_in c.in-Open.is) ∙ c.requires.faultless)
