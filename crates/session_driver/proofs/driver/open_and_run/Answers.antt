use Rattle.std.proofs.Common.{◌≡◌, [], inl, subst, sym, ap, map, ◌∙◌}
use Rattle.std.specs.FinMap as finite
use Rattle.item_changes.specs.Items.{Items}
use Rattle.idb_databases.specs.Items.{AreItems, is_within_limits}
use Rattle.log_history.specs.Kept.{with_doubt}
use Rattle.legal_sessions.specs.Histories.{ShowsItems}
use Rattle.legal_sessions.specs.Legal.{has_of}
use Rattle.session_driver.proofs.Stopping.{at_err}
use Rattle.session_driver.proofs.driver.open_and_run.Goals as goal

pub run_to_end-requires-clause-fresh : goal.run_to_end-requires-clause-fresh
run_to_end-requires-clause-fresh g c κs within =
    let o = c.in_ok-opening.ensures in
    let items = c.requires.items in
    record {
      items = o.same ∙ items;
      finish = c.requires.fresh.0;
      commits = c.requires.fresh.1;
      doubts = ap (with_doubt []) c.requires.runs;
      shows = subst (λ (is : Items). ShowsItems c.in_ok-opening.opening.schemas is) items o.shows;
      openable = o.openable;
      few = o.few;
      opened = record { items = subst AreItems items o.items; within = ap is_within_limits (sym items) ∙ c.requires.within };
      lines_are = o.lines ∙ ap (λ (is : Items). map has_of (finite.entries is)) items;
    }

pub returns-in_err-opening-clause-stops : goal.returns-in_err-opening-clause-stops
returns-in_err-opening-clause-stops g c = at_err c.from_residual.result (inl (c.requires.fresh.1, ap (with_doubt []) c.requires.runs))
