use Rattle.std.proofs.Common.{◌≡◌, map}
use Rattle.std.specs.List.{AllByRecursion}
use Rattle.idb_calls.specs.View.{delta_of}
use Rattle.item_changes.specs.Effects.{applied_all, all_apply}
use Rattle.database_changes.specs.StoreChanges.{CanApply}
use Rattle.record_changes.specs.Loosened.{meant, HasNoRecords}
use Rattle.record_changes.proofs.record.make_all.Given as goal

-- what is left, on what was made so far, is all, on what was there
abbrev pub invariant-loop-change : goal.invariant-loop-change
invariant-loop-change g l =
    let rest = map delta_of l.change-iterator.rest.items in
    record {
      made : applied_all (meant l.items l.aside) rest ≡ applied_all (meant l.initial.items l.initial.aside) l.fn.changes;
      found : all_apply (meant l.items l.aside) rest ≡ all_apply (meant l.initial.items l.initial.aside) l.fn.changes;
      can : AllByRecursion CanApply rest;
      blank : HasNoRecords l.aside;
    }
