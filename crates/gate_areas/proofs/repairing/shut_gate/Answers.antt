use Rattle.std.proofs.Common.{inl, [], ◌∷◌, refl, sym, ◌∙◌}
use Rattle.std.proofs.lemmas.Result.{on_ok_weaker}
use Rattle.disk_trait.specs.Disk.{Torn, Written}
use Rattle.disk_trait.proofs.Laws.{joins, widens, comes_still, untouched_moments}
use Rattle.gate_areas.specs.Sealed.{CLOSED}
use Rattle.gate_areas.specs.Steps.{Repairing, Repairs}
use Rattle.gate_areas.proofs.EndRepair.{shut_torn, shut_written, shut_already}
use Rattle.gate_areas.proofs.Runs.{comes_same, leads_same, widen_leads, widen_step}
use Rattle.gate_areas.proofs.repairing.shut_gate.Goals as goal

pub returns-then-gate-ne-CLOSED-clause-shut : goal.returns-then-gate-ne-CLOSED-clause-shut
returns-then-gate-ne-CLOSED-clause-shut g c =
    on_ok_weaker c.write_synced.result
    (λ written. widen_leads c.args.area (Written c.args.place (CLOSED ∷ [])) (Repairs c.args.place) (g.D.Disk.shows c.args.disk.now) (g.D.Disk.shows c.write_synced.new.disk)
    (λ given told new. shut_written c.args.place _ (sym (g.met.D.Disk.lengths_are_told c.args.disk.now given c.args.area told) ∙ c.requires.last) new)
    (λ image told. comes_still c.read.ensures.untouched.same_reads (written image told)))
    c.write_synced.ensures.written

pub returns-then-gate-ne-CLOSED-clause-any_moment : goal.returns-then-gate-ne-CLOSED-clause-any_moment
returns-then-gate-ne-CLOSED-clause-any_moment g c =
    joins
    (untouched_moments (g.met.D.Disk.only_now c.args.disk.now) c.read.ensures.untouched (λ image left. comes_same c.args.area (Repairing c.args.place) _ image (c.requires.settled image left) (inl refl)))
    (widens c.write_synced.ensures.any_moment
    (λ image from. widen_step c.args.area (Torn c.args.place 1) (Repairing c.args.place) _ image
    (λ given told new. shut_torn c.args.place _ (sym (g.met.D.Disk.lengths_are_told c.args.disk.now given c.args.area told) ∙ c.requires.last) new)
    (comes_still c.read.ensures.untouched.same_reads from)))

pub returns-else-gate-ne-CLOSED-clause-shut : goal.returns-else-gate-ne-CLOSED-clause-shut
returns-else-gate-ne-CLOSED-clause-shut g c =
    leads_same c.args.area (Repairs c.args.place) (g.D.Disk.shows c.args.disk.now) (g.D.Disk.shows c.read.new.self) c.read.ensures.untouched.same_reads
    (λ given told. shut_already c.args.place _ (sym (g.met.D.Disk.lengths_are_told c.args.disk.now given c.args.area told) ∙ c.requires.last) c.read.new.buf (c.in_ok-read.ensures.bytes given told) c.if-gate-ne-CLOSED.false)
