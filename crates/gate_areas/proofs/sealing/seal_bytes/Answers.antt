use Rattle.std.proofs.Common.{◌+◌, [], ◌∷◌, length, sym, ◌∙◌}
use Rattle.disk_trait.specs.Disk.{Torn, Written}
use Rattle.disk_trait.proofs.Laws.{joins, widens}
use Rattle.gate_areas.specs.Sealed.{OPEN}
use Rattle.gate_areas.specs.Steps.{Sealing, Seals}
use Rattle.gate_areas.proofs.Runs.{widen_step, after_step, join_steps}
use Rattle.gate_areas.proofs.BatchSeal.{stage_torn, gate_torn, gate_written}
use Rattle.std.proofs.lemmas.Result.{on_ok_weaker}
use Rattle.gate_areas.proofs.sealing.seal_bytes.Goals as goal

pub returns-in_err-write_synced-clause-any_moment : goal.returns-in_err-write_synced-clause-any_moment
returns-in_err-write_synced-clause-any_moment g c =
    widens c.write_synced.ensures.any_moment
    (λ image. widen_step c.args.area (Torn (c.args.place + 1) (length c.args.frame.now)) (Sealing c.args.place c.args.frame.now) _ image
    (λ given told new torn. stage_torn _ _ _ (sym (g.met.D.Disk.lengths_are_told c.args.disk.now given c.args.area told) ∙ c.requires.last) (c.requires.closed given told) _ new torn))

pub returns-clause-sealed : goal.returns-clause-sealed
returns-clause-sealed g c =
    on_ok_weaker c.write_synced-2.result
    (λ opens. join_steps c.args.area (Written (c.args.place + 1) c.args.frame.now) (Written c.args.place (OPEN ∷ [])) (Seals c.args.place c.args.frame.now) (g.D.Disk.shows c.args.disk.now) (g.D.Disk.shows c.write_synced.new.disk)
    (λ given told between new written opened. gate_written _ _ _ (sym (g.met.D.Disk.lengths_are_told c.args.disk.now given c.args.area told) ∙ c.requires.last) (c.requires.closed given told) between new written opened)
    c.in_ok-write_synced.ensures.written (g.D.Disk.shows c.write_synced-2.new.disk) opens)
    c.write_synced-2.ensures.written

pub returns-clause-any_moment : goal.returns-clause-any_moment
returns-clause-any_moment g c =
    joins
    (widens c.write_synced.ensures.any_moment
    (λ image. widen_step c.args.area (Torn (c.args.place + 1) (length c.args.frame.now)) (Sealing c.args.place c.args.frame.now) _ image
    (λ given told new torn. stage_torn _ _ _ (sym (g.met.D.Disk.lengths_are_told c.args.disk.now given c.args.area told) ∙ c.requires.last) (c.requires.closed given told) _ new torn)))
    (widens c.write_synced-2.ensures.any_moment
    (λ image. after_step c.args.area (Written (c.args.place + 1) c.args.frame.now) (Torn c.args.place 1) (Sealing c.args.place c.args.frame.now) _ _
    (λ given told between new written torn. gate_torn _ _ _ (sym (g.met.D.Disk.lengths_are_told c.args.disk.now given c.args.area told) ∙ c.requires.last) (c.requires.closed given told) between new written torn)
    c.in_ok-write_synced.ensures.written image))
