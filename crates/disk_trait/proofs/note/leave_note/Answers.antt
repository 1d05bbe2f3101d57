use Rattle.std.proofs.Common.{[], ◌∷◌, inl, sym, ◌∙◌}
use Rattle.disk_trait.specs.Disk.{ComesFrom, OnArea, Written}
use Rattle.disk_trait.proofs.Laws.{joins, widens, on_ok_both}
use Rattle.disk_trait.proofs.Gate.{behind, written_behind, torn_gate, written_gate}
use Rattle.disk_trait.proofs.note.leave_note.Goals as goal

pub returns-clause-any_moment : goal.returns-clause-any_moment
returns-clause-any_moment g c =
    joins (widens c.write_synced.ensures.any_moment
    (λ image from. inl (behind _ _ _ (c.requires.closed from.given from.was_given) (sym (g.met.D.Disk.lengths_are_told c.args.disk.now from.given c.args.area from.was_given) ∙ c.requires.one_byte) from.stepped.here)))
    (widens c.write_synced-2.ensures.any_moment
    (λ image from.
    let start = c.in_ok-write_synced.ensures.written from.given from.was_given in
    let staged = written_behind _ _ _ (sym (g.met.D.Disk.lengths_are_told c.args.disk.now start.given c.args.area start.was_given) ∙ c.requires.one_byte) start.stepped.here in
    torn_gate _ _ _ staged.0 staged.1 from.stepped.here))

pub returns-clause-left : goal.returns-clause-left
returns-clause-left g c = on_ok_both c.write_synced-2.result
    (λ settled written. λ image left.
    let sealed : ComesFrom (OnArea c.args.area (Written 0 (165 ∷ []))) (g.D.Disk.shows c.write_synced.new.disk) image = written image (settled image left) in
    let start = c.in_ok-write_synced.ensures.written sealed.given sealed.was_given in
    let staged = written_behind _ _ _ (sym (g.met.D.Disk.lengths_are_told c.args.disk.now start.given c.args.area start.was_given) ∙ c.requires.one_byte) start.stepped.here in
    written_gate _ _ _ staged.0 staged.1 sealed.stepped.here)
    c.write_synced-2.ensures.settled c.write_synced-2.ensures.written
