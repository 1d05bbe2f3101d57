use Rattle.std.proofs.Common.{sym, ◌∙◌}
use Rattle.std.proofs.lemmas.Result.{on_ok_weaker}
use Rattle.gate_areas.proofs.Behind.{run_one, run_two, run_synced, put_both, settled_both}
use Rattle.gate_areas.proofs.make.write_both.Goals as goal

pub returns-in_err-write_at-clause-any_moment : goal.returns-in_err-write_at-clause-any_moment
returns-in_err-write_at-clause-any_moment g c =
    run_one c.args.area c.args.end c.args.first.now c.args.second.now (g.D.Disk.shows c.args.disk.now) c.requires.settled
    (λ given told. sym (g.met.D.Disk.lengths_are_told c.args.disk.now given c.args.area told) ∙ c.requires.at_end) (g.met.D.Disk.only_now c.args.disk.now) (g.D.Disk.shows c.write_at.new.self) c.write_at.ensures.images c.write_at.ensures.time

pub returns-in_err-write_at-2-clause-any_moment : goal.returns-in_err-write_at-2-clause-any_moment
returns-in_err-write_at-2-clause-any_moment g c =
    run_two c.args.area c.args.end c.args.first.now c.args.second.now (g.D.Disk.shows c.args.disk.now) c.requires.settled
    (λ given told. sym (g.met.D.Disk.lengths_are_told c.args.disk.now given c.args.area told) ∙ c.requires.at_end) (g.met.D.Disk.only_now c.args.disk.now) (g.D.Disk.shows c.write_at.new.self) c.write_at.ensures.images c.write_at.ensures.time
    (g.D.Disk.shows c.write_at-2.new.self) c.write_at-2.ensures.images c.write_at-2.ensures.time

pub returns-clause-any_moment : goal.returns-clause-any_moment
returns-clause-any_moment g c =
    run_synced c.args.area c.args.end c.args.first.now c.args.second.now (g.D.Disk.shows c.args.disk.now) c.requires.settled
    (λ given told. sym (g.met.D.Disk.lengths_are_told c.args.disk.now given c.args.area told) ∙ c.requires.at_end) (g.met.D.Disk.only_now c.args.disk.now) (g.D.Disk.shows c.write_at.new.self) c.write_at.ensures.images c.write_at.ensures.time
    (g.D.Disk.shows c.write_at-2.new.self) c.write_at-2.ensures.images c.write_at-2.ensures.time (g.D.Disk.shows c.sync.new.self) c.sync.ensures.images c.sync.ensures.time

pub returns-clause-put : goal.returns-clause-put
returns-clause-put g c =
    on_ok_weaker c.sync.result
    (λ pins. put_both c.args.area c.args.end c.args.first.now c.args.second.now (g.D.Disk.shows c.args.disk.now) c.requires.settled
    (λ given told. sym (g.met.D.Disk.lengths_are_told c.args.disk.now given c.args.area told) ∙ c.requires.at_end) (g.met.D.Disk.only_now c.args.disk.now) (g.D.Disk.shows c.write_at.new.self) c.write_at.ensures.images c.write_at.ensures.time
    (g.D.Disk.shows c.write_at-2.new.self) c.write_at-2.ensures.images c.write_at-2.ensures.time (g.D.Disk.shows c.sync.new.self) c.sync.ensures.images c.sync.ensures.reads c.in_ok-write_at.ensures.written c.in_ok-write_at-2.ensures.written)
    c.sync.ensures.durable

pub returns-clause-settled : goal.returns-clause-settled
returns-clause-settled g c =
    on_ok_weaker c.sync.result
    (settled_both c.args.area c.args.end c.args.first.now c.args.second.now (g.D.Disk.shows c.args.disk.now) c.requires.settled
    (λ given told. sym (g.met.D.Disk.lengths_are_told c.args.disk.now given c.args.area told) ∙ c.requires.at_end) (g.met.D.Disk.only_now c.args.disk.now) (g.D.Disk.shows c.write_at.new.self) c.write_at.ensures.images c.write_at.ensures.time
    (g.D.Disk.shows c.write_at-2.new.self) c.write_at-2.ensures.images c.write_at-2.ensures.time (g.D.Disk.shows c.sync.new.self) c.sync.ensures.images c.sync.ensures.reads c.in_ok-write_at.ensures.written c.in_ok-write_at-2.ensures.written)
    c.sync.ensures.durable
