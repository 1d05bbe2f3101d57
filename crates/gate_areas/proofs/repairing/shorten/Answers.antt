use Rattle.std.proofs.Common.{◌≤◌, length, sym, arith}
use Rattle.std.proofs.lemmas.List.{take_all}
use Rattle.disk_trait.specs.Areas.{area_of}
use Rattle.disk_trait.specs.Disk.{Shortened}
use Rattle.std.proofs.lemmas.Result.{on_ok_weaker}
use Rattle.disk_trait.proofs.Laws.{comes_still}
use Rattle.gate_areas.proofs.Runs.{leads_same}
use Rattle.gate_areas.proofs.repairing.shorten.Goals as goal

pub returns-else-branch-most-clause-shortened : goal.returns-else-branch-most-clause-shortened
returns-else-branch-most-clause-shortened g c =
    leads_same c.args.area (Shortened c.args.most) (g.D.Disk.shows c.args.disk.now) (g.D.Disk.shows c.len.new.self) c.len.ensures.untouched.same_reads
    (λ given told. let short : length (area_of c.args.area given) ≤ c.args.most = omega (arith, g.met.D.Disk.lengths_are_told c.args.disk.now given c.args.area told, c.in_ok-len.ensures.length) in sym (take_all c.args.most (area_of c.args.area given) short))

pub returns-then-branch-most-clause-shortened : goal.returns-then-branch-most-clause-shortened
returns-then-branch-most-clause-shortened g c =
    on_ok_weaker c.cut_synced.result (λ cut image told. comes_still c.len.ensures.untouched.same_reads (cut image told)) c.cut_synced.ensures.cut
