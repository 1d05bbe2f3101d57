use Rattle.std.proofs.Common.{sym, ◌∙◌, subst}
use Rattle.disk_trait.proofs.Laws.{joins, widens, comes_still, untouched_moments}
use Rattle.gate_areas.specs.Choice.{ChoiceIs}
use Rattle.gate_areas.specs.declared.choose.Choice.{Choice}
use Rattle.gate_log.proofs.Keeps.{nothing_changed}
use Rattle.gate_log.proofs.open.resume.Goals as goal

pub start_new-requires-clause-blank : goal.start_new-requires-clause-blank
start_new-requires-clause-blank g c = λ areas told.
    subst (λ (choice : Choice). ChoiceIs choice areas) c.in-New.is (c.in_ok-find_live.ensures.found areas (sym c.find_live.ensures.untouched.same_reads ∙ told))

pub go_on-requires-clause-lives : goal.go_on-requires-clause-lives
go_on-requires-clause-lives g c = λ areas told.
    subst (λ (choice : Choice). ChoiceIs choice areas) c.in-Live.is (c.in_ok-find_live.ensures.found areas (sym c.find_live.ensures.untouched.same_reads ∙ told))

pub returns-in-Damaged-clause-damaged : goal.returns-in-Damaged-clause-damaged
returns-in-Damaged-clause-damaged g c = λ area place is areas told.
    let found = subst (λ (choice : Choice). ChoiceIs choice areas) c.in-Damaged.is (c.in_ok-find_live.ensures.found areas told) in
    cc

pub returns-in_err-find_live-clause-any_moment : goal.returns-in_err-find_live-clause-any_moment
returns-in_err-find_live-clause-any_moment g c =
    untouched_moments (g.met.D.Disk.only_now c.args.disk.now) c.find_live.ensures.untouched (λ image left. nothing_changed _ image (c.requires image left))

pub returns-in-Damaged-clause-any_moment : goal.returns-in-Damaged-clause-any_moment
returns-in-Damaged-clause-any_moment g c =
    untouched_moments (g.met.D.Disk.only_now c.args.disk.now) c.find_live.ensures.untouched (λ image left. nothing_changed _ image (c.requires image left))

pub returns-in-New-clause-any_moment : goal.returns-in-New-clause-any_moment
returns-in-New-clause-any_moment g c =
    joins (untouched_moments (g.met.D.Disk.only_now c.args.disk.now) c.find_live.ensures.untouched (λ image left. nothing_changed _ image (c.requires image left)))
    (widens c.start_new.ensures.any_moment (λ image from. comes_still c.find_live.ensures.untouched.same_reads from))

pub returns-in-Live-clause-any_moment : goal.returns-in-Live-clause-any_moment
returns-in-Live-clause-any_moment g c =
    joins (untouched_moments (g.met.D.Disk.only_now c.args.disk.now) c.find_live.ensures.untouched (λ image left. nothing_changed _ image (c.requires image left)))
    (widens c.go_on.ensures.any_moment (λ image from. comes_still c.find_live.ensures.untouched.same_reads from))
