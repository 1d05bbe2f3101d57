use Rattle.std.proofs.Common.{◌≡◌, Ok, Err, sym, ap, subst, ◌∙◌}
use Rattle.disk_trait.specs.declared.area.Area.TheVariants.{Zero, One}
use Rattle.gate_areas.specs.Choice.{ChoiceIs}
use Rattle.log_history.specs.Found.{found_by, found}
use Rattle.idb_recovery.specs.Lines.{lines_in}
use Rattle.idb_recovery.proofs.looking.held_by.Goals as goal

pub held_at-requires-clause-lives : goal.held_at-requires-clause-lives
held_at-requires-clause-lives g c κs within = λ areas told. subst (λ choice. ChoiceIs choice areas) c.in-Live.is (c.requires.chosen areas told)

pub returns-in-New-clause-items : goal.returns-in-New-clause-items
returns-in-New-clause-items g c = λ areas told.
    ap found_by (subst (λ choice. ChoiceIs choice areas) c.in-New.is (c.requires.chosen areas told)) ∙ ap Ok (sym c.new.ensures)

pub returns-in-New-clause-zero : goal.returns-in-New-clause-zero
returns-in-New-clause-zero g c = λ areas told.
    c.new-in-New.ensures ∙ ap (lines_in Zero) (sym (subst (λ choice. ChoiceIs choice areas) c.in-New.is (c.requires.chosen areas told)))

pub returns-in-New-clause-one : goal.returns-in-New-clause-one
returns-in-New-clause-one g c = λ areas told.
    c.new-in-New-2.ensures ∙ ap (lines_in One) (sym (subst (λ choice. ChoiceIs choice areas) c.in-New.is (c.requires.chosen areas told)))

pub returns-in-Damaged-clause-damaged : goal.returns-in-Damaged-clause-damaged
returns-in-Damaged-clause-damaged g c = λ area place is areas told.
    let at : found areas ≡ Err (c.in-Damaged.area, c.in-Damaged.place) = ap found_by (subst (λ choice. ChoiceIs choice areas) c.in-Damaged.is (c.requires.chosen areas told)) in
    cc
