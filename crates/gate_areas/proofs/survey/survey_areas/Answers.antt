use Rattle.std.proofs.Common.{ℕ, List, refl, sym, ◌∙◌, ap, subst}
use Rattle.disk_trait.specs.declared.area.Area.TheVariants.{One}
use Rattle.gate_areas.specs.Sealed.{BatchList, Open}
use Rattle.gate_areas.specs.Scan.{ScanFits, ScanIs, StandsAs}
use Rattle.gate_areas.specs.declared.scan.Scan.{Scan}
use Rattle.gate_areas.specs.declared.scan.Scan.TheVariants as scan
use Rattle.gate_areas.proofs.Choosing.{choice_is, sealed_ends}
use Rattle.gate_areas.proofs.Rest.{before_is}
use Rattle.gate_areas.proofs.survey.survey_areas.Goals as goal

stands_as : (read : Scan) (bytes : List ℕ) → ScanIs read bytes → StandsAs read bytes
stands_as scan.Blank bytes is = is
stands_as (scan.Broken place) bytes is = is
stands_as (scan.Open generation gate) bytes is =
    sealed_ends generation gate bytes is ∙ ap (λ (bs : BatchList). Open generation bs) (sym (before_is generation gate _ bytes is.batches refl is.front))

pub returns-clause-zero : goal.returns-clause-zero
returns-clause-zero g c = λ areas told. stands_as c.in_ok-zero.zero areas.zero (c.in_ok-zero.ensures.scan areas told)

pub returns-clause-one : goal.returns-clause-one
returns-clause-one g c = λ areas told. stands_as c.in_ok-one.one areas.one (c.in_ok-one.ensures.scan areas (c.scan_area.ensures.untouched.same_reads ∙ told))

pub returns-clause-found : goal.returns-clause-found
returns-clause-found g c = λ areas told.
    choice_is c.choose-choice.result areas (c.choose-choice.ensures.choice areas (c.in_ok-zero.ensures.scan areas told) (c.in_ok-one.ensures.scan areas (c.scan_area.ensures.untouched.same_reads ∙ told)))

pub returns-clause-fits : goal.returns-clause-fits
returns-clause-fits g c =
    c.choose-choice.ensures.fits _ c.in_ok-zero.ensures.fits (subst (λ (n : ℕ). ScanFits c.in_ok-one.one n) (c.scan_area.ensures.untouched.same_lengths One) c.in_ok-one.ensures.fits)
