-- How steps on one area follow one another.
use Rattle.std.proofs.Common.{◌≡◌, List, ℕ, Some, refl, sym, ◌∙◌}
use Rattle.disk_trait.specs.declared.area.Area.{Area}
use Rattle.disk_trait.specs.Areas.{Areas, area_of}
use Rattle.disk_trait.specs.Disk.{DiskView, OnArea, Leads, ComesFrom}

-- steps over both areas
pub wider_from : (first both : Areas → Areas → Type 0) (old : DiskView) → ((given : Areas) → old.reads ≡ Some given → (image : Areas) → first given image → both given image)
    → (image : Areas) → ComesFrom first old image → ComesFrom both old image
wider_from first both old wider image from = record { given = from.given; was_given = from.was_given; stepped = wider from.given from.was_given image from.stepped }

-- a step is another one too, where the bytes say so
pub widen_step : (area : Area) (first both : List ℕ → List ℕ → Type 0) (old : DiskView) (image : Areas)
    → ((given : Areas) → old.reads ≡ Some given → (new : List ℕ) → first (area_of area given) new → both (area_of area given) new)
    → ComesFrom (OnArea area first) old image → ComesFrom (OnArea area both) old image
widen_step area first both old image wider =
    wider_from _ _ old (λ given told new step. record { here = wider given told (area_of area new) step.here; elsewhere = step.elsewhere }) image

module _ (area : Area) (first second both : List ℕ → List ℕ → Type 0) (old mid : DiskView)
    (joined : (given : Areas) → old.reads ≡ Some given → (between new : List ℕ) → first (area_of area given) between → second between new → both (area_of area given) new)
    (leads : Leads (OnArea area first) old mid) where
  -- a step after one that is done
  pub after_step : (image : Areas) → ComesFrom (OnArea area second) mid image → ComesFrom (OnArea area both) old image
  after_step image from =
      let start = leads from.given from.was_given in
      record {
        given = start.given;
        was_given = start.was_given;
        stepped = record {
          here = joined start.given start.was_given (area_of area from.given) (area_of area image) start.stepped.here from.stepped.here;
          elsewhere = from.stepped.elsewhere ∙ start.stepped.elsewhere;
        };
      }

  -- two steps that are done
  pub join_steps : (new : DiskView) → Leads (OnArea area second) mid new → Leads (OnArea area both) old new
  join_steps new next = λ image told. after_step image (next image told)

-- a step that leaves the bytes as they are
pub leads_same : (area : Area) (step : List ℕ → List ℕ → Type 0) (old new : DiskView) → new.reads ≡ old.reads
    → ((given : Areas) → old.reads ≡ Some given → step (area_of area given) (area_of area given)) → Leads (OnArea area step) old new
leads_same area step old new same here = λ given told.
    record { given = given; was_given = sym same ∙ told; stepped = record { here = here given (sym same ∙ told); elsewhere = refl } }

-- what reads give comes from itself
abbrev pub comes_same : (area : Area) (step : List ℕ → List ℕ → Type 0) (old : DiskView) (image : Areas) → old.reads ≡ Some image
    → step (area_of area image) (area_of area image) → ComesFrom (OnArea area step) old image
comes_same area step old image told here = record { given = image; was_given = told; stepped = record { here = here; elsewhere = refl } }

-- a step that is done is another one too, where the bytes say so
pub widen_leads : (area : Area) (first both : List ℕ → List ℕ → Type 0) (old new : DiskView)
    → ((given : Areas) → old.reads ≡ Some given → (new : List ℕ) → first (area_of area given) new → both (area_of area given) new)
    → Leads (OnArea area first) old new → Leads (OnArea area both) old new
widen_leads area first both old new wider leads = λ image told. widen_step area first both old image wider (leads image told)

pub wider_leads : (first both : Areas → Areas → Type 0) (old new : DiskView) → ((given : Areas) → old.reads ≡ Some given → (image : Areas) → first given image → both given image)
    → Leads first old new → Leads both old new
wider_leads first both old new wider leads = λ image told. wider_from first both old wider image (leads image told)
