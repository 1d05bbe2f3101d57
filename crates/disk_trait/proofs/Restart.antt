-- What a sync of a disk in memory pins, and what a restart takes up, which is one of its images.
use Rattle.std.specs.Prelude.{◌≡◌, Result, Ok, Err, is_ok, OnOk, if◌then◌else◌, refl}
use Rattle.std.proofs.Common.{sym, ◌∙◌, ap, subst}
use Rattle.disk_trait.specs.declared.area.Area.{Area}
use Rattle.disk_trait.specs.Areas.{Areas, area_of}
use Rattle.disk_trait.specs.Disk.{Leads, NoNewImage, Pins}
use Rattle.disk_trait.specs.Memory.{MemoryState, MayLeave, disk_view, standing, reads_of, restarted, with_change, with_call}
use Rattle.disk_trait.specs.Memory.Change.{Synced}
use Rattle.disk_trait.specs.MemoryLaws.{told_is, standing_may_be_left}

-- the images of a disk in memory
abbrev pub images_of : MemoryState → Areas → Type 0
images_of disk image = MayLeave disk.image disk.history image

picked_is_left : (disk : MemoryState) (image : Areas) → image ≡ (standing disk.image disk.history).picked → images_of disk image
picked_is_left disk image is = subst (images_of disk) (sym is) (standing_may_be_left disk.image disk.history).1

module _ {T E : Type 0} (old new : MemoryState) where
  pub sync_pins_area : (r : Result T E) (area : Area) → new ≡ with_call r (if is_ok r then with_change (Synced area) old else old)
      → OnOk r (Pins area (disk_view old) (disk_view new))
  sync_pins_area (Err e) area after = tt
  sync_pins_area (Ok x) area after = λ areas told image left.
      (subst (λ (d : MemoryState). images_of d image) after left).1 ∙ ap (area_of area) (told_is (reads_of old) areas told)

  pub restart_images : (r : Result T E) → new ≡ with_call r (if is_ok r then restarted old else old) → NoNewImage (disk_view old) (disk_view new)
  restart_images (Ok x) after image left = picked_is_left old image (subst (λ (d : MemoryState). images_of d image) after left)
  restart_images (Err e) after image left = subst (λ (d : MemoryState). images_of d image) after left

  pub restart_leads : (r : Result T E) → new ≡ with_call r (if is_ok r then restarted old else old)
      → OnOk r (Leads (λ before image. images_of old image) (disk_view old) (disk_view new))
  restart_leads (Err e) after = tt
  restart_leads (Ok x) after = λ now told. record { given = reads_of old; was_given = refl; stepped = subst (images_of old) (told_is (reads_of new) now told) taken }
    where
      taken : images_of old (reads_of new)
      taken = subst (λ (d : MemoryState). images_of old (reads_of d)) (sym after) (standing_may_be_left old.image old.history).1
