-- A change and its sync on a settled disk: the images at each moment come from what reads gave.
use Rattle.disk_trait.specs.Areas.{Areas}
use Rattle.disk_trait.specs.Disk.{DiskView, Follows, NoNewImage, IsSettled, ComesFrom, Elapses, LeavesOnly}
use Rattle.disk_trait.proofs.Laws.{begins, goes_on}

module _ (old mid : DiskView) (step : Areas → Areas → Type 0) (nothing : (areas : Areas) → step areas areas) (settled : IsSettled old)
    (only_now : (image : Areas) → old.left_since old.moment image → old.may_leave image) (follows : Follows step old mid) (time : Elapses old mid) where
  comes : (image : Areas) → mid.may_leave image → ComesFrom step old image
  comes image left = let from = follows image left in record { given = from.0; was_given = settled from.0 from.1; stepped = from.2 }

  -- over the change alone
  pub changed : LeavesOnly old mid (ComesFrom step old)
  changed = goes_on (begins only_now (λ image left. record { given = image; was_given = settled image left; stepped = nothing image })) time comes

  -- and over its sync
  pub synced : (new : DiskView) → NoNewImage mid new → Elapses mid new → LeavesOnly old new (ComesFrom step old)
  synced new none_new then = goes_on changed then (λ image left. comes image (none_new image left))
