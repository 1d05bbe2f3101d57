-- What isn't touched, by the log's clauses.
--     opened_keeps, made_keeps      as it is opened, and as it is made
use Rattle.std.proofs.Common.{◌≡◌, inl, inr, ⊎_elim, sym, subst}
use Rattle.disk_trait.specs.declared.area.Area.{Area}
use Rattle.disk_trait.specs.Areas.{Areas, area_of, other_area}
use Rattle.disk_trait.specs.Disk.{DiskView, WhereTold, ComesFrom, LeavesOnly}
use Rattle.disk_trait.proofs.Laws.{widens}
use Rattle.gate_areas.specs.Sealed.{BatchList}
use Rattle.gate_areas.specs.Found.{Found, Nothing, Live, Damaged, TakesOver, found_of}
use Rattle.gate_areas.specs.declared.live.LiveArea.{LiveArea}
use Rattle.gate_log.specs.Content.{AreaStays}
use Rattle.gate_log.specs.Opened.{FoundAs, OtherStays, SameFound, IsOldOr}

elsewhere : (live : LiveArea) (batches : BatchList) (given image : Areas) (f : Found) → FoundAs live batches f → OtherStays f given image → AreaStays (other_area live.area) given image
elsewhere live batches given image Nothing is stays = subst (λ area. AreaStays (other_area area) given image) (sym is.0) stays
elsewhere live batches given image (Live area generation found) is stays = subst (λ area. AreaStays (other_area area) given image) (sym is.0) stays
elsewhere live batches given image (Damaged area place) is stays = absurd is

pub opened_keeps : (old new : DiskView) (live : LiveArea) (batches : BatchList) → WhereTold old (λ areas. FoundAs live batches (found_of areas)) → LeavesOnly old new (IsOldOr old (ComesFrom SameFound old))
    → LeavesOnly old new (IsOldOr old (ComesFrom (AreaStays (other_area live.area)) old))
opened_keeps old new live batches found run = widens run (λ image. ⊎_elim
    (λ before. inl before)
    (λ from. inr (record { given = from.given; was_given = from.was_given; stepped = elsewhere live batches from.given image (found_of from.given) (found from.given from.was_given) from.stepped.elsewhere })))

pub made_keeps : (old new : DiskView) (area : Area) (f : Found) → LeavesOnly old new (ComesFrom (TakesOver area f) old) → LeavesOnly old new (ComesFrom (AreaStays (other_area area)) old)
made_keeps old new area f run = widens run (λ image from. record { given = from.given; was_given = from.was_given; stepped = from.stepped.elsewhere })
