-- What holds of the memory of one area.
use Rattle.std.specs.Prelude.{◌≡◌, ◌≤◌, length, take, vec_capacity}
use Rattle.disk_trait.specs.declared.area_bytes.AreaBytes.TheInside.{Inside}

-- Below a place, up to which both are as long, reads and the picked image are the same. Both have the room.
pub record IsHeld (a : Inside) : Type 0 where
  pub same : take a.same a.reads.items ≡ take a.same a.picked.items
  pub same_reads : a.same ≤ length a.reads.items
  pub same_picked : a.same ≤ length a.picked.items
  pub reads_fit : length a.reads.items ≤ a.room
  pub picked_fits : length a.picked.items ≤ a.room
  pub reads_room : a.room ≤ vec_capacity a.reads
  pub picked_room : a.room ≤ vec_capacity a.picked
