-- What holds of the areas and the log of a disk in memory.
use Rattle.std.specs.Prelude.{◌≡◌, ◌+◌, ◌-◌, ◌^◌, ◌≤◌}
use Rattle.disk_trait.specs.Memory.{standing, bytes_of}
use Rattle.disk_trait.specs.Parts.{ContentState}
use Rattle.disk_trait.specs.declared.content.Content.TheInside.{Inside}

abbrev pub content_seen : Inside → ContentState
content_seen c = record { history = c.log.history; image = c.image; spare = c.log.spare; room = c.log.room }

-- In the areas stands what follows from the log. They have room for all bytes that can come.
pub record IsContent (c : Inside) : Type 0 where
  pub stands : c.areas.standing ≡ standing c.image c.log.history
  pub room : c.areas.room ≡ bytes_of c.log.history + c.log.room
  pub limit : c.areas.room ≤ 2 ^ 63 - 1
