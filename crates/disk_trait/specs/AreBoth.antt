-- How two areas are seen as one value.
use Rattle.std.specs.Prelude.{◌≡◌}
use Rattle.disk_trait.specs.Parts.{BothState}
use Rattle.disk_trait.specs.declared.both_areas.BothAreas.TheInside.{Inside}

abbrev pub both : Inside → BothState
both a = record {
  standing = record {
    reads = record { zero = a.zero.reads; one = a.one.reads };
    picked = record { zero = a.zero.picked; one = a.one.picked };
  };
  room = a.zero.room;
}

-- both have the same room
abbrev pub HaveRoom : Inside → Type 0
HaveRoom a = a.one.room ≡ a.zero.room
