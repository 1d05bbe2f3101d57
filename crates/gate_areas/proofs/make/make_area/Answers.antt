use Rattle.std.proofs.Common.{[]}
use Rattle.gate_areas.specs.Sealed.{area_text, CLOSED}
use Rattle.gate_areas.proofs.Made.{bare, made_moments, made_holds}
use Rattle.gate_areas.proofs.make.make_area.Goals as goal

pub returns-in_err-make_bytes-clause-any_moment : goal.returns-in_err-make_bytes-clause-any_moment
returns-in_err-make_bytes-clause-any_moment g c =
    made_moments _ _ c.args.area c.args.generation 17 (area_text c.args.generation CLOSED []) [] (bare c.args.generation c.ranges.generation.fits c.requires.generation) c.requires.room
    c.make_bytes.ensures.any_moment

pub returns-clause-any_moment : goal.returns-clause-any_moment
returns-clause-any_moment g c =
    made_moments _ _ c.args.area c.args.generation 17 (area_text c.args.generation CLOSED []) [] (bare c.args.generation c.ranges.generation.fits c.requires.generation) c.requires.room
    c.make_bytes.ensures.any_moment

pub returns-clause-made : goal.returns-clause-made
returns-clause-made g c = λ areas told.
    made_holds (g.D.Disk.shows c.args.disk.now) (g.D.Disk.shows c.make_bytes.new.disk) c.args.area c.args.generation 17 (area_text c.args.generation CLOSED []) [] (bare c.args.generation c.ranges.generation.fits c.requires.generation) c.requires.room
    c.in_ok-make_bytes.ensures.made areas told
