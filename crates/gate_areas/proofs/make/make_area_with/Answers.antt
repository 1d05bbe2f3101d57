use Rattle.std.proofs.Common.{◌≡◌, ℕ, ◌+◌, [], ◌∷◌, length, subst, arith}
use Rattle.gate_areas.specs.Sealed.{area_text, OPEN}
use Rattle.gate_areas.specs.LiveBatches.{Holds}
use Rattle.gate_areas.proofs.Made.{with_first, made_moments, made_holds}
use Rattle.gate_areas.proofs.make.make_area_with.Goals as goal

pub returns-in_err-make_bytes-clause-any_moment : goal.returns-in_err-make_bytes-clause-any_moment
returns-in_err-make_bytes-clause-any_moment g c =
    made_moments _ _ c.args.area c.args.generation (17 + 9 + length c.args.first.now) (area_text c.args.generation OPEN c.as_slice-frame.result.now) ((17, c.args.first.now) ∷ [])
    (with_first c.args.generation c.ranges.generation.fits c.requires.generation c.args.first.now c.as_slice-frame.result.now c.as_slice-frame.ensures.bytes c.as_slice-frame.ensures.size) c.requires.room
    c.make_bytes.ensures.any_moment

pub returns-clause-any_moment : goal.returns-clause-any_moment
returns-clause-any_moment g c =
    made_moments _ _ c.args.area c.args.generation (17 + 9 + length c.args.first.now) (area_text c.args.generation OPEN c.as_slice-frame.result.now) ((17, c.args.first.now) ∷ [])
    (with_first c.args.generation c.ranges.generation.fits c.requires.generation c.args.first.now c.as_slice-frame.result.now c.as_slice-frame.ensures.bytes c.as_slice-frame.ensures.size) c.requires.room
    c.make_bytes.ensures.any_moment

pub returns-clause-made : goal.returns-clause-made
returns-clause-made g c = λ areas told.
    let at : 17 + 9 + length c.args.first.now ≡ 17 + length c.as_slice-frame.result.now = omega (arith, c.as_slice-frame.ensures.length) in
    subst (λ (k : ℕ). Holds (record { area = c.args.area; generation = c.args.generation; gate = k }) ((17, c.args.first.now) ∷ []) areas) at
    (made_holds (g.D.Disk.shows c.args.disk.now) (g.D.Disk.shows c.make_bytes.new.disk) c.args.area c.args.generation (17 + 9 + length c.args.first.now) (area_text c.args.generation OPEN c.as_slice-frame.result.now) ((17, c.args.first.now) ∷ [])
    (with_first c.args.generation c.ranges.generation.fits c.requires.generation c.args.first.now c.as_slice-frame.result.now c.as_slice-frame.ensures.bytes c.as_slice-frame.ensures.size) c.requires.room
    c.in_ok-make_bytes.ensures.made areas told)
