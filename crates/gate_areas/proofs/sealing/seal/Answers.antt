use Rattle.std.proofs.Common.{◌≡◌, ◌+◌, length, arith}
use Rattle.disk_trait.specs.Disk.{OnArea}
use Rattle.disk_trait.proofs.Laws.{widens}
use Rattle.gate_areas.specs.Steps.{Sealing, Seals}
use Rattle.gate_areas.specs.LiveBatches.{SealsOne, AddsOne}
use Rattle.gate_areas.proofs.Runs.{wider_from, wider_leads}
use Rattle.gate_areas.proofs.BatchSeal.{seals_one, adds_one}
use Rattle.gate_areas.proofs.sealing.seal.Goals as goal

pub returns-in_err-seal_bytes-clause-any_moment : goal.returns-in_err-seal_bytes-clause-any_moment
returns-in_err-seal_bytes-clause-any_moment g c =
    let live = c.args.live in
    let bytes = c.as_slice-bytes.ensures in
    widens c.seal_bytes.ensures.any_moment
    (wider_from (OnArea live.area (Sealing live.gate c.as_slice-bytes.result.now)) (SealsOne live c.args.frame.now) _
    (λ given told. seals_one live c.args.frame.now c.as_slice-bytes.result.now bytes.bytes bytes.size given (c.requires.rests given told)))

pub returns-clause-any_moment : goal.returns-clause-any_moment
returns-clause-any_moment g c =
    let live = c.args.live in
    let bytes = c.as_slice-bytes.ensures in
    widens c.seal_bytes.ensures.any_moment
    (wider_from (OnArea live.area (Sealing live.gate c.as_slice-bytes.result.now)) (SealsOne live c.args.frame.now) _
    (λ given told. seals_one live c.args.frame.now c.as_slice-bytes.result.now bytes.bytes bytes.size given (c.requires.rests given told)))

pub returns-clause-sealed : goal.returns-clause-sealed
returns-clause-sealed g c =
    let live = c.args.live in
    let bytes = c.as_slice-bytes.ensures in
    let gate = live.gate + length c.as_slice-bytes.result.now in
    let at : live.gate + 9 + length c.args.frame.now ≡ live.gate + length c.as_slice-bytes.result.now = omega (arith, bytes.length) in
    wider_leads (OnArea live.area (Seals live.gate c.as_slice-bytes.result.now)) (AddsOne live c.args.frame.now (record { area = live.area; generation = live.generation; gate = gate })) (g.D.Disk.shows c.args.disk.now) (g.D.Disk.shows c.seal_bytes.new.disk)
    (λ given told. adds_one live c.args.frame.now c.as_slice-bytes.result.now bytes.bytes bytes.size given (c.requires.rests given told) gate at)
    c.in_ok-seal_bytes.ensures.sealed
