use Rattle.std.proofs.Common.{◌≡◌, ℕ, ◌+◌, ◌-◌, ◌≤◌, min, length, take, drop, ◌∙◌, ap, arith}
use Rattle.disk_trait.specs.Areas.{area_of}
use Rattle.gate_areas.proofs.Walks.{read_behind}
use Rattle.gate_areas.proofs.collecting.read_batch.Goals as goal

pub returns-clause-behind : goal.returns-clause-behind
returns-clause-behind g c = λ areas told last.
    let all = area_of c.args.area areas in
    let ahead = min (c.args.end - (c.args.from + c.args.len)) 9 in
    let within : c.args.end ≤ length (area_of c.args.area areas) = omega (arith, g.met.D.Disk.lengths_are_told c.args.disk.now areas c.args.area told, c.requires.end) in
    let read = c.deref.ensures.value ∙ c.in_ok-bytes.ensures.bytes areas told ∙ ap (λ (k : ℕ). take (c.args.len + k) (drop c.args.from all)) c.min-ahead.ensures in
    let long : length c.deref.result.now ≡ c.args.len + min (c.args.end - (c.args.from + c.args.len)) 9 = omega (arith, c.deref.ensures.len, c.in_ok-bytes.ensures.size, c.min-ahead.ensures) in
    c.gate_in-behind.ensures.gate all last within (read_behind c.deref.result.now all c.args.from c.args.len ahead read long)
