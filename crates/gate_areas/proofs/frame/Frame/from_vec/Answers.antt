use Rattle.std.proofs.Common.{◌<◌, ◌^◌, length, drop, ◌∙◌, ap, arith, length-drop, rules}
use Rattle.gate_areas.specs.Frames.{payload_of}
use Rattle.gate_areas.proofs.FrameLemmas.{in_place, is_framed, payload_back}
use Rattle.gate_areas.proofs.frame.Frame.from_vec.Goals as goal

pub invariant_of-result : goal.invariant_of-result
invariant_of-result c =
    let small : length c.args.bytes.items < 2 ^ 64 = search rules in
    is_framed c.put_front.new.bytes.items (drop 8 c.args.bytes.items)
    (in_place c.args.bytes.items _ _ _ _ (omega (arith, c.requires)) (omega (arith, c.len.ensures)) c.in-Ok.ensures.items c.to_be_bytes.ensures c.put_front.ensures)
    (omega (arith, small, length-drop 8 c.args.bytes.items))

pub returns-in-Ok-clause-framed : goal.returns-in-Ok-clause-framed
returns-in-Ok-clause-framed c =
    ap payload_of (in_place c.args.bytes.items _ _ _ _ (omega (arith, c.requires)) (omega (arith, c.len.ensures)) c.in-Ok.ensures.items c.to_be_bytes.ensures c.put_front.ensures)
    ∙ payload_back (drop 8 c.args.bytes.items)
