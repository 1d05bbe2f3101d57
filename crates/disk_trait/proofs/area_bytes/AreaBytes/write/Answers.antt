use Rattle.std.proofs.Common.{◌+◌, ◌≤◌, List, ℕ, length, take, sym, ◌∙◌, ap, arith}
use Rattle.disk_trait.specs.Parts.{AreaState}
use Rattle.disk_trait.proofs.Overwrites.{overwritten-le, overwritten-ge, picked_write-le, picked_write-ge, same_after_write}
use Rattle.disk_trait.proofs.area_bytes.AreaBytes.write.Goals as goal

pub invariant_of-self : goal.invariant_of-self
invariant_of-self c =
    let held = c.self.invariant in
    let a = c.self.inside in
    let k = c.min-self-inside.result in
    let reads = ap length c.overwrite.ensures.bytes in
    let picked = ap length c.pick_write.ensures.bytes in
    let reads_fit : length a.reads.items + length c.args.bytes.now ≤ a.room = omega (arith, c.requires.reads, ap (λ (v : AreaState). length v.reads) c.self.view_is, ap (λ (v : AreaState). v.room) c.self.view_is) in
    let picked_fits : length a.picked.items + length c.args.bytes.now ≤ a.room = omega (arith, c.requires.picked, ap (λ (v : AreaState). length v.picked) c.self.view_is, ap (λ (v : AreaState). v.room) c.self.view_is) in
    let below : k ≤ a.same = omega arith in
    let behind : k ≤ c.args.from = omega arith in
    record {
      same = ap (λ (l : List ℕ). take k l) c.overwrite.ensures.bytes
          ∙ same_after_write c.args.image a.same k c.args.from c.args.bytes.now a.reads.items a.picked.items below behind held.same_reads held.same_picked held.same
          ∙ sym (ap (λ (l : List ℕ). take k l) c.pick_write.ensures.bytes);
      same_reads = omega (arith, reads, overwritten-ge c.args.from c.args.bytes.now a.reads.items);
      same_picked = omega (arith, picked, picked_write-ge c.args.image c.args.from c.args.bytes.now a.picked.items);
      reads_fit = omega (arith, reads, overwritten-le c.args.from c.args.bytes.now a.reads.items);
      picked_fits = omega (arith, picked, picked_write-le c.args.image c.args.from c.args.bytes.now a.picked.items);
      reads_room = omega arith;
      picked_room = omega arith;
    }
