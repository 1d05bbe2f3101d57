use Rattle.std.proofs.Common.{◌≤◌, length, ap, arith}
use Rattle.disk_trait.specs.Areas.{area_of}
use Rattle.disk_trait.specs.Memory.{Standing, standing, bytes_of}
use Rattle.disk_trait.specs.Parts.{ContentState}
use Rattle.disk_trait.proofs.Lengths.{within}
use Rattle.disk_trait.proofs.content.Content.write.Goals as goal

pub write-requires-clause-reads : goal.write-requires-clause-reads
write-requires-clause-reads c =
    let holds = c.self.invariant in
    omega (arith, holds.room, ap (λ (s : Standing). length (area_of c.args.area s.reads)) holds.stands, (within c.self.inside.image c.self.inside.log.history).0.each c.args.area)

pub write-requires-clause-picked : goal.write-requires-clause-picked
write-requires-clause-picked c =
    let holds = c.self.invariant in
    omega (arith, holds.room, ap (λ (s : Standing). length (area_of c.args.area s.picked)) holds.stands, (within c.self.inside.image c.self.inside.log.history).1.each c.args.area)

pub returns-then-bytes-room-clause-limit : goal.returns-then-bytes-room-clause-limit
returns-then-bytes-room-clause-limit c within_area fits =
    let holds = c.self.invariant in
    let short : length (area_of c.args.area (standing c.self.inside.image c.self.inside.log.history).reads) ≤ bytes_of c.self.inside.log.history = (within c.self.inside.image c.self.inside.log.history).0.each c.args.area in
    omega (arith, holds.room, holds.limit, ap (λ (d : ContentState). length (area_of c.args.area (standing d.image d.history).reads)) c.self.view_is, ap (λ (d : ContentState). d.room) c.self.view_is, short)
