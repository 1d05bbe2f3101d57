use Rattle.std.proofs.Common.{◌≡◌, ℕ, [], length, take, true, sym, ◌∙◌, subst, arith}
use Rattle.std.specs.Str.{bytes_eq}
use Rattle.std.proofs.lemmas.Bool.{not-false}
use Rattle.disk_trait.specs.Areas.{area_of}
use Rattle.gate_areas.specs.Sealed.{MAGIC}
use Rattle.gate_areas.specs.Fronts.{IsFront}
use Rattle.gate_areas.proofs.Making.{short_blank}
use Rattle.gate_areas.proofs.Heads.{short_magic, short_number, no_number, no_gate, whole_head}
use Rattle.gate_areas.proofs.scan.read_head.Goals as goal

pub returns-then-len-lt2-clause-head : goal.returns-then-len-lt2-clause-head
returns-then-len-lt2-clause-head g c = λ areas told.
    short_blank (area_of c.args.area areas) (omega (arith, g.met.D.Disk.lengths_are_told c.args.disk.now areas c.args.area told, c.requires))

pub returns-then-len-lt9-clause-head : goal.returns-then-len-lt9-clause-head
returns-then-len-lt9-clause-head g c = λ areas told.
    let long : length (area_of c.args.area areas) ≡ c.args.len = sym (g.met.D.Disk.lengths_are_told c.args.disk.now areas c.args.area told) ∙ sym c.requires in
    let read = c.in_ok-read.ensures.bytes areas told in
    short_magic (area_of c.args.area areas) (omega (arith, long)) c.read.new.buf read c.if-gate.false (omega (arith, long))

pub returns-then-len-lt17-clause-head : goal.returns-then-len-lt17-clause-head
returns-then-len-lt17-clause-head g c = λ areas told.
    let long : length (area_of c.args.area areas) ≡ c.args.len = sym (g.met.D.Disk.lengths_are_told c.args.disk.now areas c.args.area told) ∙ sym c.requires in
    let read = c.in_ok-read.ensures.bytes areas told in
    let told2 = c.read.ensures.untouched.same_reads ∙ told in
    let magic = c.in_ok-read-2.ensures.bytes areas told2 in
    let is_magic : bytes_eq c.read-2.new.buf MAGIC ≡ true = not-false (bytes_eq c.read-2.new.buf MAGIC) (sym c.ne.ensures ∙ c.if-ne.false) in
    short_number (area_of c.args.area areas) (omega (arith, long)) c.read.new.buf read c.if-gate.false c.read-2.new.buf magic is_magic (omega (arith, long))

pub returns-then-generation-eq0-clause-head : goal.returns-then-generation-eq0-clause-head
returns-then-generation-eq0-clause-head g c = λ areas told.
    let long : length (area_of c.args.area areas) ≡ c.args.len = sym (g.met.D.Disk.lengths_are_told c.args.disk.now areas c.args.area told) ∙ sym c.requires in
    let read = c.in_ok-read.ensures.bytes areas told in
    let told2 = c.read.ensures.untouched.same_reads ∙ told in
    let magic = c.in_ok-read-2.ensures.bytes areas told2 in
    let is_magic : bytes_eq c.read-2.new.buf MAGIC ≡ true = not-false (bytes_eq c.read-2.new.buf MAGIC) (sym c.ne.ensures ∙ c.if-ne.false) in
    let number = c.in_ok-read-3.ensures.bytes areas (c.read-2.ensures.untouched.same_reads ∙ told2) in
    let is = c.from_be_bytes-generation.ensures in
    no_number (area_of c.args.area areas) (omega (arith, long)) c.read.new.buf read c.if-gate.false c.read-2.new.buf magic is_magic (omega (arith, long)) c.read-3.new.buf number (sym is ∙ c.if-generation-eq0.true)

pub returns-then-len-eq17-clause-head : goal.returns-then-len-eq17-clause-head
returns-then-len-eq17-clause-head g c = λ areas told.
    let long : length (area_of c.args.area areas) ≡ c.args.len = sym (g.met.D.Disk.lengths_are_told c.args.disk.now areas c.args.area told) ∙ sym c.requires in
    let read = c.in_ok-read.ensures.bytes areas told in
    let told2 = c.read.ensures.untouched.same_reads ∙ told in
    let magic = c.in_ok-read-2.ensures.bytes areas told2 in
    let is_magic : bytes_eq c.read-2.new.buf MAGIC ≡ true = not-false (bytes_eq c.read-2.new.buf MAGIC) (sym c.ne.ensures ∙ c.if-ne.false) in
    let number = c.in_ok-read-3.ensures.bytes areas (c.read-2.ensures.untouched.same_reads ∙ told2) in
    let is = c.from_be_bytes-generation.ensures in
    no_gate (area_of c.args.area areas) (omega (arith, long)) c.read.new.buf read c.if-gate.false c.read-2.new.buf magic is_magic (omega (arith, long)) c.read-3.new.buf number (λ zero. c.if-generation-eq0.false (is ∙ zero)) (omega (arith, long))

pub returns-clause-head : goal.returns-clause-head
returns-clause-head g c = λ areas told.
    let long : length (area_of c.args.area areas) ≡ c.args.len = sym (g.met.D.Disk.lengths_are_told c.args.disk.now areas c.args.area told) ∙ sym c.requires in
    let read = c.in_ok-read.ensures.bytes areas told in
    let told2 = c.read.ensures.untouched.same_reads ∙ told in
    let magic = c.in_ok-read-2.ensures.bytes areas told2 in
    let is_magic : bytes_eq c.read-2.new.buf MAGIC ≡ true = not-false (bytes_eq c.read-2.new.buf MAGIC) (sym c.ne.ensures ∙ c.if-ne.false) in
    let number = c.in_ok-read-3.ensures.bytes areas (c.read-2.ensures.untouched.same_reads ∙ told2) in
    let is = c.from_be_bytes-generation.ensures in
    subst (λ (n : ℕ). IsFront n 17 (take 17 (area_of c.args.area areas)) []) (sym is)
    (whole_head (area_of c.args.area areas) (omega (arith, long)) c.read.new.buf read c.if-gate.false c.read-2.new.buf magic is_magic (omega (arith, long)) c.read-3.new.buf number (λ zero. c.if-generation-eq0.false (is ∙ zero)))
