use Rattle.std.proofs.Common.{◌∙◌, sym, arith}
use Rattle.gate_areas.proofs.Scanning.{open_here, broken_here, whole_here}
use Rattle.gate_areas.proofs.scan.gate_in.Goals as goal

pub returns-then-length-end-clause-gate : goal.returns-then-length-end-clause-gate
returns-then-length-end-clause-gate c = λ bytes last within read. (
  open_here bytes c.args.front.now c.args.place c.args.end last c.requires.place within read (omega arith) c.if-front.false,
  broken_here bytes c.args.front.now c.args.place c.args.end last c.requires.place within read (omega (arith, c.if-end-place-lt9.false)) c.copy_from_slice.new.self c.copy_from_slice.ensures.after
      (omega (arith, c.from_be_bytes-length.ensures, c.if-length-end.true)),
)

pub returns-clause-gate : goal.returns-clause-gate
returns-clause-gate c = λ bytes last within read.
    let whole = whole_here bytes c.args.front.now c.args.place c.args.end last c.requires.place within read (omega (arith, c.if-end-place-lt9.false)) c.copy_from_slice.new.self c.copy_from_slice.ensures.after
    (omega (arith, c.from_be_bytes-length.ensures, c.if-length-end.false)) in (
      open_here bytes c.args.front.now c.args.place c.args.end last c.requires.place within read (omega arith) c.if-front.false,
      whole.0 ∙ sym c.from_be_bytes-length.ensures,
      omega (arith, whole.1, c.from_be_bytes-length.ensures),
    )
