use Rattle.std.proofs.Common.{ℕ, ◌+◌, ◌-◌, length, take, drop, arith, length-take, length-drop, Result, OnErr, Ok, Err}
use Rattle.std.proofs.lemmas.List.{take_rest}
use Rattle.edge_adapters.proofs.FilesLemmas.{wrote_more, tore_more}
use Rattle.edge_adapters.proofs.file_area.FileArea.write_whole.Goals as goal

on_err : {T E P : Type 0} (r : Result T E) → P → OnErr r P
on_err (Ok x) p = tt
on_err (Err e) p = p

pub returns-in_err-done-clause-torn : goal.returns-in_err-done-clause-torn
returns-in_err-done-clause-torn g c =
    let rest = take (length c.args.bytes.now - c.loop-done.done) (drop c.loop-done.done c.args.bytes.now) in
    on_err _ (tore_more c.args.from c.loop-done.done (length rest) c.args.bytes.now _ _ _ (omega (arith, length-take {A = ℕ}, length-drop {A = ℕ})) c.requires.in_file c.loop-done.invariant.3 c.in_err-done.ensures.torn)

pub loop-done-preserved : goal.loop-done-preserved
loop-done-preserved g c = (
  omega (arith, c.in_ok-done.ensures.some.1),
  c.in_ok-done.ensures.open,
  omega (arith, c.in_ok-done.ensures.length),
  wrote_more c.args.from c.loop-done.done c.in_ok-done.field-0 c.args.bytes.now _ _ _ _ (omega arith) (take_rest c.args.bytes.now c.loop-done.done) c.requires.in_file c.loop-done.invariant.3 c.in_ok-done.ensures.written,
)
