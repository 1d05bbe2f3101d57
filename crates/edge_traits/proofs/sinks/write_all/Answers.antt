use Rattle.std.proofs.Common.{ℕ, ◌+◌, ◌-◌, List, ◌++◌, Option, length, take, drop, sym, ap, ◌∙◌, subst, arith}
use Rattle.std.proofs.Math.Seq.{take-add}
use Rattle.std.proofs.lemmas.List.{take_rest}
use Rattle.std.specs.Io.KnownBytes.{Appends}
use Rattle.std.proofs.KnownBytes.{Appends-trans}
use Rattle.edge_traits.proofs.sinks.write_all.Goals as goal

-- n more bytes were appended
appends_more : (a b c : Option (List ℕ)) (bytes : List ℕ) (done n : ℕ) → Appends a b (take done bytes)
    → Appends b c (take n (take (length bytes - done) (drop done bytes))) → Appends a c (take (done + n) bytes)
appends_more a b c bytes done n first next =
    let rest = ap (take n) (take_rest bytes done) in
    subst (Appends a c) (ap (λ l. take done bytes ++ l) rest ∙ sym (take-add done n bytes)) (Appends-trans a b c _ _ first next)

pub loop-done-preserved : goal.loop-done-preserved
loop-done-preserved g c =
    (omega (arith, c.in_ok-done.ensures.fits), appends_more _ _ _ _ _ _ c.loop-done.invariant.1 c.in_ok-done.ensures.appended, omega arith)
