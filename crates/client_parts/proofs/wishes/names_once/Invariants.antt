use Rattle.client_parts.proofs.Once.{OnceSoFar}
use Rattle.client_parts.proofs.wishes.names_once.Given as goal

abbrev pub invariant-loop-place : goal.invariant-loop-place
invariant-loop-place l = OnceSoFar l.names l.place l.once
