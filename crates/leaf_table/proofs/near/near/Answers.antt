use Rattle.leaf_table.proofs.near.near.Goals as goal

pub returns-in-Some-guess-clause-near : goal.returns-in-Some-guess-clause-near
returns-in-Some-guess-clause-near g c = rw c.in-Some.is c.near_guess.ensures.near
