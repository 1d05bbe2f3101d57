use Rattle.std.proofs.Common.{ℕ, Option, None, inl, refl, subst}
use Rattle.office_scenes.specs.Measures.{left_to}
use Rattle.office_moves.specs.Moving.{IsMoveOf}
use Rattle.office_scenes.specs.Scenes.{done_of_book}
use Rattle.office_scenes.proofs.Laws.{works_on}
use Rattle.office_moves.proofs.Turning.{tx_moved, served_moved}
use Rattle.office_moves.proofs.Telling.{tells_still}
use Rattle.office_moves.proofs.Telling.{at_err}
use Rattle.office_moves.proofs.moving.make_move.Goals as goal

pub run_tx-requires-clause-due : goal.run_tx-requires-clause-due
run_tx-requires-clause-due g c κs within = subst (λ (n : Option ℕ). IsMoveOf c.args.office.now.run c.args.office.now.client n) c.in-Some.is c.requires.due

pub serve-requires : goal.serve-requires
serve-requires g c = record { at = (None, works_on None c.args.office.now c.args.notes.now (done_of_book c.args.book.now) c.args.databases.now c.requires.on) }

pub returns-in_ok-serve-in-None-clause-leads : goal.returns-in_ok-serve-in-None-clause-leads
returns-in_ok-serve-in-None-clause-leads g c = c.in_ok-serve-in-None.ensures.keeps.goes None (done_of_book c.args.book.now) c.args.databases.now

pub returns-in_ok-serve-in-None-clause-less : goal.returns-in_ok-serve-in-None-clause-less
returns-in_ok-serve-in-None-clause-less g c = served_moved _ _ _ (c.in_ok-serve-in-None.ensures.less (subst (λ (n : Option ℕ). IsMoveOf c.args.office.now.run c.args.office.now.client n) c.in-None.is c.requires.due))

pub returns-in_ok-run_tx-in-Some-clause-less : goal.returns-in_ok-run_tx-in-Some-clause-less
returns-in_ok-run_tx-in-Some-clause-less g c = tx_moved (left_to c.run_tx.new.office.client c.run_tx.new.notes) (left_to c.args.office.now.client c.args.notes.now) (done_of_book c.args.book.now) (done_of_book c.run_tx.new.book) c.in-Some.number c.in_ok-run_tx-in-Some.ensures.leads.less c.in_ok-run_tx-in-Some.ensures.finishes

pub returns-in_err-serve-in-None-clause-stops : goal.returns-in_err-serve-in-None-clause-stops
returns-in_err-serve-in-None-clause-stops g c = at_err c.from_residual-in_err-serve-in-None.result (inl (tells_still (done_of_book c.args.book.now) (done_of_book c.args.book.now) refl))
