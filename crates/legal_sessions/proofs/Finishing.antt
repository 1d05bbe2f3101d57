-- Each transaction that began is finished once.
use Rattle.std.proofs.Common.{◌≡◌, List, [], ◌∷◌, map, refl, sym, subst}
use Rattle.std.specs.List.Sorted.{IsPermutation}
use Rattle.std.proofs.lemmas.List.Sorted.{IsPermutation-map}
use Rattle.desk_steps.specs.declared.steps.DeskStep.{DeskStep}
use Rattle.client_machine.specs.FinishEntries.{FinishEntry}
use Rattle.script_runs.specs.declared.notes.Note.{Note}
use Rattle.script_handlers.specs.Handling.{Script}
use Rattle.legal_sessions.specs.SerialResults.{BegunTx, number_of_begun, number_of_entry, AreEntriesOf}

same_numbers : (order : List DeskStep) (bs : List BegunTx) (es : List (FinishEntry Script Note)) → AreEntriesOf order bs es → map number_of_begun bs ≡ map number_of_entry es
same_numbers order [] [] a = refl
same_numbers order [] (e ∷ es) a = absurd a
same_numbers order (b ∷ bs) [] a = absurd a
same_numbers order (b ∷ bs) (e ∷ es) a = λ i. sym a.0.number i ∷ same_numbers order bs es a.1 i

pub finished_once : (order : List DeskStep) (begun bs : List BegunTx) (es : List (FinishEntry Script Note)) → IsPermutation begun bs → AreEntriesOf order bs es → IsPermutation (map number_of_begun begun) (map number_of_entry es)
finished_once order begun bs es all a = subst (IsPermutation (map number_of_begun begun)) (same_numbers order bs es a) (IsPermutation-map number_of_begun begun bs all)
