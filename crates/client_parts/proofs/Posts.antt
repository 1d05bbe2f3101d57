-- Posts that become tasks.
--     with_one, with_none   one note more;  none is left
--     alike_itself          a client whose notes are taken sits in the same place
use Rattle.std.proofs.Common.{◌≡◌, ℕ, ◌+◌, ◌<◌, ◌≤◌, true, false, List, [], ◌∷◌, ◌++◌, length, drop, drop-cons, add-one, get_or, if◌then◌else◌, refl, sym, ap, ◌∙◌, subst}
use Rattle.std.specs.Prelude.{nat_lt}
use Rattle.std.proofs.lemmas.List.{drop_all}
use Rattle.script_runs.specs.declared.notes.Note.{Note}
use Rattle.script_runs.specs.declared.notes.Note.TheVariants as note
use Rattle.script_runs.specs.declared.notes.Task.{Task}
use Rattle.client_seats.specs.ClientStates.{ClientState, with_task, with_notes}
use Rattle.client_seats.specs.TheConstants.{GREATEST_POST_COUNT}
use Rattle.client_seats.specs.Seating.{SitsAlike}
use Rattle.client_parts.specs.Posting.{with_note}

pub with_one : (c : ClientState) (n : Note) (ns : List Note) → with_notes c (n ∷ ns) ≡ with_notes (with_note c n) ns
with_one c (note.Line l) ns = refl
with_one c (note.Posted task) ns = refl

pub with_next : (c d : ClientState) (notes : List Note) (place : ℕ) (n : Note) → place < length notes → n ≡ get_or notes place n → d ≡ with_note c n → with_notes d (drop (place + 1) notes) ≡ with_notes c (drop place notes)
with_next c d notes place n l e k =
    let here : drop place notes ≡ n ∷ drop (place + 1) notes = rw (add-one) (drop-cons notes place n l) ∙ ap (λ x. x ∷ drop (place + 1) notes) (sym e) in
    ap (λ x. with_notes x (drop (place + 1) notes)) k ∙ sym (with_one c n (drop (place + 1) notes)) ∙ ap (with_notes c) (sym here)

pub with_none : (c : ClientState) (notes : List Note) (place : ℕ) → length notes ≤ place → with_notes c (drop place notes) ≡ c
with_none c notes place l = ap (with_notes c) (drop_all place notes l)

pub alike_itself : (c : ClientState) → SitsAlike c c
alike_itself c = record { number = refl; opens = refl; txs = refl }

task_alike : (c : ClientState) (task : Task) → SitsAlike c (with_task c task)
task_alike c task = elim (nat_lt c.posts GREATEST_POST_COUNT) as (λ b. SitsAlike c (if b then record c { tasks = c.tasks ++ task ∷ []; posts = c.posts + 1 } else c)) [ true ↦ record { number = refl; opens = refl; txs = refl } | false ↦ alike_itself c ]
