-- Lists that a loop makes.
--     written_more, lines_end       the lines of notes, one note more;  and at their end
--     seats_more            one client more in its seat
use Rattle.std.proofs.Common.{◌≡◌, ℕ, ◌+◌, List, [], ◌∷◌, ◌++◌, length, map, refl, sym, ◌∙◌, ap, arith, append_assoc}
use Rattle.std.proofs.lemmas.List.{map-append}
use Rattle.report_lines.specs.declared.lines.Line.{Line}
use Rattle.script_runs.specs.declared.notes.Note.{Note}
use Rattle.script_statements.specs.declared.script.Client.{Client}
use Rattle.session_driver.specs.declared.seats.Seat.{Seat}
use Rattle.client_machine.specs.Acts.{written_from}
use Rattle.client_machine.specs.ClientStates.{fresh_client}
use Rattle.session_states.specs.Sessions.{fresh_seats}
use Rattle.session_driver.specs.Seats.{seat_seen, script_of_seat}

no_more : {X : Type 0} (xs : List X) → xs ++ [] ≡ xs
no_more [] = refl
no_more (x ∷ xs) = ap (λ ys. x ∷ ys) (no_more xs)

pub written_more : (before after : List Line) (posts more : ℕ) (notes : List Note) (note : Note) → ((rest : List Note) → before ++ written_from posts rest ≡ written_from 0 (notes ++ rest))
    → ((rest : List Note) → after ++ written_from more rest ≡ before ++ written_from posts (note ∷ rest)) → (rest : List Note) → after ++ written_from more rest ≡ written_from 0 ((notes ++ note ∷ []) ++ rest)
written_more before after posts more notes note so_far one rest = one rest ∙ so_far (note ∷ rest) ∙ ap (written_from 0) (sym (append_assoc notes (note ∷ []) rest))

pub lines_end : (lines : List Line) (posts : ℕ) (notes : List Note) → ((rest : List Note) → lines ++ written_from posts rest ≡ written_from 0 (notes ++ rest)) → lines ≡ written_from 0 notes
lines_end lines posts notes all = sym (no_more lines) ∙ all [] ∙ ap (written_from 0) (no_more notes)

fresh_more : (first : ℕ) (clients : List Client) (client : Client) (n : ℕ) → n ≡ first + length clients → fresh_seats first (clients ++ client ∷ []) ≡ fresh_seats first clients ++ fresh_seats n (client ∷ [])
fresh_more first [] client n e = ap (λ m. fresh_seats m (client ∷ [])) (let k : first ≡ n = omega (arith, e) in k)
fresh_more first (c ∷ cs) client n e = ap (λ ss. record { client = fresh_client first c.main; notes = [] } ∷ ss) (fresh_more (first + 1) cs client n (omega (arith, e)))

pub seats_more : (seats new : List Seat) (seat : Seat) (clients : List Client) (client : Client) (number : ℕ) → new ≡ seats ++ seat ∷ [] → map seat_seen seats ≡ fresh_seats 1 clients → number ≡ length clients + 1
    → fresh_seats number (client ∷ []) ≡ seat_seen seat ∷ [] → map seat_seen new ≡ fresh_seats 1 (clients ++ client ∷ [])
seats_more seats new seat clients client number is so_far count one =
    ap (map seat_seen) is ∙ map-append seat_seen seats (seat ∷ []) ∙ ap (λ ss. ss ++ seat_seen seat ∷ []) so_far ∙ ap (λ ss. fresh_seats 1 clients ++ ss) (sym one)
    ∙ sym (fresh_more 1 clients client number (omega (arith, count)))

pub scripts_more : (seats new : List Seat) (seat : Seat) (clients : List Client) (client : Client) → new ≡ seats ++ seat ∷ [] → map script_of_seat seats ≡ clients → script_of_seat seat ≡ client → map script_of_seat new ≡ clients ++ client ∷ []
scripts_more seats new seat clients client is so_far one =
    ap (map script_of_seat) is ∙ map-append script_of_seat seats (seat ∷ []) ∙ ap (λ cs. cs ++ script_of_seat seat ∷ []) so_far ∙ ap (λ c. clients ++ c ∷ []) one

pub count_more : (number next : ℕ) (clients : List Client) (client : Client) → number ≡ length clients → next ≡ number + 1 → next ≡ length (clients ++ client ∷ [])
count_more number next clients client e f = omega (arith, e, f, count clients client)
  where
    count : (cs : List Client) (c : Client) → length (cs ++ c ∷ []) ≡ length cs + 1
    count [] c = refl
    count (d ∷ cs) c = let k = count cs c in omega (arith, k)
