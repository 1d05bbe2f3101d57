-- A client goes on holding its transactions.
--     started_held          one that starts
--     task_held, notes_held through a task, and through posts
use Rattle.std.proofs.Common.{◌≡◌, ℕ, true, if◌then◌else◌, List, [], ◌∷◌, ◌++◌, map, Option, Some, inl, inr, sym, ◌∙◌, ap}
use Rattle.std.specs.List.{find}
use Rattle.std.proofs.lemmas.Bool.{cases_Bool}
use Rattle.idb_desk.specs.Steps.{DeskRun, desk_run, IsDeskRun}
use Rattle.script_statements.specs.declared.script.Block.{Block as Named}
use Rattle.script_runs.specs.declared.environments.Env.{Env}
use Rattle.script_runs.specs.declared.notes.Note.{Note}
use Rattle.client_machine.specs.Acts.{Act, txs_begun}
use Rattle.client_machine.specs.ClientStates.{ClientTx, ClientState, is_tx, tx_at, with_started, started_if, with_notes}
use Rattle.client_machine.specs.TaskRuns.{RunsNow}
use Rattle.client_ties.proofs.Laws.{IsSound, notes_txs, grows_now}
use Rattle.session_facts.proofs.Desk.{some_same}

found_more : (number : ℕ) (txs more : List ClientTx) (tx : ClientTx) → find (is_tx number) txs ≡ Some tx → find (is_tx number) (txs ++ more) ≡ Some tx
found_more number [] more tx e = cc
found_more number (x ∷ xs) more tx e = elim (cases_Bool (is_tx number x)) [
  | inl is ↦ ap (λ b. if b then Some x else find (is_tx number) (xs ++ more)) is ∙ sym (ap (λ b. if b then Some x else find (is_tx number) xs) is) ∙ e
  | inr out ↦ ap (λ b. if b then Some x else find (is_tx number) (xs ++ more)) out
      ∙ found_more number xs more tx (sym (ap (λ b. if b then Some x else find (is_tx number) xs) out) ∙ e)
]

found_started : (number : ℕ) (txs : List ClientTx) (tx : ClientTx) → find (is_tx number) txs ≡ Some tx → find (is_tx number) (map (started_if number) txs) ≡ Some (record tx { started = true })
found_started number [] tx e = cc
found_started number (x ∷ xs) tx e = elim (cases_Bool (is_tx number x)) [
  | inl is ↦
      let same : x ≡ tx = some_same (sym (ap (λ b. if b then Some x else find (is_tx number) xs) is) ∙ e) in
      ap (λ b. find (is_tx number) ((if b then record x { started = true } else x) ∷ map (started_if number) xs)) is
      ∙ ap (λ b. if b then Some (record x { started = true }) else find (is_tx number) (map (started_if number) xs)) is
      ∙ ap (λ (y : ClientTx). Some (record y { started = true })) same
  | inr out ↦
      ap (λ b. find (is_tx number) ((if b then record x { started = true } else x) ∷ map (started_if number) xs)) out
      ∙ ap (λ b. if b then Some x else find (is_tx number) (map (started_if number) xs)) out
      ∙ found_started number xs tx (sym (ap (λ b. if b then Some x else find (is_tx number) xs) out) ∙ e)
]

pub started_held : (c : ClientState) (number : ℕ) (tx : ClientTx) → tx_at c number ≡ Some tx → tx_at (with_started c number) number ≡ Some (record tx { started = true })
started_held c number tx e = found_started number c.txs tx e

pub notes_held : (c : ClientState) (notes : List Note) (number : ℕ) (tx : ClientTx) → tx_at c number ≡ Some tx → tx_at (with_notes c notes) number ≡ Some tx
notes_held c notes number tx e = ap (find (is_tx number)) (notes_txs notes c).0 ∙ e

pub task_held : ((q : DeskRun) → IsDeskRun q → IsSound (desk_run q)) → (blocks : List Named) (c : ClientState) (env : Env) (block : Option ℕ) (acts : List Act) (last : ClientState) (number : ℕ) (tx : ClientTx) → RunsNow blocks c env block acts last
    → tx_at c number ≡ Some tx → tx_at last number ≡ Some tx
task_held sound blocks c env block acts last number tx runs e =
    ap (find (is_tx number)) (grows_now sound blocks c env block acts last runs).txs ∙ found_more number c.txs (txs_begun acts) tx e
