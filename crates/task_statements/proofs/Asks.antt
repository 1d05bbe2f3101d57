-- The open or the delete that a statement asks.
--     asked_task            what the client asks of the desk by it
--     misplaced_else        other statements than those of tasks ask nothing
--     tx_none, tx_asked     a transaction on no connection of the client's, and on one
use Rattle.std.proofs.Common.{◌≡◌, ℕ, List, [], Option, Some, None, refl, sym, ap, ◌∙◌}
use Rattle.std.specs.Prelude.{unwrap_or}
use Rattle.idb_keys.specs.declared.names.Mode.{Mode}
use Rattle.idb_keys.specs.declared.names.Durability.{Durability}
use Rattle.idb_keys.specs.declared.names.Durability.TheVariants.{Relaxed}
use Rattle.item_changes.specs.Items.{Name}
use Rattle.name_queues.specs.declared.ids.ConnId.{ConnId}
use Rattle.script_exprs.specs.Expression.{Expression}
use Rattle.script_statements.specs.declared.statement.Stmt.{Stmt}
use Rattle.script_statements.specs.declared.statement.Stmt.TheVariants as stmt
use Rattle.script_runs.specs.declared.environments.Env.{Env}
use Rattle.client_machine.specs.ClientStates.{ClientState}
use Rattle.client_machine.specs.TaskRuns.{TaskAsk, asks_of_desk, creates, misplaced, names_once, conn_named, task_ask}
use Rattle.client_seats.specs.Seating.{ask_step}
use Rattle.client_parts.specs.declared.asking.Asking.{Asking}
use Rattle.client_parts.specs.Asking.{asking_in}
use Rattle.task_statements.specs.Doing.{own_conn}
use Rattle.task_statements.proofs.Acted.{own_is, own_none}

some : {x y : Asking} → Some x ≡ Some y → x ≡ y
some e = cc

abbrev asks : ClientState → Asking → TaskAsk
asks c a = asks_of_desk (ask_step c a.kept a.wants) a.kept

pub asked_task : (c : ClientState) (env : Env) (s : Stmt) (a : Asking) → asking_in env s ≡ Some a → task_ask c env s ≡ asks c a
asked_task c env (stmt.Open x0 x1 x2 x3 x4 x5 x6 x7) a e = ap (asks c) (some e)
asked_task c env (stmt.DeleteDatabase x0 x1 x2 x3) a e = ap (asks c) (some e)
asked_task c env (stmt.Close x0) a e = cc
asked_task c env (stmt.Transaction x0 x1 x2 x3 x4 x5 x6) a e = cc
asked_task c env (stmt.Post x0) a e = cc
asked_task c env (stmt.Repeat x0 x1) a e = cc
asked_task c env (stmt.If x0 x1 x2) a e = cc
asked_task c env (stmt.Let x0 x1) a e = cc
asked_task c env (stmt.Say x0) a e = cc
asked_task c env stmt.Throw a e = cc
asked_task c env (stmt.Add x0 x1 x2 x3 x4) a e = cc
asked_task c env (stmt.Put x0 x1 x2 x3 x4) a e = cc
asked_task c env (stmt.Get x0 x1 x2 x3 x4 x5) a e = cc
asked_task c env (stmt.GetKey x0 x1 x2 x3 x4 x5) a e = cc
asked_task c env (stmt.Count x0 x1 x2 x3 x4 x5) a e = cc
asked_task c env (stmt.GetAll x0 x1 x2 x3 x4 x5 x6) a e = cc
asked_task c env (stmt.GetAllKeys x0 x1 x2 x3 x4 x5 x6) a e = cc
asked_task c env (stmt.Delete x0 x1 x2 x3 x4) a e = cc
asked_task c env (stmt.Clear x0 x1 x2) a e = cc
asked_task c env (stmt.OpenCursor x0 x1 x2 x3 x4 x5 x6) a e = cc
asked_task c env (stmt.OpenKeyCursor x0 x1 x2 x3 x4 x5 x6) a e = cc
asked_task c env (stmt.Continue x0) a e = cc
asked_task c env (stmt.ContinuePrimaryKey x0 x1) a e = cc
asked_task c env (stmt.Advance x0) a e = cc
asked_task c env (stmt.Update x0 x1 x2) a e = cc
asked_task c env (stmt.DeleteHere x0 x1) a e = cc
asked_task c env stmt.Commit a e = cc
asked_task c env stmt.Abort a e = cc
asked_task c env stmt.Prevent a e = cc
asked_task c env (stmt.CreateObjectStore x0 x1 x2) a e = cc
asked_task c env (stmt.DeleteObjectStore x0) a e = cc
asked_task c env (stmt.CreateIndex x0 x1 x2 x3 x4) a e = cc
asked_task c env (stmt.DeleteIndex x0 x1) a e = cc

pub misplaced_else : (c : ClientState) (env : Env) (s : Stmt)
    → ((db : Name) (version : Option Expression) (upgrade blocked success error version_change closed : Option ℕ) → s ≡ stmt.Open db version upgrade blocked success error version_change closed → ⊥)
    → ((db : Name) (blocked success error : Option ℕ) → s ≡ stmt.DeleteDatabase db blocked success error → ⊥)
    → ((conn : Option ℕ) → s ≡ stmt.Close conn → ⊥)
    → ((conn : Option ℕ) (scope : List Name) (m : Mode) (durability : Option Durability) (body : ℕ) (complete abort : Option ℕ) → s ≡ stmt.Transaction conn scope m durability body complete abort → ⊥)
    → task_ask c env s ≡ misplaced
misplaced_else c env (stmt.Open x0 x1 x2 x3 x4 x5 x6 x7) f g h k = absurd (f x0 x1 x2 x3 x4 x5 x6 x7 refl)
misplaced_else c env (stmt.DeleteDatabase x0 x1 x2 x3) f g h k = absurd (g x0 x1 x2 x3 refl)
misplaced_else c env (stmt.Close x0) f g h k = absurd (h x0 refl)
misplaced_else c env (stmt.Transaction x0 x1 x2 x3 x4 x5 x6) f g h k = absurd (k x0 x1 x2 x3 x4 x5 x6 refl)
misplaced_else c env (stmt.Post x0) f g h k = refl
misplaced_else c env (stmt.Repeat x0 x1) f g h k = refl
misplaced_else c env (stmt.If x0 x1 x2) f g h k = refl
misplaced_else c env (stmt.Let x0 x1) f g h k = refl
misplaced_else c env (stmt.Say x0) f g h k = refl
misplaced_else c env stmt.Throw f g h k = refl
misplaced_else c env (stmt.Add x0 x1 x2 x3 x4) f g h k = refl
misplaced_else c env (stmt.Put x0 x1 x2 x3 x4) f g h k = refl
misplaced_else c env (stmt.Get x0 x1 x2 x3 x4 x5) f g h k = refl
misplaced_else c env (stmt.GetKey x0 x1 x2 x3 x4 x5) f g h k = refl
misplaced_else c env (stmt.Count x0 x1 x2 x3 x4 x5) f g h k = refl
misplaced_else c env (stmt.GetAll x0 x1 x2 x3 x4 x5 x6) f g h k = refl
misplaced_else c env (stmt.GetAllKeys x0 x1 x2 x3 x4 x5 x6) f g h k = refl
misplaced_else c env (stmt.Delete x0 x1 x2 x3 x4) f g h k = refl
misplaced_else c env (stmt.Clear x0 x1 x2) f g h k = refl
misplaced_else c env (stmt.OpenCursor x0 x1 x2 x3 x4 x5 x6) f g h k = refl
misplaced_else c env (stmt.OpenKeyCursor x0 x1 x2 x3 x4 x5 x6) f g h k = refl
misplaced_else c env (stmt.Continue x0) f g h k = refl
misplaced_else c env (stmt.ContinuePrimaryKey x0 x1) f g h k = refl
misplaced_else c env (stmt.Advance x0) f g h k = refl
misplaced_else c env (stmt.Update x0 x1 x2) f g h k = refl
misplaced_else c env (stmt.DeleteHere x0 x1) f g h k = refl
misplaced_else c env stmt.Commit f g h k = refl
misplaced_else c env stmt.Abort f g h k = refl
misplaced_else c env stmt.Prevent f g h k = refl
misplaced_else c env (stmt.CreateObjectStore x0 x1 x2) f g h k = refl
misplaced_else c env (stmt.DeleteObjectStore x0) f g h k = refl
misplaced_else c env (stmt.CreateIndex x0 x1 x2 x3 x4) f g h k = refl
misplaced_else c env (stmt.DeleteIndex x0 x1) f g h k = refl

module _ (c : ClientState) (env : Env) (conn : Option ℕ) (scope : List Name) (m : Mode) (durability : Option Durability) (body : ℕ) (complete abort : Option ℕ) where
  pub tx_none : own_conn c (conn_named env conn) ≡ None → task_ask c env (stmt.Transaction conn scope m durability body complete abort) ≡ misplaced
  tx_none e = own_none c (conn_named env conn) (λ who. creates who (names_once [] scope) m (unwrap_or durability Relaxed) body complete abort) e

  pub tx_asked : (who : ConnId) (copy : List Name) (chosen : Durability) → own_conn c (conn_named env conn) ≡ Some who → copy ≡ scope → chosen ≡ unwrap_or durability Relaxed
      → task_ask c env (stmt.Transaction conn scope m durability body complete abort) ≡ creates who (names_once [] copy) m chosen body complete abort
  tx_asked who copy chosen e is chose =
      own_is c (conn_named env conn) (λ who. creates who (names_once [] scope) m (unwrap_or durability Relaxed) body complete abort) who e
      ∙ (λ i. creates who (names_once [] (sym is i)) m (sym chose i) body complete abort)
