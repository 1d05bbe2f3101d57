-- What running a block is, wherever it runs. A world is what the statements of a place act on.
--     Does                  what a statement makes of a world: what comes out, the world after it, and why it was refusal_noted
--     Run, RunWork          where a run is, and a part of a run
--     Goes                  a part of a run goes: what comes out, where it ends, and whether it threw
--     GoesInto, DoesInto    the same where what comes out was added to notes
use Rattle.std.specs.Prelude.{◌≡◌, ◌+◌, ◌<◌, ◌≤◌, ℕ, pos, true, List, [], ◌∷◌, ◌++◌, flat_map, Option, Some, None}
use Rattle.clone_values.specs.Tree.{Tree, int}
use Rattle.idb_keys.specs.declared.names.ErrorName.{ErrorName}
use Rattle.script_exprs.specs.Expression.{Expression}
use Rattle.script_values.specs.Evaluating.{value_in}
use Rattle.script_statements.specs.declared.script.Block.{Block as Named}
use Rattle.script_statements.specs.declared.statement.Stmt.{Stmt}
use Rattle.script_statements.specs.declared.statement.Stmt.TheVariants as stmt
use Rattle.script_statements.specs.Blocks.{block_body}
use Rattle.script_runs.specs.declared.environments.Env.{Env}
use Rattle.script_runs.specs.declared.environments.At.{At}
use Rattle.script_runs.specs.declared.notes.Note.{Note}
use Rattle.script_runs.specs.declared.worlds.RunEnd.{RunEnd}
use Rattle.script_runs.specs.declared.worlds.RunEnd.TheVariants.{Went, Threw}
use Rattle.script_runs.specs.declared.limits.TheConstants.{MOST_STATEMENTS, DEEPEST_BLOCK}
use Rattle.script_runs.specs.Words.{with_variable, with_turn_set, turn_in, said, threw, post_noted, branch_of, refusal_noted, is_action}

-- the blocks of the client, the world before, the environment, the statement, what comes out, the world after, the refusal
abbrev pub Does : Type 0 → Type 0 → Type 1
Does W A = List Named → W → Env → Stmt → List A → W → Option ErrorName → Type 0

pub record Run (W : Type 0) : Type 0 where
  pub world : W
  pub at : At

abbrev pub statement_counted : {W : Type 0} → Run W → Run W
statement_counted r = record r { at = record r.at { count = r.at.count + 1 } }

abbrev pub with_env : {W : Type 0} → Run W → Env → Run W
with_env r env = record r { at = record r.at { env = env } }

abbrev pub with_world : {W : Type 0} → Run W → W → Run W
with_world r w = record r { world = w }

-- a round begins: the variable `turn` is its number
abbrev pub round_turned : {W : Type 0} → ℕ → Run W → Run W
round_turned turn r = with_env r (with_turn_set r.at.env (int (pos turn)))

-- behind the rounds the variable `turn` is what it was before them
abbrev pub turn_back : {W : Type 0} → Tree → Run W → Run W
turn_back t r = with_env r (with_turn_set r.at.env t)

-- a part of a run
pub data RunWork : Type 0 where
  Statements : List Stmt → RunWork
  Statement : Stmt → RunWork
  Rounds : (times turn block : ℕ) → RunWork
  Block : ℕ → RunWork

pub data Goes {W A : Type 0} (noted : Note → A) (does : Does W A) (blocks : List Named) : ℕ → RunWork → Run W → List A → Run W → RunEnd → Type 0 where
  -- statements, one after the other
  Finished : (depth : ℕ) (r : Run W) → Goes noted does blocks depth (Statements []) r [] r Went
  Next : (depth : ℕ) (s : Stmt) (ss : List Stmt) (r mid last : Run W) (first rest : List A) (end : RunEnd) → r.at.count < MOST_STATEMENTS → Goes noted does blocks depth (Statement s) (statement_counted r) first mid Went → Goes noted does blocks depth (Statements ss) mid rest last end → Goes noted does blocks depth (Statements (s ∷ ss)) r (first ++ rest) last end
  Stops : (depth : ℕ) (s : Stmt) (ss : List Stmt) (r last : Run W) (first : List A) → r.at.count < MOST_STATEMENTS → Goes noted does blocks depth (Statement s) (statement_counted r) first last Threw → Goes noted does blocks depth (Statements (s ∷ ss)) r first last Threw
  TooMany : (depth : ℕ) (s : Stmt) (ss : List Stmt) (r : Run W) → MOST_STATEMENTS ≤ r.at.count → Goes noted does blocks depth (Statements (s ∷ ss)) r (noted threw ∷ []) r Threw
  -- a block
  Enters : (depth block : ℕ) (r last : Run W) (outs : List A) (end : RunEnd) → depth < DEEPEST_BLOCK → Goes noted does blocks (depth + 1) (Statements (block_body blocks block)) r outs last end → Goes noted does blocks depth (Block block) r outs last end
  TooDeep : (depth block : ℕ) (r : Run W) → DEEPEST_BLOCK ≤ depth → Goes noted does blocks depth (Block block) r (noted threw ∷ []) r Threw
  -- rounds
  Enough : (depth times turn block : ℕ) (r : Run W) → times ≤ turn → Goes noted does blocks depth (Rounds times turn block) r [] r Went
  Round : (depth times turn block : ℕ) (r mid last : Run W) (first rest : List A) (end : RunEnd) → turn < times → Goes noted does blocks depth (Block block) (round_turned turn r) first mid Went → Goes noted does blocks depth (Rounds times (turn + 1) block) mid rest last end → Goes noted does blocks depth (Rounds times turn block) r (first ++ rest) last end
  Breaks : (depth times turn block : ℕ) (r last : Run W) (first : List A) → turn < times → Goes noted does blocks depth (Block block) (round_turned turn r) first last Threw → Goes noted does blocks depth (Rounds times turn block) r first last Threw
  -- each statement
  Says : (depth : ℕ) (e : Expression) (r : Run W) → Goes noted does blocks depth (Statement (stmt.Say e)) r (noted (said r.at.env e) ∷ []) r Went
  Throws : (depth : ℕ) (r : Run W) → Goes noted does blocks depth (Statement stmt.Throw) r (noted threw ∷ []) r Threw
  Posts : (depth block : ℕ) (r : Run W) → Goes noted does blocks depth (Statement (stmt.Post block)) r (noted (post_noted block r.at.env) ∷ []) r Went
  Sets : (depth : ℕ) (name : List ℕ) (e : Expression) (r : Run W) → Goes noted does blocks depth (Statement (stmt.Let name e)) r [] (with_env r (with_variable r.at.env name (value_in r.at.env.variables e))) Went
  Repeats : (depth times block : ℕ) (r last : Run W) (outs : List A) (end : RunEnd) → Goes noted does blocks depth (Rounds times 0 block) r outs last end → Goes noted does blocks depth (Statement (stmt.Repeat times block)) r outs (turn_back (turn_in r.at.env) last) end
  Takes : (depth block : ℕ) (test : Expression) (if_so if_not : Option ℕ) (r last : Run W) (outs : List A) (end : RunEnd) → branch_of r.at.env test if_so if_not ≡ Some block → Goes noted does blocks depth (Block block) r outs last end → Goes noted does blocks depth (Statement (stmt.If test if_so if_not)) r outs last end
  Passes : (depth : ℕ) (test : Expression) (if_so if_not : Option ℕ) (r : Run W) → branch_of r.at.env test if_so if_not ≡ None → Goes noted does blocks depth (Statement (stmt.If test if_so if_not)) r [] r Went
  Acts : (depth : ℕ) (s : Stmt) (r : Run W) (w : W) (outs : List A) → is_action s ≡ true → does blocks r.world r.at.env s outs w None → Goes noted does blocks depth (Statement s) r outs (with_world r w) Went
  Refuses : (depth : ℕ) (s : Stmt) (r : Run W) (w : W) (outs : List A) (name : ErrorName) → is_action s ≡ true → does blocks r.world r.at.env s outs w (Some name) → Goes noted does blocks depth (Statement s) r (outs ++ noted (refusal_noted s name) ∷ []) (with_world r w) Went

-- a run whose notes were added behind those before
pub record GoesInto {W A : Type 0} (noted : Note → A) (shown : A → List Note) (does : Does W A) (blocks : List Named) (depth : ℕ) (work : RunWork) (old : Run W) (before : List Note) (new : Run W) (end : RunEnd) (after : List Note) : Type 0 where
  pub outs : List A
  pub goes : Goes noted does blocks depth work old outs new end
  pub lines : after ≡ before ++ flat_map shown outs

-- what a statement made of a world, in the same way
pub record DoesInto {W A : Type 0} (shown : A → List Note) (does : W → Env → Stmt → List A → W → Option ErrorName → Type 0) (old : W) (env : Env) (statement : Stmt) (before : List Note) (new : W) (refusal : Option ErrorName) (after : List Note) : Type 0 where
  pub outs : List A
  pub did : does old env statement outs new refusal
  pub lines : after ≡ before ++ flat_map shown outs

-- what was run of a whole so far: whatever completes what is left completes the whole
pub record GoesSoFar {W A : Type 0} (noted : Note → A) (shown : A → List Note) (does : Does W A) (blocks : List Named) (depth : ℕ) (whole left : RunWork) (start : Run W) (before : List Note) (now_at : Run W) (notes : List Note) : Type 0 where
  pub done : List A
  pub lines : notes ≡ before ++ flat_map shown done
  pub completes : (last : Run W) (rest : List A) (end : RunEnd) → Goes noted does blocks depth left now_at rest last end → Goes noted does blocks depth whole start (done ++ rest) last end
