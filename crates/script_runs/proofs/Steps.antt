-- One more part of a run whose notes are added behind those before.
use Rattle.std.proofs.Common.{◌≡◌, ◌+◌, ◌<◌, ◌≤◌, ℕ, pos, true, List, [], ◌∷◌, ◌++◌, refl, ap, sym, ◌∙◌, subst, append_assoc, drop, drop-cons, get_or, length, add-one}
use Rattle.std.specs.Prelude.{flat_map, None, Some, Option, Result, Ok, Err, IfOk}
use Rattle.std.proofs.lemmas.Grind.{flat_map-append}
use Rattle.std.proofs.lemmas.List.{append-nil}
use Rattle.clone_values.specs.Tree.{Tree}
use Rattle.script_exprs.specs.Expression.{Expression}
use Rattle.idb_keys.specs.declared.names.ErrorName.{ErrorName}
use Rattle.script_statements.specs.declared.script.Block.{Block as Named}
use Rattle.script_statements.specs.declared.statement.Stmt.{Stmt}
use Rattle.script_statements.specs.declared.statement.Stmt.TheVariants as stmt
use Rattle.script_statements.specs.Blocks.{block_body}
use Rattle.script_runs.specs.declared.environments.Env.{Env}
use Rattle.script_runs.specs.declared.notes.Note.{Note}
use Rattle.script_runs.specs.declared.worlds.RunEnd.{RunEnd}
use Rattle.script_runs.specs.declared.worlds.RunEnd.TheVariants.{Went, Threw}
use Rattle.script_runs.specs.declared.limits.TheConstants.{MOST_STATEMENTS, DEEPEST_BLOCK}
use Rattle.script_runs.specs.Words.{with_turn_set, turn_in, threw, branch_of, refusal_noted, is_action}
use Rattle.script_runs.specs.Going.{Does, Run, RunWork, Statements, Statement, Rounds, Block, Goes, Finished, Next, Stops, TooMany, Enters, TooDeep, Enough, Round, Breaks, Repeats, Takes, Acts, Refuses, GoesInto, GoesSoFar, DoesInto, statement_counted, round_turned, turn_back, with_env, with_world}

pub in_ok : {T E : Type 0} {P Q : T → Type 0} (r : Result T E) → ((x : T) → P x → Q x) → IfOk r P → IfOk r Q
in_ok (Ok x) f h = f x h
in_ok (Err e) f h = tt

module _ {W A : Type 0} (noted : Note → A) (shown : A → List Note) (shows : (n : Note) → shown (noted n) ≡ n ∷ []) (does : Does W A) (blocks : List Named) where
  abbrev So : ℕ → RunWork → RunWork → Run W → List Note → Run W → List Note → Type 0
  So depth whole left start before here notes = GoesSoFar noted shown does blocks depth whole left start before here notes

  abbrev Into : ℕ → RunWork → Run W → List Note → Run W → RunEnd → List Note → Type 0
  Into depth work old before new end after = GoesInto noted shown does blocks depth work old before new end after

  wrote : (before after : List Note) (n : Note) → after ≡ before ++ n ∷ [] → after ≡ before ++ flat_map shown (noted n ∷ [])
  wrote before after n e = e ∙ ap (λ ns. before ++ ns) (sym (append-nil (shown (noted n)) ∙ shows n))

  join : (before mid after : List Note) (done outs : List A) → mid ≡ before ++ flat_map shown done → after ≡ mid ++ flat_map shown outs → after ≡ before ++ flat_map shown (done ++ outs)
  join before mid after done outs e f =
      f ∙ ap (λ ns. ns ++ flat_map shown outs) e ∙ append_assoc before (flat_map shown done) (flat_map shown outs)
      ∙ ap (λ ns. before ++ ns) (sym (flat_map-append shown done outs))

  -- ---- so far, and to the end
  onward : (depth : ℕ) (whole left next : RunWork) (start : Run W) (before : List Note) (here mid : Run W) (notes more : List Note) (outs : List A)
      → So depth whole left start before here notes → more ≡ notes ++ flat_map shown outs
      → ((last : Run W) (rest : List A) (end : RunEnd) → Goes noted does blocks depth next mid rest last end → Goes noted does blocks depth left here (outs ++ rest) last end)
      → So depth whole next start before mid more
  onward depth whole left next start before here mid notes more outs f e g = record {
    done = f.done ++ outs;
    lines = join before notes more f.done outs f.lines e;
    completes = λ last rest end h. subst (λ os. Goes noted does blocks depth whole start os last end) (sym (append_assoc f.done outs rest)) (f.completes last (outs ++ rest) end (g last rest end h));
  }

  ended : (depth : ℕ) (whole left : RunWork) (start : Run W) (before : List Note) (here last : Run W) (notes more : List Note) (end : RunEnd) (outs : List A)
      → So depth whole left start before here notes → more ≡ notes ++ flat_map shown outs → Goes noted does blocks depth left here outs last end → Into depth whole start before last end more
  ended depth whole left start before here last notes more end outs f e g = record {
    outs = f.done ++ outs;
    goes = f.completes last outs end g;
    lines = join before notes more f.done outs f.lines e;
  }

  pub begun : (depth : ℕ) (whole : RunWork) (start : Run W) (before : List Note) → So depth whole whole start before start before
  begun depth whole start before = record { done = []; lines = sym (append-nil before); completes = λ last rest end h. h }

  -- ---- statements
  stands : (i : ℕ) (xs : List Stmt) (d : Stmt) → i < length xs → drop i xs ≡ get_or xs i d ∷ drop (i + 1) xs
  stands i xs d l = rw (add-one) (drop-cons xs i d l)

  pub stands_as : (i : ℕ) (xs : List Stmt) (s : Stmt) → s ≡ get_or xs i s → i < length xs → drop i xs ≡ s ∷ drop (i + 1) xs
  stands_as i xs s e l = stands i xs s l ∙ ap (λ x. x ∷ drop (i + 1) xs) (sym e)

  pub next : (depth i : ℕ) (xs : List Stmt) (d : Stmt) (start : Run W) (before : List Note) (here mid : Run W) (notes more : List Note)
      → d ≡ get_or xs i d → i < length xs → here.at.count < MOST_STATEMENTS → So depth (Statements xs) (Statements (drop i xs)) start before here notes
      → Into depth (Statement d) (statement_counted here) notes mid Went more → So depth (Statements xs) (Statements (drop (i + 1) xs)) start before mid more
  next depth i xs d start before here mid notes more e l c f g =
      onward depth (Statements xs) (Statements (drop i xs)) (Statements (drop (i + 1) xs)) start before here mid notes more g.outs f g.lines
      (λ last rest end h. rw (stands_as i xs d e l) (Next depth d (drop (i + 1) xs) here mid last g.outs rest end c g.goes h))

  pub stopped : (depth i : ℕ) (xs : List Stmt) (d : Stmt) (start : Run W) (before : List Note) (here mid : Run W) (notes more : List Note)
      → d ≡ get_or xs i d → i < length xs → here.at.count < MOST_STATEMENTS → So depth (Statements xs) (Statements (drop i xs)) start before here notes
      → Into depth (Statement d) (statement_counted here) notes mid Threw more → Into depth (Statements xs) start before mid Threw more
  stopped depth i xs d start before here mid notes more e l c f g =
      ended depth (Statements xs) (Statements (drop i xs)) start before here mid notes more Threw g.outs f g.lines
      (rw (stands_as i xs d e l) (Stops depth d (drop (i + 1) xs) here mid g.outs c g.goes))

  pub too_many : (depth i : ℕ) (xs : List Stmt) (d : Stmt) (start : Run W) (before : List Note) (here : Run W) (notes more : List Note)
      → i < length xs → MOST_STATEMENTS ≤ here.at.count → So depth (Statements xs) (Statements (drop i xs)) start before here notes
      → more ≡ notes ++ threw ∷ [] → Into depth (Statements xs) start before here Threw more
  too_many depth i xs d start before here notes more l c f h =
      ended depth (Statements xs) (Statements (drop i xs)) start before here here notes more Threw (noted threw ∷ []) f (wrote notes more threw h)
      (rw (stands i xs d l) (TooMany depth (get_or xs i d) (drop (i + 1) xs) here c))

  pub finished : (depth i : ℕ) (xs : List Stmt) (start : Run W) (before : List Note) (here : Run W) (notes : List Note)
      → drop i xs ≡ [] → So depth (Statements xs) (Statements (drop i xs)) start before here notes → Into depth (Statements xs) start before here Went notes
  finished depth i xs start before here notes e f =
      ended depth (Statements xs) (Statements (drop i xs)) start before here here notes notes Went [] f (sym (append-nil notes)) (rw e (Finished depth here))

  -- ---- rounds
  pub next_round : (depth times turn block : ℕ) (start : Run W) (before : List Note) (here mid : Run W) (notes more : List Note)
      → turn < times → So depth (Rounds times 0 block) (Rounds times turn block) start before here notes
      → Into depth (Block block) (round_turned turn here) notes mid Went more → So depth (Rounds times 0 block) (Rounds times (turn + 1) block) start before mid more
  next_round depth times turn block start before here mid notes more l f g =
      onward depth (Rounds times 0 block) (Rounds times turn block) (Rounds times (turn + 1) block) start before here mid notes more g.outs f g.lines
      (λ last rest end h. Round depth times turn block here mid last g.outs rest end l g.goes h)

  pub broke : (depth times turn block : ℕ) (start : Run W) (before : List Note) (here mid : Run W) (notes more : List Note)
      → turn < times → So depth (Rounds times 0 block) (Rounds times turn block) start before here notes
      → Into depth (Block block) (round_turned turn here) notes mid Threw more → Into depth (Rounds times 0 block) start before mid Threw more
  broke depth times turn block start before here mid notes more l f g =
      ended depth (Rounds times 0 block) (Rounds times turn block) start before here mid notes more Threw g.outs f g.lines (Breaks depth times turn block here mid g.outs l g.goes)

  pub enough : (depth times turn block : ℕ) (start : Run W) (before : List Note) (here : Run W) (notes : List Note)
      → times ≤ turn → So depth (Rounds times 0 block) (Rounds times turn block) start before here notes → Into depth (Rounds times 0 block) start before here Went notes
  enough depth times turn block start before here notes l f =
      ended depth (Rounds times 0 block) (Rounds times turn block) start before here here notes notes Went [] f (sym (append-nil notes)) (Enough depth times turn block here l)

  -- ---- one statement, one block
  pub says : (depth : ℕ) (work : RunWork) (r last : Run W) (n : Note) (before after : List Note) (end : RunEnd) → Goes noted does blocks depth work r (noted n ∷ []) last end → after ≡ before ++ n ∷ [] → Into depth work r before last end after
  says depth work r last n before after end h e = record { outs = noted n ∷ []; goes = h; lines = wrote before after n e }

  pub quiet : (depth : ℕ) (work : RunWork) (r last : Run W) (before : List Note) (end : RunEnd) → Goes noted does blocks depth work r [] last end → Into depth work r before last end before
  quiet depth work r last before end h = record { outs = []; goes = h; lines = sym (append-nil before) }

  pub too_deep : (depth block : ℕ) (r : Run W) (before after : List Note) → DEEPEST_BLOCK ≤ depth → after ≡ before ++ threw ∷ [] → Into depth (Block block) r before r Threw after
  too_deep depth block r before after h e = says depth (Block block) r r threw before after Threw (TooDeep depth block r h) e

  pub entered : (depth block : ℕ) (ss : List Stmt) (r last : Run W) (before after : List Note) (end : RunEnd) → ss ≡ block_body blocks block → depth < DEEPEST_BLOCK → Into (depth + 1) (Statements ss) r before last end after → Into depth (Block block) r before last end after
  entered depth block ss r last before after end e h g = record {
    outs = g.outs;
    goes = Enters depth block r last g.outs end h (subst (λ ss. Goes noted does blocks (depth + 1) (Statements ss) r g.outs last end) e g.goes);
    lines = g.lines;
  }

  pub repeated : (depth times block : ℕ) (r last : Run W) (env : Env) (t : Tree) (before notes : List Note) (end : RunEnd) → t ≡ turn_in r.at.env → env ≡ with_turn_set last.at.env t → Into depth (Rounds times 0 block) r before last end notes → Into depth (Statement (stmt.Repeat times block)) r before (with_env last env) end notes
  repeated depth times block r last env t before notes end e k g = record {
    outs = g.outs;
    goes = subst (λ x. Goes noted does blocks depth (Statement (stmt.Repeat times block)) r g.outs (with_env last x) end) (sym (k ∙ ap (with_turn_set last.at.env) e)) (Repeats depth times block r last g.outs end g.goes);
    lines = g.lines;
  }

  pub taken : (depth block : ℕ) (test : Expression) (if_so if_not : Option ℕ) (r last : Run W) (before after : List Note) (end : RunEnd) → branch_of r.at.env test if_so if_not ≡ Some block → Into depth (Block block) r before last end after → Into depth (Statement (stmt.If test if_so if_not)) r before last end after
  taken depth block test if_so if_not r last before after end e g = record { outs = g.outs; goes = Takes depth block test if_so if_not r last g.outs end e g.goes; lines = g.lines }

  pub acted : (depth : ℕ) (s : Stmt) (r : Run W) (w : W) (before after : List Note) → is_action s ≡ true → DoesInto shown (does blocks) r.world r.at.env s before w None after → Into depth (Statement s) r before (with_world r w) Went after
  acted depth s r w before after a g = record { outs = g.outs; goes = Acts depth s r w g.outs a g.did; lines = g.lines }

  pub was_refused : (depth : ℕ) (s : Stmt) (r : Run W) (w : W) (name : ErrorName) (before mid after : List Note) → is_action s ≡ true → DoesInto shown (does blocks) r.world r.at.env s before w (Some name) mid → after ≡ mid ++ refusal_noted s name ∷ [] → Into depth (Statement s) r before (with_world r w) Went after
  was_refused depth s r w name before mid after a g e = record {
    outs = g.outs ++ noted (refusal_noted s name) ∷ [];
    goes = Refuses depth s r w g.outs name a g.did;
    lines = join before mid after g.outs (noted (refusal_noted s name) ∷ []) g.lines (wrote mid after (refusal_noted s name) e);
  }
