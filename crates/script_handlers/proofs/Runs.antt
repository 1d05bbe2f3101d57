-- Runs on fronts, from what the interpreter did.
use Rattle.std.proofs.Common.{◌≡◌, ℕ, Bool, false, List, [], ◌∷◌, ◌++◌, Option, Some, None, refl, sym, ap, ◌∙◌, subst, append_assoc}
use Rattle.std.specs.Prelude.{flat_map}
use Rattle.idb_calls.specs.declared.calls.Call.{Call}
use Rattle.idb_calls.specs.declared.events.Event.{Event}
use Rattle.idb_keys.specs.declared.names.ErrorName.{ErrorName}
use Rattle.request_lists.specs.Fronts.{Front}
use Rattle.request_lists.specs.declared.handlers.HandlerEnd.{HandlerEnd}
use Rattle.request_lists.specs.declared.handlers.HandlerEnd.TheVariants as end
use Rattle.script_statements.specs.declared.script.Block.{Block as Named}
use Rattle.script_runs.specs.declared.environments.Env.{Env}
use Rattle.script_runs.specs.declared.notes.Note.{Note}
use Rattle.script_runs.specs.declared.notes.Note.TheVariants as note
use Rattle.script_runs.specs.declared.worlds.RunEnd.{RunEnd}
use Rattle.script_runs.specs.Going.{Goes, GoesInto, Run, Block}
use Rattle.script_handlers.specs.Handling.{Script, Lent, FrontDoes, FrontRuns, Handled, Unheard, Heard, BodyRuns, itself, alone, lent_to, begins_at, block_for, env_for, line_told, end_of, body_env}
use Rattle.script_handlers.specs.Into.{RunsInto, BodyRunsInto, HandledInto}

alone_notes : (ns : List Note) → flat_map alone ns ≡ ns
alone_notes [] = refl
alone_notes (n ∷ ns) = ap (λ ms. n ∷ ms) (alone_notes ns)

-- the run of a lent front is one of the front
pub ran : (blocks shared lent : List Named) (number block : ℕ) (env : Env) (front taken : Front Script) (last : Run Lent) (how : RunEnd) (before after : List Note)
    → taken ≡ front → lent ≡ blocks → shared ≡ blocks
    → GoesInto itself alone FrontDoes shared 0 (Block block) (record { world = lent_to taken lent number; at = begins_at env }) before last how after
    → RunsInto blocks number block env front before last.world.front last.world.prevented how after
ran blocks shared lent number block env front taken last how before after e k m g =
    let one : Goes itself FrontDoes blocks 0 (Block block) (record { world = lent_to taken lent number; at = begins_at env }) g.outs last how = subst (λ bs. Goes itself FrontDoes bs 0 (Block block) (record { world = lent_to taken lent number; at = begins_at env }) g.outs last how) m g.goes in
    let two : Goes itself FrontDoes blocks 0 (Block block) (record { world = lent_to taken blocks number; at = begins_at env }) g.outs last how = subst (λ bs. Goes itself FrontDoes blocks 0 (Block block) (record { world = lent_to taken bs number; at = begins_at env }) g.outs last how) k one in
    let all : Goes itself FrontDoes blocks 0 (Block block) (record { world = lent_to front blocks number; at = begins_at env }) g.outs last how = subst (λ f. Goes itself FrontDoes blocks 0 (Block block) (record { world = lent_to f blocks number; at = begins_at env }) g.outs last how) e two in
    record {
      lines = g.outs;
      runs = record { last = last; goes = all; front_is = refl; prevented_is = refl };
      added = g.lines ∙ ap (λ ns. before ++ ns) (alone_notes g.outs);
    }

-- ---- events
pub unheard : (h : Script) (front : Front Script) (event : Event) (before notes : List Note) → block_for h event ≡ None → notes ≡ before ++ note.Line (line_told h.number event) ∷ [] → HandledInto h front event before front (end.Returned false) notes
unheard h front event before notes e k = record { lines = note.Line (line_told h.number event) ∷ []; handled = Unheard e; added = k }

pub heard : (h : Script) (front after : Front Script) (event : Event) (block : ℕ) (env : Env) (prevented : Bool) (how : RunEnd) (result : HandlerEnd) (before mid notes : List Note)
    → mid ≡ before ++ note.Line (line_told h.number event) ∷ [] → Some block ≡ block_for h event → env ≡ env_for h event
    → RunsInto h.blocks h.number block env front mid after prevented how notes → result ≡ end_of how event prevented → HandledInto h front event before after result notes
heard h front after event block env prevented how result before mid notes e k m g r =
    let runs : FrontRuns h.blocks h.number block (env_for h event) front g.lines after prevented how = subst (λ v. FrontRuns h.blocks h.number block v front g.lines after prevented how) m g.runs in
    record {
      lines = note.Line (line_told h.number event) ∷ g.lines;
      handled = subst (λ x. Handled h front event (note.Line (line_told h.number event) ∷ g.lines) after x) (sym r) (Heard block g.lines after prevented how (sym k) runs);
      added = g.added ∙ ap (λ ns. ns ++ g.lines) e ∙ append_assoc before (note.Line (line_told h.number event) ∷ []) g.lines;
    }
