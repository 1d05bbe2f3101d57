-- Runs of an office are runs of its client, and the desk makes their steps at once.
--     carried               what runs in an office
--     ran_now               a block that ran, with its posts
use Rattle.std.proofs.Common.{◌≡◌, ℕ, ◌+◌, List, [], ◌∷◌, ◌++◌, length, drop, Some, None, refl, sym, ap, ◌∙◌, subst}
use Rattle.std.proofs.lemmas.List.{append-nil}
use Rattle.std.proofs.Math.Seq.{drop-append_seam}
use Rattle.idb_desk.specs.Steps.{DeskRun}
use Rattle.script_statements.specs.declared.script.Block.{Block as Named}
use Rattle.script_runs.specs.declared.environments.Env.{Env}
use Rattle.script_runs.specs.declared.notes.Note.{Note}
use Rattle.script_runs.specs.declared.worlds.RunEnd.{RunEnd}
use Rattle.script_statements.specs.Blocks.{block_body}
use Rattle.script_runs.specs.declared.worlds.RunEnd.TheVariants.{Went, Threw}
use Rattle.script_runs.specs.Words.{refusal_noted}
use Rattle.script_runs.specs.Going.{Run, RunWork, Statements, Statement, Rounds, Block, Goes, GoesInto, Finished, Next, Stops, TooMany, Enters, TooDeep, Enough, Round, Breaks, Says, Throws, Posts, Sets, Repeats, Takes, Passes, Acts, Refuses, statement_counted, round_turned}
use Rattle.script_handlers.specs.Handling.{begins_at}
use Rattle.client_machine.specs.Acts.{Act, Noted, notes_of_act, notes_of_acts}
use Rattle.client_machine.specs.Answering.{MadeAtOnce}
use Rattle.client_machine.specs.ClientStates.{ClientState, with_notes}
use Rattle.client_machine.specs.TaskRuns.{TaskDoes, RunsNow, NoBlock, RunsBlock}
use Rattle.client_machine.proofs.Laws.{made_joined}
use Rattle.task_statements.specs.Offices.{OfficeState}
use Rattle.client_tasks.specs.Between.{RunsNowInto}
use Rattle.task_statements.specs.Doing.{OfficeDoes}

abbrev client_run : Run OfficeState → Run ClientState
client_run r = record { world = r.world.client; at = r.at }

pub record Carried (blocks : List Named) (depth : ℕ) (work : RunWork) (r : Run OfficeState) (acts : List Act) (last : Run OfficeState) (how : RunEnd) : Type 0 where
  pub goes : Goes Noted TaskDoes blocks depth work (client_run r) acts (client_run last) how
  pub made : MadeAtOnce r.world.client.number r.world.run acts last.world.run
  pub number : last.world.client.number ≡ r.world.client.number
  pub same : last.world.blocks ≡ r.world.blocks

-- one part behind another
onward : (client other : ℕ) (r mid last : DeskRun) (acts more : List Act) → other ≡ client → MadeAtOnce client r acts mid → MadeAtOnce other mid more last → MadeAtOnce client r (acts ++ more) last
onward client other r mid last acts more e m n = made_joined client r mid last acts more m (subst (λ c. MadeAtOnce c mid more last) e n)

pub carried : (blocks : List Named) (depth : ℕ) (work : RunWork) (r : Run OfficeState) (acts : List Act) (last : Run OfficeState) (how : RunEnd)
    → r.world.blocks ≡ blocks → Goes Noted OfficeDoes blocks depth work r acts last how → Carried blocks depth work r acts last how
carried blocks depth work r acts last how e (Finished _ _) = record { goes = Finished depth (client_run r); made = refl; number = refl; same = refl }
carried blocks depth work r acts last how e (Next _ s ss _ mid _ first rest _ less g h) =
    let a = carried blocks depth (Statement s) (statement_counted r) first mid Went e g in
    let b = carried blocks depth (Statements ss) mid rest last how (a.same ∙ e) h in
    record {
      goes = Next depth s ss (client_run r) (client_run mid) (client_run last) first rest how less a.goes b.goes;
      made = onward r.world.client.number mid.world.client.number r.world.run mid.world.run last.world.run first rest a.number a.made b.made;
      number = b.number ∙ a.number;
      same = b.same ∙ a.same;
    }
carried blocks depth work r acts last how e (Stops _ s ss _ _ _ less g) =
    let a = carried blocks depth (Statement s) (statement_counted r) acts last Threw e g in
    record { goes = Stops depth s ss (client_run r) (client_run last) acts less a.goes; made = a.made; number = a.number; same = a.same }
carried blocks depth work r acts last how e (TooMany _ s ss _ most) = record { goes = TooMany depth s ss (client_run r) most; made = refl; number = refl; same = refl }
carried blocks depth work r acts last how e (Enters _ block _ _ _ _ less g) =
    let a = carried blocks (depth + 1) (Statements (block_body blocks block)) r acts last how e g in
    record { goes = Enters depth block (client_run r) (client_run last) acts how less a.goes; made = a.made; number = a.number; same = a.same }
carried blocks depth work r acts last how e (TooDeep _ block _ most) = record { goes = TooDeep depth block (client_run r) most; made = refl; number = refl; same = refl }
carried blocks depth work r acts last how e (Enough _ times turn block _ most) = record { goes = Enough depth times turn block (client_run r) most; made = refl; number = refl; same = refl }
carried blocks depth work r acts last how e (Round _ times turn block _ mid _ first rest _ less g h) =
    let a = carried blocks depth (Block block) (round_turned turn r) first mid Went e g in
    let b = carried blocks depth (Rounds times (turn + 1) block) mid rest last how (a.same ∙ e) h in
    record {
      goes = Round depth times turn block (client_run r) (client_run mid) (client_run last) first rest how less a.goes b.goes;
      made = onward r.world.client.number mid.world.client.number r.world.run mid.world.run last.world.run first rest a.number a.made b.made;
      number = b.number ∙ a.number;
      same = b.same ∙ a.same;
    }
carried blocks depth work r acts last how e (Breaks _ times turn block _ _ _ less g) =
    let a = carried blocks depth (Block block) (round_turned turn r) acts last Threw e g in
    record { goes = Breaks depth times turn block (client_run r) (client_run last) acts less a.goes; made = a.made; number = a.number; same = a.same }
carried blocks depth work r acts last how e (Says _ x _) = record { goes = Says depth x (client_run r); made = refl; number = refl; same = refl }
carried blocks depth work r acts last how e (Throws _ _) = record { goes = Throws depth (client_run r); made = refl; number = refl; same = refl }
carried blocks depth work r acts last how e (Posts _ block _) = record { goes = Posts depth block (client_run r); made = refl; number = refl; same = refl }
carried blocks depth work r acts last how e (Sets _ name x _) = record { goes = Sets depth name x (client_run r); made = refl; number = refl; same = refl }
carried blocks depth work r acts last how e (Repeats _ times block _ inner _ _ g) =
    let a = carried blocks depth (Rounds times 0 block) r acts inner how e g in
    record { goes = Repeats depth times block (client_run r) (client_run inner) acts how a.goes; made = a.made; number = a.number; same = a.same }
carried blocks depth work r acts last how e (Takes _ block test if_so if_not _ _ _ _ is g) =
    let a = carried blocks depth (Block block) r acts last how e g in
    record { goes = Takes depth block test if_so if_not (client_run r) (client_run last) acts how is a.goes; made = a.made; number = a.number; same = a.same }
carried blocks depth work r acts last how e (Passes _ test if_so if_not _ is) = record { goes = Passes depth test if_so if_not (client_run r) is; made = refl; number = refl; same = refl }
carried blocks depth work r acts last how e (Acts _ s _ w _ is d) = record {
  goes = Acts depth s (client_run r) w.client acts is (subst (λ bs. TaskDoes bs r.world.client r.at.env s acts w.client None) e d.did);
  made = d.made;
  number = d.number;
  same = d.same;
}
carried blocks depth work r acts last how e (Refuses _ s _ w outs name is d) = record {
  goes = Refuses depth s (client_run r) w.client outs name is (subst (λ bs. TaskDoes bs r.world.client r.at.env s outs w.client (Some name)) e d.did);
  made = made_joined r.world.client.number r.world.run w.run w.run outs (Noted (refusal_noted s name) ∷ []) d.made refl;
  number = d.number;
  same = d.same;
}

-- ---- a block at once
pub nothing_now : (o : OfficeState) (env : Env) (notes : List Note) → RunsNowInto o env None notes o notes
nothing_now o env notes = record { acts = []; runs = NoBlock; follows = record { made = refl; number = refl; blocks = refl; lines = sym (append-nil notes) } }

pub ran_now : (old mid : OfficeState) (new : ClientState) (shared : List Named) (env : Env) (at : Run OfficeState) (block : ℕ) (before after : List Note) (how : RunEnd)
    → shared ≡ old.blocks → at.world ≡ mid → new.number ≡ mid.client.number
    → GoesInto Noted notes_of_act OfficeDoes shared 0 (Block block) (record { world = old; at = begins_at env }) before at how after
    → new ≡ with_notes mid.client (drop (length before) after)
    → RunsNowInto old env (Some block) before (record mid { client = new }) after
ran_now old mid new shared env at block before after how e w n g p =
    let c = carried shared 0 (Block block) (record { world = old; at = begins_at env }) g.outs at how (sym e) g.goes in
    let goes : Goes Noted TaskDoes old.blocks 0 (Block block) (record { world = old.client; at = begins_at env }) g.outs (client_run at) how = subst (λ bs. Goes Noted TaskDoes bs 0 (Block block) (record { world = old.client; at = begins_at env }) g.outs (client_run at) how) e c.goes in
    let added : drop (length before) after ≡ notes_of_acts g.outs = ap (λ ns. drop (length before) ns) g.lines ∙ drop-append_seam before (notes_of_acts g.outs) in
    let is : new ≡ with_notes at.world.client (notes_of_acts g.outs) = p ∙ ap (λ ns. with_notes mid.client ns) added ∙ ap (λ (o : OfficeState). with_notes o.client (notes_of_acts g.outs)) (sym w) in
    record {
      acts = g.outs;
      runs = subst (λ x. RunsNow old.blocks old.client env (Some block) g.outs x) (sym is) (RunsBlock block g.outs (client_run at) how goes);
      follows = record {
        made = subst (λ (o : OfficeState). MadeAtOnce old.client.number old.run g.outs o.run) w c.made;
        number = n ∙ ap (λ (o : OfficeState). o.client.number) (sym w) ∙ c.number;
        blocks = ap (λ (o : OfficeState). o.blocks) (sym w) ∙ c.same;
        lines = g.lines;
      };
    }
