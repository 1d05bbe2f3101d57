-- What each step leaves to do.
--     posted_left           posts become tasks, and there is as much left
--     now_left, meets_left, ends_left       nor does a block that runs at once, an event that is met, or an end add anything
--     meets_notes           an event notes its line
--     left_same, left_still         no more is left where as much is left of tasks and notes were added;  and where nothing changed
--     task_less, event_less less is left behind a task, and behind an event where its notes stand in memory
--     lt_le, one_less       less is no more;  and one entry more leaves less room
use Rattle.std.proofs.Common.{◌≡◌, ℕ, suc, ◌+◌, ◌-◌, ◌<◌, ◌≤◌, nat_lt, Bool, true, false, List, [], ◌∷◌, ◌++◌, length, if◌then◌else◌, Option, Some, None, refl, ◌∙◌, ap, arith}
use Rattle.std.proofs.lemmas.Bool.Decides.{nat_tests}
use Rattle.idb_keys.specs.declared.names.ErrorName.{ErrorName}
use Rattle.idb_calls.specs.declared.traces.Outcome.{Outcome}
use Rattle.name_queues.specs.declared.events.ClientEvent.{ClientEvent}
use Rattle.script_statements.specs.declared.script.Block.{Block as Named}
use Rattle.script_statements.specs.declared.statement.Stmt.{Stmt}
use Rattle.script_runs.specs.declared.environments.Env.{Env}
use Rattle.script_runs.specs.declared.notes.Note.{Note}
use Rattle.script_runs.specs.declared.notes.Note.TheVariants as note
use Rattle.script_runs.specs.declared.notes.Task.{Task}
use Rattle.script_runs.specs.declared.worlds.RunEnd.{RunEnd}
use Rattle.script_runs.specs.Going.{Run, RunWork, Goes, Finished, Next, Stops, TooMany, Enters, TooDeep, Enough, Round, Breaks, Says, Throws, Posts, Sets, Repeats, Takes, Passes, Acts, Refuses}
use Rattle.client_machine.specs.Acts.{Told, Act, Noted, notes_of_acts}
use Rattle.client_machine.specs.ClientStates.{ClientTxKind, ClientState, with_task, with_notes}
use Rattle.client_machine.specs.ClientSteps.{Meets, MeetsPlain, MeetsChange, MeetsChangeClosed, MeetsUpgrade, MeetsDeletion, EndsTx, EndsOwn, EndsUpgrade, EndsDeletion, with_tasks, after_event_of}
use Rattle.client_machine.specs.TaskRuns.{TaskDoes, Asked, AskRefused, Closed, ClosedBefore, Created, CreateRefused, Misplaced, RunsNow, NoBlock, RunsBlock}
use Rattle.client_machine.specs.declared.limits.TheConstants.{GREATEST_POST_COUNT}
use Rattle.client_tasks.specs.Offices.{OfficeState}
use Rattle.client_tasks.specs.Steps.{RunsTaskInto, TakesEventInto}
use Rattle.office_scenes.specs.Measures.{beyond_memory, tasks_left, left_to}

-- ---- numbers
pub lt_le : {m n : ℕ} → m < n → m ≤ n
lt_le less = omega (arith, less)

-- one entry more
pub one_less : (most old new : ℕ) → new ≡ old + 1 → new < most → most - new < most - old
one_less most old new e less = omega (arith, e, less)

-- ---- lists
length_more : {X : Type 0} (xs ys : List X) → length (xs ++ ys) ≡ length xs + length ys
length_more [] ys = omega arith
length_more (x ∷ xs) ys = let k = length_more xs ys in omega (arith, k)

-- ---- posts
one_post : (c : ClientState) (t : Task) → tasks_left (with_task c t) ≡ tasks_left c
one_post c t = by (nat_lt c.posts GREATEST_POST_COUNT) refl
  where
    by : (b : Bool) → nat_lt c.posts GREATEST_POST_COUNT ≡ b → tasks_left (if b then record c { tasks = c.tasks ++ t ∷ []; posts = c.posts + 1 } else c) ≡ tasks_left c
    by true is =
        let one = length_more c.tasks (t ∷ []) in
        let less : c.posts < GREATEST_POST_COUNT = grind (arith, nat_tests) in
        omega (arith, one, less)
    by false is = refl

pub posted_left : (notes : List Note) (c : ClientState) → tasks_left (with_notes c notes) ≡ tasks_left c
posted_left [] c = refl
posted_left (note.Line l ∷ notes) c = posted_left notes c
posted_left (note.Posted t ∷ notes) c = posted_left notes (with_task c t) ∙ one_post c t

-- ---- a run
does_left : (blocks : List Named) (c : ClientState) (env : Env) (s : Stmt) (acts : List Act) (last : ClientState) (refusal : Option ErrorName) → TaskDoes blocks c env s acts last refusal → tasks_left last ≡ tasks_left c
does_left blocks c env s acts last refusal (Asked t o told is) = refl
does_left blocks c env s acts last refusal (AskRefused t o name is) = refl
does_left blocks c env s acts last refusal (Closed who told is) = refl
does_left blocks c env s acts last refusal (ClosedBefore who is) = refl
does_left blocks c env s acts last refusal (Created who scope m durability body complete abort number told schema notes front how tx is number_told schema_told runs made) = refl
does_left blocks c env s acts last refusal (CreateRefused who scope m durability body complete abort number name is) = refl
does_left blocks c env s acts last refusal (Misplaced is) = refl

goes_left : (blocks : List Named) (depth : ℕ) (work : RunWork) (r : Run ClientState) (acts : List Act) (last : Run ClientState) (how : RunEnd) → Goes Noted TaskDoes blocks depth work r acts last how → tasks_left last.world ≡ tasks_left r.world
goes_left blocks depth work r acts last how (Finished _ _) = refl
goes_left blocks depth work r acts last how (Next _ s ss _ mid _ first rest _ less g h) = goes_left blocks depth _ mid rest last how h ∙ goes_left blocks depth _ _ first mid _ g
goes_left blocks depth work r acts last how (Stops _ s ss _ _ _ less g) = goes_left blocks depth _ _ acts last _ g
goes_left blocks depth work r acts last how (TooMany _ s ss _ most) = refl
goes_left blocks depth work r acts last how (Enters _ block _ _ _ _ less g) = goes_left blocks _ _ r acts last how g
goes_left blocks depth work r acts last how (TooDeep _ block _ most) = refl
goes_left blocks depth work r acts last how (Enough _ times turn block _ most) = refl
goes_left blocks depth work r acts last how (Round _ times turn block _ mid _ first rest _ less g h) = goes_left blocks depth _ mid rest last how h ∙ goes_left blocks depth _ _ first mid _ g
goes_left blocks depth work r acts last how (Breaks _ times turn block _ _ _ less g) = goes_left blocks depth _ _ acts last _ g
goes_left blocks depth work r acts last how (Says _ x _) = refl
goes_left blocks depth work r acts last how (Throws _ _) = refl
goes_left blocks depth work r acts last how (Posts _ block _) = refl
goes_left blocks depth work r acts last how (Sets _ name x _) = refl
goes_left blocks depth work r acts last how (Repeats _ times block _ inner _ _ g) = goes_left blocks depth _ r acts inner how g
goes_left blocks depth work r acts last how (Takes _ block test if_so if_not _ _ _ _ is g) = goes_left blocks depth _ r acts last how g
goes_left blocks depth work r acts last how (Passes _ test if_so if_not _ is) = refl
goes_left blocks depth work r acts last how (Acts _ s _ w _ is d) = does_left blocks r.world r.at.env s acts w None d
goes_left blocks depth work r acts last how (Refuses _ s _ w outs name is d) = does_left blocks r.world r.at.env s outs w (Some name) d

pub now_left : (blocks : List Named) (c : ClientState) (env : Env) (block : Option ℕ) (acts : List Act) (last : ClientState) → RunsNow blocks c env block acts last → tasks_left last ≡ tasks_left c
now_left blocks c env block acts last NoBlock = refl
now_left blocks c env block acts last (RunsBlock b _ at how goes) = posted_left (notes_of_acts acts) at.world ∙ goes_left blocks 0 _ _ acts at how goes

pub meets_left : (blocks : List Named) (told : Told) (c : ClientState) (e : ClientEvent) (acts : List Act) (last : ClientState) → Meets blocks told c e acts last → tasks_left last ≡ tasks_left c
meets_left blocks told c e acts last (MeetsPlain _ o more _ plain found runs) = now_left blocks (after_event_of c o e) _ _ more last runs
meets_left blocks told c e acts last (MeetsChange who old new o more _ handled found runs) = now_left blocks c _ _ more last runs
meets_left blocks told c e acts last (MeetsChangeClosed who old new o more _ found runs) = now_left blocks c _ _ more last runs
meets_left blocks told c e acts last (MeetsUpgrade who old new number schema o notes front how tx found number_told schema_told runs made) = posted_left notes _
meets_left blocks told c e acts last (MeetsDeletion who old number o tx found number_told made) = refl

some_note : {n : ℕ} → 1 ≤ suc n
some_note = omega arith

pub meets_notes : (blocks : List Named) (told : Told) (c : ClientState) (e : ClientEvent) (acts : List Act) (last : ClientState) → Meets blocks told c e acts last → 1 ≤ length (notes_of_acts acts)
meets_notes blocks told c e acts last (MeetsPlain _ o more _ plain found runs) = some_note
meets_notes blocks told c e acts last (MeetsChange who old new o more _ handled found runs) = some_note
meets_notes blocks told c e acts last (MeetsChangeClosed who old new o more _ found runs) = some_note
meets_notes blocks told c e acts last (MeetsUpgrade who old new number schema o notes front how tx found number_told schema_told runs made) = some_note
meets_notes blocks told c e acts last (MeetsDeletion who old number o tx found number_told made) = some_note

pub ends_left : (blocks : List Named) (c : ClientState) (number : ℕ) (outcome : Outcome) (kind : ClientTxKind) (acts : List Act) (last : ClientState) → EndsTx blocks c number outcome kind acts last → tasks_left last ≡ tasks_left c
ends_left blocks c number outcome kind acts last (EndsOwn complete abort env more _ runs) = now_left blocks c _ _ more last runs
ends_left blocks c number outcome kind acts last EndsUpgrade = refl
ends_left blocks c number outcome kind acts last EndsDeletion = refl

-- ---- with the room for notes
room_with : (most old new more : ℕ) → new ≡ old + more → most - new ≤ most - old
room_with most old new more e = omega (arith, e)

room_less : (most old new more : ℕ) → new ≡ old + more → 1 ≤ more → new < most → most - new < most - old
room_less most old new more e some less = omega (arith, e, some, less)

notes_added : (before after lines : List Note) → after ≡ before ++ lines → length after ≡ length before + length lines
notes_added before after lines e = ap length e ∙ length_more before lines

both_less : (a b m n : ℕ) → a ≡ b → m ≤ n → a + m ≤ b + n
both_less a b m n e l = omega (arith, e, l)

pub left_same : (c d : ClientState) (before after lines : List Note) → tasks_left d ≡ tasks_left c → after ≡ before ++ lines → left_to d after ≤ left_to c before
left_same c d before after lines same added = both_less (tasks_left d) (tasks_left c) (beyond_memory - length after) (beyond_memory - length before) same (room_with beyond_memory (length before) (length after) (length lines) (notes_added before after lines added))

pub left_still : (c d : ClientState) (before after : List Note) → d ≡ c → after ≡ before → left_to d after ≤ left_to c before
left_still c d before after same still = both_less (tasks_left d) (tasks_left c) (beyond_memory - length after) (beyond_memory - length before) (ap tasks_left same) (room_with beyond_memory (length before) (length after) 0 (ap length still ∙ nil_more (length before)))
  where
    nil_more : (n : ℕ) → n ≡ n + 0
    nil_more n = omega arith

pub task_less : (old new : OfficeState) (before after : List Note) → RunsTaskInto old before new after → left_to new.client after < left_to old.client before
task_less old new before after t =
    let ran : tasks_left new.client ≡ tasks_left (with_tasks old.client t.tasks) = now_left old.blocks (with_tasks old.client t.tasks) t.task.env (Some t.task.block) t.acts new.client t.runs in
    let one : length old.client.tasks ≡ suc (length t.tasks) = ap length t.first in
    let room = room_with beyond_memory (length before) (length after) (length (notes_of_acts t.acts)) (notes_added before after (notes_of_acts t.acts) t.follows.lines) in
    below (tasks_left new.client) (length t.tasks) (length old.client.tasks) (GREATEST_POST_COUNT - old.client.posts) (beyond_memory - length after) (beyond_memory - length before) ran one room
  where
    below : (a n m p x y : ℕ) → a ≡ n + p → m ≡ suc n → x ≤ y → a + x < (m + p) + y
    below a n m p x y ran one room = omega (arith, ran, one, room)

pub event_more : (old new : OfficeState) (before after : List Note) → TakesEventInto old before new after → left_to new.client after ≤ left_to old.client before
event_more old new before after t = left_same old.client new.client before after _ (meets_left old.blocks _ old.client t.event t.acts new.client t.meets) t.follows.lines

pub event_less : (old new : OfficeState) (before after : List Note) → TakesEventInto old before new after → length after < beyond_memory → left_to new.client after < left_to old.client before
event_less old new before after t few =
    let same = meets_left old.blocks _ old.client t.event t.acts new.client t.meets in
    let room = room_less beyond_memory (length before) (length after) (length (notes_of_acts t.acts)) (notes_added before after (notes_of_acts t.acts) t.follows.lines) (meets_notes old.blocks _ old.client t.event t.acts new.client t.meets) few in
    below (tasks_left new.client) (tasks_left old.client) (beyond_memory - length after) (beyond_memory - length before) same room
  where
    below : (a b x y : ℕ) → a ≡ b → x < y → a + x < b + y
    below a b x y same room = omega (arith, same, room)
