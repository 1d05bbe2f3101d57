-- Steps that one driver makes.
--     made_split            what was made of acts and more
--     run_before            a run whose last step is left out is a run, and allowed that step
--     made_before           a run before what was made is one
--     made_notes            notes make no step
--     others_made           of other clients' transactions nothing changes
use Rattle.std.proofs.Common.{◌≡◌, ◌≢◌, ℕ, true, List, [], ◌∷◌, ◌++◌, map, refl, ◌∙◌, ap, subst}
use Rattle.desk_steps.specs.declared.steps.DeskStep.{DeskStep}
use Rattle.idb_desk.specs.Desks.{DeskState}
use Rattle.idb_desk.specs.Refusals.{is_allowed}
use Rattle.idb_desk.specs.Steps.{after, after_all, new_desk, DeskRun, desk_run, with_step, IsDeskRun, AreAllowed}
use Rattle.script_runs.specs.declared.notes.Note.{Note}
use Rattle.client_machine.specs.Acts.{Act, Noted, Makes, Fails, Begins, TakesTurn}
use Rattle.client_machine.specs.Answering.{MadeAtOnce}
use Rattle.client_ties.specs.Unfinished.{own_unfinished}
use Rattle.client_ties.proofs.Effects.{IsSound, step_others}

pub made_split : (client : ℕ) (r last : DeskRun) (acts more : List Act) → MadeAtOnce client r (acts ++ more) last → (mid : DeskRun) × (MadeAtOnce client r acts mid × MadeAtOnce client mid more last)
made_split client r last [] more m = (r, (refl, m))
made_split client r last (Makes t told ∷ acts) more m = let s = made_split client (with_step r t) last acts more m.1.1 in (s.0, ((m.0, (m.1.0, s.1.0)), s.1.1))
made_split client r last (Fails t name ∷ acts) more m = let s = made_split client r last acts more m.1.1 in (s.0, ((m.0, (m.1.0, s.1.0)), s.1.1))
made_split client r last (Noted note ∷ acts) more m = made_split client r last acts more m
made_split client r last (Begins tx ∷ acts) more m = made_split client r last acts more m
made_split client r last (TakesTurn number notes ∷ acts) more m = made_split client r last acts more m

-- ---- the last step of a run
allowed_before : (d : DeskState) (ts : List DeskStep) (t : DeskStep) → AreAllowed d (ts ++ t ∷ []) → AreAllowed d ts × (is_allowed (after_all d ts) t ≡ true)
allowed_before d [] t h = (tt, h.0)
allowed_before d (s ∷ ss) t h = let k = allowed_before (after d s) ss t h.1 in ((h.0, k.0), k.1)

after_last : (d : DeskState) (ts : List DeskStep) (t : DeskStep) → after_all d (ts ++ t ∷ []) ≡ after (after_all d ts) t
after_last d [] t = refl
after_last d (s ∷ ss) t = after_last (after d s) ss t

pub run_before : (r : DeskRun) (t : DeskStep) → IsDeskRun (with_step r t) → IsDeskRun r × (is_allowed (desk_run r) t ≡ true)
unfolding desk_run IsDeskRun
run_before r t h = allowed_before (new_desk r.opening) r.order t h

pub run_after : (r : DeskRun) (t : DeskStep) → desk_run (with_step r t) ≡ after (desk_run r) t
unfolding desk_run
run_after r t = after_last (new_desk r.opening) r.order t

pub made_before : (client : ℕ) (r last : DeskRun) (acts : List Act) → MadeAtOnce client r acts last → IsDeskRun last → IsDeskRun r
made_before client r last [] m run = subst IsDeskRun m run
made_before client r last (Makes t told ∷ acts) m run = (run_before r t (made_before client (with_step r t) last acts m.1.1 run)).0
made_before client r last (Fails t name ∷ acts) m run = made_before client r last acts m.1.1 run
made_before client r last (Noted note ∷ acts) m run = made_before client r last acts m run
made_before client r last (Begins tx ∷ acts) m run = made_before client r last acts m run
made_before client r last (TakesTurn number notes ∷ acts) m run = made_before client r last acts m run

pub made_notes : (client : ℕ) (r last : DeskRun) (notes : List Note) → MadeAtOnce client r (map Noted notes) last → last ≡ r
made_notes client r last [] m = m
made_notes client r last (n ∷ notes) m = made_notes client r last notes m

pub made_turns : (client number : ℕ) (r last : DeskRun) (turns : List (List Note)) (more : List Act) → MadeAtOnce client r (map (TakesTurn number) turns ++ more) last → MadeAtOnce client r more last
made_turns client number r last [] more m = m
made_turns client number r last (notes ∷ turns) more m = made_turns client number r last turns more m

-- ---- other clients
module _ (sound : (r : DeskRun) → IsDeskRun r → IsSound (desk_run r)) where
  pub others_made : (client other : ℕ) (r last : DeskRun) (acts : List Act) → other ≢ client → MadeAtOnce client r acts last → IsDeskRun last → own_unfinished (desk_run last) other ≡ own_unfinished (desk_run r) other
  others_made client other r last [] out m run = ap (λ (q : DeskRun). own_unfinished (desk_run q) other) m
  others_made client other r last (Makes t told ∷ acts) out m run =
      let at = run_before r t (made_before client (with_step r t) last acts m.1.1 run) in
      others_made client other (with_step r t) last acts out m.1.1 run
      ∙ ap (λ d. own_unfinished d other) (run_after r t)
      ∙ step_others (desk_run r) t client other (sound r at.0) at.1 m.0 out
  others_made client other r last (Fails t name ∷ acts) out m run = others_made client other r last acts out m.1.1 run
  others_made client other r last (Noted note ∷ acts) out m run = others_made client other r last acts out m run
  others_made client other r last (Begins tx ∷ acts) out m run = others_made client other r last acts out m run
  others_made client other r last (TakesTurn number notes ∷ acts) out m run = others_made client other r last acts out m run
