-- One more session is reported.
use Rattle.std.proofs.Common.{◌≡◌, inl, inr, ℕ, Bool, ◌+◌, ◌==◌, List, [], ◌∷◌, ◌++◌, length, Option, None, Some, if◌then◌else◌, refl, ap, subst, ◌∙◌, arith}
use Rattle.std.proofs.lemmas.Bool.{ne_eqb}
use Rattle.disk_trait.specs.Disk.{DiskView, WhereTold, NoNewImage}
use Rattle.script_statements.specs.declared.script.ScriptSession.{ScriptSession}
use Rattle.script_runner.specs.Sessions.{SessionRun, SessionDone, GivenAfter, starts_of, starts_after_run, LeavesAfter, BeginsAfter, IsReported, AreReported, last_run}

pub one_more : (entry : DiskView) (before : Option SessionRun) (n m : ℕ) (front : List ScriptSession) (dones : List SessionDone) (session : ScriptSession) (done : SessionDone)
    → m ≡ n + length front → AreReported entry before n front dones → BeginsAfter entry (last_run before dones) done.run → IsReported m session done
    → AreReported entry before n (front ++ session ∷ []) (dones ++ done ∷ [])
one_more entry before n m [] [] session done e all begun reported = (begun, subst (λ k. IsReported k session done) (omega (arith, e)) reported, tt)
one_more entry before n m [] (d ∷ ds) session done e all begun reported = absurd all
one_more entry before n m (s ∷ ss) [] session done e all begun reported = absurd all
one_more entry before n m (s ∷ ss) (d ∷ ds) session done e all begun reported =
    (all.0, all.1, one_more entry (Some d.run) (n + 1) m ss ds session done (omega (arith, e)) all.2 begun reported)

pub last_more : (before : Option SessionRun) (dones : List SessionDone) (done : SessionDone) → last_run before (dones ++ done ∷ []) ≡ Some done.run
last_more before [] done = refl
last_more before (d ∷ ds) done = last_more (Some d.run) ds done

-- behind one that began there is a last one
pub of_last : (run : SessionRun) (dones : List SessionDone) (P : Option SessionRun → Type 0) → ((last : SessionRun) → P (Some last)) → P (last_run (Some run) dones)
of_last run [] P each = each run
of_last run (d ∷ ds) P each = of_last d.run ds P each

-- ---- between two sessions
module _ (entry now mid : DiskView) where
  pub given_after : (front : List ScriptSession) (dones : List SessionDone) (number : ℕ) → number ≡ length front → AreReported entry None 1 front dones
      → LeavesAfter entry (last_run None dones) now → (number ≡ 0 → mid.reads ≡ entry.reads) → WhereTold mid now.may_leave → GivenAfter entry (last_run None dones) mid.reads
  given_after [] [] number many all leaves first given = first many
  given_after [] (d ∷ ds) number many all leaves first given = absurd all
  given_after (s ∷ ss) [] number many all leaves first given = absurd all
  given_after (s ∷ ss) (d ∷ ds) number many all leaves first given =
      of_last d.run ds (λ o. LeavesAfter entry o now → GivenAfter entry o mid.reads) (λ last left areas told. left areas (given areas told)) leaves

  pub started_after : (front : List ScriptSession) (dones : List SessionDone) (number : ℕ) → number ≡ length front → AreReported entry None 1 front dones
      → now.starts ≡ starts_of entry (last_run None dones) → mid.starts ≡ (if number == 0 then now.starts else now.starts + 1)
      → mid.starts ≡ starts_after_run entry (last_run None dones)
  started_after [] [] number many all so_far again = again ∙ ap (λ (n : ℕ). if n == 0 then now.starts else now.starts + 1) many ∙ so_far
  started_after [] (d ∷ ds) number many all so_far again = absurd all
  started_after (s ∷ ss) [] number many all so_far again = absurd all
  started_after (s ∷ ss) (d ∷ ds) number many all so_far again =
      of_last d.run ds (λ o. now.starts ≡ starts_of entry o → mid.starts ≡ starts_after_run entry o)
      (λ last is. again ∙ ap (λ (b : Bool). if b then now.starts else now.starts + 1) (ne_eqb number 0 (λ none. absurd (omega (arith, many, none)))) ∙ ap (λ (n : ℕ). n + 1) is) so_far

  pub leaves_still : (before : Option SessionRun) → LeavesAfter entry before now → NoNewImage now mid → LeavesAfter entry before mid
  leaves_still None (inl left) none_new = inl (λ image may. left image (none_new image may))
  leaves_still None (inr left) none_new = inr (λ image may. left image (none_new image may))
  leaves_still (Some last) left none_new = λ image may. left image (none_new image may)
