-- The sessions so far, and one more.
use Rattle.std.proofs.Common.{◌≡◌, inl, inr, ℕ, ◌+◌, ◌-◌, ◌^◌, ◌≤◌, ◌==◌, true, is_some, if◌then◌else◌, Result, List, [], ◌∷◌, ◌++◌, length, Option, None, Some, Ok, Err, refl, sym, ap, subst, ◌∙◌, arith, append_assoc, length-append}
use Rattle.std.specs.Io.KnownBytes.{Appends}
use Rattle.std.proofs.KnownBytes.{Appends-nil, Appends-trans}
use Rattle.std.proofs.lemmas.List.{flat_map_more}
use Rattle.edge_traits.specs.Faults.{Rose}
use Rattle.edge_traits.specs.Streams.{AppendsFront}
use Rattle.disk_trait.specs.declared.area.Area.{Area}
use Rattle.disk_trait.specs.Areas.{Areas}
use Rattle.disk_trait.specs.Disk.{DiskView, WhereTold, NoNewImage}
use Rattle.item_changes.specs.Items.{Items}
use Rattle.log_history.specs.Batching.{Commit}
use Rattle.log_history.specs.Found.{found}
use Rattle.log_history.specs.Kept.{End, with_doubt}
use Rattle.idb_recovery.specs.declared.error.RecoverError.{RecoverError}
use Rattle.idb_recovery.specs.declared.error.RecoverError.TheVariants as error
use Rattle.session_driver.specs.Ending.{ReportsOn, StopsOn}
use Rattle.report_lines.specs.ReportText.{text_of_report}
use Rattle.report_lines.specs.declared.reports.Report.{Report}
use Rattle.report_lines.specs.declared.reports.ReportEnd.{ReportEnd}
use Rattle.report_lines.specs.declared.reports.ReportEnd.TheVariants as end
use Rattle.script_statements.specs.declared.script.ScriptSession.{ScriptSession}
use Rattle.legal_sessions.specs.Legal.{report_end, IsLegalReport}
use Rattle.session_driver.specs.Interrupted.{HasCommits}
use Rattle.script_runner.specs.Sessions.{SessionRun, SessionDone, IsLeftBy, GivenAfter, starts_of, starts_after_run, LeavesAfter, BeginsAfter, AreReported, last_run, texts_of, one_if_fault, fault_ends, IsCounted, EndsBetween, EndsAtOpening, EndsByFault, EndsWithin, IsCutOff}
use Rattle.script_runner.specs.Running.{IsOpenedOn, IsUnopened, RanOn, StopsIn, StopsBy, EndsBy, RanSoFar}
use Rattle.script_runner.specs.Stops.{stop_of_recovery}
use Rattle.script_runner.specs.declared.stops.Stop.{Stop}
use Rattle.script_runner.specs.declared.stops.Stop.TheVariants as stop
use Rattle.script_runner.proofs.Reported.{one_more, last_more, given_after, started_after, leaves_still}

-- what is found as it was where a session may have left it, it may leave
pub left_again : (run : SessionRun) (before after : Areas) → found after ≡ found before → IsLeftBy run before → IsLeftBy run after
left_again run before after same left = record { number = left.number; may_keep = left.may_keep; found_so = same ∙ left.found_so }

-- no session began: what may be left is as before
pub unopened_leaves : (entry mid left : DiskView) (before : Option SessionRun) → LeavesAfter entry before mid → GivenAfter entry before mid.reads → IsUnopened mid left → LeavesAfter entry before left
unopened_leaves entry mid left before leaves given (inl none_new) = leaves_still entry mid left before leaves none_new
unopened_leaves entry mid left None leaves given (inr same) = inr (λ image may. let c = same image may in record { given = c.given; was_given = sym given ∙ c.was_given; stepped = c.stepped })
unopened_leaves entry mid left (Some last) leaves given (inr same) = λ image may.
    let c = same image may in left_again last c.given image c.stepped.items (given c.given c.was_given)

-- what reads gave was found as databases, so it came damaged to the first session only
pub begun_on : (entry mid : DiskView) (before : Option SessionRun) (run : SessionRun) → GivenAfter entry before mid.reads → is_some mid.reads ≡ is_some entry.reads → mid.starts ≡ starts_after_run entry before → IsOpenedOn mid run → BeginsAfter entry before run
begun_on entry mid before run given tells started opened = record {
  given = subst (GivenAfter entry before) (sym opened.told) given;
  tells = ap is_some opened.told ∙ tells;
  started = opened.started ∙ started;
  found_so = opened.found_so;
}

-- what reads gave behind a session was found as databases: only a disk that came so is damaged
told_too : (entry mid : DiskView) (areas : Areas) → is_some mid.reads ≡ is_some entry.reads → entry.reads ≡ Some areas → (now : Areas) × (mid.reads ≡ Some now)
told_too entry mid areas tells told = by_told mid.reads refl (tells ∙ ap is_some told)
  where
    by_told : (o : Option Areas) → mid.reads ≡ o → is_some o ≡ true → (now : Areas) × (mid.reads ≡ Some now)
    by_told None e none = absurd (cc)
    by_told (Some now) e some = (now, e)

pub came_damaged : (entry mid : DiskView) (before : Option SessionRun) (damage : Area × ℕ) → GivenAfter entry before mid.reads → is_some mid.reads ≡ is_some entry.reads
    → WhereTold mid (λ areas. found areas ≡ Err damage) → WhereTold entry (λ areas. found areas ≡ Err damage)
came_damaged entry mid None damage given tells here areas told = here areas (given ∙ told)
came_damaged entry mid (Some last) damage given tells here areas told =
    let now = told_too entry mid areas tells told in
    absurd (never_both (found now.0) damage (here now.0 now.1) _ (given now.0 now.1).found_so)
  where
    never_both : {X Y : Type 0} (r : Result X Y) (e : Y) → r ≡ Err e → (x : X) → r ≡ Ok x → ⊥
    never_both (Ok y) e is x other = absurd cc
    never_both (Err y) e is x other = absurd cc

pub rose_since : (first then_ now : ℕ) → first ≤ then_ → Rose then_ now → Rose first now
rose_since first then_ now since (inl rose) = inl (omega arith)
rose_since first then_ now since (inr end) = inr end

-- ---- one session
pub ran_so : (old left : DiskView) (number : ℕ) (session : ScriptSession) (report : Report) (opening : Items) → WhereTold old (λ areas. found areas ≡ Ok opening)
    → ReportsOn session number opening report left → left.starts ≡ old.starts → (report.end ≡ end.Fault → Rose old.faults left.faults) → RanOn old left number session report
ran_so old left number session report opening here reports started fault = record {
  run = record { told = old.reads; starts = old.starts; opening = opening; commits = reports.commits; end = reports.log_end };
  closing = reports.closing;
  opened = record { told = refl; started = refl; found_so = here };
  started = started;
  legal = reports.legal;
  cause = reports.cause;
  fault = fault;
  images = reports.images;
}

pub unopened_stops : (session : ScriptSession) (old left : DiskView) (e : RecoverError) (why : Stop) → why ≡ stop_of_recovery e → IsUnopened old left → (e ≡ error.DiskFault → Rose old.faults left.faults)
    → ((area : Area) (place : ℕ) → e ≡ error.Damaged area place → WhereTold old (λ areas. found areas ≡ Err (area, place))) → StopsBy ⊥ session why old left
unopened_stops session old left e why is unopened fault damage = subst (λ w. StopsBy ⊥ session w old left) (sym is) (by_error e fault damage)
  where
    by_error : (e : RecoverError) → (e ≡ error.DiskFault → Rose old.faults left.faults) → ((area : Area) (place : ℕ) → e ≡ error.Damaged area place → WhereTold old (λ areas. found areas ≡ Err (area, place)))
        → StopsBy ⊥ session (stop_of_recovery e) old left
    by_error error.DiskFault fault damage = (unopened, fault refl)
    by_error (error.Damaged area place) fault damage = (unopened, damage area place refl)
    by_error error.NoMemory fault damage = inl unopened

pub stopped_in : (session : ScriptSession) (old mid left : DiskView) (opening : Items) → WhereTold old (λ areas. found areas ≡ Ok opening) → old.faults ≤ mid.faults → StopsOn session opening mid left → StopsIn session old left
stopped_in session old mid left opening here since stops = record {
  run = record { told = old.reads; starts = old.starts; opening = opening; commits = stops.commits; end = stops.log_end };
  opened = record { told = refl; started = refl; found_so = here };
  made = stops.made;
  cause = stops.cause;
  fault = λ e. rose_since old.faults mid.faults left.faults since (stops.fault e);
  images = stops.images;
}

-- ---- faults
pub counted_later : (before many then_ now : ℕ) → IsCounted before many then_ → then_ ≤ now → IsCounted before many now
counted_later before many then_ now (inl c) le = inl (omega (arith, c, le))
counted_later before many then_ now (inr most) le = inr (omega (arith, most, le))

-- one fault more
pub counted_risen : (before many then_ now : ℕ) → IsCounted before many then_ → Rose then_ now → IsCounted before (many + 1) now
counted_risen before many then_ now (inl c) (inl less) = inl (omega (arith, c, less))
counted_risen before many then_ now (inr most) (inl less) = inr (omega (arith, most, less))
counted_risen before many then_ now c (inr most) = inr most

fault_ends_more : (done : List SessionDone) (d : SessionDone) → fault_ends (done ++ d ∷ []) ≡ fault_ends done + one_if_fault d.report.end
fault_ends_more [] d = omega arith
fault_ends_more (e ∷ done) d = let k = fault_ends_more done d in omega (arith, k)

-- one session more
counted_one : (before many then_ mid now : ℕ) (how : ReportEnd) → IsCounted before many then_ → then_ ≤ mid → mid ≤ now → (how ≡ end.Fault → Rose mid now) → IsCounted before (many + one_if_fault how) now
counted_one before many then_ mid now end.Flush (inl c) le more rose = inl (omega (arith, c, le, more))
counted_one before many then_ mid now end.Drop (inl c) le more rose = inl (omega (arith, c, le, more))
counted_one before many then_ mid now end.Fault (inl c) le more rose = counted_risen before many then_ now (inl c) (rose_since then_ mid now le (rose refl))
counted_one before many then_ mid now how (inr most) le more rose = inr (omega (arith, most, le, more))

counted_more : (before then_ mid now : ℕ) (done : List SessionDone) (d : SessionDone) → IsCounted before (fault_ends done) then_ → then_ ≤ mid → mid ≤ now → (d.report.end ≡ end.Fault → Rose mid now) → IsCounted before (fault_ends (done ++ d ∷ [])) now
counted_more before then_ mid now done d c le more rose = subst (λ n. IsCounted before n now) (sym (fault_ends_more done d)) (counted_one before (fault_ends done) then_ mid now d.report.end c le more rose)

-- of a session that ran to its report there is none after all
abbrev pub WholeLaw : Type 0
WholeLaw = (session : ScriptSession) (number : ℕ) (opening : Items) (report : Report) (commits : List Commit) (log_end : End) (closing : Items) → IsLegalReport session number opening report commits log_end closing
    → HasCommits session opening commits (with_doubt [] log_end)

pub ran_unreported : WholeLaw → (old left : DiskView) (number : ℕ) (session : ScriptSession) (report : Report) → RanOn old left number session report → StopsIn session old left
ran_unreported law old left number session report ran = record { run = ran.run; opened = ran.opened; made = inr (law session number ran.run.opening report ran.run.commits ran.run.end ran.closing ran.legal); cause = ran.cause; fault = λ e. ran.fault (ran.legal.told.end ∙ e); images = ran.images }

-- ---- all sessions
pub none_ran : (entry : DiskView) (all rest : List ScriptSession) (held : Option (List ℕ)) → rest ≡ all → RanSoFar entry entry all rest held held 0
none_ran entry all rest held same = record {
  front = [];
  done = [];
  split = sym same;
  reported = tt;
  leaves = inl (λ image may. may);
  started = refl;
  counted = inl (omega arith);
  appended = Appends-nil held;
  many = refl;
  fresh = λ none. refl;
}

pub same_Err : {X Y : Type 0} {x y : Y} → ◌≡◌ {A = Result X Y} (Err x) (Err y) → x ≡ y
same_Err e = cc

-- the restart before a session
module _ (entry now : DiskView) (all rest : List ScriptSession) (held held_now : Option (List ℕ)) (number : ℕ) (ran : RanSoFar entry now all rest held held_now number) where
  abbrev pub before : Option SessionRun
  before = last_run None ran.done

  pub stands_still : (left : DiskView) → NoNewImage now left → now.faults ≤ left.faults → EndsBetween entry left all held held_now
  stands_still left none_new more = (
    ran.done,
    record {
      front = ran.front;
      rest = rest;
      split = ran.split;
      reported = ran.reported;
      leaves = leaves_still entry now left before ran.leaves none_new;
      counted = counted_later entry.faults (fault_ends ran.done) now.faults left.faults ran.counted more;
    },
    ran.appended,
  )

  pub stands_faulted : (left : DiskView) → 1 ≤ length rest → NoNewImage now left → now.faults ≤ left.faults → Rose now.faults left.faults → EndsByFault entry left all held held_now
  unfolding stands_still
  stands_faulted left some none_new more rose =
      let ends = stands_still left none_new more in
      (ends.0, ends.1, some, counted_risen entry.faults (fault_ends ran.done) now.faults left.faults ran.counted rose, ends.2)

module _ (entry now mid left : DiskView) (all : List ScriptSession) (session : ScriptSession) (rest : List ScriptSession) (held held_now held_then : Option (List ℕ)) (number next : ℕ)
    (ran : RanSoFar entry now all (session ∷ rest) held held_now number) (one : next ≡ number + 1)
    (none_new : NoNewImage now mid) (first : number ≡ 0 → mid.reads ≡ now.reads) (again : mid.starts ≡ (if number == 0 then now.starts else now.starts + 1)) (told : WhereTold mid now.may_leave) (so_far : now.faults ≤ mid.faults) (more : mid.faults ≤ left.faults) (tells : is_some mid.reads ≡ is_some entry.reads) where
  abbrev last : Option SessionRun
  last = last_run None ran.done

  given : GivenAfter entry last mid.reads
  given = given_after entry now mid ran.front ran.done number ran.many ran.reported ran.leaves (λ none. first none ∙ ran.fresh none) told

  started : mid.starts ≡ starts_after_run entry last
  started = started_after entry now mid ran.front ran.done number ran.many ran.reported ran.started again

  leaves : LeavesAfter entry last mid
  leaves = leaves_still entry now mid last ran.leaves none_new

  split_more : all ≡ (ran.front ++ session ∷ []) ++ rest
  split_more = ran.split ∙ sym (append_assoc ran.front (session ∷ []) rest)

  module _ (report : Report) (run : RanOn mid left next session report) where
    abbrev pub done : SessionDone
    done = record { run = run.run; report = report; closing = run.closing }

    reported_more : AreReported entry None 1 (ran.front ++ session ∷ []) (ran.done ++ done ∷ [])
    reported_more = one_more entry None 1 next ran.front ran.done session done (omega (arith, one, ran.many)) ran.reported (begun_on entry mid last run.run given tells started run.opened) (run.legal, run.cause)

    leaves_more : LeavesAfter entry (last_run None (ran.done ++ done ∷ [])) left
    leaves_more = subst (λ o. LeavesAfter entry o left) (sym (last_more None ran.done done)) run.images

    count_more : IsCounted entry.faults (fault_ends (ran.done ++ done ∷ [])) left.faults
    count_more = counted_more entry.faults now.faults mid.faults left.faults ran.done done ran.counted so_far more run.fault

    pub ran_more : Appends held_now held_then (text_of_report report) → RanSoFar entry left all rest held held_then next
    ran_more appended = record {
      front = ran.front ++ session ∷ [];
      done = ran.done ++ done ∷ [];
      split = split_more;
      reported = reported_more;
      leaves = leaves_more;
      started = run.started ∙ sym run.opened.started ∙ sym (ap (starts_of entry) (last_more None ran.done done));
      counted = count_more;
      appended = subst (Appends held held_then) (flat_map_more (λ (d : SessionDone). text_of_report d.report) [] ran.done done) (Appends-trans held held_now held_then _ _ ran.appended appended);
      many = omega (arith, one, ran.many, length-append ran.front (session ∷ []));
      fresh = λ none. absurd (omega (arith, one, none));
    }

    pub cut_off : AppendsFront held_now held_then (text_of_report report) → IsCutOff entry left all held held_then
    cut_off front = record {
      whole = ran.done;
      cut = done;
      stops = record { front = ran.front ++ session ∷ []; rest = rest; split = split_more; reported = reported_more; leaves = leaves_more; counted = count_more };
      n = front.0;
      front = front.1;
      appended = Appends-trans held held_now held_then _ _ ran.appended front.2;
    }

  count_still : IsCounted entry.faults (fault_ends ran.done) left.faults
  count_still = counted_later entry.faults (fault_ends ran.done) now.faults left.faults ran.counted (omega (arith, so_far, more))

  between : IsUnopened mid left → held_then ≡ held_now → EndsBetween entry left all held held_then
  between unopened same = (
    ran.done,
    record {
      front = ran.front;
      rest = session ∷ rest;
      split = ran.split;
      reported = ran.reported;
      leaves = unopened_leaves entry mid left last leaves given unopened;
      counted = count_still;
    },
    subst (λ h. Appends held h (texts_of ran.done)) (sym same) ran.appended,
  )

  within : StopsIn session mid left → held_then ≡ held_now → EndsWithin entry left all held held_then
  within stops same = (
    ran.done,
    record {
      front = ran.front;
      stopped = session;
      rest = rest;
      split = ran.split;
      reported = ran.reported;
      run = stops.run;
      begun = begun_on entry mid last stops.run given tells started stops.opened;
      made = stops.made;
      cause = stops.cause;
      images = stops.images;
      counted = counted_one entry.faults (fault_ends ran.done) now.faults mid.faults left.faults (report_end stops.run.end) ran.counted so_far more stops.fault;
    },
    subst (λ h. Appends held h (texts_of ran.done)) (sym same) ran.appended,
  )

  one_left : 1 ≤ length (session ∷ rest)
  one_left = omega arith

  -- the disk that came told what it holds, so this one tells it still
  damaged_so : (area_place : Area × ℕ) → WhereTold mid (λ areas. found areas ≡ Err area_place) → WhereTold entry (λ areas. found areas ≡ Err area_place)
  damaged_so damage here = came_damaged entry mid last damage given tells here

  pub have_stopped : (why : Stop) → StopsBy ((report : Report) × RanOn mid left next session report × AppendsFront held_now held_then (text_of_report report)) session why mid left
      → ((why ≡ stop.WriteFault → ⊥) → held_then ≡ held_now) → entry.faults ≤ mid.faults → EndsBy why entry left all held held_then
  unfolding between
  have_stopped stop.DiskFault stopped same since =
      let ends = between stopped.0 (same (λ e. absurd cc)) in
      let risen = counted_risen entry.faults (fault_ends ran.done) now.faults left.faults ran.counted (rose_since now.faults mid.faults left.faults so_far stopped.1) in
      ((ends.0, ends.1, one_left, risen, ends.2), rose_since entry.faults mid.faults left.faults since stopped.1)
  have_stopped (stop.Damaged area place) stopped same since = (
    (let ends = between stopped.0 (same (λ e. absurd cc)) in (ends.0, ends.1, one_left, ends.2)),
    omega (arith, ap length ran.split, length-append ran.front (session ∷ rest)),
    damaged_so (area, place) stopped.1,
  )
  have_stopped stop.WriteFault stopped same since = cut_off stopped.0 stopped.1 stopped.2
  have_stopped stop.NoMemory (inl unopened) same since = inl (between unopened (same (λ e. absurd cc)))
  have_stopped stop.NoMemory (inr stops) same since = inr (within stops (same (λ e. absurd cc)))
