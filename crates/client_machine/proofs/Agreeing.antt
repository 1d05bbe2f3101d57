-- A client's acts and the steps of the desk.
--     agrees_begins         nothing, before any step
--     made_joined           acts behind acts
--     agrees_own            a client's own acts behind a run
--     agrees_other          another client's
--     all_still             what failed, failed still behind a step more
use Rattle.std.proofs.Common.{◌≡◌, ◌≢◌, ℕ, ◌+◌, ◌≤◌, true, false, List, [], ◌∷◌, ◌++◌, length, take, filter, if◌then◌else◌, Option, Some, inl, inr, refl, sym, ◌∙◌, ap, subst, arith}
use Rattle.std.specs.Prelude.{◌==◌}
use Rattle.std.proofs.lemmas.Bool.Decides.{eqb_tells}
use Rattle.std.proofs.lemmas.List.{append_assoc, append-nil, length-append, take-append-le, take_all}
use Rattle.std.proofs.lemmas.List.Elements.{filter-append}
use Rattle.idb_keys.specs.declared.names.ErrorName.{ErrorName}
use Rattle.idb_schema.specs.Schemas.{SchemaData}
use Rattle.desk_steps.specs.declared.steps.DeskStep.{DeskStep}
use Rattle.idb_desk.specs.Desks.{DeskState}
use Rattle.idb_desk.specs.Refusals.{is_allowed, refusal_of_step}
use Rattle.idb_desk.specs.Steps.{DeskRun, after, after_all, new_desk, desk_run, with_step}
use Rattle.idb_desk.specs.Tokens.{client_of, is_some_client}
use Rattle.client_machine.specs.Acts.{Told, Act, Noted, Makes, Fails, Begins, TakesTurn}
use Rattle.client_machine.specs.Answering.{told_by, told_steps, is_own, own_told, made_in, part_run, FailsAt, AllFailed, Agrees, MadeAtOnce}

-- ---- nothing yet
pub agrees_begins : (client : ℕ) (opening : List SchemaData) → Agrees client (record { opening = opening; order = [] }) []
unfolding own_told
agrees_begins client opening = record { steps = refl; failed = tt }

-- ---- acts behind acts
pub made_joined : (client : ℕ) (r mid last : DeskRun) (acts more : List Act) → MadeAtOnce client r acts mid → MadeAtOnce client mid more last → MadeAtOnce client r (acts ++ more) last
made_joined client r mid last [] more m n = subst (λ at. MadeAtOnce client at more last) m n
made_joined client r mid last (Makes t told ∷ acts) more m n = (m.0, (m.1.0, made_joined client (with_step r t) mid last acts more m.1.1 n))
made_joined client r mid last (Fails t name ∷ acts) more m n = (m.0, (m.1.0, made_joined client r mid last acts more m.1.1 n))
made_joined client r mid last (Noted note ∷ acts) more m n = made_joined client r mid last acts more m n
made_joined client r mid last (Begins tx ∷ acts) more m n = made_joined client r mid last acts more m n
made_joined client r mid last (TakesTurn number notes ∷ acts) more m n = made_joined client r mid last acts more m n

made_both : (acts more : List Act) → made_in (acts ++ more) ≡ made_in acts ++ made_in more
made_both [] more = refl
made_both (Makes t told ∷ acts) more = ap (λ es. (t, told) ∷ es) (made_both acts more)
made_both (Fails t name ∷ acts) more = made_both acts more
made_both (Noted note ∷ acts) more = made_both acts more
made_both (Begins tx ∷ acts) more = made_both acts more
made_both (TakesTurn number notes ∷ acts) more = made_both acts more

-- ---- one step more
more_told : (d : DeskState) (order : List DeskStep) (t : DeskStep) → told_steps d (order ++ t ∷ []) ≡ told_steps d order ++ (t, told_by (after_all d order) t) ∷ []
more_told d [] t = refl
more_told d (u ∷ order) t = ap (λ es. (u, told_by d u) ∷ es) (more_told (after d u) order t)

told_more : (client : ℕ) (r : DeskRun) (t : DeskStep) → own_told client (with_step r t) ≡ own_told client r ++ filter (is_own client) ((t, told_by (desk_run r) t) ∷ [])
unfolding desk_run own_told
told_more client r t = ap (filter (is_own client)) (more_told (new_desk r.opening) r.order t) ∙ filter-append (is_own client) (told_steps (new_desk r.opening) r.order) ((t, told_by (desk_run r) t) ∷ [])

same_client : (client : ℕ) → is_some_client client (Some client) ≡ true
same_client client = itself client
  where
    itself : (n : ℕ) → (n == n) ≡ true
    itself n = elim (eqb_tells n n) [ inl p ↦ p.0 | inr p ↦ absurd (p.1 refl) ]

own_more : (client : ℕ) (r : DeskRun) (t : DeskStep) → client_of t ≡ Some client → own_told client (with_step r t) ≡ own_told client r ++ (t, told_by (desk_run r) t) ∷ []
own_more client r t is = told_more client r t ∙ ap (λ b. own_told client r ++ (if b then (t, told_by (desk_run r) t) ∷ [] else [])) (ap (is_some_client client) is ∙ same_client client)

other_client : (client other : ℕ) → other ≢ client → is_some_client other (Some client) ≡ false
other_client client other apart = elim (eqb_tells client other) [ inl p ↦ absurd (apart (sym p.1)) | inr p ↦ p.0 ]

other_more : (client other : ℕ) (r : DeskRun) (t : DeskStep) → other ≢ client → client_of t ≡ Some client → own_told other (with_step r t) ≡ own_told other r
other_more client other r t apart is = told_more other r t
    ∙ ap (λ b. own_told other r ++ (if b then (t, told_by (desk_run r) t) ∷ [] else [])) (ap (is_some_client other) is ∙ other_client client other apart)
    ∙ append-nil (own_told other r)

-- ---- what failed, failed still
take_front : {X : Type 0} (n : ℕ) (xs : List X) (x : X) → n ≤ length xs → take n (xs ++ x ∷ []) ≡ take n xs
take_front n xs x le = take-append-le n xs (x ∷ []) le

abbrev fails_still : (client : ℕ) (r : DeskRun) (u : DeskStep) (n : ℕ) (t : DeskStep) (name : Option ErrorName) → FailsAt client r n t name → FailsAt client (with_step r u) n t name
fails_still client r u n t name f =
    let same : part_run (with_step r u) f.place ≡ part_run r f.place = ap (λ order. record { opening = r.opening; order = order }) (take_front f.place r.order u f.within) in
    record {
      place = f.place;
      within = (let longer = length-append r.order (u ∷ []) in let le = f.within in omega arith);
      behind = ap (λ q. length (own_told client q)) same ∙ f.behind;
      not_taken = ap (λ q. is_allowed (desk_run q) t) same ∙ f.not_taken;
      named = f.named ∙ sym (ap (λ q. refusal_of_step (desk_run q) t) same);
    }

pub all_still : (client : ℕ) (r : DeskRun) (u : DeskStep) (least n : ℕ) (acts : List Act) → AllFailed client r least n acts → AllFailed client (with_step r u) least n acts
all_still client r u least n [] f = tt
all_still client r u least n (Makes t told ∷ acts) f = all_still client r u least (n + 1) acts f
all_still client r u least n (Fails t name ∷ acts) f = (fails_still client r u n t name f.0, (f.1.0, all_still client r u f.0.place n acts f.1.1))
all_still client r u least n (Noted note ∷ acts) f = all_still client r u least n acts f
all_still client r u least n (Begins tx ∷ acts) f = all_still client r u least n acts f
all_still client r u least n (TakesTurn number notes ∷ acts) f = all_still client r u least n acts f

-- ---- acts behind those that failed
abbrev FailBehind : ℕ → DeskRun → ℕ → List Act → Type 0
FailBehind client r n more = (least : ℕ) → least ≤ length r.order → AllFailed client r least n more

failed_both : (client : ℕ) (r : DeskRun) (least n : ℕ) (acts more : List Act) → least ≤ length r.order → AllFailed client r least n acts → FailBehind client r (n + length (made_in acts)) more → AllFailed client r least n (acts ++ more)
failed_both client r least n [] more le f g = subst (λ m. AllFailed client r least m more) (let e : n + 0 ≡ n = omega arith in e) (g least le)
failed_both client r least n (Makes t told ∷ acts) more le f g =
    failed_both client r least (n + 1) acts more le f (subst (λ m. FailBehind client r m more) (let e : n + length ((t, told) ∷ made_in acts) ≡ (n + 1) + length (made_in acts) = omega arith in e) g)
failed_both client r least n (Fails t name ∷ acts) more le f g = (f.0, (f.1.0, failed_both client r f.0.place n acts more f.0.within f.1.1 g))
failed_both client r least n (Noted note ∷ acts) more le f g = failed_both client r least n acts more le f g
failed_both client r least n (Begins tx ∷ acts) more le f g = failed_both client r least n acts more le f g
failed_both client r least n (TakesTurn number notes ∷ acts) more le f g = failed_both client r least n acts more le f g

-- ---- a client's own acts
whole_part : (r : DeskRun) → part_run r (length r.order) ≡ r
whole_part r = ap (λ order. record { opening = r.opening; order = order }) (take_all (length r.order) r.order (omega arith))

fails_here : (client : ℕ) (r : DeskRun) (t : DeskStep) (name : Option ErrorName) → is_allowed (desk_run r) t ≡ false → name ≡ refusal_of_step (desk_run r) t → FailBehind client r (length (own_told client r)) (Fails t name ∷ [])
fails_here client r t name not_taken named least le =
    let same = whole_part r in (
      record {
        place = length r.order;
        within = omega arith;
        behind = ap (λ q. length (own_told client q)) same;
        not_taken = ap (λ q. is_allowed (desk_run q) t) same ∙ not_taken;
        named = named ∙ sym (ap (λ q. refusal_of_step (desk_run q) t) same);
      },
      (le, tt),
    )

agrees_made : (client : ℕ) (r : DeskRun) (acts : List Act) (t : DeskStep) (told : Told) → client_of t ≡ Some client → told ≡ told_by (desk_run r) t → Agrees client r acts → Agrees client (with_step r t) (acts ++ Makes t told ∷ [])
agrees_made client r acts t told is as_told a = record {
  steps = made_both acts (Makes t told ∷ []) ∙ ap (λ es. es ++ (t, told) ∷ []) a.steps ∙ ap (λ x. own_told client r ++ (t, x) ∷ []) as_told ∙ sym (own_more client r t is);
  failed = failed_both client (with_step r t) 0 0 acts (Makes t told ∷ []) (omega arith) (all_still client r t 0 0 acts a.failed) (λ least le. tt);
}

agrees_failed : (client : ℕ) (r : DeskRun) (acts : List Act) (t : DeskStep) (name : Option ErrorName) → is_allowed (desk_run r) t ≡ false → name ≡ refusal_of_step (desk_run r) t → Agrees client r acts → Agrees client r (acts ++ Fails t name ∷ [])
agrees_failed client r acts t name not_taken named a = record {
  steps = made_both acts (Fails t name ∷ []) ∙ append-nil (made_in acts) ∙ a.steps;
  failed = failed_both client r 0 0 acts (Fails t name ∷ []) (omega arith) a.failed
      (subst (λ n. FailBehind client r n (Fails t name ∷ [])) (let same : length (made_in acts) ≡ length (own_told client r) = ap length a.steps in let e : length (own_told client r) ≡ 0 + length (made_in acts) = omega arith in e) (fails_here client r t name not_taken named));
}

agrees_quiet : (client : ℕ) (r : DeskRun) (acts : List Act) (quiet : Act) → made_in (quiet ∷ []) ≡ [] → ((n : ℕ) → FailBehind client r n (quiet ∷ [])) → Agrees client r acts → Agrees client r (acts ++ quiet ∷ [])
agrees_quiet client r acts quiet none still a = record {
  steps = made_both acts (quiet ∷ []) ∙ ap (λ es. made_in acts ++ es) none ∙ append-nil (made_in acts) ∙ a.steps;
  failed = failed_both client r 0 0 acts (quiet ∷ []) (omega arith) a.failed (still (0 + length (made_in acts)));
}

behind : (client : ℕ) (last : DeskRun) (acts : List Act) (act : Act) (more : List Act) → Agrees client last ((acts ++ act ∷ []) ++ more) → Agrees client last (acts ++ act ∷ more)
behind client last acts act more = subst (Agrees client last) (append_assoc acts (act ∷ []) more)

pub agrees_own : (client : ℕ) (r last : DeskRun) (acts more : List Act) → Agrees client r acts → MadeAtOnce client r more last → Agrees client last (acts ++ more)
agrees_own client r last acts [] a m = subst (λ q. Agrees client q (acts ++ [])) (sym m) (subst (Agrees client r) (sym (append-nil acts)) a)
agrees_own client r last acts (Makes t told ∷ more) a m = behind client last acts (Makes t told) more (agrees_own client (with_step r t) last (acts ++ Makes t told ∷ []) more (agrees_made client r acts t told m.0 m.1.0 a) m.1.1)
agrees_own client r last acts (Fails t name ∷ more) a m = behind client last acts (Fails t name) more (agrees_own client r last (acts ++ Fails t name ∷ []) more (agrees_failed client r acts t name m.0 m.1.0 a) m.1.1)
agrees_own client r last acts (Noted note ∷ more) a m = behind client last acts (Noted note) more (agrees_own client r last (acts ++ Noted note ∷ []) more (agrees_quiet client r acts (Noted note) refl (λ n least le. tt) a) m)
agrees_own client r last acts (Begins tx ∷ more) a m = behind client last acts (Begins tx) more (agrees_own client r last (acts ++ Begins tx ∷ []) more (agrees_quiet client r acts (Begins tx) refl (λ n least le. tt) a) m)
agrees_own client r last acts (TakesTurn number notes ∷ more) a m = behind client last acts (TakesTurn number notes) more (agrees_own client r last (acts ++ TakesTurn number notes ∷ []) more (agrees_quiet client r acts (TakesTurn number notes) refl (λ n least le. tt) a) m)

-- ---- another client's
pub agrees_other : (client other : ℕ) (r last : DeskRun) (acts more : List Act) → other ≢ client → Agrees other r acts → MadeAtOnce client r more last → Agrees other last acts
agrees_other client other r last acts [] apart a m = subst (λ q. Agrees other q acts) (sym m) a
agrees_other client other r last acts (Makes t told ∷ more) apart a m =
    agrees_other client other (with_step r t) last acts more apart (record { steps = a.steps ∙ sym (other_more client other r t apart m.0); failed = all_still other r t 0 0 acts a.failed }) m.1.1
agrees_other client other r last acts (Fails t name ∷ more) apart a m = agrees_other client other r last acts more apart a m.1.1
agrees_other client other r last acts (Noted note ∷ more) apart a m = agrees_other client other r last acts more apart a m
agrees_other client other r last acts (Begins tx ∷ more) apart a m = agrees_other client other r last acts more apart a m
agrees_other client other r last acts (TakesTurn number notes ∷ more) apart a m = agrees_other client other r last acts more apart a m
