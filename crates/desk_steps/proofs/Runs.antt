-- Runs with one step more.
use Rattle.std.proofs.Common.{◌≡◌, ◌∙◌, ◌≤◌, true, List, [], ◌∷◌, ◌++◌, refl, ap, sym, subst, arith}
use Rattle.std.specs.Prelude.{Result, Ok, Err, OnOk, OnErr}
use Rattle.desk_steps.specs.DeskRoom.{owed_steps}
use Rattle.idb_schema.specs.Schemas.{SchemaData}
use Rattle.desk_steps.specs.declared.steps.DeskStep.{DeskStep}
use Rattle.desk_steps.specs.Desks.{DeskState}
use Rattle.desk_steps.specs.Refusals.{is_allowed}
use Rattle.desk_steps.specs.Steps.{after, after_all, new_desk, DeskRun, desk_run, with_step, AreAllowed, IsDeskRun}

all_snoc : (d : DeskState) (ts : List DeskStep) (t : DeskStep) → after_all d (ts ++ t ∷ []) ≡ after (after_all d ts) t
all_snoc d [] t = refl
all_snoc d (s ∷ ss) t = all_snoc (after d s) ss t

allowed_snoc : (d : DeskState) (ts : List DeskStep) (t : DeskStep) → AreAllowed d ts → is_allowed (after_all d ts) t ≡ true → AreAllowed d (ts ++ t ∷ [])
allowed_snoc d [] t h k = (k, tt)
allowed_snoc d (s ∷ ss) t h k = (h.0, allowed_snoc (after d s) ss t h.1 k)

pub run_snoc : (r : DeskRun) (t : DeskStep) → desk_run (with_step r t) ≡ after (desk_run r) t
unfolding desk_run
run_snoc r t = all_snoc (new_desk r.opening) r.order t

pub is_run_snoc : (r : DeskRun) (t : DeskStep) → IsDeskRun r → is_allowed (desk_run r) t ≡ true → IsDeskRun (with_step r t)
unfolding desk_run IsDeskRun
is_run_snoc r t h k = allowed_snoc (new_desk r.opening) r.order t h k

pub run_start : (schemas : List SchemaData) → desk_run (record { opening = schemas; order = [] }) ≡ new_desk schemas
unfolding desk_run
run_start schemas = refl

pub is_run_start : (schemas : List SchemaData) → IsDeskRun (record { opening = schemas; order = [] })
unfolding IsDeskRun
is_run_start schemas = tt

-- the parts are those of the run that is one step longer
pub longer : (r : DeskRun) (order : List DeskStep) (t : DeskStep) (d e : DeskState) → d ≡ desk_run r → IsDeskRun r → order ≡ r.order ++ t ∷ [] → e ≡ after d t → is_allowed (desk_run r) t ≡ true → (e ≡ desk_run (record { opening = r.opening; order = order })) × IsDeskRun (record { opening = r.opening; order = order })
longer r order t d e h k m a y =
    let same : with_step r t ≡ record { opening = r.opening; order = order } = λ i. record { opening = r.opening; order = sym m i } in
    (a ∙ ap (λ x. after x t) h ∙ sym (run_snoc r t) ∙ ap desk_run same, subst IsDeskRun same (is_run_snoc r t k y))

-- and stay where nothing was made
pub stays : (r : DeskRun) (order : List DeskStep) (d e : DeskState) → d ≡ desk_run r → IsDeskRun r → order ≡ r.order → e ≡ d → (e ≡ desk_run (record { opening = r.opening; order = order })) × IsDeskRun (record { opening = r.opening; order = order })
stays r order d e h k m a =
    let same : r ≡ record { opening = r.opening; order = order } = λ i. record { opening = r.opening; order = sym m i } in
    (a ∙ h ∙ ap desk_run same, subst IsDeskRun same k)

-- a desk with no step
pub starts : (schemas opening : List SchemaData) (order : List DeskStep) (d : DeskState) → opening ≡ schemas → order ≡ [] → d ≡ new_desk schemas → (d ≡ desk_run (record { opening = opening; order = order })) × IsDeskRun (record { opening = opening; order = order }) × (owed_steps d ≤ 1)
starts schemas opening order d e f q =
    let same : record { opening = schemas; order = [] } ≡ record { opening = opening; order = order } = λ i. record { opening = sym e i; order = sym f i } in
    (q ∙ sym (run_start schemas) ∙ ap desk_run same, subst IsDeskRun same (is_run_start schemas), subst (λ (x : DeskState). owed_steps x ≤ 1) (sym q) (omega arith))

-- either of both
pub goes_on : {T E : Type 0} (q : Result T E) (r : DeskRun) (order : List DeskStep) (t : DeskStep) (d e : DeskState) → d ≡ desk_run r → IsDeskRun r → is_allowed (desk_run r) t ≡ true → OnOk q (order ≡ r.order ++ t ∷ []) → OnErr q (order ≡ r.order) → OnOk q (e ≡ after d t) → OnErr q (e ≡ d) → (e ≡ desk_run (record { opening = r.opening; order = order })) × IsDeskRun (record { opening = r.opening; order = order })
goes_on (Ok x) r order t d e h k y m n a b = longer r order t d e h k m a y
goes_on (Err x) r order t d e h k y m n a b = stays r order d e h k n b
