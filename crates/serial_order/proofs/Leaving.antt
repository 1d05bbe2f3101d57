-- What a transaction leaves is in its scope.
--     kept_none             one that was not started leaves nothing
--     kept_within           what one leaves is in its scope
use Rattle.std.proofs.Common.{◌≡◌, Bool, true, false, ◌&&◌, if◌then◌else◌, cond, List, [], ◌∷◌, ◌++◌, Option, Some, None, inl, inr, refl, sym, ◌∙◌, ap, subst}
use Rattle.std.specs.Bool.{MatchBool}
use Rattle.std.specs.FinMap as finite
use Rattle.std.specs.Cmp.{tied_itself}
use Rattle.std.proofs.lemmas.Bool.{cases_Bool}
use Rattle.std.proofs.lemmas.Grind.{flat_map-append}
use Rattle.std.proofs.lemmas.List.{append-nil}
use Rattle.std.specs.Ordering.{is_eq}
use Rattle.idb_keys.specs.declared.names.Mode.{Mode}
use Rattle.idb_keys.specs.declared.names.Mode.TheVariants as mode
use Rattle.idb_schema.specs.Schemas.{SchemaData}
use Rattle.idb_calls.specs.Deltas.{DeltaTree, DropDatabase}
use Rattle.idb_calls.specs.declared.traces.Outcome.{Outcome}
use Rattle.idb_calls.specs.declared.traces.Outcome.TheVariants.{Committed, Aborted}
use Rattle.object_stores.specs.Store.{Store}
use Rattle.item_changes.specs.Items.{Name, name_cmp, Database, Items, is_same_name, stores_in}
use Rattle.item_changes.specs.Scopes.{Scope, Reads, Writes as Writing, Whole, access_of, is_among, AllWithin, seen_by, part_of}
use Rattle.item_changes.proofs.Laws.{names_total, one_name}
use Rattle.request_lists.specs.Fronts.{new_front, is_upgrade_mode}
use Rattle.request_lists.specs.Placing.{Becomes, after_rest, after_throw}
use Rattle.machine_laws.specs.States.{State, fresh_state}
use Rattle.machine_laws.specs.Machine.{Reacts, Writes, GoesOn, Begins, Goes}
use Rattle.machine_laws.proofs.Laws.{both_true, scope_fresh, goes_scope, scope_made, goes_in_scope}
use Rattle.machine_laws.specs.Limiting.{scope_in, StaysInScope}
use Rattle.serial_order.specs.FinishEntries.{ScriptedBody, TxBody, Scripted, Deletion, FinishEntry, front_left, scope_of_body, scope_of_entry, did_commit, changes_kept}
use Rattle.serial_order.specs.SerialRuns.{joined_lines, GoesBy, Fresh, Further, RunsOut, RunsTo, DeletionRun, RunsOn, NeverStarts, RunsAlone}

-- ---- nothing
pub kept_or_not : (b : Bool) (changes : List DeltaTree) → changes ≡ [] → (if b then changes else []) ≡ []
kept_or_not true changes e = e
kept_or_not false changes e = refl

pub never_starts : {D L : Type 0} (reacts : Reacts D) (writes : Writes D L) (items : Items) (e : FinishEntry D L) → e.started ≡ false → RunsAlone reacts writes items e → NeverStarts reacts writes e.body e.turns e.changes e.kept e.by_host e.outcome
never_starts reacts writes items e is r = subst (λ b. MatchBool b (RunsOn reacts writes (part_of (scope_of_entry e) items) e.body e.turns e.changes e.kept e.by_host e.outcome) (NeverStarts reacts writes e.body e.turns e.changes e.kept e.by_host e.outcome)) is r

pub runs_on : {D L : Type 0} (reacts : Reacts D) (writes : Writes D L) (items : Items) (e : FinishEntry D L) → e.started ≡ true → RunsAlone reacts writes items e → RunsOn reacts writes (part_of (scope_of_entry e) items) e.body e.turns e.changes e.kept e.by_host e.outcome
runs_on reacts writes items e is r = subst (λ b. MatchBool b (RunsOn reacts writes (part_of (scope_of_entry e) items) e.body e.turns e.changes e.kept e.by_host e.outcome) (NeverStarts reacts writes e.body e.turns e.changes e.kept e.by_host e.outcome)) is r

pub kept_none : {D L : Type 0} (reacts : Reacts D) (writes : Writes D L) (items : Items) (e : FinishEntry D L) → e.started ≡ false → RunsAlone reacts writes items e → changes_kept e ≡ []
kept_none reacts writes items e is r = kept_or_not (did_commit e.outcome) e.changes (never_starts reacts writes items e is r).nothing

-- ---- the stores of the part
left_out : (names : List Name) (d : Database) (name : Name) → is_among names name ≡ false → finite.get (finite.retain_keys d.stores (is_among names)) name ≡ None
left_out names d name out = finite.get-retain_keys d.stores (is_among names) name (λ x e. ap (is_among names) (sym (one_name name x e))) ∙ ap (λ b. cond b (finite.get d.stores name) None) out

named_among : (names : List Name) (there : Option Database) (name : Name) (x : Store) → finite.get (stores_in (seen_by (Reads names) there)) name ≡ Some x → is_among names name ≡ true
named_among names None name x at = let no : None ≡ Some x = sym (finite.get-empty name_cmp name) ∙ at in cc
named_among names (Some d) name x at = elim (cases_Bool (is_among names name)) [
  | inl is ↦ is
  | inr out ↦ let no : None ≡ Some x = sym (left_out names d name out) ∙ at in cc
]

seen_either : (names : List Name) (there : Option Database) → seen_by (Writing names) there ≡ seen_by (Reads names) there
seen_either names None = refl
seen_either names (Some d) = refl

named : (m : Mode) (names : List Name) (db : Name) (items : Items) → is_upgrade_mode m ≡ false → (name : Name) (x : Store)
    → finite.get (stores_in (part_of (record { database = db; access = access_of m names }) items)) name ≡ Some x → is_among names name ≡ true
named mode.ReadOnly names db items not_up name x at = named_among names (finite.get items db) name x at
named mode.ReadWrite names db items not_up name x at = named_among names (finite.get items db) name x (ap (λ o. finite.get (stores_in o) name) (sym (seen_either names (finite.get items db))) ∙ at)
named mode.VersionChange names db items not_up name x at = cc

-- ---- turns
one_more : {L : Type 0} (turns : List (List L)) (lines : List L) → joined_lines (turns ++ lines ∷ []) ≡ joined_lines turns ++ lines
one_more turns lines = flat_map-append (λ ls. ls) turns (lines ∷ []) ∙ ap (λ more. joined_lines turns ++ more) (append-nil lines)

pub goes_on : {D L : Type 0} (reacts : Reacts D) (writes : Writes D L) (old new : State D) (turns : List (List L)) → GoesBy reacts writes old new turns → GoesOn reacts writes old new (joined_lines turns)
goes_on reacts writes old _ _ Fresh = Begins
goes_on reacts writes old _ _ (Further mid last turns lines by t) = subst (GoesOn reacts writes old last) (sym (one_more turns lines)) (Goes mid last (joined_lines turns) lines (goes_on reacts writes old mid turns by) t)

-- ---- a body
module _ {D L : Type 0} (reacts : Reacts D) (writes : Writes D L) (items : Items) (body : ScriptedBody D) (made : Becomes (new_front body.mode body.schema body.names) body.front) where
  abbrev its : Scope
  its = scope_of_body (Scripted body)

  abbrev begun : State D
  begun = fresh_state (front_left body) body.schema (part_of its items)

  begun_within : StaysInScope begun × (scope_in begun ≡ its)
  begun_within =
      let fresh = scope_fresh body.mode body.schema body.names (part_of its items) (named body.mode body.names body.schema.name items) body.front made in
      let same = scope_made body.mode body.schema body.names (part_of its items) body.front made in
      elim body.threw as (λ b. StaysInScope (fresh_state (if b then after_throw body.front else after_rest body.front) body.schema (part_of its items)) × (scope_in (fresh_state (if b then after_throw body.front else after_rest body.front) body.schema (part_of its items)) ≡ its)) [
        | true ↦ (fresh.1, same.1)
        | false ↦ (fresh.0, same.0)
      ]

  goes_within : (mid : State D) (turns : List (List L)) → GoesBy reacts writes begun mid turns → AllWithin its mid.changes
  goes_within mid turns by =
      let b = begun_within in
      let goes = goes_on reacts writes begun mid turns by in
      subst (λ s. AllWithin s mid.changes) (goes_in_scope reacts writes begun mid (joined_lines turns) goes ∙ b.1) (goes_scope reacts writes begun mid (joined_lines turns) goes b.0).changes

  pub run_out_within : (turns : List (List L)) (changes : List DeltaTree) → RunsOut reacts writes begun turns changes → AllWithin its changes
  run_out_within turns changes out = subst (AllWithin its) (sym out.changed) (goes_within out.new turns out.goes)

  pub body_within : (turns : List (List L)) (changes : List DeltaTree) (kept : Option SchemaData) (by_host : Bool) (outcome : Outcome) → RunsTo reacts writes begun turns changes kept by_host outcome → AllWithin its changes
  body_within turns changes kept by_host Committed r = run_out_within turns changes r.1.out
  body_within turns changes kept by_host (Aborted error true) r = run_out_within turns changes r.2.out
  body_within turns changes kept true (Aborted error false) r = subst (AllWithin its) (sym r.1.nothing) tt
  body_within turns changes kept false (Aborted error false) r = subst (AllWithin its) (sym r.1.nothing) tt

-- ---- a deletion
is_name_itself : (name : Name) → is_same_name name name ≡ true
is_name_itself name = ap is_eq (tied_itself names_total name)

drop_within : (name : Name) (changes : List DeltaTree) → changes ≡ DropDatabase name ∷ [] → AllWithin (record { database = name; access = Whole }) changes
drop_within name changes e = subst (AllWithin (record { database = name; access = Whole })) (sym e) (within_whole name, tt)
  where
    within_whole : (name : Name) → (is_same_name name name && true) ≡ true
    within_whole name = both_true _ _ (is_name_itself name) refl

deletion_within : (name : Name) (changes : List DeltaTree) (by_host : Bool) (outcome : Outcome) → DeletionRun name changes by_host outcome → AllWithin (record { database = name; access = Whole }) changes
deletion_within name changes by_host Committed r = drop_within name changes r.1
deletion_within name changes by_host (Aborted error true) r = drop_within name changes r.2
deletion_within name changes by_host (Aborted error false) r = subst (AllWithin (record { database = name; access = Whole })) (sym r.2) tt

-- ---- a transaction
run_within : {D L : Type 0} (reacts : Reacts D) (writes : Writes D L) (items : Items) (body : TxBody D) (turns : List (List L)) (changes : List DeltaTree) (kept : Option SchemaData) (by_host : Bool) (outcome : Outcome)
    → RunsOn reacts writes (part_of (scope_of_body body) items) body turns changes kept by_host outcome → AllWithin (scope_of_body body) changes
run_within reacts writes items (Scripted body) turns changes kept by_host outcome r = body_within reacts writes items body r.placed turns changes kept by_host outcome r.runs
run_within reacts writes items (Deletion name) turns changes kept by_host outcome r = deletion_within name changes by_host outcome r.2

kept_in : (its : Scope) (b : Bool) (changes : List DeltaTree) → AllWithin its changes → AllWithin its (if b then changes else [])
kept_in its true changes w = w
kept_in its false changes w = tt

pub kept_within : {D L : Type 0} (reacts : Reacts D) (writes : Writes D L) (items : Items) (e : FinishEntry D L) → RunsAlone reacts writes items e → AllWithin (scope_of_entry e) (changes_kept e)
kept_within reacts writes items e r = elim (cases_Bool e.started) [
  | inl is ↦ kept_in (scope_of_entry e) (did_commit e.outcome) e.changes (run_within reacts writes items e.body e.turns e.changes e.kept e.by_host e.outcome (runs_on reacts writes items e is r))
  | inr out ↦ subst (AllWithin (scope_of_entry e)) (sym (kept_none reacts writes items e out r)) tt
]
