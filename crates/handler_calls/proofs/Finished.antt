-- No call changes a front that is finished.
--     call_blocked, change_blocked     no call is taken of a front that isn't active
--     becomes_finished      so a finished front stays as it is
use Rattle.std.proofs.Common.{◌≡◌, ℤ, Bool, true, false, not, if◌then◌else◌, Option, Some, None, option_map, refl, subst}
use Rattle.std.specs.Option.{option_or}
use Rattle.clone_values.specs.Tree.{Tree}
use Rattle.clone_values.specs.View.{tree_of}
use Rattle.idb_keys.specs.declared.names.ErrorName.{ErrorName}
use Rattle.idb_keys.specs.declared.names.ErrorName.TheVariants.{InvalidStateError, TransactionInactiveError, TypeError}
use Rattle.idb_schema.specs.declared.calls.SchemaCall.{SchemaCall}
use Rattle.idb_schema.specs.declared.definitions.StoreInfo.{StoreInfo}
use Rattle.idb_schema.specs.Schemas.{store_of}
use Rattle.version_upgrade.specs.Upgrades.{refusal_of_schema}
use Rattle.idb_calls.specs.declared.calls.Call.{Call}
use Rattle.idb_calls.specs.declared.calls.Call.TheVariants.{Add, Put, Get, GetKey, Count, GetAll, GetAllKeys, Delete, Clear, OpenCursor, OpenKeyCursor, Continue, ContinuePrimaryKey, Advance, Update, DeleteHere}
use Rattle.idb_calls.specs.declared.calls.Target.{Target}
use Rattle.query_ranges.specs.Queries.{Wanted, wanted}
use Rattle.request_lists.specs.declared.entries.Phase.{Phase}
use Rattle.request_lists.specs.declared.entries.Phase.TheVariants as phase
use Rattle.request_lists.specs.declared.entries.FrontCursor.{FrontCursor}
use Rattle.request_lists.specs.Fronts.{Front, is_active, is_active_phase, is_committing, is_finished, is_finished_phase, is_upgrade, is_deleted, is_store_deleted, cursor_of}
use Rattle.request_lists.specs.Placing.{Becomes, Stays, Places, Changes, Commits, Aborts}
use Rattle.request_lists.specs.Refusals.{is_count_refused, is_step, is_store_gone, refusal_of, refusal_at, refusal_of_change, refusal_of_commit, refusal_of_abort, refusal_of_continue, refusal_of_continue_primary, refusal_of_advance, refusal_of_update, refusal_of_change_here, refusal_of_storing, refusal_of_reading, refusal_of_listing}

-- ---- causes that hold
-- the first, the second or the third
blocked : (b : Bool) (n : ErrorName) (o : Option ErrorName) → b ≡ true → (if b then Some n else o) ≡ None → ⊥
blocked true n o h e = cc
blocked false n o h e = cc

blocked_next : (a : Bool) (m : ErrorName) (b : Bool) (n : ErrorName) (o : Option ErrorName) → b ≡ true → (if a then Some m else (if b then Some n else o)) ≡ None → ⊥
blocked_next true m b n o h e = cc
blocked_next false m b n o h e = blocked b n o h e

blocked_third : (a : Bool) (l : ErrorName) (b : Bool) (m : ErrorName) (c : Bool) (n : ErrorName) (o : Option ErrorName) → c ≡ true → (if a then Some l else (if b then Some m else (if c then Some n else o))) ≡ None → ⊥
blocked_third true l b m c n o h e = cc
blocked_third false l b m c n o h e = blocked_next b m c n o h e

inactive : (b : Bool) → b ≡ false → not b ≡ true
inactive true h = cc
inactive false h = refl

or_blocked : (o p : Option ErrorName) → (o ≡ None → ⊥) → option_or o p ≡ None → ⊥
or_blocked None p f e = f refl
or_blocked (Some n) p f e = cc

count_blocked : (b : Bool) (o : Option ErrorName) → (o ≡ None → ⊥) → (if b then Some TypeError else o) ≡ None → ⊥
count_blocked true o f e = cc
count_blocked false o f e = f e

module _ {D : Type 0} (front : Front D) (rests : is_active front ≡ false) where
  storing_blocked : (info : Option StoreInfo) (value : Tree) (key : Option Tree) → refusal_of_storing front info value key ≡ None → ⊥
  storing_blocked None value key e = cc
  storing_blocked (Some info) value key e = blocked (not (is_active front)) TransactionInactiveError _ (inactive (is_active front) rests) e

  reading_blocked : (target : Target) (must : Bool) (query : Wanted) → refusal_of_reading front target must query ≡ None → ⊥
  reading_blocked target must query e = blocked_next (is_deleted front.schema target) InvalidStateError (not (is_active front)) TransactionInactiveError _ (inactive (is_active front) rests) e

  listing_blocked : (target : Target) (query : Wanted) (count : Option ℤ) → refusal_of_listing front target query count ≡ None → ⊥
  listing_blocked target query count e = count_blocked (is_count_refused count) (refusal_of_reading front target false query) (reading_blocked target false query) e

  at_blocked : (o : Option (FrontCursor D)) (refusal : FrontCursor D → Option ErrorName) → ((c : FrontCursor D) → refusal c ≡ None → ⊥) → refusal_at o refusal ≡ None → ⊥
  at_blocked None refusal f e = cc
  at_blocked (Some c) refusal f e = f c e

  here_blocked : (c : FrontCursor D) → refusal_of_change_here front c ≡ None → ⊥
  here_blocked c e = blocked (not (is_active front)) TransactionInactiveError _ (inactive (is_active front) rests) e

  continue_blocked : (key : Option Tree) (c : FrontCursor D) → refusal_of_continue front key c ≡ None → ⊥
  continue_blocked key c e = blocked (not (is_active front)) TransactionInactiveError _ (inactive (is_active front) rests) e

  primary_blocked : (key primary : Tree) (c : FrontCursor D) → refusal_of_continue_primary front key primary c ≡ None → ⊥
  primary_blocked key primary c e = blocked (not (is_active front)) TransactionInactiveError _ (inactive (is_active front) rests) e

  advance_blocked : (count : ℤ) (c : FrontCursor D) → refusal_of_advance front count c ≡ None → ⊥
  advance_blocked count c e = blocked_next (not (is_step count)) TypeError (not (is_active front)) TransactionInactiveError _ (inactive (is_active front) rests) e

  update_blocked : (value : Tree) (c : FrontCursor D) → refusal_of_update front value c ≡ None → ⊥
  update_blocked value c e = or_blocked (refusal_of_change_here front c) _ (here_blocked c) e

  pub call_blocked : (call : Call) → refusal_of call front ≡ None → ⊥
  call_blocked (Add store value key) e = storing_blocked (store_of front.schema store) (tree_of value) (option_map tree_of key) e
  call_blocked (Put store value key) e = storing_blocked (store_of front.schema store) (tree_of value) (option_map tree_of key) e
  call_blocked (Get target query) e = reading_blocked target true (wanted query) e
  call_blocked (GetKey target query) e = reading_blocked target true (wanted query) e
  call_blocked (Count target query) e = reading_blocked target false (wanted query) e
  call_blocked (GetAll target query count) e = listing_blocked target (wanted query) count e
  call_blocked (GetAllKeys target query count) e = listing_blocked target (wanted query) count e
  call_blocked (Delete store query) e = blocked_next (is_store_deleted front.schema store) InvalidStateError (not (is_active front)) TransactionInactiveError _ (inactive (is_active front) rests) e
  call_blocked (Clear store) e = blocked_next (is_store_deleted front.schema store) InvalidStateError (not (is_active front)) TransactionInactiveError _ (inactive (is_active front) rests) e
  call_blocked (OpenCursor target query direction) e = reading_blocked target false (wanted query) e
  call_blocked (OpenKeyCursor target query direction) e = reading_blocked target false (wanted query) e
  call_blocked (Continue cursor key) e = at_blocked (cursor_of front cursor) (refusal_of_continue front (option_map tree_of key)) (continue_blocked (option_map tree_of key)) e
  call_blocked (ContinuePrimaryKey cursor key primary) e = at_blocked (cursor_of front cursor) (refusal_of_continue_primary front (tree_of key) (tree_of primary)) (primary_blocked (tree_of key) (tree_of primary)) e
  call_blocked (Advance cursor count) e = at_blocked (cursor_of front cursor) (refusal_of_advance front count) (advance_blocked count) e
  call_blocked (Update cursor value) e = at_blocked (cursor_of front cursor) (refusal_of_update front (tree_of value)) (update_blocked (tree_of value)) e
  call_blocked (DeleteHere cursor) e = at_blocked (cursor_of front cursor) (refusal_of_change_here front) here_blocked e

  pub change_blocked : (call : SchemaCall) → refusal_of_change call front ≡ None → ⊥
  change_blocked call e = or_blocked _ (refusal_of_schema front.schema call)
      (blocked_third (not (is_upgrade front)) InvalidStateError (is_store_gone front.schema call) InvalidStateError (not (is_active front)) TransactionInactiveError None (inactive (is_active front) rests)) e

finished_rests : (p : Phase) → is_finished_phase p ≡ true → is_active_phase p ≡ false
finished_rests phase.Active e = cc
finished_rests phase.Inactive e = refl
finished_rests phase.Committing e = refl
finished_rests phase.Committed e = refl
finished_rests (phase.Aborted error) e = refl

pub becomes_finished : {D : Type 0} (front last : Front D) → is_finished front ≡ true → Becomes front last → last ≡ front
becomes_finished front _ f Stays = refl
becomes_finished front _ f (Places mid last call handler before is after) =
    let same = becomes_finished front mid f before in
    absurd (call_blocked front (finished_rests front.phase f) call (subst (λ w. refusal_of call w ≡ None) same after.taken))
becomes_finished front _ f (Changes mid last call before after) =
    let same = becomes_finished front mid f before in
    absurd (change_blocked front (finished_rests front.phase f) call (subst (λ w. refusal_of_change call w ≡ None) same after.taken))
becomes_finished front _ f (Commits mid last before after) =
    let same = becomes_finished front mid f before in
    absurd (blocked (not (is_active front)) InvalidStateError None (inactive (is_active front) (finished_rests front.phase f)) (subst (λ w. refusal_of_commit w ≡ None) same after.taken))
becomes_finished front _ f (Aborts mid last before after) =
    let same = becomes_finished front mid f before in
    absurd (blocked_next (is_committing front) InvalidStateError (is_finished front) InvalidStateError None f (subst (λ w. refusal_of_abort w ≡ None) same after.taken))
