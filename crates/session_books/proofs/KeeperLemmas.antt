-- What a keeper says of its book, from the clauses of one call; and that new databases may be made, one after the other.
use Rattle.std.proofs.Common.{◌≡◌, ℕ, ◌+◌, ◌<◌, Bool, true, false, ◌&&◌, nat_le, List, [], ◌∷◌, ◌++◌, length, map, take, drop, get_or, fold, Option, Some, None, is_some, refl, sym, ap, subst, ◌∙◌, arith}
use Rattle.std.specs.FinMap as finite
use Rattle.std.specs.List.{list_all}
use Rattle.std.proofs.lemmas.Cmp.{nat_list_cmp_total}
use Rattle.std.proofs.lemmas.List.{take-append-drop}
use Rattle.std.proofs.lemmas.List.Sums.{fold-append, fold_more}
use Rattle.disk_trait.specs.Disk.{DiskView, EachImage}
use Rattle.value_bytes.specs.Steps.{◌>>=◌}
use Rattle.idb_calls.specs.Deltas.{DeltaTree, Version}
use Rattle.idb_calls.specs.declared.traces.TxTrace.{TxTrace}
use Rattle.item_changes.specs.Items.{Name, name_cmp, Database, Items, new_database}
use Rattle.item_changes.specs.Effects.{all_apply, applied_all}
use Rattle.record_bytes.specs.declared.records.LogRecord.{LogRecord}
use Rattle.record_bytes.specs.Records.{recorded}
use Rattle.idb_databases.specs.Items.{fits_stores, is_within_limits}
use Rattle.log_history.specs.Replayed.{stores_keep_unique, keeps_unique, is_at_rest, after_record, after_records}
use Rattle.log_history.specs.Batching.{Commit, commit_of, records_of_commits}
use Rattle.tx_book.specs.Books.{BookLog}
use Rattle.tx_book.specs.Follows.{IsFoundKept}
use Rattle.session_books.specs.States.{SessionBookState, opened_on, commits_apply}
use Rattle.session_books.specs.Entering.{is_commit, commits_with}
use Rattle.session_books.specs.Keeping.{commits_after, HasEntered, IsKeptOf, IsBlank, MakesDatabase}
use Rattle.session_books.proofs.Commits.{with_commit, with_none}
use Rattle.session_books.proofs.Laws.{front_applies}

-- ---- new databases
none_in : {X : Type 0} (p : X → Bool) {Y : Type 0} (f : Y → X) (l : List Y) → length l ≡ 0 → list_all p (map f l) ≡ true
none_in p f [] e = refl
none_in p f (y ∷ l) e = absurd (omega arith)

no_stores : stores_keep_unique (new_database 1) ≡ true
no_stores = none_in keeps_unique (λ e. e.1) (finite.entries finite.empty) (sym (finite.len-entries finite.empty) ∙ finite.len-empty name_cmp _)

few_stores : fits_stores (new_database 1) ≡ true
few_stores = ap (λ (n : ℕ). nat_le n 63) (finite.len-empty name_cmp _)

abbrev new_ones : List Name → List (Name × Database)
new_ones names = map (λ n. (n, new_database 1)) names

unbroken : (names : List Name) → list_all stores_keep_unique (map (λ e. e.1) (new_ones names)) ≡ true
unbroken [] = refl
unbroken (n ∷ names) = rw (no_stores, unbroken names) refl

fits : (names : List Name) → list_all fits_stores (map (λ e. e.1) (new_ones names)) ≡ true
fits [] = refl
fits (n ∷ names) = rw (few_stores, fits names) refl

at_rest : (items : Items) (names : List Name) → finite.entries items ≡ new_ones names → nat_le (length (new_ones names)) 16 ≡ true → is_at_rest items ≡ true
at_rest items names are few = rw (finite.len-entries items, are, unbroken names, fits names, few) refl

one_made : (items : Items) (t : TxTrace) (name : Name) (names : List Name) → MakesDatabase name t → finite.get items name ≡ None
    → finite.entries (finite.insert items name (new_database 1)) ≡ new_ones names → nat_le (length (new_ones names)) 16 ≡ true
    → after_record items (recorded t) ≡ Some (finite.insert items name (new_database 1))
one_made items t name names makes none are few = rw (makes.changes, none, at_rest (finite.insert items name (new_database 1)) names are few) refl

no_entries : {X : Type 0} (l : List X) → length l ≡ 0 → l ≡ []
no_entries [] e = refl
no_entries (x ∷ l) e = absurd (omega arith)

abbrev put_in : Items → Name → Items
put_in items name = finite.insert items name (new_database 1)

entries_with : (items : Items) (name : Name) (es : List (Name × Database)) → finite.entries items ≡ es → finite.entries (put_in items name) ≡ finite.put name_cmp name (new_database 1) es
entries_with items name es is = finite.entries-insert nat_list_cmp_total items name (new_database 1) ∙ ap (finite.put name_cmp name (new_database 1)) is

get_among : (items : Items) (name : Name) (es : List (Name × Database)) → finite.entries items ≡ es → finite.find name_cmp name es ≡ None → finite.get items name ≡ None
get_among items name es is none = finite.get-entries items name ∙ ap (finite.find name_cmp name) is ∙ none

-- on no databases, those of the names a, b and c
pub three_apply : (opening : Items) (commits : List Commit) (first second third : TxTrace) → opening ≡ finite.empty → commits ≡ []
    → MakesDatabase (97 ∷ []) first → MakesDatabase (98 ∷ []) second → MakesDatabase (99 ∷ []) third
    → commits_apply opening (commits_after commits (first ∷ second ∷ third ∷ [])) ≡ true
three_apply opening commits first second third blank none makes_a makes_b makes_c =
    let all : commits_after commits (first ∷ second ∷ third ∷ []) ≡ commit_of first ∷ commit_of second ∷ commit_of third ∷ [] =
    ap (λ (cs : List Commit). commits_after cs (first ∷ second ∷ third ∷ [])) none ∙ rw (makes_a.commit, makes_b.commit, makes_c.commit) refl in
    let zero_there : finite.entries finite.empty ≡ new_ones [] = no_entries (finite.entries finite.empty) (sym (finite.len-entries finite.empty) ∙ finite.len-empty name_cmp Database) in
    let a = put_in finite.empty (97 ∷ []) in
    let a_there : finite.entries a ≡ new_ones ((97 ∷ []) ∷ []) = entries_with finite.empty (97 ∷ []) [] zero_there in
    let b = put_in a (98 ∷ []) in
    let b_there : finite.entries b ≡ new_ones ((97 ∷ []) ∷ (98 ∷ []) ∷ []) = entries_with a (98 ∷ []) (new_ones ((97 ∷ []) ∷ [])) a_there in
    let c = put_in b (99 ∷ []) in
    let c_there : finite.entries c ≡ new_ones ((97 ∷ []) ∷ (98 ∷ []) ∷ (99 ∷ []) ∷ []) = entries_with b (99 ∷ []) (new_ones ((97 ∷ []) ∷ (98 ∷ []) ∷ [])) b_there in
    let first_made = one_made finite.empty first (97 ∷ []) ((97 ∷ []) ∷ []) makes_a (get_among finite.empty (97 ∷ []) [] zero_there refl) a_there refl in
    let second_made = one_made a second (98 ∷ []) ((97 ∷ []) ∷ (98 ∷ []) ∷ []) makes_b (get_among a (98 ∷ []) (new_ones ((97 ∷ []) ∷ [])) a_there refl) b_there refl in
    let third_made = one_made b third (99 ∷ []) ((97 ∷ []) ∷ (98 ∷ []) ∷ (99 ∷ []) ∷ []) makes_c (get_among b (99 ∷ []) (new_ones ((97 ∷ []) ∷ (98 ∷ []) ∷ [])) b_there refl) c_there refl in
    ap (λ (cs : List Commit). commits_apply opening cs) all ∙ ap (λ (items : Items). commits_apply items (commit_of first ∷ commit_of second ∷ commit_of third ∷ [])) blank
    ∙ ap is_some (ap (λ o. o >>= λ items. after_records items (recorded second ∷ recorded third ∷ [])) first_made
    ∙ ap (λ o. o >>= λ items. after_records items (recorded third ∷ [])) second_made ∙ ap (λ o. o >>= λ items. after_records items []) third_made)

-- a book that was opened where there are no databases
pub blank_of : {D : Type 0} (book : SessionBookState D) (found items : Items) (log : BookLog D) → book ≡ opened_on found log → items ≡ found → finite.len items ≡ 0 → IsBlank book
blank_of book found items log new same none = record {
  opening = ap (λ (b : SessionBookState _). b.opening) new ∙ sym same ∙ finite.empty_of_len items none;
  commits = ap (λ (b : SessionBookState _). b.commits) new;
  end = ap (λ (b : SessionBookState _). b.end) new;
}

-- ---- transactions, one after the other
before_one : (items : Items) (commits : List Commit) (t : TxTrace) → commits_apply items (commits_with commits t) ≡ true → commits_apply items commits ≡ true
before_one items commits t h = by_test (is_commit t) refl
  where
    by_test : (b : Bool) → is_commit t ≡ b → commits_apply items commits ≡ true
    by_test true is = front_applies items commits (commit_of t ∷ []) (ap (commits_apply items) (sym (with_commit commits t is)) ∙ h)
    by_test false is = ap (commits_apply items) (sym (with_none commits t is)) ∙ h

before_all : (items : Items) (commits : List Commit) (ts : List TxTrace) → commits_apply items (commits_after commits ts) ≡ true → commits_apply items commits ≡ true
before_all items commits [] h = h
before_all items commits (t ∷ ts) h = before_one items commits t (before_all items (commits_with commits t) ts h)

-- the first of them
pub first_apply : (items : Items) (commits : List Commit) (ts : List TxTrace) (n : ℕ) → commits_apply items (commits_after commits ts) ≡ true → commits_apply items (commits_after commits (take n ts)) ≡ true
first_apply items commits ts n h =
    before_all items (commits_after commits (take n ts)) (drop n ts)
    (ap (commits_apply items) (sym (fold-append commits_with commits (take n ts) (drop n ts)) ∙ ap (commits_after commits) (take-append-drop n ts)) ∙ h)

-- one more
pub next_applies : (items : Items) (commits : List Commit) (ts : List TxTrace) (n : ℕ) (t : TxTrace) → n < length ts → t ≡ get_or ts n t
    → commits_apply items (commits_after commits ts) ≡ true → is_commit t ≡ true → commits_apply items (commits_after commits (take n ts) ++ commit_of t ∷ []) ≡ true
next_applies items commits ts n t within is h commit =
    ap (commits_apply items) (sym (with_commit (commits_after commits (take n ts)) t commit) ∙ ap (commits_with (commits_after commits (take n ts))) is ∙ sym (fold_more commits_with commits ts n t within))
    ∙ first_apply items commits ts (n + 1) h

-- whatever became of the book behind them
pub kept_of : {D : Type 0} (disk : DiskView) (traces : List TxTrace) (old mid new : SessionBookState D) → HasEntered traces old mid → new.opening ≡ mid.opening → new.commits ≡ mid.commits
    → EachImage disk (IsFoundKept new.opening new.commits new.end) → EachImage disk (IsKeptOf old.opening old.commits traces)
kept_of disk traces old mid new entered opening commits images = λ image left. (
  entered.number,
  new.end,
  subst (λ (cs : List Commit). IsFoundKept old.opening cs new.end image) (commits ∙ entered.commits)
      (subst (λ (o : Items). IsFoundKept o new.commits new.end image) (opening ∙ entered.opening) (images image left)),
)
