-- Commits and the batches that they are cut into.
use Rattle.std.proofs.Common.{◌≡◌, ◌⊎◌, inl, inr, ◌<◌, ◌≤◌, nat_le, Bool, true, false, ◌||◌, List, [], ◌∷◌, ◌++◌, length, refl, sym, ap, subst, ◌∙◌, append_assoc, arith}
use Rattle.std.specs.List.{AllByRecursion}
use Rattle.std.proofs.lemmas.Bool.{leb-false, lt-leb}
use Rattle.std.proofs.lemmas.List.{append-nil, length-append}
use Rattle.idb_keys.specs.declared.names.Durability.{Durability}
use Rattle.idb_keys.specs.declared.names.Durability.TheVariants.{Strict, Relaxed}
use Rattle.idb_calls.specs.declared.traces.TxTrace.{TxTrace}
use Rattle.log_history.specs.Batching.{Commit, is_strict, commit_of, batched, IsBelowLimits, Batched, batched_if, batch_payload, ends_batch, with_commit, with_commits, commits_in, IsUnended, IsEnded}

pub commits_in_last : (batches : List (List Commit)) (batch : List Commit) → commits_in (batches ++ batch ∷ []) ≡ commits_in batches ++ batch
commits_in_last [] batch = append-nil batch
commits_in_last (b ∷ batches) batch = ap (λ cs. b ++ cs) (commits_in_last batches batch) ∙ sym (append_assoc b (commits_in batches) batch)

-- ---- one more commit, and more
pub commits_then : (b : Batched) (front rest : List Commit) → with_commits b (front ++ rest) ≡ with_commits (with_commits b front) rest
commits_then b [] rest = refl
commits_then b (c ∷ front) rest = commits_then (with_commit b c) front rest

all_if : (test : Bool) (ended : List (List Commit)) (commits : List Commit) → commits_in (batched_if test ended commits).ended ++ (batched_if test ended commits).waiting ≡ commits_in ended ++ commits
all_if true ended commits = append-nil (commits_in (ended ++ commits ∷ [])) ∙ commits_in_last ended commits
all_if false ended commits = refl

pub all_there : (b : Batched) (commits : List Commit) → commits_in (with_commits b commits).ended ++ (with_commits b commits).waiting ≡ (commits_in b.ended ++ b.waiting) ++ commits
all_there b [] = sym (append-nil (commits_in b.ended ++ b.waiting))
all_there b (c ∷ commits) =
    all_there (with_commit b c) commits
    ∙ ap (λ cs. cs ++ commits) (all_if (ends_batch c (b.waiting ++ c ∷ [])) b.ended (b.waiting ++ c ∷ []) ∙ sym (append_assoc (commits_in b.ended) b.waiting (c ∷ [])))
    ∙ append_assoc (commits_in b.ended ++ b.waiting) (c ∷ []) commits

-- ---- the last of a batch
abbrev IsFew : List Commit → Type 0
IsFew batch = length batch ≤ 64

-- the ended ones are ended, and what waits is not
pub record IsCut (b : Batched) : Type 0 where
  pub ended : AllByRecursion IsEnded b.ended
  pub few : AllByRecursion IsFew b.ended
  pub waiting : IsUnended b.waiting
  pub room : length b.waiting < 64

all_more : {A : Type 0} (P : A → Type 0) (xs : List A) (x : A) → AllByRecursion P xs → P x → AllByRecursion P (xs ++ x ∷ [])
all_more P [] x all p = (p, tt)
all_more P (y ∷ xs) x all p = (all.0, all_more P xs x all.1 p)

pub none_unended : IsUnended []
none_unended [] c rest e = absurd cc
none_unended (d ∷ front) c rest e = absurd cc

-- a commit of these and one more is one of these, or that one
last_or : (w front rest : List Commit) (c d : Commit) → w ++ c ∷ [] ≡ front ++ d ∷ rest → ((w ≡ front) × (c ≡ d)) ⊎ ((more : List Commit) × (w ≡ front ++ d ∷ more))
last_or [] [] rest c d e = inl (refl, cc)
last_or [] (x ∷ []) rest c d e = absurd cc
last_or [] (x ∷ y ∷ front) rest c d e = absurd cc
last_or (y ∷ w) [] rest c d e = let same : y ≡ d = cc in inr (w, ap (λ z. z ∷ w) same)
last_or (y ∷ w) (x ∷ front) rest c d e =
    let same : y ≡ x = cc in
    let tails : w ++ c ∷ [] ≡ front ++ d ∷ rest = cc in
    elim (last_or w front rest c d tails) [
      | inl p ↦ inl ((λ i. same i ∷ p.0 i), p.1)
      | inr p ↦ inr (p.0, λ i. same i ∷ p.1 i)
    ]

still_unended : (w : List Commit) (c : Commit) → IsUnended w → ends_batch c (w ++ c ∷ []) ≡ false → IsUnended (w ++ c ∷ [])
still_unended w c unended test front d rest e = elim (last_or w front rest c d e) [
  | inl p ↦ subst (λ x. ends_batch x (front ++ x ∷ []) ≡ false) p.1 (subst (λ xs. ends_batch c (xs ++ c ∷ []) ≡ false) p.0 test)
  | inr p ↦ unended front d p.0 p.1
]

neither : (a b c : Bool) → (a || (b || c)) ≡ false → b ≡ false
neither false false c h = refl
neither false true c h = absurd cc
neither true b c h = absurd cc

cut_if : (test : Bool) (ended : List (List Commit)) (w : List Commit) (c : Commit) → AllByRecursion IsEnded ended → AllByRecursion IsFew ended → IsUnended w → length w < 64
    → ends_batch c (w ++ c ∷ []) ≡ test → IsCut (batched_if test ended (w ++ c ∷ []))
cut_if true ended w c all few unended room test = record {
  ended = all_more IsEnded ended (w ++ c ∷ []) all (w, c, refl, unended, test);
  few = all_more IsFew ended (w ++ c ∷ []) few (omega (arith, length-append w (c ∷ []), room));
  waiting = none_unended;
  room = omega arith;
}
cut_if false ended w c all few unended room test = record {
  ended = all;
  few = few;
  waiting = still_unended w c unended test;
  room = leb-false 64 (length (w ++ c ∷ [])) (neither c.strict (nat_le 64 (length (w ++ c ∷ []))) (nat_le 262144 (length (batch_payload (w ++ c ∷ [])))) test);
}

pub cut_still : (b : Batched) (commits : List Commit) → IsCut b → IsCut (with_commits b commits)
cut_still b [] cut = cut
cut_still b (c ∷ commits) cut = cut_still (with_commit b c) commits (cut_if (ends_batch c (b.waiting ++ c ∷ [])) b.ended b.waiting c cut.ended cut.few cut.waiting cut.room refl)

pub cut_at_first : IsCut (record { ended = []; waiting = [] })
cut_at_first = record { ended = tt; few = tt; waiting = none_unended; room = omega arith }

-- ---- by the last commit's durability
no_wait_if : (test : Bool) (ended : List (List Commit)) (commits : List Commit) → test ≡ true → (batched_if test ended commits).waiting ≡ []
no_wait_if true ended commits h = refl
no_wait_if false ended commits h = absurd cc

same_if : (test : Bool) (ended : List (List Commit)) (commits : List Commit) → test ≡ false → (batched_if test ended commits).ended ≡ ended
same_if true ended commits h = absurd cc
same_if false ended commits h = refl

strict_test : (d : Durability) (more : Bool) → d ≡ Strict → (is_strict d || more) ≡ true
strict_test Strict more h = refl
strict_test Relaxed more h = absurd cc

relaxed_test : (d : Durability) (a b : Bool) → d ≡ Relaxed → a ≡ false → b ≡ false → (is_strict d || (a || b)) ≡ false
relaxed_test Strict a b h p q = absurd cc
relaxed_test Relaxed a b h p q = rw (p, q) refl

pub strict_ends : (commits : List Commit) (trace : TxTrace) → trace.durability ≡ Strict → (batched (commits ++ commit_of trace ∷ [])).waiting ≡ []
strict_ends commits trace h =
    let b = batched commits in
    let c = commit_of trace in
    let all = b.waiting ++ c ∷ [] in
    ap (λ x. x.waiting) (commits_then (record { ended = []; waiting = [] }) commits (c ∷ []))
    ∙ no_wait_if (ends_batch c all) b.ended all (strict_test trace.durability (nat_le 64 (length all) || nat_le 262144 (length (batch_payload all))) h)

pub relaxed_waits : (commits : List Commit) (trace : TxTrace) → trace.durability ≡ Relaxed → IsBelowLimits ((batched commits).waiting ++ commit_of trace ∷ [])
    → (batched (commits ++ commit_of trace ∷ [])).ended ≡ (batched commits).ended
relaxed_waits commits trace h below =
    let b = batched commits in
    let c = commit_of trace in
    let all = b.waiting ++ c ∷ [] in
    ap (λ x. x.ended) (commits_then (record { ended = []; waiting = [] }) commits (c ∷ []))
    ∙ same_if (ends_batch c all) b.ended all (relaxed_test trace.durability (nat_le 64 (length all)) (nat_le 262144 (length (batch_payload all))) h (lt-leb _ _ below.count) (lt-leb _ _ below.bytes))
