-- What may be kept of commits.
use Rattle.std.proofs.Common.{◌≡◌, ◌⊎◌, inl, inr, ℕ, zero, suc, ◌+◌, ◌<◌, ◌≤◌, nat_le, Bool, true, false, ◌||◌, List, [], ◌∷◌, ◌++◌, length, take, slice_get, Some, sym, ap, subst, ◌∙◌, append_assoc, arith}
use Rattle.std.proofs.lemmas.List.{append-nil, length-append}
use Rattle.std.proofs.Math.Seq.{take-append_seam}
use Rattle.log_history.specs.Batching.{Commit, batch_payload, ends_batch, batched, commits_in, sealed}
use Rattle.log_history.specs.Kept.{End, Dropped, Flushed, FailedCommit, FailedFlush, FailedCheckpoint, with_doubt, last_batches, MayKeep}
use Rattle.log_history.proofs.Cuts.{commits_in_last, all_there, cut_still, cut_at_first}

module _ (commits : List Commit) where
  abbrev in_batches : List Commit
  in_batches = commits_in (batched commits).ended

  abbrev behind : List Commit
  behind = (batched commits).waiting

  parted : in_batches ++ behind ≡ commits
  parted = all_there (record { ended = []; waiting = [] }) commits

  counted : sealed commits + length behind ≡ length commits
  counted = sym (length-append in_batches behind) ∙ ap length parted

  -- all up to the last batch that has ended
  first_ended : (rest : List Commit) → take (sealed commits) (commits ++ rest) ≡ in_batches
  first_ended rest =
      ap (λ cs. take (sealed commits) (cs ++ rest)) (sym parted)
      ∙ ap (λ cs. take (sealed commits) cs) (append_assoc in_batches behind rest)
      ∙ take-append_seam in_batches (behind ++ rest)

  first_ended_alone : take (sealed commits) commits ≡ in_batches
  first_ended_alone = ap (λ cs. take (sealed commits) cs) (sym (append-nil commits)) ∙ first_ended []

  -- all, the last batch included
  with_last : (rest : List Commit) → take (length (commits ++ rest)) (commits ++ rest) ≡ commits_in ((batched commits).ended ++ (behind ++ rest) ∷ [])
  with_last rest =
      ap (λ cs. take (length (commits ++ rest)) cs) (sym (append-nil (commits ++ rest))) ∙ take-append_seam (commits ++ rest) []
      ∙ ap (λ cs. cs ++ rest) (sym parted) ∙ append_assoc in_batches behind rest
      ∙ sym (commits_in_last (batched commits).ended (behind ++ rest))

  with_waiting : take (length commits) commits ≡ commits_in ((batched commits).ended ++ behind ∷ [])
  with_waiting =
      ap (λ cs. take (length cs) cs) (sym (append-nil commits)) ∙ with_last []
      ∙ ap (λ cs. commits_in ((batched commits).ended ++ cs ∷ [])) (append-nil behind)

pub whole : (commits : List Commit) (end : End) (n : ℕ) → MayKeep commits end n
    → (take n (with_doubt commits end) ≡ commits_in (batched commits).ended) ⊎ (take n (with_doubt commits end) ≡ commits_in ((batched commits).ended ++ last_batches commits end))
whole commits Dropped n h = inl (subst (λ m. take m commits ≡ commits_in (batched commits).ended) (sym h) (first_ended_alone commits))
whole commits Flushed n h = inr (subst (λ m. take m commits ≡ commits_in ((batched commits).ended ++ (batched commits).waiting ∷ [])) (sym h) (with_waiting commits))
whole commits (FailedCommit c) n (inl h) = inl (subst (λ m. take m (commits ++ c ∷ []) ≡ commits_in (batched commits).ended) (sym h) (first_ended commits (c ∷ [])))
whole commits (FailedCommit c) n (inr h) = inr (subst (λ m. take m (commits ++ c ∷ []) ≡ commits_in ((batched commits).ended ++ ((batched commits).waiting ++ c ∷ []) ∷ [])) (length-append commits (c ∷ []) ∙ sym h) (with_last commits (c ∷ [])))
whole commits FailedFlush n (inl h) = inl (subst (λ m. take m commits ≡ commits_in (batched commits).ended) (sym h) (first_ended_alone commits))
whole commits FailedFlush n (inr h) = inr (subst (λ m. take m commits ≡ commits_in ((batched commits).ended ++ (batched commits).waiting ∷ [])) (sym h) (with_waiting commits))
whole commits FailedCheckpoint n h = inl (subst (λ m. take m commits ≡ commits_in (batched commits).ended) (sym h) (first_ended_alone commits))

pub prefix : (commits : List Commit) (end : End) (n : ℕ) → MayKeep commits end n → n ≤ length (with_doubt commits end)
prefix commits Dropped n h = omega (arith, h, counted commits)
prefix commits Flushed n h = omega (arith, h)
prefix commits (FailedCommit c) n (inl h) = omega (arith, h, counted commits, length-append commits (c ∷ []))
prefix commits (FailedCommit c) n (inr h) = omega (arith, h, length-append commits (c ∷ []))
prefix commits FailedFlush n (inl h) = omega (arith, h, counted commits)
prefix commits FailedFlush n (inr h) = omega (arith, h)
prefix commits FailedCheckpoint n h = omega (arith, h, counted commits)

at_least : (commits : List Commit) (end : End) (n : ℕ) → MayKeep commits end n → sealed commits ≤ n
at_least commits Dropped n h = omega (arith, h)
at_least commits Flushed n h = omega (arith, h, counted commits)
at_least commits (FailedCommit c) n (inl h) = omega (arith, h)
at_least commits (FailedCommit c) n (inr h) = omega (arith, h, counted commits)
at_least commits FailedFlush n (inl h) = omega (arith, h)
at_least commits FailedFlush n (inr h) = omega (arith, h, counted commits)
at_least commits FailedCheckpoint n h = omega (arith, h)

-- ---- a strict commit
split : (xs : List Commit) (place : ℕ) (c : Commit) → slice_get xs place ≡ Some c → (front : List Commit) × (rest : List Commit) × (xs ≡ front ++ c ∷ rest)
split [] zero c e = absurd cc
split [] (suc place) c e = absurd cc
split (x ∷ xs) zero c e = let same : x ≡ c = cc in ([], xs, ap (λ y. y ∷ xs) same)
split (x ∷ xs) (suc place) c e = let later = split xs place c e in (x ∷ later.0, later.1, ap (λ ys. x ∷ ys) later.2)

before_or_behind : (front rest : List Commit) (place : ℕ) (c : Commit) → slice_get (front ++ rest) place ≡ Some c → (place < length front) ⊎ ((a : List Commit) × (b : List Commit) × (rest ≡ a ++ c ∷ b))
before_or_behind [] rest place c e = inr (split rest place c e)
before_or_behind (x ∷ front) rest zero c e = inl (omega arith)
before_or_behind (x ∷ front) rest (suc place) c e = elim (before_or_behind front rest place c e) [
  | inl p ↦ inl (omega (arith, p))
  | inr p ↦ inr p
]

or_true : (a b : Bool) → a ≡ true → (a || b) ≡ false → ⊥
or_true true b h e = absurd cc
or_true false b h e = absurd cc

strict_ends : (c : Commit) (commits : List Commit) → c.strict ≡ true → ends_batch c commits ≡ false → ⊥
strict_ends c commits h e = or_true c.strict (nat_le 64 (length commits) || nat_le 262144 (length (batch_payload commits))) h e

pub strict : (commits : List Commit) (end : End) (n place : ℕ) (c : Commit) → MayKeep commits end n → slice_get commits place ≡ Some c → c.strict ≡ true → place < n
strict commits end n place c h there is_strict =
    elim (before_or_behind (commits_in (batched commits).ended) (batched commits).waiting place c (ap (λ cs. slice_get cs place) (parted commits) ∙ there)) [
      | inl p ↦ omega (arith, p, at_least commits end n h)
      | inr p ↦ absurd (strict_ends c (p.0 ++ c ∷ []) is_strict ((cut_still _ commits cut_at_first).waiting p.0 c p.1 p.2))
    ]
