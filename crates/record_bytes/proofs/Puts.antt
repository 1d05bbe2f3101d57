-- Fields put at the end of a vector.
use Rattle.std.proofs.Common.{◌≡◌, ℕ, zero, suc, ◌+◌, ◌<◌, ◌^◌, List, [], ◌∷◌, ◌++◌, drop, take, length, refl, sym, ap, subst, ◌∙◌, append_assoc, arith}
use Rattle.std.specs.List.{AllByRecursion, flat_map}
use Rattle.idb_base.specs.Lists.{StandsAt, IsWithinLimit}
use Rattle.value_bytes.specs.Spelling.{count_bytes}
use Rattle.value_bytes.specs.Writing.{BeginsWith}
use Rattle.value_bytes.proofs.Laws.{begins_more, begins_then}
use Rattle.idb_calls.specs.Deltas.{DeltaTree}
use Rattle.record_bytes.specs.Loggable.{IsNamed, HasLoggableParts, IsLoggable}
use Rattle.record_bytes.specs.declared.records.LogRecord.{LogRecord}
use Rattle.record_bytes.specs.Spelling.{delta_spelling}
use Rattle.record_bytes.specs.Records.{IsRecord}

-- a count is put, and the rest is still to be put
pub begun : (old new rest : List ℕ) (n m : ℕ) → new ≡ old ++ count_bytes n → n ≡ m → new ++ rest ≡ old ++ (count_bytes m ++ rest)
begun old new rest n m put count = rw (put, count) (append_assoc old (count_bytes m) rest)

take_whole : (xs : List ℕ) → take (length xs) xs ≡ xs
take_whole [] = refl
take_whole (x ∷ xs) = ap (λ r. x ∷ r) (take_whole xs)

-- one more is put
pub next_put : (out new whole : List ℕ) (ds : List DeltaTree) (i : ℕ) (d : DeltaTree) → out ++ flat_map delta_spelling (drop i ds) ≡ whole → StandsAt ds i d → new ≡ out ++ delta_spelling d → new ++ flat_map delta_spelling (drop (i + 1) ds) ≡ whole
next_put out new whole ds i d so_far stands put =
    ap (λ w. w ++ flat_map delta_spelling (drop (i + 1) ds)) put
    ∙ append_assoc out (delta_spelling d) (flat_map delta_spelling (drop (i + 1) ds))
    ∙ ap (λ xs. out ++ flat_map delta_spelling xs) (sym stands) ∙ so_far

-- what began so still does
pub begins_after : (old out more new : List ℕ) → BeginsWith old out → new ≡ out ++ more → BeginsWith old new
begins_after old out more new so_far put = begins_then old out new so_far (begins_more out more new new put (record { front = take_whole new }))

one_more : (ds rest : List DeltaTree) (i : ℕ) (d : DeltaTree) → AllByRecursion IsNamed (take i ds) → drop i ds ≡ d ∷ rest → IsNamed d → AllByRecursion IsNamed (take (suc i) ds)
one_more [] rest zero d all stands named = absurd cc
one_more [] rest (suc i) d all stands named = absurd cc
one_more (e ∷ ds) rest zero d all stands named = let same : d ≡ e = cc in (subst IsNamed same named, tt)
one_more (e ∷ ds) rest (suc i) d all stands named = (all.0, one_more ds rest i d all.1 stands named)

-- one more is named
pub named_more : (ds : List DeltaTree) (i : ℕ) (d : DeltaTree) → AllByRecursion IsNamed (take i ds) → StandsAt ds i d → IsNamed d → AllByRecursion IsNamed (take (i + 1) ds)
named_more ds i d all stands named =
    let next : i + 1 ≡ suc i = omega arith in
    subst (λ n. AllByRecursion IsNamed (take n ds)) (sym next) (one_more ds (drop (i + 1) ds) i d all stands named)

loggable_all : (ds : List DeltaTree) → AllByRecursion IsNamed ds → AllByRecursion HasLoggableParts ds → AllByRecursion IsLoggable ds
loggable_all [] named parts = tt
loggable_all (d ∷ ds) named parts = (record { named = named.0; parts = parts.0 }, loggable_all ds named.1 parts.1)

-- a record of named changes that are in range
pub fits_record : (r : LogRecord) → r.number < 2 ^ 64 → IsWithinLimit r.deltas → AllByRecursion IsNamed r.deltas → AllByRecursion HasLoggableParts r.deltas → IsRecord r
fits_record r number count named parts = record { number = number; count = count; deltas = loggable_all r.deltas named parts }
