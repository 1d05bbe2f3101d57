-- Reading from the front of a list of bytes: what stands there, and the bytes behind it; None where nothing does.
--     IsUnspelled           what an error says of reading
--     byte_at, front_at, count_at, whole_number_at, word_at, string_at, text_at      the fields
--     mapped_at, checked_at, pair_at, many_at, counted_at             readers made of readers
use Rattle.std.specs.Prelude.{◌≡◌, ℕ, zero, suc, Bool, ℤ, List, [], ◌∷◌, length, take, drop, Option, Some, None, nat_lt, if◌then◌else◌}
use Rattle.std.specs.Int.{w32, w64, from_be_bytes, cast_signed}
use Rattle.std.specs.Str.{is_utf8}
use Rattle.value_bytes.specs.declared.error.SpellingError.{SpellingError}
use Rattle.value_bytes.specs.declared.error.SpellingError.TheVariants as error

infixl 10 ◌>>=◌
abbrev pub ◌>>=◌ : {A B : Type 0} → Option A → (A → Option B) → Option B
None >>= f = None
(Some x) >>= f = f x

-- What an error says of reading: that it gives nothing, or for want of memory nothing at all.
abbrev pub IsUnspelled : {Y : Type 0} → SpellingError → Option Y → Type 0
IsUnspelled error.NotInGrammar read = read ≡ None
IsUnspelled error.NoMemory read = Unit {0}

abbrev pub byte_at : List ℕ → Option (ℕ × List ℕ)
byte_at [] = None
byte_at (b ∷ bs) = Some (b, bs)

-- so many bytes
abbrev pub front_at : ℕ → List ℕ → Option (List ℕ × List ℕ)
front_at n bs = if nat_lt (length bs) n then None else Some (take n bs, drop n bs)

abbrev pub count_at : List ℕ → Option (ℕ × List ℕ)
count_at bs = front_at 4 bs >>= λ x. Some (from_be_bytes w32 x.0, x.1)

abbrev pub whole_number_at : List ℕ → Option (ℤ × List ℕ)
whole_number_at bs = front_at 8 bs >>= λ x. Some (cast_signed w64 (from_be_bytes w64 x.0), x.1)

abbrev pub word_at : List ℕ → Option (ℕ × List ℕ)
word_at bs = front_at 8 bs >>= λ x. Some (from_be_bytes w64 x.0, x.1)

-- what is read, made into something else
abbrev pub mapped_at : {A B : Type 0} → (A → B) → (List ℕ → Option (A × List ℕ)) → List ℕ → Option (B × List ℕ)
mapped_at f r bs = r bs >>= λ x. Some (f x.0, x.1)

-- what is read, where it passes a test
abbrev pub checked_at : {A : Type 0} → (A → Bool) → (List ℕ → Option (A × List ℕ)) → List ℕ → Option (A × List ℕ)
checked_at c r bs = r bs >>= λ x. if c x.0 then Some x else None

-- two, one after the other
abbrev pub pair_at : {A B : Type 0} → (List ℕ → Option (A × List ℕ)) → (List ℕ → Option (B × List ℕ)) → List ℕ → Option ((A × B) × List ℕ)
pair_at r s bs = r bs >>= λ x. s x.1 >>= λ y. Some ((x.0, y.0), y.1)

-- so many, one after the other
unfoldable pub many_at : {A : Type 0} → (List ℕ → Option (A × List ℕ)) → ℕ → List ℕ → Option (List A × List ℕ)
many_at r zero bs = Some ([], bs)
many_at r (suc n) bs = r bs >>= λ x. many_at r n x.1 >>= λ xs. Some (x.0 ∷ xs.0, xs.1)

-- a count, and so many
abbrev pub counted_at : {A : Type 0} → (List ℕ → Option (A × List ℕ)) → List ℕ → Option (List A × List ℕ)
counted_at r bs = count_at bs >>= λ n. many_at r n.0 n.1

-- a length, and so many bytes
abbrev pub string_at : List ℕ → Option (List ℕ × List ℕ)
string_at bs = count_at bs >>= λ n. front_at n.0 n.1

abbrev pub text_at : List ℕ → Option (List ℕ × List ℕ)
text_at = checked_at is_utf8 string_at
