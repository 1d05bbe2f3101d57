-- Nodes of a document by their numbers: each before those in it, the members of an object in its order.
--     behind                the number of the next node behind a document that has this number
--     read_at               what was read of a document, or its number where it is at fault
--     Reaches               what a call answers is what was read, or the place of the fault
use Rattle.std.specs.Prelude.{◌≡◌, ⊤, ℕ, ◌+◌, Option, Some, None, Result, Ok, Err}
use Rattle.serde_json.specs.Data.{Data, Items, Members}
use Rattle.serde_json.specs.Data as json
use Rattle.script_reading.specs.declared.error.ScriptError.{ScriptError}
use Rattle.script_reading.specs.declared.error.ScriptError.TheVariants as error

abbrev mutual
  pub behind : ℕ → Data → ℕ
  behind n json.null = n + 1
  behind n (json.boolean b) = n + 1
  behind n (json.number x) = n + 1
  behind n (json.string s) = n + 1
  behind n (json.array ds) = behind_items (n + 1) ds
  behind n (json.object ms) = behind_members (n + 1) ms

  pub behind_items : ℕ → Items → ℕ
  behind_items n json.no_items = n
  behind_items n (json.item d ds) = behind_items (behind n d) ds

  pub behind_members : ℕ → Members → ℕ
  behind_members n json.no_members = n
  behind_members n (json.member name d ms) = behind_members (behind n d) ms

infixl 10 ◌>>=◌
abbrev pub ◌>>=◌ : {A B : Type 0} → Result A ℕ → (A → Result B ℕ) → Result B ℕ
(Ok x) >>= f = f x
(Err p) >>= f = Err p

abbrev pub read_at : {A : Type 0} → ℕ → Option A → Result A ℕ
read_at n (Some x) = Ok x
read_at n None = Err n

-- what an error says: the place, or for want of memory nothing
abbrev pub Refuses : {Y : Type 0} → ScriptError → Result Y ℕ → Type 0
Refuses (error.BadScript p) read = read ≡ Err p
Refuses error.NoMemory read = ⊤

abbrev pub Reaches : {X Y : Type 0} → (X → Y) → Result X ScriptError → Result Y ℕ → Type 0
Reaches seen (Ok x) read = read ≡ Ok (seen x)
Reaches seen (Err e) read = Refuses e read
