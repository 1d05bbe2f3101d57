-- Handlers that are at hand when their events come.
--     has_cursor            a cursor of this number is there
--     lacks_handler         it is there, and its handler is lent
--     HasOwnCursor          a cursor's entry names a cursor of the front
--     IsAttendedBut         each entry has its handler, but for those of the cursors whose handlers are lent
--     IsAttended            each entry has its handler
use Rattle.std.specs.Prelude.{◌≡◌, ℕ, ◌==◌, Bool, true, false, ◌||◌, if◌then◌else◌, List, [], ◌∷◌, ⊤}
use Rattle.std.specs.Option.{is_none}
use Rattle.std.specs.List.{AllByRecursion}
use Rattle.request_lists.specs.declared.entries.FrontCursor.{FrontCursor}
use Rattle.request_lists.specs.declared.entries.ListEntry.{ListEntry}
use Rattle.request_lists.specs.declared.entries.ListEntry.TheVariants.{Request, Turn, Change}
use Rattle.request_lists.specs.Fronts.{Front}

abbrev pub has_cursor : {D : Type 0} → ℕ → List (FrontCursor D) → Bool
has_cursor number [] = false
has_cursor number (c ∷ cs) = c.request == number || has_cursor number cs

abbrev pub lacks_handler : {D : Type 0} → ℕ → List (FrontCursor D) → Bool
lacks_handler number [] = false
lacks_handler number (c ∷ cs) = if c.request == number then is_none c.handler else lacks_handler number cs

-- any other entry has its handler with it, or needs none
abbrev pub HasOwnCursor : {D : Type 0} → List (FrontCursor D) → ListEntry D → Type 0
HasOwnCursor cursors (Request request call handler) = ⊤
HasOwnCursor cursors (Turn number call) = has_cursor number cursors ≡ true
HasOwnCursor cursors (Change call) = ⊤

pub record IsAttendedBut {D : Type 0} (is_lent : ℕ → Bool) (front : Front D) : Type 0 where
  pub cursors : (number : ℕ) → is_lent number ≡ false → lacks_handler number front.cursors ≡ false
  pub waiting : AllByRecursion (HasOwnCursor front.cursors) front.waiting

abbrev pub IsAttended : {D : Type 0} → Front D → Type 0
IsAttended front = IsAttendedBut (λ number. false) front
