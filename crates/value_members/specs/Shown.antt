-- The marks of the program's primitives.
use Rattle.std.specs.Prelude.{◌≡◌, ℕ, List, string_bytes, true}
use Rattle.std.specs.List.{position_from}
use Rattle.clone_values.specs.Tree.{Tree}
use Rattle.clone_values.specs.Sameness.{repeats}
use Rattle.clone_values.specs.WellFormed.{are_once}
use Rattle.value_members.specs.Primitives.{Mark, place_in}
use Rattle.value_members.specs.declared.primitives.Primitive.{Primitive}
use Rattle.value_members.specs.declared.primitives.PrimitiveKey.{PrimitiveKey}

abbrev pub mark_shown : Primitive → Mark
mark_shown p = (p.kind, p.number, p.text.now)

abbrev pub key_mark_shown : PrimitiveKey → Mark
key_mark_shown p = (p.kind, p.number, string_bytes p.text)

-- Each primitive among these trees is kept with its place, and none stands twice.
pub record IsIndex (places : List (PrimitiveKey × ℕ)) (ts : List Tree) : Type 0 where
  pub place : (t : Tree) → place_in key_mark_shown places t ≡ position_from (λ s. repeats s t) 0 ts
  pub once : are_once ts ≡ true
