-- Lists that their copies share.
--     items_held            the items that are held, in order
use Rattle.std.specs.Prelude.{List, []}
use Rattle.std.specs.Arc.{arc_value}
use Rattle.clone_values.specs.declared.holding.Held.{Held}
use Rattle.clone_values.specs.declared.holding.Held.TheVariants.{Empty, Shared}

abbrev pub items_held : {X : Type 0} → Held X → List X
items_held Empty = []
items_held (Shared list) = (arc_value list).items
