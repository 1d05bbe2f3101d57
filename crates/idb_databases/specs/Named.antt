-- Entries in the order of their names.
--     with_values           the entries, each value seen another way
--     names_code            how the names of a map are stored
use Rattle.std.specs.Prelude.{List, map}
use Rattle.std.specs.Coded.{Coded, coded_list, coded_ℕ}
use Rattle.item_changes.specs.Items.{Name}

abbrev pub with_values : {K V W : Type 0} → (V → W) → List (K × V) → List (K × W)
with_values view es = map (λ e. (e.0, view e.1)) es

abbrev pub names_code : Coded Name
names_code = coded_list coded_ℕ
