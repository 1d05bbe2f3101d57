use Rattle.std.proofs.Common.{ap, ◌∙◌}
use Rattle.std.specs.FinMap as finite
use Rattle.item_changes.specs.Items.{name_cmp}
use Rattle.record_changes.proofs.Maps.{store_in}
use Rattle.record_changes.proofs.loosening.take_stores.Goals as goal

pub returns-in-None-clause-stores : goal.returns-in-None-clause-stores
returns-in-None-clause-stores g c = λ name. ap (λ m. finite.get m name) c.new.ensures ∙ finite.get-empty name_cmp name ∙ ap (store_in name) c.in-None.ensures.taken
