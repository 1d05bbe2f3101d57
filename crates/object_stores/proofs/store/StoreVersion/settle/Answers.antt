use Rattle.std.proofs.Common.{ap, ◌∙◌}
use Rattle.object_stores.specs.Parts.{content_in, past_in}
use Rattle.store_contents.specs.Store.{Kept, numbered}
use Rattle.object_stores.proofs.Marks.{settled_anew}
use Rattle.object_stores.proofs.store.StoreVersion.settle.Goals as goal

pub returns-clause-settled : goal.returns-clause-settled
returns-clause-settled g c =
    settled_anew (past_in c.forget.new.parts) (content_in c.forget.new.parts) _ c.forget.ensures.past
    ∙ (λ i. numbered (c.forget.ensures.content i) (c.current-self-inside.ensures.value i)) ∙ ap (λ (k : Kept). k.store) c.self.view_is
