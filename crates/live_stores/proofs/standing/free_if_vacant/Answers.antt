use Rattle.std.proofs.Common.{sym, ap, ◌∙◌}
use Rattle.live_stores.specs.Slots.{stores_now, stores_before}
use Rattle.live_stores.proofs.Endings.{slots_removed, now_removed, before_removed}
use Rattle.live_stores.proofs.standing.free_if_vacant.Goals as goal

pub returns-then-is_vacant-clause-here : goal.returns-then-is_vacant-clause-here
returns-then-is_vacant-clause-here g c =
    ap stores_now c.remove_at.ensures
    ∙ now_removed c.args.items.now.items c.args.place c.index.result.now c.requires.within c.index.ensures (sym c.is_vacant.ensures ∙ c.if-is_vacant.true)

pub returns-then-is_vacant-clause-before : goal.returns-then-is_vacant-clause-before
returns-then-is_vacant-clause-before g c =
    ap stores_before c.remove_at.ensures
    ∙ before_removed c.args.items.now.items c.args.place c.index.result.now c.requires.within c.index.ensures (sym c.is_vacant.ensures ∙ c.if-is_vacant.true)

pub returns-then-is_vacant-clause-slots : goal.returns-then-is_vacant-clause-slots
returns-then-is_vacant-clause-slots g c = rw c.remove_at.ensures (slots_removed c.args.items.now.items c.args.place c.requires.slots)
