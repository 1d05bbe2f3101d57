use Rattle.std.proofs.Common.{◌+◌, ◌≤◌, length, drop, sym, ap, ◌∙◌, arith}
use Rattle.value_members.specs.Primitives.{has}
use Rattle.value_members.specs.Shown.{mark_shown}
use Rattle.value_members.proofs.Ties.{has_none}
use Rattle.value_members.proofs.NewMembers.{are_new, starts, goes_on, not_true}
use Rattle.value_members.proofs.once.are_once.Goals as goal
use Rattle.value_members.proofs.once.are_once.Goals.{in-Some+in_ok-is_new+else-not-branch, in_default}

pub loop-place-init : goal.loop-place-init
loop-place-init c = starts (has mark_shown c.new-seen.result.keys) (has_none mark_shown c.new-seen.result.keys c.new-seen.ensures.empty) c.args.items.now

pub loop-place-preserved : goal.loop-place-preserved
loop-place-preserved c = elim c.match-at.branch [
  | in-Some+in_ok-is_new+else-not-branch w ↦
      let told = w.in_ok-is_new.ensures in
      let was_new = not_true _ (sym told.new ∙ w.if-not-branch.false) in
      rw w.seen-is (c.loop-place.invariant ∙ ap (λ ts. are_new (has mark_shown c.loop-place.seen.keys) (ts)) w.in-Some.ensures.stands ∙ goes_on _ _ _ (drop (c.loop-place.place + 1) c.args.items.now) was_new told.noted)
  | in_default w ↦ let past : length c.args.items.now ≤ c.loop-place.place = w.in_default.ensures.past_end in absurd (omega arith)
]
