use Rattle.std.proofs.Common.{◌∷◌, ◌++◌, [], ◌+◌, refl, sym, ap, ◌∙◌, subst}
use Rattle.request_lists.specs.Fronts.{AreNumbered, requests_of}
use Rattle.request_lists.specs.Placing.{new_cursor}
use Rattle.request_lists.proofs.Numbered.{numbered_with}
use Rattle.request_lists.proofs.front.TxFront.add_cursor.Goals as goal

pub invariant_of-self-2 : goal.invariant_of-self-2
invariant_of-self-2 g c =
    subst (λ cs. AreNumbered (requests_of cs) (c.self.inside.next + 1)) (sym (c.push_reserved.ensures.items ∙ ap (λ cs. cs ++ new_cursor c.self.inside.next c.args.target c.args.cursor c.args.handler ∷ []) c.reserve.ensures.items))
    (numbered_with c.self.inside.cursors.items (new_cursor c.self.inside.next c.args.target c.args.cursor c.args.handler) c.self.inside.next refl c.self.invariant)
