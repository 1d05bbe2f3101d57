use Rattle.std.proofs.Common.{◌≡◌, None, refl, sym, ◌∙◌, ap, subst}
use Rattle.std.specs.FinMap as finite
use Rattle.item_changes.specs.Items.{Items, name_cmp}
use Rattle.item_changes.specs.Scopes.{Access, Reads, Writes, Whole, Scope, seen_by, part_of}
use Rattle.serial_order.specs.FinishEntries.{ScriptedBody}
use Rattle.serial_order.specs.NumberOrder.{FitsWhole}
use Rattle.script_handlers.specs.Handling.{Script}
use Rattle.session_txs.specs.Running.{scope_of_scripted}
use Rattle.session_tests.proofs.session_txs_tests.upgrade.Goals as goal

none_seen : (a : Access) → seen_by a None ≡ None
none_seen (Reads names) = refl
none_seen (Writes names) = refl
none_seen Whole = refl

-- of no databases
fits_none : (body : ScriptedBody Script) (items : Items) → items ≡ finite.empty → FitsWhole None body → FitsWhole (part_of (scope_of_scripted body) items) body
fits_none body items none fits =
    let scope : Scope = scope_of_scripted body in
    subst (λ p. FitsWhole p body) (sym (ap (part_of scope) none ∙ ap (seen_by scope.access) (finite.get-empty name_cmp scope.database) ∙ none_seen scope.access)) fits

pub run-requires-clause-fits : goal.run-requires-clause-fits
run-requires-clause-fits g c = fits_none _ _ c.new-databases.ensures c.begun-begun.ensures.fits
