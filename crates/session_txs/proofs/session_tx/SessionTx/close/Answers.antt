use Rattle.std.proofs.Common.{rules, ap, sym, ◌∙◌, subst}
use Rattle.live_stores.specs.Live.{LiveData}
use Rattle.session_databases.specs.Parts.{scope_of}
use Rattle.session_txs.specs.Keeping.{changes_told, schema_kept_by, IsLeft}
use Rattle.session_txs.proofs.Finishing.{closes, doubts, leaves, logged}
use Rattle.session_txs.proofs.session_tx.SessionTx.close.Goals as goal

pub returns-clause-ran : goal.returns-clause-ran
returns-clause-ran g c = closes _ _ _ _ _ _ c.self.invariant c.self.inside.live.number _ (first_of (cc, search rules)) c.args.self c.self.view_is
    _ (c.kept_of-deltas.ensures.deltas ∙ ap (changes_told _) c.into_parts-done.ensures.deltas) _ (c.kept_of-deltas.ensures.schema ∙ ap (schema_kept_by _ _) c.into_parts-done.ensures.schema)

pub returns-clause-doubted : goal.returns-clause-doubted
returns-clause-doubted g c = doubts _ _ _ _ _ _ c.self.invariant c.self.inside.live.number _ (first_of (cc, search rules)) c.args.self c.self.view_is
    _ (c.kept_of-deltas.ensures.deltas ∙ ap (changes_told _) c.into_parts-done.ensures.deltas)

pub returns-clause-loggable : goal.returns-clause-loggable
returns-clause-loggable g c = logged _ _ _ _ _ _ c.self.invariant c.self.inside.live.number _ (first_of (cc, search rules)) c.loggable_change_laws.ensures.count
    _ (c.kept_of-deltas.ensures.deltas ∙ ap (changes_told _) c.into_parts-done.ensures.deltas)

pub invariant_of-result : goal.invariant_of-result
invariant_of-result g c = subst (λ (l : LiveData). IsLeft (scope_of c.self.inside.mode c.self.inside.name c.self.inside.names) l.before l.database c.of-changes.result.value) (sym c.into_parts-done.ensures.stores)
    (leaves _ _ _ _ _ _ c.self.invariant c.self.inside.live.number _ (first_of (cc, search rules)) c.run_laws.ensures.made c.run_laws.ensures.within
    _ (c.of-changes.ensures ∙ c.kept_of-deltas.ensures.deltas ∙ ap (changes_told _) c.into_parts-done.ensures.deltas))
