-- The block of an upgrade.
--     ran_block, ran_none   it ran;  there is none
use Rattle.std.proofs.Common.{◌≡◌, ℕ, List, [], Option, Some, None, sym, subst}
use Rattle.std.proofs.lemmas.List.{append-nil}
use Rattle.request_lists.specs.Fronts.{Front}
use Rattle.script_statements.specs.declared.script.Block.{Block as Named}
use Rattle.script_runs.specs.declared.environments.Env.{Env}
use Rattle.script_runs.specs.declared.notes.Note.{Note}
use Rattle.script_runs.specs.declared.worlds.RunEnd.{RunEnd}
use Rattle.script_runs.specs.declared.worlds.RunEnd.TheVariants.{Went}
use Rattle.script_handlers.specs.Handling.{Script}
use Rattle.script_handlers.specs.Into.{BodyRunsInto}
use Rattle.client_machine.specs.ClientSteps.{NoUpgradeBlock, UpgradeBlock}
use Rattle.task_statements.specs.Upgrading.{UpgradeRunsInto}

pub ran_block : (blocks : List Named) (number : ℕ) (env : Env) (front last : Front Script) (block : ℕ) (named : Option ℕ) (how : RunEnd) (before after : List Note) → named ≡ Some block
    → BodyRunsInto blocks number block env front before last how after → UpgradeRunsInto blocks number env front named before last how after
ran_block blocks number env front last block named how before after is g =
    subst (λ o. UpgradeRunsInto blocks number env front o before last how after) (sym is) (record { notes = g.lines; runs = UpgradeBlock block g.lines last how g.runs; lines = g.added })

pub ran_none : (blocks : List Named) (number : ℕ) (env : Env) (front : Front Script) (named : Option ℕ) (notes : List Note) → named ≡ None → UpgradeRunsInto blocks number env front named notes front Went notes
ran_none blocks number env front named notes is =
    subst (λ o. UpgradeRunsInto blocks number env front o notes front Went notes) (sym is) (record { notes = []; runs = NoUpgradeBlock; lines = sym (append-nil notes) })
