use Rattle.std.proofs.Common.{sym, ◌∙◌}
use Rattle.request_lists.specs.Placing.{Stays}
use Rattle.script_handlers.proofs.Runs.{unheard, heard}
use Rattle.script_handlers.proofs.handlers.ScriptHandler.handle.Goals as goal

pub returns-in_err-tell-clause-becomes : goal.returns-in_err-tell-clause-becomes
returns-in_err-tell-clause-becomes c = Stays

pub returns-in_default-clause-handled : goal.returns-in_default-clause-handled
returns-in_default-clause-handled c = unheard _ _ _ _ _ (sym c.block_for.ensures ∙ c.in_default.is) c.in_ok-tell.ensures

pub returns-in_default-clause-becomes : goal.returns-in_default-clause-becomes
returns-in_default-clause-becomes c = Stays

pub returns-in_err-env-clause-becomes : goal.returns-in_err-env-clause-becomes
returns-in_err-env-clause-becomes c = Stays

pub returns-clause-handled : goal.returns-clause-handled
returns-clause-handled c = heard _ _ _ _ c.in-Some.block c.in_ok-env.env c.in_ok-end.prevented c.in_ok-end.end _ _ _ _ c.in_ok-tell.ensures (sym c.in-Some.is ∙ c.block_for.ensures) c.in_ok-env.ensures c.in_ok-end.ensures.runs c.end_of.ensures
