use Rattle.script_handlers.proofs.handlers.ScriptHandlerHandler.on_event.Goals as goal

pub returns-in-Ok-clause-writes : goal.returns-in-Ok-clause-writes
returns-in-Ok-clause-writes c = λ k. let h = c.in-Ok.ensures.handled in (h.lines, (_, (_, h.handled)), h.added)
