use Rattle.std.proofs.Common.{◌∙◌, sym}
use Rattle.idb_desk.specs.Parts.{desk_state_of}
use Rattle.desk_steps.proofs.Laws.{wide_owes, within_owes, one_owed}
use Rattle.idb_desk.proofs.desk.advance.Goals as goal

pub advance_within-requires-clause-owes : goal.advance_within-requires-clause-owes
advance_within-requires-clause-owes c = one_owed (desk_state_of c.args.parts.now) c.args.step c.args.owed.now c.requires.allowed (sym c.wants_memory.ensures ∙ c.if-wants_memory.false) c.requires.owed

pub returns-then-wants_memory-clause-owed : goal.returns-then-wants_memory-clause-owed
returns-then-wants_memory-clause-owed c = wide_owes c.advance_wide.result (desk_state_of c.args.parts.now) (desk_state_of c.advance_wide.new.parts) c.args.step c.args.owed.now c.advance_wide.new.owed c.requires.allowed (sym c.wants_memory.ensures ∙ c.if-wants_memory.true) c.requires.owed c.advance_wide.ensures.made c.advance_wide.ensures.unchanged c.advance_wide.ensures.owed c.advance_wide.ensures.owed_same

pub returns-else-wants_memory-clause-owed : goal.returns-else-wants_memory-clause-owed
returns-else-wants_memory-clause-owed c = within_owes (desk_state_of c.args.parts.now) (desk_state_of c.advance_within.new.parts) c.args.step c.args.owed.now c.advance_within.new.owed c.requires.allowed (sym c.wants_memory.ensures ∙ c.if-wants_memory.false) c.requires.owed c.advance_within.ensures.made c.advance_within.ensures.owed
