use Rattle.std.proofs.Common.{sym}
use Rattle.request_lists.specs.Placing.{Stays}
use Rattle.request_lists.proofs.Becoming.{becomes_tried}
use Rattle.request_lists.proofs.Taken.{schema_taken}
use Rattle.request_lists.proofs.front.TxFront.schema.Goals as goal

pub returns-in-Some-clause-becomes : goal.returns-in-Some-clause-becomes
returns-in-Some-clause-becomes g c = Stays

pub change-requires : goal.change-requires
change-requires g c = schema_taken c.args.self.now c.args.call (sym c.in-None.ensures)

pub returns-in-None-clause-becomes : goal.returns-in-None-clause-becomes
returns-in-None-clause-becomes g c = becomes_tried c.args.self.now c.change.new.self c.args.call c.change.result (sym c.in-None.ensures) c.change.ensures.changed c.change.ensures.unchanged
