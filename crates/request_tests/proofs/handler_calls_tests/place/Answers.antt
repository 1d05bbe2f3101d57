use Rattle.std.proofs.Common.{false}
use Rattle.handler_calls.proofs.Attending.{becomes_attended}
use Rattle.request_tests.proofs.handler_calls_tests.place.Goals as goal

pub returns : goal.returns
returns c = becomes_attended (λ number. false) c.args.front.now c.place.new.self c.place.ensures.becomes c.requires.attended
