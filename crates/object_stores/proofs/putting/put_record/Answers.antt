use Rattle.std.proofs.Common.{refl}
use Rattle.object_stores.proofs.putting.put_record.Goals as goal

pub returns-in-Err-clause-content : goal.returns-in-Err-clause-content
returns-in-Err-clause-content g c = c.put_new.ensures.content

pub returns-then-keep-clause-content : goal.returns-then-keep-clause-content
returns-then-keep-clause-content g c = refl

pub returns-in-Ok-clause-content : goal.returns-in-Ok-clause-content
returns-in-Ok-clause-content g c = c.put_over.ensures.content
