use Rattle.std.proofs.Common.{◌≡◌}
use Rattle.value_bytes.proofs.Bodies.{is_text, no_text}
use Rattle.value_bytes.proofs.fields.text_from.Goals as goal

pub returns-in_ok-copy_of-in-Ok : goal.returns-in_ok-copy_of-in-Ok
returns-in_ok-copy_of-in-Ok c =
    let same : c.in_ok-copy_of-in-Ok.field-0 ≡ c.in_ok-bytes.bytes.now = cc (c.in_ok-copy_of-in-Ok.ensures, c.in-Ok.ensures.cases.0) in
    rw same (is_text c.args.rest.now.now c.in_ok-bytes.bytes.now c.string_from.new.rest.now c.in_ok-bytes.ensures.string c.in-Ok.ensures.cases.1)

pub returns-in-Err : goal.returns-in-Err
returns-in-Err c = no_text c.args.rest.now.now c.in_ok-bytes.bytes.now c.string_from.new.rest.now c.in_ok-bytes.ensures.string c.in-Err.ensures.cases.0
