use Rattle.key_order.proofs.ByteOrder.{text_cmp-bytes}
use Rattle.key_order.proofs.compare_texts.Goals as goal

pub returns : goal.returns
returns c = cc (text_cmp-bytes c.args.a.now c.args.b.now c.utf8.a c.utf8.b)
