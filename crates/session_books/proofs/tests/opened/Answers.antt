use Rattle.std.proofs.Common.{sym, ◌∙◌}
use Rattle.session_books.proofs.KeeperLemmas.{blank_of}
use Rattle.session_books.proofs.tests.opened.Goals as goal

pub returns-then-len-eq0 : goal.returns-then-len-eq0
returns-then-len-eq0 c =
    blank_of c.new-book.result.0 c.in-Ok.opened.items c.new-book.result.1 _ c.new-book.ensures.book c.new-book.ensures.items (sym c.len.ensures.count ∙ c.if-len-eq0.true)
