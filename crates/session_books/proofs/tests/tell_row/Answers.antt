use Rattle.session_books.proofs.KeeperLemmas.{three_apply}
use Rattle.session_books.proofs.tests.tell_row.Goals as goal

pub keep-disk-requires-clause-applies : goal.keep-disk-requires-clause-applies
keep-disk-requires-clause-applies c = λ κs.
    three_apply c.in_ok-opened.field-0.opening c.in_ok-opened.field-0.commits c.in_ok-commit.field-0 c.in_ok-commit-2.field-0 c.in_ok-commit-3.field-0
    c.in_ok-opened.ensures.opening c.in_ok-opened.ensures.commits c.in_ok-commit.ensures.makes c.in_ok-commit-2.ensures.makes c.in_ok-commit-3.ensures.makes
