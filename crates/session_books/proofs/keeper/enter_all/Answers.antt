use Rattle.std.proofs.Common.{[], ◌∷◌, ◌++◌, List, ap, ◌∙◌}
use Rattle.item_changes.specs.Items.{Items}
use Rattle.log_history.specs.Batching.{Commit, commit_of}
use Rattle.session_books.specs.States.{commits_apply}
use Rattle.session_books.proofs.KeeperLemmas.{next_applies}
use Rattle.session_books.proofs.keeper.enter_all.Goals as goal

pub enter-requires-clause-applies : goal.enter-requires-clause-applies
enter-requires-clause-applies g c κs within = λ commit.
    let l = c.loop-trace in
    let t = c.trace-item.result in
    ap (λ (o : Items). commits_apply o (l.book.commits ++ commit_of t ∷ [])) l.invariant.opening
    ∙ ap (λ (cs : List Commit). commits_apply c.args.book.now.opening (cs ++ commit_of t ∷ [])) l.invariant.commits
    ∙ next_applies c.args.book.now.opening c.args.book.now.commits c.args.traces.now l.trace-index t c.loop-trace-test.true c.trace-item.is c.requires.applies commit
