use Rattle.std.proofs.Common.{Bool, true, false, ◌++◌, subst}
use Rattle.tx_book.specs.Keeper.{KeepsEntering}
use Rattle.tx_book.proofs.KeeperLemmas.{noted, goes_further}
use Rattle.tx_book.proofs.keeper.enter_all.Goals as goal

pub loop-trace-init : goal.loop-trace-init
loop-trace-init g c = λ opening commits f. noted g.D.Disk.shows opening commits c.args.book.now.log f

pub loop-trace-preserved : goal.loop-trace-preserved
loop-trace-preserved g c = λ opening commits f.
    let so_far = c.loop-trace.invariant opening commits f in
    goes_further g.D.Disk.shows opening commits so_far.0 true c.enter.new.book.log
    (subst (λ (on : Bool). KeepsEntering g.D.Disk.shows opening (commits ++ so_far.0) on c.enter.new.book.log) c.if-not-enter.false (c.enter.ensures opening (commits ++ so_far.0) so_far.1))

pub returns-then-not-enter : goal.returns-then-not-enter
returns-then-not-enter g c = λ opening commits f.
    let so_far = c.loop-trace.invariant opening commits f in
    goes_further g.D.Disk.shows opening commits so_far.0 false c.enter.new.book.log
    (subst (λ (on : Bool). KeepsEntering g.D.Disk.shows opening (commits ++ so_far.0) on c.enter.new.book.log) c.if-not-enter.true (c.enter.ensures opening (commits ++ so_far.0) so_far.1))

pub returns : goal.returns
returns g c = c.loop-trace.invariant
