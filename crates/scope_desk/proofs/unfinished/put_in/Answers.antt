use Rattle.std.proofs.Common.{◌≡◌, ◌∙◌, refl}
use Rattle.scope_desk.proofs.Keeping.{kept_more, lanes_below}
use Rattle.scope_desk.proofs.unfinished.put_in.Goals as goal

pub enter_both-requires-clause-all : goal.enter_both-requires-clause-all
enter_both-requires-clause-all c = lanes_below _ _ _ _ c.requires.each c.requires.numbers.drawn

pub enter_both-requires-clause-writers : goal.enter_both-requires-clause-writers
enter_both-requires-clause-writers c = lanes_below _ _ _ _ c.requires.writing c.requires.numbers.drawn

pub returns-clause-kept : goal.returns-clause-kept
returns-clause-kept c =
    let copied : c.from_vec.result ≡ c.args.scope.now = c.from_vec.ensures ∙ c.in_ok-copied.ensures.items in
    rw (c.in-Ok.ensures.items, c.in_ok-reserve.ensures.items, copied)
    (kept_more c.args.tickets.now.items (record { number = c.args.number; mode = c.args.mode; scope = c.args.scope.now }) c.args.number _ _ _ _ refl c.requires c.in_ok-enter_both.ensures.all c.in_ok-enter_both.ensures.writers)
