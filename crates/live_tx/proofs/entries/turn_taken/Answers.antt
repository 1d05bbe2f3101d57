use Rattle.std.proofs.Common.{sym}
use Rattle.live_tx.proofs.FirstEntries.{taken_came, taken_attended, taken_own}
use Rattle.live_tx.proofs.entries.turn_taken.Goals as goal

pub returns-in-Some-clause-came : goal.returns-in-Some-clause-came
returns-in-Some-clause-came g c = taken_came
    c.args.front.now c.run_turn.new.front c.args.course.now c.run_turn.new.course c.args.entry.now c.in-Turn.cursor c.in-Turn.call c.in_ok-reply-in-Turn.reply c.in-Some.event
    c.in-Turn.is c.requires.room c.in_ok-reply-in-Turn.ensures.replied c.in_ok-reply-in-Turn.ensures.turned (sym c.in-Some.ensures.told)

pub returns-in-Some-clause-attended : goal.returns-in-Some-clause-attended
returns-in-Some-clause-attended g c = taken_attended
    c.args.front.now c.run_turn.new.front c.args.course.now c.in-Turn.cursor c.in-Turn.call c.in_ok-reply-in-Turn.reply c.in-Some.event
    c.in_ok-reply-in-Turn.ensures.turned (sym c.in-Some.ensures.told) c.requires.attended

pub returns-in-Some-clause-own : goal.returns-in-Some-clause-own
returns-in-Some-clause-own g c = taken_own
    c.args.front.now c.run_turn.new.front c.args.course.now c.in-Turn.cursor c.in-Turn.call c.in_ok-reply-in-Turn.reply c.in-Some.event c.args.entry.now
    c.in_ok-reply-in-Turn.ensures.turned (sym c.in-Some.ensures.told) c.requires.own
