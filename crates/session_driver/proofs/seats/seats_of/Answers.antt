use Rattle.std.proofs.Common.{sym, ap, ◌∷◌, [], arith}
use Rattle.session_driver.proofs.Listing.{seats_more, scripts_more, count_more}
use Rattle.session_driver.proofs.seats.seats_of.Goals as goal

pub loop-script-preserved : goal.loop-script-preserved
loop-script-preserved c = record {
  seats = seats_more c.loop-script.seats.items c.push.new.self.items c.in_ok-seat_of.field-0 c.loop-script.yielded c.in-Some.script c.in_ok-number.number
      c.in_ok-push.ensures.items c.loop-script.invariant.seats (omega (arith, c.loop-script.invariant.number, c.in_ok-number.ensures)) (ap (λ s. s ∷ []) (sym c.in_ok-seat_of.ensures.seat));
  scripts = scripts_more c.loop-script.seats.items c.push.new.self.items c.in_ok-seat_of.field-0 c.loop-script.yielded c.in-Some.script
      c.in_ok-push.ensures.items c.loop-script.invariant.scripts c.in_ok-seat_of.ensures.script;
  number = count_more c.loop-script.number c.in_ok-number.number c.loop-script.yielded c.in-Some.script c.loop-script.invariant.number c.in_ok-number.ensures;
}
