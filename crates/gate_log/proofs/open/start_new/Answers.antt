use Rattle.std.proofs.Common.{sym, ◌∙◌, subst}
use Rattle.disk_trait.specs.declared.area.Area.TheVariants.{Zero}
use Rattle.disk_trait.proofs.Laws.{widens}
use Rattle.gate_areas.specs.Found.{Found}
use Rattle.gate_log.specs.Opened.{FoundAs}
use Rattle.gate_log.proofs.Keeps.{keeps_rest, room_where_blank, new_same, has_told, none_end}
use Rattle.gate_log.proofs.open.start_new.Goals as goal

pub make_area-requires-clause-room : goal.make_area-requires-clause-room
make_area-requires-clause-room g c = room_where_blank (g.D.Disk.shows c.args.disk.now) Zero 1 c.requires.blank

pub returns-in_err-live-clause-any_moment : goal.returns-in_err-live-clause-any_moment
returns-in_err-live-clause-any_moment g c = widens c.make_area.ensures.any_moment
    (λ image from. record { given = from.given; was_given = from.was_given; stepped = new_same from.given image (c.requires.blank from.given from.was_given) from.stepped })

pub returns-clause-any_moment : goal.returns-clause-any_moment
returns-clause-any_moment g c = widens c.make_area.ensures.any_moment
    (λ image from. record { given = from.given; was_given = from.was_given; stepped = new_same from.given image (c.requires.blank from.given from.was_given) from.stepped })

pub returns-clause-opened : goal.returns-clause-opened
returns-clause-opened g c =
    let made = c.in_ok-live.ensures in
    record {
      kept = keeps_rest (g.D.Disk.shows c.make_area.new.disk) c.in_ok-live.live (λ areas told. (made.made areas told).rests) made.settled made.length made.fits.headed made.fits.limit;
      bounded = none_end c.in_ok-live.live.gate c.new.result c.new.ensures made.fits.headed;
      has = has_told (g.D.Disk.shows c.make_area.new.disk) c.in_ok-live.live c.new.result (λ areas told. (made.made areas told).batches_are ∙ sym c.new.ensures);
      found = λ areas told. subst (λ (f : Found). FoundAs c.in_ok-live.live c.new.result f) (sym (c.requires.blank areas told)) (made.here.here, made.here.generation_is, c.new.ensures);
    }
