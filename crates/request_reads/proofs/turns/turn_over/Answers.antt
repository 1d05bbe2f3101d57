use Rattle.std.proofs.Common.{refl, sym, subst}
use Rattle.list_machine.specs.Requests.{key_asked, primary_asked, more_turns}
use Rattle.request_reads.specs.Reads.{HasValidPath}
use Rattle.request_reads.proofs.Turned.{moved, answered, nothing, formed, fits}
use Rattle.request_reads.proofs.turns.turn_over.Goals as goal

pub returns-in-Some-2-clause-answer : goal.returns-in-Some-2-clause-answer
returns-in-Some-2-clause-answer g c = answered c.args.front.now c.args.number c.args.store.now.store c.args.over c.args.call.now c.in-Some.cursor.now (key_asked c.args.call.now) (primary_asked c.args.call.now) (more_turns c.args.call.now) c.in_ok-place.field-0
    (sym c.in-Some.ensures) refl refl refl c.in_ok-place.ensures.found c.in-Some-2.place c.keys_only-keys_only.result _ c.in-Some-2.is c.keys_only-keys_only.ensures c.in_ok-answer-in-Some-2.ensures

pub returns-in-Some-2-clause-moved : goal.returns-in-Some-2-clause-moved
returns-in-Some-2-clause-moved g c = moved c.args.front.now c.args.number c.args.store.now.store c.args.over c.args.call.now c.in-Some.cursor.now (key_asked c.args.call.now) (primary_asked c.args.call.now) (more_turns c.args.call.now) c.in_ok-place.field-0
    (sym c.in-Some.ensures) refl refl refl c.in_ok-place.ensures.found c.place_asked.new.front c.in_ok-place.ensures.moved

pub returns-in-Some-2-clause-formed : goal.returns-in-Some-2-clause-formed
returns-in-Some-2-clause-formed g c = formed c.args.front.now c.args.number c.args.store.now.store c.args.over c.args.call.now c.in-Some.cursor.now (key_asked c.args.call.now) (primary_asked c.args.call.now) (more_turns c.args.call.now) c.in_ok-place.field-0
    (sym c.in-Some.ensures) refl refl refl c.in_ok-place.ensures.found c.info.ensures.sound (subst (λ i. HasValidPath i.indexes c.args.over) c.info.ensures.info c.check_path.ensures) _
    (answered c.args.front.now c.args.number c.args.store.now.store c.args.over c.args.call.now c.in-Some.cursor.now (key_asked c.args.call.now) (primary_asked c.args.call.now) (more_turns c.args.call.now) c.in_ok-place.field-0
    (sym c.in-Some.ensures) refl refl refl c.in_ok-place.ensures.found c.in-Some-2.place c.keys_only-keys_only.result _ c.in-Some-2.is c.keys_only-keys_only.ensures c.in_ok-answer-in-Some-2.ensures)

pub returns-in-Some-2-clause-fit : goal.returns-in-Some-2-clause-fit
returns-in-Some-2-clause-fit g c = fits c.args.front.now c.args.number c.args.store.now.store c.args.over c.args.call.now c.info.ensures.sound c.place_asked.new.front
    (moved c.args.front.now c.args.number c.args.store.now.store c.args.over c.args.call.now c.in-Some.cursor.now (key_asked c.args.call.now) (primary_asked c.args.call.now) (more_turns c.args.call.now) c.in_ok-place.field-0
    (sym c.in-Some.ensures) refl refl refl c.in_ok-place.ensures.found c.place_asked.new.front c.in_ok-place.ensures.moved)

pub returns-in-None-clause-answer : goal.returns-in-None-clause-answer
returns-in-None-clause-answer g c = nothing c.args.front.now c.args.number c.args.store.now.store c.args.over c.args.call.now c.in-Some.cursor.now (key_asked c.args.call.now) (primary_asked c.args.call.now) (more_turns c.args.call.now) c.in_ok-place.field-0
    (sym c.in-Some.ensures) refl refl refl c.in_ok-place.ensures.found c.in-None.is

pub returns-in-None-clause-moved : goal.returns-in-None-clause-moved
returns-in-None-clause-moved g c = moved c.args.front.now c.args.number c.args.store.now.store c.args.over c.args.call.now c.in-Some.cursor.now (key_asked c.args.call.now) (primary_asked c.args.call.now) (more_turns c.args.call.now) c.in_ok-place.field-0
    (sym c.in-Some.ensures) refl refl refl c.in_ok-place.ensures.found c.place_asked.new.front c.in_ok-place.ensures.moved

pub returns-in-None-clause-fit : goal.returns-in-None-clause-fit
returns-in-None-clause-fit g c = fits c.args.front.now c.args.number c.args.store.now.store c.args.over c.args.call.now c.info.ensures.sound c.place_asked.new.front
    (moved c.args.front.now c.args.number c.args.store.now.store c.args.over c.args.call.now c.in-Some.cursor.now (key_asked c.args.call.now) (primary_asked c.args.call.now) (more_turns c.args.call.now) c.in_ok-place.field-0
    (sym c.in-Some.ensures) refl refl refl c.in_ok-place.ensures.found c.place_asked.new.front c.in_ok-place.ensures.moved)
