use Rattle.std.proofs.Common.{◌≡◌, ◌+◌, ◌&&◌, ◌≤◌, length, drop, sym, ◌∙◌, ap, arith}
use Rattle.std.proofs.lemmas.List.{drop_all}
use Rattle.clone_values.specs.View.{tree_of, key_tree_of}
use Rattle.key_paths.specs.Evaluation.{string_evaluated}
use Rattle.key_paths.proofs.KeysGiven.{Gives, gives_whole, by_first, no_key_left, no_string_left, key_left}
use Rattle.key_paths.proofs.comparing.strings_give.Goals as goal
use Rattle.key_paths.proofs.comparing.strings_give.Goals.{in-Some+in-Some-at+else-not-is_item, in_default}

pub returns-then-not-is_item : goal.returns-then-not-is_item
returns-then-not-is_item c =
    let t = tree_of c.args.v.now in
    let rest = Gives t (drop (c.loop-place.place + 1) c.args.strings.now) (drop (c.loop-place.place + 1) c.args.keys.now) in
    let found = c.string_found.ensures ∙ ap (λ s. string_evaluated s t) c.as_str.ensures.value in
    sym (by_first t _ _ _ _ _ _ _ c.in-Some.ensures.stands c.in-Some-at.ensures.stands found ∙ ap (λ b. b && rest) (sym c.if-not-is_item.ensures))
    ∙ c.loop-place.invariant ∙ gives_whole t c.args.strings.now c.args.keys.now

pub returns-in-None : goal.returns-in-None
returns-in-None c =
    let t = tree_of c.args.v.now in
    let past : length c.args.keys.now ≤ c.loop-place.place = c.in-None.ensures.past_end in
    sym (no_key_left t _ _ _ _ c.in-Some.ensures.stands (drop_all _ _ past)) ∙ c.loop-place.invariant ∙ gives_whole t c.args.strings.now c.args.keys.now

pub loop-place-preserved : goal.loop-place-preserved
loop-place-preserved c =
    let t = tree_of c.args.v.now in
    let rest = Gives t (drop (c.loop-place.place + 1) c.args.strings.now) (drop (c.loop-place.place + 1) c.args.keys.now) in
    elim c.match-at.branch [
      | in-Some+in-Some-at+else-not-is_item w ↦
          let found = w.string_found.ensures ∙ ap (λ s. string_evaluated s t) w.as_str.ensures.value in
          sym (by_first t _ _ _ _ _ _ _ w.in-Some.ensures.stands w.in-Some-at.ensures.stands found ∙ ap (λ b. b && rest) (sym w.if-not-is_item.ensures))
          ∙ c.loop-place.invariant
      | in_default w ↦ let past : length c.args.strings.now ≤ c.loop-place.place = w.in_default.ensures.past_end in absurd (omega arith)
    ]

pub returns-in-Some-at-2 : goal.returns-in-Some-at-2
returns-in-Some-at-2 c =
    let t = tree_of c.args.v.now in
    let past : length c.args.strings.now ≤ c.loop-place.place = omega arith in
    let here : c.loop-place.place ≡ c.len.result = omega (arith, c.loop-place.auto.place-end) in
    sym (key_left t _ _ _ _ (drop_all _ _ past) (ap (λ n. drop n c.args.keys.now) here ∙ c.in-Some-at-2.ensures.stands))
    ∙ c.loop-place.invariant ∙ gives_whole t c.args.strings.now c.args.keys.now

pub returns-in-None-at : goal.returns-in-None-at
returns-in-None-at c =
    let t = tree_of c.args.v.now in
    let past : length c.args.strings.now ≤ c.loop-place.place = omega arith in
    let none : length c.args.keys.now ≤ c.loop-place.place = omega (arith, c.in-None-at.ensures.past_end) in
    sym (no_string_left t _ _ (drop_all _ _ past) (drop_all _ _ none)) ∙ c.loop-place.invariant ∙ gives_whole t c.args.strings.now c.args.keys.now
