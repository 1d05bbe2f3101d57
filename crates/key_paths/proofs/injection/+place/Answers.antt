use Rattle.std.proofs.Common.{◌≡◌, Some, [], true, OnOk, sym, ◌∙◌, ap, subst, lit<, arith, unwrap_or}
use Rattle.std.proofs.lemmas.Result.{on_ok_weaker}
use Rattle.std.proofs.lemmas.Str.Pattern.{split_once_first}
use Rattle.clone_values.specs.Tree.{array, object, no_members, trees_of, members_of}
use Rattle.clone_values.specs.Names.{set_member}
use Rattle.clone_values.specs.View.{tree_of}
use Rattle.clone_values.proofs.Laws.{members_again}
use Rattle.path_grammar.specs.KeyPath.{parts_of}
use Rattle.path_grammar.proofs.Laws.{one_part, some_part}
use Rattle.key_paths.specs.Injection.{placed, placed_in, with_properties, has_room_in, ends_in}
use Rattle.key_paths.specs.Evaluation.{named_properties}
use Rattle.key_paths.proofs.Walks.{cut_parts, more_shorter}
use Rattle.key_paths.proofs.PathEnds.{holder_so, into, room_into, others_left}
use Rattle.key_paths.proofs.Placing.{ends_held, room_held, room_if_missing, placed_by, is_neither}
use Rattle.key_paths.proofs.injection.+place.Goals as goal

pub place_in-set_property-requires-clause-room : goal.place_in-set_property-requires-clause-room
place_in-set_property-requires-clause-room t c =
    let cut = rw c.in-None.is at (split_once_first 46 _ _ c.split_once.ensures.cases (lit< tt)) in
    room_if_missing [] c.args.s.now c.args.props.now (subst (λ ps. has_room_in ps c.args.props.now ≡ true) (one_part _ cut) c.requires.1.1.1.0)

pub place_in-returns-in-None-clause-placed : goal.place_in-returns-in-None-clause-placed
place_in-returns-in-None-clause-placed t c =
    let cut = rw c.in-None.is at (split_once_first 46 _ _ c.split_once.ensures.cases (lit< tt)) in
    subst (λ p. OnOk c.set_property.result (c.set_property.new.props ≡ p)) (ap (λ ps. placed_in ps c.args.props.now (tree_of c.args.value)) (sym (one_part _ cut))) c.set_property.ensures.stored

pub place_in-place-requires : goal.place_in-place-requires
place_in-place-requires t c =
    let cut = rw c.in-Some.is at (split_once_first 46 _ _ c.split_once.ensures.cases (lit< tt)) in
    let held = sym c.in-Some-find.ensures ∙ ap (λ v. Some (tree_of v)) (sym c.in_ok-inner-in-Some-find.ensures) in
    let name = c.in-Some.name.now in
    let props = c.args.props.now in
    let shorter = more_shorter _ _ _ cut.0 cut.1 cut.2 in (
      omega (arith, shorter),
      (
        ends_held _ name props _ held (subst (λ ps. ends_in ps props ≡ true) (others_left _ _ _ cut.0 cut.1 cut.2) c.requires.1.1.0),
        (
          room_held _ name props _ held (subst (λ ps. has_room_in ps props ≡ true) (cut_parts _ _ _ cut.0 cut.1 cut.2) c.requires.1.1.1.0),
          omega (arith, shorter, c.requires.1.1.1.1),
        ),
      ),
    )

pub place_in-returns-in_ok-place-in-Some-find-clause-placed : goal.place_in-returns-in_ok-place-in-Some-find-clause-placed
place_in-returns-in_ok-place-in-Some-find-clause-placed t c =
    let cut = rw c.in-Some.is at (split_once_first 46 _ _ c.split_once.ensures.cases (lit< tt)) in
    let held = sym c.in-Some-find.ensures ∙ ap (λ v. Some (tree_of v)) (sym c.in_ok-inner-in-Some-find.ensures) in
    let name = c.in-Some.name.now in
    let more = parts_of c.in-Some.more.now in
    let whole : set_member c.args.props.now name (tree_of c.place.new.v) ≡ placed_in (parts_of c.args.s.now) c.args.props.now (tree_of c.args.value) =
    ap (set_member c.args.props.now name) c.in_ok-place-in-Some-find.ensures.placed
    ∙ ap (λ o. set_member c.args.props.now name (placed more (unwrap_or o (object no_members)) (tree_of c.args.value))) (sym held)
    ∙ ap (λ ps. placed_in ps c.args.props.now (tree_of c.args.value)) (sym (cut_parts _ _ _ cut.0 cut.1 cut.2)) in
    subst (λ p. OnOk c.set_property-in-Some-find.result (c.set_property-in-Some-find.new.props ≡ p)) whole c.set_property-in-Some-find.ensures.stored

pub place_in-set_property-requires-in-None-find-clause-room : goal.place_in-set_property-requires-in-None-find-clause-room
place_in-set_property-requires-in-None-find-clause-room t c =
    let cut = rw c.in-Some.is at (split_once_first 46 _ _ c.split_once.ensures.cases (lit< tt)) in
    room_if_missing _ c.in-Some.name.now c.args.props.now (subst (λ ps. has_room_in ps c.args.props.now ≡ true) (cut_parts _ _ _ cut.0 cut.1 cut.2) c.requires.1.1.1.0)

pub place_in-returns-in_ok-inner-in-None-find-clause-placed : goal.place_in-returns-in_ok-inner-in-None-find-clause-placed
place_in-returns-in_ok-inner-in-None-find-clause-placed t c =
    let cut = rw c.in-Some.is at (split_once_first 46 _ _ c.split_once.ensures.cases (lit< tt)) in
    let name = c.in-Some.name.now in
    let more = parts_of c.in-Some.more.now in
    let whole : set_member c.args.props.now name (tree_of c.in_ok-inner-in-None-find.inner) ≡ placed_in (parts_of c.args.s.now) c.args.props.now (tree_of c.args.value) =
    ap (set_member c.args.props.now name) c.in_ok-inner-in-None-find.ensures
    ∙ ap (λ o. set_member c.args.props.now name (placed more (unwrap_or o (object no_members)) (tree_of c.args.value))) c.in-None-find.ensures
    ∙ ap (λ ps. placed_in ps c.args.props.now (tree_of c.args.value)) (sym (cut_parts _ _ _ cut.0 cut.1 cut.2)) in
    subst (λ p. OnOk c.set_property-in-None-find.result (c.set_property-in-None-find.new.props ≡ p)) whole c.set_property-in-None-find.ensures.stored

pub place-unreachable-requires : goal.place-unreachable-requires
place-unreachable-requires t c = is_neither c.args.v.now c.in_default.not-Array c.in_default.not-Object (holder_so _ _ c.requires.1.1.0)

pub place-place_in-requires : goal.place-place_in-requires
place-place_in-requires t c =
    let same = ap (λ w. named_properties (tree_of w)) c.in-Array.is ∙ members_again c.in-Array.props in
    (omega arith, (into _ _ _ same c.requires.1.1.0, (room_into _ _ _ same c.requires.1.1.1.0, c.requires.1.1.1.1)))

pub place-place_in-requires-in-Object : goal.place-place_in-requires-in-Object
place-place_in-requires-in-Object t c =
    let same = ap (λ w. named_properties (tree_of w)) c.in-Object.is ∙ members_again c.in-Object.props in
    (omega arith, (into _ _ _ same c.requires.1.1.0, (room_into _ _ _ same c.requires.1.1.1.0, c.requires.1.1.1.1)))

pub place-returns-in-Array-clause-placed : goal.place-returns-in-Array-clause-placed
place-returns-in-Array-clause-placed t c =
    let same = ap (λ w. named_properties (tree_of w)) c.in-Array.is ∙ members_again c.in-Array.props in
    on_ok_weaker c.place_in.result
    (λ h. ap (λ ms. array (trees_of c.in-Array.field-0) (members_of ms)) h ∙ ap (λ w. with_properties (tree_of w) (placed_in (parts_of c.args.s.now) c.in-Array.props (tree_of c.args.value))) (sym c.in-Array.is)
    ∙ placed_by (parts_of c.args.s.now) (tree_of c.args.v.now) (tree_of c.args.value) c.in-Array.props (some_part c.args.s.now) same)
    c.place_in.ensures.placed

pub place-returns-in-Object-clause-placed : goal.place-returns-in-Object-clause-placed
place-returns-in-Object-clause-placed t c =
    let same = ap (λ w. named_properties (tree_of w)) c.in-Object.is ∙ members_again c.in-Object.props in
    on_ok_weaker c.place_in-in-Object.result
    (λ h. ap (λ ms. object (members_of ms)) h ∙ ap (λ w. with_properties (tree_of w) (placed_in (parts_of c.args.s.now) c.in-Object.props (tree_of c.args.value))) (sym c.in-Object.is)
    ∙ placed_by (parts_of c.args.s.now) (tree_of c.args.v.now) (tree_of c.args.value) c.in-Object.props (some_part c.args.s.now) same)
    c.place_in-in-Object.ensures.placed
