use Rattle.std.proofs.Common.{None, sym, ◌∙◌, subst}
use Rattle.std.proofs.lemmas.List.{length-map}
use Rattle.clone_values.specs.View.{tree_of}
use Rattle.value_members.specs.Shown.{IsIndex}
use Rattle.value_members.proofs.Indexes.{found, nowhere, put_new, there, grows_at, grows_without, pushed}
use Rattle.value_members.proofs.set_builder.put_member.Goals as goal

pub returns-in_ok-push-in-None-clause-index : goal.returns-in_ok-push-in-None-clause-index
returns-in_ok-push-in-None-clause-index c =
    let other = rw c.in-None.is at c.in_ok-key.ensures in
    let u = tree_of c.args.value in
    subst (λ w. IsIndex c.args.places.now.entries w) (sym (pushed tree_of _ _ c.args.value c.in_ok-push-in-None.ensures.items))
    (grows_without _ _ c.requires u (nowhere _ _ c.requires u other) other)

pub returns-in_ok-push-in-None-clause-stored : goal.returns-in_ok-push-in-None-clause-stored
returns-in_ok-push-in-None-clause-stored c =
    let other = rw c.in-None.is at c.in_ok-key.ensures in
    let u = tree_of c.args.value in
    pushed tree_of _ _ c.args.value c.in_ok-push-in-None.ensures.items ∙ sym (put_new _ _ c.requires u (nowhere _ _ c.requires u other))

pub returns-in-Some-get-clause-stored : goal.returns-in-Some-get-clause-stored
returns-in-Some-get-clause-stored c =
    let is = rw c.in-Some.is at c.in_ok-key.ensures in
    let u = tree_of c.args.value in
    sym (there _ _ c.requires u _ (found _ u c.in-Some.key _ is.0 is.1 c.in-Some-get.ensures.value)).1

pub returns-in_ok-put_new-in-None-get-clause-index : goal.returns-in_ok-put_new-in-None-get-clause-index
returns-in_ok-put_new-in-None-get-clause-index c =
    let is = rw c.in-Some.is at c.in_ok-key.ensures in
    let u = tree_of c.args.value in
    let put = c.in_ok-put_new-in-None-get.ensures in
    subst (λ w. IsIndex c.put_new.new.places.entries w) (sym (pushed tree_of _ _ c.args.value put.stored))
    (grows_at _ _ c.requires u (found _ u c.in-Some.key None is.0 is.1 c.in-None-get.ensures.value) _ c.in-Some.key _ (sym (length-map c.args.members.now.items tree_of)) is.0 is.1 put.kept)

pub returns-in_ok-put_new-in-None-get-clause-stored : goal.returns-in_ok-put_new-in-None-get-clause-stored
returns-in_ok-put_new-in-None-get-clause-stored c =
    let is = rw c.in-Some.is at c.in_ok-key.ensures in
    let u = tree_of c.args.value in
    let absent = found _ u c.in-Some.key None is.0 is.1 c.in-None-get.ensures.value in
    pushed tree_of _ _ c.args.value c.in_ok-put_new-in-None-get.ensures.stored ∙ sym (put_new _ _ c.requires u absent)
