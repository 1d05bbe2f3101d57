use Rattle.std.proofs.Common.{◌<◌, List, None, rules, arith, length, map, sym, ◌∙◌, ap, subst}
use Rattle.std.proofs.lemmas.List.{length-map}
use Rattle.clone_values.specs.Tree.{Tree}
use Rattle.clone_values.specs.View.{pair_of}
use Rattle.value_members.specs.Shown.{IsIndex}
use Rattle.value_members.proofs.Indexes.{found, nowhere, there, grows_at, grows_without, pushed, keys_stay, put_there, put_behind}
use Rattle.value_members.proofs.map_builder.put_entry.Goals as goal

-- the keys of entries
abbrev keys_of : List (Tree × Tree) → List Tree
keys_of ps = map (λ p. p.0) ps

pub replace_entry-requires : goal.replace_entry-requires
replace_entry-requires c =
    let is = rw c.in-Some.is at c.in_ok-key.ensures in
    let place = (there _ _ c.requires _ _ (found _ (pair_of c.args.entry).0 c.in-Some.key _ is.0 is.1 c.in-Some-get.ensures.value)).0 in
    let count = length-map (map pair_of c.args.entries.now.items) (λ p. p.0) ∙ length-map c.args.entries.now.items pair_of in
    let within : c.in-Some-get.place.now < length c.args.entries.now.items = omega (arith, place, count) in
    search rules

pub returns-in-Some-get-clause-index : goal.returns-in-Some-get-clause-index
returns-in-Some-get-clause-index c =
    let is = rw c.in-Some.is at c.in_ok-key.ensures in
    let at = found _ (pair_of c.args.entry).0 c.in-Some.key _ is.0 is.1 c.in-Some-get.ensures.value in
    subst (λ w. IsIndex c.args.places.now.entries w)
    (sym (ap keys_of c.replace_entry.ensures ∙ keys_stay _ (map pair_of c.args.entries.now.items) (pair_of c.args.entry).0 (pair_of c.args.entry).1 _ c.requires at)) c.requires

pub returns-in-Some-get-clause-stored : goal.returns-in-Some-get-clause-stored
returns-in-Some-get-clause-stored c =
    let is = rw c.in-Some.is at c.in_ok-key.ensures in
    let at = found _ (pair_of c.args.entry).0 c.in-Some.key _ is.0 is.1 c.in-Some-get.ensures.value in
    c.replace_entry.ensures ∙ sym (put_there _ (map pair_of c.args.entries.now.items) (pair_of c.args.entry).0 (pair_of c.args.entry).1 _ c.requires at)

pub returns-in_ok-put_new-in-None-get-clause-index : goal.returns-in_ok-put_new-in-None-get-clause-index
returns-in_ok-put_new-in-None-get-clause-index c =
    let is = rw c.in-Some.is at c.in_ok-key.ensures in
    let absent = found _ (pair_of c.args.entry).0 c.in-Some.key None is.0 is.1 c.in-None-get.ensures.value in
    let put = c.in_ok-put_new-in-None-get.ensures in
    let keys = pushed (λ p. p.0) _ _ (pair_of c.args.entry) (pushed pair_of _ _ c.args.entry put.stored) in
    let count = sym (length-map (map pair_of c.args.entries.now.items) (λ p. p.0) ∙ length-map c.args.entries.now.items pair_of) in
    subst (λ w. IsIndex c.put_new.new.places.entries w) (sym keys) (grows_at _ _ c.requires _ absent _ c.in-Some.key _ count is.0 is.1 put.kept)

pub returns-in_ok-put_new-in-None-get-clause-stored : goal.returns-in_ok-put_new-in-None-get-clause-stored
returns-in_ok-put_new-in-None-get-clause-stored c =
    let is = rw c.in-Some.is at c.in_ok-key.ensures in
    let absent = found _ (pair_of c.args.entry).0 c.in-Some.key None is.0 is.1 c.in-None-get.ensures.value in
    pushed pair_of _ _ c.args.entry c.in_ok-put_new-in-None-get.ensures.stored
    ∙ sym (put_behind _ (map pair_of c.args.entries.now.items) (pair_of c.args.entry).0 (pair_of c.args.entry).1 c.requires absent)

pub returns-in_ok-push-in-None-clause-index : goal.returns-in_ok-push-in-None-clause-index
returns-in_ok-push-in-None-clause-index c =
    let other = rw c.in-None.is at c.in_ok-key.ensures in
    let u = (pair_of c.args.entry).0 in
    let keys = pushed (λ p. p.0) _ _ (pair_of c.args.entry) (pushed pair_of _ _ c.args.entry c.in_ok-push-in-None.ensures.items) in
    subst (λ w. IsIndex c.args.places.now.entries w) (sym keys) (grows_without _ _ c.requires u (nowhere _ _ c.requires u other) other)

pub returns-in_ok-push-in-None-clause-stored : goal.returns-in_ok-push-in-None-clause-stored
returns-in_ok-push-in-None-clause-stored c =
    let other = rw c.in-None.is at c.in_ok-key.ensures in
    let u = (pair_of c.args.entry).0 in
    pushed pair_of _ _ c.args.entry c.in_ok-push-in-None.ensures.items
    ∙ sym (put_behind _ (map pair_of c.args.entries.now.items) u (pair_of c.args.entry).1 c.requires (nowhere _ _ c.requires u other))
