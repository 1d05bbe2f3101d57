use Rattle.std.proofs.Common.{◌≡◌, ◌+◌, ◌∷◌, map, drop, string_bytes, Some, true, refl, sym, ap, ◌∙◌, arith, rules, length}
use Rattle.std.proofs.lemmas.List.{drop_more}
use Rattle.std.proofs.lemmas.Grind.{common_steps}
use Rattle.serde_json.specs.View.{view}
use Rattle.serde_json.proofs.Views.{Entry, view-Array}
use Rattle.clone_values.specs.Names.{set_member}
use Rattle.clone_values.specs.View.{tree_of}
use Rattle.clone_values.specs.WellFormed.{is_text}
use Rattle.value_json.specs.Marks.{is_full_array}
use Rattle.value_json.specs.Reading.{trees_in, pairs_in}
use Rattle.value_json.proofs.Documents.{all_read, read_one, set_one, two_members, two, not_two}
use Rattle.clone_values.proofs.Laws.{set_longer}
use Rattle.value_json.proofs.reading.+read.Goals as goal
use Rattle.value_json.proofs.reading.+read.Goals.{read_pair-in_default-as_slice-via-then-as_slice-lt2, read_pair-in_default-as_slice-via-else-as_slice-lt2+else-this-lt3}

pub read_values-loop-json-preserved : goal.read_values-loop-json-preserved
read_values-loop-json-preserved t c =
    let l = c.loop-json in
    let xs = c.deref-json-items.result.now in
    let x = c.json-item.result in
    let here : drop l.json-index xs ≡ x ∷ drop (l.json-index + 1) xs = drop_more xs l.json-index x (omega arith) ∙ ap (λ y. y ∷ drop (l.json-index + 1) xs) (sym c.json-item.is) in
    (omega arith, read_one xs l.json-index x _ _ _ here c.in_ok-read.ensures c.in_ok-push.ensures.items l.invariant.1)

pub read_values-returns-clause-read : goal.read_values-returns-clause-read
read_values-returns-clause-read t c = all_read trees_in refl _ _ c.loop-json.json-index _ c.deref-json-items.ensures.value (omega arith) (omega arith) c.loop-json.invariant.1

pub read_pairs-returns-clause-read : goal.read_pairs-returns-clause-read
read_pairs-returns-clause-read t c = all_read pairs_in refl _ _ c.loop-json.json-index _ c.deref-json-items.ensures.value (omega arith) (omega arith) c.loop-json.invariant.1

pub read_members-loop-name-preserved : goal.read_members-loop-name-preserved
read_members-loop-name-preserved t c =
    let l = c.loop-name in
    let e : Entry = (c.in-Some.name.now, c.in-Some.json.now) in
    let name = string_bytes c.in-Some.name.now in
    let stored : c.set.new.self ≡ set_member l.props name (tree_of c.in_ok-value.value) = c.in_ok-set.ensures.stored ∙ ap (λ n. set_member l.props n (tree_of c.in_ok-value.value)) (c.in_ok-copy_of.ensures ∙ c.as_str-text.ensures.value) in
    let steps = c.in-Some.ensures.steps in
    let short : is_text name ≡ true = search rules in (
      omega (arith, ap length steps, ap length stored, set_longer l.props name (tree_of c.in_ok-value.value), l.invariant.0),
      set_one l.name-iterator c.next.new.self e l.props _ _ steps short c.in_ok-value.ensures stored ∙ l.invariant.1,
    )

pub read_pair-returns-in_ok-value-in-len2 : goal.read_pair-returns-in_ok-value-in-len2
read_pair-returns-in_ok-value-in-len2 t c =
    let pair = two _ c.in-Array.list.items _ _ _ (ap view c.in-Array.is ∙ view-Array c.in-Array.list) c.as_slice.ensures.value (omega arith) c.first-item.is c.second-item.is in
    pair ∙ rw (c.in_ok-key-in-len2.ensures, c.in_ok-value-in-len2.ensures) refl

pub read_pair-returns-in_err-key-in-len2 : goal.read_pair-returns-in_err-key-in-len2
read_pair-returns-in_err-key-in-len2 t c =
    let pair = two _ c.in-Array.list.items _ _ _ (ap view c.in-Array.is ∙ view-Array c.in-Array.list) c.as_slice.ensures.value (omega arith) c.first-item.is c.second-item.is in
    rw pair (grind (arith, common_steps))

pub read_pair-returns-in_err-value-in-len2 : goal.read_pair-returns-in_err-value-in-len2
read_pair-returns-in_err-value-in-len2 t c =
    let pair = two _ c.in-Array.list.items _ _ _ (ap view c.in-Array.is ∙ view-Array c.in-Array.list) c.as_slice.ensures.value (omega arith) c.first-item.is c.second-item.is in
    rw (pair, c.in_ok-key-in-len2.ensures) (grind (arith, common_steps))

pub read_pair-returns-in_default-as_slice : goal.read_pair-returns-in_default-as_slice
read_pair-returns-in_default-as_slice t c =
    let seen = ap view c.in-Array.is ∙ view-Array c.in-Array.list in
    elim c.in_default-as_slice.branch [
      | read_pair-in_default-as_slice-via-then-as_slice-lt2 w ↦ not_two _ c.in-Array.list.items _ seen c.as_slice.ensures.value (λ h. grind arith)
      | read_pair-in_default-as_slice-via-else-as_slice-lt2+else-this-lt3 w ↦ not_two _ c.in-Array.list.items _ seen c.as_slice.ensures.value (λ h. grind arith)
    ]

pub read_object-returns-in_err-items : goal.read_object-returns-in_err-items
read_object-returns-in_err-items t c =
    let m : Entry = (c.in-Some.name.now, c.in-Some.member.now) in
    let o : Entry = (c.in-Some-next.other.now, c.in-Some-next.named.now) in
    let all : c.iter-each.result ≡ c.args.members.now.entries = search rules in
    let names : is_full_array (string_bytes m.0) (string_bytes o.0) ≡ true = search rules in
    let full = two_members _ _ _ m o (sym all ∙ c.in-Some.ensures.steps) c.in-Some-next.ensures.steps c.in-None.ensures.steps.0 names in
    rw full (grind (arith, common_steps))

pub read_object-returns-in_err-pairs : goal.read_object-returns-in_err-pairs
read_object-returns-in_err-pairs t c =
    let m : Entry = (c.in-Some.name.now, c.in-Some.member.now) in
    let o : Entry = (c.in-Some-next.other.now, c.in-Some-next.named.now) in
    let all : c.iter-each.result ≡ c.args.members.now.entries = search rules in
    let names : is_full_array (string_bytes m.0) (string_bytes o.0) ≡ true = search rules in
    let full = two_members _ _ _ m o (sym all ∙ c.in-Some.ensures.steps) c.in-Some-next.ensures.steps c.in-None.ensures.steps.0 names in
    rw (full, c.in_ok-items.ensures) (grind (arith, common_steps))

pub read_object-returns : goal.read_object-returns
read_object-returns t c =
    let m : Entry = (c.in-Some.name.now, c.in-Some.member.now) in
    let o : Entry = (c.in-Some-next.other.now, c.in-Some-next.named.now) in
    let all : c.iter-each.result ≡ c.args.members.now.entries = search rules in
    let names : is_full_array (string_bytes m.0) (string_bytes o.0) ≡ true = search rules in
    let full = two_members _ _ _ m o (sym all ∙ c.in-Some.ensures.steps) c.in-Some-next.ensures.steps c.in-None.ensures.steps.0 names in
    rw (full, c.in_ok-items.ensures, c.in_ok-pairs.ensures.read) c.full_array.ensures
