use Rattle.std.proofs.Common.{◌≡◌, string_bytes, true, sym, ◌∙◌, rules, arith}
use Rattle.std.proofs.lemmas.Grind.{common_steps}
use Rattle.serde_json.proofs.Views.{Entry}
use Rattle.value_json.specs.Marks.{is_full_array}
use Rattle.value_json.proofs.LevelsLemmas.{two_members_level}
use Rattle.value_json.proofs.levels.object_level.Goals as goal

pub returns-clause-read : goal.returns-clause-read
returns-clause-read c =
    let m : Entry = (c.in-Some.name.now, c.in-Some.member.now) in
    let o : Entry = (c.in-Some-next.other.now, c.in-Some-next.named.now) in
    let all : c.iter-each.result ≡ c.args.members.now.entries = search rules in
    let names : is_full_array (string_bytes m.0) (string_bytes o.0) ≡ true = search rules in
    let full = two_members_level _ _ _ m o (sym all ∙ c.in-Some.ensures.steps) c.in-Some-next.ensures.steps c.in-None.ensures.steps.0 names in
    rw full c.lists_level.ensures.read
