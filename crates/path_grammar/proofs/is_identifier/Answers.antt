use Rattle.std.proofs.Common.{◌≡◌, true, ◌&&◌, rules, refl, sym, ◌∙◌, ap}
use Rattle.std.specs.List.{list_all}
use Rattle.std.specs.Str.{chars}
use Rattle.std.proofs.lemmas.Iterator.{YieldsList-from_chars}
use Rattle.std.proofs.lemmas.Iterator.Search.{all_from_yields_List}
use Rattle.clone_values.specs.Characters.{took}
use Rattle.path_grammar.specs.KeyPath.{is_identifier, starts_identifier, continues_identifier}
use Rattle.path_grammar.proofs.is_identifier.Goals as goal

pub returns-then-starts_identifier : goal.returns-then-starts_identifier
returns-then-starts_identifier c =
    let whole = rw (sym c.chars-rest.ensures.rest) at c.utf8.part in
    let x = took _ _ _ c.in-Some.ensures.steps.0 whole in
    let starts : starts_identifier c.in-Some.first ≡ true = sym c.starts_identifier.ensures ∙ c.if-starts_identifier.true in
    let first = ap is_identifier (ap chars (sym c.chars-rest.ensures.rest) ∙ x.first) in
    all_from_yields_List continues_identifier _ _ _ c.all.ensures.ran (YieldsList-from_chars _ x.rest refl) (λ x b q k. search rules)
    ∙ sym (first ∙ ap (λ b. b && list_all continues_identifier (chars c.next.new.self.rest.now)) starts)
