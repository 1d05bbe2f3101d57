use Rattle.std.proofs.Common.{rules, lit<}
use Rattle.std.specs.Str.{chars}
use Rattle.std.proofs.lemmas.Iterator.Search.{all_from_yields_List}
use Rattle.std.proofs.lemmas.Iterator.Splits.{YieldsList-from_str_split}
use Rattle.path_grammar.specs.KeyPath.{is_identifier}
use Rattle.path_grammar.proofs.are_identifiers.Goals as goal

pub returns : goal.returns
returns c = all_from_yields_List (λ p. is_identifier (chars p)) _ _ _ c.all.ensures.ran
    (YieldsList-from_str_split 46 c.args.s.now (lit< tt) c.split.ensures.text c.split.ensures.has_more c.split.ensures.pattern) (λ x b q k. search rules)
