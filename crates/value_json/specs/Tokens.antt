-- The tokens of the text of a value's document.
--     tokens_of             all of them
--     rest_of_items, rest_of_pairs, rest_of_named, rest_of_members      what stands after the opening bracket
use Rattle.std.specs.Prelude.{List}
use Rattle.clone_values.specs.Tree.{Tree, Trees, Members, PairTrees, no_members, member_more}
use Rattle.json.specs.Token.{Token}
use Rattle.json.specs.Tree.{json_tokens, items_tokens, members_tokens}
use Rattle.serde_json.specs.Data.{Data}
use Rattle.serde_json.specs.Data as json
use Rattle.serde_json.specs.View.{items_of}
use Rattle.serde_json.specs.Written.{outline, items_outline, members_outline}
use Rattle.value_json.specs.Writing.{json_of, items_json, pairs_json, named_json}

abbrev pub tokens_of : Tree → List Token
tokens_of t = json_tokens (outline (json_of t))

abbrev pub rest_of_items : Trees → List Token
rest_of_items ts = items_tokens (items_outline (items_of (items_json ts)))

abbrev pub rest_of_pairs : PairTrees → List Token
rest_of_pairs ps = items_tokens (items_outline (items_of (pairs_json ps)))

abbrev pub rest_of_named : Members → List Token
rest_of_named ms = items_tokens (items_outline (items_of (named_json ms)))

-- each property at its name, in the order of the list
abbrev pub in_order : Members → json.Members
in_order no_members = json.no_members
in_order (member_more n t ms) = json.member n (json_of t) (in_order ms)

abbrev pub rest_of_members : Members → List Token
rest_of_members ms = members_tokens (members_outline (in_order ms))
