-- What other crates cite to prove what they read and write with the fields of this one.
--     Format                a reader and a spelling that fit together
--     count, word, number, string, byte_string, text, value, key      those of fields, values and keys
--     checked, pair, counted, good_as      formats made of formats
--     value_grammar, key_grammar           the grammars of values and of keys
--     Grammar, stood, refused, told_apart, no_prefix, one, one_spelling      what follows for a grammar
--     goes_on, ends, is_done               a loop that reads so many
--     begins_more, begins_then             what a call that failed left
pub use Rattle.value_bytes.proofs.Formats.{IsBytes, Took, Format, checked, pair, good_as}
pub use Rattle.value_bytes.proofs.Grammars.{Grammar, Stood, stood, refused, told_apart, no_prefix, one, one_spelling}
pub use Rattle.value_bytes.proofs.FieldFormats.{count, word, number, string, byte_string, text, counted}
pub use Rattle.value_bytes.proofs.Values.{value, value_grammar}
pub use Rattle.value_bytes.proofs.KeyValues.{key, key_grammar}
pub use Rattle.value_bytes.proofs.Loop.{with_front, goes_on, ends, is_done}
pub use Rattle.value_bytes.proofs.Puts.{begins_more, begins_then}
