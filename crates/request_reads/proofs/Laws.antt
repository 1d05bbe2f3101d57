-- What other crates may cite of answers.
--     value_formed, key_formed, count_formed, values_formed, keys_formed, cursor_formed       each answer is a well formed value
pub use Rattle.request_reads.proofs.Formed.{value_formed, key_formed, count_formed, values_formed, keys_formed, cursor_formed}
