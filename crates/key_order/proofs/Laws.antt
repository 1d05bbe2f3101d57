-- What other crates cite.
--     key_cmp_total, key_cmp_same      `key_cmp` is a total order in which only equal keys tie
--     then_equal            two answers one after the other tie only where both do
--     key_formed, keys_formed, value_formed       the key of a well formed value is well formed, as is the value of a key
pub use Rattle.key_order.proofs.TotalOrder.{key_cmp_total, key_cmp_same, then_equal}
pub use Rattle.key_order.proofs.KeyDepths.{all_shallow, once, shallow}
pub use Rattle.key_order.proofs.KeysFormed.{key_formed, keys_formed, value_formed}
