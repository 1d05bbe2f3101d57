-- What other crates may cite.
pub use Rattle.key_order.proofs.Laws.{key_cmp_same, key_cmp_total, then_equal}
