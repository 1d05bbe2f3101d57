-- What other crates cite.
--     key_formed, keys_formed, value_formed       the key of a well formed value is well formed, as is the value of a key
--     evaluated_formed, extracted_formed          what a key path gives on a well formed value is well formed
--     injected_formed, stays_cloneable            an injected value stays well formed, and cloneable
pub use Rattle.key_order.proofs.Laws.{key_formed, keys_formed, value_formed}
pub use Rattle.key_paths.proofs.ValuesFound.{evaluated_formed, extracted_formed}
pub use Rattle.key_paths.proofs.ValuesInjected.{injected_formed}
pub use Rattle.key_paths.proofs.StaysCloneable.{stays_cloneable, key_cloneable}
