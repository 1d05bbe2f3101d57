-- What other crates may cite.
pub use Rattle.item_changes.proofs.Laws.{changed_here, changed_twice, found_both, made_both, names_total, one_name, same_name}
