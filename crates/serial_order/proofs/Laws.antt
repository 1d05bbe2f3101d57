-- What other crates may cite of transactions that run one by one.
--     kept_within           what one leaves is in its scope
--     serial_by_number, serial_from_number  from the order in which they finished to that of their numbers, and back
--     items_of_committed    those that didn't commit leave nothing
--     number_same, number_rises     by their numbers they are the same ones, and rise
--     leaves_made, each_applies     what a committed one leaves is what its requests made, and applies where it stands
pub use Rattle.serial_order.proofs.Leaving.{kept_within}
pub use Rattle.serial_order.proofs.Ordering.{serial_by_number, serial_from_number, items_of_committed}
pub use Rattle.serial_order.proofs.Numbers.{number_same, number_rises}
pub use Rattle.serial_order.proofs.Applying.{leaves_made, each_applies}
