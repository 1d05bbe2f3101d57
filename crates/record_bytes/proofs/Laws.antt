-- What other crates may cite of records and batches.
--     read_if_spelled, spelled_if_read      the bytes of a batch are read as its records, and nothing else is
--     Format, record_format, batch_format   the reader and the spelling of records, and of batches, fit together
pub use Rattle.value_bytes.proofs.Laws.{IsBytes, Format}
pub use Rattle.record_bytes.proofs.Batches.{read_if_spelled, spelled_if_read, record_format, batch_format}
