use Rattle.key_paths.proofs.ValuesFound.{evaluated_formed, extracted_formed}
use Rattle.key_paths.proofs.extraction.extraction_laws.Goals as goal

pub returns : goal.returns
returns c = record { value = evaluated_formed; keys = extracted_formed }
