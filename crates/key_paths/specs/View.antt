-- What contracts see of an evaluation and of an extraction.
--     value_found              the value that was found, where it stands
--     extract_of            the same extraction with plain keys
--     extraction_of         what it comes to, without its keys
--     key_or_invalid        what a value comes to that is a key or not
use Rattle.std.specs.Prelude.{Bool, true, false, Option, Some, None}
use Rattle.clone_values.specs.Tree.{Tree, int}
use Rattle.clone_values.specs.View.{tree_of}
use Rattle.key_paths.specs.declared.evaluation.Found.{Found}
use Rattle.key_paths.specs.declared.evaluation.Found.TheVariants as found
use Rattle.clone_values.specs.View.{key_tree_of}
use Rattle.key_paths.specs.Evaluation.{Extract, one, many, invalid, failure}
use Rattle.key_paths.specs.declared.extraction.Extracted.{Extracted}
use Rattle.key_paths.specs.declared.extraction.Extracted.TheVariants as extraction
use Rattle.key_paths.specs.declared.extraction.Extraction.{Extraction}
use Rattle.key_paths.specs.declared.extraction.Extraction.TheVariants as kind

-- the value that was found
abbrev pub value_found : Found → Option Tree
value_found (found.Part v) = Some (tree_of v.now)
value_found (found.Length n) = Some (int n)
value_found found.Nothing = None

-- the same with plain keys
abbrev pub extract_of : Extracted → Extract
extract_of (extraction.One k) = one (key_tree_of k)
extract_of (extraction.Many ks) = many ks
extract_of extraction.Invalid = invalid
extract_of extraction.Failure = failure

-- what it comes to
abbrev pub extraction_of : Extract → Extraction
extraction_of (one k) = kind.Key
extraction_of (many ks) = kind.Keys
extraction_of invalid = kind.Invalid
extraction_of failure = kind.Failure

-- what one value comes to
abbrev pub key_or_invalid : Bool → Extraction
key_or_invalid true = kind.Key
key_or_invalid false = kind.Invalid
