-- The names of errors (Web IDL, "DOMException", and Indexed Database API 3.0, "Exceptions").
use Rattle.std.specs.Prelude.{ℕ, List, codes}
use Rattle.idb_keys.specs.declared.names.ErrorName.{ErrorName}
use Rattle.idb_keys.specs.declared.names.ErrorName.TheVariants as error

-- the name as text
abbrev pub error_name : ErrorName → List ℕ
error_name error.AbortError = codes "AbortError"
error_name error.ConstraintError = codes "ConstraintError"
error_name error.DataCloneError = codes "DataCloneError"
error_name error.DataError = codes "DataError"
error_name error.InvalidAccessError = codes "InvalidAccessError"
error_name error.InvalidStateError = codes "InvalidStateError"
error_name error.NotFoundError = codes "NotFoundError"
error_name error.QuotaExceededError = codes "QuotaExceededError"
error_name error.ReadOnlyError = codes "ReadOnlyError"
error_name error.SyntaxError = codes "SyntaxError"
error_name error.TransactionInactiveError = codes "TransactionInactiveError"
error_name error.TypeError = codes "TypeError"
error_name error.UnknownError = codes "UnknownError"
error_name error.VersionError = codes "VersionError"
