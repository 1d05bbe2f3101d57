-- The blocks of a client.
--     block_body            the statements of the block at a place; none where no block stands there
use Rattle.std.specs.Prelude.{ℕ, List, [], option_map, unwrap_or, slice_get}
use Rattle.script_statements.specs.declared.script.Block.{Block}
use Rattle.script_statements.specs.declared.statement.Stmt.{Stmt}

abbrev pub block_body : List Block → ℕ → List Stmt
block_body blocks place = unwrap_or (option_map (λ b. b.body) (slice_get blocks place)) []
