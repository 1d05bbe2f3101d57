use Rattle.std.proofs.Common.{nat_le, sym, ◌∙◌, ap}
use Rattle.idb_base.specs.declared.limits.TheConstants.{GREATEST_LENGTH}
use Rattle.clone_values.specs.View.{tree_of}
use Rattle.request_reads.specs.Reads.{has_few_items}
use Rattle.request_reads.proofs.Formed.{few_items}
use Rattle.request_reads.proofs.reads.has_few_items.Goals as goal

pub returns-in-Array : goal.returns-in-Array
returns-in-Array c = ap (λ n. nat_le n GREATEST_LENGTH) c.len.ensures.count ∙ few_items c.in-Array.items ∙ ap (λ v. has_few_items (tree_of v)) (sym c.in-Array.is)
