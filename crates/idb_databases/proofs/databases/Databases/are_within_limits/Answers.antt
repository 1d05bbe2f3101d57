use Rattle.std.proofs.Common.{◌≡◌, ◌&&◌, true, false, length, sym, ap, ◌∙◌, rules, arith}
use Rattle.std.proofs.Math.Dec.{leb}
use Rattle.std.proofs.lemmas.Bool.{le-leb, lt-leb}
use Rattle.std.specs.FinMap as finite
use Rattle.std.specs.List.{list_all}
use Rattle.item_changes.specs.Items.{name_cmp}
use Rattle.idb_databases.specs.Items.{fits_stores, is_within_limits}
use Rattle.idb_databases.specs.Views.{database_alone, items_seen}
use Rattle.idb_databases.proofs.ByNames.{len_of, values_of}
use Rattle.idb_databases.proofs.databases.Databases.are_within_limits.Goals as goal

pub returns-then-len-le-GREATEST_DATABASE_COUNT : goal.returns-then-len-le-GREATEST_DATABASE_COUNT
returns-then-len-le-GREATEST_DATABASE_COUNT g c =
    let es = c.self.inside.items.items in
    let n : c.len.result ≡ length es = search rules in
    let count = n ∙ sym (len_of name_cmp database_alone es c.self.invariant.sorted) in
    let few : leb c.len.result 16 ≡ true = le-leb c.len.result 16 (omega (arith, c.if-len-le-GREATEST_DATABASE_COUNT.true)) in
    rw c.deref.ensures.value at c.stores_fit.ensures
    ∙ sym (values_of name_cmp database_alone fits_stores es c.self.invariant.sorted)
    ∙ ap (λ b. b && list_all fits_stores (finite.values (items_seen es))) (sym few ∙ ap (λ k. leb k 16) count)
    ∙ ap is_within_limits c.self.view_is

pub returns-else-len-le-GREATEST_DATABASE_COUNT : goal.returns-else-len-le-GREATEST_DATABASE_COUNT
returns-else-len-le-GREATEST_DATABASE_COUNT g c =
    let es = c.self.inside.items.items in
    let n : c.len.result ≡ length es = search rules in
    let count = n ∙ sym (len_of name_cmp database_alone es c.self.invariant.sorted) in
    let many : leb c.len.result 16 ≡ false = lt-leb c.len.result 16 (omega (arith, c.if-len-le-GREATEST_DATABASE_COUNT.false)) in
    many ∙ ap (λ b. b && list_all fits_stores (finite.values (items_seen es))) (sym many ∙ ap (λ k. leb k 16) count) ∙ ap is_within_limits c.self.view_is
