use Rattle.std.proofs.Common.{◌≡◌, ℕ, List, [], ◌++◌, length, sym, ◌∙◌, ap, arith}
use Rattle.std.proofs.lemmas.List.{append-nil, nil_from_length}
use Rattle.std.proofs.lemmas.Bool.{eqb-true}
use Rattle.std.proofs.lemmas.Result.{on_ok_weaker}
use Rattle.disk_trait.specs.Areas.{area_of}
use Rattle.disk_trait.specs.Disk.{Torn, Written}
use Rattle.disk_trait.proofs.Laws.{widens}
use Rattle.gate_areas.specs.Steps.{Grows, GrowsBy}
use Rattle.gate_areas.proofs.Behind.{grows_torn, grows_by}
use Rattle.gate_areas.proofs.Runs.{widen_step, widen_leads}
use Rattle.gate_areas.proofs.make.put_behind.Goals as goal

pub returns-then-is_empty-clause-put : goal.returns-then-is_empty-clause-put
returns-then-is_empty-clause-put g c =
    let none : c.args.rest.now ≡ [] = nil_from_length c.args.rest.now (eqb-true (length c.args.rest.now) 0 (sym c.is_empty.ensures ∙ c.if-is_empty.true)) in
    on_ok_weaker c.write_synced.result
    (widen_leads c.args.area (Written 1 c.args.head.now) (GrowsBy (c.args.head.now ++ c.args.rest.now)) (g.D.Disk.shows c.args.disk.now) (g.D.Disk.shows c.write_synced.new.disk)
    (λ given told new written. grows_by 1 c.args.head.now (area_of c.args.area given) new (sym (g.met.D.Disk.lengths_are_told c.args.disk.now given c.args.area told) ∙ c.requires.one_byte) written
    ∙ ap (λ (l : List ℕ). area_of c.args.area given ++ l) (sym (append-nil c.args.head.now) ∙ ap (λ (l : List ℕ). c.args.head.now ++ l) (sym none))))
    c.write_synced.ensures.written

pub returns-then-is_empty-clause-any_moment : goal.returns-then-is_empty-clause-any_moment
returns-then-is_empty-clause-any_moment g c =
    widens c.write_synced.ensures.any_moment
    (λ image. widen_step c.args.area (Torn 1 (length c.args.head.now)) Grows _ image
    (λ given told new torn. let one : length (area_of c.args.area given) ≡ 1 = sym (g.met.D.Disk.lengths_are_told c.args.disk.now given c.args.area told) ∙ c.requires.one_byte in
    grows_torn 1 (length c.args.head.now) (area_of c.args.area given) (area_of c.args.area given) new ([], sym (append-nil (area_of c.args.area given))) (omega arith) torn))
