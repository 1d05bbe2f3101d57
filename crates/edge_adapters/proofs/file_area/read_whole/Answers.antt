use Rattle.std.proofs.Common.{◌≡◌, ℕ, ◌+◌, ◌-◌, ◌≤◌, List, ◌++◌, rules, arith, length, take, drop, sym, ap, ◌∙◌, le_refl, drop_at, length-take-le}
use Rattle.std.proofs.lemmas.Slice.{take-put_mid_below}
use Rattle.std.proofs.lemmas.List.{take-append-le}
use Rattle.std.proofs.Math.Seq.{take-add}
use borrow.Rule.Slice.PartMut.{put_mid, post_of}
use Rattle.edge_adapters.proofs.FilesLemmas.{filled_more}
use Rattle.edge_adapters.proofs.file_area.read_whole.Goals as goal

-- the bytes in front of a piece that was put into a buffer, and then the front of the piece
front_and_piece : (a k n : ℕ) (xs ys : List ℕ) → a ≤ length xs → n ≤ length ys → take a xs ++ take n ys ≡ take (a + n) (put_mid a k xs ys)
front_and_piece a k n xs ys within fits =
    let new = put_mid a k xs ys in
    let after = post_of a k xs in
    let front : take a new ≡ take a xs = take-put_mid_below a k xs ys a (le_refl a) within in
    let piece : take n (drop a new) ≡ take n ys = ap (take n) (drop_at (take a xs) (ys ++ after) a (length-take-le a xs within)) ∙ take-append-le n ys after fits in
    sym (take-add a n new ∙ ap (λ l. l ++ take n (drop a new)) front ∙ ap (λ l. take a xs ++ l) piece)

pub loop-done-preserved : goal.loop-done-preserved
loop-done-preserved g c = (
  omega (arith, c.in_ok-n.ensures.fits),
  c.in_ok-n.ensures.unchanged ∙ c.loop-done.invariant.1,
  filled_more c.args.from c.loop-done.done c.in_ok-n.n _ _ _ _ _ c.loop-done.invariant.1 (front_and_piece _ _ c.in_ok-n.n _ _ c.loop-done.invariant.0 c.in_ok-n.ensures.fits) c.loop-done.invariant.2 c.in_ok-n.ensures.bytes,
)
