-- How long bytes are after a write over them, and what stays at their front.
use Rattle.std.proofs.Common.{◌≡◌, ℕ, ◌+◌, ◌-◌, ◌≤◌, min, List, ◌++◌, length, take, drop, replicate, refl, sym, ◌∙◌, ap, arith, append_assoc, length-append, length-take, length-drop}
use Rattle.std.proofs.lemmas.List.{take-append-le, take-take, length-replicate}
use Rattle.disk_trait.specs.declared.plan.Image.{Image}
use Rattle.disk_trait.specs.declared.plan.Image.TheVariants.{Kept, Dropped, Byte}
use Rattle.disk_trait.specs.Disk.{overwritten}
use Rattle.disk_trait.specs.Memory.{picked_write}

pub length-overwritten : (from : ℕ) (bytes old : List ℕ) → length (overwritten from bytes old) ≡ min from (length old) + length bytes + (length old - (from + length bytes))
length-overwritten from bytes old = simp (length-append, length-take, length-drop)

pub overwritten-le : (from : ℕ) (bytes old : List ℕ) → length (overwritten from bytes old) ≤ length old + length bytes
overwritten-le from bytes old = omega (arith, length-overwritten from bytes old)

pub overwritten-ge : (from : ℕ) (bytes old : List ℕ) → length old ≤ length (overwritten from bytes old)
overwritten-ge from bytes old = omega (arith, length-overwritten from bytes old)

pub front-overwritten : (k from : ℕ) (bytes old : List ℕ) → k ≤ from → k ≤ length old → take k (overwritten from bytes old) ≡ take k old
front-overwritten k from bytes old le within =
    let long : k ≤ length (take from old) = omega (arith, length-take from old) in
    ap (λ (l : List ℕ). take k l) (append_assoc (take from old) bytes (drop (from + length bytes) old))
    ∙ take-append-le k (take from old) (bytes ++ drop (from + length bytes) old) long
    ∙ take-take k from old le

pub picked_write-le : (image : Image) (from : ℕ) (bytes old : List ℕ) → length (picked_write image from bytes old) ≤ length old + length bytes
picked_write-le Kept from bytes old = overwritten-le from bytes old
picked_write-le Dropped from bytes old = omega arith
picked_write-le (Byte b) from bytes old = omega (arith, overwritten-le from (replicate (length bytes) b) old, length-replicate (length bytes) b)

pub picked_write-ge : (image : Image) (from : ℕ) (bytes old : List ℕ) → length old ≤ length (picked_write image from bytes old)
picked_write-ge Kept from bytes old = overwritten-ge from bytes old
picked_write-ge Dropped from bytes old = omega arith
picked_write-ge (Byte b) from bytes old = overwritten-ge from (replicate (length bytes) b) old

pub front-picked_write : (image : Image) (k from : ℕ) (bytes old : List ℕ) → k ≤ from → k ≤ length old → take k (picked_write image from bytes old) ≡ take k old
front-picked_write Kept k from bytes old le within = front-overwritten k from bytes old le within
front-picked_write Dropped k from bytes old le within = refl
front-picked_write (Byte b) k from bytes old le within = front-overwritten k from (replicate (length bytes) b) old le within

-- what is the same below a place is so below a lesser one, after a write behind that
pub same_after_write : (image : Image) (same k from : ℕ) (bytes reads picked : List ℕ) → k ≤ same → k ≤ from → same ≤ length reads → same ≤ length picked
    → take same reads ≡ take same picked → take k (overwritten from bytes reads) ≡ take k (picked_write image from bytes picked)
same_after_write image same k from bytes reads picked le behind in_reads in_picked is =
    front-overwritten k from bytes reads behind (omega arith) ∙ sym (take-take k same reads le) ∙ ap (λ (l : List ℕ). take k l) is
    ∙ take-take k same picked le ∙ sym (front-picked_write image k from bytes picked behind (omega arith))
