use Rattle.std.proofs.Common.{◌≡◌, ◌<◌, ◌≤◌, ℕ, get_or, arith, sym, ◌∙◌, ap, remove, Ok, Err, List, Option, Some, None, OnSome}
use Rattle.std.specs.List.Sorted.{IsBinarySearchResult}
use Rattle.std.specs.Ordering.{nat_cmp}
use Rattle.std.proofs.lemmas.List.Sorted.{searched}
use Rattle.scope_desk.specs.Rising.{IsRising, without_number}
use Rattle.scope_desk.proofs.RisingLemmas.{in_order, taken_out, never, filtered}
use Rattle.scope_desk.proofs.lanes.Lane.leave.Goals as goal

out : (ns : List ℕ) (n i : ℕ) → IsRising ns → IsBinarySearchResult (λ y. nat_cmp y n) ns (Ok i) → remove ns i ≡ without_number n ns
out ns n i r found = let at = searched ns n (Ok i) found (in_order 0 ns r) in taken_out 0 n ns i r at.0 at.1

apart : (n i k m : ℕ) → (k < i → m < n) → (i ≤ k → n < m) → m ≡ n → ⊥
apart n i k m f g e = grind arith

stays : (ns : List ℕ) (n i : ℕ) → IsRising ns → IsBinarySearchResult (λ y. nat_cmp y n) ns (Err i) → without_number n ns ≡ ns
stays ns n i r found =
    let at = searched ns n (Err i) found (in_order 0 ns r) in
    never n ns (λ k l e. apart n i k (get_or ns k 0) (at.1 k) (λ b. at.2 k b l) e)

was_there : {A E : Type 0} (r : Option A) (x : A) → r ≡ Some x → OnSome r E → E
was_there None x e h = cc
was_there (Some y) x e h = h

pub invariant_of-self : goal.invariant_of-self
invariant_of-self c = rw ((was_there _ _ (c.remove.ensures.succeeds 0 c.in-Ok.ensures.bound) c.remove.ensures.items), out _ _ _ c.self.invariant c.in-Ok.ensures.position) (filtered _ 0 _ c.self.invariant)

pub returns-in-Ok : goal.returns-in-Ok
returns-in-Ok c = (was_there _ _ (c.remove.ensures.succeeds 0 c.in-Ok.ensures.bound) c.remove.ensures.items) ∙ out _ _ _ c.self.invariant c.in-Ok.ensures.position ∙ ap (without_number c.args.number) c.self.view_is

pub returns-in_default : goal.returns-in_default
returns-in_default c = rw (← c.self.view_is) (sym (stays _ _ _ c.self.invariant c.in_default.ensures.position))
