-- What changes keep of a store's marks, on the whole.
--     kept_same, kept_again         no change;  one after another
--     kept_through                  a change of the parts that keeps their places
--     marked_here, undone_marks     a mark of now;  the marks before the one that was undone to
--     current_kept, current_undone  a number stays in its range
--     whole_now, whole_then         the store now, and at each place, is as it should be
--     settled_anew, settled_undone  the store at the last settle, where the past was forgotten or cut
use Rattle.std.specs.Prelude.{◌≡◌, ℕ, ◌≤◌, Bool, List, [], length, take, refl}
use Rattle.std.proofs.Common.{sym, ap, ◌∙◌, subst, arith}
use Rattle.store_contents.specs.Store.{Content, Kept, unnumbered, numbered, content_at, at_mark, KeepsPlaces, KeepsPast}
use Rattle.store_contents.specs.IsStore.{IsCurrent, IsStore}
use Rattle.object_stores.specs.Parts.{content_in, log_in, past_in, kept_in, IsSound}
use Rattle.object_stores.specs.declared.changes.Parts.{Parts}
use Rattle.store_contents.proofs.Laws.{at_end, cut_at}
use Rattle.object_stores.proofs.Logged.{fine_now, place_fine, place_auto}

pub kept_same : (kept : Kept) → KeepsPast kept kept
kept_same kept = record { longer = omega arith; places = λ place current h. refl; settled = refl }

pub kept_again : (a b c : Kept) → KeepsPast a b → KeepsPast b c → KeepsPast a c
kept_again a b c first second = record {
  longer = omega (arith, first.longer, second.longer);
  places = λ place current h. second.places place current (omega (arith, h, first.longer)) ∙ first.places place current h;
  settled = second.settled ∙ first.settled;
}

-- a mark of now leads to the store as it is
pub marked_here : (kept : Kept) → at_mark kept (length kept.past) kept.store.current ≡ kept.store
marked_here kept = ap (λ c. numbered c kept.store.current) (at_end kept.past (unnumbered kept.store))

-- the marks before the one that was undone to lead where they led
pub undone_marks : (old new : Kept) (place current : ℕ) → place ≤ length old.past → new.store ≡ at_mark old place current → new.past ≡ take place old.past
    → (p n : ℕ) → p ≤ place → at_mark new p n ≡ at_mark old p n
undone_marks old new place current le store past p n h =
    (λ i. numbered (content_at (past i) (unnumbered (store i)) p) n) ∙ ap (λ c. numbered c n) (cut_at old.past (unnumbered old.store) place p h le)

module _ {T R W : Type 0} (old new : Parts T R W) where
  pub kept_through : (n m settled : ℕ) → KeepsPlaces (past_in old) (content_in old) (past_in new) (content_in new) → KeepsPast (kept_in old n settled) (kept_in new m settled)
  kept_through n m settled keeps = record {
    longer = keeps.longer;
    places = λ place current h. ap (λ c. numbered c current) (keeps.places place h);
    settled = ap (λ c. numbered c settled) (keeps.places 0 (omega arith));
  }

  same_first : content_at (past_in new) (content_in new) 0 ≡ content_at (past_in old) (content_in old) 0 → new.contents.info.auto ≡ old.contents.info.auto
  same_first e = sym (place_auto new 0) ∙ ap (λ (c : Content). c.info.auto) e ∙ place_auto old 0

  pub current_kept : (n : ℕ) → KeepsPlaces (past_in old) (content_in old) (past_in new) (content_in new) → IsCurrent old.contents.info.auto n → IsCurrent new.contents.info.auto n
  current_kept n keeps h = subst (λ (b : Bool). IsCurrent b n) (sym (same_first (keeps.places 0 (omega arith)))) h

  module _ (place : ℕ) (content : content_in new ≡ content_at (past_in old) (content_in old) place) (past : past_in new ≡ take place (past_in old)) (le : place ≤ length (past_in old)) where
    first_undone : content_at (past_in new) (content_in new) 0 ≡ content_at (past_in old) (content_in old) 0
    first_undone = (λ i. content_at (past i) (content i) 0) ∙ cut_at (past_in old) (content_in old) place 0 (omega arith) le

    pub settled_undone : (settled : ℕ) → numbered (content_at (past_in new) (content_in new) 0) settled ≡ numbered (content_at (past_in old) (content_in old) 0) settled
    settled_undone settled = ap (λ c. numbered c settled) first_undone

    pub current_undone : (n : ℕ) → IsCurrent old.contents.info.auto n → IsCurrent new.contents.info.auto n
    current_undone n h = subst (λ (b : Bool). IsCurrent b n) (sym (same_first first_undone)) h

module _ {T R W : Type 0} (parts : Parts T R W) (sound : IsSound parts) where
  pub whole_now : (n : ℕ) → IsCurrent parts.contents.info.auto n → IsStore (numbered (content_in parts) n)
  whole_now n h = record { content = fine_now (log_in parts) (content_in parts) sound.undo; current = h }

  pub whole_then : (place n : ℕ) → IsCurrent parts.contents.info.auto n → IsStore (numbered (content_at (past_in parts) (content_in parts) place) n)
  whole_then place n h = record {
    content = place_fine parts place sound;
    current = subst (λ (b : Bool). IsCurrent b n) (sym (place_auto parts place)) h;
  }

-- without a past the store now is the one of the last settle
pub settled_anew : (past : List Content) (c : Content) (n : ℕ) → past ≡ [] → numbered (content_at past c 0) n ≡ numbered c n
settled_anew past c n none = ap (λ x. numbered x n) (ap (λ p. content_at p c 0) none ∙ at_end [] c)
