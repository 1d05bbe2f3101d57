-- The cursors of a front, one of them changed or one more added.
use Rattle.std.proofs.Common.{◌≡◌, ℕ, ◌==◌, true, false, ◌||◌, List, [], ◌∷◌, ◌++◌, Option, Some, None, IsSome, refl, sym, ◌∙◌, ap, inl, inr}
use Rattle.std.specs.Option.{is_none}
use Rattle.std.proofs.lemmas.Bool.Decides.{eqb_tells}
use Rattle.request_lists.specs.declared.entries.FrontCursor.{FrontCursor}
use Rattle.request_lists.specs.Fronts.{cursor_changed, handler_of, handler_lent, handler_returned}
use Rattle.handler_calls.specs.Attending.{has_cursor, lacks_handler}

module _ {D : Type 0} where
  pub has_more : (number : ℕ) (cs ds : List (FrontCursor D)) → has_cursor number cs ≡ true → has_cursor number (cs ++ ds) ≡ true
  has_more number [] ds e = cc
  has_more number (c ∷ cs) ds e = elim (eqb_tells c.request number) [ inl p ↦ rw p.0 refl | inr p ↦ rw p.0 (has_more number cs ds (rw p.0 at e)) ]

  pub lacks_more : (number : ℕ) (cs : List (FrontCursor D)) (c : FrontCursor D) → is_none c.handler ≡ false → lacks_handler number (cs ++ c ∷ []) ≡ lacks_handler number cs
  lacks_more number [] c e = elim (eqb_tells c.request number) [ inl p ↦ rw p.0 e | inr p ↦ rw p.0 refl ]
  lacks_more number (b ∷ cs) c e = elim (eqb_tells b.request number) [ inl p ↦ rw p.0 refl | inr p ↦ rw p.0 (lacks_more number cs c e) ]

  -- a change that keeps the number
  pub has_changed : (change : FrontCursor D → FrontCursor D) → ((c : FrontCursor D) → (change c).request ≡ c.request) → (at number : ℕ) (cs : List (FrontCursor D)) → has_cursor number (cursor_changed at change cs) ≡ has_cursor number cs
  has_changed change same at number [] = refl
  has_changed change same at number (c ∷ cs) = elim (eqb_tells c.request at) [
    | inl p ↦ rw p.0 (ap (λ r. r == number || has_cursor number cs) (same c))
    | inr p ↦ rw p.0 (ap (λ b. c.request == number || b) (has_changed change same at number cs))
  ]

  -- and the handler
  pub lacks_changed : (change : FrontCursor D → FrontCursor D) → ((c : FrontCursor D) → (change c).request ≡ c.request) → ((c : FrontCursor D) → is_none (change c).handler ≡ is_none c.handler)
      → (at number : ℕ) (cs : List (FrontCursor D)) → lacks_handler number (cursor_changed at change cs) ≡ lacks_handler number cs
  lacks_changed change same kept at number [] = refl
  lacks_changed change same kept at number (c ∷ cs) = elim (eqb_tells c.request at) [
    | inl p ↦ rw p.0 (rw (same c) (rw (kept c) refl))
    | inr p ↦ rw p.0 (rw (lacks_changed change same kept at number cs) refl)
  ]

  -- a handler that is lent lacks at its own cursor alone
  pub lacks_lent : (at number : ℕ) (cs : List (FrontCursor D)) → (at == number) ≡ false → lacks_handler number (cursor_changed at handler_lent cs) ≡ lacks_handler number cs
  lacks_lent at number [] e = refl
  lacks_lent at number (c ∷ cs) e = elim (eqb_tells c.request at) [
    | inl p ↦ rw p.0 (rw p.1 (rw e refl))
    | inr p ↦ rw p.0 (rw (lacks_lent at number cs e) refl)
  ]

  pub lacks_returned : (handler : D) (at number : ℕ) (cs : List (FrontCursor D)) → ((at == number) ≡ false → lacks_handler number cs ≡ false) → lacks_handler number (cursor_changed at (handler_returned handler) cs) ≡ false
  lacks_returned handler at number [] e = refl
  lacks_returned handler at number (c ∷ cs) e = elim (eqb_tells c.request at) [
    | inl p ↦ rw p.0 (at_own p.1)
    | inr p ↦ rw p.0 (behind (λ f. lacks_returned handler at number cs f) p.1)
  ]
    where
      at_own : c.request ≡ at → lacks_handler number (handler_returned handler c ∷ cs) ≡ false
      at_own s = elim (eqb_tells c.request number) [ inl q ↦ rw q.0 refl | inr q ↦ rw q.0 (rw q.0 at (e (rw (sym s) q.0))) ]

      apart : (c.request ≡ at → ⊥) → c.request ≡ number → (at == number) ≡ false
      apart s q = elim (eqb_tells at number) [ inl r ↦ absurd (s (q ∙ sym r.1)) | inr r ↦ r.0 ]

      behind : (((at == number) ≡ false → lacks_handler number cs ≡ false) → lacks_handler number (cursor_changed at (handler_returned handler) cs) ≡ false) → (c.request ≡ at → ⊥) → lacks_handler number (c ∷ cursor_changed at (handler_returned handler) cs) ≡ false
      behind again s = elim (eqb_tells c.request number) [ inl q ↦ rw q.0 (rw q.0 at (e (apart s q.1))) | inr q ↦ rw q.0 (again (λ d. rw q.0 at (e d))) ]

  -- what is there and is not lent is at hand
  pub at_hand : (number : ℕ) (cs : List (FrontCursor D)) → has_cursor number cs ≡ true → lacks_handler number cs ≡ false → IsSome (handler_of cs number)
  at_hand number [] h l = cc
  at_hand number (c ∷ cs) h l = elim (eqb_tells c.request number) [ inl p ↦ rw p.0 (there c.handler (rw p.0 at l)) | inr p ↦ rw p.0 (at_hand number cs (rw p.0 at h) (rw p.0 at l)) ]
    where
      there : (o : Option D) → is_none o ≡ false → IsSome o
      there None e = cc
      there (Some d) e = refl
