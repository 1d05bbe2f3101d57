-- What a stop leaves of an area while bytes are written behind a gate, and while the gate is written.
use Rattle.std.proofs.Common.{◌≡◌, ℕ, ◌+◌, List, [], ◌∷◌, ◌++◌, length, take, drop, get_or, sym, ◌∙◌, ap, arith, append_assoc, length-append, take-append-drop}
use Rattle.std.proofs.lemmas.List.{append-nil, take_all, take_at, drop_at, drop_all, drop_more, drop-drop}
use Rattle.disk_trait.specs.Disk.{Torn, Written}
use Rattle.disk_trait.proofs.Laws.{torn_front}

module _ (front : List ℕ) (gate place : ℕ) (places : length front ≡ place) where
  ended : length (front ++ gate ∷ []) ≡ place + 1
  ended = omega (arith, length-append front (gate ∷ []))

  -- behind the gate may stand anything
  pub torn_behind : (n : ℕ) (new : List ℕ) → Torn (place + 1) n (front ++ gate ∷ []) new → (rest : List ℕ) × (new ≡ front ++ gate ∷ rest)
  torn_behind n new torn =
      let kept : take (place + 1) new ≡ front ++ gate ∷ [] =
      torn_front (place + 1) n (front ++ gate ∷ []) new (omega (arith, ended)) torn ∙ take_all (place + 1) (front ++ gate ∷ []) (omega (arith, ended)) in (
        drop (place + 1) new,
        sym (take-append-drop (place + 1) new) ∙ ap (λ (l : List ℕ). l ++ drop (place + 1) new) kept ∙ append_assoc front (gate ∷ []) (drop (place + 1) new),
      )

  -- done, it leaves them there
  pub written_behind : (bytes new : List ℕ) → Written (place + 1) bytes (front ++ gate ∷ []) new → new ≡ front ++ gate ∷ bytes
  written_behind bytes new written =
      written
      ∙ ap (λ (l : List ℕ). l ++ bytes ++ drop (place + 1 + length bytes) (front ++ gate ∷ [])) (take_all (place + 1) (front ++ gate ∷ []) (omega (arith, ended)))
      ∙ ap (λ (l : List ℕ). (front ++ gate ∷ []) ++ bytes ++ l) (drop_all (place + 1 + length bytes) (front ++ gate ∷ []) (omega (arith, ended)))
      ∙ append-nil ((front ++ gate ∷ []) ++ bytes)
      ∙ append_assoc front (gate ∷ []) bytes

  module _ (bytes : List ℕ) where
    long : length (front ++ gate ∷ bytes) ≡ place + 1 + length bytes
    long = omega (arith, length-append front (gate ∷ bytes))

    back : drop (place + 1) (front ++ gate ∷ bytes) ≡ bytes
    back = sym (drop-drop 1 place (front ++ gate ∷ bytes)) ∙ ap (λ (l : List ℕ). drop 1 l) (drop_at front (gate ∷ bytes) place places)

    -- any gate before the same bytes
    pub torn_gate : (new : List ℕ) → Torn place 1 (front ++ gate ∷ bytes) new → (other : ℕ) × (new ≡ front ++ other ∷ bytes)
    torn_gate new torn =
        let kept : take place new ≡ front = torn_front place 1 (front ++ gate ∷ bytes) new (omega (arith, long)) torn ∙ take_at front (gate ∷ bytes) place places in
        let rest : drop place new ≡ get_or new place 0 ∷ bytes =
        drop_more new place 0 (omega (arith, long, torn.no_shorter)) ∙ ap (λ (l : List ℕ). get_or new place 0 ∷ l) (torn.after ∙ back) in (
          get_or new place 0,
          sym (take-append-drop place new) ∙ ap (λ (l : List ℕ). l ++ drop place new) kept ∙ ap (λ (l : List ℕ). front ++ l) rest,
        )

    pub written_gate : (other : ℕ) (new : List ℕ) → Written place (other ∷ []) (front ++ gate ∷ bytes) new → new ≡ front ++ other ∷ bytes
    written_gate other new written =
        written
        ∙ ap (λ (l : List ℕ). l ++ (other ∷ []) ++ drop (place + 1) (front ++ gate ∷ bytes)) (take_at front (gate ∷ bytes) place places)
        ∙ ap (λ (l : List ℕ). front ++ (other ∷ []) ++ l) back
        ∙ append_assoc front (other ∷ []) bytes
