-- What holds of the members of a list.
--     all_two               of each, where two others do
--     all_got               of the one at a place
--     tally_has             one of those that are counted is no more than all
--     tx_found              of the transaction of a number
use Rattle.std.proofs.Common.{◌≡◌, ◌≤◌, ℕ, zero, suc, if◌then◌else◌, List, [], ◌∷◌, slice_get, Some, inl, inr, sym, ◌∙◌, ap, subst, arith}
use Rattle.std.specs.List.{find, AllByRecursion}
use Rattle.std.proofs.lemmas.Bool.{cases_Bool, eqb-true}
use Rattle.std.proofs.lemmas.Option.{same_Some}
use Rattle.client_machine.specs.ClientStates.{ClientTx, ClientState, is_tx, tx_at}
use Rattle.desk_facts.specs.Counts.{tally}

pub all_two : {X : Type 0} (P Q R : X → Type 0) → ((x : X) → P x → Q x → R x) → (xs : List X) → AllByRecursion P xs → AllByRecursion Q xs → AllByRecursion R xs
all_two P Q R f [] p q = tt
all_two P Q R f (x ∷ xs) p q = (f x p.0 q.0, all_two P Q R f xs p.1 q.1)

pub all_got : {X : Type 0} (P : X → Type 0) (xs : List X) (i : ℕ) (x : X) → AllByRecursion P xs → slice_get xs i ≡ Some x → P x
all_got P [] i x all e = cc
all_got P (y ∷ ys) zero x all e = subst P (same_Some y x e) all.0
all_got P (y ∷ ys) (suc i) x all e = all_got P ys i x all.1 e

pub tally_has : {X : Type 0} (count : X → ℕ) (xs : List X) (i : ℕ) (x : X) → slice_get xs i ≡ Some x → count x ≤ tally count xs
tally_has count [] i x e = cc
tally_has count (y ∷ ys) zero x e = let same : count y ≡ count x = ap count (same_Some y x e) in omega (arith, same)
tally_has count (y ∷ ys) (suc i) x e = let r = tally_has count ys i x e in omega (arith, r)

pub tx_found : (P : ClientTx → Type 0) (c : ClientState) (number : ℕ) (tx : ClientTx) → AllByRecursion P c.txs → tx_at c number ≡ Some tx → P tx × (tx.number ≡ number)
tx_found P c number tx all e = found c.txs all e
  where
    found : (txs : List ClientTx) → AllByRecursion P txs → find (is_tx number) txs ≡ Some tx → P tx × (tx.number ≡ number)
    found [] every k = cc
    found (x ∷ xs) every k = elim (cases_Bool (is_tx number x)) [
      | inl is ↦
          let same : x ≡ tx = same_Some x tx (sym (ap (λ b. if b then Some x else find (is_tx number) xs) is) ∙ k) in
          (subst P same every.0, ap (λ (y : ClientTx). y.number) (sym same) ∙ eqb-true x.number number is)
      | inr out ↦ found xs every.1 (sym (ap (λ b. if b then Some x else find (is_tx number) xs) out) ∙ k)
    ]
