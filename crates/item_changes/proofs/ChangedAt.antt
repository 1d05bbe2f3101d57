-- A map after a change at one key.
use Rattle.std.proofs.Common.{◌≡◌, Bool, true, false, cond, Option, Some, None, refl, sym, ◌∙◌, ap}
use Rattle.std.specs.declared.cmp.Ordering.{Ordering}
use Rattle.std.specs.declared.cmp.Ordering.TheVariants.{Equal}
use Rattle.std.specs.Ordering.{is_eq, eq_by_cmp}
use Rattle.std.specs.Cmp.{IsTotalOrder, tied_itself, eq_by_cmp_equiv}
use Rattle.std.specs.FinMap.{FinMap, IsAntisymmetric, get, retain_keys, get-insert, get-remove, get-retain_keys, same_map}
use Rattle.item_changes.specs.Items.{stood_at, changed_at}

equal_of : (r : Ordering) → is_eq r ≡ true → r ≡ Equal
equal_of Equal e = refl
equal_of _ e = cc

-- two tests of which at most one passes
either_first : {A : Type 0} (a b : Bool) (x y z : A) → (a ≡ true → b ≡ false) → cond a x (cond b y z) ≡ cond b y (cond a x z)
either_first true b x y z apart = rw (apart refl) refl
either_first false b x y z apart = refl

-- a test that stands twice
shadows : {A : Type 0} (a : Bool) (x y z : A) → cond a x (cond a y z) ≡ cond a x z
shadows true x y z = refl
shadows false x y z = refl

-- a test that passes whenever the other does, and one that never does then
kept_after : {A : Type 0} (a b : Bool) (x y : A) (none : A) → (a ≡ true → b ≡ true) → cond b (cond a x y) none ≡ cond a x (cond b y none)
kept_after true b x y none h = rw (h refl) refl
kept_after false b x y none h = refl

left_out : {A : Type 0} (a b : Bool) (x y : A) (none : A) → (a ≡ true → b ≡ false) → cond b (cond a x y) none ≡ cond b y none
left_out true b x y none h = rw (h refl) refl
left_out false b x y none h = refl

module _ {K : Type 0} {R : K → K → Ordering} (o : IsTotalOrder R) (same : IsAntisymmetric R) where
  itself : (k : K) → eq_by_cmp R k k ≡ true
  itself k = ap is_eq (tied_itself o k)

  pub one_key : (j k : K) → eq_by_cmp R j k ≡ true → j ≡ k
  one_key j k e = same j k (equal_of (R j k) e)

  apart_back : (j k : K) → eq_by_cmp R j k ≡ false → eq_by_cmp R k j ≡ false
  apart_back j k e = (eq_by_cmp_equiv o).symm k j ∙ e

  not_both : (j k q : K) → eq_by_cmp R j k ≡ false → eq_by_cmp R q j ≡ true → eq_by_cmp R q k ≡ false
  not_both j k q apart e = ap (λ p. eq_by_cmp R p k) (one_key q j e) ∙ apart

  passes_with : (p : K → Bool) (k : K) (b : Bool) (q : K) → p k ≡ b → eq_by_cmp R q k ≡ true → p q ≡ b
  passes_with p k b q e tied = ap p (one_key q k tied) ∙ e

module _ {K X : Type 0} {R : K → K → Ordering} (o : IsTotalOrder R) (same : IsAntisymmetric R) where
  get_stood : (m : FinMap R X) (k : K) (x : Option X) (q : K) → get (stood_at m k x) q ≡ cond (eq_by_cmp R q k) x (get m q)
  get_stood m k (Some x) q = get-insert o m k x q
  get_stood m k None q = get-remove o m k q

  pub get_changed : (m : FinMap R X) (k : K) (f : Option X → Option X) (q : K) → get (changed_at m k f) q ≡ cond (eq_by_cmp R q k) (f (get m k)) (get m q)
  get_changed m k f q = get_stood m k (f (get m k)) q

  pub changed_here : (m : FinMap R X) (k : K) (f : Option X → Option X) → get (changed_at m k f) k ≡ f (get m k)
  changed_here m k f = get_changed m k f k ∙ ap (λ b. cond b (f (get m k)) (get m k)) (itself o same k)

  pub changed_elsewhere : (m : FinMap R X) (k : K) (f : Option X → Option X) (q : K) → eq_by_cmp R q k ≡ false → get (changed_at m k f) q ≡ get m q
  changed_elsewhere m k f q e = get_changed m k f q ∙ ap (λ b. cond b (f (get m k)) (get m q)) e

  -- changes at two keys
  pub changed_apart : (m : FinMap R X) (j k : K) (f g : Option X → Option X) → eq_by_cmp R j k ≡ false → changed_at (changed_at m j f) k g ≡ changed_at (changed_at m k g) j f
  changed_apart m j k f g apart = same_map o same _ _ (λ q.
      get_changed (changed_at m j f) k g q
      ∙ ap (λ x. cond (eq_by_cmp R q k) (g x) (get (changed_at m j f) q)) (changed_elsewhere m j f k (apart_back o same j k apart))
      ∙ ap (λ x. cond (eq_by_cmp R q k) (g (get m k)) x) (get_changed m j f q)
      ∙ sym (either_first (eq_by_cmp R q j) (eq_by_cmp R q k) (f (get m j)) (g (get m k)) (get m q) (not_both o same j k q apart))
      ∙ sym (get_changed (changed_at m k g) j f q
      ∙ ap (λ x. cond (eq_by_cmp R q j) (f x) (get (changed_at m k g) q)) (changed_elsewhere m k g j apart)
      ∙ ap (λ x. cond (eq_by_cmp R q j) (f (get m j)) x) (get_changed m k g q)))

  -- changes at one key
  pub changed_twice : (m : FinMap R X) (k : K) (f g : Option X → Option X) → changed_at (changed_at m k f) k g ≡ changed_at m k (λ x. g (f x))
  changed_twice m k f g = same_map o same _ _ (λ q.
      get_changed (changed_at m k f) k g q
      ∙ ap (λ x. cond (eq_by_cmp R q k) (g x) (get (changed_at m k f) q)) (changed_here m k f)
      ∙ ap (λ x. cond (eq_by_cmp R q k) (g (f (get m k))) x) (get_changed m k f q)
      ∙ shadows (eq_by_cmp R q k) (g (f (get m k))) (f (get m k)) (get m q)
      ∙ sym (get_changed m k (λ x. g (f x)) q))

  seen : (m : FinMap R X) (p : K → Bool) (q : K) → get (retain_keys m p) q ≡ cond (p q) (get m q) None
  seen m p q = get-retain_keys m p q (λ x e. sym (ap p (same q x e)))

  pub retained : (m : FinMap R X) (p : K → Bool) (k : K) → p k ≡ true → get (retain_keys m p) k ≡ get m k
  retained m p k e = seen m p k ∙ ap (λ b. cond b (get m k) None) e

  -- a change at a key that is kept, and at one that is left out
  pub retain_kept : (m : FinMap R X) (p : K → Bool) (k : K) (f : Option X → Option X) → p k ≡ true → retain_keys (changed_at m k f) p ≡ changed_at (retain_keys m p) k f
  retain_kept m p k f e = same_map o same _ _ (λ q.
      seen (changed_at m k f) p q
      ∙ ap (λ x. cond (p q) x None) (get_changed m k f q)
      ∙ kept_after (eq_by_cmp R q k) (p q) (f (get m k)) (get m q) None (passes_with o same p k true q e)
      ∙ sym (get_changed (retain_keys m p) k f q
      ∙ ap (λ x. cond (eq_by_cmp R q k) (f x) (get (retain_keys m p) q)) (retained m p k e)
      ∙ ap (λ x. cond (eq_by_cmp R q k) (f (get m k)) x) (seen m p q)))

  pub retain_left : (m : FinMap R X) (p : K → Bool) (k : K) (f : Option X → Option X) → p k ≡ false → retain_keys (changed_at m k f) p ≡ retain_keys m p
  retain_left m p k f e = same_map o same _ _ (λ q.
      seen (changed_at m k f) p q
      ∙ ap (λ x. cond (p q) x None) (get_changed m k f q)
      ∙ left_out (eq_by_cmp R q k) (p q) (f (get m k)) (get m q) None (passes_with o same p k false q e)
      ∙ sym (seen m p q))
