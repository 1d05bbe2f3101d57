-- How the steps of a file follow one another.
use Rattle.std.proofs.Common.{◌≡◌, ℕ, ◌+◌, ◌-◌, ◌≤◌, min, max, List, [], ◌++◌, length, take, drop, Option, Some, None, IfSome, refl, sym, ◌∙◌, ap, subst, arith, append_assoc, length-append, length-take, length-drop}
use Rattle.std.proofs.Math.Seq.{take-add}
use Rattle.std.proofs.lemmas.List.{take_at, drop_at, drop-drop, take-append-drop, take-take}
use Rattle.disk_trait.specs.Disk.{overwritten, Written, Torn}
use Rattle.edge_adapters.specs.Files.{FileState, BytesBecome}

-- one step after another, from bytes that have P
pub becomes_next : (first second both : List ℕ → List ℕ → Type 0) (P : List ℕ → Type 0) → ((a b c : List ℕ) → P a → first a b → second b c → both a c)
    → (old mid new : Option FileState) → IfSome old (λ f. P f.held) → BytesBecome first old mid → BytesBecome second mid new → BytesBecome both old new
becomes_next first second both P joins None None None has one two = tt
becomes_next first second both P joins None None (Some new) has one two = absurd two
becomes_next first second both P joins None (Some mid) new has one two = absurd one
becomes_next first second both P joins (Some old) None new has one two = absurd one
becomes_next first second both P joins (Some old) (Some mid) None has one two = absurd two
becomes_next first second both P joins (Some old) (Some mid) (Some new) has one two = joins old.held mid.held new.held has one two

-- what stands in front of the end of a write, and behind it
front_of : (from : ℕ) (a old : List ℕ) → from ≤ length old → take (from + length a) (overwritten from a old) ≡ take from old ++ a
front_of from a old within =
    let k = from + length a in
    take_at (take from old ++ a) (drop k old) k (omega (arith, length-append (take from old) a, length-take from old))

back_of : (from m : ℕ) (a old : List ℕ) → from ≤ length old → drop (from + length a + m) (overwritten from a old) ≡ drop (from + length a + m) old
back_of from m a old within =
    let k = from + length a in
    let front = take from old ++ a in
    sym (drop-drop m k (overwritten from a old))
    ∙ ap (λ (l : List ℕ). drop m l) (drop_at front (drop k old) k (omega (arith, length-append (take from old) a, length-take from old)))
    ∙ drop-drop m k old

-- a write that goes on where the last one ended
pub overwritten-overwritten : (from : ℕ) (a b old : List ℕ) → from ≤ length old
    → overwritten (from + length a) b (overwritten from a old) ≡ overwritten from (a ++ b) old
overwritten-overwritten from a b old within =
    let both : from + length a + length b ≡ from + length (a ++ b) = omega (arith, length-append a b) in
    ap (λ (l : List ℕ). (l ++ b) ++ drop (from + length a + length b) (overwritten from a old)) (front_of from a old within)
    ∙ ap (λ (l : List ℕ). ((take from old ++ a) ++ b) ++ l) (back_of from (length b) a old within)
    ∙ ap (λ (n : ℕ). ((take from old ++ a) ++ b) ++ drop n old) both
    ∙ ap (λ (l : List ℕ). l ++ drop (from + length (a ++ b)) old) (append_assoc (take from old) a b)

length-overwritten : (from : ℕ) (bytes old : List ℕ) → length (overwritten from bytes old) ≡ min from (length old) + length bytes + (length old - (from + length bytes))
length-overwritten from bytes old = simp (length-append, length-take, length-drop)

-- a torn write that goes on where the last one ended
pub torn-overwritten : (from m : ℕ) (a old new : List ℕ) → from ≤ length old → Torn (from + length a) m (overwritten from a old) new
    → Torn from (length a + m) old new
torn-overwritten from m a old new within torn =
    let k = from + length a in
    let long = length-overwritten from a old in
    let whole : min k (length (overwritten from a old)) ≡ k = omega arith in
    let front : take k new ≡ take from old ++ a = subst (λ (n : ℕ). take n new ≡ take k (overwritten from a old)) whole torn.before ∙ front_of from a old within in
    let start : min from (length old) ≡ from = omega arith in
    let end : from + length a + m ≡ from + (length a + m) = omega arith in
    record {
      before = ap (λ (n : ℕ). take n new) start ∙ sym (take-take from k new (omega arith)) ∙ ap (λ (l : List ℕ). take from l) front
          ∙ take_at (take from old) a from (omega (arith, length-take from old));
      after = subst (λ (n : ℕ). drop n new ≡ drop n old) end (torn.after ∙ back_of from m a old within);
      no_shorter = omega (arith, long, torn.no_shorter);
      no_longer = omega (arith, long, torn.no_longer);
    }

-- more of the bytes were written
pub wrote_more : (from done n : ℕ) (bytes rest : List ℕ) (old mid new : Option FileState) → done ≤ length bytes → rest ≡ drop done bytes
    → IfSome old (λ f. from ≤ length f.held) → BytesBecome (Written from (take done bytes)) old mid → BytesBecome (Written (from + done) (take n rest)) mid new
    → BytesBecome (Written from (take (done + n) bytes)) old new
wrote_more from done n bytes rest old mid new le is within one two = becomes_next _ _ _ (λ a. from ≤ length a) joins old mid new within one two
  where
    joins : (a b c : List ℕ) → from ≤ length a → b ≡ overwritten from (take done bytes) a → c ≡ overwritten (from + done) (take n rest) b
        → c ≡ overwritten from (take (done + n) bytes) a
    joins a b c in_a first second =
        let long : done ≡ length (take done bytes) = omega (arith, length-take done bytes) in
        second ∙ ap (λ (l : List ℕ). overwritten (from + done) (take n rest) l) first
        ∙ ap (λ (k : ℕ). overwritten (from + k) (take n rest) (overwritten from (take done bytes) a)) long
        ∙ overwritten-overwritten from (take done bytes) (take n rest) a in_a
        ∙ ap (λ (l : List ℕ). overwritten from (take done bytes ++ take n l) a) is
        ∙ ap (λ (l : List ℕ). overwritten from l a) (sym (take-add done n bytes))

-- and the write of the rest was torn
pub tore_more : (from done m : ℕ) (bytes : List ℕ) (old mid new : Option FileState) → done + m ≡ length bytes
    → IfSome old (λ f. from ≤ length f.held) → BytesBecome (Written from (take done bytes)) old mid → BytesBecome (Torn (from + done) m) mid new
    → BytesBecome (Torn from (length bytes)) old new
tore_more from done m bytes old mid new whole within one two = becomes_next _ _ _ (λ a. from ≤ length a) joins old mid new within one two
  where
    joins : (a b c : List ℕ) → from ≤ length a → b ≡ overwritten from (take done bytes) a → Torn (from + done) m b c → Torn from (length bytes) a c
    joins a b c in_a first second =
        let long : done ≡ length (take done bytes) = omega (arith, length-take done bytes) in
        let moved : Torn (from + length (take done bytes)) m (overwritten from (take done bytes) a) c =
        subst (λ (k : ℕ). Torn (from + k) m (overwritten from (take done bytes) a) c) long (subst (λ (l : List ℕ). Torn (from + done) m l c) first second) in
        let all : length (take done bytes) + m ≡ length bytes = omega arith in
        subst (λ (k : ℕ). Torn from k a c) all (torn-overwritten from m (take done bytes) a c in_a moved)

-- More of the bytes were read: piece, behind those that stand in front.
pub filled_more : (from done n : ℕ) (front piece both : List ℕ) (old mid : Option FileState) → mid ≡ old → front ++ piece ≡ both
    → IfSome old (λ f. front ≡ take done (drop from f.held)) → IfSome mid (λ f. piece ≡ take n (drop (from + done) f.held))
    → IfSome old (λ f. both ≡ take (done + n) (drop from f.held))
filled_more from done n front piece both old mid same is so_far next = joins old so_far (subst (λ (o : Option FileState). IfSome o (λ f. piece ≡ take n (drop (from + done) f.held))) same next)
  where
    joins : (file : Option FileState) → IfSome file (λ f. front ≡ take done (drop from f.held)) → IfSome file (λ f. piece ≡ take n (drop (from + done) f.held))
        → IfSome file (λ f. both ≡ take (done + n) (drop from f.held))
    joins None so_far next = tt
    joins (Some f) so_far next =
        sym is ∙ ap (λ (l : List ℕ). l ++ piece) so_far ∙ ap (λ (l : List ℕ). take done (drop from f.held) ++ l) next
        ∙ ap (λ (l : List ℕ). take done (drop from f.held) ++ take n l) (sym (drop-drop done from f.held)) ∙ sym (take-add done n (drop from f.held))
