-- Sums over names and inboxes, where one of them changes.
--     tally_first, first_nowhere    one is changed, or none
--     all_first, all_find           what holds of all, with one of them changed; of the one that is found
--     sent_most, sent_just          the inboxes after events were sent
--     apart_first                   names stay apart
use Rattle.std.proofs.Common.{◌++◌, ◌≡◌, ◌≤◌, ◌<◌, ℕ, ◌+◌, Bool, true, false, cond, List, [], ◌∷◌, map, Some, None, refl, ap, sym, ◌∙◌, subst, arith}
use Rattle.std.specs.Prelude.{◌||◌}
use Rattle.std.specs.Prelude.{filter}
use Rattle.std.specs.List.{AllByRecursion, find, list_any}
use Rattle.std.specs.Cmp.Lexicographic.{pointwise}
use Rattle.std.specs.Prelude.{nat_eq}
use Rattle.std.proofs.lemmas.Option.{none-some}
use Rattle.name_queues.specs.Names.{at_first, name_of, is_name}
use Rattle.name_queues.specs.Mails.{Mail, conn_of, is_mail, posted, sent, sent_all}
use Rattle.name_queues.specs.declared.ids.ConnId.{ConnId}
use Rattle.name_queues.specs.declared.events.ClientEvent.{ClientEvent}
use Rattle.name_queues.specs.declared.names.Named.{Named}
use Rattle.queue_facts.specs.Counts.{tally, told_count_of}
use Rattle.std.proofs.lemmas.Bool.{eqb-true}
use Rattle.queue_facts.specs.Queued.{IsAddressed, AreAddressed, mailed, AreNamedApart}
use Rattle.queue_facts.proofs.Moves.{tally_both, counts_itself}

pub tally_first : {A : Type 0} (count : A → ℕ) (test : A → Bool) (g : A → A) (xs : List A) (x : A) → find test xs ≡ Some x → tally count (at_first test g xs) + count x ≡ tally count xs + count (g x)
tally_first count test g [] x = λ e. absurd (none-some x e)
tally_first count test g (y ∷ ys) x = elim (test y) as (λ b. cond b (Some y) (find test ys) ≡ Some x → tally count (cond b (g y ∷ ys) (y ∷ at_first test g ys)) + count x ≡ (count y + tally count ys) + count (g x)) [
  | true ↦ λ e. let s : y ≡ x = cc in let p : count y ≡ count x = ap count s in let q : count (g y) ≡ count (g x) = ap (λ z. count (g z)) s in omega arith
  | false ↦ λ e. let r = tally_first count test g ys x e in omega arith
]

pub first_nowhere : {A : Type 0} (test : A → Bool) (g : A → A) (xs : List A) → find test xs ≡ None → at_first test g xs ≡ xs
first_nowhere test g [] = λ e. refl
first_nowhere test g (y ∷ ys) = elim (test y) as (λ b. cond b (Some y) (find test ys) ≡ None → cond b (g y ∷ ys) (y ∷ at_first test g ys) ≡ y ∷ ys) [
  | true ↦ λ e. absurd (none-some y (sym e))
  | false ↦ λ e. ap (λ zs. y ∷ zs) (first_nowhere test g ys e)
]

pub all_find : {A : Type 0} (P : A → Type 0) (test : A → Bool) (xs : List A) (x : A) → AllByRecursion P xs → find test xs ≡ Some x → P x
all_find P test [] x h = λ e. absurd (none-some x e)
all_find P test (y ∷ ys) x h = elim (test y) as (λ b. cond b (Some y) (find test ys) ≡ Some x → P x) [
  | true ↦ λ e. let s : y ≡ x = cc in subst P s h.0
  | false ↦ λ e. all_find P test ys x h.1 e
]

-- the one that is found passes
pub find_passes : {A : Type 0} (test : A → Bool) (xs : List A) (x : A) → find test xs ≡ Some x → test x ≡ true
find_passes test [] x = λ e. absurd (none-some x e)
find_passes test (y ∷ ys) x = elim (test y) as (λ b. test y ≡ b → cond b (Some y) (find test ys) ≡ Some x → test x ≡ true) [
  | true ↦ λ t e. let s : y ≡ x = cc in subst (λ z. test z ≡ true) s t
  | false ↦ λ t e. find_passes test ys x e
] refl

pub all_first : {A : Type 0} (P : A → Type 0) (test : A → Bool) (g : A → A) (xs : List A) → ((x : A) → find test xs ≡ Some x → P x → P (g x)) → AllByRecursion P xs → AllByRecursion P (at_first test g xs)
all_first P test g [] = λ f h. tt
all_first {A = A} P test g (y ∷ ys) = elim (test y) as (λ b. ((x : A) → cond b (Some y) (find test ys) ≡ Some x → P x → P (g x)) → AllByRecursion P (y ∷ ys) → AllByRecursion P (cond b (g y ∷ ys) (y ∷ at_first test g ys))) [
  | true ↦ λ f h. (f y refl h.0, h.1)
  | false ↦ λ f h. (h.0, all_first P test g ys f h.1)
]

pub all_mapped : {A : Type 0} (P Q : A → Type 0) (g : A → A) (xs : List A) → ((x : A) → P x → Q (g x)) → AllByRecursion P xs → AllByRecursion Q (map g xs)
all_mapped P Q g [] f h = tt
all_mapped P Q g (x ∷ xs) f h = (f x h.0, all_mapped P Q g xs f h.1)

pub all_kept : {A : Type 0} (P Q : A → Type 0) (xs : List A) → ((x : A) → P x → Q x) → AllByRecursion P xs → AllByRecursion Q xs
all_kept P Q [] f h = tt
all_kept P Q (x ∷ xs) f h = (f x h.0, all_kept P Q xs f h.1)

-- ---- inboxes
box_first : (client : ℕ) (test : Mail → Bool) (g : Mail → Mail) (mails : List Mail) → ((m : Mail) → (g m).client ≡ m.client) → list_any (is_mail client) (at_first test g mails) ≡ list_any (is_mail client) mails
box_first client test g [] h = refl
box_first client test g (m ∷ ms) h = elim (test m) as (λ b. list_any (is_mail client) (cond b (g m ∷ ms) (m ∷ at_first test g ms)) ≡ list_any (is_mail client) (m ∷ ms)) [
  | true ↦ ap (λ c. nat_eq c client || list_any (is_mail client) ms) (h m)
  | false ↦ ap (λ b. is_mail client m || b) (box_first client test g ms h)
]

pub box_kept : (client : ℕ) (test : Mail → Bool) (g : Mail → Mail) (mails : List Mail) → ((m : Mail) → (g m).client ≡ m.client) → list_any (is_mail client) (at_first test g mails) ≡ list_any (is_mail client) mails
box_kept = box_first

pub box_sent : (client : ℕ) (es : List ClientEvent) (mails : List Mail) → list_any (is_mail client) (sent_all es mails) ≡ list_any (is_mail client) mails
box_sent client [] mails = refl
box_sent client (e ∷ es) mails = box_sent client es (sent e mails) ∙ box_first client (is_mail (conn_of e).client) (posted e) mails (λ m. refl)

found_box : (client : ℕ) (mails : List Mail) → list_any (is_mail client) mails ≡ true → (m : Mail) × (find (is_mail client) mails ≡ Some m)
found_box client [] = λ h. cc
found_box client (m ∷ ms) = elim (is_mail client m) as (λ b. (b || list_any (is_mail client) ms) ≡ true → (x : Mail) × (cond b (Some m) (find (is_mail client) ms) ≡ Some x)) [
  | true ↦ λ h. (m, refl)
  | false ↦ λ h. found_box client ms h
]

one_posted : (count : ClientEvent → ℕ) (e : ClientEvent) (m : Mail) → tally count (posted e m).events ≡ tally count m.events + count e
one_posted count e m = let p = tally_both count m.events (e ∷ []) in omega arith

sent_one_most : (count : ClientEvent → ℕ) (e : ClientEvent) (mails : List Mail) → mailed count (sent e mails) ≤ mailed count mails + count e
sent_one_most count e [] = omega arith
sent_one_most count e (m ∷ ms) = elim (is_mail (conn_of e).client m) as (λ b. mailed count (cond b (posted e m ∷ ms) (m ∷ sent e ms)) ≤ (tally count m.events + mailed count ms) + count e) [
  | true ↦ (let p = one_posted count e m in omega arith)
  | false ↦ (let p = sent_one_most count e ms in omega arith)
]

pub sent_most : (count : ClientEvent → ℕ) (es : List ClientEvent) (mails : List Mail) → mailed count (sent_all es mails) ≤ mailed count mails + tally count es
sent_most count [] mails = omega arith
sent_most count (e ∷ es) mails = let p = sent_most count es (sent e mails) in let q = sent_one_most count e mails in omega arith

sent_one_just : (count : ClientEvent → ℕ) (e : ClientEvent) (mails : List Mail) → list_any (is_mail (conn_of e).client) mails ≡ true → mailed count (sent e mails) ≡ mailed count mails + count e
sent_one_just count e mails h =
    let m = found_box (conn_of e).client mails h in
    let p = tally_first (λ (x : Mail). tally count x.events) (is_mail (conn_of e).client) (posted e) mails m.0 m.1 in
    let q = one_posted count e m.0 in
    omega arith

pub sent_just : (count : ClientEvent → ℕ) (es : List ClientEvent) (mails : List Mail) → AllByRecursion (λ e. list_any (is_mail (conn_of e).client) mails ≡ true) es → mailed count (sent_all es mails) ≡ mailed count mails + tally count es
sent_just count [] mails h = omega arith
sent_just count (e ∷ es) mails h =
    let p = sent_just count es (sent e mails) (all_kept (λ f. list_any (is_mail (conn_of f).client) mails ≡ true) (λ f. list_any (is_mail (conn_of f).client) (sent e mails) ≡ true) es (λ f b. box_first (conn_of f).client (is_mail (conn_of e).client) (posted e) mails (λ m. refl) ∙ b) h.1) in
    let q = sent_one_just count e mails h.0 in
    omega arith

-- each event is one of those that are told
pub all_told : (P : ConnId → Type 0) (es : List ClientEvent) → ((x : ConnId) → 0 < told_count_of x es → P x) → AllByRecursion (λ e. P (conn_of e)) es
all_told P [] h = tt
all_told P (e ∷ es) h = (h (conn_of e) (let p = counts_itself (conn_of e) in omega arith), all_told P es (λ x g. h x (omega arith)))

-- ---- names stay apart
is_name_kept : (name : List ℕ) (n m : Named) → name_of m ≡ name_of n → is_name name m ≡ is_name name n
is_name_kept name n m e = ap (λ w. pointwise nat_eq w name) e

none_first : (name : List ℕ) (test : Named → Bool) (g : Named → Named) (ns : List Named) → ((n : Named) → find test ns ≡ Some n → name_of (g n) ≡ name_of n) → AllByRecursion (λ m. is_name name m ≡ false) ns → AllByRecursion (λ m. is_name name m ≡ false) (at_first test g ns)
none_first name test g ns h a = all_first (λ m. is_name name m ≡ false) test g ns (λ n e f. is_name_kept name n (g n) (h n e) ∙ f) a

pub apart_first : (test : Named → Bool) (g : Named → Named) (ns : List Named) → ((n : Named) → find test ns ≡ Some n → name_of (g n) ≡ name_of n) → AreNamedApart ns → AreNamedApart (at_first test g ns)
apart_first test g [] = λ h a. tt
apart_first test g (n ∷ ns) = elim (test n) as (λ b. ((m : Named) → cond b (Some n) (find test ns) ≡ Some m → name_of (g m) ≡ name_of m) → AreNamedApart (n ∷ ns) → AreNamedApart (cond b (g n ∷ ns) (n ∷ at_first test g ns))) [
  | true ↦ λ h a. (subst (λ w. AllByRecursion (λ m. is_name w m ≡ false) ns) (sym (h n refl)) a.0, a.1)
  | false ↦ λ h a. (none_first (name_of n) test g ns h a.0, apart_first test g ns h a.1)
]

pub apart_mapped : (g : Named → Named) (ns : List Named) → ((n : Named) → name_of (g n) ≡ name_of n) → AreNamedApart ns → AreNamedApart (map g ns)
apart_mapped g [] h a = tt
apart_mapped g (n ∷ ns) h a = (all_mapped (λ m. is_name (name_of n) m ≡ false) (λ m. is_name (name_of (g n)) m ≡ false) g ns (λ m f. ap (λ w. is_name w (g m)) (h n) ∙ is_name_kept (name_of n) m (g m) (h m) ∙ f) a.0, apart_mapped g ns h a.1)

-- ---- each event is its client's
pub all_last : {A : Type 0} (P : A → Type 0) (xs : List A) (x : A) → AllByRecursion P xs → P x → AllByRecursion P (xs ++ x ∷ [])
all_last P [] x h p = (p, tt)
all_last P (y ∷ ys) x h p = (h.0, all_last P ys x h.1 p)

pub all_left : {A : Type 0} (P : A → Type 0) (p : A → Bool) (xs : List A) → AllByRecursion P xs → AllByRecursion P (filter p xs)
all_left P p [] h = tt
all_left P p (x ∷ xs) h = elim (p x) as (λ b. AllByRecursion P (cond b (x ∷ filter p xs) (filter p xs))) [ true ↦ (h.0, all_left P p xs h.1) | false ↦ all_left P p xs h.1 ]

pub sent_addressed : (es : List ClientEvent) (mails : List Mail) → AreAddressed mails → AreAddressed (sent_all es mails)
sent_addressed [] mails h = h
sent_addressed (e ∷ es) mails h = sent_addressed es (sent e mails) (all_first IsAddressed (is_mail (conn_of e).client) (posted e) mails (λ m f p. all_last (λ v. (conn_of v).client ≡ m.client) m.events e p (sym (eqb-true m.client (conn_of e).client (find_passes (is_mail (conn_of e).client) mails m f)))) h)

pub first_addressed : (test : Mail → Bool) (g : Mail → Mail) (mails : List Mail) → ((m : Mail) → IsAddressed m → IsAddressed (g m)) → AreAddressed mails → AreAddressed (at_first test g mails)
first_addressed test g mails f h = all_first IsAddressed test g mails (λ m e p. f m p) h
