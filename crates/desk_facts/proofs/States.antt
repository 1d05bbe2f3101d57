-- The queues and inboxes after a change.
--     Steps                 what a change keeps; `less` transactions of a connection are finished, and `over` is over
--     steps_on, steps_nowhere       one behind another; none
--     moved_steps, settled_steps    one name is changed, and what that sends is sent; its queue moved as far as it can
use Rattle.std.proofs.Common.{◌≡◌, ◌≤◌, ◌<◌, ℕ, ◌+◌, Bool, true, List, Option, Some, None, is_some, inl, inr, refl, ap, sym, ◌∙◌, subst, arith}
use Rattle.std.specs.List.{AllByRecursion, find, list_any}
use Rattle.std.proofs.lemmas.Bool.{cases_lt}
use Rattle.name_queues.specs.Names.{at_first, name_of, is_name}
use Rattle.name_queues.specs.Mails.{conn_of, is_mail, sent_all}
use Rattle.name_queues.specs.Moves.{Moved}
use Rattle.name_queues.specs.declared.ids.ConnId.{ConnId}
use Rattle.name_queues.specs.declared.names.Named.{Named}
use Rattle.connection_queues.specs.Machine.{QueueState, moved_at, sent_where}
use Rattle.connection_queues.specs.Runs.{settled_name}
use Rattle.queue_facts.specs.Counts.{Whole, wait_count_of, runs_by, of_request, txs_of, one_end, one_begin, one_told, told_count_of}
use Rattle.queue_facts.specs.Shapes.{IsShaped}
use Rattle.queue_facts.specs.Queued.{waiting, running_by, running, held_txs, ending, beginning, telling, IsOwned, IsQueued}
use Rattle.queue_facts.proofs.Laws.{settled_name_goes, Changes, no_less, not_over, goes_changes, tally_first, first_nowhere, all_first, all_find, sent_most, sent_just, all_told, box_sent, sent_addressed, apart_first}

pub record Steps (asked : ConnId → Option (List ℕ)) (less : ConnId → ℕ) (over : (ConnId → Whole → Bool) → ℕ) (q r : QueueState) : Type 0 where
  pub once : (x : ConnId) → waiting x r.names + running x r.names + ending x r.mails ≤ waiting x q.names + running x q.names + ending x q.mails
  pub waits : (x : ConnId) → waiting x r.names + running x r.names + over (of_request x) ≤ waiting x q.names + running x q.names
  pub begins : (test : ConnId → Whole → Bool) → running_by test r.names + over test + beginning test q.mails ≡ running_by test q.names + beginning test r.mails
  pub txs : (x : ConnId) → held_txs x q.names ≤ held_txs x r.names + less x
  pub queued : IsQueued asked r.names r.mails

pub steps_on : (asked : ConnId → Option (List ℕ)) (less : ConnId → ℕ) (over : (ConnId → Whole → Bool) → ℕ) (q r t : QueueState) → Steps asked less over q r → Steps asked no_less not_over r t → Steps asked less over q t
steps_on asked less over q r t a b = record {
  once = λ x. let p = a.once x in let g = b.once x in omega arith;
  waits = λ x. let p = a.waits x in let g = b.waits x in omega arith;
  begins = λ test. let p = a.begins test in let g = b.begins test in omega arith;
  txs = λ x. let p = a.txs x in let g = b.txs x in omega arith;
  queued = b.queued;
}

pub steps_nowhere : (asked : ConnId → Option (List ℕ)) (q : QueueState) → IsQueued asked q.names q.mails → Steps asked no_less not_over q q
steps_nowhere asked q s = record {
  once = λ x. omega arith;
  waits = λ x. omega arith;
  begins = λ test. omega arith;
  txs = λ x. omega arith;
  queued = s;
}

-- ---- one name is changed
module _ (asked : ConnId → Option (List ℕ)) (less : ConnId → ℕ) (over : (ConnId → Whole → Bool) → ℕ) (test : Named → Bool) (f : Named → Moved) (q : QueueState) (s : IsQueued asked q.names q.mails) where
  -- where it is found
  found_steps : (n : Named) → find test q.names ≡ Some n → Changes less over n (f n) → Steps asked less over q (record q { names = at_first test (λ m. (f m).named) q.names; mails = sent_all (f n).sent q.mails })
  found_steps n e c =
      let o : IsOwned asked n = all_find (IsOwned asked) test q.names n s.owned e in
      let g = λ (m : Named). (f m).named in
      let boxes : AllByRecursion (λ v. list_any (is_mail (conn_of v).client) q.mails ≡ true) (f n).sent = all_told (λ x. list_any (is_mail x.client) q.mails ≡ true) (f n).sent (λ x h. s.boxed x (ap is_some (o x (c.tells x h)))) in
      record {
        once = λ x. let a = tally_first (wait_count_of x) test g q.names n e in let b = tally_first (runs_by (of_request x)) test g q.names n e in let d = c.counts x in let m = sent_most (one_end x) (f n).sent q.mails in omega arith;
        waits = λ x. let a = tally_first (wait_count_of x) test g q.names n e in let b = tally_first (runs_by (of_request x)) test g q.names n e in let d = c.counts x in let o = c.ended x in omega arith;
        begins = λ t. let a = tally_first (runs_by t) test g q.names n e in let d = c.begins t in let m = sent_just (one_begin t) (f n).sent q.mails boxes in omega arith;
        txs = λ x. let a = tally_first (txs_of x) test g q.names n e in let d = c.txs x in omega arith;
        queued = record {
          apart = apart_first test g q.names (λ m em. named_same m em) s.apart;
          shaped = all_first IsShaped test g q.names (λ m em sm. shaped_same m em) s.shaped;
          owned = all_first (IsOwned asked) test g q.names (λ m em om. owned_same m em) s.owned;
          told = λ x h. told_same x h;
          addressed = sent_addressed (f n).sent q.mails s.addressed;
          boxed = λ x h. box_sent x.client (f n).sent q.mails ∙ s.boxed x h;
        };
      }
    where
      is_n : (m : Named) → find test q.names ≡ Some m → n ≡ m
      is_n m em = let z : Some n ≡ Some m = sym e ∙ em in cc

      named_same : (m : Named) → find test q.names ≡ Some m → name_of (f m).named ≡ name_of m
      named_same m em = subst (λ k. name_of (f k).named ≡ name_of k) (is_n m em) c.name

      shaped_same : (m : Named) → find test q.names ≡ Some m → IsShaped (f m).named
      shaped_same m em = subst (λ k. IsShaped (f k).named) (is_n m em) c.shaped

      owned_here : IsOwned asked (f n).named
      owned_here x h = all_find (IsOwned asked) test q.names n s.owned e x (c.stays x h) ∙ ap Some (sym c.name)

      owned_same : (m : Named) → find test q.names ≡ Some m → IsOwned asked (f m).named
      owned_same m em = subst (λ k. IsOwned asked (f k).named) (is_n m em) owned_here

      told_same : (x : ConnId) → 0 < telling x (sent_all (f n).sent q.mails) → is_some (asked x) ≡ true
      told_same x h = elim (cases_lt 0 (told_count_of x (f n).sent)) [
        | inl p ↦ ap is_some (all_find (IsOwned asked) test q.names n s.owned e x (c.tells x p))
        | inr p ↦ s.told x (let m = sent_most (one_told x) (f n).sent q.mails in omega arith)
      ]

  -- what a change at each name that may be found gives
  pub moved_steps : ((n : Named) → find test q.names ≡ Some n → IsShaped n → Changes less over n (f n)) → (find test q.names ≡ None → (t : ConnId → Whole → Bool) → over t ≡ 0) → Steps asked less over q (moved_at test f q)
  moved_steps c none = by_find (find test q.names) refl
    where
      by_find : (o : Option Named) → find test q.names ≡ o → Steps asked less over q (record q { names = at_first test (λ m. (f m).named) q.names; mails = sent_all (sent_where f o) q.mails })
      by_find None e = subst (λ ns. Steps asked less over q (record q { names = ns; mails = q.mails })) (sym (first_nowhere test (λ m. (f m).named) q.names e)) (record {
        once = λ x. omega arith;
        waits = λ x. let z = none e (of_request x) in omega arith;
        begins = λ t. let z = none e t in omega arith;
        txs = λ x. omega arith;
        queued = s;
      })
      by_find (Some n) e = found_steps n e (c n e (all_find IsShaped test q.names n s.shaped e))

-- its queue moved as far as it can
pub settled_steps : (asked : ConnId → Option (List ℕ)) (name : List ℕ) (q : QueueState) → IsQueued asked q.names q.mails → Steps asked no_less not_over q (moved_at (is_name name) settled_name q)
settled_steps asked name q s = moved_steps asked no_less not_over (is_name name) settled_name q s (λ n e h. goes_changes n (settled_name n) (settled_name_goes n h)) (λ e t. refl)
