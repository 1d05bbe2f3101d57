-- What the crates above cite.
--     front_applies         where commits apply, those in front do
use Rattle.std.proofs.Common.{◌≡◌, Bool, true, List, [], ◌∷◌, ◌++◌, Option, Some, None, is_some, Ok, refl}
use Rattle.disk_trait.specs.Disk.{DiskView}
use Rattle.gate_log.specs.Log.{content_of}
use Rattle.gate_log.specs.declared.log.GateLog.{GateLog}
use Rattle.gate_log.proofs.Laws.{have_of}
use Rattle.value_bytes.specs.Steps.{◌>>=◌}
use Rattle.item_changes.specs.Items.{Items}
use Rattle.log_history.specs.Replayed.{replayed, after_record, after_records}
use Rattle.log_history.specs.Batching.{Commit, records_of_commits}
use Rattle.idb_recovery.specs.Recovered.{GivesItems}
use Rattle.session_books.specs.States.{commits_apply, HoldsItems}

goes_less_far : (o : Option Items) (f g : Items → Option Items) → ((items : Items) → is_some (f items) ≡ true → is_some (g items) ≡ true) → is_some (o >>= f) ≡ true → is_some (o >>= g) ≡ true
goes_less_far None f g less e = e
goes_less_far (Some items) f g less e = less items e

pub front_applies : (items : Items) (front rest : List Commit) → commits_apply items (front ++ rest) ≡ true → commits_apply items front ≡ true
front_applies items [] rest e = refl
front_applies items (c ∷ front) rest e =
    goes_less_far (after_record items c.logged) (λ more. after_records more (records_of_commits (front ++ rest))) (λ more. after_records more (records_of_commits front)) (λ more. front_applies more front rest) e
