use Rattle.std.proofs.Common.{inl, inr, ⊎_elim, Ok, Err, sym, ap, ◌∙◌}
use Rattle.log_history.specs.Found.{found_by}
use Rattle.idb_recovery.specs.Recovered.{recover_error_of}
use Rattle.idb_recovery.proofs.SameAnswers.{found_items, from_answer, answers_same, damaged_back, damage_is}
use Rattle.idb_recovery.proofs.recovery.recover.Goals as goal

pub returns-in-Ok-replay-clause-items : goal.returns-in-Ok-replay-clause-items
returns-in-Ok-replay-clause-items g c = λ areas told.
    found_items c.in-Ok.loaded.0.live c.in-Ok.loaded.1 (Ok c.in-Ok-replay.items) c.in-Ok-replay.ensures.items areas (c.in-Ok.ensures.found areas told)

pub returns-in-Err-Damaged-clause-damaged : goal.returns-in-Err-Damaged-clause-damaged
returns-in-Err-Damaged-clause-damaged g c = λ area place is areas told.
    let at = c.in-Err-Damaged.place in
    let given = found_items c.in-Ok.loaded.0.live c.in-Ok.loaded.1 (Err at) (c.in-Err-Damaged.ensures.damaged at (cc)) areas (c.in-Ok.ensures.found areas told) in
    damage_is _ c.in-Ok.loaded.0.live.area c.area-area.result area at place given c.area-area.ensures is

pub returns-in-Err-Damaged-clause-left : goal.returns-in-Err-Damaged-clause-left
returns-in-Err-Damaged-clause-left g c = inr
    (answers_same (g.D.Disk.shows) (g.D.Disk.shows c.args.disk) c.in-Ok.loaded.0.disk c.in-Ok.loaded.0.live c.in-Ok.loaded.1 c.in-Ok.ensures.any_moment.told (g.met.D.Disk.images_are_told c.in-Ok.loaded.0.disk) c.in-Ok.ensures.sealed c.in-Ok.ensures.found c.into_disk.result c.into_disk.ensures.disk)

pub returns-in-Err-Damaged-clause-left_synced : goal.returns-in-Err-Damaged-clause-left_synced
returns-in-Err-Damaged-clause-left_synced g c = λ no.
    answers_same (g.D.Disk.shows) (g.D.Disk.shows c.args.disk) c.in-Ok.loaded.0.disk c.in-Ok.loaded.0.live c.in-Ok.loaded.1 c.in-Ok.ensures.any_moment.told (g.met.D.Disk.images_are_told c.in-Ok.loaded.0.disk) c.in-Ok.ensures.sealed c.in-Ok.ensures.found c.into_disk.result c.into_disk.ensures.disk

pub returns-in-Ok-clause-left : goal.returns-in-Ok-clause-left
returns-in-Ok-clause-left g c = inr
    (answers_same (g.D.Disk.shows) (g.D.Disk.shows c.args.disk) c.in-Ok.loaded.0.disk c.in-Ok.loaded.0.live c.in-Ok.loaded.1 c.in-Ok.ensures.any_moment.told (g.met.D.Disk.images_are_told c.in-Ok.loaded.0.disk) c.in-Ok.ensures.sealed c.in-Ok.ensures.found c.into_disk-in-Err-NoMemory.result c.into_disk-in-Err-NoMemory.ensures.disk)

pub returns-in-Ok-clause-left_synced : goal.returns-in-Ok-clause-left_synced
returns-in-Ok-clause-left_synced g c = λ no.
    answers_same (g.D.Disk.shows) (g.D.Disk.shows c.args.disk) c.in-Ok.loaded.0.disk c.in-Ok.loaded.0.live c.in-Ok.loaded.1 c.in-Ok.ensures.any_moment.told (g.met.D.Disk.images_are_told c.in-Ok.loaded.0.disk) c.in-Ok.ensures.sealed c.in-Ok.ensures.found c.into_disk-in-Err-NoMemory.result c.into_disk-in-Err-NoMemory.ensures.disk

pub returns-clause-damaged : goal.returns-clause-damaged
returns-clause-damaged g c = λ area place is areas told.
    ap found_by (c.in-Err.ensures.damaged area place (damaged_back c.in-Err.error area place (sym c.from.ensures ∙ is)) areas told)

pub returns-clause-left : goal.returns-clause-left
returns-clause-left g c =
    ⊎_elim (λ none. inl none) (λ each. inr (λ image left. from_answer (g.D.Disk.shows c.args.disk) image (each image left))) c.in-Err.ensures.left

pub returns-clause-left_synced : goal.returns-clause-left_synced
returns-clause-left_synced g c = λ no image left.
    from_answer (g.D.Disk.shows c.args.disk) image (c.in-Err.ensures.left_synced (λ fault. no (c.from.ensures ∙ ap recover_error_of fault)) image left)
