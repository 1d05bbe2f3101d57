use Rattle.std.proofs.Common.{◌≡◌, ◌∙◌, Ok, Err, sym, ap, inl}
use Rattle.log_history.specs.Found.{found}
use Rattle.script_runner.specs.Inputs.{due_of}
use Rattle.script_runner.specs.declared.status.Status.TheVariants as status
use Rattle.script_runner.proofs.Inputs.{due_as, found_so}
use Rattle.script_runner.proofs.run.run_words.Goals as goal

pub returns-in-Err-BadScript-clause-complete : goal.returns-in-Err-BadScript-clause-complete
returns-in-Err-BadScript-clause-complete g c words input told sound whole safe areas here =
    let read = c.in-Err-BadScript.ensures.bad c.in-Err-BadScript.place (ap Err c.in-Err-BadScript.field-0-is) in
    let due : due_of (found areas) input ≡ status.BadScript c.in-Err-BadScript.place = due_as _ _ input told (found areas) (Err c.in-Err-BadScript.place) read in
    let place = c.in-Err-BadScript.place-is in
    inl (cc)

pub returns-in-Ok-ran-clause-complete : goal.returns-in-Ok-ran-clause-complete
returns-in-Ok-ran-clause-complete g c words input told sound whole safe areas here =
    let d = rw c.in-Ok-ran.is at c.run_sessions-ran.ensures.done in
    let due = due_as _ _ input told (found areas) (Ok c.in-Ok.script) c.in-Ok.ensures.found in
    inl (sym (due ∙ found_so (g.D.Disk.shows c.args.disk) c.in-Ok.script.sessions d.0 d.1 areas here))
