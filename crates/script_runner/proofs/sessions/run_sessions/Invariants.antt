use Rattle.std.proofs.Common.{◌≡◌, ◌≤◌, is_some}
use Rattle.script_runner.specs.Running.{RanSoFar}
use Rattle.script_runner.proofs.sessions.run_sessions.Given as goal

abbrev pub invariant-loop-session : goal.invariant-loop-session
invariant-loop-session g l = record {
  ran : RanSoFar (g.D.Disk.shows l.fn.disk) (g.D.Disk.shows l.disk) l.fn.sessions l.session-iterator.rest.items (g.K.Sink.held l.initial.sink) (g.K.Sink.held l.sink) l.number;
  told : is_some (g.D.Disk.shows l.disk).reads ≡ is_some (g.D.Disk.shows l.fn.disk).reads;
  disk_count : (g.D.Disk.shows l.fn.disk).faults ≤ (g.D.Disk.shows l.disk).faults;
  write_count : g.K.Sink.faults l.initial.sink ≤ g.K.Sink.faults l.sink;
}
