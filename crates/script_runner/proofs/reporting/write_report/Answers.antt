use Rattle.std.proofs.Common.{◌∙◌, subst}
use Rattle.std.specs.Io.KnownBytes.{Appends}
use Rattle.edge_traits.specs.Streams.{AppendsFront}
use Rattle.script_runner.proofs.reporting.write_report.Goals as goal

pub returns-in-Ok-write_all-clause-done : goal.returns-in-Ok-write_all-clause-done
returns-in-Ok-write_all-clause-done g c =
    subst (Appends (g.K.Sink.held c.args.sink.now) (g.K.Sink.held c.write_all.new.sink)) (c.as_slice.ensures.value ∙ c.in-Ok.ensures) c.in-Ok-write_all.ensures.whole

pub returns-clause-front : goal.returns-clause-front
returns-clause-front g c failed =
    subst (AppendsFront (g.K.Sink.held c.args.sink.now) (g.K.Sink.held c.write_all.new.sink)) (c.as_slice.ensures.value ∙ c.in-Ok.ensures) c.in-Err-write_all.ensures.front
