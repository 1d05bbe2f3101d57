use Rattle.record_changes.proofs.index_changes.make_alone.Goals as goal

pub make_kept-requires-clause-blank : goal.make_kept-requires-clause-blank
make_kept-requires-clause-blank g c κs within = c.in-Ok.ensures.blank c.requires.blank
