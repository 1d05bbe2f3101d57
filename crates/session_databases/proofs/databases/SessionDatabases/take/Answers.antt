use Rattle.std.proofs.Common.{◌∙◌, ap}
use Rattle.std.specs.FinMap as finite
use Rattle.session_databases.proofs.Parts.{whole_seen}
use Rattle.session_databases.proofs.databases.SessionDatabases.take.Goals as goal

pub returns-in-VersionChange-clause-part : goal.returns-in-VersionChange-clause-part
returns-in-VersionChange-clause-part g c = rw c.in-VersionChange.is (c.take_whole.ensures.part ∙ ap (λ items. finite.get items c.args.database.now) c.self.view_is ∙ whole_seen (finite.get c.args.self.now c.args.database.now))
