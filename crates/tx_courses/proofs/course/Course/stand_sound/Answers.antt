use Rattle.std.proofs.Common.{subst}
use Rattle.item_changes.specs.Items.{stores_in}
use Rattle.idb_databases.specs.Stores.{AreStores}
use Rattle.tx_courses.specs.Courses.{CourseData}
use Rattle.tx_courses.proofs.course.Course.stand_sound.Goals as goal

pub returns : goal.returns
returns g c = subst (λ (d : CourseData). AreStores (stores_in d.database)) c.self.view_is c.stand_sound.ensures
