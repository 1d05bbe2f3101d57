-- How the databases move, as the desk sees them (Indexed Database API 3.0, "Database" and "Upgrade transactions").
--     is_schema_named       the schema is that of this name
--     AreOpenable           no two databases have the same name, and each has a version from 1 on
--     IsUnfinishedOf        the transaction of a number isn't finished, and is one of the database of this name
--     is_whole_kind         it is an upgrade or a deletion
--     changes_database      the step is the finish of an upgrade or a deletion of the database of this name, which committed
--     is_finish_of          the step is the finish of the transaction of this number
--     ShowsDatabase         the schema of a connection is that of the database of this name
--     IsAloneIn             no other transaction of the database of this name is unfinished, and none can be created
--     SeesUpgrade           what a connection sees of its database while its upgrade runs
use Rattle.std.specs.Prelude.{◌≡◌, ◌≤◌, ℕ, Bool, true, false, ◌&&◌, ◌==◌, nat_eq, List, [], ◌∷◌, Option, Some, None, ⊤}
use Rattle.std.specs.List.{AllByRecursion}
use Rattle.std.specs.Cmp.Lexicographic.{pointwise}
use Rattle.idb_schema.specs.Schemas.{SchemaData}
use Rattle.name_queues.specs.Names.{schema_version}
use Rattle.name_queues.specs.Moves.{asked_version}
use Rattle.name_queues.specs.declared.ids.ConnId.{ConnId}
use Rattle.connection_queues.specs.Machine.{schema_of}
use Rattle.desk_steps.specs.declared.stands.DrawnTx.{DrawnTx}
use Rattle.desk_steps.specs.declared.stands.TxKind.{TxKind}
use Rattle.desk_steps.specs.declared.stands.TxKind.TheVariants as kind
use Rattle.desk_steps.specs.declared.steps.DeskStep.{DeskStep}
use Rattle.desk_steps.specs.declared.steps.DeskStep.TheVariants as step
use Rattle.idb_desk.specs.Databases.{database_under}
use Rattle.idb_desk.specs.Desks.{DeskState, drawn_at}
use Rattle.idb_desk.specs.Refusals.{is_committed, is_finished_stage, is_usable}
use Rattle.desk_facts.specs.Orderly.{asked_at}

-- ---- the databases of an opening
abbrev pub is_schema_named : List ℕ → SchemaData → Bool
is_schema_named name s = pointwise nat_eq s.name name

-- no two have the same name, and each has a version from 1 on
abbrev pub AreOpenable : List SchemaData → Type 0
AreOpenable [] = ⊤
AreOpenable (s ∷ ss) = (1 ≤ s.version) × AllByRecursion (λ t. is_schema_named t.name s ≡ false) ss × AreOpenable ss

-- ---- transactions
-- the transaction of this number isn't finished, and is one of the database of this name
pub record IsUnfinishedOf (d : DeskState) (number : ℕ) (name : List ℕ) (t : DrawnTx) : Type 0 where
  pub drawn : drawn_at d.board.drawn number ≡ Some t
  pub unfinished : is_finished_stage t.stage ≡ false
  pub name_is : asked_at d t.who ≡ Some name

abbrev pub is_whole_kind : TxKind → Bool
is_whole_kind kind.Plain = false
is_whole_kind (kind.Upgrade version) = true
is_whole_kind kind.Deletion = true

-- ---- steps that change a database
abbrev pub names_the_same : List ℕ → Option (List ℕ) → Bool
names_the_same name None = false
names_the_same name (Some w) = pointwise nat_eq w name

abbrev pub changes_where : DeskState → Bool → Option DrawnTx → List ℕ → Bool
changes_where d committed None name = false
changes_where d committed (Some t) name = committed && (is_whole_kind t.kind && names_the_same name (asked_at d t.who))

-- the step is the finish of an upgrade or a deletion of the database of this name, which committed
abbrev pub changes_database : DeskState → DeskStep → List ℕ → Bool
changes_database d (step.Asks who asked want) name = false
changes_database d (step.Takes client) name = false
changes_database d (step.Handles client) name = false
changes_database d (step.Closes who) name = false
changes_database d (step.Creates number who scope m durability) name = false
changes_database d (step.Starts client number) name = false
changes_database d (step.Leaves client number ended kept) name = changes_where d (is_committed ended) (drawn_at d.board.drawn number) name
changes_database d step.Faults name = false

-- the step is the finish of the transaction of this number
abbrev pub is_finish_of : ℕ → DeskStep → Bool
is_finish_of number (step.Asks who asked want) = false
is_finish_of number (step.Takes client) = false
is_finish_of number (step.Handles client) = false
is_finish_of number (step.Closes who) = false
is_finish_of number (step.Creates n who scope m durability) = false
is_finish_of number (step.Starts client n) = false
is_finish_of number (step.Leaves client n ended kept) = n == number
is_finish_of number step.Faults = false

-- ---- what connections see
-- the schema of the connection is that of the database of this name, which exists
pub record ShowsDatabase (d : DeskState) (who : ConnId) (name : List ℕ) : Type 0 where
  pub schema : SchemaData
  pub shown : schema_of d.queues who ≡ Some schema
  pub exists : database_under d name ≡ Some schema

-- no other transaction of the database is unfinished, and none can be created
pub record IsAloneIn (d : DeskState) (number : ℕ) (name : List ℕ) : Type 0 where
  pub others : (other : ℕ) (t : DrawnTx) → IsUnfinishedOf d other name t → other ≡ number
  pub none_created : (who : ConnId) → asked_at d who ≡ Some name → is_usable d who ≡ false

-- while the upgrade to this version runs, its connection sees a schema of the name and of the version that the database has, 0
-- where there is none; and the new version is the one that was asked, or that an open without a version asks for
pub record SeesUpgrade (d : DeskState) (who : ConnId) (name : List ℕ) (new : ℕ) : Type 0 where
  pub schema : SchemaData
  pub seen : schema_of d.queues who ≡ Some schema
  pub name_is : schema.name ≡ name
  pub old : schema.version ≡ schema_version (database_under d name)
  pub version : Option ℕ
  pub asked : asked_version schema.version version ≡ new
