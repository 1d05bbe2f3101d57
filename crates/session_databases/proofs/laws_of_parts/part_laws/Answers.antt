use Rattle.session_databases.proofs.Parts.{rejoined, applied_part}
use Rattle.session_databases.proofs.Sound.{sound_joined, sound_without}
use Rattle.session_databases.proofs.laws_of_parts.part_laws.Goals as goal

pub returns-clause-whole : goal.returns-clause-whole
returns-clause-whole c = rejoined

pub returns-clause-changed : goal.returns-clause-changed
returns-clause-changed c = applied_part

pub returns-clause-sound : goal.returns-clause-sound
returns-clause-sound c = sound_joined

pub returns-clause-sound_without : goal.returns-clause-sound_without
returns-clause-sound_without c = sound_without
