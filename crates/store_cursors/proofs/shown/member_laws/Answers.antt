use Rattle.store_cursors.proofs.MemberLemmas.{shown_has_value}
use Rattle.store_cursors.proofs.shown.member_laws.Goals as goal

pub returns : goal.returns
returns c = shown_has_value
