-- What a transaction holds until it starts.
--     kind_seen, body_seen, begun_seen      whose it is, and what it begins with, where that is known, as plain data
--     parts_seen            what a begun transaction of these parts shows
--     HoldsBody             it holds its body until it starts
use Rattle.std.specs.Prelude.{◌≡◌, Bool, true, false, Option, Some, None, option_map}
use Rattle.client_seats.specs.FinishEntries.{TxBody, Scripted, Deletion}
use Rattle.script_handlers.specs.Handling.{Script}
use Rattle.client_seats.specs.ClientStates.{ClientTxKind, OwnTx, OfUpgrade, OfDeletion, ClientTx}
use Rattle.client_parts.specs.Begun.{BegunState, scripted_body}
use Rattle.client_parts.specs.declared.begun.BegunBody.{BegunBody}
use Rattle.client_parts.specs.declared.begun.BegunBody.TheVariants as begun
use Rattle.client_parts.specs.declared.begun.BegunParts.{BegunParts}
use Rattle.client_parts.specs.declared.held_txs.TxKindHeld.{TxKindHeld}
use Rattle.client_parts.specs.declared.held_txs.TxKindHeld.TheVariants as kind

abbrev pub kind_seen : TxKindHeld → ClientTxKind
kind_seen (kind.Own complete abort env) = OwnTx complete abort env
kind_seen kind.Upgrade = OfUpgrade
kind_seen kind.Deletion = OfDeletion

abbrev pub body_seen : BegunBody → TxBody Script
body_seen (begun.Scripted b) = Scripted b.body
body_seen (begun.Deletion name) = Deletion name

abbrev pub begun_seen : Option BegunBody → Option (TxBody Script)
begun_seen o = option_map body_seen o

abbrev pub parts_seen : BegunParts → BegunState
parts_seen p = record { durability = p.durability; body = scripted_body p.mode p.schema p.names p.front p.threw }

-- what it begins with is handed out when it starts
abbrev pub HoldsBody : Option BegunBody → BegunBody → Bool → Type 0
HoldsBody None body started = started ≡ true
HoldsBody (Some b) body started = (b ≡ body) × (started ≡ false)

abbrev pub started_tx : ClientTx → ClientTx
started_tx tx = record tx { started = true }
