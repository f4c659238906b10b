-- What the issuer's script commands do (EMV 4.3 Book 3 sections 6.5.1 to 6.5.3 and 6.5.10), each with a code of eight bytes at the end of its data (EMV 4.3 Book 2 section 9.2).
use Rattle.std.specs.Prelude.{ℕ, ◌==◌, not, if◌then◌else◌, List, [], ◌∷◌, length, take, slice_index, Option, Some, None}
use Rattle.apdu_core.specs.Command.{CommandData}
use Rattle.card_cryptogram.specs.Scripts.{has_code, block_in}
use Rattle.card_files.specs.AppRules.{is_plain_block}
use Rattle.card_files.specs.Views.{AppData, ImageData}
use Rattle.card_state.specs.declared.decision.Decision.TheVariants.{Script}
use Rattle.card_state.specs.declared.decision.Scripted.{Scripted}
use Rattle.card_state.specs.declared.decision.Scripted.TheVariants.{Block, Unblock, CardBlock, PinUnblock, PinChange, Count}
use Rattle.card_state.specs.declared.state.AppState.{AppState}
use Rattle.card_state.specs.declared.state.CardState.{CardState}
use Rattle.card_app.specs.Replies.{with_app}
use Rattle.card_app.specs.PageReplies.{CardReplyData, refused, decides}
use Rattle.card_cryptogram.specs.ScriptHeaders.{size_of, limit_to}
use Rattle.card_cryptogram.specs.declared.orders.ScriptCommand.{ScriptCommand}
use Rattle.card_cryptogram.specs.declared.orders.ScriptCommand.TheVariants.{BlockApp, UnblockApp, BlockCard, UnblockPin, ChangePin, LimitCount, LimitSum}
use Rattle.card_cryptogram.specs.declared.phase.First.{First as FirstData}
use Rattle.card_cryptogram.specs.declared.phase.Phase.{Phase}
use Rattle.card_cryptogram.specs.declared.phase.Phase.TheVariants.{Idle, Directory, Selected, Started, Online, Closed, Done}

-- a new PIN, where the block is one
abbrev pub change_to : ℕ → List ℕ → Option Scripted
change_to limit block = if is_plain_block block then Some (PinChange block limit) else None

-- what an order does, where its data allow it
abbrev pub scripted_of : ScriptCommand → AppData → FirstData → List ℕ → Option Scripted
scripted_of BlockApp a first body = Some Block
scripted_of UnblockApp a first body = Some Unblock
scripted_of BlockCard a first body = Some CardBlock
scripted_of UnblockPin a first body = Some (PinUnblock a.tries)
scripted_of ChangePin a first body = change_to a.tries (block_in a.enc_key first.cryptogram body)
scripted_of LimitCount a first body = Some (Count (slice_index body 0))
scripted_of LimitSum a first body = limit_to (take 6 body)

abbrev pub carried_out : ℕ → Option Scripted → CardReplyData
carried_out app None = refused 0x6985
carried_out app (Some scripted) = decides app (Script scripted) [] 0x9000

abbrev pub header_of : CommandData → List ℕ
header_of c = c.class ∷ c.ins ∷ c.p1 ∷ c.p2 ∷ []

-- the length of the data, the code, and then what the order does
unfoldable pub script_for : ScriptCommand → ℕ → FirstData → CommandData → AppData → AppState → CardReplyData
script_for order app first c a s =
    if not (length c.body == size_of order) then refused 0x6700
    else if not (has_code a.mac_key first.cryptogram s.counter (header_of c) c.body) then refused 0x6988
    else carried_out app (scripted_of order a first c.body)

-- scripts come behind a first request to go online
abbrev pub script_in_phase : ImageData → CardState → Phase → ScriptCommand → CommandData → CardReplyData
script_in_phase image state (Online app first sent) order c = with_app image.apps state app (script_for order app first c)
script_in_phase image state (Done app first) order c = with_app image.apps state app (script_for order app first c)
script_in_phase image state Idle order c = refused 0x6985
script_in_phase image state Directory order c = refused 0x6985
script_in_phase image state (Selected app) order c = refused 0x6985
script_in_phase image state (Started app) order c = refused 0x6985
script_in_phase image state (Closed app) order c = refused 0x6985

unfoldable pub script_row : ImageData → CardState → Phase → Option ScriptCommand → CommandData → CardReplyData
script_row image state phase None c = refused 0x6A86
script_row image state phase (Some order) c = script_in_phase image state phase order c
