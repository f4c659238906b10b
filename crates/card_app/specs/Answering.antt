-- What a card decides and answers to any bytes (ISO/IEC 7816-4; EMV 4.3 Book 3 section 6.5).
use Rattle.std.specs.Prelude.{ℕ, ◌==◌, ◌&&◌, not, if◌then◌else◌, List, Option, Some, None}
use Rattle.apdu_core.specs.Command.{CommandData, command_of}
use Rattle.card_files.specs.Files.{opening_of}
use Rattle.card_files.specs.Views.{ImageData}
use Rattle.card_state.specs.Decisions.{Decided}
use Rattle.card_state.specs.Totals.{totals}
use Rattle.card_state.specs.declared.state.CardState.{CardState}
use Rattle.card_app.specs.Cryptograms.{generate_row, authenticate_row}
use Rattle.card_app.specs.Files.{select_row, record_row, data_row}
use Rattle.card_app.specs.Options.{options_of}
use Rattle.card_app.specs.ScriptCommands.{script_row}
use Rattle.card_cryptogram.specs.Asked.{is_class}
use Rattle.card_cryptogram.specs.ScriptHeaders.{plain_order, pin_order, limit_order}
use Rattle.card_app.specs.Pin.{verify_of}
use Rattle.card_app.specs.Replies.{with_app}
use Rattle.card_app.specs.PageReplies.{CardReplyData, CardAnswer, refused, answer_said}
use Rattle.card_app.specs.Session.{Exchange, phase_of}
use Rattle.card_cryptogram.specs.declared.orders.ScriptCommand.TheVariants.{BlockApp, UnblockApp, BlockCard}
use Rattle.card_cryptogram.specs.declared.phase.Phase.{Phase}
use Rattle.card_cryptogram.specs.declared.phase.Phase.TheVariants.{Idle, Directory, Selected, Started, Online, Closed, Done}

-- GET PROCESSING OPTIONS comes behind SELECT
abbrev pub options_in_phase : ImageData → CardState → Phase → List ℕ → CardReplyData
options_in_phase image state (Selected app) body = with_app image.apps state app (options_of state.blocked app body)
options_in_phase image state Idle body = refused 0x6985
options_in_phase image state Directory body = refused 0x6985
options_in_phase image state (Started app) body = refused 0x6985
options_in_phase image state (Online app first sent) body = refused 0x6985
options_in_phase image state (Closed app) body = refused 0x6985
options_in_phase image state (Done app first) body = refused 0x6985

unfoldable pub options_row : ImageData → CardState → Phase → CommandData → CardReplyData
options_row image state phase c =
    if not (c.p1 == 0 && c.p2 == 0) then refused 0x6A86 else options_in_phase image state phase c.body

-- VERIFY comes behind GET PROCESSING OPTIONS
abbrev pub verify_in : ImageData → CardState → Phase → List ℕ → CardReplyData
verify_in image state (Started app) body = with_app image.apps state app (verify_of app body)
verify_in image state Idle body = refused 0x6985
verify_in image state Directory body = refused 0x6985
verify_in image state (Selected app) body = refused 0x6985
verify_in image state (Online app first sent) body = refused 0x6985
verify_in image state (Closed app) body = refused 0x6985
verify_in image state (Done app first) body = refused 0x6985

unfoldable pub verify_row : ImageData → CardState → Phase → CommandData → CardReplyData
verify_row image state phase c =
    if not (c.p1 == 0 && c.p2 == 0x80) then refused 0x6A86 else verify_in image state phase c.body

-- the row of a command of a known class; an unknown instruction is refused
unfoldable pub instruction_row : ImageData → CardState → Phase → CommandData → CardReplyData
instruction_row image state phase c =
    if c.class == 0x00 && c.ins == 0xA4 then select_row image state phase c
    else if c.class == 0x00 && c.ins == 0xB2 then record_row image state phase c
    else if c.class == 0x80 && c.ins == 0xA8 then options_row image state phase c
    else if c.class == 0x00 && c.ins == 0x20 then verify_row image state phase c
    else if c.class == 0x80 && c.ins == 0xCA then data_row image state phase c
    else if c.class == 0x80 && c.ins == 0xAE then generate_row image state phase c
    else if c.class == 0x00 && c.ins == 0x82 then authenticate_row image state phase c
    else if c.class == 0x84 && c.ins == 0x1E then script_row image state phase (plain_order BlockApp c.p1 c.p2) c
    else if c.class == 0x84 && c.ins == 0x18 then script_row image state phase (plain_order UnblockApp c.p1 c.p2) c
    else if c.class == 0x84 && c.ins == 0x16 then script_row image state phase (plain_order BlockCard c.p1 c.p2) c
    else if c.class == 0x84 && c.ins == 0x24 then script_row image state phase (pin_order c.p1 c.p2) c
    else if c.class == 0x04 && c.ins == 0xDA then script_row image state phase (limit_order c.p1 c.p2) c
    else refused 0x6D00

-- an unknown class is refused first
abbrev pub instruction_answer : ImageData → CardState → Phase → CommandData → CardReplyData
instruction_answer image state phase c = if is_class c.class then instruction_row image state phase c else refused 0x6E00

abbrev pub row_or_refusal : ImageData → CardState → Phase → Option CommandData → CardReplyData
row_or_refusal image state phase None = refused 0x6700
row_or_refusal image state phase (Some c) = instruction_answer image state phase c

-- what a card of this image decides and answers in a state and a phase
unfoldable pub answer_in_phase : ImageData → CardState → Phase → List ℕ → CardReplyData
answer_in_phase image state phase command = row_or_refusal image state phase (command_of command)

-- what it decides and answers behind these decisions since it was made and this session since power-up
unfoldable pub card_reply : ImageData → List Decided → List Exchange → List ℕ → CardReplyData
card_reply image ds session command = answer_in_phase image (totals (opening_of image) ds) (phase_of image session) command

-- the same, with the answer's bytes
abbrev pub card_answer : ImageData → List Decided → List Exchange → List ℕ → CardAnswer
card_answer image ds session command = answer_said (card_reply image ds session command)
