-- A command between GET PROCESSING OPTIONS and the first GENERATE AC is answered readably, and the application stays
-- started.
use Rattle.std.proofs.Common.{◌≡◌, ℕ, ◌≤◌, Bool, true, false, if◌then◌else◌, List, length, Option, Some, None, refl, ◌∙◌, zero-le}
use Rattle.apdu_core.specs.Command.{CommandData, command_bytes}
use Rattle.apdu_core.specs.Response.{ResponseData, response_of}
use Rattle.card_app.specs.Answering.{instruction_answer}
use Rattle.card_app.specs.Replies.{with_both}
use Rattle.card_app.specs.Session.{next_phase}
use Rattle.card_cryptogram.specs.declared.phase.Phase.TheVariants.{Started}
use Rattle.card_files.specs.Views.{AppData, ImageData}
use Rattle.card_app.specs.PageReplies.{CardReplyData, response_in}
use Rattle.card_state.specs.declared.state.AppState.{AppState}
use Rattle.dialogue_laws.proofs.Answers.{answers, command_again, state_at, phase_at}
use Rattle.dialogue_laws.specs.Cards.{Now, says, goes}

pub record Heard (image : ImageData) (app : ℕ) (now : Now) (command : List ℕ) : Type 0 where
  pub response : ResponseData
  pub read : response_of (says image now command) ≡ Some response
  pub phase : phase_at image (goes image now command) ≡ Started app

-- where the command moves no phase and its answer has room
pub heard : (image : ImageData) (app : ℕ) (now : Now) (c : CommandData) → phase_at image now ≡ Started app
    → length (instruction_answer image (state_at image now) (Started app) c).body ≤ 256 → ((body : List ℕ) (status : ℕ) → next_phase image (Started app) c body status ≡ Started app)
    → Heard image app now (command_bytes c)
heard image app now c here room stays =
    let reply : CardReplyData = instruction_answer image (state_at image now) (Started app) c in
    let ans = answers c (Started app) (command_again c) here refl room in
    record { response = response_in reply; read = ans.read; phase = ans.phase ∙ stays reply.body reply.status }

-- a body has room where it has it by both branches of a test, and by what an application makes of the command
pub if_room : (test : Bool) (one other : CardReplyData) → length one.body ≤ 256 → length other.body ≤ 256 → length (if test then one else other).body ≤ 256
if_room true one other first second = first
if_room false one other first second = second

pub app_room : (found : Option AppData) (now : Option AppState) (reply : AppData → AppState → CardReplyData) → ((a : AppData) (s : AppState) → length (reply a s).body ≤ 256)
    → length (with_both found now reply).body ≤ 256
app_room (Some a) (Some s) reply room = room a s
app_room (Some a) None reply room = zero-le
app_room None now reply room = zero-le
