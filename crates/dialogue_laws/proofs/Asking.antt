-- The terminal asks a card for its cryptograms, and reads them.
use Rattle.std.proofs.Common.{◌≡◌, ℕ, false, List, slice_get, Option, Some, None, Ok, refl, ap, sym, subst, ◌∙◌}
use Rattle.std.specs.Prelude.{⊤}
use Rattle.apdu_core.specs.Command.{command_bytes}
use Rattle.card_app.specs.Answering.{instruction_answer}
use Rattle.card_app.specs.Session.{next_phase, first_in}
use Rattle.card_cryptogram.specs.Asked.{is_arqc}
use Rattle.card_cryptogram.specs.Bodies.{kind_in}
use Rattle.card_cryptogram.specs.declared.phase.Phase.{Phase}
use Rattle.card_cryptogram.specs.declared.phase.Phase.TheVariants.{Started, Online}
use Rattle.card_files.specs.Views.{AppData, ImageData}
use Rattle.card_app.specs.PageReplies.{CardReplyData}
use Rattle.dialogue_laws.proofs.Answers.{state_at, phase_at, answers, command_again}
use Rattle.dialogue_laws.proofs.Filled.{list_filled}
use Rattle.dialogue_laws.proofs.Generating.{AnswersAreReadBack, Holds, generating, given_in, is_read, kind_read, body_short}
use Rattle.dialogue_laws.proofs.Made.{first_holds, second_holds}
use Rattle.dialogue_laws.proofs.Runs.{Runs, done, asks}
use Rattle.dialogue_laws.proofs.Stages.{HasLists}
use Rattle.dialogue_laws.proofs.Standing.{IsOnline, has_state}
use Rattle.dialogue_laws.specs.Cards.{Now, says, goes}
use Rattle.emv_dict.specs.Views.{AcData}
use Rattle.emv_dict.specs.declared.ending.Kind.{Kind}
use Rattle.emv_dict.specs.declared.ending.Kind.TheVariants.{Arqc}
use Rattle.env_map.specs.Entries.{Entries}
use Rattle.object_lists.specs.CardRead.{ReadCard}
use Rattle.online_step.specs.Ac.{ac_in_answer}
use Rattle.online_step.specs.Generate.{generated, generate_command, list_data}
use Rattle.online_step.specs.Laws.{read_of}
use Rattle.online_step.specs.declared.ac.GenerateAc.{GenerateAc}
use Rattle.online_step.specs.declared.ac.GenerateAc.TheVariants as generate

module _ (image : ImageData) (back : AnswersAreReadBack) where
  -- a card that makes a cryptogram answers so that the terminal goes on
  generate_runs : (now : Now) (phase : Phase) (tag : ℕ) (asked : Kind) (which : GenerateAc) (given : List ℕ) (format : ℕ) (Post : Now → AcData → Type 0) → phase_at image now ≡ phase
      → (holds : Holds format asked which (instruction_answer image (state_at image now) phase (generating asked given)))
      → ((at : Now) → phase_at image at ≡ next_phase image phase (generating asked given) (instruction_answer image (state_at image now) phase (generating asked given)).body (instruction_answer image (state_at image now) phase (generating asked given)).status
      → Post at (read_of (given_in holds.kind holds.state holds.cryptogram)))
      → Runs image Post now (generated tag asked which (Some given))
  unfolding generate_command
  generate_runs now phase tag asked which given format Post here holds post =
      let command = command_bytes (generating asked given) in
      let reply : CardReplyData = instruction_answer image (state_at image now) phase (generating asked given) in
      let said = answers {image = image} {now = now} {command = command} {reply = reply} (generating asked given) phase (command_again (generating asked given)) here refl (body_short format asked which reply holds) in
      let read : ac_in_answer (says image now command) asked which ≡ Ok (read_of (given_in holds.kind holds.state holds.cryptogram)) =
      ap (λ (answer : List ℕ). ac_in_answer answer asked which) said.says_so ∙ is_read back format asked which reply holds in
      asks command refl (done (read_of (given_in holds.kind holds.state holds.cryptogram)) (λ later. rw read refl) (post (goes image now command) said.phase))

  request_phase : (a : AppData) (app : ℕ) (asked : Kind) (given : List ℕ) (reply : CardReplyData) (holds : Holds a.ac_format asked generate.First reply) → slice_get image.apps app ≡ Some a → holds.kind ≡ Arqc
      → next_phase image (Started app) (generating asked given) reply.body reply.status ≡ Online app (first_in a given reply.body) None
  unfolding next_phase
  request_phase a app asked given reply holds own request =
      let kind : kind_in a.ac_format reply.body ≡ Some Arqc = kind_read a.ac_format asked generate.First reply holds ∙ ap Some request in
      rw (holds.status, own, kind) refl

  -- the first GENERATE AC: behind a request the card waits for the second one
  pub first_runs : (a : AppData) (app : ℕ) (now : Now) (asked : Kind) (card : ReadCard) (terminal : Entries) → slice_get image.apps app ≡ Some a → HasLists a card → phase_at image now ≡ Started app
      → Runs image (λ at ac. ac.kind ≡ Arqc → IsOnline image app at) now (generated 0x8C asked generate.First (list_data 0x8C card terminal))
  first_runs a app now asked card terminal own lists here =
      let found = list_filled 0x8C a.cdol1 card terminal lists.first in
      let state = has_state image now app a own in
      let holds = first_holds image (state_at image now) app a state.state own state.there asked found.given found.size in
      let reply : CardReplyData = instruction_answer image (state_at image now) (Started app) (generating asked found.given) in
      subst (λ (d : Option (List ℕ)). Runs image (λ at ac. ac.kind ≡ Arqc → IsOnline image app at) now (generated 0x8C asked generate.First d)) (sym found.is)
      (generate_runs now (Started app) 0x8C asked generate.First found.given a.ac_format (λ at ac. ac.kind ≡ Arqc → IsOnline image app at) here holds
      (λ at phase request. record { first = first_in a found.given reply.body; sent = None; is = phase ∙ request_phase a app asked found.given reply holds own request }))

  -- the second one
  pub second_runs : (a : AppData) (app : ℕ) (now : Now) (asked : Kind) (card : ReadCard) (terminal : Entries) → slice_get image.apps app ≡ Some a → HasLists a card → IsOnline image app now
      → is_arqc asked ≡ false → Runs image (λ at ac. ⊤) now (generated 0x8D asked generate.Second (list_data 0x8D card terminal))
  second_runs a app now asked card terminal own lists at offline =
      let found = list_filled 0x8D a.cdol2 card terminal lists.second in
      let state = has_state image now app a own in
      let holds = second_holds image (state_at image now) app a state.state own state.there at.first at.sent asked found.given found.size offline in
      subst (λ (d : Option (List ℕ)). Runs image (λ at ac. ⊤) now (generated 0x8D asked generate.Second d)) (sym found.is)
      (generate_runs now (Online app at.first at.sent) 0x8D asked generate.Second found.given a.ac_format (λ at ac. ⊤) at.is holds (λ at phase. tt))
