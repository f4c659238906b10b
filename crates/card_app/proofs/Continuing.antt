-- A card that goes on by one command.
use Rattle.std.proofs.Common.{◌≡◌, ℕ, List, [], ◌∷◌, Option, Some, refl, ap, sym, subst, ◌∙◌}
use Rattle.std.proofs.lemmas.List.Sums.{fold-append}
use Rattle.apdu_core.specs.Command.{CommandData, command_of}
use Rattle.apdu_core.specs.Response.{ResponseData, response_of}
use Rattle.card_files.specs.Files.{opening_of}
use Rattle.card_files.specs.Views.{ImageData}
use Rattle.card_state.specs.Decisions.{Decided}
use Rattle.card_state.specs.Totals.{totals}
use Rattle.card_state.specs.declared.state.CardState.{CardState}
use Rattle.emv_ports.specs.Memory.{Memory}
use Rattle.emv_ports.specs.declared.tear.Tear.{Tear}
use Rattle.card_app.specs.Answering.{answer_in_phase, card_reply}
use Rattle.card_app.specs.PageReplies.{CardReplyData, answer_said, response_in}
use Rattle.card_app.specs.SeenKept.{KeptState, Took, Takes, CutAt, IsDecisionCut}
use Rattle.card_app.specs.SeenCard.{CardSeen, CardOn, Answered, CutOff}
use Rattle.card_app.specs.SeenReply.{reply_data, LeadsPhase, phase_behind}
use Rattle.card_app.specs.Session.{Exchange, phase_after_exchange, after_said, phase_of}
use Rattle.card_cryptogram.specs.declared.phase.Phase.{Phase}
use Rattle.card_cryptogram.specs.declared.phase.Phase.TheVariants.{Idle}
use Rattle.card_app.specs.declared.reply.Reply.{Reply}
use Rattle.card_app.specs.declared.reply.Reply.TheVariants.{Plain, Decides, Compares}

-- the phase behind a reply is the one that its answer leads to
leads_to : (image : ImageData) (phase : Phase) (c : Option CommandData) (body : List ℕ) (reply : Reply) → LeadsPhase image phase c body reply
    → phase_behind phase reply ≡ after_said image phase c (Some (response_in (reply_data body reply)))
leads_to image phase c body (Plain status next) leads = leads
leads_to image phase c body (Decides app decision status next) leads = leads
leads_to image phase c body (Compares k) leads = leads (reply_data body (Compares k)).body (reply_data body (Compares k)).status

module _ (seen : CardSeen) (session : List Exchange) (ds : List Decided) (plan : Option Tear) (made : ℕ) (on : CardOn seen session ds plan made)
    (command body : List ℕ) (reply : Reply) (is : reply_data body reply ≡ answer_in_phase seen.image seen.kept.state seen.phase command) where
  -- the reply of a card in its state and phase is that of its decisions and its session
  pub reply_is : reply_data body reply ≡ card_reply seen.image ds session command
  unfolding card_reply
  reply_is =
      is
      ∙ ap (λ (s : CardState). answer_in_phase seen.image s seen.phase command) on.kept.state_is
      ∙ ap (λ (p : Phase). answer_in_phase seen.image (totals (opening_of seen.image) ds) p command) on.phase_is

  pub cut_off : (lost : Memory) → IsDecisionCut seen.kept lost (reply_data body reply).new → CutOff seen lost session ds plan made command
  cut_off lost cut =
      let one = cut (opening_of seen.image) ds plan made on.kept in
      (one.0, subst (λ (r : CardReplyData). CutAt seen.kept.memory lost (opening_of seen.image) ds r.new plan made one.0) reply_is one.1)

  pub answered : (kept : KeptState) (phase : Phase) (answer : List ℕ) → Takes seen.kept kept (reply_data body reply).new
      → phase ≡ phase_behind seen.phase reply → LeadsPhase seen.image seen.phase (command_of command) body reply
      → answer ≡ (answer_said (reply_data body reply)).answer → response_of answer ≡ Some (response_in (reply_data body reply))
      → Answered seen (record { image = seen.image; kept = kept; phase = phase }) session ds plan made command answer
  unfolding phase_of
  answered kept phase answer takes behind leads writes reads =
      let x : Exchange = record { command = command; answer = answer } in
      let took = subst (λ (r : CardReplyData). Took kept (opening_of seen.image) ds r.new plan made) reply_is (takes (opening_of seen.image) ds plan made on.kept) in
      record {
        spared = took.spared;
        answer_is = writes ∙ ap (λ (r : CardReplyData). (answer_said r).answer) reply_is;
        same_image = refl;
        on = record {
          kept = took.kept;
          phase_is =
              behind
              ∙ leads_to seen.image seen.phase (command_of command) body reply leads
              ∙ ap (λ (o : Option ResponseData). after_said seen.image seen.phase (command_of command) o) (sym reads)
              ∙ ap (λ (p : Phase). phase_after_exchange seen.image p x) on.phase_is
              ∙ sym (fold-append (phase_after_exchange seen.image) Idle session (x ∷ []));
        };
      }
