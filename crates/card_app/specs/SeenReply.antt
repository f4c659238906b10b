-- What a contract sees of a reply that is not carried out yet.
use Rattle.std.specs.Prelude.{◌≡◌, ℕ, ◌<◌, List, length, slice_get, Option, Some}
use Rattle.apdu_core.specs.Command.{CommandData}
use Rattle.card_files.specs.Views.{AppData, ImageData}
use Rattle.card_app.specs.Comparing.{MayCompare, comparison_reply}
use Rattle.card_app.specs.PageReplies.{CardReplyData, shows, decides}
use Rattle.card_app.specs.SeenKept.{MayTake}
use Rattle.card_state.specs.declared.state.AppState.{AppState}
use Rattle.card_state.specs.declared.state.CardState.{CardState}
use Rattle.card_app.specs.AtWork.{IsAppThere}
use Rattle.card_app.specs.Session.{after_said, next_phase}
use Rattle.card_cryptogram.specs.declared.phase.Phase.{Phase}
use Rattle.card_app.specs.declared.reply.Reply.{Reply}
use Rattle.card_app.specs.declared.reply.Reply.TheVariants.{Plain, Decides, Compares}

-- what a reply with this body decides and answers
abbrev pub reply_data : List ℕ → Reply → CardReplyData
reply_data body (Plain status phase) = shows body status
reply_data body (Decides app decision status phase) = decides app decision body status
reply_data body (Compares k) = comparison_reply k

-- the phase in a reply is the one that its answer leads to; a comparison leaves the phase
abbrev pub LeadsPhase : ImageData → Phase → Option CommandData → List ℕ → Reply → Type 0
LeadsPhase image phase c body (Plain status next) = next ≡ after_said image phase c (Some (record { body = body; status = status }))
LeadsPhase image phase c body (Decides app decision status next) = next ≡ after_said image phase c (Some (record { body = body; status = status }))
LeadsPhase image phase c body (Compares k) = (given : List ℕ) (status : ℕ) → phase ≡ after_said image phase c (Some (record { body = given; status = status }))

-- the phase behind a reply
abbrev pub phase_behind : Phase → Reply → Phase
phase_behind phase (Plain status next) = next
phase_behind phase (Decides app decision status next) = next
phase_behind phase (Compares k) = phase

-- the card may carry the reply out
abbrev pub MayReply : CardState → Reply → Type 0
MayReply state (Plain status phase) = IsAppThere phase (length state.apps.items)
MayReply state (Decides app decision status phase) =
    (app < length state.apps.items) × MayTake state app decision × IsAppThere phase (length state.apps.items)
MayReply state (Compares k) = MayCompare state k

-- the same two for a reply that is made from one application's image and from its state
abbrev pub LeadsFor : ℕ → AppData → Phase → CommandData → List ℕ → Reply → Type 0
LeadsFor number a phase c body reply = (image : ImageData) → slice_get image.apps number ≡ Some a → LeadsPhase image phase (Some c) body reply

abbrev pub MayFor : ℕ → AppState → Reply → Type 0
MayFor number s reply = (state : CardState) → number < length state.apps.items → slice_get state.apps.items number ≡ Some s → MayReply state reply

-- whatever is answered, the command leaves the phase
abbrev pub LeavesPhase : Phase → CommandData → Type 0
LeavesPhase phase c = (image : ImageData) (body : List ℕ) (status : ℕ) → phase ≡ next_phase image phase c body status

-- A reply to a command, with this body: it is the one that is wanted, its phase is the one that its answer leads to,
-- and the card may carry it out.
pub record MakesReply (image : ImageData) (state : CardState) (phase : Phase) (c : Option CommandData) (body : List ℕ) (reply : Reply) (wanted : CardReplyData) : Type 0 where
  pub said : reply_data body reply ≡ wanted
  pub leads : LeadsPhase image phase c body reply
  pub may : MayReply state reply

-- the same of a reply that is made from one application's image and from its state
pub record MakesReplyFor (number : ℕ) (a : AppData) (s : AppState) (phase : Phase) (c : CommandData) (body : List ℕ) (reply : Reply) (wanted : CardReplyData) : Type 0 where
  pub said : reply_data body reply ≡ wanted
  pub leads : LeadsFor number a phase c body reply
  pub may : MayFor number s reply

-- a reply to a command of this row
abbrev pub ObeysRow : (ImageData → CardState → Phase → CommandData → CardReplyData) → ImageData → CardState → Phase → CommandData → List ℕ → Reply → Type 0
ObeysRow row image state phase c body reply = MakesReply image state phase (Some c) body reply (row image state phase c)
