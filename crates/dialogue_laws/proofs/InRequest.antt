-- A card stays in the transaction of a request behind a command that it carries out.
use Rattle.std.proofs.Common.{◌≡◌, ℕ, zero, suc, ◌<◌, ◌||◌, List, [], ◌∷◌, ◌++◌, length, set, slice_get, Some, refl, ap, sym, ◌∙◌, arith}
use Rattle.apdu_core.specs.Command.{CommandData, command_of}
use Rattle.auth_message.specs.Data.{RequestData}
use Rattle.card_app.specs.Answering.{instruction_answer}
use Rattle.card_app.specs.Session.{next_phase}
use Rattle.card_cryptogram.specs.declared.phase.First.{First}
use Rattle.card_files.specs.Files.{opening_of}
use Rattle.card_files.specs.Views.{AppData, ImageData}
use Rattle.card_app.specs.PageReplies.{CardReplyData, decides, answer_said}
use Rattle.card_state.proofs.CardLemmas.{totals-longer}
use Rattle.card_state.specs.Change.{changed}
use Rattle.card_state.specs.Decisions.{Decided, blocks_card}
use Rattle.card_state.specs.Totals.{totals}
use Rattle.card_state.specs.declared.decision.Decision.{Decision}
use Rattle.card_state.specs.declared.state.AppState.{AppState}
use Rattle.card_state.specs.declared.state.CardState.{CardState}
use Rattle.dialogue_laws.specs.Cards.{Now}
use Rattle.dialogue_laws.specs.IssuerAtCard.{IsInRequest, CarriesOut, went_online}
use Rattle.dialogue_laws.proofs.Answers.{state_at, phase_at, is_reply, answers}
use Rattle.issuer_host.specs.declared.keys.HostKeys.{HostKeys}

inside : (xs : List AppState) (i : ℕ) (x : AppState) → slice_get xs i ≡ Some x → i < length xs
inside [] i x is = absurd (cc is)
inside (y ∷ xs) zero x is = omega arith
inside (y ∷ xs) (suc i) x is = let before : i < length xs = inside xs i x is in omega arith

set_there : (xs : List AppState) (i : ℕ) (x new : AppState) → slice_get xs i ≡ Some x → slice_get (set xs i new) i ≡ Some new
set_there [] i x new is = absurd (cc is)
set_there (y ∷ xs) zero x new is = refl
set_there (y ∷ xs) (suc i) x new is = set_there xs i x new is

-- the state of an application behind one decision more
state_behind : (opening : CardState) (kept : List Decided) (app : ℕ) (s : AppState) (d : Decision) → slice_get (totals opening kept).apps.items app ≡ Some s
    → slice_get (totals opening (kept ++ record { app = app; decision = d } ∷ [])).apps.items app ≡ Some (changed s d)
state_behind opening kept app s d there =
    let old : CardState = totals opening kept in
    let after : AppState = changed s d in
    let new : CardState = record { blocked = old.blocked || blocks_card d; apps = record { items = set old.apps.items app after } } in
    let only : (t : AppState) → slice_get old.apps.items app ≡ Some t → set old.apps.items app after ≡ set old.apps.items app (changed t d) =
    λ t found. (let one : s ≡ t = cc in ap (λ (u : AppState). set old.apps.items app (changed u d)) one) in
    let is : new ≡ totals opening (kept ++ record { app = app; decision = d } ∷ []) = totals-longer opening kept app d old new (inside old.apps.items app s there) refl only refl in
    ap (λ (c : CardState). slice_get c.apps.items app) (sym is) ∙ set_there old.apps.items app s after there

-- a command that is answered with 9000 alone and a decision that leaves the counter
pub carries_out :
    (keys : HostKeys) (f : RequestData) (image : ImageData) (now : Now) (app : ℕ) (a : AppData) (s : AppState) (first : First) (c : CommandData) (command : List ℕ) (decision : Decision)
    → IsInRequest keys f image now app a s first → command_of command ≡ Some c
    → instruction_answer image (state_at image now) (phase_at image now) c ≡ decides app decision [] 0x9000
    → (changed s decision).counter ≡ s.counter → went_online (next_phase image (phase_at image now) c [] 0x9000) ≡ Some (app, first)
    → CarriesOut keys f image now app a s first command decision
carries_out keys f image now app a s first c command decision at known is same stays =
    let reply : CardReplyData = decides app decision [] 0x9000 in
    let said = answers {image = image} {now = now} {command = command} {reply = reply} c (phase_at image now) known refl is (omega arith) in
    record {
      answer = ap answer_said (is_reply image now command c (phase_at image now) known refl ∙ is);
      stays = record {
        own = at.own;
        there = ap (λ (kept : List Decided). slice_get (totals (opening_of image) kept).apps.items app) said.kept ∙ state_behind (opening_of image) now.kept app s decision at.there;
        keyed = at.keyed;
        counter = same ∙ at.counter;
        cryptogram = at.cryptogram;
      };
      phase = ap went_online said.phase ∙ stays;
    }
