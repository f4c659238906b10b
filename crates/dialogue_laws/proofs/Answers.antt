-- What a card answers to a command as a terminal writes it, and how it stands then.
use Rattle.std.proofs.Common.{◌≡◌, ℕ, ◌+◌, ◌≤◌, ◌==◌, true, false, List, [], ◌∷◌, ◌++◌, length, take, slice_index, Option, Some, None, option_map, refl, ap, ◌∙◌, append-nil, length-append, eq-eqb, arith}
use Rattle.std.proofs.lemmas.Bool.Decides.{nat_tests}
use Rattle.std.proofs.Math.Seq.{take-append_seam}
use Rattle.std.proofs.lemmas.List.Sums.{fold-append}
use Rattle.apdu_core.proofs.ReadAgain.{response_again}
use Rattle.apdu_core.specs.Command.{CommandData, command_of, command_bytes, tail_of, tail_bytes}
use Rattle.apdu_core.specs.Response.{response_of, response_bytes}
use Rattle.card_app.specs.Answering.{instruction_answer, answer_in_phase, card_reply}
use Rattle.card_app.specs.Session.{Exchange, phase_after_exchange, after_said, next_phase, phase_of}
use Rattle.card_cryptogram.specs.declared.phase.Phase.{Phase}
use Rattle.card_cryptogram.specs.declared.phase.Phase.TheVariants.{Idle}
use Rattle.card_files.specs.Files.{opening_of}
use Rattle.card_files.specs.Views.{ImageData}
use Rattle.card_app.specs.PageReplies.{CardReplyData, response_in}
use Rattle.card_state.specs.Totals.{totals}
use Rattle.card_state.specs.declared.state.CardState.{CardState}
use Rattle.dialogue_laws.specs.Cards.{Now, says, goes}

-- the state of the card, and its phase
abbrev pub state_at : ImageData → Now → CardState
state_at image now = totals (opening_of image) now.kept

abbrev pub phase_at : ImageData → Now → Phase
phase_at image now = phase_of image now.session

-- the card makes this reply to a command, whose answer is read, and goes on so
pub record Answers (image : ImageData) (now : Now) (command : List ℕ) (reply : CardReplyData) (next : Phase) : Type 0 where
  pub says_so : says image now command ≡ response_bytes reply.body reply.status
  pub read : response_of (says image now command) ≡ Some (response_in reply)
  pub phase : phase_at image (goes image now command) ≡ next
  pub kept : (goes image now command).kept ≡ now.kept ++ reply.new

-- what it decides and answers
pub is_reply : (image : ImageData) (now : Now) (command : List ℕ) (c : CommandData) (phase : Phase) → command_of command ≡ Some c → phase_at image now ≡ phase
    → card_reply image now.kept now.session command ≡ instruction_answer image (state_at image now) phase c
unfolding card_reply answer_in_phase
is_reply image now command c phase known here = rw (known, here) refl

pub answers : {image : ImageData} {now : Now} {command : List ℕ} {reply : CardReplyData} (c : CommandData) (phase : Phase) → command_of command ≡ Some c
    → phase_at image now ≡ phase → instruction_answer image (state_at image now) phase c ≡ reply → length reply.body ≤ 256
    → Answers image now command reply (next_phase image phase c reply.body reply.status)
unfolding phase_of
answers {image} {now} {command} {reply} c phase known here is short =
    let whole : card_reply image now.kept now.session command ≡ reply = is_reply image now command c phase known here ∙ is in
    let wrote : says image now command ≡ response_bytes reply.body reply.status = ap (λ (r : CardReplyData). response_bytes r.body r.status) whole in
    let reads : response_of (says image now command) ≡ Some (response_in reply) = ap response_of wrote ∙ response_again reply.body reply.status short in
    let x : Exchange = record { command = command; answer = says image now command } in
    record {
      says_so = wrote;
      read = reads;
      phase =
          fold-append (phase_after_exchange image) Idle now.session (x ∷ [])
          ∙ ap (λ (p : Phase). phase_after_exchange image p x) here
          ∙ ap (λ (k : Option CommandData). after_said image phase k (response_of x.answer)) known
          ∙ ap (after_said image phase (Some c)) reads;
      kept = ap (λ (r : CardReplyData). now.kept ++ r.new) whole;
    }

last_index : (xs : List ℕ) (x : ℕ) → slice_index (xs ++ x ∷ []) (length xs) ≡ x
last_index [] x = refl
last_index (y ∷ xs) x = last_index xs x

tail_again : (body : List ℕ) (expects : Option ℕ) → tail_of (tail_bytes body expects) ≡ Some (body, expects)
tail_again [] None = refl
tail_again [] (Some expected) = refl
tail_again (b ∷ bs) None =
    let some : (length (b ∷ bs) == 0) ≡ false = grind (arith, nat_tests) in
    let same : b ∷ bs ++ [] ≡ b ∷ bs = append-nil (b ∷ bs) in
    let whole : (length (b ∷ bs ++ []) == length (b ∷ bs)) ≡ true = ap (λ (all : List ℕ). length all == length (b ∷ bs)) same ∙ eq-eqb (length (b ∷ bs)) (length (b ∷ bs)) refl in
    rw (same, some, whole) refl
tail_again (b ∷ bs) (Some expected) =
    let some : (length (b ∷ bs) == 0) ≡ false = grind (arith, nat_tests) in
    let size : length (b ∷ bs ++ expected ∷ []) ≡ length (b ∷ bs) + 1 = length-append (b ∷ bs) (expected ∷ []) in
    let other : (length (b ∷ bs ++ expected ∷ []) == length (b ∷ bs)) ≡ false = grind (arith, nat_tests) in
    let one_more : (length (b ∷ bs ++ expected ∷ []) == length (b ∷ bs) + 1) ≡ true = grind (arith, nat_tests) in
    let front : take (length (b ∷ bs)) (b ∷ bs ++ expected ∷ []) ≡ b ∷ bs = take-append_seam (b ∷ bs) (expected ∷ []) in
    let last : slice_index (b ∷ bs ++ expected ∷ []) (length (b ∷ bs)) ≡ expected = last_index (b ∷ bs) expected in
    rw (some, other, one_more, front, last) refl

-- a command is read as it was written
pub command_again : (c : CommandData) → command_of (command_bytes c) ≡ Some c
unfolding command_of
command_again c = ap (λ t. option_map (λ t. record { class = c.class; ins = c.ins; p1 = c.p1; p2 = c.p2; body = t.0; expects = t.1 }) t) (tail_again c.body c.expects)
