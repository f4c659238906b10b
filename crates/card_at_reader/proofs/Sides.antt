-- A card that is on or off.
use Rattle.std.proofs.Common.{◌≡◌, ℕ, Bool, true, false, List, [], ◌∷◌, ◌++◌, ◌+◌, length, codes, Option, None, Result, Ok, Err, refl, sym, ap, subst, ◌∙◌, append_assoc, append-nil, length-append}
use Rattle.std.specs.Prelude.{OnOk}
use Rattle.card_app.specs.Answering.{card_answer}
use Rattle.card_app.specs.Reasons.{why_of}
use Rattle.card_app.specs.SeenCard.{CardSeen}
use Rattle.card_app.specs.SeenIcc.{IccAnswered, IccCut, IccOn, IccOff, IsIccOff, icc_is_powered}
use Rattle.card_app.specs.Session.{Exchange}
use Rattle.card_app.specs.declared.reason.Reason.{Reason}
use Rattle.card_app.specs.Counters.{shown_all}
use Rattle.card_files.specs.Files.{opening_of}
use Rattle.card_files.specs.Views.{ImageData}
use Rattle.card_app.specs.Cuts.{cut_of, fate_by}
use Rattle.card_app.specs.Pages.{found_of}
use Rattle.card_state.specs.Decisions.{Decided}
use Rattle.card_state.specs.Totals.{totals}
use Rattle.card_state.specs.declared.state.CardState.{CardState}
use Rattle.card_words.specs.DecisionText.{told_behind}
use Rattle.card_words.specs.StateText.{state_text}
use Rattle.card_words.specs.declared.decision.Told.{Told}
use Rattle.emv_ports.specs.Cut.{names_commit}
use Rattle.emv_ports.specs.declared.tear.Tear.{Tear}
use Rattle.line_talk.specs.Turns.{Turn}
use Rattle.line_talk.specs.declared.party.Onward.TheVariants.{Rests}
use Rattle.report_text.specs.Text.{all_shown}
use Rattle.card_at_reader.specs.Desk.{CardTalked, HasAnswered, begins, desk_at_first, goes, turn_by, Side, IsOn, IsOff, At, DeskStands, SideHolds, SideStands, IsTurn, off_side, since_of, turn, at_of, desk_powered, power_turn, commanded, command_turn, state_turn, power_text, torn_power, torn_text, other_text, answer_text}
use Rattle.card_at_reader.specs.Notes.{NotesData, plan_of, powered_notes, torn_notes, answered_notes}
use Rattle.card_at_reader.specs.SincePower.{Since, cut_since, told_of_cut, told_since}
use Rattle.card_at_reader.specs.Words.{line_word}
use Rattle.card_at_reader.specs.declared.word.Word.{Word}
use Rattle.card_at_reader.proofs.SinceTold.{told_further, told_of_loss}

pub on_ok_three : {T E P Q R S : Type 0} (r : Result T E) → (P → Q → R → S) → OnOk r P → OnOk r Q → OnOk r R → OnOk r S
on_ok_three (Ok x) f p q r = f p q r
on_ok_three (Err e) f p q r = tt

-- one that has no power is off
pub off_of : (icc : CardSeen) (plan : Option Tear) (side : Side) → SideStands icc plan side → icc_is_powered icc ≡ false → IsIccOff icc
off_of icc plan (IsOn session found taken) stands off = absurd (let clash : true ≡ false = sym stands.on ∙ off in cc clash)
off_of icc plan (IsOff kept pending since) stands off = (kept, pending, stands)

-- one that has no power stands as it would turned off
pub kept_off : (icc : CardSeen) (plan : Option Tear) (told : List Told) (side : Side) → icc_is_powered icc ≡ false → SideHolds icc plan told side
    → SideHolds icc plan told (off_side side)
kept_off icc plan told (IsOn session found taken) off holds = absurd (let clash : true ≡ false = sym holds.stands.on ∙ off in cc clash)
kept_off icc plan told (IsOff kept pending since) off holds = holds

pub turned_off : (old new : CardSeen) (plan : Option Tear) (told : List Told) (side : Side) → icc_is_powered old ≡ true → new.image ≡ old.image
    → ((session : List Exchange) (ds : List Decided) (plan : Option Tear) (made : ℕ) → IccOn old session ds plan made → IccOff new ds None)
    → SideHolds old plan told side → SideHolds new plan told (off_side side)
turned_off old new plan told (IsOn session found taken) on image stands holds = record {
  stands = stands session (found ++ taken) plan (length taken) holds.stands;
  told_is = holds.told_is ∙ ap (λ (i : ImageData). told_since (opening_of i) (since_of (IsOn session found taken))) (sym image);
}
turned_off old new plan told (IsOff kept pending since) on image stands holds = absurd (let clash : true ≡ false = sym on ∙ holds.stands.off in cc clash)

-- and is off then
pub off_by : (old new : CardSeen) (plan : Option Tear) (side : Side) → icc_is_powered old ≡ true
    → ((session : List Exchange) (ds : List Decided) (plan : Option Tear) (made : ℕ) → IccOn old session ds plan made → IccOff new ds None)
    → SideStands old plan side → IsIccOff new
off_by old new plan (IsOn session found taken) on stands side = (found ++ taken, None, stands session (found ++ taken) plan (length taken) side)
off_by old new plan (IsOff kept pending since) on stands side = absurd (let clash : true ≡ false = sym on ∙ side.off in cc clash)

-- a card that is turned off and on
pub power_of : (old mid new : CardSeen) (image : ImageData) (plan : Option Tear) (notes notes_new : NotesData) (told told_new : List Told) (text : List ℕ) (side : Side)
    → SideHolds mid plan told (off_side side)
    → ((kept : List Decided) (pending : Option Decided) → IccOff mid kept pending
    → (with_it : Bool) × IsTurn new notes_new told_new text (desk_powered image with_it notes kept pending))
    → (with_it : Bool) × IsTurn new notes_new told_new text (power_turn image with_it notes side)
power_of old mid new image plan notes notes_new told told_new text (IsOn session found taken) holds turns = turns (found ++ taken) None holds.stands
power_of old mid new image plan notes notes_new told told_new text (IsOff kept pending since) holds turns = turns kept pending holds.stands

-- the same, where turning it off left its image and its notes as they were
pub power_here : (old mid new : CardSeen) (notes notes_mid notes_new : NotesData) (told told_mid told_new : List Told) (text : List ℕ) → mid.image ≡ old.image
    → notes_mid ≡ notes → ((side : Side) → SideHolds old notes.plan told side → SideHolds mid notes_mid.plan told_mid (off_side side))
    → ((kept : List Decided) (pending : Option Decided) → IccOff mid kept pending
    → (with_it : Bool) × IsTurn new notes_new told_new text (desk_powered mid.image with_it notes_mid kept pending))
    → (side : Side) → SideHolds old notes.plan told side → (with_it : Bool) × IsTurn new notes_new told_new text (power_turn old.image with_it notes side)
power_here old mid new notes notes_mid notes_new told told_mid told_new text image same stands turns side is =
    let found = power_of old mid new mid.image notes_mid.plan notes_mid notes_new told_mid told_new text side (stands side is) turns in (
      found.0,
      subst (λ (i : ImageData). IsTurn new notes_new told_new text (power_turn i found.0 notes side)) image
          (subst (λ (n : NotesData). IsTurn new notes_new told_new text (power_turn mid.image found.0 n side)) same found.1),
    )

-- what a power-up tells
pub power_told : (before after shown : ImageData) (state : CardState) (ds : List Decided) (text : List ℕ)
    → text ≡ codes "power" ++ (all_shown (shown_all shown.apps state) ++ 10 ∷ []) → shown ≡ after → after ≡ before → state ≡ totals (opening_of after) ds
    → text ≡ power_text before ds
power_told before after shown state ds text told same image total =
    told ∙ ap (λ (i : ImageData). codes "power" ++ (all_shown (shown_all i.apps state) ++ 10 ∷ [])) same
    ∙ ap (λ (s : CardState). codes "power" ++ (all_shown (shown_all after.apps s) ++ 10 ∷ [])) total ∙ ap (λ (i : ImageData). power_text i ds) image

pub powered_on : (icc : CardSeen) (image : ImageData) (with_it : Bool) (notes notes_new : NotesData) (told : List Told) (kept : List Decided) (pending : Option Decided) (text : List ℕ)
    → notes_new ≡ powered_notes notes → told ≡ [] → names_commit notes_new.plan 0 ≡ false → text ≡ power_text image (found_of kept pending with_it)
    → IccOn icc [] (found_of kept pending with_it) notes_new.plan 0
    → IsTurn icc notes_new told text (desk_powered image with_it notes kept pending)
powered_on icc image with_it notes notes_new told kept pending text same none spared says on =
    let free : names_commit (plan_of notes) 0 ≡ false = ap (λ (n : NotesData). names_commit n.plan 0) (sym same) ∙ spared in
    rw free record {
      answer_is = says;
      stands = record {
        notes_are = sym same;
        side = subst (λ (ds : List Decided). IccOn icc [] ds notes_new.plan 0) (sym (append-nil (found_of kept pending with_it))) on;
        told_is = none;
      };
    }

pub powered_torn : (icc : CardSeen) (image : ImageData) (notes mid notes_new : NotesData) (told : List Told) (kept : List Decided) (pending : Option Decided) (text : List ℕ)
    → mid ≡ powered_notes notes → notes_new ≡ torn_notes mid → told ≡ [] → names_commit mid.plan 0 ≡ true → text ≡ torn_power → IccOff icc kept pending
    → IsTurn icc notes_new told text (desk_powered image true notes kept pending)
powered_torn icc image notes mid notes_new told kept pending text same noted none cut says off =
    let named : names_commit (plan_of notes) 0 ≡ true = ap (λ (n : NotesData). names_commit n.plan 0) (sym same) ∙ cut in
    rw named record { answer_is = says; stands = record { notes_are = ap torn_notes (sym same) ∙ sym noted; side = off; told_is = none } }

-- a command to a card that is on: what is told of its decisions by what they are
module _ (old new : CardSeen) (image : new.image ≡ old.image) (session : List Exchange) (found taken : List Decided) (notes notes_new : NotesData) (told told_new coming : List Told)
    (command text : List ℕ)
    (coming_is : coming ≡ told_behind (opening_of old.image) (found ++ taken) (card_answer old.image (found ++ taken) session command).new)
    (told_is : told ≡ told_since (opening_of old.image) (since_of (IsOn session found taken))) where
  pub command_answered : (answer : List ℕ) (reason : Option Reason) → IccAnswered old new session (found ++ taken) notes.plan (length taken) command answer
      → text ≡ answer_text answer → told_new ≡ told ++ coming → notes_new ≡ answered_notes notes reason → reason ≡ why_of old.image (found ++ taken) session command
      → IsTurn new notes_new told_new text
      (commanded old.image session found taken notes command (cut_of notes.plan (length taken) (card_answer old.image (found ++ taken) session command).new))
  command_answered answer reason answered says more noted because =
      let made : List Decided = (card_answer old.image (found ++ taken) session command).new in
      let given : List ℕ = (card_answer old.image (found ++ taken) session command).answer in
      let longer : List Exchange = session ++ record { command = command; answer = given } ∷ [] in
      let on : IccOn new longer ((found ++ taken) ++ made) notes.plan (length taken + length made) =
      subst (λ (a : List ℕ). IccOn new (session ++ record { command = command; answer = a } ∷ []) ((found ++ taken) ++ made) notes.plan (length taken + length made))
      answered.answer_is answered.on in
      let joined : IccOn new longer (found ++ (taken ++ made)) notes.plan (length (taken ++ made)) =
      subst (λ (n : ℕ). IccOn new longer (found ++ (taken ++ made)) notes.plan n) (sym (length-append taken made))
      (subst (λ (ds : List Decided). IccOn new longer ds notes.plan (length taken + length made)) (append_assoc found taken made) on) in
      let here : notes_new ≡ answered_notes notes (why_of old.image (found ++ taken) session command) = noted ∙ ap (answered_notes notes) because in
      rw answered.spared record {
        answer_is = says ∙ ap answer_text answered.answer_is;
        stands = record {
          notes_are = sym here;
          side = subst (λ (n : NotesData). IccOn new longer (found ++ (taken ++ made)) n.plan (length (taken ++ made))) (sym here) joined;
          told_is =
              more ∙ ap (λ (ts : List Told). ts ++ coming) told_is ∙ ap (λ (ts : List Told). told_since (opening_of old.image) (since_of (IsOn session found taken)) ++ ts) coming_is
              ∙ told_further (opening_of old.image) found taken made
              ∙ ap (λ (i : ImageData). told_since (opening_of i) (record { found = found; kept = taken ++ made; unsure = None })) (sym image);
        };
      }

  pub command_cut : IccCut old new session (found ++ taken) notes.plan (length taken) command → text ≡ torn_text
      → told_new ≡ told ++ told_of_cut notes.plan (length told) coming → notes_new ≡ torn_notes notes
      → IsTurn new notes_new told_new text
      (commanded old.image session found taken notes command (cut_of notes.plan (length taken) (card_answer old.image (found ++ taken) session command).new))
  command_cut cut says more noted =
      rw cut.1.cut record {
        answer_is = says;
        stands = record {
          notes_are = sym noted;
          side = cut.1.off;
          told_is =
              more
              ∙ ap (λ (ts : List Told). told ++ told_of_cut notes.plan (length told) ts) coming_is
              ∙ ap (λ (ts : List Told). ts ++ told_of_cut notes.plan (length ts) (told_behind (opening_of old.image) (found ++ taken) (card_answer old.image (found ++ taken) session command).new)) told_is
              ∙ told_of_loss (opening_of old.image) notes.plan found taken (card_answer old.image (found ++ taken) session command).new cut.0 cut.1.cut
              ∙ ap (λ (i : ImageData). told_since (opening_of i) (cut_since (fate_by notes.plan) found taken cut.0)) (sym image);
        };
      }

-- a command, wherever the card is
pub given_off : (icc : CardSeen) (image : ImageData) (notes : NotesData) (told : List Told) (command text : List ℕ) → icc_is_powered icc ≡ false → text ≡ other_text
    → (side : Side) → SideHolds icc notes.plan told side → IsTurn icc notes told text (command_turn image notes command side)
given_off icc image notes told command text off says (IsOn session found taken) holds = absurd (let clash : true ≡ false = sym holds.stands.on ∙ off in cc clash)
given_off icc image notes told command text off says (IsOff kept pending since) holds =
    record { answer_is = says; stands = record { notes_are = refl; side = holds.stands; told_is = holds.told_is } }

pub given_on : (old new : CardSeen) (image : ImageData) (notes notes_new : NotesData) (told told_new : List Told) (command text : List ℕ) → icc_is_powered old ≡ true
    → ((session : List Exchange) (found taken : List Decided) → SideHolds old notes.plan told (IsOn session found taken)
    → IsTurn new notes_new told_new text
    (commanded image session found taken notes command (cut_of notes.plan (length taken) (card_answer image (found ++ taken) session command).new)))
    → (side : Side) → SideHolds old notes.plan told side → IsTurn new notes_new told_new text (command_turn image notes command side)
given_on old new image notes notes_new told told_new command text on turns (IsOn session found taken) holds = turns session found taken holds
given_on old new image notes notes_new told told_new command text on turns (IsOff kept pending since) holds =
    absurd (let clash : true ≡ false = sym on ∙ holds.stands.off in cc clash)

-- the state of a card that is on, and of one that is off
pub state_on : (icc : CardSeen) (image : ImageData) (notes : NotesData) (told : List Told) (state : CardState) (text : List ℕ) → icc_is_powered icc ≡ true → text ≡ state_text state
    → ((session : List Exchange) (ds : List Decided) (plan : Option Tear) (made : ℕ) → IccOn icc session ds plan made → state ≡ totals (opening_of image) ds)
    → (side : Side) → SideHolds icc notes.plan told side → IsTurn icc notes told text (state_turn image true notes side)
state_on icc image notes told state text on says total (IsOn session found taken) holds = record {
  answer_is = says ∙ ap state_text (total session (found ++ taken) notes.plan (length taken) holds.stands);
  stands = record { notes_are = refl; side = holds.stands; told_is = holds.told_is };
}
state_on icc image notes told state text on says total (IsOff kept pending since) holds = absurd (let clash : true ≡ false = sym on ∙ holds.stands.off in cc clash)

pub state_found : (old on new : CardSeen) (with_it : Bool) (notes : NotesData) (told : List Told) (kept : List Decided) (pending : Option Decided) (since : Since)
    (state : CardState) (text : List ℕ)
    → text ≡ state_text state → on.image ≡ old.image → new.image ≡ old.image → state ≡ totals (opening_of on.image) (found_of kept pending with_it)
    → IccOff new (found_of kept pending with_it) None → told ≡ told_since (opening_of old.image) since
    → IsTurn new notes told text (state_turn old.image with_it notes (IsOff kept pending since))
state_found old on new with_it notes told kept pending since state text says same later total off told_is = record {
  answer_is = says ∙ ap state_text (total ∙ ap (λ (i : ImageData). totals (opening_of i) (found_of kept pending with_it)) same);
  stands = record { notes_are = refl; side = off; told_is = told_is ∙ ap (λ (i : ImageData). told_since (opening_of i) since) (sym later) };
}

pub state_off : (old new : CardSeen) (image : ImageData) (notes notes_new : NotesData) (told told_new : List Told) (text : List ℕ) → icc_is_powered old ≡ false
    → ((kept : List Decided) (pending : Option Decided) (since : Since) → SideHolds old notes.plan told (IsOff kept pending since)
    → (with_it : Bool) × IsTurn new notes_new told_new text (state_turn image with_it notes (IsOff kept pending since)))
    → (side : Side) → SideHolds old notes.plan told side → (with_it : Bool) × IsTurn new notes_new told_new text (state_turn image with_it notes side)
state_off old new image notes notes_new told told_new text off turns (IsOn session found taken) holds =
    absurd (let clash : true ≡ false = sym holds.stands.on ∙ off in cc clash)
state_off old new image notes notes_new told told_new text off turns (IsOff kept pending since) holds = turns kept pending since holds

-- what a line says
pub word_turns : (old new : CardSeen) (image : ImageData) (notes notes_new : NotesData) (told told_new : List Told) (text line : List ℕ) (word : Word) → word ≡ line_word line
    → ((side : Side) → SideHolds old notes.plan told side → (with_it : Bool) × IsTurn new notes_new told_new text (turn_by image with_it (at_of side notes) line word))
    → (side : Side) → SideHolds old notes.plan told side → (with_it : Bool) × IsTurn new notes_new told_new text (turn image with_it (at_of side notes) line)
unfolding turn
word_turns old new image notes notes_new told told_new text line word same turns side holds =
    let found = turns side holds in (
      found.0,
      subst (λ (w : Word). IsTurn new notes_new told_new text (turn_by image found.0 (at_of side notes) line w)) same found.1,
    )

-- where it stands, by its notes
pub turn_at : (old new : CardSeen) (image : ImageData) (notes notes_new : NotesData) (told told_new : List Told) (text line : List ℕ)
    → ((side : Side) → SideHolds old notes.plan told side → (with_it : Bool) × IsTurn new notes_new told_new text (turn image with_it (at_of side notes) line))
    → (at : At) → DeskStands old notes told at → (with_it : Bool) × IsTurn new notes_new told_new text (turn image with_it at line)
turn_at old new image notes notes_new told told_new text line turns at stands =
    let found = turns at.side (record { stands = stands.side; told_is = stands.told_is }) in (
      found.0,
      subst (λ (n : NotesData). IsTurn new notes_new told_new text (turn image found.0 (at_of at.side n) line)) (sym stands.notes_are) found.1,
    )

-- one more line was answered
pub answers_more : (old new : CardSeen) (notes notes_new : NotesData) (told told_new : List Told) (line text : List ℕ) (turns : List Turn) → new.image ≡ old.image
    → ((at : At) → DeskStands old notes told at → (with_it : Bool) × IsTurn new notes_new told_new text (turn old.image with_it at line))
    → HasAnswered old notes told turns → HasAnswered new notes_new told_new (turns ++ record { line = line; answer = text; onward = Rests } ∷ [])
answers_more old new notes notes_new told told_new line text turns same answered has =
    let found = answered has.at has.stands in
    record {
      at = (turn old.image found.0 has.at line).after;
      talked =
          subst (λ (i : ImageData). CardTalked i desk_at_first (turns ++ record { line = line; answer = text; onward = Rests } ∷ []) (turn old.image found.0 has.at line).after) (sym same)
          (subst (λ (t : List ℕ). CardTalked old.image desk_at_first (turns ++ record { line = line; answer = t; onward = Rests } ∷ []) (turn old.image found.0 has.at line).after)
          (sym found.1.answer_is) (goes turns has.at line found.0 has.talked));
      stands = found.1.stands;
    }

-- and none at first
pub none_answered : (icc : CardSeen) (notes : NotesData) (told : List Told) → DeskStands icc notes told desk_at_first → HasAnswered icc notes told []
none_answered icc notes told stands = record { at = desk_at_first; talked = begins; stands = stands }
