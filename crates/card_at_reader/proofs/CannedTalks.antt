-- A card of canned answers, line by line.
use Rattle.std.proofs.Common.{◌≡◌, ℕ, List, [], ◌∷◌, ◌++◌, Option, sym, subst}
use Rattle.line_talk.specs.Turns.{Turn}
use Rattle.line_talk.specs.declared.party.Onward.TheVariants.{Rests}
use Rattle.card_at_reader.specs.Canned.{CannedTalked, IsCannedTurn, canned_turn, canned_turn_by, goes}
use Rattle.card_at_reader.specs.Words.{line_word}
use Rattle.card_at_reader.specs.declared.word.Word.{Word}

-- one more line was answered
pub canned_more : (answers : List (List ℕ)) (old new : Option ℕ) (line text : List ℕ) (word : Word) (turns : List Turn) → word ≡ line_word line
    → IsCannedTurn new text (canned_turn_by answers old word) → CannedTalked answers turns old
    → CannedTalked answers (turns ++ record { line = line; answer = text; onward = Rests } ∷ []) new
canned_more answers old new line text word turns same turn talked =
    let here = subst (λ (w : Word). IsCannedTurn new text (canned_turn_by answers old w)) same turn in
    subst (λ (at : Option ℕ). CannedTalked answers (turns ++ record { line = line; answer = text; onward = Rests } ∷ []) at) (sym here.stands)
    (subst (λ (t : List ℕ). CannedTalked answers (turns ++ record { line = line; answer = t; onward = Rests } ∷ []) (canned_turn answers old line).after) (sym here.answer_is)
    (goes turns old line talked))
