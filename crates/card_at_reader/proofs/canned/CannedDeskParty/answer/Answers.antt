use Rattle.std.proofs.Common.{ℕ, List, [], ◌∷◌, ◌++◌, map, Vec, Global, Bor, ap, sym, subst}
use Rattle.line_talk.specs.declared.party.Onward.TheVariants.{Rests}
use Rattle.card_at_reader.specs.Canned.{CannedTalked}
use Rattle.card_at_reader.proofs.CannedTalks.{canned_more}
use Rattle.card_at_reader.proofs.canned.CannedDeskParty.answer.Goals as goal

pub returns-clause-turn : goal.returns-clause-turn
returns-clause-turn c = λ turns has goes.
    subst (λ (answers : List (Vec ℕ Global)). CannedTalked (map (λ answer. answer.items) answers)
    (turns ++ record { line = c.args.line.now; answer = c.answer_word.new.text.items; onward = Rests } ∷ []) c.answer_word.new.desk.given) (sym (ap (λ (b : Bor (List (Vec ℕ Global))). b.now) c.answer_word.ensures.answers))
    (canned_more (map (λ answer. answer.items) c.args.self.now.answers.now) c.args.self.now.given c.answer_word.new.desk.given c.args.line.now c.answer_word.new.text.items c.in_ok-word.word turns
    c.in_ok-word.ensures.exact c.in_ok-answer_word.ensures.turn has)
