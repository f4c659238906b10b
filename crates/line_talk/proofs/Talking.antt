-- How a talk goes on, and how it ends.
use Rattle.std.proofs.Common.{◌≡◌, ℕ, ◌+◌, true, List, [], ◌∷◌, ◌++◌, Option, length, refl, sym, ap, subst, ◌∙◌, append_assoc, length-append}
use Rattle.std.proofs.KnownBytes.{Consumes-nil, Consumes-trans}
use Rattle.std.proofs.lemmas.List.{append-nil}
use Rattle.std.specs.Io.KnownBytes.{Appends, Consumes}
use Rattle.emv_ports.proofs.Growth.{Appends-more}
use Rattle.emv_ports.specs.Growth.{AppendsFront}
use Rattle.line_talk.specs.Coming.{IsLineBegun, Comes}
use Rattle.line_talk.specs.SoFar.{IsTalkSoFar}
use Rattle.line_talk.specs.Talk as talk
use Rattle.line_talk.specs.Talk.{EndsWith, HasTalked, LacksLine, TalkEnds, WritesLast, other_line}
use Rattle.line_talk.specs.Turns.{GoesOn, Opening, Turn, answers_of, lines_spoken, may_end, onward_behind}
use Rattle.line_talk.specs.declared.line.Came.TheVariants as came
use Rattle.line_talk.specs.declared.party.Onward.{Onward}
use Rattle.line_talk.specs.declared.status.Status.{Status}
use Rattle.line_talk.specs.declared.status.Status.TheVariants.{Done, Unserved, SourceFailed, SinkFailed, OutOfMemory}

pub lines_more : (turns : List Turn) (one : Turn) → lines_spoken (turns ++ one ∷ []) ≡ lines_spoken turns ++ (one.line ++ 10 ∷ [])
lines_more [] one = append-nil (one.line ++ 10 ∷ [])
lines_more (first ∷ turns) one =
    ap (λ (t : List ℕ). (first.line ++ 10 ∷ []) ++ t) (lines_more turns one) ∙ sym (append_assoc (first.line ++ 10 ∷ []) (lines_spoken turns) (one.line ++ 10 ∷ []))

pub answers_more : (turns : List Turn) (one : Turn) → answers_of (turns ++ one ∷ []) ≡ answers_of turns ++ one.answer
answers_more [] one = append-nil one.answer
answers_more (first ∷ turns) one =
    ap (λ (t : List ℕ). first.answer ++ t) (answers_more turns one) ∙ sym (append_assoc first.answer (answers_of turns) one.answer)

pub onward_more : (onward : Onward) (turns : List Turn) (one : Turn) → onward_behind onward (turns ++ one ∷ []) ≡ one.onward
unfolding onward_behind
onward_more onward [] one = refl
onward_more onward (first ∷ turns) one = onward_more first.onward turns one

module _ (Stands : List Turn → Type 0) (Talks : List Turn → Type 0) (told : (turns : List Turn) → Stands turns → Talks turns) (opening : Opening) (onward : Onward)
    (count : ℕ) (first left before held : Option (List ℕ)) (far : IsTalkSoFar Stands opening onward count first left before held) where
  -- as far as it has come, it is a talk
  pub talked : HasTalked Talks opening first left before held far.turns
  talked = record { talks = told far.turns far.stands; taken = far.taken; told = far.told }

  abbrev Ends : Option (List ℕ) → Option (List ℕ) → Status → Type 0
  Ends later now status = TalkEnds Talks opening (record { first = first; left = later; before = before; held = now }) status

  pub is_over : (status : Status) → EndsWith onward status → Ends left held status
  is_over status ends = talk.IsOver far.turns talked (subst (λ (o : Onward). EndsWith o status) (sym far.onward_is) ends)

  pub at_end : (later : Option (List ℕ)) (rest : List ℕ) → Comes came.End left later rest → may_end onward ≡ true → Ends later held Done
  at_end later rest comes may = talk.AtEnd far.turns left rest talked comes (ap (λ (o : Onward). may_end o) far.onward_is ∙ may) refl

  pub no_line : (later now : Option (List ℕ)) (status : Status) → ((turns : List Turn) → length turns ≡ count → LacksLine onward turns left)
      → WritesLast Unserved status held now other_line → Ends later now status
  no_line later now status lacks writes =
      talk.NoLine far.turns left held talked (subst (λ (o : Onward). LacksLine o far.turns left) (sym far.onward_is) (lacks far.turns far.counted)) writes

  pub source_gone : (later at : Option (List ℕ)) (begun : List ℕ) → IsLineBegun left at begun → Ends later held SourceFailed
  source_gone later at begun begins = talk.SourceGone far.turns left at begun talked begins.0 begins.1 refl

  pub unanswered : (later : Option (List ℕ)) (line : List ℕ) → Comes came.Line left later line → Ends later held OutOfMemory
  unanswered later line comes = talk.Unanswered far.turns left line talked comes refl

  module _ (After : List Turn → Type 0) (one : Turn) (later : Option (List ℕ)) (comes : Comes came.Line left later one.line)
      (goes : GoesOn onward)
      (turn : (turns : List Turn) → Stands turns → GoesOn (onward_behind opening.onward turns) → After (turns ++ one ∷ [])) where
    taken_more : Consumes first later (lines_spoken (far.turns ++ one ∷ []))
    taken_more =
        subst (λ (t : List ℕ). Consumes first later t) (sym (lines_more far.turns one))
        (Consumes-trans first left later (lines_spoken far.turns) (one.line ++ 10 ∷ []) far.taken comes.0)

    told_more : opening.text ++ answers_of (far.turns ++ one ∷ []) ≡ (opening.text ++ answers_of far.turns) ++ one.answer
    told_more = ap (λ (t : List ℕ). opening.text ++ t) (answers_more far.turns one) ∙ sym (append_assoc opening.text (answers_of far.turns) one.answer)

    pub goes_on : (now : Option (List ℕ)) → Appends held now one.answer → IsTalkSoFar After opening one.onward (count + 1) first later before now
    goes_on now all = record {
      turns = far.turns ++ one ∷ [];
      counted = length-append far.turns (one ∷ []) ∙ ap (λ (n : ℕ). n + 1) far.counted;
      stands = turn far.turns far.stands (subst GoesOn (sym far.onward_is) goes);
      onward_is = onward_more opening.onward far.turns one;
      taken = taken_more;
      told = subst (λ (t : List ℕ). Appends before now t) (sym told_more) (Appends-more before held now (opening.text ++ answers_of far.turns) one.answer far.told all);
    }

    pub answer_cut : (now : Option (List ℕ)) → ((turns : List Turn) → After turns → Talks turns) → AppendsFront held now one.answer → Ends later now SinkFailed
    answer_cut now talks front =
        talk.AnswerCut far.turns one held (talks (far.turns ++ one ∷ []) (turn far.turns far.stands (subst GoesOn (sym far.onward_is) goes))) taken_more far.told front refl

-- nothing was read yet, and the opening was written
pub begun : (Stands : List Turn → Type 0) (opening : Opening) (left before held : Option (List ℕ)) → Stands [] → Appends before held opening.text
    → IsTalkSoFar Stands opening opening.onward 0 left left before held
unfolding onward_behind
begun Stands opening left before held stands told = record {
  turns = [];
  counted = refl;
  stands = stands;
  onward_is = refl;
  taken = Consumes-nil left;
  told = subst (λ (t : List ℕ). Appends before held t) (sym (append-nil opening.text)) told;
}

weaker_talked : (P Q : List Turn → Type 0) → ((turns : List Turn) → P turns → Q turns) → (opening : Opening) (first left before held : Option (List ℕ)) (turns : List Turn)
    → HasTalked P opening first left before held turns → HasTalked Q opening first left before held turns
weaker_talked P Q weaker opening first left before held turns talked = record { talks = weaker turns talked.talks; taken = talked.taken; told = talked.told }

-- a talk of a party as it became is one of the party as it was
pub weaker : (P Q : List Turn → Type 0) → ((turns : List Turn) → P turns → Q turns) → (opening : Opening) (s : talk.Sides) (status : Status)
    → TalkEnds P opening s status → TalkEnds Q opening s status
weaker P Q weak opening s status (talk.OpeningCut cut left front) = talk.OpeningCut cut left front
weaker P Q weak opening s status (talk.IsOver turns talked ends) = talk.IsOver turns (weaker_talked P Q weak opening _ _ _ _ turns talked) ends
weaker P Q weak opening s status (talk.AtEnd turns between rest talked comes rests done) =
    talk.AtEnd turns between rest (weaker_talked P Q weak opening _ _ _ _ turns talked) comes rests done
weaker P Q weak opening s status (talk.NoLine turns between written talked lacks writes) =
    talk.NoLine turns between written (weaker_talked P Q weak opening _ _ _ _ turns talked) lacks writes
weaker P Q weak opening s status (talk.SourceGone turns between later begun talked taken unbroken failed) =
    talk.SourceGone turns between later begun (weaker_talked P Q weak opening _ _ _ _ turns talked) taken unbroken failed
weaker P Q weak opening s status (talk.AnswerCut turns turn written talks taken told front failed) =
    talk.AnswerCut turns turn written (weak (turns ++ turn ∷ []) talks) taken told front failed
weaker P Q weak opening s status (talk.Unanswered turns between line talked comes failed) =
    talk.Unanswered turns between line (weaker_talked P Q weak opening _ _ _ _ turns talked) comes failed
