-- A card that is on without a plan is never cut.
-- So its audit goes through: each question is answered, in the session that the power-up began.
use Rattle.std.proofs.Common.{◌≡◌, ℕ, ◌+◌, Bool, List, [], ◌∷◌, ◌++◌, length, map, Option, Some, None, refl, sym, ap, ◌∙◌, subst, inl, inr}
use Rattle.std.specs.Prelude.{option_map}
use Rattle.std.proofs.lemmas.Option.{same_Some}
use Rattle.card_app.specs.Answering.{card_answer}
use Rattle.card_app.specs.SeenIcc.{IccSeen, IccOn, IccOff, IccAnswered}
use Rattle.card_files.specs.Views.{ImageData}
use Rattle.card_app.specs.Cuts.{cut_of, behind_one}
use Rattle.card_state.specs.Decisions.{Decided}
use Rattle.report_text.specs.declared.line.Line.{Line}
use Rattle.scenario_plan.specs.Cards.{CardData}
use Rattle.scenario_plan.specs.SeenCards.{image_of, canned_of, image_there}
use Rattle.scenario_plan.specs.declared.plan.CardKind.{CardKind}
use Rattle.scenario_plan.specs.declared.plan.CardKind.TheVariants.{App, Canned}
use Rattle.txn_replay.specs.Audited.{IsAuditAsked, IsChecked, RowRests}
use Rattle.txn_replay.specs.Lines.{audit_lines}
use Rattle.txn_replay.specs.RunCard.{RunCardSeen, OfApps}
use Rattle.txn_replay.specs.World.{CardRow}
use Rattle.txn_replay.specs.declared.audit.Question.{Question}

pub never_cut : (made : ℕ) (ds : List Decided) → cut_of None made ds ≡ None
unfolding cut_of
never_cut made [] = refl
never_cut made (d ∷ ds) = ap (option_map (behind_one d)) (never_cut (made + 1) ds)

-- it has answered
pub asked_so : (old new : IccSeen) (card : CardData) (row : CardRow) (command answer : List ℕ) (lines : List Line) → old.image ≡ card.image → row.pending ≡ None
    → IccAnswered old new row.session row.kept None row.made command answer → lines ≡ audit_lines card command answer
    → IsAuditAsked new card row command lines
asked_so old new card row command answer lines same none said made =
    let is : answer ≡ (card_answer card.image row.kept row.session command).answer =
    said.answer_is ∙ ap (λ (image : ImageData). (card_answer image row.kept row.session command).answer) same in
    let on : IccOn new (row.session ++ record { command = command; answer = answer } ∷ []) (row.kept ++ (card_answer card.image row.kept row.session command).new) None
    (row.made + length (card_answer card.image row.kept row.session command).new) =
    subst (λ (image : ImageData). IccOn new (row.session ++ record { command = command; answer = answer } ∷ [])
    (row.kept ++ (card_answer image row.kept row.session command).new) None (row.made + length (card_answer image row.kept row.session command).new)) same said.on in
    record {
      on = subst (λ (a : List ℕ). IccOn new (row.session ++ record { command = command; answer = a } ∷ [])
          (row.kept ++ (card_answer card.image row.kept row.session command).new) None
          (row.made + length (card_answer card.image row.kept row.session command).new)) is on;
      none = none;
      lines_are = made ∙ ap (λ (a : List ℕ). audit_lines card command a) is;
    }

-- a card that rests and isn't off is on
pub on_from : (icc : IccSeen) (row : CardRow) → RowRests (OfApps icc) row → ((kept : List Decided) (pending : Option Decided) → IccOff icc kept pending → ⊥)
    → IccOn icc row.session row.kept None row.made × (row.pending ≡ None)
on_from icc row (inl off) never = absurd (never row.kept row.pending off)
on_from icc row (inr on) never = on

-- what a step has made of a card with applications
pub checked_as : (run_card : RunCardSeen) (icc : IccSeen) (card : CardData) (row : CardRow) (question step : Option Question) (choice : Bool) (lines made : List Line)
    → run_card ≡ OfApps icc → question ≡ step → lines ≡ made → IsChecked (OfApps icc) card row step choice made → IsChecked run_card card row question choice lines
checked_as run_card icc card row question step choice lines made here asked told checked =
    subst (λ (s : RunCardSeen). IsChecked s card row question choice lines) (sym here)
    (subst (λ (q : Option Question). IsChecked (OfApps icc) card row q choice lines) (sym asked)
    (subst (λ (ls : List Line). IsChecked (OfApps icc) card row step choice ls) (sym told) checked))

-- a card with applications, and one without
pub there_apps : (kind : CardKind) (image : ImageData) → image_there kind ≡ Some image → (canned_of kind ≡ None) × (image_of kind ≡ image)
there_apps (App own) image is = (refl, same_Some own image is)
there_apps (Canned answers) image is = cc

pub there_canned : (kind : CardKind) → image_there kind ≡ None → (answers : List (List ℕ)) × (canned_of kind ≡ Some answers)
there_canned (App own) is = cc
there_canned (Canned answers) is = (map (λ answer. answer.items) answers.items, refl)
