-- What a command makes of a card in its place: one with applications, and one of canned answers.
-- The answer, the loss and the end of the canned answers are each those of the definitions.
use Rattle.std.proofs.Common.{◌≡◌, ℕ, ◌+◌, List, [], ◌∷◌, ◌++◌, length, slice_get, Option, Some, None, sym, subst, arith}
use Rattle.std.specs.Prelude.{Result, Ok, Err, OnOk, OnErr}
use Rattle.std.proofs.lemmas.Result.{on_ok_weaker}
use Rattle.card_app.specs.Answering.{card_answer}
use Rattle.card_app.specs.SeenIcc.{IccSeen, IccOn, IccAnswered, IccCut, icc_losses}
use Rattle.card_app.specs.Session.{Exchange}
use Rattle.card_files.specs.Views.{ImageData}
use Rattle.card_app.specs.Cuts.{cut_of}
use Rattle.card_state.specs.Decisions.{Decided}
use Rattle.emv_ports.specs.Causes.{one_more}
use Rattle.emv_ports.specs.declared.tear.Tear.{Tear}
use Rattle.scenario_plan.specs.Cards.{CardData}
use Rattle.torn_store.proofs.Outcomes.{on_ok_two}
use Rattle.txn_replay.specs.Called.{AnswerIs, answered_row, IsCommandAnswered, IsCardGone}
use Rattle.txn_replay.specs.Counting.{capped_at_64}
use Rattle.txn_replay.specs.RunCard.{CannedSeen, OfApps, OfCanned, RunCardOn, IsRunCardOf, HasLost}
use Rattle.txn_replay.specs.World.{CardRow}

on_err_two : {T E P Q R : Type 0} (r : Result T E) → (P → Q → R) → OnErr r P → OnErr r Q → OnErr r R
on_err_two (Ok x) f p q = tt
on_err_two (Err e) f p q = f p q

more_lost : (before after losses : ℕ) → after ≡ one_more before → before ≡ capped_at_64 losses → after ≡ capped_at_64 (losses + 1)
more_lost before after losses more was = omega (arith, more, was)

module _ {T E : Type 0} (r : Result T E) (command : List ℕ) where
  module _ (was now : IccSeen) where
    pub app_answered : (answer : List ℕ)
        → OnOk r ((session : List Exchange) (ds : List Decided) (plan : Option Tear) (made : ℕ) → IccOn was session ds plan made
        → IccAnswered was now session ds plan made command answer)
        → OnOk r ((card : CardData) (row : CardRow) (plan : Option Tear) → IsRunCardOf (OfApps was) card → RunCardOn (OfApps was) row plan
        → IsCommandAnswered (OfApps now) card row plan command answer)
    app_answered answer answered =
        on_ok_weaker r
        (λ said card row plan of on.
        let one = said row.session row.kept plan row.made on.0 in
        let is = subst (λ (i : ImageData). answer ≡ (card_answer i row.kept row.session command).answer) of.1 one.answer_is in
        let spared = subst (λ (i : ImageData). cut_of plan row.made (card_answer i row.kept row.session command).new ≡ None) of.1 one.spared in
        let later =
        subst (λ (i : ImageData). IccOn now (row.session ++ record { command = command; answer = answer } ∷ [])
        (row.kept ++ (card_answer i row.kept row.session command).new) plan (row.made + length (card_answer i row.kept row.session command).new)) of.1 one.on in
        let told =
        subst (λ (a : List ℕ). IccOn now (row.session ++ record { command = command; answer = a } ∷ [])
        (row.kept ++ (card_answer card.image row.kept row.session command).new) plan
        (row.made + length (card_answer card.image row.kept row.session command).new)) is later in
        record {
          said = subst (λ (o : Option (List (List ℕ))). AnswerIs card row plan command answer o) (sym of.0) (spared, is);
          on = subst (λ (o : Option (List (List ℕ))). RunCardOn (OfApps now) (answered_row card row command o) plan) (sym of.0) (told, on.1);
        })
        answered

    pub app_gone :
        OnErr r ((session : List Exchange) (ds : List Decided) (plan : Option Tear) (made : ℕ) → IccOn was session ds plan made
        → IccCut was now session ds plan made command)
        → OnErr r (icc_losses now ≡ one_more (icc_losses was))
        → OnErr r ((card : CardData) (row : CardRow) (plan : Option Tear) → IsRunCardOf (OfApps was) card → RunCardOn (OfApps was) row plan
        → HasLost (OfApps was) row.losses → IsCardGone (OfApps now) card row plan command card.canned)
    app_gone cut lost =
        on_err_two r
        (λ cuts more card row plan of on losses.
        let one = cuts row.session row.kept plan row.made on.0 in
        subst (λ (o : Option (List (List ℕ))). IsCardGone (OfApps now) card row plan command o) (sym of.0) (
          one.0,
          record {
            cut = subst (λ (i : ImageData). cut_of plan row.made (card_answer i row.kept row.session command).new ≡ Some one.0) of.1 one.1.cut;
            off = one.1.off;
            losses = more_lost (icc_losses was) (icc_losses now) row.losses more losses;
          },
        ))
        cut lost

  module _ (was now : CannedSeen) where
    pub canned_answered : (answer : List ℕ)
        → OnOk r ((told : ℕ) → was.told ≡ Some told → slice_get was.answers told ≡ Some answer)
        → OnOk r ((told : ℕ) → was.told ≡ Some told → now.told ≡ Some (told + 1))
        → OnOk r ((card : CardData) (row : CardRow) (plan : Option Tear) → IsRunCardOf (OfCanned was) card → RunCardOn (OfCanned was) row plan
        → IsCommandAnswered (OfCanned now) card row plan command answer)
    canned_answered answer said told =
        on_ok_two r
        (λ says tells card row plan of on. record {
          said = subst (λ (o : Option (List (List ℕ))). AnswerIs card row plan command answer o) (sym of.0) (says row.told on);
          on = subst (λ (o : Option (List (List ℕ))). RunCardOn (OfCanned now) (answered_row card row command o) plan) (sym of.0) (tells row.told on);
        })
        said told

    pub canned_gone : OnErr r ((told : ℕ) → was.told ≡ Some told → slice_get was.answers told ≡ None) → OnErr r (now.told ≡ None)
        → OnErr r ((card : CardData) (row : CardRow) (plan : Option Tear) → IsRunCardOf (OfCanned was) card → RunCardOn (OfCanned was) row plan
        → HasLost (OfCanned was) row.losses → IsCardGone (OfCanned now) card row plan command card.canned)
    canned_gone none off =
        on_err_two r
        (λ left is_off card row plan of on losses.
        subst (λ (o : Option (List (List ℕ))). IsCardGone (OfCanned now) card row plan command o) (sym of.0)
        (record { none = left row.told on; off = is_off; losses = tt }))
        none off
