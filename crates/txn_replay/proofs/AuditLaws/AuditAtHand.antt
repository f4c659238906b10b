-- A step of the audit from what its function has at hand: the step that is found, and the place of its card.
-- Carried out there, it leads to the event of the definitions, and the next step finds its card.
use Rattle.std.proofs.Common.{◌≡◌, ℕ, ◌+◌, ◌≤◌, ◌<◌, Bool, true, List, [], length, get_or, set, slice_get, Option, Some, None, sym, ap, ◌∙◌, subst, arith}
use Rattle.std.specs.Prelude.{IfSome}
use Rattle.std.proofs.lemmas.List.{length-set}
use Rattle.std.proofs.lemmas.Option.{slice_get_within}
use Rattle.report_text.specs.declared.line.Line.{Line}
use Rattle.scenario_plan.specs.Cards.{CardData}
use Rattle.scenario_plan.specs.SeenCards.{seen_card, seen_cards}
use Rattle.scenario_plan.specs.declared.plan.NamedCard.{NamedCard}
use Rattle.txn_replay.specs.Audited.{step_check, RowRests, IsChecked}
use Rattle.txn_replay.specs.Run.{all_over}
use Rattle.txn_replay.specs.Seen.{WorldSeen, WorldStands, EventHasLed, IsNext, IsWorldWhole, is_done}
use Rattle.txn_replay.specs.RunCard.{RunCardSeen, IsRunCardOf, HasLost, run_card_is_powered}
use Rattle.txn_replay.specs.Steps.{Check, checks, checks_from}
use Rattle.txn_replay.specs.World.{CardRow, World, card_at}
use Rattle.txn_replay.specs.declared.audit.AuditStep.{AuditStep}
use Rattle.txn_replay.specs.declared.event.Event.TheVariants.{Audit}
use Rattle.txn_replay.proofs.AuditLaws.AuditWorlds.{Rests, card_rests, none_checks, one_checks, next_checks, checked_few, asks_on, short_name}
use Rattle.txn_replay.proofs.AuditLaws.AuditNumbers.{seen_at}
use Rattle.txn_replay.proofs.Lists.{found_at}
use Rattle.txn_replay.proofs.TurnLaws.WorldTold.{done_is}

-- `v` is made of the fields of the run, whose value is `now`
module _ (v now : WorldSeen) (whole : IsWorldWhole v) (view : v ≡ now) (named : List NamedCard) (cards : seen_cards named ≡ v.scenario.cards) (k : ℕ)
    (done : is_done now ≡ true) where
  stands_for : (w : World) → WorldStands now w → WorldStands v w
  stands_for w stands = subst (λ (x : WorldSeen). WorldStands x w) (sym view) stands

  over : (w : World) → WorldStands v w → all_over v.scenario w ≡ true
  over w stands = sym (done_is v w stands whole.scenario whole.lane_count) ∙ ap is_done view ∙ done

  found : (o : Option Check) → o ≡ slice_get (checks_from 0 (seen_cards named)) k → slice_get (checks v.scenario) k ≡ o
  found o is = ap (λ (cs : List CardData). slice_get (checks_from 0 cs) k) (sym cards) ∙ sym is

  in_value : (o : Option Check) → slice_get (checks v.scenario) k ≡ o → slice_get (checks now.scenario) k ≡ o
  in_value o is = ap (λ (x : WorldSeen). slice_get (checks x.scenario) k) (sym view) ∙ is

  -- none is left
  module _ (none : None ≡ slice_get (checks_from 0 (seen_cards named)) k) where
    pub none_there : slice_get (checks now.scenario) k ≡ None
    none_there = in_value None (found None none)

    pub none_goes : (w : World) → WorldStands now w → (lines : List Line) → lines ≡ [] → EventHasLed now w (Audit k) lines
    none_goes w stands lines empty =
        subst (λ (ls : List Line). EventHasLed now w (Audit k) ls) (sym empty)
        (subst (λ (x : WorldSeen). EventHasLed x w (Audit k) []) view
        (none_checks v w (stands_for w stands) (over w (stands_for w stands)) k (found None none)))

  -- this one is found
  module _ (step : AuditStep) (is : Some (step_check step) ≡ slice_get (checks_from 0 (seen_cards named)) k) (there : slice_get named step.index ≡ Some step.card.now) where
    abbrev card : CardData
    card = seen_card step.card.now

    at : slice_get (checks v.scenario) k ≡ Some (step_check step)
    at = found (Some (step_check step)) is

    card_there : slice_get v.scenario.cards step.index ≡ Some card
    card_there = ap (λ (cs : List CardData). slice_get cs step.index) (sym cards) ∙ seen_at named step.index step.card.now there

    pub check_there : (check : Check) × (slice_get (checks now.scenario) k ≡ Some check)
    check_there = (step_check step, in_value (Some (step_check step)) at)

    pub check_few : k < 832
    check_few = checked_few v.scenario whole.scenario k (step_check step) at

    pub name_short : length card.name ≤ 16
    name_short = short_name v.scenario whole.scenario step.index card card_there

    module _ (run_card : RunCardSeen) (run_card_is : run_card ≡ get_or v.run_cards step.index run_card) where
      run_card_there : slice_get v.run_cards step.index ≡ Some run_card
      run_card_there =
          let inside : step.index < length v.scenario.cards = slice_get_within v.scenario.cards step.index card card_there in
          let count : length v.run_cards ≡ length v.scenario.cards = whole.run_card_count in
          found_at v.run_cards step.index run_card (omega (arith, inside, count)) run_card_is

      rests : (w : World) (stands : WorldStands v w) → Rests v w stands (over w stands) step.index run_card card
      rests w stands = card_rests v w stands (over w stands) step.index run_card card run_card_there card_there

      pub at_rest : (row : CardRow) × RowRests run_card row
      at_rest = (card_at whole.standing.0 step.index, (rests whole.standing.0 whole.standing.1).rests)

      pub run_card_of : IsRunCardOf run_card card
      run_card_of = (rests whole.standing.0 whole.standing.1).is

      pub asked_on : IsNext now k → IfSome step.question (λ question. run_card_is_powered run_card ≡ true)
      asked_on next = asks_on v k step.index card step.question run_card (subst (λ (x : WorldSeen). IsNext x k) (sym view) next) at run_card_there

      -- it has been carried out
      module _ (next : RunCardSeen) (lines : List Line) (is_of : (its : CardData) → IsRunCardOf run_card its → IsRunCardOf next its)
          (losses : (count : ℕ) → HasLost run_card count → HasLost next count)
          (checked : (row : CardRow) → RowRests run_card row → (choice : Bool) × IsChecked next card row step.question choice lines) where
        abbrev value : WorldSeen
        value = record v { run_cards = set v.run_cards step.index next }

        goes : (w : World) → WorldStands v w → EventHasLed value w (Audit k) lines
        goes w stands =
            let rest = rests w stands in
            let one = checked (card_at w step.index) rest.rests in
            one_checks v w stands (over w stands) step.index run_card next card run_card_there card_there (is_of card rest.is)
            (losses (card_at w step.index).losses rest.losses) k lines step.question one.0 at one.1

        pub check_goes : (w : World) → WorldStands now w → EventHasLed value w (Audit k) lines
        check_goes w stands = goes w (stands_for w stands)

        pub check_whole : IsWorldWhole value
        check_whole =
            let made = goes whole.standing.0 whole.standing.1 in
            record {
              scenario = whole.scenario;
              run_card_count = length-set v.run_cards step.index next ∙ whole.run_card_count;
              lane_count = whole.lane_count;
              lane_store_count = whole.lane_store_count;
              fits = whole.fits;
              keys = whole.keys;
              accounts = whole.accounts;
              blank = whole.blank;
              pages = whole.pages;
              standing = (made.after, made.stands);
            }

        pub next_asked : run_card_is_powered next ≡ true → IsNext value (k + 1)
        next_asked on =
            let w = whole.standing.0 in
            let stands = whole.standing.1 in
            let rest = rests w stands in
            next_checks v w stands (over w stands) step.index run_card next card run_card_there card_there (is_of card rest.is)
            (losses (card_at w step.index).losses rest.losses) k lines step.question at on
