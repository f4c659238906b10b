use Rattle.std.proofs.Common.{◌≡◌, ℕ, ◌+◌, Bool, false, List, [], ◌∷◌, ◌++◌, length, Some, sym, ap, ◌∙◌, subst}
use Rattle.card_app.specs.Pages.{found_of}
use Rattle.card_state.specs.Decisions.{Decided}
use Rattle.kernel.specs.Reply.{CardGone}
use Rattle.report_text.specs.declared.line.Line.{Line}
use Rattle.report_text.specs.declared.line.Line.TheVariants.{PowerTorn}
use Rattle.scenario_plan.specs.SeenCards.{seen_card}
use Rattle.txn_replay.specs.Called.{IsLost, powered_line}
use Rattle.txn_replay.specs.Lines.{outcome_line}
use Rattle.txn_replay.specs.Part.{Part, loses, ended_if_over}
use Rattle.txn_replay.specs.RunCard.{IsRunCardOf}
use Rattle.txn_replay.specs.Standing.{LaneStands, PartRuns, ExchangeHasLed, IsEndCounted, seen_payment}
use Rattle.txn_replay.proofs.ExchangeLaws.PurchaseBegins.{kept_on, begun_part, powered_runs, powered_led, cut_led}
use Rattle.txn_replay.proofs.exchange.begin.Goals as goal

pub returns-in-Ok-clause-led : goal.returns-in-Ok-clause-led
unfolding seen_card
returns-in-Ok-clause-led g c = λ issuer accounts part rests.
    let p = seen_payment issuer accounts c.args.at.now in
    let is : IsRunCardOf c.power_up.new.self p.card = c.power_up.ensures.is p.card rests.is in
    let up = c.in-Ok.ensures.powered p.card part.card rests.is rests.off in
    let choice : Bool = up.0 in
    let ds : List Decided = found_of part.card.kept part.card.pending choice in
    let after : Part = begun_part p c.args.lane.now c.args.lane_store.now c.args.run_card.now c.power_up.new.self part rests is choice in
    let lines : c.tell_power.new.lines.items ≡ powered_line p.lane p.card ds p.card.canned ∷ [] =
    c.tell_power.ensures.line p.card after.card p.planned.tear is (up.1.on after.card.holder) (sym (c.name_of.ensures ∙ c.as_slice.ensures.value)) in
    let runs : PartRuns p c.start.new.lane c.args.lane_store.now c.power_up.new.self [] after =
    powered_runs p c.args.lane.now c.args.lane_store.now c.args.run_card.now c.power_up.new.self part rests is c.start.new.lane choice up.1 (c.in-Ok.ensures.losses part.card.losses rests.losses)
    c.start.ensures.same (c.start.ensures.told issuer accounts) in (
      choice,
      powered_led p c.args.lane.now c.args.lane_store.now c.args.run_card.now c.power_up.new.self part rests is c.end_if_over.new.lane c.end_if_over.new.lane_store c.end_if_over.new.run_card
          c.args.tally.now c.end_if_over.new.tally c.end_if_over.new.lines.items choice up.1.spared
          (subst (λ (xs : List Line). ExchangeHasLed p c.end_if_over.new.lane c.end_if_over.new.lane_store c.end_if_over.new.run_card c.end_if_over.new.lines.items (ended_if_over p [] after xs)) lines
          ((c.end_if_over.ensures.led issuer accounts [] after runs).moved))
          (subst (λ (xs : List Line). IsEndCounted c.args.tally.now c.end_if_over.new.tally part.lane.ended (ended_if_over p [] after xs).part.lane.ended) lines
          ((c.end_if_over.ensures.led issuer accounts [] after runs).counted)),
    )

pub returns-in-Err-clause-led : goal.returns-in-Err-clause-led
unfolding seen_card
returns-in-Err-clause-led g c = λ issuer accounts part rests.
    let p = seen_payment issuer accounts c.args.at.now in
    let is : IsRunCardOf c.power_up.new.self p.card = c.power_up.ensures.is p.card rests.is in
    let cut : IsLost c.power_up.new.self p.card part.card p.planned.tear = c.in-Err.ensures.lost p.card part.card rests.is rests.off rests.losses in
    let keeps = kept_on c.args.lane.now c.start.new.lane part.lane c.start.ensures.same rests.keeps [] in
    let lane : LaneStands c.lose.new.lane p (record part.lane { running = Some (CardGone ∷ []) }) = record {
      keeps = kept_on c.start.new.lane c.lose.new.lane (record part.lane { running = Some [] }) c.lose.ensures.same keeps (CardGone ∷ []);
      running = c.lose.ensures.told p [] (c.start.ensures.told issuer accounts);
    } in
    let done = c.finish.ensures.stands issuer accounts (CardGone ∷ []) part.lane lane rests.lane_store_is in
    let lines : c.tell_power_torn.new.lines.items ≡ PowerTorn p.lane (record { items = c.args.at.now.card.now.name.items }) ∷ [] =
    c.tell_power_torn.ensures
    ∙ ap (λ (name : List ℕ). PowerTorn p.lane (record { items = name }) ∷ []) (c.name_of-in-Err.ensures ∙ c.as_slice-in-Err.ensures.value) in (
      false,
      cut_led p c.args.lane.now c.args.lane_store.now c.args.run_card.now c.power_up.new.self part rests is c.finish.new.lane c.finish.new.lane_store c.args.tally.now c.finish.new.tally
          c.finish.new.lines.items false done.0 cut done.1 done.2 done.3
          (done.4 ∙ ap (λ (xs : List Line). xs ++ outcome_line (loses p part.lane.store done.0.capture) p.lane (length part.lane.ended + 1) done.0 ∷ []) lines)
          done.5,
    )
