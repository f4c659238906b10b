use Rattle.std.proofs.Common.{◌≡◌, ◌<◌, ℕ, true, false, List, Some, None, sym, ap, ◌∙◌, subst, rules}
use Rattle.std.proofs.lemmas.Option.{same_Some}
use Rattle.issuer_host.specs.History.{HostStands}
use Rattle.kernel.specs.Dialogue.{dialogue}
use Rattle.kernel.specs.Kernel.{kernel_next, standing_next, told_bytes}
use Rattle.kernel.specs.declared.kernel.Next.{Next}
use Rattle.kernel.specs.declared.kernel.Next.TheVariants as next
use Rattle.txn_replay.specs.Part.{Moved}
use Rattle.txn_replay.specs.Payment.{outset_for}
use Rattle.txn_replay.specs.RunCard.{run_card_is_powered}
use Rattle.txn_replay.specs.Standing.{HasTaken, NextRests, SameLane, ExchangeIsCounted, seen_payment}
use Rattle.txn_replay.specs.declared.lane.Lane.{Lane}
use Rattle.txn_replay.proofs.ExchangeLaws.TurnPieces.{Running, piece_card, piece_host, card_messages, none_runs, some_runs, waits_same, free_from, rests_from, runs_from}
use Rattle.txn_replay.proofs.StoreLaws.StoreOpen.{runs_through}
use Rattle.txn_replay.proofs.CaptureLaws.NoRequestCaptured.{taken_from}
use Rattle.txn_replay.proofs.StoreLaws.RunningRoom.{running_room}
use Rattle.txn_replay.proofs.exchange.exchange.Goals as goal

pub begin_next-requires-clause-stands : goal.begin_next-requires-clause-stands
begin_next-requires-clause-stands g c =
    let p = seen_payment c.args.common.now.host.keys c.args.common.now.host.accounts c.args.at.now in
    let later : Lane = c.make_room.new.lane in
    let same : SameLane c.args.lane.now later = c.make_room.ensures.same in
    let none : c.args.lane.now.running ≡ None = none_runs c.args.lane.now.running kernel_next (waits_same c.args.lane.now.running later.running same.running ∙ sym c.waits_for.ensures.exact ∙ c.in-None.is) in
    let off : run_card_is_powered c.args.run_card.now ≡ true → ⊥ = free_from c.args.lane.now.running (run_card_is_powered c.args.run_card.now) none c.requires.free in (
      c.requires.stands.0,
      record {
        part_rests = rests_from p c.args.lane.now later c.args.lane_store.now c.args.run_card.now c.requires.stands.0 c.requires.stands.1 same none off;
        begins = record { few = subst (λ n. n < 10000) (sym same.ended) c.requires.few; rests = same.running ∙ none };
        stored = c.requires.stands.1.stored;
        before = c.requires.stands.1.before;
      },
      c.requires.stands.2,
    )

pub returns-in_ok-begin_next-in-None-clause-led : goal.returns-in_ok-begin_next-in-None-clause-led
returns-in_ok-begin_next-in-None-clause-led g c = λ part stands stood.
    let p = seen_payment c.args.common.now.host.keys c.args.common.now.host.accounts c.args.at.now in
    let later : Lane = c.make_room.new.lane in
    let same : SameLane c.args.lane.now later = c.make_room.ensures.same in
    let none : c.args.lane.now.running ≡ None = none_runs c.args.lane.now.running kernel_next (waits_same c.args.lane.now.running later.running same.running ∙ sym c.waits_for.ensures.exact ∙ c.in-None.is) in
    let off : run_card_is_powered c.args.run_card.now ≡ true → ⊥ = free_from c.args.lane.now.running (run_card_is_powered c.args.run_card.now) none c.requires.free in
    let rests : NextRests p later c.args.lane_store.now c.args.run_card.now part = record {
      part_rests = rests_from p c.args.lane.now later c.args.lane_store.now c.args.run_card.now part stands same none off;
      begins = record { few = subst (λ n. n < 10000) (sym same.ended) c.requires.few; rests = same.running ∙ none };
      stored = stands.stored;
      before = stands.before;
    } in
    c.in_ok-begin_next-in-None.ensures.led part rests stood

pub returns-in-Some-ToCard-clause-led : goal.returns-in-Some-ToCard-clause-led
returns-in-Some-ToCard-clause-led g c = λ part stands stood.
    let p = seen_payment c.args.common.now.host.keys c.args.common.now.host.accounts c.args.at.now in
    let later : Lane = c.make_room.new.lane in
    let same : SameLane c.args.lane.now later = c.make_room.ensures.same in
    let kernel = some_runs c.args.lane.now.running kernel_next next.ToCard (waits_same c.args.lane.now.running later.running same.running ∙ sym c.waits_for.ensures.exact ∙ c.in-Some-ToCard.is ∙ ap (λ (n : Next). Some n) c.in-Some-ToCard.field-0-is) in
    let run : Running p c.args.lane.now later c.args.lane_store.now c.args.run_card.now part stands same =
    runs_from p c.args.lane.now later c.args.lane_store.now c.args.run_card.now part stands same kernel.0 kernel.1 in
    let waits : standing_next (dialogue (outset_for p) run.replies) ≡ next.ToCard =
    same_Some (standing_next (dialogue (outset_for p) run.replies)) next.ToCard (sym (c.waits_for.ensures.told p run.replies run.runs.lane_is.running) ∙ c.in-Some-ToCard.is ∙ ap (λ (n : Next). Some n) c.in-Some-ToCard.field-0-is) in
    let is = runs_through p part false false run.replies run.ran ∙ piece_card p part false run.replies run.ran waits in (
      false,
      false,
      subst (λ (m : Moved). ExchangeIsCounted p c.ask_card.new.lane c.ask_card.new.lane_store c.ask_card.new.run_card c.args.common.now.tally c.ask_card.new.tally c.ask_card.new.lines.items part m) (sym is)
          (c.ask_card.ensures.led c.args.common.now.host.keys c.args.common.now.host.accounts run.replies part run.runs),
      subst (λ (ms : List (List ℕ)). HostStands c.args.common.now.host ms)
          (sym (ap (λ (m : Moved). m.part.messages) is ∙ card_messages p run.replies (told_bytes (dialogue (outset_for p) run.replies)) part)) stood,
    )

pub returns-in_ok-ask_host-in-Some-ToHost-clause-led : goal.returns-in_ok-ask_host-in-Some-ToHost-clause-led
returns-in_ok-ask_host-in-Some-ToHost-clause-led g c = λ part stands stood.
    let p = seen_payment c.args.common.now.host.keys c.args.common.now.host.accounts c.args.at.now in
    let later : Lane = c.make_room.new.lane in
    let same : SameLane c.args.lane.now later = c.make_room.ensures.same in
    let kernel = some_runs c.args.lane.now.running kernel_next next.ToHost (waits_same c.args.lane.now.running later.running same.running ∙ sym c.waits_for.ensures.exact ∙ c.in-Some-ToHost.is ∙ ap (λ (n : Next). Some n) c.in-Some-ToHost.field-0-is) in
    let run : Running p c.args.lane.now later c.args.lane_store.now c.args.run_card.now part stands same =
    runs_from p c.args.lane.now later c.args.lane_store.now c.args.run_card.now part stands same kernel.0 kernel.1 in
    let waits : standing_next (dialogue (outset_for p) run.replies) ≡ next.ToHost =
    same_Some (standing_next (dialogue (outset_for p) run.replies)) next.ToHost (sym (c.waits_for.ensures.told p run.replies run.runs.lane_is.running) ∙ c.in-Some-ToHost.is ∙ ap (λ (n : Next). Some n) c.in-Some-ToHost.field-0-is) in
    let is = runs_through p part false false run.replies run.ran ∙ piece_host p part false run.replies run.ran waits in (
      false,
      false,
      subst (λ (m : Moved). ExchangeIsCounted p c.ask_host.new.lane c.ask_host.new.lane_store c.ask_host.new.run_card c.args.common.now.tally c.ask_host.new.common.tally c.ask_host.new.lines.items part m) (sym is)
          (c.in_ok-ask_host-in-Some-ToHost.ensures.led run.replies part run.runs stood),
      subst (λ (ms : List (List ℕ)). HostStands c.ask_host.new.common.host ms) (sym (ap (λ (m : Moved). m.part.messages) is))
          (c.in_ok-ask_host-in-Some-ToHost.ensures.messages run.replies part run.runs stood),
    )

pub ask_card-requires-clause-ready : goal.ask_card-requires-clause-ready
ask_card-requires-clause-ready g c =
    let p = seen_payment c.args.common.now.host.keys c.args.common.now.host.accounts c.args.at.now in
    let later : Lane = c.make_room.new.lane in
    let same : SameLane c.args.lane.now later = c.make_room.ensures.same in
    let kernel = some_runs c.args.lane.now.running kernel_next next.ToCard (waits_same c.args.lane.now.running later.running same.running ∙ sym c.waits_for.ensures.exact ∙ c.in-Some-ToCard.is ∙ ap (λ (n : Next). Some n) c.in-Some-ToCard.field-0-is) in
    let run : Running p c.args.lane.now later c.args.lane_store.now c.args.run_card.now c.requires.stands.0 c.requires.stands.1 same =
    runs_from p c.args.lane.now later c.args.lane_store.now c.args.run_card.now c.requires.stands.0 c.requires.stands.1 same kernel.0 kernel.1 in
    record {
      ends = record {
        place = search rules;
        room = running_room p c.args.lane.now c.args.lane_store.now c.args.run_card.now c.requires.stands.0 run.replies c.requires.stands.1 run.ran;
        taken = subst HasTaken (sym same.running) (taken_from c.args.lane.now.running p c.requires.stands.0.lane.running kernel.0 kernel.1 c.requires.stands.1.lane_is.running);
      };
      on = search rules;
    }

pub ask_host-requires-clause-ready : goal.ask_host-requires-clause-ready
ask_host-requires-clause-ready g c =
    let p = seen_payment c.args.common.now.host.keys c.args.common.now.host.accounts c.args.at.now in
    let later : Lane = c.make_room.new.lane in
    let same : SameLane c.args.lane.now later = c.make_room.ensures.same in
    let kernel = some_runs c.args.lane.now.running kernel_next next.ToHost (waits_same c.args.lane.now.running later.running same.running ∙ sym c.waits_for.ensures.exact ∙ c.in-Some-ToHost.is ∙ ap (λ (n : Next). Some n) c.in-Some-ToHost.field-0-is) in
    let run : Running p c.args.lane.now later c.args.lane_store.now c.args.run_card.now c.requires.stands.0 c.requires.stands.1 same =
    runs_from p c.args.lane.now later c.args.lane_store.now c.args.run_card.now c.requires.stands.0 c.requires.stands.1 same kernel.0 kernel.1 in
    record {
      ends = record {
        place = search rules;
        room = running_room p c.args.lane.now c.args.lane_store.now c.args.run_card.now c.requires.stands.0 run.replies c.requires.stands.1 run.ran;
        taken = subst HasTaken (sym same.running) (taken_from c.args.lane.now.running p c.requires.stands.0.lane.running kernel.0 kernel.1 c.requires.stands.1.lane_is.running);
      };
      on = search rules;
    }
