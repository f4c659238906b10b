use Rattle.std.proofs.Common.{◌≡◌, ℕ, ◌+◌, List, [], ◌∷◌, ◌++◌, length, sym, ap, ◌∙◌, subst, rules}
use Rattle.emv_dict.specs.declared.purchase.Logged.{Logged}
use Rattle.kernel.specs.Dialogue.{dialogue}
use Rattle.kernel.specs.Kernel.{KernelStands, told_bytes}
use Rattle.kernel.specs.Reply.{Reply, CardSaid, CardGone}
use Rattle.report_text.specs.declared.line.Line.{Line}
use Rattle.terminal_state.specs.Terminal.{Outset}
use Rattle.txn_replay.proofs.ExchangeLaws.DialogueOver.{runs_as}
use Rattle.txn_replay.proofs.ExchangeLaws.CardExchange.{lane_on, answered_part, asked_answered, runs_on, gone_moved, gone_counted}
use Rattle.txn_replay.proofs.CaptureLaws.NoRequestCaptured.{taken_as}
use Rattle.txn_replay.proofs.exchange.ask_card.Goals as goal
use Rattle.txn_replay.specs.Called.{IsCommandAnswered, IsCardGone, no_answer_lines}
use Rattle.txn_replay.specs.Lines.{answer_lines, outcome_line}
use Rattle.txn_replay.specs.Part.{Part, Moved, loses, ended_if_over}
use Rattle.txn_replay.specs.Payment.{outset_for}
use Rattle.txn_replay.specs.RunCard.{IsRunCardOf}
use Rattle.txn_replay.specs.Standing.{ExchangeHasLed, IsEndCounted, seen_payment}

pub returns-in-Ok-clause-led : goal.returns-in-Ok-clause-led
returns-in-Ok-clause-led g c = λ issuer accounts replies part runs.
    let p = seen_payment issuer accounts c.args.at.now in
    let was = runs_as c.args.lane.now.running c.in-Some.place c.deref_mut-kernel.result.now p replies c.in-Some.is c.deref_mut-kernel.ensures.value runs.lane_is.running in
    let command : List ℕ = told_bytes (dialogue (outset_for p) replies) in
    let is : IsRunCardOf c.process.new.self p.card = c.process.ensures.is p.card runs.is in
    let sent : c.bytes.result.now ≡ command = c.bytes.ensures.told replies was.0 ∙ ap (λ (d : Outset). told_bytes (dialogue d replies)) was.1 in
    let answer : List ℕ = c.process.new.out.items in
    let told : List Reply = replies ++ CardSaid answer part.lane.log ∷ [] in
    let shown : c.bytes-in-Ok.result.now ≡ command = c.bytes-in-Ok.ensures.told replies was.0 ∙ ap (λ (d : Outset). told_bytes (dialogue d replies)) was.1 in
    let said : IsCommandAnswered c.process.new.self p.card part.card p.planned.tear command answer =
    subst (λ (bytes : List ℕ). IsCommandAnswered c.process.new.self p.card part.card p.planned.tear bytes answer) sent
    (c.in-Ok.ensures.answered p.card part.card p.planned.tear runs.is runs.on) in
    let log : c.as_slice-in-Ok-2.result.now ≡ part.lane.log = c.as_slice-in-Ok-2.ensures.value ∙ runs.lane_is.keeps.log in
    let taken : KernelStands c.take_card.new.self told =
    subst (λ (xs : List Logged). KernelStands c.take_card.new.self (replies ++ CardSaid answer xs ∷ [])) log
    (subst (λ (xs : List ℕ). KernelStands c.take_card.new.self (replies ++ CardSaid xs c.as_slice-in-Ok-2.result.now ∷ [])) c.as_slice-in-Ok.ensures.value
    (c.take_card.ensures.stands replies was.0)) in
    let losses = c.in-Ok.ensures.losses part.card.losses runs.losses in
    let after : Part = answered_part p c.args.lane.now c.args.lane_store.now c.args.run_card.now c.process.new.self replies part command runs is in
    let lines : c.tell_answer.new.lines.items ≡ answer_lines p.lane command answer =
    c.tell_answer.ensures
    ∙ ap (λ (bytes : List ℕ). answer_lines p.lane bytes c.as_slice.result.now) shown
    ∙ ap (λ (bytes : List ℕ). answer_lines p.lane command bytes) c.as_slice.ensures.value in
    let same = asked_answered p c.args.lane.now c.args.lane_store.now c.args.run_card.now c.process.new.self replies part command runs is answer said in
    let led = c.end_if_over.ensures.led issuer accounts told after
    (runs_on p c.args.lane.now c.args.lane_store.now c.args.run_card.now c.process.new.self replies part command runs is answer _ said taken (c.take_card.ensures.outset ∙ was.1) losses) in
    record {
      moved = subst (λ (m : Moved). ExchangeHasLed p c.end_if_over.new.lane c.end_if_over.new.lane_store c.end_if_over.new.run_card c.end_if_over.new.lines.items m) (sym same)
          (subst (λ (xs : List Line). ExchangeHasLed p c.end_if_over.new.lane c.end_if_over.new.lane_store c.end_if_over.new.run_card c.end_if_over.new.lines.items (ended_if_over p told after xs)) lines led.moved);
      counted = subst (λ (m : Moved). IsEndCounted c.args.tally.now c.end_if_over.new.tally part.lane.ended m.part.lane.ended) (sym same)
          (subst (λ (xs : List Line). IsEndCounted c.args.tally.now c.end_if_over.new.tally part.lane.ended (ended_if_over p told after xs).part.lane.ended) lines led.counted);
    }

pub returns-in-Err-clause-led : goal.returns-in-Err-clause-led
returns-in-Err-clause-led g c = λ issuer accounts replies part runs.
    let p = seen_payment issuer accounts c.args.at.now in
    let was = runs_as c.args.lane.now.running c.in-Some.place c.deref_mut-kernel.result.now p replies c.in-Some.is c.deref_mut-kernel.ensures.value runs.lane_is.running in
    let command : List ℕ = told_bytes (dialogue (outset_for p) replies) in
    let is : IsRunCardOf c.process.new.self p.card = c.process.ensures.is p.card runs.is in
    let sent : c.bytes.result.now ≡ command = c.bytes.ensures.told replies was.0 ∙ ap (λ (d : Outset). told_bytes (dialogue d replies)) was.1 in
    let gone : IsCardGone c.process.new.self p.card part.card p.planned.tear command p.card.canned =
    subst (λ (bytes : List ℕ). IsCardGone c.process.new.self p.card part.card p.planned.tear bytes p.card.canned) sent
    (c.in-Err.ensures.gone p.card part.card p.planned.tear runs.is runs.on runs.losses) in
    let told : KernelStands c.take_gone.new.self (replies ++ CardGone ∷ []) = c.take_gone.ensures.stands replies was.0 in
    let done = c.finish.ensures.stands issuer accounts (replies ++ CardGone ∷ []) part.lane
    (lane_on p c.args.lane.now part.lane replies (replies ++ CardGone ∷ []) _ runs.lane_is told (c.take_gone.ensures.outset ∙ was.1)) runs.lane_store_is in
    let shown : c.bytes-in-Err.result.now ≡ command = c.bytes-in-Err.ensures.told replies was.0 ∙ ap (λ (d : Outset). told_bytes (dialogue d replies)) was.1 in
    let lines : c.finish.new.lines.items ≡ no_answer_lines p.lane command p.card.canned
    ++ outcome_line (loses p part.lane.store done.0.capture) p.lane (length part.lane.ended + 1) done.0 ∷ [] =
    done.4
    ∙ ap (λ (xs : List Line). xs ++ outcome_line (loses p part.lane.store done.0.capture) p.lane (length part.lane.ended + 1) done.0 ∷ [])
    (c.tell_gone.ensures.lines p.card is
    ∙ ap (λ (bytes : List ℕ). no_answer_lines p.lane bytes p.card.canned) shown) in
    record {
      moved = gone_moved p c.args.lane.now c.args.lane_store.now c.args.run_card.now c.process.new.self replies part command runs is done.0 gone done.1
          c.finish.new.lane c.finish.new.lane_store c.finish.new.lines.items done.2 done.3 lines;
      counted = gone_counted p c.args.lane.now c.args.lane_store.now c.args.run_card.now c.process.new.self replies part command runs is done.0 gone done.1
          c.args.tally.now c.finish.new.tally done.5;
    }

pub end_if_over-requires-clause-ready : goal.end_if_over-requires-clause-ready
end_if_over-requires-clause-ready g c =
    let was = taken_as c.args.lane.now.running c.in-Some.place c.deref_mut-kernel.result.now c.in-Some.is c.deref_mut-kernel.ensures.value c.requires.ready.ends.taken in
    record {
      ends = record {
        place = search rules;
        room = c.requires.ready.ends.room;
        taken = (was.0 ++ CardSaid c.as_slice-in-Ok.result.now c.as_slice-in-Ok-2.result.now ∷ [], c.take_card.ensures.stands was.0 was.1);
      };
      fresh = search rules;
      room = search rules;
    }

pub finish-requires-clause-ready : goal.finish-requires-clause-ready
finish-requires-clause-ready g c =
    let was = taken_as c.args.lane.now.running c.in-Some.place c.deref_mut-kernel.result.now c.in-Some.is c.deref_mut-kernel.ensures.value c.requires.ready.ends.taken in
    record {
      ends = record {
        place = search rules;
        room = c.requires.ready.ends.room;
        taken = (was.0 ++ CardGone ∷ [], c.take_gone.ensures.stands was.0 was.1);
      };
      fresh = search rules;
      room = search rules;
    }
