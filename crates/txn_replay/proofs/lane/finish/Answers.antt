use Rattle.std.proofs.Common.{◌≡◌, ℕ, ◌+◌, ◌≤◌, Bool, true, false, List, [], ◌∷◌, ◌++◌, length, Option, Some, refl, sym, ap, ◌∙◌, subst, append-nil}
use Rattle.std.specs.List.{All}
use Rattle.std.specs.Prelude.{if◌then◌else◌, option_map, option_to_list}
use Rattle.auth_message.specs.Whole.{IsMessage}
use Rattle.emv_dict.specs.Settings.{most_amount}
use Rattle.emv_dict.specs.declared.ending.Ending.{Ending}
use Rattle.emv_dict.specs.declared.purchase.Logged.{Logged}
use Rattle.kernel.specs.Dialogue.{dialogue}
use Rattle.kernel.specs.Ended.{EndData, end_of}
use Rattle.kernel.specs.Kernel.{outset_in}
use Rattle.kernel.specs.EndShown.{EndShown, shown_end}
use Rattle.kernel.specs.Tally.{raised}
use Rattle.report_text.specs.declared.line.EndParts.{EndParts}
use Rattle.report_text.specs.declared.line.Line.TheVariants.{End, EndLost}
use Rattle.terminal_state.specs.Terminal.{Outset}
use Rattle.txn_replay.specs.Lines.{end_line, outcome_line}
use Rattle.txn_replay.specs.Part.{approval, loses}
use Rattle.txn_replay.specs.Payment.{end_at}
use Rattle.txn_replay.specs.Standing.{seen_payment}
use Rattle.txn_replay.specs.Stocking.{is_lost, IsNoRequest, IsStoredBy}
use Rattle.txn_replay.proofs.ExchangeLaws.DialogueOver.{some_shown, runs_as}
use Rattle.txn_replay.proofs.ExchangeLaws.PurchaseEnded.{Finishes, finished}
use Rattle.txn_replay.proofs.CaptureLaws.NoRequestCaptured.{no_request, taken_as}
use Rattle.txn_replay.proofs.StoreLaws.StoreFirst.{ending_lane_store}
use Rattle.txn_replay.proofs.lane.finish.Goals as goal

pub keep_capture-requires-clause-settles : goal.keep_capture-requires-clause-settles
keep_capture-requires-clause-settles g c =
    let was = taken_as c.args.lane.now.running c.in-Some.kernel c.deref_mut.result.now (sym c.take.ensures.value ∙ c.in-Some.is) c.deref_mut.ensures.value c.requires.ready.ends.taken in
    let one = some_shown (end_of (outset_in c.deref_mut.result.now) (dialogue (outset_in c.deref_mut.result.now) was.0)) c.end-ended.result (c.end-ended.ensures.ends.end was.0 was.1) in
    let capture : c.ended.inside.capture ≡ one.0.capture = ap (λ (x : EndShown). x.capture) c.ended.view_is ∙ ap (λ (x : EndShown). x.capture) (sym one.2) in
    subst IsNoRequest (sym capture) (no_request (outset_in c.deref_mut.result.now) (dialogue (outset_in c.deref_mut.result.now) was.0) one.0 one.1)

pub returns-in-Told-clause-stands : goal.returns-in-Told-clause-stands
returns-in-Told-clause-stands g c = λ issuer accounts replies row stands lane_store_is.
    let p = seen_payment issuer accounts c.args.at.now in
    let running : c.args.lane.now.running ≡ Some c.in-Some.kernel = sym c.take.ensures.value ∙ c.in-Some.is in
    let runs = runs_as c.args.lane.now.running c.in-Some.kernel c.deref_mut.result.now p replies running c.deref_mut.ensures.value stands.running in
    let given : option_map shown_end (end_at p replies) ≡ Some c.end-ended.result =
    ap (λ (d : Outset). option_map shown_end (end_of d (dialogue d replies))) (sym runs.1) ∙ c.end-ended.ensures.ends.end replies runs.0 in
    let one = some_shown (end_at p replies) c.end-ended.result given in
    let end : EndData = one.0 in
    let same : shown_end end ≡ c.end-ended.result = one.2 in
    let view : (shown_end end).ending ≡ c.end-ended.result.ending = ap (λ (x : EndShown). x.ending) same in
    let ending : c.ended.inside.ending ≡ end.ending = ap (λ (x : EndShown). x.ending) c.ended.view_is ∙ ap (λ (x : EndShown). x.ending) (sym same) in
    let pan : c.ended.inside.pan ≡ option_map (λ card. card.pan) end.card = ap (λ (x : EndShown). x.pan) c.ended.view_is ∙ ap (λ (x : EndShown). x.pan) (sym same) in
    let ends : end_of (outset_in c.deref_mut.result.now) (dialogue (outset_in c.deref_mut.result.now) replies) ≡ Some end =
    ap (λ (d : Outset). end_of d (dialogue d replies)) runs.1 ∙ one.1 in
    let card : c.end-ended.new.self.card ≡ end.card = c.end-ended.ensures.spent.card_is ∙ sym (c.end-ended.ensures.ends.card replies end runs.0 ends) in
    let capture : c.ended.inside.capture ≡ end.capture = ap (λ (x : EndShown). x.capture) c.ended.view_is ∙ ap (λ (x : EndShown). x.capture) (sym same) in
    let amount : c.args.at.now.planned.now.purchase.amount ≡ c.amount_of.result = sym c.amount_of.ensures in
    let lane_store = ending_lane_store p row replies end c.args.lane_store.now c.keep_capture.new.lane_store c.keep_capture.result lane_store_is c.requires.ready.ends.room
    (λ durable. subst (λ (o : Option (List ℕ)). IsStoredBy c.args.lane_store.now c.keep_capture.new.lane_store p.planned.terminal_tear o c.keep_capture.result) capture
    (c.keep_capture.ensures.stored durable)) c.keep_capture.ensures.told in
    let told : false ≡ loses p row.store end.capture = ap is_lost (sym c.in-Told.is) ∙ lane_store.1 in
    let log : c.add_approval.new.log.items ≡ row.log ++ (if loses p row.store end.capture then [] else approval c.args.at.now.planned.now.purchase end.ending end.card) =
    c.add_approval.ensures.appended c.args.at.now.planned.now.purchase end.card amount pan
    ∙ ap (λ (xs : List Logged). xs ++ approval c.args.at.now.planned.now.purchase c.ended.inside.ending end.card) stands.keeps.log
    ∙ ap (λ (e : Ending). row.log ++ approval c.args.at.now.planned.now.purchase e end.card) ending
    ∙ ap (λ (b : Bool). row.log ++ (if b then [] else approval c.args.at.now.planned.now.purchase end.ending end.card)) told in
    let so : Finishes p c.args.lane.now _ row end = record {
      rests = c.take.ensures.after;
      ended = refl;
      log = log;
      amounts = subst (λ (xs : List Logged). All (λ logged. logged.amount ≤ most_amount) xs) refl (c.add_approval.ensures.amounts c.requires.ready.ends.place.amounts (subst (λ n. n ≤ most_amount) amount c.args.at.now.fits.plan.purchase.amount_fits));
      captures =
          c.keep_capture.ensures.waits
          ∙ ap (λ (xs : List (List ℕ)). xs ++ (if p.durable then [] else option_to_list c.ended.inside.capture)) stands.keeps.captures
          ∙ ap (λ (o : Option (List ℕ)). row.captures ++ (if p.durable then [] else option_to_list o)) capture;
      read = subst (λ (o : Option (List ℕ)). All IsMessage (option_to_list o)) capture c.keep_capture.ensures.read;
      card = card;
      ending = ap (λ (e : Ending). Some e) ending;
      found = refl;
    } in (
      end,
      one.1,
      finished p c.args.lane.now _ row replies end stands.keeps c.args.lane_store.now lane_store_is c.requires.ready.ends.room so,
      lane_store.0,
      c.end.ensures
          ∙ ap (λ (parts : EndParts). c.args.lines.now.items ++ End c.args.at.now.lane (c.args.lane.now.ended + 1) parts ∷ []) (c.end_parts-parts.ensures end (sym same))
          ∙ ap (λ n. c.args.lines.now.items ++ end_line c.args.at.now.lane n end ∷ []) (ap (λ n. n + 1) stands.keeps.ended)
          ∙ ap (λ (b : Bool). c.args.lines.now.items ++ outcome_line b c.args.at.now.lane (length row.ended + 1) end ∷ []) told,
      c.end-ended.ensures.ends.tally replies runs.0 ∙ ap (λ (e : Ending). raised c.args.tally.now e (length replies)) (sym view),
    )

pub returns-in-Lost-clause-stands : goal.returns-in-Lost-clause-stands
returns-in-Lost-clause-stands g c = λ issuer accounts replies row stands lane_store_is.
    let p = seen_payment issuer accounts c.args.at.now in
    let running : c.args.lane.now.running ≡ Some c.in-Some.kernel = sym c.take.ensures.value ∙ c.in-Some.is in
    let runs = runs_as c.args.lane.now.running c.in-Some.kernel c.deref_mut.result.now p replies running c.deref_mut.ensures.value stands.running in
    let given : option_map shown_end (end_at p replies) ≡ Some c.end-ended.result =
    ap (λ (d : Outset). option_map shown_end (end_of d (dialogue d replies))) (sym runs.1) ∙ c.end-ended.ensures.ends.end replies runs.0 in
    let one = some_shown (end_at p replies) c.end-ended.result given in
    let end : EndData = one.0 in
    let same : shown_end end ≡ c.end-ended.result = one.2 in
    let view : (shown_end end).ending ≡ c.end-ended.result.ending = ap (λ (x : EndShown). x.ending) same in
    let ending : c.ended.inside.ending ≡ end.ending = ap (λ (x : EndShown). x.ending) c.ended.view_is ∙ ap (λ (x : EndShown). x.ending) (sym same) in
    let pan : c.ended.inside.pan ≡ option_map (λ card. card.pan) end.card = ap (λ (x : EndShown). x.pan) c.ended.view_is ∙ ap (λ (x : EndShown). x.pan) (sym same) in
    let ends : end_of (outset_in c.deref_mut.result.now) (dialogue (outset_in c.deref_mut.result.now) replies) ≡ Some end =
    ap (λ (d : Outset). end_of d (dialogue d replies)) runs.1 ∙ one.1 in
    let card : c.end-ended.new.self.card ≡ end.card = c.end-ended.ensures.spent.card_is ∙ sym (c.end-ended.ensures.ends.card replies end runs.0 ends) in
    let capture : c.ended.inside.capture ≡ end.capture = ap (λ (x : EndShown). x.capture) c.ended.view_is ∙ ap (λ (x : EndShown). x.capture) (sym same) in
    let lane_store = ending_lane_store p row replies end c.args.lane_store.now c.keep_capture.new.lane_store c.keep_capture.result lane_store_is c.requires.ready.ends.room
    (λ durable. subst (λ (o : Option (List ℕ)). IsStoredBy c.args.lane_store.now c.keep_capture.new.lane_store p.planned.terminal_tear o c.keep_capture.result) capture
    (c.keep_capture.ensures.stored durable)) c.keep_capture.ensures.told in
    let told : true ≡ loses p row.store end.capture = ap is_lost (sym c.in-Lost.is) ∙ lane_store.1 in
    let log : c.args.lane.now.log.items ≡ row.log ++ (if loses p row.store end.capture then [] else approval c.args.at.now.planned.now.purchase end.ending end.card) =
    stands.keeps.log ∙ sym (append-nil row.log)
    ∙ ap (λ (b : Bool). row.log ++ (if b then [] else approval c.args.at.now.planned.now.purchase end.ending end.card)) told in
    let so : Finishes p c.args.lane.now _ row end = record {
      rests = c.take.ensures.after;
      ended = refl;
      log = log;
      amounts = c.requires.ready.ends.place.amounts;
      captures =
          c.keep_capture.ensures.waits
          ∙ ap (λ (xs : List (List ℕ)). xs ++ (if p.durable then [] else option_to_list c.ended.inside.capture)) stands.keeps.captures
          ∙ ap (λ (o : Option (List ℕ)). row.captures ++ (if p.durable then [] else option_to_list o)) capture;
      read = subst (λ (o : Option (List ℕ)). All IsMessage (option_to_list o)) capture c.keep_capture.ensures.read;
      card = card;
      ending = ap (λ (e : Ending). Some e) ending;
      found = refl;
    } in (
      end,
      one.1,
      finished p c.args.lane.now _ row replies end stands.keeps c.args.lane_store.now lane_store_is c.requires.ready.ends.room so,
      lane_store.0,
      c.end_lost.ensures
          ∙ ap (λ n. c.args.lines.now.items ++ EndLost c.args.at.now.lane n ∷ []) (ap (λ n. n + 1) stands.keeps.ended)
          ∙ ap (λ (b : Bool). c.args.lines.now.items ++ outcome_line b c.args.at.now.lane (length row.ended + 1) end ∷ []) told,
      c.end-ended.ensures.ends.tally replies runs.0 ∙ ap (λ (e : Ending). raised c.args.tally.now e (length replies)) (sym view),
    )
