-- A lane whose purchase has ended, with what it captured, in its store or for settlement.
-- It stands for the lane of the definitions with this purchase behind those that have ended.
use Rattle.std.proofs.Common.{◌≡◌, ℕ, ◌+◌, ◌≤◌, Bool, true, false, List, [], ◌∷◌, ◌++◌, length, Option, Some, None, refl, sym, ap, ◌∙◌, subst, arith, length-append, append-nil}
use Rattle.std.specs.List.{All}
use Rattle.std.specs.Prelude.{if◌then◌else◌, option_map, option_and_then, option_to_list}
use Rattle.std.proofs.lemmas.List.Elements.{All-append}
use Rattle.auth_message.specs.Whole.{IsMessage}
use Rattle.capture_store.specs.Calls.{Call, list_found}
use Rattle.capture_store.specs.SeenLaneStore.{LaneStoreSeen, LaneStoreOn}
use Rattle.capture_store.specs.StoreRow.{ended_by}
use Rattle.emv_dict.specs.Settings.{most_amount}
use Rattle.emv_ports.specs.declared.tear.Tear.{Tear}
use Rattle.kernel.specs.Ended.{EndData}
use Rattle.kernel.specs.Reply.{Reply}
use Rattle.txn_replay.specs.Part.{approval, loses, lane_ended}
use Rattle.txn_replay.specs.Payment.{Payment}
use Rattle.txn_replay.specs.Reading.{past_card}
use Rattle.txn_replay.specs.Standing.{LaneKeeps, LaneStands, StoreStands, LaneStoreFor, LaneStoreStands, HasRoomForCapture, card_last_read}
use Rattle.txn_replay.specs.World.{LaneRow, Past}
use Rattle.txn_replay.specs.declared.lane.Lane.{Lane}
use Rattle.txn_replay.proofs.ExchangeLaws.DialogueOver.{last_past-push, rests_as}
use Rattle.txn_replay.proofs.StoreLaws.StoreOpen.{place_on}
use Rattle.txn_replay.proofs.StoreLaws.StoreFirst.{ended_messages, ended_found}

-- what becomes of a lane's values as its purchase ends
pub record Finishes (p : Payment) (lane later : Lane) (row : LaneRow) (end : EndData) : Type 0 where
  pub rests : later.running ≡ None
  pub ended : later.ended ≡ lane.ended + 1
  pub log : later.log.items ≡ row.log ++ (if loses p row.store end.capture then [] else approval p.planned.purchase end.ending end.card)
  pub amounts : All (λ logged. logged.amount ≤ most_amount) later.log.items
  pub captures : later.captures.messages ≡ row.captures ++ (if p.durable then [] else option_to_list end.capture)
  pub read : All IsMessage (option_to_list end.capture)
  pub card : card_last_read later.place ≡ end.card
  pub ending : later.ending ≡ Some end.ending
  pub found : later.found ≡ lane.found

module _ (p : Payment) (lane later : Lane) (row : LaneRow) (replies : List Reply) (end : EndData) (keeps : LaneKeeps lane (record row { running = Some replies }))
    (lane_store : LaneStoreSeen) (stands : LaneStoreStands lane_store p row) (room : HasRoomForCapture lane_store p.durable) (so : Finishes p lane later row end) where
  abbrev plan : Option Tear
  plan = p.planned.terminal_tear

  abbrev past : Past
  past = record { began = row.began; replies = replies; end = Some end; lost = loses p row.store end.capture }

  unlost : p.durable ≡ true → row.store.lost ≡ None
  unlost durable = on_lost lane_store (place_on lane_store row.store plan row.store.commits own.place (room durable).0)
    where
      own : StoreStands lane_store row plan
      own = subst (λ (b : Bool). LaneStoreFor lane_store row plan b) durable stands

      on_lost : (seen : LaneStoreSeen) → LaneStoreOn seen row.store plan → row.store.lost ≡ None
      on_lost None on = absurd on
      on_lost (Some seen) on = on.none

  messages : (durable : Bool) → All IsMessage (row.captures ++ (if durable then [] else option_to_list end.capture))
  messages true = subst (λ (ms : List (List ℕ)). All IsMessage ms) (sym (append-nil row.captures)) keeps.messages
  messages false = All-append IsMessage row.captures (option_to_list end.capture) keeps.messages so.read

  stored : (durable : Bool) → p.durable ≡ durable → (found : Bool)
      → All IsMessage (list_found (if durable then ended_by plan row.store end.capture else row.store).list (if durable then ended_by plan row.store end.capture else row.store).lost found)
  stored false plain found = keeps.stored found
  stored true durable found =
      ended_messages plan row.store end.capture (unlost durable)
      (subst (λ (o : Option Call). All IsMessage (list_found row.store.list o true)) (unlost durable) (keeps.stored true)) so.read found

  found_stays : (durable : Bool) → (if durable then ended_by plan row.store end.capture else row.store).found ≡ row.store.found
  found_stays true = ended_found plan row.store end.capture
  found_stays false = refl

  pub finished : LaneStands later p (lane_ended p replies end row)
  finished = record {
    keeps = record {
      ended = (let more : length (row.ended ++ past ∷ []) ≡ length row.ended + 1 = length-append row.ended (past ∷ []) in omega (arith, more, keeps.ended, so.ended));
      log = so.log;
      amounts = subst (λ xs. All (λ logged. logged.amount ≤ most_amount) xs) so.log so.amounts;
      captures = so.captures;
      messages = messages p.durable;
      sent = keeps.sent;
      stored = stored p.durable refl;
      found = so.found ∙ keeps.found ∙ ap (λ (o : Option (List (List ℕ))). option_map length o) (sym (found_stays p.durable));
      card = λ none. so.card ∙ ap (λ (o : Option Past). option_and_then past_card o) (sym (last_past-push row.ended past));
      ending = so.ending ∙ ap (λ (o : Option Past). option_and_then (λ x. option_map (λ e. e.ending) x.end) o) (sym (last_past-push row.ended past));
    };
    running = rests_as later.running p so.rests;
  }
