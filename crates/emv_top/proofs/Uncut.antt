-- A card whose power no tear cuts has no open decision behind an exchange, and has lost its power no more often.
use Rattle.std.proofs.Common.{◌≡◌, ℕ, ◌+◌, Bool, true, false, List, [], ◌∷◌, ◌++◌, slice_get, Option, Some, None, option_map, refl, ap, ◌∙◌}
use Rattle.capture_store.specs.StoreRow.{is_next_cut, opened_to_add}
use Rattle.card_app.specs.Answering.{card_answer}
use Rattle.card_app.specs.Cuts.{Cut, cut_of, behind_one}
use Rattle.card_app.specs.Pages.{found_of}
use Rattle.card_app.specs.PageReplies.{CardAnswer}
use Rattle.card_state.specs.Decisions.{Decided}
use Rattle.emv_ports.specs.Cut.{names_commit}
use Rattle.emv_ports.specs.declared.tear.Tear.{Tear}
use Rattle.kernel.specs.Dialogue.{dialogue}
use Rattle.kernel.specs.Ended.{EndData}
use Rattle.kernel.specs.Reply.{Reply, CardSaid, CardGone, Deed, ToCard, ToHost, Over}
use Rattle.report_text.specs.declared.line.Line.{Line}
use Rattle.txn_replay.specs.Changes.{powered, exchanged, told_once}
use Rattle.txn_replay.specs.Lines.{answer_lines, gone_lines}
use Rattle.txn_replay.specs.Part.{Part, ended_by_record, cut_ends, lane_answered_by, canned_by, asked_of_card, asked, purchase_begun, begun_by, begun_with, piece_by, piece}
use Rattle.txn_replay.specs.Payment.{Payment, outset_for, end_at}
use Rattle.txn_replay.specs.Storing.{part_with, copied, copy_lines, dropped_by, delivers_first, lane_piece}
use Rattle.txn_replay.specs.World.{Holder, CardRow, LaneRow, with_sent}
use Rattle.txn_replay.proofs.ExchangeLaws.LaneMoves.{this_one}
use Rattle.txn_replay.proofs.ExchangeLaws.SixWays.{lane_ways}

abbrev pub IsSettled : CardRow → Type 0
IsSettled row = row.pending ≡ None

abbrev pub Spares : CardRow → CardRow → Type 0
Spares before after = IsSettled after × (after.losses ≡ before.losses)

none_cut : (made : ℕ) (ds : List Decided) → cut_of None made ds ≡ None
unfolding cut_of
none_cut made [] = refl
none_cut made (d ∷ ds) = ap (λ (o : Option Cut). option_map (behind_one d) o) (none_cut (made + 1) ds)

module _ (p : Payment) (part : Part) (spared : p.card.canned ≡ None → p.planned.tear ≡ None) (before : IsSettled part.card) where
  settled_card : (replies : List Reply) (lane : LaneRow) (card : CardRow) (messages : List (List ℕ)) (lines : List Line) (e : Option EndData)
      → Spares part.card card → Spares part.card (ended_by_record p replies (record { lane = lane; card = card; messages = messages }) lines e).part.card
  settled_card replies lane card messages lines None here = here
  settled_card replies lane card messages lines (Some end) here = here

  answer_card : (replies : List Reply) (command : List ℕ) (said : CardAnswer) (cut : Option Cut) → cut ≡ None → Spares part.card (lane_answered_by p replies command part said cut).part.card
  answer_card replies command said None none =
      settled_card (replies ++ CardSaid said.answer part.lane.log ∷ []) part.lane (exchanged p.card.image part.card command said) part.messages
      (answer_lines p.lane command said.answer) (end_at p (replies ++ CardSaid said.answer part.lane.log ∷ [])) (before, refl)
  answer_card replies command said (Some cut) none = absurd (cc)

  gone_card : (replies : List Reply) (lines : List Line) (e : Option EndData)
      → Spares part.card (cut_ends p replies part (record part { card = part.card }) lines e).part.card
  gone_card replies lines None = (before, refl)
  gone_card replies lines (Some end) = (before, refl)

  tell_card : (replies : List Reply) (command : List ℕ) (o : Option (List ℕ)) → Spares part.card (canned_by p replies command part o).part.card
  tell_card replies command (Some answer) =
      settled_card (replies ++ CardSaid answer part.lane.log ∷ []) part.lane (told_once part.card) part.messages (answer_lines p.lane command answer)
      (end_at p (replies ++ CardSaid answer part.lane.log ∷ [])) (before, refl)
  tell_card replies command None = gone_card (replies ++ CardGone ∷ []) (gone_lines p.lane command) (end_at p (replies ++ CardGone ∷ []))

  kind_card : (replies : List Reply) (command : List ℕ) (o : Option (List (List ℕ))) → p.card.canned ≡ o → Spares part.card (asked_of_card p replies command part o).part.card
  kind_card replies command None is =
      answer_card replies command (card_answer p.card.image part.card.kept part.card.session command)
      (cut_of p.planned.tear part.card.made (card_answer p.card.image part.card.kept part.card.session command).new)
      (ap (λ (tear : Option Tear). cut_of tear part.card.made (card_answer p.card.image part.card.kept part.card.session command).new) (spared is)
      ∙ none_cut part.card.made (card_answer p.card.image part.card.kept part.card.session command).new)
  kind_card replies command (Some answers) is = tell_card replies command (slice_get answers part.card.told)

  ask_card : (replies : List Reply) (deed : Deed) → Spares part.card (asked p replies part deed).part.card
  ask_card replies (ToCard command) = kind_card replies command p.card.canned refl
  ask_card replies (ToHost message) = settled_card _ (with_sent message part.lane) part.card _ _ _ (before, refl)
  ask_card replies (Over ending) = (before, refl)

  begin_card : (choice torn_there : Bool) → torn_there ≡ false → Spares part.card (begun_by p part choice torn_there).part.card
  begin_card choice true none = absurd (cc)
  begin_card choice false none =
      settled_card [] (record part.lane { began = Some (found_of part.card.kept part.card.pending choice) })
      (powered part.card (found_of part.card.kept part.card.pending choice) (Some (this_one p part))) part.messages _ (end_at p []) (refl, refl)

  kind_begins : (choice : Bool) (o : Option (List (List ℕ))) → p.card.canned ≡ o → Spares part.card (begun_with p part choice o).part.card
  kind_begins choice None is = begin_card choice (names_commit p.planned.tear 0) (ap (λ (tear : Option Tear). names_commit tear 0) (spared is))
  kind_begins choice (Some answers) is =
      settled_card [] (record part.lane { began = None })
      (powered part.card (found_of part.card.kept part.card.pending false) (Some (this_one p part))) part.messages _ (end_at p []) (refl, refl)

  pub piece_card : (choice : Bool) → Spares part.card (piece p part choice).part.card
  piece_card choice = by_lane part.lane.running
    where
      begins : (o : Option Holder) → Spares part.card (purchase_begun p part choice o).part.card
      begins None = kind_begins choice p.card.canned refl
      begins (Some h) = (before, refl)

      by_lane : (o : Option (List Reply)) → Spares part.card (piece_by p part choice o).part.card
      by_lane None = begins part.card.holder
      by_lane (Some replies) = ask_card replies (dialogue (outset_for p) replies).deed

-- what comes before a purchase leaves its card
module _ (p : Payment) (part : Part) (spared : p.card.canned ≡ None → p.planned.tear ≡ None) (before : IsSettled part.card) where
  pub lane_card : (one other : Bool) → Spares part.card (lane_piece p part one other).part.card
  lane_card one other =
      lane_ways (λ m. Spares part.card m.part.card) p part
      (before, refl)
      (λ choice so. piece_card p part spared before choice)
      (λ at off cut. (before, refl))
      (λ choice at off full. (before, refl))
      (λ choice second at off room. piece_card p (part_with (opened_to_add part.lane.store choice) part) spared before second)
      (λ at on. delivered part.lane.store.list)
      one other
    where
      delivered : (list : List (List ℕ)) → Spares part.card (delivers_first p part list).part.card
      delivered [] = (before, refl)
      delivered (message ∷ others) = by (is_next_cut p.planned.terminal_tear part.lane.store)
        where
          by : (cut : Bool) → Spares part.card (dropped_by p (copied p message part) (copy_lines p message part.messages p.copies) cut).part.card
          by true = (before, refl)
          by false = (before, refl)
