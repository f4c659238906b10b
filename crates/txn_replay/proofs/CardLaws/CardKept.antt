-- What each event keeps of a card holds of every card of every run.
-- A law of a card is so proved change by change: first, powered, asked, told, cut, lost, freed.
use Rattle.std.proofs.Common.{◌≡◌, ◌⊎◌, ℕ, Bool, true, false, List, [], ◌∷◌, ◌++◌, length, slice_get, Option, Some, None, refl, inl}
use Rattle.capture_store.specs.StoreRow.{opened_to_add, is_next_cut}
use Rattle.card_app.specs.Answering.{card_answer}
use Rattle.card_files.specs.Views.{ImageData}
use Rattle.card_app.specs.Cuts.{Cut, cut_of}
use Rattle.card_app.specs.Pages.{found_of}
use Rattle.card_state.specs.Decisions.{Decided}
use Rattle.emv_ports.specs.Cut.{names_commit}
use Rattle.emv_ports.specs.declared.tear.Tear.{Tear}
use Rattle.kernel.specs.Dialogue.{dialogue}
use Rattle.kernel.specs.Ended.{EndData}
use Rattle.kernel.specs.Reply.{Reply, CardSaid, CardGone, Deed, ToCard, ToHost, Over}
use Rattle.report_text.specs.declared.line.Line.{Line}
use Rattle.txn_replay.specs.Changes.{powered, exchanged, told_once, row_torn, lost, freed}
use Rattle.txn_replay.specs.Lines.{torn_lines, gone_lines, power_torn_line}
use Rattle.txn_replay.specs.Part.{Part, ended_by_record, sending, on_for, cut_ends, lane_answered_by, canned_by, asked_of_card, asked, purchase_begun, begun_by, begun_with, piece_by, piece}
use Rattle.txn_replay.specs.Payment.{Payment, outset_for, end_at}
use Rattle.txn_replay.specs.Storing.{part_with, copied, copy_lines, dropped_by, delivers_first, lane_piece}
use Rattle.txn_replay.specs.World.{Holder, CardRow, new_card}
use Rattle.txn_replay.proofs.ExchangeLaws.SixWays.{lane_ways}

-- a purchase has the card, or nothing is decided
abbrev pub Live : ImageData → CardRow → List ℕ → Type 0
Live image card command = ((h : Holder) × (card.holder ≡ Some h)) ⊎ ((card_answer image card.kept card.session command).new ≡ [])

-- a new card has it, and each event keeps it
pub record Closed (P : ImageData → CardRow → Type 0) : Type 0 where
  pub first : (image : ImageData) → P image new_card
  pub powers : (image : ImageData) (card : CardRow) (with_it : Bool) (holder : Option Holder) → P image card
      → P image (powered card (found_of card.kept card.pending with_it) holder)
  pub answers : (image : ImageData) (card : CardRow) (command : List ℕ) → Live image card command → P image card
      → P image (exchanged image card command (card_answer image card.kept card.session command))
  pub tells : (image : ImageData) (card : CardRow) → P image card → P image (told_once card)
  pub cuts : (image : ImageData) (card : CardRow) (tear : Option Tear) (cut : Cut) (h : Holder) → card.holder ≡ Some h → P image card
      → P image (freed (row_torn card tear cut))
  pub loses : (image : ImageData) (card : CardRow) → P image card → P image (lost card)
  pub frees : (image : ImageData) (card : CardRow) → P image card → P image (freed card)

module _ (P : ImageData → CardRow → Type 0) (closed : Closed P) (p : Payment) where
  settled_keeps : (replies : List Reply) (part : Part) (lines : List Line) (e : Option EndData) → P p.card.image part.card
      → P p.card.image (ended_by_record p replies part lines e).part.card
  settled_keeps replies part lines None holds = holds
  settled_keeps replies part lines (Some end) holds = closed.frees p.card.image part.card holds

  cut_keeps : (replies : List Reply) (part cut : Part) (lines : List Line) (e : Option EndData) → P p.card.image part.card
      → P p.card.image (freed cut.card) → P p.card.image (cut_ends p replies part cut lines e).part.card
  cut_keeps replies part cut lines None holds freed_so = holds
  cut_keeps replies part cut lines (Some end) holds freed_so = freed_so

  answer_keeps : (replies : List Reply) (command : List ℕ) (part : Part) (cut : Option Cut) (h : Holder) → part.card.holder ≡ Some h
      → P p.card.image part.card
      → P p.card.image (lane_answered_by p replies command part (card_answer p.card.image part.card.kept part.card.session command) cut).part.card
  answer_keeps replies command part None h has holds =
      let said = card_answer p.card.image part.card.kept part.card.session command in
      let told : List Reply = replies ++ CardSaid said.answer part.lane.log ∷ [] in
      settled_keeps told (record part { card = exchanged p.card.image part.card command said }) _ (end_at p told)
      (closed.answers p.card.image part.card command (inl (h, has)) holds)
  answer_keeps replies command part (Some cut) h has holds =
      cut_keeps (replies ++ CardGone ∷ []) part (record part { card = row_torn part.card p.planned.tear cut }) (torn_lines p.lane command)
      (end_at p (replies ++ CardGone ∷ []))
      holds (closed.cuts p.card.image part.card p.planned.tear cut h has holds)

  tell_keeps : (replies : List Reply) (command : List ℕ) (part : Part) (o : Option (List ℕ)) → P p.card.image part.card
      → P p.card.image (canned_by p replies command part o).part.card
  tell_keeps replies command part (Some answer) holds =
      let told : List Reply = replies ++ CardSaid answer part.lane.log ∷ [] in
      settled_keeps told (record part { card = told_once part.card }) _ (end_at p told) (closed.tells p.card.image part.card holds)
  tell_keeps replies command part None holds =
      cut_keeps (replies ++ CardGone ∷ []) part (record part { card = part.card }) (gone_lines p.lane command) (end_at p (replies ++ CardGone ∷ [])) holds
      (closed.frees p.card.image part.card holds)

  kind_keeps : (replies : List Reply) (command : List ℕ) (part : Part) (o : Option (List (List ℕ))) (h : Holder) → part.card.holder ≡ Some h
      → P p.card.image part.card → P p.card.image (asked_of_card p replies command part o).part.card
  kind_keeps replies command part None h has holds =
      answer_keeps replies command part
      (cut_of p.planned.tear part.card.made (card_answer p.card.image part.card.kept part.card.session command).new) h has holds
  kind_keeps replies command part (Some answers) h has holds = tell_keeps replies command part (slice_get answers part.card.told) holds

  ask_keeps : (replies : List Reply) (part : Part) (deed : Deed) (h : Holder) → part.card.holder ≡ Some h → P p.card.image part.card
      → P p.card.image (asked p replies part deed).part.card
  ask_keeps replies part (ToCard command) h has holds = kind_keeps replies command part p.card.canned h has holds
  ask_keeps replies part (ToHost message) h has holds = settled_keeps _ (sending p message part) _ _ holds
  ask_keeps replies part (Over ending) h has holds = holds

  begin_keeps : (part : Part) (choice torn_there : Bool) → P p.card.image part.card → P p.card.image (begun_by p part choice torn_there).part.card
  begin_keeps part choice true holds =
      cut_keeps (CardGone ∷ []) part (record part { card = lost part.card }) (power_torn_line p.lane p.card ∷ []) (end_at p (CardGone ∷ [])) holds
      (closed.frees p.card.image (lost part.card) (closed.loses p.card.image part.card holds))
  begin_keeps part choice false holds =
      let found : List Decided = found_of part.card.kept part.card.pending choice in
      settled_keeps [] (on_for p (Some found) found part) _ (end_at p [])
      (closed.powers p.card.image part.card choice (Some (record { lane = p.lane; number = length part.lane.ended })) holds)

  kind_begins : (part : Part) (choice : Bool) (o : Option (List (List ℕ))) → P p.card.image part.card → P p.card.image (begun_with p part choice o).part.card
  kind_begins part choice None holds = begin_keeps part choice (names_commit p.planned.tear 0) holds
  kind_begins part choice (Some answers) holds =
      let found : List Decided = found_of part.card.kept part.card.pending false in
      settled_keeps [] (on_for p None found part) _ (end_at p [])
      (closed.powers p.card.image part.card false (Some (record { lane = p.lane; number = length part.lane.ended })) holds)

  pub piece_keeps : (part : Part) (choice : Bool) (h : Holder) → ((replies : List Reply) → part.lane.running ≡ Some replies → part.card.holder ≡ Some h)
      → P p.card.image part.card → P p.card.image (piece p part choice).part.card
  piece_keeps part choice h has holds = by_lane part.lane.running refl
    where
      begins : (o : Option Holder) → P p.card.image (purchase_begun p part choice o).part.card
      begins None = kind_begins part choice p.card.canned holds
      begins (Some other) = holds

      by_lane : (o : Option (List Reply)) → part.lane.running ≡ o → P p.card.image (piece_by p part choice o).part.card
      by_lane None is = begins part.card.holder
      by_lane (Some replies) is = ask_keeps replies part (dialogue (outset_for p) replies).deed h (has replies is) holds

  delivery_keeps : (part : Part) → P p.card.image part.card → (list : List (List ℕ)) → P p.card.image (delivers_first p part list).part.card
  delivery_keeps part holds [] = holds
  delivery_keeps part holds (message ∷ others) = by (is_next_cut p.planned.terminal_tear part.lane.store)
    where
      by : (cut : Bool) → P p.card.image (dropped_by p (copied p message part) (copy_lines p message part.messages p.copies) cut).part.card
      by true = holds
      by false = holds

  -- so with the lane's store
  pub lane_keeps : (part : Part) (one other : Bool) (h : Holder)
      → ((replies : List Reply) → part.lane.running ≡ Some replies → part.card.holder ≡ Some h)
      → P p.card.image part.card → P p.card.image (lane_piece p part one other).part.card
  lane_keeps part one other h has holds =
      lane_ways (λ m. P p.card.image m.part.card) p part
      holds
      (λ choice so. piece_keeps part choice h has holds)
      (λ at off cut. holds)
      (λ first at off full. holds)
      (λ first second at off room. piece_keeps (part_with (opened_to_add part.lane.store first) part) second h has holds)
      (λ at on. delivery_keeps part holds part.lane.store.list)
      one other
