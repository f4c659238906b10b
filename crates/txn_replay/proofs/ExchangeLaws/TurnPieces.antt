-- Which part of an exchange a lane's turn is.
-- A purchase begins, asks its card or asks the host, as its dialogue wants it next.
use Rattle.std.proofs.Common.{◌≡◌, ℕ, Bool, true, false, ◌&&◌, List, [], ◌∷◌, ◌++◌, slice_get, Option, Some, None, refl, sym, ap, ◌∙◌, subst}
use Rattle.std.specs.Global.{Box}
use Rattle.std.specs.Prelude.{is_none, option_map}
use Rattle.capture_store.specs.SeenLaneStore.{LaneStoreSeen}
use Rattle.card_app.specs.Answering.{card_answer}
use Rattle.card_app.specs.Cuts.{Cut, cut_of}
use Rattle.card_app.specs.Pages.{found_of}
use Rattle.card_app.specs.PageReplies.{CardAnswer}
use Rattle.card_state.specs.Decisions.{Decided}
use Rattle.emv_ports.specs.Cut.{names_commit}
use Rattle.kernel.specs.Dialogue.{dialogue}
use Rattle.kernel.specs.Ended.{EndData}
use Rattle.kernel.specs.Kernel.{KernelData, kernel_next, standing_next, told_bytes, deed_next, deed_bytes}
use Rattle.kernel.specs.Reply.{Reply, CardSaid, CardGone, Deed, ToCard, ToHost, Over}
use Rattle.kernel.specs.declared.kernel.Next.TheVariants as next
use Rattle.report_text.specs.declared.line.Line.{Line}
use Rattle.txn_replay.specs.Changes.{exchanged, told_once, row_torn, lost}
use Rattle.txn_replay.specs.Lines.{power_line, power_canned_line, power_torn_line, answer_lines, torn_lines, gone_lines}
use Rattle.txn_replay.specs.Part.{Part, ended_if_over, on_for, cut_ends, lane_answered_by, canned_by, asked_of_card, asked_card, asked_host, asked, purchase_begun, begun_by, begun_with, piece_by, piece}
use Rattle.txn_replay.specs.Payment.{Payment, outset_for, end_at}
use Rattle.txn_replay.specs.RunCard.{RunCardSeen, RunCardOn, run_card_is_powered}
use Rattle.txn_replay.specs.Standing.{RunStands, LaneKeeps, PlaceFor, PartRests, PartRuns, PartStands, SameLane}
use Rattle.txn_replay.specs.World.{Holder, CardRow, LaneRow}
use Rattle.txn_replay.specs.declared.lane.Lane.{Lane}
use Rattle.txn_replay.proofs.ExchangeLaws.HostExchange.{settled_messages}

-- the purchase that is next begins where none has its card
pub piece_begins : (p : Payment) (part : Part) (choice : Bool) → part.lane.running ≡ None → part.card.holder ≡ None
    → piece p part choice ≡ begun_with p part choice p.card.canned
piece_begins p part choice rests free =
    ap (λ (o : Option (List Reply)). piece_by p part choice o) rests ∙ ap (λ (o : Option Holder). purchase_begun p part choice o) free

piece_asks : (p : Payment) (part : Part) (choice : Bool) (replies : List Reply) → part.lane.running ≡ Some replies
    → piece p part choice ≡ asked p replies part (dialogue (outset_for p) replies).deed
piece_asks p part choice replies runs = ap (λ (o : Option (List Reply)). piece_by p part choice o) runs

-- the card, or the host, is asked
pub piece_card : (p : Payment) (part : Part) (choice : Bool) (replies : List Reply) → part.lane.running ≡ Some replies
    → standing_next (dialogue (outset_for p) replies) ≡ next.ToCard
    → piece p part choice ≡ asked_card p replies (told_bytes (dialogue (outset_for p) replies)) part
piece_card p part choice replies runs is = piece_asks p part choice replies runs ∙ by (dialogue (outset_for p) replies).deed is
  where
    by : (deed : Deed) → deed_next deed ≡ next.ToCard → asked p replies part deed ≡ asked_card p replies (deed_bytes deed) part
    by (ToCard command) is = refl
    by (ToHost message) is = cc
    by (Over ending) is = cc

pub piece_host : (p : Payment) (part : Part) (choice : Bool) (replies : List Reply) → part.lane.running ≡ Some replies
    → standing_next (dialogue (outset_for p) replies) ≡ next.ToHost
    → piece p part choice ≡ asked_host p replies (told_bytes (dialogue (outset_for p) replies)) part
piece_host p part choice replies runs is = piece_asks p part choice replies runs ∙ by (dialogue (outset_for p) replies).deed is
  where
    by : (deed : Deed) → deed_next deed ≡ next.ToHost → asked p replies part deed ≡ asked_host p replies (deed_bytes deed) part
    by (ToCard command) is = cc
    by (ToHost message) is = refl
    by (Over ending) is = cc

-- the host hears nothing of an exchange with the card
cut_messages : (p : Payment) (replies : List Reply) (part : Part) (card : CardRow) (lines : List Line) (e : Option EndData)
    → (cut_ends p replies part (record part { card = card }) lines e).part.messages ≡ part.messages
cut_messages p replies part card lines None = refl
cut_messages p replies part card lines (Some end) = refl

pub card_messages : (p : Payment) (replies : List Reply) (command : List ℕ) (part : Part) → (asked_card p replies command part).part.messages ≡ part.messages
card_messages p replies command part = by_kind p.card.canned
  where
    by : (said : CardAnswer) (cut : Option Cut) → (lane_answered_by p replies command part said cut).part.messages ≡ part.messages
    by said None =
        settled_messages p (replies ++ CardSaid said.answer part.lane.log ∷ []) (record part { card = exchanged p.card.image part.card command said })
        (answer_lines p.lane command said.answer)
    by said (Some cut) = cut_messages p (replies ++ CardGone ∷ []) part (row_torn part.card p.planned.tear cut) (torn_lines p.lane command) (end_at p (replies ++ CardGone ∷ []))

    by_next : (answer : Option (List ℕ)) → (canned_by p replies command part answer).part.messages ≡ part.messages
    by_next None = cut_messages p (replies ++ CardGone ∷ []) part part.card (gone_lines p.lane command) (end_at p (replies ++ CardGone ∷ []))
    by_next (Some answer) =
        settled_messages p (replies ++ CardSaid answer part.lane.log ∷ []) (record part { card = told_once part.card }) (answer_lines p.lane command answer)

    by_kind : (canned : Option (List (List ℕ))) → (asked_of_card p replies command part canned).part.messages ≡ part.messages
    by_kind None =
        by (card_answer p.card.image part.card.kept part.card.session command)
        (cut_of p.planned.tear part.card.made (card_answer p.card.image part.card.kept part.card.session command).new)
    by_kind (Some answers) = by_next (slice_get answers part.card.told)

pub begun_messages : (p : Payment) (part : Part) (choice : Bool) (canned : Option (List (List ℕ)))
    → (begun_with p part choice canned).part.messages ≡ part.messages
begun_messages p part choice canned = by_kind canned
  where
    on : (b : Bool) (began : Option (List Decided)) (line : Line)
        → (ended_if_over p [] (on_for p began (found_of part.card.kept part.card.pending b) part) (line ∷ [])).part.messages ≡ part.messages
    on b began line = settled_messages p [] (on_for p began (found_of part.card.kept part.card.pending b) part) (line ∷ [])

    by : (torn : Bool) → (begun_by p part choice torn).part.messages ≡ part.messages
    by true = cut_messages p (CardGone ∷ []) part (lost part.card) (power_torn_line p.lane p.card ∷ []) (end_at p (CardGone ∷ []))
    by false =
        on choice (Some (found_of part.card.kept part.card.pending choice))
        (power_line p.lane p.card (found_of part.card.kept part.card.pending choice))

    by_kind : (canned : Option (List (List ℕ))) → (begun_with p part choice canned).part.messages ≡ part.messages
    by_kind None = by (names_commit p.planned.tear 0)
    by_kind (Some answers) = on false None (power_canned_line p.lane p.card)

-- a lane whose vectors have more room
pub keeps_same : (lane later : Lane) (row : LaneRow) → SameLane lane later → LaneKeeps lane row → LaneKeeps later row
keeps_same lane later row same keeps = record {
  ended = same.ended ∙ keeps.ended;
  log = same.log ∙ keeps.log;
  amounts = keeps.amounts;
  captures = same.captures ∙ keeps.captures;
  messages = keeps.messages;
  sent = keeps.sent;
  stored = keeps.stored;
  found = same.found ∙ keeps.found;
  card = λ none. same.card ∙ keeps.card (sym same.running ∙ none);
  ending = same.ending ∙ keeps.ending;
}

-- nothing waits where nothing runs
pub none_runs : (o : Option (Box KernelData)) (f : KernelData → next.the_data) → option_map (λ kernel. f kernel.value) o ≡ None → o ≡ None
none_runs None f is = refl
none_runs (Some kernel) f is = cc

pub some_runs : (o : Option (Box KernelData)) (f : KernelData → next.the_data) (n : next.the_data) → option_map (λ kernel. f kernel.value) o ≡ Some n → (kernel : Box KernelData) × (o ≡ Some kernel)
some_runs None f n is = cc
some_runs (Some kernel) f n is = (kernel, refl)

pub waits_same : (before now : Option (Box KernelData)) → now ≡ before
    → option_map (λ kernel. kernel_next kernel.value) before ≡ option_map (λ kernel. kernel_next kernel.value) now
waits_same before now same = ap (λ (o : Option (Box KernelData)). option_map (λ kernel. kernel_next kernel.value) o) (sym same)

-- a card that isn't on where nothing runs
pub free_from : (o : Option (Box KernelData)) (on : Bool) → o ≡ None → (is_none o && on) ≡ false → on ≡ true → ⊥
free_from None true is held on = cc
free_from None false is held on = cc
free_from (Some kernel) on is held is_on = cc

rests_by : (running : Option (Box KernelData)) (p : Payment) (replies : Option (List Reply)) → running ≡ None → RunStands running p replies → replies ≡ None
rests_by None p None is stands = refl
rests_by None p (Some replies) is stands = absurd stands
rests_by (Some kernel) p replies is stands = cc

runs_by : (running : Option (Box KernelData)) (p : Payment) (replies : Option (List Reply)) (kernel : Box KernelData) → running ≡ Some kernel → RunStands running p replies
    → (told : List Reply) × (replies ≡ Some told)
runs_by None p replies kernel is stands = cc
runs_by (Some other) p None kernel is stands = absurd stands
runs_by (Some other) p (Some replies) kernel is stands = (replies, refl)

module _ (p : Payment) (lane later : Lane) (lane_store : LaneStoreSeen) (run_card : RunCardSeen) (part : Part) (stands : PartStands p lane lane_store run_card part) (same : SameLane lane later) where
  pub rests_from : lane.running ≡ None → (run_card_is_powered run_card ≡ true → ⊥) → PartRests p later lane_store run_card part
  rests_from none off = record {
    keeps = keeps_same lane later part.lane same stands.lane_is.keeps;
    lane_store_is = stands.lane_store_is;
    rests = rests;
    free = place.0;
    off = place.1;
    is = stands.is;
    losses = stands.losses;
  }
    where
      rests : part.lane.running ≡ None
      rests = rests_by lane.running p part.lane.running none stands.lane_is.running

      by : (holder : Option Holder) → part.card.holder ≡ holder → PlaceFor p run_card part.card holder None
          → (part.card.holder ≡ None) × PlaceFor p run_card part.card None None
      by None is place = (is, place)
      by (Some holder) is place = absurd (off place)

      place : (part.card.holder ≡ None) × PlaceFor p run_card part.card None None
      place = by part.card.holder refl (subst (λ (o : Option (List Reply)). PlaceFor p run_card part.card part.card.holder o) rests stands.place)

  pub record Running : Type 0 where
    pub replies : List Reply
    pub ran : part.lane.running ≡ Some replies
    pub told : RunStands lane.running p (Some replies)
    pub runs : PartRuns p later lane_store run_card replies part

  pub runs_from : (kernel : Box KernelData) → lane.running ≡ Some kernel → Running
  runs_from kernel is = by told.0 told.1
    where
      told : (replies : List Reply) × (part.lane.running ≡ Some replies)
      told = runs_by lane.running p part.lane.running kernel is stands.lane_is.running

      placed : (replies : List Reply) (holder : Option Holder) → part.card.holder ≡ holder → PlaceFor p run_card part.card holder (Some replies)
          → (h : Holder) × (part.card.holder ≡ Some h)
          × RunCardOn run_card part.card p.planned.tear
      placed replies None held place = absurd place
      placed replies (Some h) held place = (h, held, place)

      by : (replies : List Reply) → part.lane.running ≡ Some replies → Running
      by replies ran =
          let now : RunStands lane.running p (Some replies) = subst (λ (o : Option (List Reply)). RunStands lane.running p o) ran stands.lane_is.running in
          let at = placed replies part.card.holder refl (subst (λ (o : Option (List Reply)). PlaceFor p run_card part.card part.card.holder o) ran stands.place) in
          let keeps : LaneKeeps later part.lane = keeps_same lane later part.lane same stands.lane_is.keeps in
          record {
            replies = replies;
            ran = ran;
            told = now;
            runs = record {
              lane_is = record {
                keeps = record { ended = keeps.ended; log = keeps.log; amounts = keeps.amounts; captures = keeps.captures; messages = keeps.messages; sent = keeps.sent; stored = keeps.stored; found = keeps.found; card = keeps.card; ending = keeps.ending };
                running = subst (λ (k : Option (Box KernelData)). RunStands k p (Some replies)) (sym same.running) now;
              };
              lane_store_is = stands.lane_store_is;
              holder = at.0;
              has = at.1;
              on = at.2;
              is = stands.is;
              losses = stands.losses;
            };
          }
