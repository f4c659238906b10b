-- An exchange takes a truth value at an opening and at a power-up that are completed, and nowhere else.
-- So the number of truth values is that of the openings and power-ups, whatever they find.
use Rattle.std.proofs.Common.{◌≡◌, ℕ, suc, ◌+◌, Bool, true, false, List, [], ◌∷◌, ◌++◌, length, slice_get, Option, Some, None, refl, sym, ap, ◌∙◌, arith}
use Rattle.capture_store.specs.StoreRow.{opened_to_add, is_next_cut}
use Rattle.card_app.specs.Answering.{card_answer}
use Rattle.card_app.specs.Cuts.{Cut, cut_of}
use Rattle.card_app.specs.Pages.{found_of}
use Rattle.card_app.specs.PageReplies.{CardAnswer}
use Rattle.emv_ports.specs.Cut.{names_commit}
use Rattle.host_link.specs.Delivery.{heard}
use Rattle.issuer_host.specs.History.{host_reply}
use Rattle.kernel.specs.Dialogue.{dialogue}
use Rattle.kernel.specs.Ended.{EndData}
use Rattle.kernel.specs.Reply.{Reply, CardSaid, CardGone, from_host, Deed, ToCard, ToHost, Over}
use Rattle.report_text.specs.declared.line.Line.{Line}
use Rattle.txn_replay.specs.Changes.{exchanged, told_once, row_torn, lost}
use Rattle.txn_replay.specs.Lines.{answer_lines, torn_lines, gone_lines, host_lines, power_canned_line, power_torn_line}
use Rattle.txn_replay.specs.Part.{Part, Moved, still, ended_by_record, sending, on_for, cut_ends, lane_answered_by, canned_by, asked_of_card, asked, purchase_begun, begun_by, begun_with, piece_by, piece}
use Rattle.txn_replay.specs.Payment.{Payment, outset_for, end_at}
use Rattle.txn_replay.specs.Steps.{choice_in}
use Rattle.txn_replay.specs.Storing.{part_with, lost_with, copied, copy_lines, dropped_by, delivers_first, delivers, opened_for, opens_by, goes_through, stored_by, free_by, runs_by, before_by, more_chosen, moved_behind, lane_piece}
use Rattle.txn_replay.specs.World.{Holder}

-- these truth values are taken
pub record Taken (f : Bool → Moved) (choice : Bool) : Type 0 where
  pub choices : List Bool
  pub count : length choices ≡ (f (choice_in choices 0)).choices
  pub same : f (choice_in choices 0) ≡ f choice

-- none is
none_taken : (m : Moved) (choice : Bool) → m.choices ≡ 0 → Taken (λ b. m) choice
none_taken m choice none = record { choices = []; count = sym none; same = refl }

none_settled : (p : Payment) (replies : List Reply) (part : Part) (lines : List Line) (e : Option EndData) → (ended_by_record p replies part lines e).choices ≡ 0
none_settled p replies part lines None = refl
none_settled p replies part lines (Some end) = refl

none_cut : (p : Payment) (replies : List Reply) (part cut : Part) (lines : List Line) (e : Option EndData) → (cut_ends p replies part cut lines e).choices ≡ 0
none_cut p replies part cut lines None = refl
none_cut p replies part cut lines (Some end) = refl

none_answered : (p : Payment) (replies : List Reply) (command : List ℕ) (part : Part) (said : CardAnswer) (cut : Option Cut)
    → (lane_answered_by p replies command part said cut).choices ≡ 0
none_answered p replies command part said None =
    none_settled p (replies ++ CardSaid said.answer part.lane.log ∷ []) (record part { card = exchanged p.card.image part.card command said })
    (answer_lines p.lane command said.answer) (end_at p (replies ++ CardSaid said.answer part.lane.log ∷ []))
none_answered p replies command part said (Some cut) =
    none_cut p (replies ++ CardGone ∷ []) part (record part { card = row_torn part.card p.planned.tear cut }) (torn_lines p.lane command)
    (end_at p (replies ++ CardGone ∷ []))

none_told : (p : Payment) (replies : List Reply) (command : List ℕ) (part : Part) (o : Option (List ℕ)) → (canned_by p replies command part o).choices ≡ 0
none_told p replies command part (Some answer) =
    none_settled p (replies ++ CardSaid answer part.lane.log ∷ []) (record part { card = told_once part.card }) (answer_lines p.lane command answer)
    (end_at p (replies ++ CardSaid answer part.lane.log ∷ []))
none_told p replies command part None =
    none_cut p (replies ++ CardGone ∷ []) part (record part { card = part.card }) (gone_lines p.lane command) (end_at p (replies ++ CardGone ∷ []))

none_by : (p : Payment) (replies : List Reply) (command : List ℕ) (part : Part) (o : Option (List (List ℕ))) → (asked_of_card p replies command part o).choices ≡ 0
none_by p replies command part None =
    none_answered p replies command part (card_answer p.card.image part.card.kept part.card.session command)
    (cut_of p.planned.tear part.card.made (card_answer p.card.image part.card.kept part.card.session command).new)
none_by p replies command part (Some answers) = none_told p replies command part (slice_get answers part.card.told)

none_asked : (p : Payment) (replies : List Reply) (part : Part) (deed : Deed) → (asked p replies part deed).choices ≡ 0
none_asked p replies part (ToCard command) = none_by p replies command part p.card.canned
none_asked p replies part (ToHost message) =
    none_settled p (replies ++ from_host (reply_to message) ∷ []) (sending p message part)
    (host_lines p.iso p.lane message (reply_to message)) (end_at p (replies ++ from_host (reply_to message) ∷ []))
  where
    reply_to : List ℕ → Option (List ℕ)
    reply_to m = heard p.planned.link (host_reply p.issuer p.accounts part.messages m)
none_asked p replies part (Over ending) = refl

pub choice_taken : (p : Payment) (part : Part) (choice : Bool) → Taken (λ b. piece p part b) choice
choice_taken p part choice = by_lane part.lane.running
  where
    by_tear : (is_torn : Bool) → Taken (λ b. begun_by p part b is_torn) choice
    by_tear true = none_taken (begun_by p part choice true) choice
        (none_cut p (CardGone ∷ []) part (record part { card = lost part.card }) (power_torn_line p.lane p.card ∷ []) (end_at p (CardGone ∷ [])))
    by_tear false = record { choices = choice ∷ []; count = refl; same = refl }

    by_kind : (o : Option (List (List ℕ))) → Taken (λ b. begun_with p part b o) choice
    by_kind None = by_tear (names_commit p.planned.tear 0)
    by_kind (Some answers) = none_taken (begun_with p part choice (Some answers)) choice
        (none_settled p [] (on_for p None (found_of part.card.kept part.card.pending false) part) (power_canned_line p.lane p.card ∷ []) (end_at p []))

    by_holder : (o : Option Holder) → Taken (λ b. purchase_begun p part b o) choice
    by_holder None = by_kind p.card.canned
    by_holder (Some holder) = none_taken (purchase_begun p part choice (Some holder)) choice refl

    by_lane : (o : Option (List Reply)) → Taken (λ b. piece_by p part b o) choice
    by_lane None = by_holder part.card.holder
    by_lane (Some replies) =
        none_taken (piece_by p part choice (Some replies)) choice (none_asked p replies part (dialogue (outset_for p) replies).deed)

-- these truth values are taken of two that may be
pub record BothTaken (f : Bool → Bool → Moved) (one other : Bool) : Type 0 where
  pub choices : List Bool
  pub count : length choices ≡ (f (choice_in choices 0) (choice_in choices 1)).choices
  pub same : f (choice_in choices 0) (choice_in choices 1) ≡ f one other

neither_taken : (m : Moved) (one other : Bool) → m.choices ≡ 0 → BothTaken (λ a b. m) one other
neither_taken m one other none = record { choices = []; count = sym none; same = refl }

first_taken : (f : Bool → Moved) (one other : Bool) → Taken f one → BothTaken (λ a b. f a) one other
first_taken f one other taken = record { choices = taken.choices; count = taken.count; same = taken.same }

none_delivered : (p : Payment) (part : Part) (list : List (List ℕ)) → (delivers_first p part list).choices ≡ 0
none_delivered p part [] = refl
none_delivered p part (message ∷ others) = by (is_next_cut p.planned.terminal_tear part.lane.store)
  where
    by : (cut : Bool) → (dropped_by p (copied p message part) (copy_lines p message part.messages p.copies) cut).choices ≡ 0
    by true = refl
    by false = refl

pub choices_taken : (p : Payment) (part : Part) (one other : Bool) → BothTaken (λ a b. lane_piece p part a b) one other
choices_taken p part one other = by_durable p.durable
  where
    goes : BothTaken (λ a b. piece p part a) one other
    goes = first_taken (λ b. piece p part b) one other (choice_taken p part one)

    more : (n m : ℕ) → n ≡ m → suc n ≡ m + 1
    more n m same = omega arith

    by_due : (d : Bool) → (opened_to_add part.lane.store one).due ≡ d
        → BothTaken (λ a b. moved_behind p a b (opened_for (part_with (opened_to_add part.lane.store a) part) (opened_to_add part.lane.store a).due)) one other
    by_due true is =
        let here : (b : Bool) → moved_behind p one b (opened_for (part_with (opened_to_add part.lane.store one) part) (opened_to_add part.lane.store one).due)
        ≡ record { part = part_with (opened_to_add part.lane.store one) part; lines = []; choices = 1 } =
        (λ b. ap (λ (d : Bool). moved_behind p one b (opened_for (part_with (opened_to_add part.lane.store one) part) d)) is) in
        record {
          choices = one ∷ [];
          count = sym (ap (λ (m : Moved). m.choices) (here false));
          same = here false ∙ sym (here other);
        }
    by_due false is =
        let taken : Taken (λ b. piece p (part_with (opened_to_add part.lane.store one) part) b) other =
        choice_taken p (part_with (opened_to_add part.lane.store one) part) other in
        let here : (b : Bool) → moved_behind p one b (opened_for (part_with (opened_to_add part.lane.store one) part) (opened_to_add part.lane.store one).due)
        ≡ more_chosen (piece p (part_with (opened_to_add part.lane.store one) part) b) =
        (λ b. ap (λ (d : Bool). moved_behind p one b (opened_for (part_with (opened_to_add part.lane.store one) part) d)) is) in
        record {
          choices = one ∷ taken.choices;
          count = more (length taken.choices) _ taken.count ∙ sym (ap (λ (m : Moved). m.choices) (here (choice_in taken.choices 0)));
          same = here (choice_in taken.choices 0) ∙ ap more_chosen taken.same ∙ sym (here other);
        }

    by_cut : (cut : Bool) → BothTaken (λ a b. moved_behind p a b (opens_by p part a cut)) one other
    by_cut true = neither_taken (lost_with p part []) one other refl
    by_cut false = by_due (opened_to_add part.lane.store one).due refl

    by_delivery : (d : Bool) → BothTaken (λ a b. moved_behind p a b (goes_through p part d)) one other
    by_delivery true = neither_taken (delivers p part) one other (none_delivered p part part.lane.store.list)
    by_delivery false = goes

    by_store : (commits : Option ℕ) → BothTaken (λ a b. moved_behind p a b (stored_by p part a commits)) one other
    by_store None = by_cut (names_commit p.planned.terminal_tear 0)
    by_store (Some made) = by_delivery part.lane.store.due

    by_holder : (o : Option Holder) → BothTaken (λ a b. moved_behind p a b (free_by p part a o)) one other
    by_holder None = by_store part.lane.store.commits
    by_holder (Some holder) = neither_taken (still part) one other refl

    by_running : (o : Option (List Reply)) → BothTaken (λ a b. moved_behind p a b (runs_by p part a o)) one other
    by_running None = by_holder part.card.holder
    by_running (Some replies) = goes

    by_durable : (durable : Bool) → BothTaken (λ a b. moved_behind p a b (before_by p part a durable)) one other
    by_durable false = goes
    by_durable true = by_running part.lane.running
