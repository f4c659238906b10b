-- A loss of power is counted exactly where the lines of an exchange tell one.
-- The law `LossesAreTold` of one event; `CardLosses` counts over all of them.
use Rattle.std.proofs.Common.{◌≡◌, ℕ, zero, suc, ◌+◌, ◌<◌, Bool, true, false, List, [], ◌∷◌, ◌++◌, length, replicate, cond, slice_get, Option, Some, None, refl, sym, ap, ◌∙◌, arith}
use Rattle.std.specs.List.{count_by}
use Rattle.std.proofs.lemmas.List.{get_or-set_same}
use Rattle.std.proofs.lemmas.List.Sums.{sum_by-append}
use Rattle.std.proofs.lemmas.Option.{slice_get_within}
use Rattle.capture_store.specs.StoreRow.{opened_to_add, is_next_cut}
use Rattle.card_app.specs.Answering.{card_answer}
use Rattle.card_app.specs.Cuts.{Cut, cut_of}
use Rattle.card_app.specs.Pages.{found_of}
use Rattle.card_app.specs.PageReplies.{CardAnswer}
use Rattle.emv_ports.specs.Cut.{names_commit}
use Rattle.host_link.specs.Delivery.{delivered, heard}
use Rattle.issuer_host.specs.History.{host_reply}
use Rattle.kernel.specs.Dialogue.{dialogue}
use Rattle.kernel.specs.Ended.{EndData}
use Rattle.kernel.specs.Reply.{Reply, CardSaid, CardGone, from_host, Deed, ToCard, ToHost, Over}
use Rattle.report_text.specs.declared.line.Line.{Line}
use Rattle.report_text.specs.declared.line.Line.TheVariants.{EndLost}
use Rattle.txn_replay.specs.Changes.{powered, exchanged, told_once, row_torn, lost}
use Rattle.txn_replay.specs.Laws.{is_torn, LossesAreTold}
use Rattle.txn_replay.specs.Lines.{power_line, power_canned_line, power_torn_line, answer_lines, torn_lines, gone_lines, host_lines, settle_lines, outcome_line}
use Rattle.txn_replay.specs.Part.{Part, Moved, still, loses, ended_by_record, cut_ends, lane_answered_by, canned_by, asked_of_card, asked, purchase_begun, begun_by, begun_with, piece_by, piece}
use Rattle.txn_replay.specs.Payment.{Payment, outset_for, end_at}
use Rattle.txn_replay.specs.Steps.{After, part_of, lane_moved, choice_in, turned_by, happens}
use Rattle.txn_replay.specs.Storing.{part_with, copied, copy_lines, dropped_by, delivers_first, lane_piece}
use Rattle.txn_replay.specs.World.{Holder, CardRow, LaneRow, new_card, card_at, with_sent}
use Rattle.txn_replay.specs.declared.event.Event.TheVariants.{Turn}
use Rattle.txn_replay.proofs.ExchangeLaws.PurchaseFacts.{payment_facts}
use Rattle.txn_replay.proofs.ExchangeLaws.SixWays.{lane_ways}

abbrev count : List Line → ℕ
count lines = count_by is_torn lines

-- the losses of a card, and those that the lines tell
abbrev Told : Part → Moved → Type 0
Told part m = m.part.card.losses ≡ part.card.losses + count m.lines

none_at_end : (lost : Bool) (lane number : ℕ) (end : EndData) → count (outcome_line lost lane number end ∷ []) ≡ 0
none_at_end true lane number end = refl
none_at_end false lane number end = refl

with_end : (lines : List Line) (lost : Bool) (lane number : ℕ) (end : EndData) → count (lines ++ outcome_line lost lane number end ∷ []) ≡ count lines
with_end lines lost lane number end =
    let both : count (lines ++ outcome_line lost lane number end ∷ []) ≡ count lines + count (outcome_line lost lane number end ∷ []) =
    sum_by-append (λ (x : Line). cond (is_torn x) 1 0) lines (outcome_line lost lane number end ∷ []) in
    let none : count (outcome_line lost lane number end ∷ []) ≡ 0 = none_at_end lost lane number end in
    omega arith

settled_told : (p : Payment) (part : Part) (replies : List Reply) (lane : LaneRow) (card : CardRow) (messages : List (List ℕ)) (lines : List Line)
    (e : Option EndData) → card.losses ≡ part.card.losses → count lines ≡ 0
    → Told part (ended_by_record p replies (record { lane = lane; card = card; messages = messages }) lines e)
settled_told p part replies lane card messages lines None same none = omega (arith, same, none)
settled_told p part replies lane card messages lines (Some end) same none =
    let ended : count (lines ++ outcome_line (loses p lane.store end.capture) p.lane (length lane.ended + 1) end ∷ []) ≡ count lines =
    with_end lines (loses p lane.store end.capture) p.lane (length lane.ended + 1) end in
    omega (arith, same, none, ended)

cut_told : (p : Payment) (part : Part) (replies : List Reply) (card : CardRow) (lines : List Line) (n : ℕ) (e : Option EndData)
    → card.losses ≡ part.card.losses + n → count lines ≡ n → Told part (cut_ends p replies part (record part { card = card }) lines e)
cut_told p part replies card lines n None same told = let none : count [] ≡ 0 = refl in omega (arith, none)
cut_told p part replies card lines n (Some end) same told =
    let ended : count (lines ++ outcome_line (loses p part.lane.store end.capture) p.lane (length part.lane.ended + 1) end ∷ []) ≡ count lines =
    with_end lines (loses p part.lane.store end.capture) p.lane (length part.lane.ended + 1) end in
    omega (arith, same, told, ended)

answered_told : (p : Payment) (part : Part) (replies : List Reply) (command : List ℕ) (said : CardAnswer) (cut : Option Cut)
    → Told part (lane_answered_by p replies command part said cut)
answered_told p part replies command said None =
    settled_told p part (replies ++ CardSaid said.answer part.lane.log ∷ []) part.lane (exchanged p.card.image part.card command said) part.messages
    (answer_lines p.lane command said.answer) (end_at p (replies ++ CardSaid said.answer part.lane.log ∷ [])) refl refl
answered_told p part replies command said (Some cut) =
    cut_told p part (replies ++ CardGone ∷ []) (row_torn part.card p.planned.tear cut) (torn_lines p.lane command) 1
    (end_at p (replies ++ CardGone ∷ [])) refl refl

canned_told : (p : Payment) (part : Part) (replies : List Reply) (command : List ℕ) (o : Option (List ℕ)) → Told part (canned_by p replies command part o)
canned_told p part replies command (Some answer) =
    settled_told p part (replies ++ CardSaid answer part.lane.log ∷ []) part.lane (told_once part.card) part.messages (answer_lines p.lane command answer)
    (end_at p (replies ++ CardSaid answer part.lane.log ∷ [])) refl refl
canned_told p part replies command None =
    cut_told p part (replies ++ CardGone ∷ []) part.card (gone_lines p.lane command) 0 (end_at p (replies ++ CardGone ∷ [])) (omega arith) refl

kind_told : (p : Payment) (part : Part) (replies : List Reply) (command : List ℕ) (o : Option (List (List ℕ)))
    → Told part (asked_of_card p replies command part o)
kind_told p part replies command None =
    answered_told p part replies command (card_answer p.card.image part.card.kept part.card.session command)
    (cut_of p.planned.tear part.card.made (card_answer p.card.image part.card.kept part.card.session command).new)
kind_told p part replies command (Some answers) = canned_told p part replies command (slice_get answers part.card.told)

host_none : (iso : Bool) (lane : ℕ) (message : List ℕ) (reply : Option (List ℕ)) → count (host_lines iso lane message reply) ≡ 0
host_none iso lane message None = refl
host_none iso lane message (Some reply) = refl

asked_told : (p : Payment) (part : Part) (replies : List Reply) (deed : Deed) → Told part (asked p replies part deed)
asked_told p part replies (ToCard command) = kind_told p part replies command p.card.canned
asked_told p part replies (ToHost message) =
    settled_told p part (replies ++ from_host reply ∷ []) (with_sent message part.lane) part.card (part.messages ++ delivered p.planned.link message)
    (host_lines p.iso p.lane message reply) (end_at p (replies ++ from_host reply ∷ [])) refl (host_none p.iso p.lane message reply)
  where
    reply : Option (List ℕ)
    reply = heard p.planned.link (host_reply p.issuer p.accounts part.messages message)
asked_told p part replies (Over ending) = let none : count [] ≡ 0 = refl in omega (arith, none)

pub piece_told : (p : Payment) (part : Part) (choice : Bool) → Told part (piece p part choice)
piece_told p part choice = by_lane part.lane.running
  where
    by_tear : (cut : Bool) → Told part (begun_by p part choice cut)
    by_tear true = cut_told p part (CardGone ∷ []) (lost part.card) (power_torn_line p.lane p.card ∷ []) 1 (end_at p (CardGone ∷ [])) refl refl
    by_tear false =
        settled_told p part [] (record part.lane { began = Some (found_of part.card.kept part.card.pending choice) })
        (powered part.card (found_of part.card.kept part.card.pending choice) (Some (record { lane = p.lane; number = length part.lane.ended }))) part.messages
        (power_line p.lane p.card (found_of part.card.kept part.card.pending choice) ∷ []) (end_at p []) refl refl

    by_kind : (o : Option (List (List ℕ))) → Told part (begun_with p part choice o)
    by_kind None = by_tear (names_commit p.planned.tear 0)
    by_kind (Some answers) =
        settled_told p part [] (record part.lane { began = None })
        (powered part.card (found_of part.card.kept part.card.pending false) (Some (record { lane = p.lane; number = length part.lane.ended }))) part.messages
        (power_canned_line p.lane p.card ∷ []) (end_at p []) refl refl

    still_told : Told part (still part)
    still_told = let none : count [] ≡ 0 = refl in omega (arith, none)

    by_holder : (o : Option Holder) → Told part (purchase_begun p part choice o)
    by_holder None = by_kind p.card.canned
    by_holder (Some holder) = still_told

    by_lane : (o : Option (List Reply)) → Told part (piece_by p part choice o)
    by_lane None = by_holder part.card.holder
    by_lane (Some replies) = asked_told p part replies (dialogue (outset_for p) replies).deed

none_settled : (iso : Bool) (lane : ℕ) (message reply : List ℕ) → count (settle_lines iso lane message reply) ≡ 0
none_settled iso lane message reply = refl

none_copied : (p : Payment) (message : List ℕ) (messages : List (List ℕ)) (n : ℕ) → count (copy_lines p message messages n) ≡ 0
none_copied p message messages zero = refl
none_copied p message messages (suc n) =
    let reply : List ℕ = host_reply p.issuer p.accounts (messages ++ replicate n message) message in
    let both : count (copy_lines p message messages n ++ settle_lines p.iso p.lane message reply)
    ≡ count (copy_lines p message messages n) + count (settle_lines p.iso p.lane message reply) =
    sum_by-append (λ (x : Line). cond (is_torn x) 1 0) (copy_lines p message messages n) (settle_lines p.iso p.lane message reply) in
    let last : count (settle_lines p.iso p.lane message reply) ≡ 0 = none_settled p.iso p.lane message reply in
    let earlier : count (copy_lines p message messages n) ≡ 0 = none_copied p message messages n in
    omega arith

delivery_told : (p : Payment) (part : Part) (list : List (List ℕ)) → Told part (delivers_first p part list)
delivery_told p part [] = let none : count [] ≡ 0 = refl in omega (arith, none)
delivery_told p part (message ∷ others) = by (is_next_cut p.planned.terminal_tear part.lane.store)
  where
    by : (cut : Bool) → Told part (dropped_by p (copied p message part) (copy_lines p message part.messages p.copies) cut)
    by true =
        let number : ℕ = length part.lane.ended + 1 in
        let both : count (copy_lines p message part.messages p.copies ++ EndLost p.lane number ∷ [])
        ≡ count (copy_lines p message part.messages p.copies) + count (EndLost p.lane number ∷ []) =
        sum_by-append (λ (x : Line). cond (is_torn x) 1 0) (copy_lines p message part.messages p.copies) (EndLost p.lane number ∷ []) in
        let none : count (EndLost p.lane number ∷ []) ≡ 0 = refl in
        omega (arith, both, none, none_copied p message part.messages p.copies)
    by false = omega (arith, none_copied p message part.messages p.copies)

pub lane_told : (p : Payment) (part : Part) (one other : Bool) → Told part (lane_piece p part one other)
lane_told p part one other =
    lane_ways (Told part) p part
    (let none : count [] ≡ 0 = refl in omega (arith, none))
    (λ choice so. piece_told p part choice)
    (λ at off cut. (let none : count (EndLost p.lane (length part.lane.ended + 1) ∷ []) ≡ 0 = refl in omega (arith, none)))
    (λ first at off full. (let none : count [] ≡ 0 = refl in omega (arith, none)))
    (λ first second at off room. piece_told p (part_with (opened_to_add part.lane.store first) part) second)
    (λ at on. delivery_told p part part.lane.store.list)
    one other

pub losses_told : LossesAreTold
losses_told s w l choices p sound is =
    let within : p.planned.card < length w.cards =
    (let card : p.planned.card < length s.cards = slice_get_within s.cards p.planned.card p.card (payment_facts s l _ p is).card in
    let count : length w.cards ≡ length s.cards = sound.card_count in omega arith) in
    let m : Moved = lane_piece p (part_of w l p.planned.card) (choice_in choices 0) (choice_in choices 1) in
    let is_so : happens s w (Turn l) choices ≡ lane_moved w l p.planned.card m = ap (λ (o : Option Payment). turned_by w l choices o) is in
    ap (λ (x : After). (card_at x.world p.planned.card).losses) is_so
    ∙ ap (λ (row : CardRow). row.losses) (get_or-set_same w.cards p.planned.card m.part.card new_card within)
    ∙ lane_told p (part_of w l p.planned.card) (choice_in choices 0) (choice_in choices 1)
    ∙ ap (λ (x : After). (card_at w p.planned.card).losses + count x.lines) (sym is_so)
