-- One exchange among the accounts and the messages of some account numbers: it is the same with all others and without them.
-- The host answers a message by what it has of that message's own account number.
use Rattle.std.proofs.Common.{◌≡◌, ℕ, zero, suc, ◌+◌, Bool, true, false, cond, List, [], ◌∷◌, ◌++◌, length, replicate, slice_get, Option, Some, None, refl, sym, ap, ◌∙◌, subst}
use Rattle.std.specs.Prelude.{filter}
use Rattle.std.proofs.lemmas.List.Elements.{filter-append}
use Rattle.capture_store.specs.StoreRow.{opened_to_add, is_next_cut}
use Rattle.card_app.specs.Answering.{card_answer}
use Rattle.card_app.specs.Cuts.{Cut, cut_of}
use Rattle.card_app.specs.Pages.{found_of}
use Rattle.card_app.specs.PageReplies.{CardAnswer}
use Rattle.card_state.specs.Decisions.{Decided}
use Rattle.emv_ports.specs.Cut.{names_commit}
use Rattle.host_histories.specs.Apart.{is_own_pan, pan_carried, own_messages, own_accounts, StandApart}
use Rattle.host_link.specs.Delivery.{delivered, heard}
use Rattle.issuer_host.specs.Account.{AccountData}
use Rattle.issuer_host.specs.History.{host_reply, balance_after}
use Rattle.issuer_host.specs.declared.keys.HostKeys.{HostKeys}
use Rattle.kernel.specs.Dialogue.{dialogue}
use Rattle.kernel.specs.Ended.{EndData}
use Rattle.kernel.specs.Reply.{Reply, CardSaid, CardGone, from_host, Deed, ToCard, ToHost, Over}
use Rattle.report_text.specs.declared.line.Line.{Line}
use Rattle.report_text.specs.declared.line.Line.TheVariants.{EndLost}
use Rattle.txn_replay.specs.Alone.{CarriesPan}
use Rattle.txn_replay.specs.Changes.{exchanged, told_once, row_torn, lost}
use Rattle.txn_replay.specs.Lines.{power_line, power_canned_line, power_torn_line, answer_lines, torn_lines, gone_lines, host_lines, settle_lines}
use Rattle.txn_replay.specs.Part.{Part, Moved, ended_by_record, sending, on_for, cut_ends, lane_answered_by, canned_by, asked_of_card, host_by, asked, purchase_begun, begun_by, begun_with, piece_by, piece}
use Rattle.txn_replay.specs.Payment.{Payment, outset_for, end_at}
use Rattle.txn_replay.specs.Storing.{part_with, copied, copy_lines, dropped_by, delivers_first, opened_for, opens_by, goes_through, stored_by, free_by, runs_by, before_by, moved_behind, lane_piece}
use Rattle.txn_replay.specs.World.{Holder, CardRow, LaneRow, with_sent}

-- what passes passes again
filter_twice : {A : Type 0} (test : A → Bool) (xs : List A) → filter test (filter test xs) ≡ filter test xs
filter_twice test [] = refl
filter_twice {A} test (x ∷ xs) = by (filter_twice test xs) (test x) refl
  where
    by : filter test (filter test xs) ≡ filter test xs → (b : Bool) → test x ≡ b
        → filter test (cond b (x ∷ filter test xs) (filter test xs)) ≡ cond b (x ∷ filter test xs) (filter test xs)
    by later true is = rw is (ap (λ (ys : List A). x ∷ ys) later)
    by later false is = later

-- the first of some elements behind others
pub next_there : {A : Type 0} (xs ys : List A) (x : A) → slice_get (xs ++ x ∷ ys) (length xs) ≡ Some x
next_there [] ys x = refl
next_there (y ∷ zs) ys x = next_there zs ys x

-- a purchase with the accounts of these numbers alone
abbrev pub at_own : (List ℕ → Bool) → Payment → Payment
at_own own p = record p { accounts = own_accounts own p.accounts }

module _ (own : List ℕ → Bool) where
  pub more_own : (ms ns more : List (List ℕ)) → own_messages own ms ≡ own_messages own ns → own_messages own (ms ++ more) ≡ own_messages own (ns ++ more)
  more_own ms ns more same =
      filter-append (λ message. is_own_pan own (pan_carried message)) ms more
      ∙ ap (λ (xs : List (List ℕ)). xs ++ own_messages own more) same
      ∙ sym (filter-append (λ message. is_own_pan own (pan_carried message)) ns more)

  module _ (apart : StandApart) where
    pub reply_own : (keys : HostKeys) (accounts : List AccountData) (ms ns : List (List ℕ)) (message : List ℕ)
        → own_messages own ms ≡ own_messages own ns → CarriesPan own true message
        → host_reply keys (own_accounts own accounts) ms message ≡ host_reply keys accounts ns message
    reply_own keys accounts ms ns message same is =
        sym (apart.replies own keys (own_accounts own accounts) ms message is)
        ∙ ap (λ (some : List AccountData). host_reply keys some (own_messages own ms) message) (filter_twice (λ account. own account.pan) accounts)
        ∙ ap (λ (some : List (List ℕ)). host_reply keys (own_accounts own accounts) some message) same
        ∙ apart.replies own keys accounts ns message is

    pub balance_own : (keys : HostKeys) (accounts : List AccountData) (ms ns : List (List ℕ)) (pan : List ℕ)
        → own_messages own ms ≡ own_messages own ns → own pan ≡ true
        → balance_after keys (own_accounts own accounts) ms pan ≡ balance_after keys accounts ns pan
    balance_own keys accounts ms ns pan same is =
        sym (apart.balances own keys (own_accounts own accounts) ms pan is)
        ∙ ap (λ (some : List AccountData). balance_after keys some (own_messages own ms) pan) (filter_twice (λ account. own account.pan) accounts)
        ∙ ap (λ (some : List (List ℕ)). balance_after keys (own_accounts own accounts) some pan) same
        ∙ apart.balances own keys accounts ns pan is

    -- the same, but for messages that carry other numbers
    pub record Same (m n : Moved) : Type 0 where
      pub lane : m.part.lane ≡ n.part.lane
      pub card : m.part.card ≡ n.part.card
      pub messages : own_messages own m.part.messages ≡ own_messages own n.part.messages
      pub lines : m.lines ≡ n.lines
      pub choices : m.choices ≡ n.choices

    -- each message that the lane has made is one of these numbers'
    abbrev pub Owns : Moved → Type 0
    Owns m = (i : ℕ) (message : List ℕ) → slice_get m.part.lane.sent i ≡ Some message → CarriesPan own true message

    module _ (p : Payment) where
      abbrev few : Payment
      few = at_own own p

      settled_same : (replies : List Reply) (lane : LaneRow) (card : CardRow) (ms ns : List (List ℕ)) (lines : List Line) (e : Option EndData)
          → own_messages own ms ≡ own_messages own ns
          → Same (ended_by_record few replies (record { lane = lane; card = card; messages = ms }) lines e)
          (ended_by_record p replies (record { lane = lane; card = card; messages = ns }) lines e)
      settled_same replies lane card ms ns lines None same = record { lane = refl; card = refl; messages = same; lines = refl; choices = refl }
      settled_same replies lane card ms ns lines (Some end) same = record { lane = refl; card = refl; messages = same; lines = refl; choices = refl }

      settled_sent : (replies : List Reply) (part : Part) (lines : List Line) (e : Option EndData)
          → (ended_by_record p replies part lines e).part.lane.sent ≡ part.lane.sent
      settled_sent replies part lines None = refl
      settled_sent replies part lines (Some end) = refl

      module _ (ms : List (List ℕ)) (part : Part) (same : own_messages own ms ≡ own_messages own part.messages) where
        -- the part with other messages of other numbers
        abbrev other : Part
        other = record part { messages = ms }

        cut_same : (replies : List Reply) (card : CardRow) (lines : List Line) (e : Option EndData)
            → Same (cut_ends few replies other (record other { card = card }) lines e) (cut_ends p replies part (record part { card = card }) lines e)
        cut_same replies card lines None = record { lane = refl; card = refl; messages = same; lines = refl; choices = refl }
        cut_same replies card lines (Some end) = record { lane = refl; card = refl; messages = same; lines = refl; choices = refl }

        answered_same : (replies : List Reply) (command : List ℕ) (said : CardAnswer) (cut : Option Cut)
            → Same (lane_answered_by few replies command other said cut) (lane_answered_by p replies command part said cut)
        answered_same replies command said None =
            settled_same (replies ++ CardSaid said.answer part.lane.log ∷ []) part.lane (exchanged p.card.image part.card command said) ms part.messages
            (answer_lines p.lane command said.answer) (end_at p (replies ++ CardSaid said.answer part.lane.log ∷ [])) same
        answered_same replies command said (Some cut) =
            cut_same (replies ++ CardGone ∷ []) (row_torn part.card p.planned.tear cut) (torn_lines p.lane command) (end_at p (replies ++ CardGone ∷ []))

        canned_same : (replies : List Reply) (command : List ℕ) (o : Option (List ℕ))
            → Same (canned_by few replies command other o) (canned_by p replies command part o)
        canned_same replies command (Some answer) =
            settled_same (replies ++ CardSaid answer part.lane.log ∷ []) part.lane (told_once part.card) ms part.messages
            (answer_lines p.lane command answer) (end_at p (replies ++ CardSaid answer part.lane.log ∷ [])) same
        canned_same replies command None =
            cut_same (replies ++ CardGone ∷ []) part.card (gone_lines p.lane command) (end_at p (replies ++ CardGone ∷ []))

        kind_same : (replies : List Reply) (command : List ℕ) (o : Option (List (List ℕ)))
            → Same (asked_of_card few replies command other o) (asked_of_card p replies command part o)
        kind_same replies command None =
            answered_same replies command (card_answer p.card.image part.card.kept part.card.session command)
            (cut_of p.planned.tear part.card.made (card_answer p.card.image part.card.kept part.card.session command).new)
        kind_same replies command (Some answers) = canned_same replies command (slice_get answers part.card.told)

        host_same : (replies : List Reply) (message : List ℕ) (reply : Option (List ℕ))
            → Same (host_by few replies message other reply) (host_by p replies message part reply)
        host_same replies message reply =
            settled_same (replies ++ from_host reply ∷ []) (with_sent message part.lane) part.card (ms ++ delivered p.planned.link message)
            (part.messages ++ delivered p.planned.link message) (host_lines p.iso p.lane message reply) (end_at p (replies ++ from_host reply ∷ []))
            (more_own ms part.messages (delivered p.planned.link message) same)

        asked_same : (replies : List Reply) (deed : Deed) → Owns (asked p replies part deed) → Same (asked few replies other deed) (asked p replies part deed)
        asked_same replies (ToCard command) owns = kind_same replies command p.card.canned
        asked_same replies (ToHost message) owns =
            subst (λ (reply : Option (List ℕ)). Same (host_by few replies message other reply) (host_by p replies message part heard_it)) (sym heard_same)
            (host_same replies message heard_it)
          where
            heard_it : Option (List ℕ)
            heard_it = heard p.planned.link (host_reply p.issuer p.accounts part.messages message)

            sent_it : (host_by p replies message part heard_it).part.lane.sent ≡ part.lane.sent ++ message ∷ []
            sent_it =
                settled_sent (replies ++ from_host heard_it ∷ []) (sending p message part) (host_lines p.iso p.lane message heard_it)
                (end_at p (replies ++ from_host heard_it ∷ []))

            owned : CarriesPan own true message
            owned =
                owns (length part.lane.sent) message
                (ap (λ (xs : List (List ℕ)). slice_get xs (length part.lane.sent)) sent_it ∙ next_there part.lane.sent [] message)

            heard_same : heard p.planned.link (host_reply p.issuer (own_accounts own p.accounts) ms message) ≡ heard_it
            heard_same = ap (heard p.planned.link) (reply_own p.issuer p.accounts ms part.messages message same owned)
        asked_same replies (Over ending) owns = record { lane = refl; card = refl; messages = same; lines = refl; choices = refl }

        tear_same : (choice cut : Bool) → Same (begun_by few other choice cut) (begun_by p part choice cut)
        tear_same choice true = cut_same (CardGone ∷ []) (lost part.card) (power_torn_line p.lane p.card ∷ []) (end_at p (CardGone ∷ []))
        tear_same choice false =
            let found : List Decided = found_of part.card.kept part.card.pending choice in
            let on : Part = on_for p (Some found) found part in
            let both : Same (ended_by_record few [] (record on { messages = ms }) (power_line p.lane p.card found ∷ []) (end_at p []))
            (ended_by_record p [] on (power_line p.lane p.card found ∷ []) (end_at p [])) =
            settled_same [] on.lane on.card ms part.messages (power_line p.lane p.card found ∷ []) (end_at p []) same in
            record { lane = both.lane; card = both.card; messages = both.messages; lines = both.lines; choices = refl }

        begun_same : (choice : Bool) (o : Option (List (List ℕ))) → Same (begun_with few other choice o) (begun_with p part choice o)
        begun_same choice None = tear_same choice (names_commit p.planned.tear 0)
        begun_same choice (Some answers) =
            let on : Part = on_for p None (found_of part.card.kept part.card.pending false) part in
            settled_same [] on.lane on.card ms part.messages (power_canned_line p.lane p.card ∷ []) (end_at p []) same

        holder_same : (choice : Bool) (o : Option Holder) → Same (purchase_begun few other choice o) (purchase_begun p part choice o)
        holder_same choice None = begun_same choice p.card.canned
        holder_same choice (Some holder) = record { lane = refl; card = refl; messages = same; lines = refl; choices = refl }

        piece_same : (choice : Bool) → Owns (piece p part choice) → Same (piece few other choice) (piece p part choice)
        piece_same choice owns = by_running part.lane.running owns
          where
            by_running : (o : Option (List Reply)) → Owns (piece_by p part choice o) → Same (piece_by few other choice o) (piece_by p part choice o)
            by_running None owned = holder_same choice part.card.holder
            by_running (Some replies) owned = asked_same replies (dialogue (outset_for p) replies).deed owned

        -- what comes before a purchase
        copies_same : (message : List ℕ) → CarriesPan own true message → (n : ℕ) → copy_lines few message ms n ≡ copy_lines p message part.messages n
        copies_same message owned zero = refl
        copies_same message owned (suc n) =
            ap (λ (xs : List Line). xs ++ settle_lines p.iso p.lane message (host_reply p.issuer (own_accounts own p.accounts) (ms ++ replicate n message) message))
            (copies_same message owned n)
            ∙ ap (λ (reply : List ℕ). copy_lines p message part.messages n ++ settle_lines p.iso p.lane message reply)
            (reply_own p.issuer p.accounts (ms ++ replicate n message) (part.messages ++ replicate n message) message
            (more_own ms part.messages (replicate n message) same) owned)

        sends_same : (message : List ℕ) (n : ℕ)
            → ((i : ℕ) (one : List ℕ) → slice_get (part.lane.sent ++ replicate n message) i ≡ Some one → CarriesPan own true one)
            → copy_lines few message ms n ≡ copy_lines p message part.messages n
        sends_same message zero owns = refl
        sends_same message (suc n) owns =
            copies_same message (owns (length part.lane.sent) message (next_there part.lane.sent (replicate n message) message)) (suc n)

        dropped_same : (message : List ℕ) (cut : Bool) → Owns (dropped_by p (copied p message part) (copy_lines p message part.messages p.copies) cut)
            → Same (dropped_by few (copied few message other) (copy_lines few message ms p.copies) cut)
            (dropped_by p (copied p message part) (copy_lines p message part.messages p.copies) cut)
        dropped_same message true owns = record {
          lane = refl;
          card = refl;
          messages = more_own ms part.messages (replicate p.copies message) same;
          lines = ap (λ (xs : List Line). xs ++ EndLost p.lane (length part.lane.ended + 1) ∷ []) (sends_same message p.copies owns);
          choices = refl;
        }
        dropped_same message false owns = record {
          lane = refl;
          card = refl;
          messages = more_own ms part.messages (replicate p.copies message) same;
          lines = sends_same message p.copies owns;
          choices = refl;
        }

        delivered_same : (list : List (List ℕ)) → Owns (delivers_first p part list) → Same (delivers_first few other list) (delivers_first p part list)
        delivered_same [] owns = record { lane = refl; card = refl; messages = same; lines = refl; choices = refl }
        delivered_same (message ∷ others) owns = dropped_same message (is_next_cut p.planned.terminal_tear part.lane.store) owns

      -- an exchange of the lane with its store
      pub lane_same : (ms : List (List ℕ)) (part : Part) → own_messages own ms ≡ own_messages own part.messages → (first second : Bool)
          → Owns (lane_piece p part first second) → Same (lane_piece few (record part { messages = ms }) first second) (lane_piece p part first second)
      lane_same ms part same first second owns = by_durable p.durable owns
        where
          by_due : (due : Bool) → Owns (moved_behind p first second (goes_through p part due))
              → Same (moved_behind few first second (goes_through few (record part { messages = ms }) due)) (moved_behind p first second (goes_through p part due))
          by_due true owned = delivered_same ms part same part.lane.store.list owned
          by_due false owned = piece_same ms part same first owned

          by_full : (full : Bool) → Owns (moved_behind p first second (opened_for (part_with (opened_to_add part.lane.store first) part) full))
              → Same (moved_behind few first second (opened_for (part_with (opened_to_add part.lane.store first) (record part { messages = ms })) full))
              (moved_behind p first second (opened_for (part_with (opened_to_add part.lane.store first) part) full))
          by_full true owned = record { lane = refl; card = refl; messages = same; lines = refl; choices = refl }
          by_full false owned =
              let both = piece_same ms (part_with (opened_to_add part.lane.store first) part) same second owned in
              record { lane = both.lane; card = both.card; messages = both.messages; lines = both.lines; choices = ap (λ n. n + 1) both.choices }

          by_cut : (cut : Bool) → Owns (moved_behind p first second (opens_by p part first cut))
              → Same (moved_behind few first second (opens_by few (record part { messages = ms }) first cut)) (moved_behind p first second (opens_by p part first cut))
          by_cut true owned = record { lane = refl; card = refl; messages = same; lines = refl; choices = refl }
          by_cut false owned = by_full (opened_to_add part.lane.store first).due owned

          by_store : (o : Option ℕ) → Owns (moved_behind p first second (stored_by p part first o))
              → Same (moved_behind few first second (stored_by few (record part { messages = ms }) first o)) (moved_behind p first second (stored_by p part first o))
          by_store None owned = by_cut (names_commit p.planned.terminal_tear 0) owned
          by_store (Some made) owned = by_due part.lane.store.due owned

          by_holder : (o : Option Holder) → Owns (moved_behind p first second (free_by p part first o))
              → Same (moved_behind few first second (free_by few (record part { messages = ms }) first o)) (moved_behind p first second (free_by p part first o))
          by_holder None owned = by_store part.lane.store.commits owned
          by_holder (Some holder) owned = record { lane = refl; card = refl; messages = same; lines = refl; choices = refl }

          by_running : (o : Option (List Reply)) → Owns (moved_behind p first second (runs_by p part first o))
              → Same (moved_behind few first second (runs_by few (record part { messages = ms }) first o)) (moved_behind p first second (runs_by p part first o))
          by_running None owned = by_holder part.card.holder owned
          by_running (Some replies) owned = piece_same ms part same first owned

          by_durable : (durable : Bool) → Owns (moved_behind p first second (before_by p part first durable))
              → Same (moved_behind few first second (before_by few (record part { messages = ms }) first durable)) (moved_behind p first second (before_by p part first durable))
          by_durable false owned = piece_same ms part same first owned
          by_durable true owned = by_running part.lane.running owned
