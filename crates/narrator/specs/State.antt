-- What the lines of a report leave for those behind them.
use Rattle.std.specs.Prelude.{ℕ, List, [], replicate, slice_get, slice_set, Bool, true, false, Option, Some, None}
use Rattle.exchange_words.specs.Answers.{left_by_answer}
use Rattle.exchange_words.specs.Commands.{left_by_command}
use Rattle.exchange_words.specs.Lanes.{fresh, without_command}
use Rattle.message_words.specs.Messages.{code_in, settled_by}
use Rattle.message_words.specs.declared.host.Settled.TheVariants.{Nothing}
use Rattle.message_words.specs.Cards.{kept_cards}
use Rattle.message_words.specs.declared.cards.CardSeen.{CardSeen}
use Rattle.purchase_reasons.specs.Followed.{nothing_followed, followed_from, with_first_question, with_answer, with_torn}
use Rattle.purchase_reasons.specs.Kept.{kept_limits, charges_behind}
use Rattle.purchase_reasons.specs.Followed.{with_request, with_reply}
use Rattle.issuer_reasons.specs.Issuers.{AccountsData, reply_seen}
use Rattle.issuer_reasons.specs.declared.account.Account.{Account}
use Rattle.issuer_reasons.specs.declared.account.Charge.{Charge}
use Rattle.issuer_reasons.specs.declared.issuer.Reply.{Reply}
use Rattle.purchase_reasons.specs.declared.limits.CardApp.{CardApp}
use Rattle.purchase_reasons.specs.declared.limits.ChangedLimits.{ChangedLimits}
use Rattle.report_lines.specs.Bytes.{bytes_told}
use Rattle.report_lines.specs.Reading.{LineData, WhatData, WhoseData, Lane, Settlement, Audit, Report, Power, PowerTorn, PowerCanned, Sent, Given, Torn, ToHost, FromHost, NoReply, End, Lost}
use Rattle.narrator.specs.Selections.{nothing_selected, selection_asked, selection_answered}
use Rattle.narrator.specs.Terminals.{row_for}
use Rattle.narrator.specs.declared.basis.Basis.{Basis}
use Rattle.narrator.specs.declared.filter.Filter.{Filter}
use Rattle.narrator.specs.declared.narrator.Narrator.{Narrator}
use Rattle.narrator.specs.declared.past.LanePast.{LanePast}
use Rattle.narrator.specs.declared.report_past.ReportPast.{ReportPast}
use Rattle.narrator.specs.declared.terminal.Terminal.{Terminal}

-- how lines are told: which are left and how much of them, and what is known of terminals, cards and accounts beside the
-- report
pub record Manner : Type 0 where
  pub filter : Filter
  pub terminals : List Terminal
  pub card_apps : List CardApp
  pub accounts : List Account

-- the manner in which lines are told by this
abbrev pub manner_from : Basis → Manner
manner_from basis = record { filter = basis.filter; terminals = basis.terminals.items; card_apps = basis.card_apps.items; accounts = basis.accounts.items }

-- the manner of a teller: its filter, and what it knows of terminals, cards and accounts
abbrev pub manner_of : Narrator → Manner
manner_of n = manner_from n.basis

-- what is kept: of 16 lanes and, behind them, of the card of the audit; the cards whose counters were seen; the limits
-- that scripts have set; and what approved requests took from accounts, which may be more than was seen
pub record StateData : Type 0 where
  pub lanes : List LanePast
  pub cards : List CardSeen
  pub changed : List ChangedLimits
  pub charges : List Charge
  pub is_unsure : Bool

-- what the lines before left: of each lane, and of the cards' counters
abbrev pub past_state : ReportPast → StateData
past_state past = record { lanes = past.lanes.items; cards = past.cards.items; changed = past.changed.items; charges = past.charges.items; is_unsure = past.is_unsure }

-- what a teller has kept of them
abbrev pub seen_state : Narrator → StateData
seen_state n = past_state n.past

-- of a lane before its first line
abbrev pub untold : LanePast
untold = record { talk = fresh; selection = nothing_selected; followed = nothing_followed; settled = Nothing; last_end = 0 }

abbrev pub changed_at : (LanePast → LanePast) → List LanePast → ℕ → Option LanePast → List LanePast
changed_at change lanes place None = lanes
changed_at change lanes place (Some past) = slice_set lanes place (change past)

-- the lane of this place is changed so
abbrev pub state_changed : (LanePast → LanePast) → StateData → ℕ → StateData
state_changed change state place = record state { lanes = changed_at change state.lanes place (slice_get state.lanes place) }

-- a purchase of this number has ended
abbrev pub lane_ended_purchase : ℕ → LanePast → LanePast
lane_ended_purchase number past = record past { last_end = number }

-- a card is powered up: nothing is left of the last one
abbrev pub lane_begun : List ℕ → LanePast → LanePast
lane_begun card past = record past { talk = fresh; selection = nothing_selected; followed = followed_from card }

-- the limits that the scripts of a lane's purchase have set are kept
abbrev pub limits_of_lane : List ChangedLimits → Option LanePast → List ChangedLimits
limits_of_lane changed None = changed
limits_of_lane changed (Some past) = kept_limits past.followed past.talk changed

abbrev pub with_limits_kept : StateData → ℕ → StateData
with_limits_kept state place = record state { changed = limits_of_lane state.changed (slice_get state.lanes place) }

-- a purchase of this number has ended: the next one finds the limits that its scripts have set
abbrev pub state_ended : ℕ → StateData → ℕ → StateData
state_ended number state place = with_limits_kept (state_changed (lane_ended_purchase number) state place) place

-- the card was pulled out in a command
abbrev pub lane_torn : LanePast → LanePast
lane_torn past = record past { followed = with_torn past.talk.command.items past.followed }

-- and its counters are kept
abbrev pub state_powered : List ℕ → List ℕ → StateData → ℕ → StateData
state_powered card apps state place = record (state_changed (lane_begun card) state place) { cards = kept_cards state.cards card apps }

-- a command, behind what is known of the application's row at the terminal
abbrev pub lane_asked : List Terminal → ℕ → List ℕ → LanePast → LanePast
lane_asked terminals place bytes past =
    let talk = left_by_command past.talk bytes (row_for terminals place past.selection) in
    record past { talk = talk; selection = selection_asked bytes past.selection; followed = with_first_question talk past.followed }

-- an answer to the last command
abbrev pub lane_answered : List ℕ → LanePast → LanePast
lane_answered bytes past =
    let talk = left_by_answer (without_command past.talk) past.talk.command.items bytes in
    record past {
      talk = talk;
      selection = selection_answered past.talk.command.items bytes past.selection;
      followed = with_answer past.talk.command.items bytes (with_first_question talk past.followed);
    }

-- a reply of the issuer: its response code
abbrev pub lane_replied : List ℕ → LanePast → LanePast
lane_replied bytes past = record past { talk = record past.talk { code = code_in bytes } }

-- a request to the issuer, and its reply with what was known of the account before it
abbrev pub lane_requested : LanePast → LanePast
lane_requested past = record past { followed = with_request past.followed }

-- a reply of the issuer, with what was known of the account before it
abbrev pub lane_with_reply : Option Reply → LanePast → LanePast
lane_with_reply reply past = record past { followed = with_reply reply past.followed }

abbrev pub accounts_known : Manner → StateData → AccountsData
accounts_known manner state = record { accounts = manner.accounts; charges = state.charges; is_unsure = state.is_unsure }

abbrev pub reply_of_lane : Manner → StateData → List ℕ → Option LanePast → Option Reply
reply_of_lane manner state bytes None = None
reply_of_lane manner state bytes (Some past) = reply_seen (accounts_known manner state) past.followed.pan.items past.talk.code bytes

-- what it approved is taken from the account
abbrev pub charges_of_lane : List Charge → Option LanePast → List Charge
charges_of_lane charges None = charges
charges_of_lane charges (Some past) = charges_behind past.followed.reply past.followed past.talk charges

abbrev pub with_charges : StateData → ℕ → StateData
with_charges state place = record state { charges = charges_of_lane state.charges (slice_get state.lanes place) }

abbrev pub state_replied : Manner → List ℕ → StateData → ℕ → StateData
state_replied manner bytes state place =
    with_charges (state_changed (lane_with_reply (reply_of_lane manner state bytes (slice_get state.lanes place))) state place) place

-- an account may have less: a message was lost, or a capture delivered
abbrev pub with_doubt : StateData → StateData
with_doubt state = record state { is_unsure = true }

-- a message of the settlement: which it is
abbrev pub settling : List ℕ → LanePast → LanePast
settling bytes past = record past { settled = settled_by bytes }

-- what the bytes of a command, an answer or a reply leave
abbrev pub left_of_bytes : Manner → WhatData → List ℕ → StateData → ℕ → StateData
left_of_bytes manner (Sent text) bytes state place = state_changed (lane_asked manner.terminals place bytes) state place
left_of_bytes manner (Given text) bytes state place = state_changed (lane_answered bytes) state place
left_of_bytes manner (ToHost text) bytes state place = state_changed lane_requested state place
left_of_bytes manner (FromHost text) bytes state place = state_replied manner bytes (state_changed (lane_replied bytes) state place) place
left_of_bytes manner _ bytes state place = state

-- a text that is no bytes leaves what was
abbrev pub left_of_exchange : Manner → WhatData → Option (List ℕ) → StateData → ℕ → StateData
left_of_exchange manner what None state place = state
left_of_exchange manner what (Some bytes) state place = left_of_bytes manner what bytes state place

-- what a line leaves that tells enough by itself
abbrev pub kept_alone : WhatData → StateData → ℕ → StateData
kept_alone (PowerTorn card) state place = state_changed (lane_begun card) state place
kept_alone (PowerCanned card) state place = state_changed (lane_begun card) state place
kept_alone (Lost number) state place = state_ended number state place
kept_alone NoReply state place = with_doubt state
kept_alone _ state place = state

-- what a line of a lane or of the audit leaves
abbrev pub lane_left_by : Manner → WhatData → StateData → ℕ → StateData
lane_left_by manner (Power card apps) state place = state_powered card apps state place
lane_left_by manner (Sent text) state place = left_of_exchange manner (Sent text) (bytes_told text) state place
lane_left_by manner (Given text) state place = left_of_exchange manner (Given text) (bytes_told text) state place
lane_left_by manner (ToHost text) state place = left_of_exchange manner (ToHost text) (bytes_told text) state place
lane_left_by manner (FromHost text) state place = left_of_exchange manner (FromHost text) (bytes_told text) state place
lane_left_by manner Torn state place = state_changed lane_torn state place
lane_left_by manner (End number ending fields) state place = state_ended number state place
lane_left_by manner what state place = kept_alone what state place

abbrev pub left_by_settling : Option (List ℕ) → StateData → ℕ → StateData
left_by_settling None state place = state
left_by_settling (Some bytes) state place = with_doubt (state_changed (settling bytes) state place)

-- what a line of the settlement leaves
abbrev pub left_by_settlement : WhatData → StateData → ℕ → StateData
left_by_settlement (Sent text) state place = left_by_settling (bytes_told text) state place
left_by_settlement _ state place = state

-- before the first line
abbrev pub start : StateData
start = record { lanes = replicate 17 untold; cards = []; changed = []; charges = []; is_unsure = false }

-- the place of the audit's card, behind the lanes
abbrev pub audit_place : ℕ
audit_place = 16

abbrev pub left_by_whose : Manner → WhoseData → WhatData → StateData → StateData
left_by_whose manner (Lane lane) what state = lane_left_by manner what state lane
left_by_whose manner (Settlement lane) what state = left_by_settlement what state lane
left_by_whose manner (Audit card) what state = lane_left_by manner what state audit_place
left_by_whose manner Report what state = state

-- what a line leaves
abbrev pub state_left_by : Manner → LineData → StateData → StateData
state_left_by manner line state = left_by_whose manner line.whose line.what state
