-- What is told of a line, behind what the lines before it left.
use Rattle.std.specs.Prelude.{ℕ, ◌≡◌, ◌%◌, Bool, if◌then◌else◌, List, [], ◌++◌, map, slice_get, Option, Some, None, option_map, unwrap_or}
use Rattle.report_lines.specs.Pieces.{Piece, line, text, number, lines_of}
use Rattle.report_lines.specs.Tables.{word_in}
use Rattle.value_words.specs.declared.codes.TheConstants.{REFUSALS}
use Rattle.exchange_words.specs.Answers.{words_of_answer}
use Rattle.exchange_words.specs.Commands.{words_of_command}
use Rattle.exchange_words.specs.Lanes.{without_command}
use Rattle.exchange_words.specs.Torn.{torn_words}
use Rattle.purchase_reasons.specs.Kept.{CardsData}
use Rattle.purchase_reasons.specs.Left.{cards_left}
use Rattle.purchase_reasons.specs.Reasons.{reasons_words}
use Rattle.value_words.specs.Fields.{fields_of}
use Rattle.message_words.specs.Messages.{call_words, reply_words}
use Rattle.message_words.specs.declared.host.Settled.TheVariants.{Nothing}
use Rattle.object_words.specs.Objects.{object_words, plain}
use Rattle.message_words.specs.Cards.{power_words}
use Rattle.report_lines.specs.Bytes.{bytes_told}
use Rattle.report_lines.specs.Reading.{LineData, WhatData, WhoseData, EndingData, EndLineFields, line_in, Lane, Settlement, Audit, Report, Power, PowerTorn, PowerCanned, Sent, Given, Torn, ToHost, FromHost, End, Gone, NoReply, Lost, Done, Object, Refused, Differs, ReadEnded}
use Rattle.ending_words.specs.Endings.{break_words, end_words, hex_number}
use Rattle.narrator.specs.Filters.{is_left_by_filters, shows_all}
use Rattle.narrator.specs.State.{Manner, StateData, state_left_by, audit_place}
use Rattle.narrator.specs.Terminals.{row_for}
use Rattle.narrator.specs.declared.filter.Filter.{Filter}
use Rattle.narrator.specs.declared.past.LanePast.{LanePast}
use Rattle.narrator.specs.declared.terminal.Terminal.{Terminal}
use Rattle.narrator.specs.declared.phrases.TheConstants.{POWER_TORN, POWER_CANNED, CARD_GONE, NO_REPLY, PURCHASE_LOST, TRACE_DIFFERS, OR_MISSING}

-- a line of a lane or of the audit: the card is pulled out or has canned answers as it is powered up, has none left; no
-- reply of the issuer; a purchase that is lost with the terminal's power
abbrev pub phrase_of : WhatData → Option (List ℕ)
phrase_of (PowerTorn card) = Some POWER_TORN.now
phrase_of (PowerCanned card) = Some POWER_CANNED.now
phrase_of Gone = Some CARD_GONE.now
phrase_of NoReply = Some NO_REPLY.now
phrase_of (Lost purchase) = Some PURCHASE_LOST.now
phrase_of _ = None

abbrev pub of_talk : WhatData → Option (List Piece)
of_talk what = option_map (λ phrase. line 1 ++ text phrase) (phrase_of what)

abbrev pub refusal_told : Option (List ℕ) → List Piece
refusal_told None = []
refusal_told (Some word) = line 1 ++ text word

-- the fault of a refused scenario
unfoldable pub refusal_word : ℕ → Option (List ℕ)
refusal_word fault = word_in (map (λ w. (w.0, w.1.now)) REFUSALS) fault

abbrev pub refusal_words : ℕ → List Piece
refusal_words fault = refusal_told (refusal_word (fault % 65536))

-- where a trace is another one
abbrev pub differs_words : ℕ → List Piece
differs_words entry = line 1 ++ text TRACE_DIFFERS.now ++ number entry ++ text OR_MISSING.now

-- a command, an answer, a message to the issuer and its reply, behind what the lane's lines before them left
abbrev pub sent_words : Bool → List Terminal → ℕ → List ℕ → LanePast → List Piece
sent_words brief terminals place bytes past = words_of_command past.talk bytes (row_for terminals place past.selection) brief

-- an answer in words, behind what the lane's lines left
abbrev pub given_words : Bool → List ℕ → LanePast → List Piece
given_words brief bytes past = words_of_answer (without_command past.talk) past.talk.command.items bytes brief

-- a message to the issuer in words, behind what the lane's lines left
abbrev pub to_host_words : Bool → List ℕ → LanePast → List Piece
to_host_words brief bytes past = call_words (fields_of past.talk.cdol1.items past.talk.first.items) bytes brief

-- a reply of the issuer in words
abbrev pub from_host_words : Bool → List ℕ → List Piece
from_host_words brief bytes = reply_words Nothing bytes brief

-- a reply in the settlement
abbrev pub settled_words : Bool → List ℕ → LanePast → List Piece
settled_words brief bytes past = reply_words past.settled bytes brief

-- what is told of a lane, where it is one
abbrev pub at_past : (LanePast → List Piece) → Option LanePast → List Piece
at_past words None = []
at_past words (Some past) = words past

-- the words of the bytes that a line of a lane or of the audit has
abbrev pub bytes_words : Manner → StateData → ℕ → WhatData → List ℕ → List Piece
bytes_words manner state place (Sent text) bytes = at_past (sent_words manner.filter.brief manner.terminals place bytes) (slice_get state.lanes place)
bytes_words manner state place (Given text) bytes = at_past (given_words manner.filter.brief bytes) (slice_get state.lanes place)
bytes_words manner state place (ToHost text) bytes = at_past (to_host_words manner.filter.brief bytes) (slice_get state.lanes place)
bytes_words manner state place (FromHost text) bytes = at_past (λ past. from_host_words manner.filter.brief bytes) (slice_get state.lanes place)
bytes_words manner state place _ bytes = []

-- a text that is no bytes is not told
abbrev pub talk_words : Manner → StateData → ℕ → WhatData → Option (List ℕ) → List Piece
talk_words manner state place what None = []
talk_words manner state place what (Some bytes) = bytes_words manner state place what bytes

abbrev pub settling_words : Bool → Option LanePast → Option (List ℕ) → List Piece
settling_words brief past None = []
settling_words brief past (Some bytes) = at_past (to_host_words brief bytes) past

abbrev pub reply_told : Bool → Option LanePast → Option (List ℕ) → List Piece
reply_told brief past None = []
reply_told brief past (Some bytes) = at_past (settled_words brief bytes) past

-- a line of the settlement
abbrev pub of_settlement : Bool → StateData → ℕ → WhatData → List Piece
of_settlement brief state place (Sent text) = settling_words brief (slice_get state.lanes place) (bytes_told text)
of_settlement brief state place (Given text) = reply_told brief (slice_get state.lanes place) (bytes_told text)
of_settlement brief state place _ = []

-- an object that a card gave: its tag is what stands in the last three bytes of the number
abbrev pub object_told : ℕ → Option (List ℕ) → List Piece
object_told tag None = []
object_told tag (Some bytes) = object_words (plain 1) (tag % 0x1000000) bytes

abbrev pub of_object : Option ℕ → Option (List ℕ) → List Piece
of_object None value = []
of_object (Some tag) value = object_told tag value

-- a line of no lane and no card
abbrev pub report_words : Bool → WhatData → List Piece
report_words brief (Object tag value) = (if brief then [] else of_object (hex_number tag) (bytes_told value))
report_words brief (ReadEnded ending) = break_words ending
report_words brief (Refused fault) = refusal_words fault
report_words brief (Differs entry) = differs_words entry
report_words brief _ = []

-- a lane's last command was left without an answer
abbrev pub torn_at : Option LanePast → List Piece
torn_at past = at_past (λ it. torn_words it.talk.command.items) past

-- a lane's purchase ended
abbrev pub lane_end_words : Option LanePast → EndingData → EndLineFields → Bool → List Piece
lane_end_words past ending fields brief = at_past (λ it. end_words it.talk ending fields brief) past

-- what is known of the cards: beside the report, and by its lines
abbrev pub cards_known : Manner → StateData → CardsData
cards_known manner state = record { apps = manner.card_apps; changed = state.changed; seen = state.cards }

-- why a lane's purchase came out so
abbrev pub reasons_at : Manner → StateData → Option LanePast → List Piece
reasons_at manner state past = at_past (λ it. reasons_words it.followed it.talk (cards_known manner state)) past

-- and that, where it is asked for
abbrev pub why_at : Manner → StateData → Option LanePast → List Piece
why_at manner state past = (if manner.filter.why then reasons_at manner state past else [])

-- a line of a lane or of the audit
abbrev pub at_lane : Manner → StateData → ℕ → WhatData → List Piece
at_lane manner state place (Power card apps) = power_words state.cards card apps
at_lane manner state place (Sent text) = talk_words manner state place (Sent text) (bytes_told text)
at_lane manner state place (Given text) = talk_words manner state place (Given text) (bytes_told text)
at_lane manner state place (ToHost text) = talk_words manner state place (ToHost text) (bytes_told text)
at_lane manner state place (FromHost text) = talk_words manner state place (FromHost text) (bytes_told text)
at_lane manner state place Torn = torn_at (slice_get state.lanes place)
at_lane manner state place (End number ending fields) =
    lane_end_words (slice_get state.lanes place) ending fields manner.filter.brief ++ why_at manner state (slice_get state.lanes place)
at_lane manner state place what = unwrap_or (of_talk what) []

-- what is left of the cards' limits, where it is asked for
abbrev pub limits_at_end : Manner → StateData → List Piece
limits_at_end manner state = (if manner.filter.why then cards_left (cards_known manner state) else [])

-- a line of no lane and no card: behind the last one what is left of the cards' limits
abbrev pub of_report : Manner → StateData → WhatData → List Piece
of_report manner state Done = limits_at_end manner state
of_report manner state what = report_words manner.filter.brief what

abbrev pub by_whose : Manner → StateData → WhoseData → WhatData → List Piece
by_whose manner state (Lane lane) what = at_lane manner state lane what
by_whose manner state (Audit card) what = at_lane manner state audit_place what
by_whose manner state (Settlement lane) what = of_settlement manner.filter.brief state lane what
by_whose manner state Report what = of_report manner state what

-- what is told of a line behind this state, in this manner
abbrev pub line_said : Manner → StateData → LineData → List Piece
line_said manner state line = by_whose manner state line.whose line.what

-- the number of the last purchase of a line's lane that ended before it; 0 where none has
abbrev pub last_end_of : Option LanePast → ℕ
last_end_of None = 0
last_end_of (Some past) = past.last_end

abbrev pub last_end : StateData → WhoseData → ℕ
last_end state (Lane lane) = last_end_of (slice_get state.lanes lane)
last_end state _ = 0

-- whether a line is left by the filter
abbrev pub is_left : Filter → StateData → LineData → Bool
is_left filter state line = is_left_by_filters filter line (last_end state line.whose)

-- the words of a text and what it leaves: of a line of a report these; a text that is no line has no words, and leaves what
-- was, and is left where all is
abbrev pub words_by : Manner → StateData → Option LineData → List Piece
words_by manner state None = []
words_by manner state (Some line) = line_said manner state line

abbrev pub state_by : Manner → StateData → Option LineData → StateData
state_by manner state None = state
state_by manner state (Some line) = state_left_by manner line state

abbrev pub left_where : Filter → StateData → Option LineData → Bool
left_where filter state None = shows_all filter
left_where filter state (Some line) = is_left filter state line

-- one line of a report: behind this state and in this manner it has these words, and leaves this state
unfoldable pub Narrates : Manner → List ℕ → StateData → List ℕ → StateData → Type 0
Narrates manner text old words new = (words ≡ lines_of manner.filter.books (words_by manner old (line_in text))) × (new ≡ state_by manner old (line_in text))

-- whether it is left by the filter
unfoldable pub is_text_left : Filter → StateData → List ℕ → Bool
is_text_left filter state text = left_where filter state (line_in text)
