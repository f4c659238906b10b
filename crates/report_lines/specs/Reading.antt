-- The line of a report that a text is.
use Rattle.std.specs.Prelude.{ℕ, ◌==◌, Bool, ◌&&◌, ◌||◌, not, nat_lt, nat_le, if◌then◌else◌, List, [], length, drop, take, slice_index, codes, Option, Some, None, option_map, option_and_then}
use Rattle.std.specs.Str.{bytes_eq}
use Rattle.report_lines.specs.Parts.{split_word, decimal_number}
use Rattle.report_lines.specs.declared.ending.Ending.{Ending}
use Rattle.report_lines.specs.declared.ending.Ending.TheVariants as of_ending
use Rattle.report_lines.specs.declared.ending.EndFields.{EndFields}
use Rattle.report_lines.specs.declared.line.Whose.{Whose}
use Rattle.report_lines.specs.declared.line.Whose.TheVariants as of_whose
use Rattle.report_lines.specs.declared.line.What.{What}
use Rattle.report_lines.specs.declared.line.What.TheVariants as of_what
use Rattle.report_lines.specs.declared.line.ReportLine.{ReportLine}

-- how a payment ended
pub data EndingData : Type 0 where
  Approved Declined : EndingData
  Terminated : List ℕ → List ℕ → List ℕ → EndingData
  Cut : List ℕ → EndingData

-- an ending as contracts see it
abbrev pub seen_ending : Ending → EndingData
seen_ending of_ending.Approved = Approved
seen_ending of_ending.Declined = Declined
seen_ending (of_ending.Terminated step cause detail) = Terminated step.now cause.now detail.now
seen_ending (of_ending.Cut step) = Cut step.now

-- the fields of an end line
pub record EndLineFields : Type 0 where
  pub tvr : List ℕ
  pub tsi : List ℕ
  pub cvm : List ℕ
  pub arc : List ℕ
  pub scripts : List ℕ

-- the fields of an end line, as contracts see them
abbrev pub seen_fields : EndFields → EndLineFields
seen_fields f = record { tvr = f.tvr.now; tsi = f.tsi.now; cvm = f.cvm.now; arc = f.arc.now; scripts = f.scripts.now }

-- whose a line is
pub data WhoseData : Type 0 where
  Lane Settlement : ℕ → WhoseData
  Audit : List ℕ → WhoseData
  Report : WhoseData

abbrev pub seen_whose : Whose → WhoseData
seen_whose (of_whose.Lane lane) = Lane lane
seen_whose (of_whose.Settlement lane) = Settlement lane
seen_whose (of_whose.Audit card) = Audit card.now
seen_whose of_whose.Report = Report

-- what a line tells
pub data WhatData : Type 0 where
  Power : List ℕ → List ℕ → WhatData
  PowerTorn PowerCanned Sent Given ToHost FromHost : List ℕ → WhatData
  Torn Gone NoReply Balance Done : WhatData
  End : ℕ → EndingData → EndLineFields → WhatData
  Lost Refused Differs : ℕ → WhatData
  Object : List ℕ → List ℕ → WhatData
  ReadEnded : EndingData → WhatData

abbrev pub seen_what : What → WhatData
seen_what (of_what.Power card apps) = Power card.now apps.now
seen_what (of_what.PowerTorn card) = PowerTorn card.now
seen_what (of_what.PowerCanned card) = PowerCanned card.now
seen_what (of_what.Sent bytes) = Sent bytes.now
seen_what (of_what.Given bytes) = Given bytes.now
seen_what of_what.Torn = Torn
seen_what of_what.Gone = Gone
seen_what (of_what.ToHost bytes) = ToHost bytes.now
seen_what (of_what.FromHost bytes) = FromHost bytes.now
seen_what of_what.NoReply = NoReply
seen_what (of_what.End number ending fields) = End number (seen_ending ending) (seen_fields fields)
seen_what (of_what.Lost number) = Lost number
seen_what (of_what.Object tag value) = Object tag.now value.now
seen_what (of_what.ReadEnded ending) = ReadEnded (seen_ending ending)
seen_what (of_what.Refused number) = Refused number
seen_what (of_what.Differs number) = Differs number
seen_what of_what.Balance = Balance
seen_what of_what.Done = Done

pub record LineData : Type 0 where
  pub whose : WhoseData
  pub what : WhatData

-- a line as contracts see it
abbrev pub seen_line : ReportLine → LineData
seen_line line = record { whose = seen_whose line.whose; what = seen_what line.what }

-- the word of a text is this one
abbrev pub is_word : List ℕ → List ℕ → Bool
is_word word characters = bytes_eq word characters

-- what stands behind a text that begins so
abbrev pub text_behind : List ℕ → List ℕ → Option (List ℕ)
text_behind front text = (if bytes_eq (take (length front) text) front then Some (drop (length front) text) else None)

-- a cause without a word of its own behind it
abbrev pub stands_alone : List ℕ → Bool
stands_alone cause =
    is_word cause (codes "no-candidate") || is_word cause (codes "card-blocked") || is_word cause (codes "answer") || is_word cause (codes "too-much")

-- an ending and what stands behind it: STEP CAUSE, and where the cause has one DETAIL
abbrev pub terminated_in : List ℕ → EndingData × List ℕ
terminated_in text =
    let step = split_word text in
    let cause = split_word step.1 in
    let detail = split_word cause.1 in
    if stands_alone cause.0 then (Terminated step.0 cause.0 [], cause.1) else (Terminated step.0 cause.0 detail.0, detail.1)

-- `approved ROUTE`, `declined ROUTE`, `cut STEP` or `terminated STEP CAUSE DETAIL`
unfoldable pub ending_in : List ℕ → Option (EndingData × List ℕ)
ending_in text =
    let word = split_word text in
    let next = split_word word.1 in
    if is_word word.0 (codes "approved") then Some (Approved, next.1)
    else if is_word word.0 (codes "declined") then Some (Declined, next.1)
    else if is_word word.0 (codes "cut") then Some (Cut next.0, next.1)
    else if is_word word.0 (codes "terminated") then Some (terminated_in word.1)
    else None

-- the value of a field that is named so, and what stands behind it
abbrev pub field_in : List ℕ → List ℕ → Option (List ℕ × List ℕ)
field_in name text = let word = split_word text in option_map (λ value. (value, word.1)) (text_behind name word.0)

-- `tvr=.. tsi=.. cvm=.. arc=.. atc=.. ac=.. scripts=..`
unfoldable pub fields_in : List ℕ → Option EndLineFields
fields_in text =
    option_and_then (λ tvr.
    option_and_then (λ tsi.
    option_and_then (λ cvm.
    option_and_then (λ arc.
    option_and_then (λ atc.
    option_and_then (λ ac.
    option_map (λ scripts. record { tvr = tvr.0; tsi = tsi.0; cvm = cvm.0; arc = arc.0; scripts = scripts.0 })
    (field_in (codes "scripts=") ac.1))
    (field_in (codes "ac=") atc.1))
    (field_in (codes "atc=") arc.1))
    (field_in (codes "arc=") cvm.1))
    (field_in (codes "cvm=") tsi.1))
    (field_in (codes "tsi=") tvr.1))
    (field_in (codes "tvr=") text)

-- the number of one of 16 lanes
abbrev pub lane_in : List ℕ → Option ℕ
lane_in text = option_and_then (λ number. if nat_lt number 16 then Some number else None) (decimal_number text)

-- a text that begins with this mark and a blank
abbrev pub is_marked : ℕ → List ℕ → Bool
is_marked mark text = nat_le 2 (length text) && (slice_index text 0 == mark && slice_index text 1 == 32)

-- what was sent behind `> `, or given behind `< `
abbrev pub exchange_in : List ℕ → Option WhatData
exchange_in text =
    if is_marked 62 text then Some (Sent (drop 2 text))
    else if is_marked 60 text then Some (Given (drop 2 text))
    else None

-- the state of a card of this name
abbrev pub power_in : List ℕ → List ℕ → Option WhatData
power_in card state =
    if not (not (length card == 0) && nat_le (length card) 16) then None
    else if is_word state (codes "torn") then Some (PowerTorn card)
    else if is_word state (codes "canned") then Some (PowerCanned card)
    else Some (Power card state)

abbrev pub card_line_in : List ℕ → Option WhatData
card_line_in text =
    if is_word text (codes "< torn") then Some Torn
    else if is_word text (codes "< gone") then Some Gone
    else exchange_in text

abbrev pub host_in : List ℕ → Option WhatData
host_in text =
    if is_word text (codes "< none") then Some NoReply
    else if is_marked 62 text then Some (ToHost (drop 2 text))
    else if is_marked 60 text then Some (FromHost (drop 2 text))
    else None

abbrev pub ended_in : ℕ → List ℕ → Option WhatData
ended_in number text =
    if is_word text (codes "lost") then Some (Lost number)
    else option_and_then (λ ended. option_map (λ fields. End number ended.0 fields) (fields_in ended.1)) (ending_in text)

abbrev pub end_line_in : List ℕ → Option WhatData
end_line_in text = let word = split_word text in option_and_then (λ number. ended_in number word.1) (decimal_number word.0)

abbrev pub of_lane : List ℕ → Option WhatData
of_lane text =
    let word = split_word text in
    let next = split_word word.1 in
    if is_word word.0 (codes "power") then power_in next.0 next.1
    else if is_word word.0 (codes "host") then host_in word.1
    else if is_word word.0 (codes "end") then end_line_in word.1
    else card_line_in text

-- a line of the audit: the state of the card of this name, or what was sent to it or given
abbrev pub of_audit : List ℕ → List ℕ → Option WhatData
of_audit card text = let word = split_word text in if is_word word.0 (codes "power") then power_in card word.1 else exchange_in text

abbrev pub check_in : List ℕ → Option WhatData
check_in text = let word = split_word text in if is_word word.0 (codes "differs") then option_map Differs (decimal_number word.1) else None

abbrev pub report_line_in : List ℕ → List ℕ → Option WhatData
report_line_in word rest =
    let next = split_word rest in
    if is_word word (codes "object") then Some (Object next.0 next.1)
    else if is_word word (codes "read") then option_map (λ ended. ReadEnded ended.0) (ending_in rest)
    else if is_word word (codes "refused") then option_map Refused (decimal_number next.0)
    else if is_word word (codes "check") then check_in rest
    else if is_word word (codes "balance") then Some Balance
    else if is_word word (codes "done") then Some Done
    else None

abbrev pub with_whose : WhoseData → Option WhatData → Option LineData
with_whose whose what = option_map (λ told. record { whose = whose; what = told }) what

-- a line of the audit: `NAME power ..`, or what was sent or given
abbrev pub audit_in : List ℕ → Option LineData
audit_in text = let card = split_word text in with_whose (Audit card.0) (of_audit card.0 card.1)

-- the line that a text is, where it is one: `L0 ..`, `S0 ..`, `A NAME ..`, or a line of the report
unfoldable pub line_in : List ℕ → Option LineData
line_in text =
    let word = split_word text in
    if slice_index word.0 0 == 76 && nat_lt 1 (length word.0)
    then option_and_then (λ lane. with_whose (Lane lane) (of_lane word.1)) (lane_in (drop 1 word.0))
    else if slice_index word.0 0 == 83 && nat_lt 1 (length word.0)
    then option_and_then (λ lane. with_whose (Settlement lane) (exchange_in word.1)) (lane_in (drop 1 word.0))
    else if is_word word.0 (codes "A") then audit_in word.1
    else with_whose Report (report_line_in word.0 word.1)
