-- The lines of a report that a run makes (this project's own).
use Rattle.std.specs.Prelude.{ℕ, Bool, if◌then◌else◌, List, [], ◌∷◌, Option, Some, None, option_map}
use Rattle.card_app.specs.Counters.{shown_all}
use Rattle.card_files.specs.Files.{opening_of}
use Rattle.card_state.specs.Decisions.{Decided}
use Rattle.card_state.specs.Totals.{totals}
use Rattle.host_link.specs.Dialect.{call_in, reply_in}
use Rattle.kernel.specs.Ended.{EndData}
use Rattle.report_text.specs.declared.line.EndParts.{EndParts}
use Rattle.report_text.specs.declared.line.Line.{Line}
use Rattle.report_text.specs.declared.line.Line.TheVariants.{Power, PowerCanned, PowerTorn, ToCard, FromCard, Torn, Gone, ToHost, FromHost, NoReply, End, EndLost, AuditPower, AuditAsk, AuditAnswer, SettleCall, SettleReply}
use Rattle.report_text.specs.declared.line.Shown.{Shown}
use Rattle.scenario_plan.specs.Cards.{CardData}

-- the counters of a card that has taken these decisions
abbrev pub shown_after : CardData → List Decided → List Shown
shown_after card ds = shown_all card.image.apps (totals (opening_of card.image) ds)

-- a power-up that found these decisions
abbrev pub power_line : ℕ → CardData → List Decided → Line
power_line lane card found = Power lane (record { items = card.name }) (record { items = shown_after card found })

abbrev pub power_torn_line : ℕ → CardData → Line
power_torn_line lane card = PowerTorn lane (record { items = card.name })

abbrev pub power_canned_line : ℕ → CardData → Line
power_canned_line lane card = PowerCanned lane (record { items = card.name })

-- a command that is answered, one at which the power is cut, and one for which no canned answer is left
abbrev pub answer_lines : ℕ → List ℕ → List ℕ → List Line
answer_lines lane command answer = ToCard lane (record { items = command }) ∷ FromCard lane (record { items = answer }) ∷ []

abbrev pub torn_lines : ℕ → List ℕ → List Line
torn_lines lane command = ToCard lane (record { items = command }) ∷ Torn lane ∷ []

abbrev pub gone_lines : ℕ → List ℕ → List Line
gone_lines lane command = ToCard lane (record { items = command }) ∷ Gone lane ∷ []

-- what stood on the wire to the host, and what came back, or silence
abbrev pub heard_line : ℕ → Option (List ℕ) → Line
heard_line lane None = NoReply lane
heard_line lane (Some bytes) = FromHost lane (record { items = bytes })

abbrev pub wire_lines : ℕ → List ℕ → Option (List ℕ) → List Line
wire_lines lane call reply = ToHost lane (record { items = call }) ∷ heard_line lane reply ∷ []

-- a message to the host and its reply, both in the lane's dialect, or silence
abbrev pub host_lines : Bool → ℕ → List ℕ → Option (List ℕ) → List Line
host_lines iso lane message reply = wire_lines lane (call_in iso message) (option_map (reply_in iso message) reply)

-- how a purchase ended
abbrev pub end_parts : EndData → EndParts
end_parts end = record {
  ending = end.ending;
  tvr = record { 0 = end.state_so_far.tvr };
  tsi = record { 0 = end.state_so_far.tsi };
  cvm = end.state_so_far.results;
  arc = end.state_so_far.code;
  atc_ac = option_map (λ ac. (ac.counter, ac.cryptogram)) end.state_so_far.last;
  scripts = record { items = end.state_so_far.scripts };
}

-- the lane's purchase of this number, from 1, has ended
abbrev pub end_line : ℕ → ℕ → EndData → Line
end_line lane number end = End lane number (end_parts end)

-- it has ended and was lost, or its outcome is told
abbrev pub outcome_line : Bool → ℕ → ℕ → EndData → Line
outcome_line lost lane number end = (if lost then EndLost lane number else end_line lane number end)

-- a message of a lane's settlement, and its reply
abbrev pub settle_wire_lines : ℕ → List ℕ → List ℕ → List Line
settle_wire_lines lane call reply = SettleCall lane (record { items = call }) ∷ SettleReply lane (record { items = reply }) ∷ []

abbrev pub settle_lines : Bool → ℕ → List ℕ → List ℕ → List Line
settle_lines iso lane message reply = settle_wire_lines lane (call_in iso message) (reply_in iso message reply)

-- the audit
abbrev pub audit_power_line : CardData → List Decided → Line
audit_power_line card found = AuditPower (record { items = card.name }) (record { items = shown_after card found })

abbrev pub audit_lines : CardData → List ℕ → List ℕ → List Line
audit_lines card command answer =
    AuditAsk (record { items = card.name }) (record { items = command }) ∷ AuditAnswer (record { items = card.name }) (record { items = answer }) ∷ []
