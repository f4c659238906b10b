-- The counters of a card, as a report's power line has them.
use Rattle.std.specs.Prelude.{ℕ, List, map, Option, Some}
use Rattle.std.specs.List.{zip}
use Rattle.std.specs.Option.{option_and}
use Rattle.card_files.specs.Views.{AppData}
use Rattle.card_state.specs.Encoding.{flags_of}
use Rattle.card_state.specs.declared.state.AppState.{AppState}
use Rattle.card_state.specs.declared.state.CardState.{CardState}
use Rattle.report_text.specs.declared.line.Shown.{Shown}

-- the second sum, of an application that counts in a second currency
abbrev pub second_sum : AppData → AppState → Option ℕ
second_sum app s = option_and app.currency_two (Some s.sum_two)

-- an application's counters
unfoldable pub shown_state : AppData → AppState → Shown
shown_state app s = record {
  counter = s.counter;
  last_online = s.last_online;
  count = s.count;
  sum = s.sum;
  tries = s.tries;
  flags = flags_of s;
  sum_two = second_sum app s;
}

-- those of each application
abbrev pub shown_all : List AppData → CardState → List Shown
shown_all apps state = map (λ pair. shown_state pair.0 pair.1) (zip apps state.apps.items)
