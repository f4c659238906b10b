-- The state of a card in words: those of a scenario where it has one (this project's own).
use Rattle.std.specs.Prelude.{ℕ, ◌+◌, Bool, true, false, List, [], ◌∷◌, ◌++◌, length, codes, decimal}
use Rattle.std.specs.List.{flat_map}
use Rattle.card_state.specs.Encoding.{flags_of}
use Rattle.card_state.specs.declared.state.AppState.{AppState}
use Rattle.card_state.specs.declared.state.CardState.{CardState}
use Rattle.card_state.specs.declared.state.LogRow.{LogRow}
use Rattle.report_text.specs.Pieces.{hex_or_dash, newline, two_bytes}

-- a name between blanks, and a number
unfoldable pub field_text : List ℕ → ℕ → List ℕ
field_text name value = name ++ decimal value

-- what is counted
unfoldable pub counters_text : AppState → List ℕ
counters_text s = field_text (codes " counter ") s.counter ++ field_text (codes " last_online ") s.last_online ++ field_text (codes " count ") s.count
    ++ field_text (codes " sum ") s.sum ++ field_text (codes " sum_two ") s.sum_two ++ field_text (codes " tries ") s.tries ++ field_text (codes " flags ") (flags_of s)

abbrev pub truth_text : Bool → List ℕ
truth_text true = codes "true"
truth_text false = codes "false"

-- whether the application is blocked, and whether the card is
unfoldable pub blocked_text : Bool → AppState → List ℕ
blocked_text card_blocked s = codes " blocked " ++ truth_text s.blocked ++ codes " card_blocked " ++ truth_text card_blocked

-- what is approved offline at most
unfoldable pub limits_text : AppState → List ℕ
limits_text s = field_text (codes " count_limit ") s.count_limit ++ field_text (codes " sum_limit ") s.sum_limit ++ field_text (codes " limit_two ") s.limit_two

-- a row of the log, as READ RECORD gives it
unfoldable pub row_text : LogRow → List ℕ
row_text row = codes " row " ++ hex_or_dash row.raw ++ hex_or_dash row.currency ++ hex_or_dash row.date ++ hex_or_dash (two_bytes row.counter) ++ hex_or_dash (row.kind ∷ [])

-- the log: its greatest number of rows, and its rows, the latest first
unfoldable pub log_text : AppState → List ℕ
log_text s = codes " log " ++ decimal s.log_max ++ flat_map row_text s.log.items

-- an application by its number, from 0
unfoldable pub app_text : ℕ → Bool → AppState → List ℕ
app_text number card_blocked s =
    codes "app " ++ decimal number ++ counters_text s ++ blocked_text card_blocked s ++ limits_text s ++ log_text s ++ newline

-- the applications from this number on
unfoldable pub apps_text : ℕ → Bool → List AppState → List ℕ
apps_text number card_blocked [] = []
apps_text number card_blocked (s ∷ states) = app_text number card_blocked s ++ apps_text (number + 1) card_blocked states

-- how many applications there are, and a line for each
unfoldable pub state_text : CardState → List ℕ
state_text state = codes "state " ++ decimal (length state.apps.items) ++ newline ++ apps_text 0 state.blocked state.apps.items
