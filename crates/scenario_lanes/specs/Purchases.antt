-- The tables of a purchase and of its tear.
use Rattle.std.specs.Prelude.{ℕ, ◌+◌, List, [], ◌∷◌, codes, Bool, true, false, is_some, Option, Some, None, Result, Ok, Err, if◌then◌else◌}
use Rattle.std.specs.Int.{to_be_bytes, w32}
use Rattle.std.specs.Str.{bytes_eq}
use Rattle.emv_dict.specs.Settings.{most_amount}
use Rattle.emv_dict.specs.Views.{PurchaseData}
use Rattle.emv_ports.specs.declared.tear.Tear.{Tear}
use Rattle.emv_ports.specs.declared.tear.TearAt.{TearAt}
use Rattle.emv_ports.specs.declared.tear.TearAt.TheVariants.{Before, Within, Release}
use Rattle.toml.specs.Data.{Data, Members, get_member}
use Rattle.scenario_fields.specs.Fault.{◌>>=◌}
use Rattle.scenario_fields.specs.Fields.{number_at, number_or, listed_or, flag_or, str_at, text_at, code_at, six_digits_or, day_at, array_at, optional_table, table_item, digits_list, or_default, each, only}
use Rattle.scenario_fields.specs.TablePaths.{in_purchase, in_tear, in_terminal_tear}
use Rattle.scenario_fields.specs.Value.{str_of}
use Rattle.scenario_fields.specs.declared.place.LaneAt.{LaneAt}
use Rattle.scenario_fields.specs.declared.place.LaneAt.TheVariants.{Numbered, Only}
use Rattle.scenario_fields.specs.declared.fault.ScenarioFault.{ScenarioFault}
use Rattle.scenario_fields.specs.declared.fault.ScenarioFault.TheVariants.{BadValue}
use Rattle.scenario_fields.specs.declared.spot.Characters.TheVariants.{LowercaseOrDigit}
use Rattle.scenario_lanes.specs.declared.plan.Link.{Link}
use Rattle.scenario_lanes.specs.declared.plan.Planned.{Planned}
use Rattle.scenario_lanes.specs.declared.plan.Link.TheVariants.{Sound, RequestLost, ReplyLost, Twice}

-- a cut at the release has no write
abbrev pub without_write : (List ℕ → List ℕ) → Option Data → Result TearAt ScenarioFault
without_write path None = Ok Release
without_write path (Some d) = Err (BadValue (path (codes "write")))

-- the number of the write before or within which the power is cut
abbrev pub write_at : (List ℕ → List ℕ) → Members → Result ℕ ScenarioFault
write_at path ms = number_at path (codes "write") 1 40 ms

-- where in the commit, by the word at `at`
unfoldable pub moment_of : (List ℕ → List ℕ) → List ℕ → Members → Result TearAt ScenarioFault
moment_of path word ms =
    if bytes_eq word (codes "before") then write_at path ms >>= (λ k. Ok (Before k))
    else if bytes_eq word (codes "within") then write_at path ms >>= (λ k. Ok (Within k))
    else if bytes_eq word (codes "release") then without_write path (get_member (codes "write") ms)
    else Err (BadValue (path (codes "at")))

unfoldable pub tear_keys : List (List ℕ)
tear_keys = codes "commit" ∷ codes "at" ∷ codes "write" ∷ []

unfoldable pub tear_of : (List ℕ → List ℕ) → Members → Result Tear ScenarioFault
tear_of path ms = do
  commit ← number_at path (codes "commit") 0 50 ms
  word ← str_at path (codes "at") ms
  moment ← moment_of path word ms
  _ ← only path tear_keys ms
  Ok (record { commit = commit; at = moment })

-- the power of a trace's card and terminal is not cut
abbrev pub tear_in : (List ℕ → List ℕ) → (List ℕ → List ℕ) → List ℕ → LaneAt → Members → Result Tear ScenarioFault
tear_in path inner key (Numbered i) ms = tear_of inner ms
tear_in path inner key Only ms = Err (BadValue (path key))

abbrev pub tear_if : (List ℕ → List ℕ) → (List ℕ → List ℕ) → List ℕ → LaneAt → Option Members → Result (Option Tear) ScenarioFault
tear_if path inner key at None = Ok None
tear_if path inner key at (Some ms) = tear_in path inner key at ms >>= (λ tear. Ok (Some tear))

-- a tear at a key of a purchase; `inner` gives the paths of its own keys
unfoldable pub tear_at : (List ℕ → List ℕ) → (List ℕ → List ℕ) → List ℕ → LaneAt → Members → Result (Option Tear) ScenarioFault
tear_at path inner key at ms = optional_table path key ms >>= tear_if path inner key at

-- what becomes of the message to the host, by its word
unfoldable pub link_named : List ℕ → List ℕ → Result Link ScenarioFault
link_named path word =
    if bytes_eq word (codes "ok") then Ok Sound
    else if bytes_eq word (codes "request_lost") then Ok RequestLost
    else if bytes_eq word (codes "reply_lost") then Ok ReplyLost
    else if bytes_eq word (codes "twice") then Ok Twice
    else Err (BadValue path)

unfoldable pub link_of : List ℕ → Data → Result Link ScenarioFault
link_of path d = str_of path d >>= link_named path

-- a trace's replies came from a host of its own
abbrev pub link_in : LaneAt → List ℕ → Data → Result Link ScenarioFault
link_in (Numbered i) path d = link_of path d
link_in Only path d = Err (BadValue path)

unfoldable pub link_or_sound : LaneAt → (List ℕ → List ℕ) → Members → Result Link ScenarioFault
link_or_sound at path ms = or_default Sound (link_in at (path (codes "link"))) (get_member (codes "link") ms)

-- The index of the first card of this name. A card that isn't there is no fault before the whole document
-- is walked: until then the number of cards stands for it, as 255 does for a number that is no lane.
unfoldable pub card_index : List ℕ → List (List ℕ) → ℕ
card_index name [] = 0
card_index name (n ∷ names) = (if bytes_eq n name then 0 else card_index name names + 1)

-- the index of the card
unfoldable pub card_index_at : (List ℕ → List ℕ) → List (List ℕ) → Members → Result ℕ ScenarioFault
card_index_at path names ms = do
  name ← text_at path (codes "card") LowercaseOrDigit 1 16 ms
  Ok (card_index name names)

-- what the terminal is asked for
unfoldable pub purchase_of : (List ℕ → List ℕ) → Members → Result PurchaseData ScenarioFault
purchase_of path ms = do
  amount ← number_at path (codes "amount") 0 most_amount ms
  other ← number_or 0 path (codes "other") 0 amount ms
  currency ← code_at path (codes "currency") ms
  trade ← listed_or 0 path (codes "trade") (0 ∷ 1 ∷ 9 ∷ []) ms
  services ← flag_or false path (codes "services") ms
  date ← day_at path (codes "date") ms
  time ← six_digits_or (0 ∷ 0 ∷ 0 ∷ []) path (codes "time") ms
  number ← number_at path (codes "number") 0 4294967295 ms
  word ← number_at path (codes "word") 0 4294967295 ms
  pins ← digits_list path (codes "pins") 15 4 12 ms
  forced ← flag_or false path (codes "forced") ms
  confirm ← flag_or true path (codes "confirm") ms
  Ok (record {
    amount = amount;
    other = other;
    currency = currency;
    trade = trade;
    services = services;
    date = date;
    time = time;
    number = to_be_bytes w32 number;
    word = word;
    pins = pins;
    forced = forced;
    confirm = confirm;
  })

unfoldable pub planned_keys : List (List ℕ)
planned_keys =
    codes "card" ∷ codes "amount" ∷ codes "other" ∷ codes "currency" ∷ codes "trade" ∷ codes "services" ∷ codes "date" ∷ codes "time"
    ∷ codes "number" ∷ codes "word" ∷ codes "pins" ∷ codes "forced" ∷ codes "confirm" ∷ codes "link" ∷ codes "tear"
    ∷ codes "terminal_tear" ∷ []

-- purchase `j` of a lane, with the names of the cards
unfoldable pub planned_of : (List ℕ → List ℕ) → LaneAt → ℕ → List (List ℕ) → Members → Result Planned ScenarioFault
planned_of path at j names ms = do
  card ← card_index_at path names ms
  purchase ← purchase_of path ms
  link ← link_or_sound at path ms
  tear ← tear_at path (in_tear at j) (codes "tear") at ms
  terminal_tear ← tear_at path (in_terminal_tear at j) (codes "terminal_tear") at ms
  _ ← only path planned_keys ms
  Ok (record { purchase = purchase; card = card; link = link; tear = tear; terminal_tear = terminal_tear })

unfoldable pub planned_item : (List ℕ → List ℕ) → LaneAt → List (List ℕ) → ℕ → Data → Result Planned ScenarioFault
planned_item path at names j d = table_item path (codes "purchase") j d >>= planned_of (in_purchase at j) at j names

-- `least` to `most` purchases of a lane
unfoldable pub purchases_at : (List ℕ → List ℕ) → LaneAt → ℕ → ℕ → List (List ℕ) → Members → Result (List Planned) ScenarioFault
purchases_at path at least most names ms = do
  items ← array_at path (codes "purchase") least most ms
  each (planned_item path at names) 0 items

-- no purchase of a lane, from number `j` on, has a terminal tear
abbrev pub no_terminal_tears : LaneAt → ℕ → List Planned → Result (Unit {0}) ScenarioFault
no_terminal_tears at j [] = Ok tt
no_terminal_tears at j (p ∷ ps) =
    if is_some p.terminal_tear then Err (BadValue (in_purchase at j (codes "terminal_tear"))) else no_terminal_tears at (j + 1) ps

-- only a terminal that keeps its captures durably has something to lose
abbrev pub tears_tried : LaneAt → Bool → List Planned → Result (Unit {0}) ScenarioFault
tears_tried at true ps = Ok tt
tears_tried at false ps = no_terminal_tears at 0 ps
