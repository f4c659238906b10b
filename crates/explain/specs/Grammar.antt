-- What the words of the command line ask for.
use Rattle.std.specs.Prelude.{ℕ, ◌≡◌, nat_le, ◌==◌, Bool, true, ◌&&◌, if◌then◌else◌, List, [], ◌∷◌, length, codes, Option, Some, None, option_map, is_some}
use Rattle.std.specs.List.{flat_map}
use Rattle.std.specs.Str.{bytes_eq}
use Rattle.hex.specs.Hex.{decode_of}
use Rattle.value_words.specs.Codes.{reach_of}
use Rattle.value_words.specs.declared.asking.Reach.{Reach}
use Rattle.value_words.specs.declared.asking.Row.{Row}
use Rattle.exchange_words.specs.Lanes.{kept_if_short}
use Rattle.narrator.specs.declared.terminal.Terminal.{Terminal}
use Rattle.issuer_reasons.specs.declared.account.Account.{Account}
use Rattle.purchase_reasons.specs.declared.limits.CardApp.{CardApp}
use Rattle.purchase_reasons.specs.declared.limits.Limits.{Limits}
use Rattle.value_words.specs.Plain.{binary_number}
use Rattle.narrator.specs.State.{Manner}
use Rattle.report_lines.specs.Bytes.{decoded_hex}
use Rattle.report_lines.specs.Parts.{split_comma, decimal_number}
use Rattle.report_lines.specs.Reading.{lane_in}
use Rattle.explain.specs.declared.options.OptionGiven.{OptionGiven}
use Rattle.explain.specs.declared.options.OptionGiven.TheVariants.{Brief, Ends, Why, Books, Lane, Purchase, OneTerminal, OneApp, OneAccount}
use Rattle.explain.specs.declared.options.NoOptions.{NoOptions}
use Rattle.explain.specs.declared.options.NoOptions.TheVariants.{Words, OutOfMemory}

-- what is made of a value, where there is one
infixl 10 ◌>>=◌
abbrev pub ◌>>=◌ : {A B : Type 0} → Option A → (A → Option B) → Option B
None >>= f = None
(Some x) >>= f = f x

-- bytes in hexadecimal, two digits of either case a byte
abbrev pub bytes_in_hex : List ℕ → Option (List ℕ)
bytes_in_hex text = decoded_hex (decode_of text)

-- the name of an application: 5 to 16 bytes
unfoldable pub app_name_of : List ℕ → Option (List ℕ)
app_name_of text = do
  name ← bytes_in_hex text
  if nat_le 5 (length name) && nat_le (length name) 16 then Some name else None

-- so many bytes, as one number
unfoldable pub sized_number : ℕ → List ℕ → Option ℕ
sized_number count text = do
  bytes ← bytes_in_hex text
  if length bytes == count then Some (binary_number bytes) else None

-- an action code: five bytes
abbrev pub action_code : List ℕ → Option ℕ
action_code text = sized_number 5 text

-- where a terminal of this kind may decide: the kinds of a merchant's are 21 to 26
abbrev pub reach_in : List ℕ → Option Reach
reach_in text = do
  kind ← decimal_number text
  reach_of kind

-- `1` where a longer name that begins so is meant too, else `0`
abbrev pub partial_in : List ℕ → Option Bool
partial_in text = do
  number ← decimal_number text
  if nat_le number 1 then Some (number == 1) else None

-- a kind and three codes
abbrev pub row_by : List ℕ → List ℕ → List ℕ → List ℕ → Option Row
row_by kind denial online other = do
  reach ← reach_in kind
  denied ← action_code denial
  sent ← action_code online
  unsent ← action_code other
  Some (record { reach = reach; denial = denied; online = sent; default = unsent })

-- a kind, and `DENIAL,ONLINE,DEFAULT`
unfoldable pub terminal_row_in : List ℕ → List ℕ → Option Row
terminal_row_in kind text =
    let denial = split_comma text in
    let online = split_comma denial.1 in
    row_by kind denial.0 online.0 online.1

-- the parts of the argument below
abbrev pub terminal_by : List ℕ → List ℕ → List ℕ → List ℕ → List ℕ → Option Terminal
terminal_by lane kind name partial rest = do
  number ← lane_in lane
  bytes ← app_name_of name
  longer ← partial_in partial
  row ← terminal_row_in kind rest
  Some (record { lane = number; name = record { items = bytes }; partial = longer; row = row })

-- what a lane's terminal has for an application: `LANE,KIND,AID,PARTIAL,DENIAL,ONLINE,DEFAULT`
unfoldable pub terminal_of : List ℕ → Option Terminal
terminal_of text =
    let lane = split_comma text in
    let kind = split_comma lane.1 in
    let name = split_comma kind.1 in
    let partial = split_comma name.1 in
    terminal_by lane.0 kind.0 name.0 partial.0 partial.1

-- the place of an application on its card
abbrev pub app_place_in : List ℕ → Option ℕ
app_place_in text = do
  number ← decimal_number text
  if nat_le number 3 then Some number else None

-- a currency: two bytes
abbrev pub currency_in : List ℕ → Option ℕ
currency_in text = sized_number 2 text

-- the second currency, `-` where there is none
abbrev pub second_currency_in : List ℕ → Option (Option ℕ)
second_currency_in text = (if bytes_eq text (codes "-") then Some None else option_map Some (currency_in text))

abbrev pub limits_by_parts : List ℕ → List ℕ → List ℕ → List ℕ → List ℕ → Option Limits
limits_by_parts count sum currency second_sum second_currency = do
  most ← decimal_number count
  most_sum ← decimal_number sum
  own ← currency_in currency
  second_most ← decimal_number second_sum
  second ← second_currency_in second_currency
  Some (record { count = most; sum = most_sum; currency = own; second_sum = second_most; second_currency = second })

-- an application's limits: `COUNT,SUM,CURRENCY,SUM,CURRENCY`, those of the second currency last
unfoldable pub limits_in : List ℕ → Option Limits
limits_in text =
    let count = split_comma text in
    let sum = split_comma count.1 in
    let currency = split_comma sum.1 in
    let second = split_comma currency.1 in
    limits_by_parts count.0 sum.0 currency.0 second.0 second.1

abbrev pub card_app_by : List ℕ → List ℕ → List ℕ → List ℕ → Option CardApp
card_app_by card place name rest = do
  number ← app_place_in place
  bytes ← app_name_of name
  limits ← limits_in rest
  Some (record { card = record { items = kept_if_short 16 card }; place = number; name = record { items = bytes }; limits = limits })

-- what a card has for an application: `CARD,PLACE,AID,COUNT,SUM,CURRENCY,SUM,CURRENCY`
unfoldable pub card_app_of : List ℕ → Option CardApp
card_app_of text =
    let card = split_comma text in
    let place = split_comma card.1 in
    let name = split_comma place.1 in
    card_app_by card.0 place.0 name.0 name.1

-- an account number, as object 5A has it: up to ten bytes
unfoldable pub account_number_of : List ℕ → Option (List ℕ)
account_number_of text = do
  bytes ← bytes_in_hex text
  if nat_le (length bytes) 10 then Some bytes else None

abbrev pub account_by : List ℕ → List ℕ → List ℕ → List ℕ → Option Account
account_by pan balance blocked currency = do
  number ← account_number_of pan
  amount ← decimal_number balance
  is_blocked ← partial_in blocked
  own ← currency_in currency
  Some (record { pan = record { items = number }; balance = amount; blocked = is_blocked; currency = own })

-- what an account has: `PAN,BALANCE,BLOCKED,CURRENCY`
unfoldable pub known_account_of : List ℕ → Option Account
known_account_of text =
    let pan = split_comma text in
    let balance = split_comma pan.1 in
    let blocked = split_comma balance.1 in
    account_by pan.0 balance.0 blocked.0 blocked.1

-- the option of a word that stands alone
unfoldable pub option_alone : List ℕ → Option OptionGiven
option_alone word =
    if bytes_eq word (codes "--brief") then Some Brief
    else if bytes_eq word (codes "--ends") then Some Ends
    else if bytes_eq word (codes "--why") then Some Why
    else if bytes_eq word (codes "--books") then Some Books
    else None

-- the option of a word and its argument
unfoldable pub option_with_argument : List ℕ → List ℕ → Option OptionGiven
option_with_argument word argument =
    if bytes_eq word (codes "--lane") then option_map Lane (lane_in argument)
    else if bytes_eq word (codes "--purchase") then option_map Purchase (decimal_number argument)
    else if bytes_eq word (codes "--terminal") then option_map OneTerminal (terminal_of argument)
    else if bytes_eq word (codes "--card") then option_map OneApp (card_app_of argument)
    else if bytes_eq word (codes "--account") then option_map OneAccount (known_account_of argument)
    else None

-- an option in front of others
abbrev pub option_before : Option OptionGiven → Option (List OptionGiven) → Option (List OptionGiven)
option_before first others = do
  given ← first
  behind ← others
  Some (given ∷ behind)

-- the options that the words give, in their order
unfoldable pub options_given : List (List ℕ) → Option (List OptionGiven)
options_given [] = Some []
options_given (word ∷ []) = option_before (option_alone word) (Some [])
options_given (word ∷ argument ∷ words) =
    if is_some (option_alone word) then option_before (option_alone word) (options_given (argument ∷ words))
    else option_before (option_with_argument word argument) (options_given words)

-- of each option what it gives of one kind
abbrev pub brief_in : OptionGiven → List Bool
brief_in Brief = true ∷ []
brief_in _ = []

abbrev pub ends_in : OptionGiven → List Bool
ends_in Ends = true ∷ []
ends_in _ = []

abbrev pub why_in : OptionGiven → List Bool
why_in Why = true ∷ []
why_in _ = []

abbrev pub books_in : OptionGiven → List Bool
books_in Books = true ∷ []
books_in _ = []

abbrev pub lane_given : OptionGiven → List ℕ
lane_given (Lane number) = number ∷ []
lane_given _ = []

abbrev pub purchase_given : OptionGiven → List ℕ
purchase_given (Purchase number) = number ∷ []
purchase_given _ = []

abbrev pub terminal_given : OptionGiven → List Terminal
terminal_given (OneTerminal terminal) = terminal ∷ []
terminal_given _ = []

abbrev pub app_given : OptionGiven → List CardApp
app_given (OneApp app) = app ∷ []
app_given _ = []

abbrev pub account_given : OptionGiven → List Account
account_given (OneAccount account) = account ∷ []
account_given _ = []

-- the one that is given, or that none is; `None` where more are
abbrev pub at_most_one : {A : Type 0} → List A → Option (Option A)
at_most_one [] = Some None
at_most_one (one ∷ []) = Some (Some one)
at_most_one (one ∷ other ∷ others) = None

-- whether it is given
abbrev pub at_most_once : List Bool → Option Bool
at_most_once given = option_map is_some (at_most_one given)

-- what is asked for, where none but the terminals, the cards and the accounts are more than one
abbrev pub manner_by : List Bool → List Bool → List Bool → List Bool → List ℕ → List ℕ → List Terminal → List CardApp → List Account → Option Manner
manner_by briefs ends whys books lanes purchases terminals apps accounts = do
  brief ← at_most_once briefs
  only_ends ← at_most_once ends
  why ← at_most_once whys
  with_books ← at_most_once books
  lane ← at_most_one lanes
  purchase ← at_most_one purchases
  Some (record { filter = record { brief = brief; why = why; books = with_books; ends = only_ends; lane = lane; purchase = purchase }; terminals = terminals; card_apps = apps; accounts = accounts })

-- what is asked for, in any order: each option but `--terminal`, `--card` and `--account` at most once
abbrev pub manner_of_options : List OptionGiven → Option Manner
manner_of_options given =
    manner_by (flat_map brief_in given) (flat_map ends_in given) (flat_map why_in given) (flat_map books_in given)
    (flat_map lane_given given) (flat_map purchase_given given)
    (flat_map terminal_given given) (flat_map app_given given) (flat_map account_given given)

-- what the words ask for: `[--brief] [--ends] [--why] [--books] [--lane N] [--purchase N] [--terminal T]... [--card T]... [--account T]...`
unfoldable pub manner_of_words : List (List ℕ) → Option Manner
manner_of_words words = do
  given ← options_given words
  manner_of_options given

-- why there are no options: the words are not in the grammar; a want of memory says nothing of them
abbrev pub RefusesWords : NoOptions → Option Manner → Type 0
RefusesWords Words asked = asked ≡ None
RefusesWords OutOfMemory asked = Unit {0}
