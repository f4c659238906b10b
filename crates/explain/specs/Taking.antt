-- What the words before leave, and what is made of it by those behind.
use Rattle.std.specs.Prelude.{ℕ, Bool, true, false, if◌then◌else◌, List, [], ◌∷◌, ◌++◌, Option, Some, None, is_some}
use Rattle.std.specs.List.{flat_map}
use Rattle.narrator.specs.State.{Manner}
use Rattle.explain.specs.Grammar.{◌>>=◌, brief_in, ends_in, why_in, books_in, lane_given, purchase_given, terminal_given, app_given, account_given, manner_by, options_given}
use Rattle.explain.specs.declared.options.OptionGiven.{OptionGiven}
use Rattle.explain.specs.declared.options.OptionGiven.TheVariants.{Brief, Ends, Why, Books, Lane, Purchase, OneTerminal, OneApp, OneAccount}

-- what was given stands in front of what is given
abbrev pub flag : Bool → List Bool
flag true = true ∷ []
flag false = []

abbrev pub number_or_none : Option ℕ → List ℕ
number_or_none None = []
number_or_none (Some given) = given ∷ []

abbrev pub asked_behind : Manner → List OptionGiven → Option Manner
asked_behind manner given =
    manner_by (flag manner.filter.brief ++ flat_map brief_in given) (flag manner.filter.ends ++ flat_map ends_in given) (flag manner.filter.why ++ flat_map why_in given)
    (flag manner.filter.books ++ flat_map books_in given)
    (number_or_none manner.filter.lane ++ flat_map lane_given given) (number_or_none manner.filter.purchase ++ flat_map purchase_given given)
    (manner.terminals ++ flat_map terminal_given given) (manner.card_apps ++ flat_map app_given given) (manner.accounts ++ flat_map account_given given)

-- what these words ask for, behind those that asked for this manner
unfoldable pub options_behind : Manner → List (List ℕ) → Option Manner
options_behind manner words = do
  given ← options_given words
  asked_behind manner given

-- what one option more asks for
abbrev pub with_option : Manner → OptionGiven → Option Manner
with_option manner Brief = (if manner.filter.brief then None else Some (record manner { filter = record manner.filter { brief = true } }))
with_option manner Ends = (if manner.filter.ends then None else Some (record manner { filter = record manner.filter { ends = true } }))
with_option manner Why = (if manner.filter.why then None else Some (record manner { filter = record manner.filter { why = true } }))
with_option manner Books = (if manner.filter.books then None else Some (record manner { filter = record manner.filter { books = true } }))
with_option manner (Lane lane) =
    if is_some manner.filter.lane then None else Some (record manner { filter = record manner.filter { lane = Some lane } })
with_option manner (Purchase purchase) =
    if is_some manner.filter.purchase then None else Some (record manner { filter = record manner.filter { purchase = Some purchase } })
with_option manner (OneTerminal terminal) = Some (record manner { terminals = manner.terminals ++ terminal ∷ [] })
with_option manner (OneApp app) = Some (record manner { card_apps = manner.card_apps ++ app ∷ [] })
with_option manner (OneAccount account) = Some (record manner { accounts = manner.accounts ++ account ∷ [] })
