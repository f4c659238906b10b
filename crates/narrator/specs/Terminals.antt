-- What is known of the terminals beside the report: which row they have for an application (EMV 4.3 Book 1 section 12.3).
use Rattle.std.specs.Prelude.{ℕ, ◌==◌, Bool, ◌&&◌, ◌||◌, nat_eq, List, position, slice_get, Option, option_map, option_and_then}
use Rattle.std.specs.List.{list_any, starts_with}
use Rattle.std.specs.Option.{option_or}
use Rattle.std.specs.Str.{bytes_eq}
use Rattle.value_words.specs.declared.asking.Row.{Row}
use Rattle.narrator.specs.declared.selection.NameFound.{NameFound}
use Rattle.narrator.specs.declared.selection.Selection.{Selection}
use Rattle.narrator.specs.declared.terminal.Terminal.{Terminal}

-- an application of this name is meant: by its whole name, or by the beginning of a longer one
abbrev pub is_meant : Terminal → List ℕ → Bool
is_meant terminal name = bytes_eq terminal.name.items name || (terminal.partial && starts_with nat_eq name terminal.name.items)

-- a row of the lane's terminal that means it
abbrev pub is_row_of : ℕ → List ℕ → Terminal → Bool
is_row_of lane name terminal = terminal.lane == lane && is_meant terminal name

-- this name was given where that one was asked for
abbrev pub is_found_by : List ℕ → List ℕ → NameFound → Bool
is_found_by asked given one = bytes_eq one.asked.items asked && bytes_eq one.given.items given

abbrev pub is_name_found : List NameFound → List ℕ → List ℕ → Bool
is_name_found found asked given = list_any (is_found_by asked given) found

-- a row of the lane's terminal by which the application that is asked for was found: it means it, and SELECT of the row's
-- own name was given it
abbrev pub is_finder : ℕ → Selection → Terminal → Bool
is_finder lane s terminal = is_row_of lane s.name.items terminal && is_name_found s.found.items terminal.name.items s.name.items

-- the row at a place
abbrev pub row_at : List Terminal → ℕ → Option Row
row_at terminals place = option_map (λ terminal. terminal.row) (slice_get terminals place)

-- the first row of the lane's terminal that means an application of this name
abbrev pub first_row : List Terminal → ℕ → List ℕ → Option Row
first_row terminals lane name = option_and_then (row_at terminals) (position (is_row_of lane name) terminals)

-- the row for the application that is asked for: with the list of AIDs the first one by which it was found, for the rows are
-- asked for in their order (section 12.3.3); by the card's directory none was, and it is the first one that means it
-- (section 12.3.2)
unfoldable pub row_for : List Terminal → ℕ → Selection → Option Row
row_for terminals lane s = option_or (option_and_then (row_at terminals) (position (is_finder lane s) terminals)) (first_row terminals lane s.name.items)
