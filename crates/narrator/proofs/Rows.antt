-- Which row counts, of a terminal that knows a name by its beginning and by all of it.
use Rattle.std.proofs.Common.{◌≡◌, ℕ, List, [], ◌∷◌, Bool, true, false, Some, refl}
use Rattle.value_words.specs.declared.asking.Reach.TheVariants.{Both}
use Rattle.value_words.specs.declared.asking.Row.{Row}
use Rattle.exchange_words.specs.Lanes.{no_bytes}
use Rattle.narrator.specs.Terminals.{row_for}
use Rattle.narrator.specs.declared.selection.NameFound.{NameFound}
use Rattle.narrator.specs.declared.selection.Selection.{Selection}
use Rattle.narrator.specs.declared.terminal.Terminal.{Terminal}

abbrev beginning : List ℕ
beginning = 0xA0 ∷ 0 ∷ 0 ∷ 0 ∷ 3 ∷ []

abbrev whole : List ℕ
whole = 0xA0 ∷ 0 ∷ 0 ∷ 0 ∷ 3 ∷ 0x10 ∷ 0x10 ∷ []

-- rows that can be told apart by their denial code
abbrev row : ℕ → Row
row number = record { reach = Both; denial = number; online = 0; default = 0 }

abbrev known : List ℕ → Bool → ℕ → Terminal
known name partial number = record { lane = 0; name = record { items = name }; partial = partial; row = row number }

abbrev both : List Terminal
both = known beginning true 1 ∷ known whole false 2 ∷ []

abbrev found : List ℕ → NameFound
found asked = record { asked = record { items = asked }; given = record { items = whole } }

abbrev selected : List NameFound → Selection
selected all = record { name = record { items = whole }; given = no_bytes; found = record { items = all } }

-- the card has no application for the beginning
pub by_the_second : row_for both 0 (selected (found whole ∷ [])) ≡ Some (row 2)
unfolding row_for
by_the_second = refl

-- it was given for both
pub by_the_first : row_for both 0 (selected (found beginning ∷ found whole ∷ [])) ≡ Some (row 1)
unfolding row_for
by_the_first = refl

-- none was found: the directory named it
pub by_the_directory : row_for both 0 (selected []) ≡ Some (row 1)
unfolding row_for
by_the_directory = refl
