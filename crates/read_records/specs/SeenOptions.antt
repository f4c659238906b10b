-- What a card gives for GET PROCESSING OPTIONS, as a contract sees it.
use Rattle.std.specs.Prelude.{⊤, ◌<◌, ◌≤◌, [], ◌∷◌, length}
use Rattle.read_records.specs.Afl.{places_of, most_records}
use Rattle.read_records.specs.Options.{Opened, OptionsSaid as SaidData, Refused, Granted, Faulty}
use Rattle.read_records.specs.declared.options.Options.{Options}
use Rattle.read_records.specs.declared.options.Said.{Said}
use Rattle.read_records.specs.declared.options.Said.TheVariants as said

abbrev pub seen_options : Options → Opened
seen_options options = record { entries = (0x82, options.aip) ∷ (0x94, options.afl.now) ∷ []; left = places_of options.groups.items }

abbrev pub seen_options_said : Said → SaidData
seen_options_said said.Refused = Refused
seen_options_said (said.Granted options) = Granted (seen_options options)
seen_options_said (said.Faulty cause) = Faulty cause

-- there is a record to read, the locator is as short as an answer, and it names no more records than one can
pub record HasRecordsToRead (options : Options) : Type 0 where
  pub some : 0 < length options.groups.items
  pub short : length options.afl.now < 256
  pub few : length (places_of options.groups.items) ≤ most_records

abbrev pub IsGrantedInRange : Said → Type 0
IsGrantedInRange said.Refused = ⊤
IsGrantedInRange (said.Granted options) = HasRecordsToRead options
IsGrantedInRange (said.Faulty cause) = ⊤
