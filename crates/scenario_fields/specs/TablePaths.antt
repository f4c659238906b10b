-- The paths of a scenario's tables, keys and items.
use Rattle.std.specs.Prelude.{ℕ, List, [], ◌++◌, codes, decimal, Option, Some, None}
use Rattle.scenario_fields.specs.declared.place.LaneAt.{LaneAt}
use Rattle.scenario_fields.specs.declared.place.LaneAt.TheVariants.{Numbered, Only}
use Rattle.scenario_fields.specs.declared.place.TablePlace.{TablePlace}
use Rattle.scenario_fields.specs.declared.place.TablePlace.TheVariants.{Top, Issuer, Account, Scripts, Card, App, Record, Lane, Aid, Purchase, Tear, TerminalTear}

-- item `i` of the array at a key, and what follows it
abbrev pub item_path : List ℕ → ℕ → List ℕ → List ℕ
item_path key i rest = key ++ (codes "[" ++ (decimal i ++ (codes "]" ++ rest)))

-- a key of the document
abbrev pub at_top : List ℕ → List ℕ
at_top key = key

abbrev pub in_issuer : List ℕ → List ℕ
in_issuer key = codes "issuer." ++ key

abbrev pub in_account : ℕ → List ℕ → List ℕ
in_account i key = item_path (codes "account") i (codes "." ++ key)

abbrev pub in_scripts : ℕ → ℕ → List ℕ → List ℕ
in_scripts i j key = in_account i (item_path (codes "scripts") j (codes "." ++ key))

abbrev pub in_card : ℕ → List ℕ → List ℕ
in_card i key = item_path (codes "card") i (codes "." ++ key)

abbrev pub in_app : ℕ → ℕ → List ℕ → List ℕ
in_app i j key = in_card i (item_path (codes "app") j (codes "." ++ key))

abbrev pub in_record : ℕ → ℕ → ℕ → List ℕ → List ℕ
in_record i j k key = in_app i j (item_path (codes "record") k (codes "." ++ key))

-- one of the lanes, or the only one of its document, and what follows it
abbrev pub lane_path : LaneAt → List ℕ → List ℕ
lane_path (Numbered i) rest = item_path (codes "lane") i rest
lane_path Only rest = codes "lane" ++ rest

abbrev pub in_lane : LaneAt → List ℕ → List ℕ
in_lane at key = lane_path at (codes "." ++ key)

abbrev pub in_aid : LaneAt → ℕ → List ℕ → List ℕ
in_aid at j key = in_lane at (item_path (codes "aid") j (codes "." ++ key))

abbrev pub in_purchase : LaneAt → ℕ → List ℕ → List ℕ
in_purchase at j key = in_lane at (item_path (codes "purchase") j (codes "." ++ key))

abbrev pub in_tear : LaneAt → ℕ → List ℕ → List ℕ
in_tear at j key = in_purchase at j (codes "tear." ++ key)

abbrev pub in_terminal_tear : LaneAt → ℕ → List ℕ → List ℕ
in_terminal_tear at j key = in_purchase at j (codes "terminal_tear." ++ key)

-- the path of a key of a table
abbrev pub path : TablePlace → List ℕ → List ℕ
path Top key = at_top key
path Issuer key = in_issuer key
path (Account i) key = in_account i key
path (Scripts i j) key = in_scripts i j key
path (Card i) key = in_card i key
path (App i j) key = in_app i j key
path (Record i j k) key = in_record i j k key
path (Lane at) key = in_lane at key
path (Aid at j) key = in_aid at j key
path (Purchase at j) key = in_purchase at j key
path (Tear at j) key = in_tear at j key
path (TerminalTear at j) key = in_terminal_tear at j key

-- a key, or an item of the array at it
abbrev pub spot_key : List ℕ → Option ℕ → List ℕ
spot_key key None = key
spot_key key (Some i) = item_path key i []

-- the path of a key's value, or of an item of the array there
abbrev pub spot_path : TablePlace → List ℕ → Option ℕ → List ℕ
spot_path place key index = path place (spot_key key index)
