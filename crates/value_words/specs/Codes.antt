-- Where a terminal may decide, by its type (EMV 4.3 Book 4 Annex A1).
use Rattle.std.specs.Prelude.{ℕ, ◌==◌, ◌||◌, if◌then◌else◌, Option, Some, None}
use Rattle.value_words.specs.declared.asking.Reach.{Reach}
use Rattle.value_words.specs.declared.asking.Reach.TheVariants.{OnlineOnly, Both, OfflineOnly}

-- an attended or unattended merchant's terminal
abbrev pub reach_of : ℕ → Option Reach
reach_of kind =
    if kind == 21 || kind == 24 then Some OnlineOnly
    else if kind == 22 || kind == 25 then Some Both
    else if kind == 23 || kind == 26 then Some OfflineOnly
    else None
