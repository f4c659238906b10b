-- Random transaction selection (EMV 4.3 Book 3 section 10.6.2).
use Rattle.std.specs.Prelude.{◌≡◌, ℕ, ◌+◌, ◌-◌, ◌*◌, ◌%◌, ◌≤◌, Bool, nat_lt, nat_le, if◌then◌else◌, IsTrue}
use Rattle.emv_dict.specs.declared.purchase.AidRow.{AidRow}

-- a random number from 1 to 99
abbrev pub drawn : ℕ → ℕ
drawn word = word % 99 + 1

-- the share of those drawn, in per cent, rises from the target at the threshold to the greatest target at the floor
-- limit; both sides are times floor limit less threshold
abbrev pub is_biased : AidRow → ℕ → ℕ → Bool
is_biased row amount word =
    nat_le (drawn word * (row.floor - row.threshold))
    ((row.max_target - row.target) * (amount - row.threshold) + row.target * (row.floor - row.threshold))

-- whether a purchase below the floor limit is selected
abbrev pub is_selected : AidRow → ℕ → ℕ → Bool
is_selected row amount word =
    if nat_lt amount row.threshold then nat_le (drawn word) row.target else is_biased row amount word

-- the row with other targets
abbrev pub with_targets : AidRow → ℕ → ℕ → AidRow
with_targets row target most = record row { target = target; max_target = most }
