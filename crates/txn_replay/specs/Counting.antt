-- How many purchases of a world ended in which way (this project's own).
use Rattle.std.specs.Prelude.{ℕ, ◌-◌, ◌^◌, min, Bool, true, false, not, ◌||◌, List, length, flat_map, count_by, sum_by, Option, Some, None}
use Rattle.emv_dict.specs.declared.ending.Ending.{Ending}
use Rattle.emv_dict.specs.declared.ending.Ending.TheVariants.{Approved, Declined, Terminated, CutOff}
use Rattle.kernel.specs.Ended.{EndData}
use Rattle.kernel.specs.Laws.{is_approved_ending}
use Rattle.kernel.specs.Tally.{Counts}
use Rattle.txn_replay.specs.World.{Past, World}

abbrev pub is_declined : Ending → Bool
is_declined (Approved online) = false
is_declined (Declined online) = true
is_declined (Terminated step cause) = false
is_declined (CutOff step) = false

-- numbers stop at the greatest one of 64 bits
abbrev pub capped_at_64 : ℕ → ℕ
capped_at_64 n = min n (2 ^ 64 - 1)

abbrev pub all_ended : World → List Past
all_ended w = flat_map (λ lane. lane.ended) w.lanes

-- whether a purchase has an end record, of such an ending: one that was lost before its card was powered up has none
abbrev pub ended_so : (Ending → Bool) → Option EndData → Bool
ended_so test None = false
ended_so test (Some end) = test end.ending

abbrev pub is_other : Ending → Bool
is_other ending = not (is_approved_ending ending || is_declined ending)

-- those that were approved, those that were declined, all others, and the replies of them all
abbrev pub counts_of : List Past → Counts
counts_of ended = record {
  approved = capped_at_64 (count_by (λ past. ended_so is_approved_ending past.end) ended);
  declined = capped_at_64 (count_by (λ past. ended_so is_declined past.end) ended);
  other = capped_at_64 (count_by (λ past. ended_so is_other past.end) ended);
  replies = capped_at_64 (sum_by (λ past. length past.replies) ended);
}

abbrev pub counts : World → Counts
counts w = counts_of (all_ended w)

-- how many of them were lost
abbrev pub lost_count : List Past → ℕ
lost_count ended = count_by (λ past. past.lost) ended
