-- What is kept of a lane.
use Rattle.std.specs.Prelude.{ℕ, false, nat_le, if◌then◌else◌, List, [], length, None}
use Rattle.arrayvec.specs.ArrayVec.{ArrayVec}
use Rattle.value_words.specs.declared.asking.CardCodes.{CardCodes}
use Rattle.exchange_words.specs.declared.lane.LaneState.{LaneState}

-- no bytes are kept
abbrev pub no_bytes : ArrayVec ℕ
no_bytes = record { items = [] }

-- no action codes were given
abbrev pub no_codes : CardCodes
no_codes = record { denial = None; online = None; default = None }

-- before any line, and as a card is powered up
abbrev pub fresh : LaneState
fresh = record {
  command = no_bytes;
  selected = no_bytes;
  pdol = no_bytes;
  cdol1 = no_bytes;
  cdol2 = no_bytes;
  first = no_bytes;
  codes = no_codes;
  lower = None;
  upper = None;
  counter = None;
  results = None;
  asked = None;
  answered = None;
  code = None;
  reason = None;
  second = false;
  cryptograms = 0;
}

-- nothing is kept of what the records gave
abbrev pub without_lists : LaneState → LaneState
without_lists lane = record lane { cdol1 = no_bytes; cdol2 = no_bytes; first = no_bytes; codes = no_codes; lower = None; upper = None }

-- an answer is read: its command waits for none any longer
abbrev pub without_command : LaneState → LaneState
without_command lane = record lane { command = no_bytes }

-- bytes in place of those that were kept, or none where there are too many
abbrev pub kept_if_short : ℕ → List ℕ → List ℕ
kept_if_short most bytes = (if nat_le (length bytes) most then bytes else [])
