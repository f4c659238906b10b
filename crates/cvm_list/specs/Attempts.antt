-- What a rule comes to before the card is asked.
use Rattle.std.specs.Prelude.{◌≡◌, ℕ, ◌+◌, ◌==◌, Bool, true, false, ◌&&◌, IsTrue, List, ◌∷◌, length}
use Rattle.std.specs.List.{All}
use Rattle.emv_dict.specs.Digits.{HasPinLength}
use Rattle.cvm_list.specs.Rules.{method_of, supports}
use Rattle.cvm_list.specs.Tried.{Known, tried}
use Rattle.cvm_list.specs.declared.attempt.Attempt.{Attempt}
use Rattle.cvm_list.specs.declared.attempt.Attempt.TheVariants as attempt
use Rattle.cvm_list.specs.declared.rule.Rule.{Rule}
use Rattle.cvm_list.specs.Plain.{asks_card}

-- an outcome that no answer of the card changes, or the entry that the card is asked about and those behind it
abbrev pub AttemptIs : ℕ → Rule → List (List ℕ) → Attempt → Type 0
AttemptIs caps rule pins (attempt.Known outcome left) = (later : List (List ℕ)) → tried caps rule pins later ≡ Known outcome left.now later
AttemptIs caps rule pins (attempt.Ask pin others) = (pins ≡ pin.now ∷ others.now) × IsTrue (asks_card caps rule)

abbrev pub LeavesPins : Attempt → Type 0
LeavesPins (attempt.Known outcome left) = All HasPinLength left.now
LeavesPins (attempt.Ask pin others) = HasPinLength pin.now × All HasPinLength others.now

-- the entries that it takes or leaves
abbrev pub pin_entries : Attempt → ℕ
pin_entries (attempt.Known outcome left) = length left.now
pin_entries (attempt.Ask pin others) = 1 + length others.now
