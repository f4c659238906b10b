-- A state of cardholder verification.
use Rattle.std.specs.Prelude.{◌≡◌, ℕ, ◌+◌, ◌<◌, IsTrue, List, ◌∷◌, drop}
use Rattle.std.specs.List.{All}
use Rattle.cvm_list.specs.Cvm.{course, verified_by_rules}
use Rattle.cvm_list.specs.Plain.{asks_card}
use Rattle.cvm_list.specs.declared.outcome.Found.{Found}
use Rattle.cvm_list.specs.declared.rule.Rule.{Rule}
use Rattle.cvm_list.specs.declared.verifying.Verifying.TheInside.{Inside}
use Rattle.emv_dict.specs.Digits.{HasPinLength}
use Rattle.emv_dict.specs.Progress.{Progress}
use Rattle.emv_dict.specs.declared.verified.Verified.{Verified}

-- what earlier rules found, the second byte of the terminal capabilities, the rules from the present one on whose
-- condition holds, and the PIN entries that are left, the present one first
pub record VerifyingData : Type 0 where
  pub found : Found
  pub caps : ℕ
  pub rules : List Rule
  pub pins : List (List ℕ)

abbrev pub verifying_data : Inside → VerifyingData
verifying_data s = record { found = s.found; caps = s.caps; rules = s.rule ∷ drop (s.at + 1) s.rules.items; pins = s.pin.now ∷ s.pins.now }

-- the present rule stands at its place and asks the card, and each entry has the length of a PIN
pub record IsWaiting (s : Inside) : Type 0 where
  pub small : s.at < 123
  pub stands : drop s.at s.rules.items ≡ s.rule ∷ drop (s.at + 1) s.rules.items
  pub asks : IsTrue (asks_card s.caps s.rule)
  pub present : HasPinLength s.pin.now
  pub others : All HasPinLength s.pins.now

-- what the rest makes of the answers to come
abbrev pub verifying_rest : VerifyingData → List (List ℕ) → Progress Verified
verifying_rest s answers = verified_by_rules s.found (course s.caps s.rules s.pins answers) answers
