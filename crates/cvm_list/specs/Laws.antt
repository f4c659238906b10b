-- What holds of every list of rules (EMV 4.3 Book 3 section 10.5).
use Rattle.std.specs.Prelude.{◌≡◌, ℕ, ◌==◌, false, IsTrue, List, ◌++◌, bit_and, slice_index, Option, Some}
use Rattle.object_lists.specs.CardRead.{ReadCard}
use Rattle.cvm_list.specs.Cvm.{course, deciding, verified_by_rules}
use Rattle.cvm_list.specs.Tried.{Known, tried}
use Rattle.cvm_list.specs.declared.outcome.Found.{Found}
use Rattle.cvm_list.specs.declared.outcome.Outcome.{Outcome}
use Rattle.cvm_list.specs.declared.rule.Rule.{Rule}
use Rattle.cvm_list.specs.declared.verifying.VerifyNext.{VerifyNext}
use Rattle.cvm_list.specs.declared.verifying.VerifyNext.TheVariants as next

-- where a rule decides, those behind it change nothing
abbrev pub RulesBehindAreIdle : Type 0
RulesBehindAreIdle =
    (caps : ℕ) (rules more : List Rule) (found : Found) (pins answers : List (List ℕ)) (place : ℕ)
    → deciding (course caps rules pins answers).known ≡ Some place
    → verified_by_rules found (course caps (rules ++ more) pins answers) answers ≡ verified_by_rules found (course caps rules pins answers) answers

-- these stand behind those that were taken from the front of the whole
abbrev pub StandBehind : List (List ℕ) → List (List ℕ) → Type 0
StandBehind whole left = (taken : List (List ℕ)) × (whole ≡ taken ++ left)

-- a rule takes entries and answers from the front, and leaves those behind them to the next one
abbrev pub EntriesAreUsedOnce : Type 0
EntriesAreUsedOnce =
    (caps : ℕ) (rule : Rule) (pins answers : List (List ℕ)) (outcome : Outcome) (left rest : List (List ℕ))
    → tried caps rule pins answers ≡ Known outcome left rest → StandBehind pins left × StandBehind answers rest

-- no bit stands, and verification isn't performed
abbrev pub IsPassedOver : VerifyNext → Type 0
IsPassedOver (next.Ask verifying) = ⊥
IsPassedOver (next.Done verified) = (verified.tvr.0 ≡ 0) × (verified.performed ≡ false)
IsPassedOver (next.Ended cause) = ⊥

-- b5 of the first byte of the card's application interchange profile is off
abbrev pub AsksForNone : ReadCard → Type 0
AsksForNone card = IsTrue (bit_and (slice_index card.aip 0) 0x10 == 0)
