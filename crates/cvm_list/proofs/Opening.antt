-- How cardholder verification begins.
use Rattle.std.proofs.Common.{◌≡◌, ℕ, ◌+◌, ◌-◌, ◌<◌, ◌≤◌, ◌==◌, Bool, false, if◌then◌else◌, List, [], ◌∷◌, length, drop, Option, Some, ap, sym, refl, ◌∙◌, bit_and, slice_index, arith, length-drop}
use Rattle.cvm_list.specs.Begun.{by_list, by_rules, cvm, holding, passed, situation}
use Rattle.cvm_list.specs.Cvm.{course, nothing_found, verified_by_rules}
use Rattle.cvm_list.specs.Rules.{rules_of}
use Rattle.cvm_list.specs.declared.rule.Rule.{Rule}
use Rattle.cvm_list.specs.declared.rule.Situation.{Situation}
use Rattle.emv_dict.specs.Flags.{tvr_bit}
use Rattle.emv_dict.specs.Progress.{Progress, Done}
use Rattle.emv_dict.specs.Views.{SettingsData, PurchaseData}
use Rattle.emv_dict.specs.declared.verified.Verified.{Verified}
use Rattle.env_map.specs.Entries.{value_of}
use Rattle.object_lists.specs.CardRead.{ReadCard}

few_rules : (bytes : List ℕ) → length bytes ≤ 1 → rules_of bytes ≡ []
unfolding rules_of
few_rules [] few = refl
few_rules (a ∷ []) few = refl
few_rules (a ∷ b ∷ more) few = absurd (omega arith)

-- a list without rules
pub no_rules : (list : List ℕ) (s : Situation) (purchase : PurchaseData) (later : List (List ℕ)) (v : Verified)
    → length list < 10 → v ≡ passed (tvr_bit 1 6) → by_rules (rules_of (drop 8 list)) s purchase later ≡ Done v later
no_rules list s purchase later v short is =
    let few : length (drop 8 list) ≤ 1 = omega (arith, length-drop 8 list) in
    let rules : List Rule → Progress Verified = λ rules. by_rules rules s purchase later in
    let done : Verified → Progress Verified = λ v. Done v later in
    ap rules (few_rules (drop 8 list) few) ∙ ap done (sym is)

some_rules : (bytes : List ℕ) (s : Situation) (purchase : PurchaseData) (later : List (List ℕ)) → 2 ≤ length bytes
    → by_rules (rules_of bytes) s purchase later ≡ verified_by_rules nothing_found (course s.caps (holding s (rules_of bytes)) purchase.pins later) later
unfolding rules_of
some_rules [] s purchase later some = absurd (omega arith)
some_rules (a ∷ []) s purchase later some = absurd (omega arith)
some_rules (a ∷ b ∷ more) s purchase later some = refl

-- a list with rules
pub with_rules : (list : List ℕ) (s : Situation) (purchase : PurchaseData) (later : List (List ℕ)) → 10 ≤ length list
    → by_rules (rules_of (drop 8 list)) s purchase later ≡ verified_by_rules nothing_found (course s.caps (holding s (rules_of (drop 8 list))) purchase.pins later) later
with_rules list s purchase later long =
    let some : 2 ≤ length (drop 8 list) = omega (arith, length-drop 8 list) in
    some_rules (drop 8 list) s purchase later some

-- a card that asks for verification and has a list
pub begun : (card : ReadCard) (settings : SettingsData) (purchase : PurchaseData) (list : List ℕ) (currency : Option (List ℕ)) (later : List (List ℕ))
    → (bit_and (slice_index card.aip 0) 0x10 == 0) ≡ false → value_of 0x8E card.entries ≡ Some list → value_of 0x9F42 card.entries ≡ currency
    → cvm card settings purchase later ≡ by_rules (rules_of (drop 8 list)) (situation list currency settings purchase) purchase later
unfolding cvm
begun card settings purchase list currency later asks there given =
    let choice : Bool → Progress Verified = λ t. if t then Done (passed 0) later else by_list (value_of 0x8E card.entries) card settings purchase later in
    let listed : Option (List ℕ) → Progress Verified = λ v. by_list v card settings purchase later in
    let in_currency : Option (List ℕ) → Progress Verified = λ c. by_rules (rules_of (drop 8 list)) (situation list c settings purchase) purchase later in
    ap choice asks ∙ ap listed there ∙ ap in_currency given
