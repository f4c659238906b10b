-- No bit stands outside those of cardholder verification.
use Rattle.std.proofs.Common.{◌≡◌, ℕ, zero, suc, ◌≤◌, max, ◌==◌, Bool, true, false, if◌then◌else◌, List, [], ◌∷◌, take, drop, bit_and, bit_or, slice_index, Option, Some, None, refl, sym, ◌∙◌, ap, arith}
use Rattle.std.specs.Int.{bit_at}
use Rattle.std.specs.List.{AllByRecursion}
use Rattle.std.proofs.lemmas.Nat.Bits.{bit_at_or}
use Rattle.apdu_core.specs.Response.{ResponseData, response_of}
use Rattle.cvm_list.specs.Begun.{by_list, by_rules, cvm, holding, situation}
use Rattle.cvm_list.specs.Cvm.{Behind, Nothing, Asking, Stopping, ReachedRules, RuleReached, found_after, after_all, by_place, course, course_by, deciding, nothing_found, verified_by_rules, verified}
use Rattle.cvm_list.specs.OwnBits.{verification_bits, AreVerificationBits, FindsVerificationBits, VerificationBitsAreOwn}
use Rattle.cvm_list.specs.Rules.{method_of, rules_of, supports}
use Rattle.cvm_list.specs.Tried.{Trial, Known, Asks, Stops, tried, performed, pin_tried, online_tried, by_answer, by_said, said_of, unsupported, unsupported_bits}
use Rattle.cvm_list.specs.declared.outcome.Found.{Found}
use Rattle.cvm_list.specs.declared.outcome.Said.{Said}
use Rattle.cvm_list.specs.declared.outcome.Said.TheVariants.{Right, Again, Exceeded, Other}
use Rattle.cvm_list.specs.declared.rule.Method.{Method}
use Rattle.cvm_list.specs.declared.rule.Method.TheVariants.{Fail, PlainPin, OnlinePin, PlainPinAndSignature, EncipheredPin, EncipheredPinAndSignature, Signature, NoCvm, Unrecognised}
use Rattle.cvm_list.specs.declared.rule.Rule.{Rule}
use Rattle.cvm_list.specs.declared.rule.Situation.{Situation}
use Rattle.emv_dict.specs.Flags.{tvr_bit}
use Rattle.emv_dict.specs.Progress.{Progress}
use Rattle.emv_dict.specs.Views.{SettingsData, PurchaseData}
use Rattle.emv_dict.specs.declared.verified.Verified.{Verified}
use Rattle.env_map.specs.Entries.{value_of}
use Rattle.object_lists.specs.CardRead.{ReadCard}

-- bits that add none to others are among them
among : (bits own : ℕ) → bit_or bits own ≡ own → (place : ℕ) → bit_at bits place ≤ bit_at own place
among bits own same place =
    let joined : max (bit_at bits place) (bit_at own place) ≡ bit_at own place = sym (bit_at_or bits own place) ∙ ap (λ n. bit_at n place) same in
    omega arith

at_either : (n a b most : ℕ) → n ≡ max a b → a ≤ most → b ≤ most → n ≤ most
at_either n a b most is first second = omega arith

both_own : (a b : ℕ) → AreVerificationBits a → AreVerificationBits b → AreVerificationBits (bit_or a b)
both_own a b first second place = at_either _ _ _ _ (bit_at_or a b place) (first place) (second place)

none_own : AreVerificationBits 0
none_own = among 0 verification_bits refl

-- what comes of a rule
OutcomeOwn : Trial → Type 0
OutcomeOwn (Known outcome left rest) = AreVerificationBits outcome.tvr.0
OutcomeOwn (Asks command) = Unit {0}
OutcomeOwn (Stops cause) = Unit {0}

unsupported_own : (m : Method) → AreVerificationBits (unsupported_bits m)
unsupported_own Fail = none_own
unsupported_own PlainPin = among (tvr_bit 3 5) verification_bits refl
unsupported_own OnlinePin = among (tvr_bit 3 5) verification_bits refl
unsupported_own PlainPinAndSignature = among (tvr_bit 3 5) verification_bits refl
unsupported_own EncipheredPin = among (tvr_bit 3 5) verification_bits refl
unsupported_own EncipheredPinAndSignature = among (tvr_bit 3 5) verification_bits refl
unsupported_own Signature = none_own
unsupported_own NoCvm = none_own
unsupported_own Unrecognised = among (tvr_bit 3 7) verification_bits refl

said_own : (rule : Rule) (result : ℕ) (said : Said) (pins rest : List (List ℕ)) (again : Trial) → OutcomeOwn again → OutcomeOwn (by_said rule result said pins rest again)
unfolding OutcomeOwn
said_own rule result Right pins rest again own = none_own
said_own rule result Again pins rest again own = own
said_own rule result Exceeded pins rest again own = among (tvr_bit 3 6) verification_bits refl
said_own rule result Other pins rest again own = none_own

answer_own : (rule : Rule) (result : ℕ) (o : Option ResponseData) (pins rest : List (List ℕ)) (again : Trial) → OutcomeOwn again → OutcomeOwn (by_answer rule result o pins rest again)
unfolding OutcomeOwn
answer_own rule result (Some r) pins rest again own = said_own rule result (said_of r.status) pins rest again own
answer_own rule result None pins rest again own = tt

pin_own : (rule : Rule) (result : ℕ) (pins answers : List (List ℕ)) → OutcomeOwn (pin_tried rule result pins answers)
unfolding OutcomeOwn pin_tried
pin_own rule result [] answers = among (tvr_bit 3 4) verification_bits refl
pin_own rule result (pin ∷ pins) [] = tt
pin_own rule result (pin ∷ pins) (reply ∷ rest) = answer_own rule result (response_of reply) pins rest (pin_tried rule result pins rest) (pin_own rule result pins rest)

online_own : (rule : Rule) (pins answers : List (List ℕ)) → OutcomeOwn (online_tried rule pins answers)
unfolding OutcomeOwn
online_own rule [] answers = among (tvr_bit 3 4) verification_bits refl
online_own rule (pin ∷ pins) answers = among (tvr_bit 3 3) verification_bits refl

performed_own : (rule : Rule) (m : Method) (pins answers : List (List ℕ)) → OutcomeOwn (performed rule m pins answers)
unfolding OutcomeOwn
performed_own rule Fail pins answers = none_own
performed_own rule PlainPin pins answers = pin_own rule 2 pins answers
performed_own rule OnlinePin pins answers = online_own rule pins answers
performed_own rule PlainPinAndSignature pins answers = pin_own rule 0 pins answers
performed_own rule EncipheredPin pins answers = none_own
performed_own rule EncipheredPinAndSignature pins answers = none_own
performed_own rule Signature pins answers = none_own
performed_own rule NoCvm pins answers = none_own
performed_own rule Unrecognised pins answers = none_own

tried_by : (b : Bool) (rule : Rule) (m : Method) (pins answers : List (List ℕ))
    → OutcomeOwn (if b then performed rule m pins answers else Known (unsupported rule) pins answers)
unfolding OutcomeOwn
tried_by true rule m pins answers = performed_own rule m pins answers
tried_by false rule m pins answers = unsupported_own (method_of rule)

tried_own : (caps : ℕ) (rule : Rule) (pins answers : List (List ℕ)) → OutcomeOwn (tried caps rule pins answers)
unfolding tried
tried_own caps rule pins answers = tried_by (supports caps (method_of rule)) rule (method_of rule) pins answers

-- each rule that is reached
abbrev ReachedOwn : List RuleReached → Type 0
ReachedOwn rules = AllByRecursion (λ rule. AreVerificationBits rule.outcome.tvr.0) rules

behind_own : (trial : Trial) (behind : List (List ℕ) → List (List ℕ) → ReachedRules) → OutcomeOwn trial
    → ((pins rest : List (List ℕ)) → ReachedOwn (behind pins rest).known) → ReachedOwn (course_by trial behind).known
unfolding OutcomeOwn
behind_own (Known outcome pins rest) behind own each = (own, each pins rest)
behind_own (Asks command) behind own each = tt
behind_own (Stops cause) behind own each = tt

course_own : (caps : ℕ) (rules : List Rule) (pins answers : List (List ℕ)) → ReachedOwn (course caps rules pins answers).known
unfolding course
course_own caps [] pins answers = tt
course_own caps (rule ∷ rules) pins answers =
    behind_own (tried caps rule pins answers) (course caps rules) (tried_own caps rule pins answers) (λ pins rest. course_own caps rules pins rest)

first_own : (n : ℕ) (rules : List RuleReached) → ReachedOwn rules → ReachedOwn (take n rules)
first_own zero rules own = tt
first_own (suc n) [] own = tt
first_own (suc n) (rule ∷ rules) own = (own.0, first_own n rules own.1)

-- what all of them found
all_own : (found : Found) (rules : List RuleReached) → AreVerificationBits found.tvr.0 → ReachedOwn rules → AreVerificationBits (after_all found rules).tvr.0
unfolding after_all
all_own found [] first each = first
all_own found (rule ∷ rules) first each = all_own (found_after found rule.outcome) rules (both_own found.tvr.0 rule.outcome.tvr.0 first each.0) each.1

result_own : (good : Bool) (bits : ℕ) → AreVerificationBits bits → AreVerificationBits (if good then bits else bit_or bits (tvr_bit 3 8))
result_own true bits own = own
result_own false bits own = both_own bits (tvr_bit 3 8) own (among (tvr_bit 3 8) verification_bits refl)

verified_own : (found : Found) (rules : List RuleReached) → AreVerificationBits found.tvr.0 → ReachedOwn rules → AreVerificationBits (verified (after_all found rules)).tvr.0
verified_own found rules first each = result_own (after_all found rules).good (after_all found rules).tvr.0 (all_own found rules first each)

place_own : (place : Option ℕ) (behind : Behind) (found : Found) (known : List RuleReached) (answers : List (List ℕ)) → AreVerificationBits found.tvr.0 → ReachedOwn known
    → FindsVerificationBits (by_place place behind found known answers)
place_own (Some place) behind found known answers first each = verified_own found (take (suc place) known) first (first_own (suc place) known each)
place_own None Nothing found known answers first each = verified_own found known first each
place_own None (Asking command) found known answers first each = tt
place_own None (Stopping cause) found known answers first each = tt

rules_own : (rules : List Rule) (s : Situation) (purchase : PurchaseData) (answers : List (List ℕ)) → FindsVerificationBits (by_rules rules s purchase answers)
unfolding verified_by_rules
rules_own [] s purchase answers = among (tvr_bit 1 6) verification_bits refl
rules_own (rule ∷ rules) s purchase answers =
    let whole = course s.caps (holding s (rule ∷ rules)) purchase.pins answers in
    place_own (deciding whole.known) whole.behind nothing_found whole.known answers none_own (course_own s.caps (holding s (rule ∷ rules)) purchase.pins answers)

list_own : (list : Option (List ℕ)) (card : ReadCard) (settings : SettingsData) (purchase : PurchaseData) (answers : List (List ℕ))
    → FindsVerificationBits (by_list list card settings purchase answers)
list_own None card settings purchase answers = among (tvr_bit 1 6) verification_bits refl
list_own (Some list) card settings purchase answers = rules_own (rules_of (drop 8 list)) (situation list (value_of 0x9F42 card.entries) settings purchase) purchase answers

either_own : (test : Bool) (x y : Progress Verified) → FindsVerificationBits x → FindsVerificationBits y → FindsVerificationBits (if test then x else y)
either_own true x y first second = first
either_own false x y first second = second

pub bits_own : VerificationBitsAreOwn
unfolding cvm
bits_own card settings purchase answers =
    either_own (bit_and (slice_index card.aip 0) 0x10 == 0) _ _ none_own (list_own (value_of 0x8E card.entries) card settings purchase answers)
