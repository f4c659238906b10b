-- A PIN that verification finds for the issuer is one of the purchase's entries, so it has a PIN's length.
use Rattle.std.proofs.Common.{◌≡◌, refl, ℕ, zero, suc, ◌==◌, Bool, true, false, if◌then◌else◌, List, [], ◌∷◌, take, drop, length, Option, Some, None, bit_and, slice_index}
use Rattle.std.specs.List.{All, AllByRecursion}
use Rattle.std.proofs.lemmas.List.Elements.{All-head, All-tail}
use Rattle.apdu_core.specs.Response.{ResponseData, response_of}
use Rattle.cvm_list.specs.Begun.{by_list, by_rules, cvm, holding, passed, situation}
use Rattle.cvm_list.specs.Cvm.{RuleReached, Behind, Nothing, Asking, Stopping, ReachedRules, course_by, course, deciding, found_after, after_all, nothing_found, verified, by_place, verified_by_rules}
use Rattle.cvm_list.specs.Rules.{method_of, rules_of, supports}
use Rattle.cvm_list.specs.Tried.{Trial, Known, Asks, Stops, said_of, unsupported, by_said, by_answer, pin_tried, online_tried, performed, tried}
use Rattle.cvm_list.specs.declared.outcome.Found.{Found}
use Rattle.cvm_list.specs.declared.outcome.Said.{Said}
use Rattle.cvm_list.specs.declared.outcome.Said.TheVariants.{Right, Again, Exceeded, Other}
use Rattle.cvm_list.specs.declared.rule.Method.{Method}
use Rattle.cvm_list.specs.declared.rule.Method.TheVariants.{Fail, PlainPin, OnlinePin, PlainPinAndSignature, EncipheredPin, EncipheredPinAndSignature, Signature, NoCvm, Unrecognised}
use Rattle.cvm_list.specs.declared.rule.Rule.{Rule}
use Rattle.cvm_list.specs.declared.rule.Situation.{Situation}
use Rattle.dialogue_laws.proofs.Giving.{Gives, gives_either}
use Rattle.emv_dict.specs.Digits.{HasPinLength, is_pin_length}
use Rattle.emv_dict.specs.Progress.{Done}
use Rattle.emv_dict.specs.Views.{SettingsData, PurchaseData}
use Rattle.emv_dict.specs.declared.verified.Verified.{Verified}
use Rattle.env_map.specs.Entries.{value_of}
use Rattle.object_lists.specs.CardRead.{ReadCard}
use Rattle.terminal_state.specs.StepResults.{sound_pin}

abbrev IsSound : Option (List ℕ) → Type 0
IsSound pin = sound_pin pin ≡ pin

abbrev pub HasSoundPin : Verified → Type 0
HasSoundPin verified = IsSound verified.online_pin

abbrev ArePins : List (List ℕ) → Type 0
ArePins pins = All HasPinLength pins

none_sound : IsSound None
none_sound = refl

some_sound : (pin : List ℕ) → HasPinLength pin → IsSound (Some pin)
some_sound pin has = let is : is_pin_length (length pin) ≡ true = has in rw is refl

-- what comes of a rule, and the entries that it leaves
TrialSound : Trial → Type 0
TrialSound (Known outcome left rest) = IsSound outcome.online_pin × ArePins left
TrialSound (Asks command) = Unit {0}
TrialSound (Stops cause) = Unit {0}

said_sound : (rule : Rule) (result : ℕ) (said : Said) (pins rest : List (List ℕ)) (again : Trial) → ArePins pins → TrialSound again
    → TrialSound (by_said rule result said pins rest again)
unfolding TrialSound
said_sound rule result Right pins rest again are sound = (none_sound, are)
said_sound rule result Again pins rest again are sound = sound
said_sound rule result Exceeded pins rest again are sound = (none_sound, are)
said_sound rule result Other pins rest again are sound = (none_sound, are)

answer_sound : (rule : Rule) (result : ℕ) (said : Option ResponseData) (pins rest : List (List ℕ)) (again : Trial) → ArePins pins → TrialSound again
    → TrialSound (by_answer rule result said pins rest again)
unfolding TrialSound
answer_sound rule result (Some said) pins rest again are sound = said_sound rule result (said_of said.status) pins rest again are sound
answer_sound rule result None pins rest again are sound = tt

pin_sound : (rule : Rule) (result : ℕ) (pins answers : List (List ℕ)) → ArePins pins → TrialSound (pin_tried rule result pins answers)
unfolding TrialSound pin_tried
pin_sound rule result [] answers are = (none_sound, are)
pin_sound rule result (pin ∷ pins) [] are = tt
pin_sound rule result (pin ∷ pins) (reply ∷ rest) are =
    let left = All-tail HasPinLength pin pins are in
    answer_sound rule result (response_of reply) pins rest (pin_tried rule result pins rest) left (pin_sound rule result pins rest left)

online_sound : (rule : Rule) (pins answers : List (List ℕ)) → ArePins pins → TrialSound (online_tried rule pins answers)
unfolding TrialSound
online_sound rule [] answers are = (none_sound, are)
online_sound rule (pin ∷ pins) answers are = (some_sound pin (All-head HasPinLength pin pins are), All-tail HasPinLength pin pins are)

performed_sound : (rule : Rule) (method : Method) (pins answers : List (List ℕ)) → ArePins pins → TrialSound (performed rule method pins answers)
unfolding TrialSound
performed_sound rule Fail pins answers are = (none_sound, are)
performed_sound rule PlainPin pins answers are = pin_sound rule 2 pins answers are
performed_sound rule OnlinePin pins answers are = online_sound rule pins answers are
performed_sound rule PlainPinAndSignature pins answers are = pin_sound rule 0 pins answers are
performed_sound rule EncipheredPin pins answers are = (none_sound, are)
performed_sound rule EncipheredPinAndSignature pins answers are = (none_sound, are)
performed_sound rule Signature pins answers are = (none_sound, are)
performed_sound rule NoCvm pins answers are = (none_sound, are)
performed_sound rule Unrecognised pins answers are = (none_sound, are)

tried_by : (test : Bool) (rule : Rule) (method : Method) (pins answers : List (List ℕ)) → ArePins pins
    → TrialSound (if test then performed rule method pins answers else Known (unsupported rule) pins answers)
unfolding TrialSound
tried_by true rule method pins answers are = performed_sound rule method pins answers are
tried_by false rule method pins answers are = (none_sound, are)

tried_sound : (caps : ℕ) (rule : Rule) (pins answers : List (List ℕ)) → ArePins pins → TrialSound (tried caps rule pins answers)
unfolding tried
tried_sound caps rule pins answers are = tried_by (supports caps (method_of rule)) rule (method_of rule) pins answers are

-- each rule that is reached
abbrev AllSound : List RuleReached → Type 0
AllSound rules = AllByRecursion (λ rule. IsSound rule.outcome.online_pin) rules

behind_sound : (trial : Trial) (behind : List (List ℕ) → List (List ℕ) → ReachedRules) → TrialSound trial
    → ((pins rest : List (List ℕ)) → ArePins pins → AllSound (behind pins rest).known) → AllSound (course_by trial behind).known
unfolding TrialSound
behind_sound (Known outcome pins rest) behind sound each = (sound.0, each pins rest sound.1)
behind_sound (Asks command) behind sound each = tt
behind_sound (Stops cause) behind sound each = tt

course_sound : (caps : ℕ) (rules : List Rule) (pins answers : List (List ℕ)) → ArePins pins → AllSound (course caps rules pins answers).known
unfolding course
course_sound caps [] pins answers are = tt
course_sound caps (rule ∷ rules) pins answers are =
    behind_sound (tried caps rule pins answers) (course caps rules) (tried_sound caps rule pins answers are) (λ left rest are. course_sound caps rules left rest are)

first_sound : (n : ℕ) (rules : List RuleReached) → AllSound rules → AllSound (take n rules)
first_sound zero rules sound = tt
first_sound (suc n) [] sound = tt
first_sound (suc n) (rule ∷ rules) sound = (sound.0, first_sound n rules sound.1)

-- the PIN that all of them found
all_sound : (found : Found) (rules : List RuleReached) → IsSound found.online_pin → AllSound rules → IsSound (after_all found rules).online_pin
unfolding after_all
all_sound found [] first each = first
all_sound found (rule ∷ rules) first each = all_sound (found_after found rule.outcome) rules each.0 each.1

place_gives : (place : Option ℕ) (behind : Behind) (found : Found) (known : List RuleReached) (answers : List (List ℕ)) → IsSound found.online_pin → AllSound known
    → Gives HasSoundPin (by_place place behind found known answers)
place_gives (Some place) behind found known answers first each = all_sound found (take (suc place) known) first (first_sound (suc place) known each)
place_gives None Nothing found known answers first each = all_sound found known first each
place_gives None (Asking command) found known answers first each = tt
place_gives None (Stopping cause) found known answers first each = tt

rules_give : (rules : List Rule) (s : Situation) (purchase : PurchaseData) (answers : List (List ℕ)) → ArePins purchase.pins
    → Gives HasSoundPin (by_rules rules s purchase answers)
unfolding verified_by_rules
rules_give [] s purchase answers are = none_sound
rules_give (rule ∷ rules) s purchase answers are =
    let whole = course s.caps (holding s (rule ∷ rules)) purchase.pins answers in
    place_gives (deciding whole.known) whole.behind nothing_found whole.known answers none_sound (course_sound s.caps (holding s (rule ∷ rules)) purchase.pins answers are)

list_gives : (list : Option (List ℕ)) (card : ReadCard) (settings : SettingsData) (purchase : PurchaseData) (answers : List (List ℕ)) → ArePins purchase.pins
    → Gives HasSoundPin (by_list list card settings purchase answers)
list_gives None card settings purchase answers are = none_sound
list_gives (Some list) card settings purchase answers are =
    rules_give (rules_of (drop 8 list)) (situation list (value_of 0x9F42 card.entries) settings purchase) purchase answers are

pub verification_gives : (card : ReadCard) (settings : SettingsData) (purchase : PurchaseData) (answers : List (List ℕ)) → All HasPinLength purchase.pins
    → Gives HasSoundPin (cvm card settings purchase answers)
unfolding cvm
verification_gives card settings purchase answers are =
    gives_either HasSoundPin (bit_and (slice_index card.aip 0) 0x10 == 0) (Done (passed 0) answers) (by_list (value_of 0x8E card.entries) card settings purchase answers)
    none_sound (list_gives (value_of 0x8E card.entries) card settings purchase answers are)
