-- Cardholder verification over all answers of a card (EMV 4.3 Book 3 section 10.5).
use Rattle.std.specs.Prelude.{ℕ, suc, ◌+◌, ◌==◌, Bool, true, false, not, ◌||◌, if◌then◌else◌, List, [], ◌∷◌, take, fold, bit_or, Option, Some, None, option_map}
use Rattle.cvm_list.specs.Rules.{applies_succeeding}
use Rattle.cvm_list.specs.Tried.{Trial, Known, Asks, Stops, tried}
use Rattle.cvm_list.specs.declared.outcome.Found.{Found}
use Rattle.cvm_list.specs.declared.outcome.Outcome.{Outcome}
use Rattle.cvm_list.specs.declared.rule.Rule.{Rule}
use Rattle.emv_dict.specs.Flags.{tvr_bit}
use Rattle.emv_dict.specs.Progress.{Progress, Wants, Stopped, Done}
use Rattle.emv_dict.specs.declared.ending.Cause.{Cause}
use Rattle.emv_dict.specs.declared.verified.Verified.{Verified}

-- a rule whose outcome is known, with the answers behind those that it and earlier rules took
pub record RuleReached : Type 0 where
  pub outcome : Outcome
  pub rest : List (List ℕ)

-- behind the rules whose outcome is known there is none, or one that wants an answer, or one that got none
pub data Behind : Type 0 where
  Nothing : Behind
  Asking : (command : List ℕ) → Behind
  Stopping : (cause : Cause) → Behind

-- the rules whose condition holds, in order, as far as the answers say what comes of them; a PIN entry and an answer
-- that a rule took are gone for those behind it
pub record ReachedRules : Type 0 where
  pub known : List RuleReached
  pub behind : Behind

abbrev pub course_by : Trial → (List (List ℕ) → List (List ℕ) → ReachedRules) → ReachedRules
course_by (Known outcome pins rest) behind =
    record { known = record { outcome = outcome; rest = rest } ∷ (behind pins rest).known; behind = (behind pins rest).behind }
course_by (Asks command) behind = record { known = []; behind = Asking command }
course_by (Stops cause) behind = record { known = []; behind = Stopping cause }

unfoldable pub course : ℕ → List Rule → List (List ℕ) → List (List ℕ) → ReachedRules
course caps [] pins answers = record { known = []; behind = Nothing }
course caps (rule ∷ rules) pins answers = course_by (tried caps rule pins answers) (course caps rules)

-- a rule decides where it is successful or doesn't go on
abbrev pub is_deciding : Outcome → Bool
is_deciding outcome = outcome.good || not (applies_succeeding outcome.rule)

-- the index of the first rule that decides
unfoldable pub deciding : List RuleReached → Option ℕ
deciding [] = None
deciding (rule ∷ rules) = (if is_deciding rule.outcome then Some 0 else option_map suc (deciding rules))

-- what was found and one rule more: the union of the bits, the results of the last rule performed, whether the last
-- rule was successful, and its PIN for the issuer
abbrev pub found_after : Found → Outcome → Found
found_after found outcome = record {
  tvr = record { 0 = bit_or found.tvr.0 outcome.tvr.0 };
  results = (if outcome.performed then outcome.rule.method ∷ outcome.rule.condition ∷ outcome.result ∷ [] else found.results);
  good = outcome.good;
  online_pin = outcome.online_pin;
}

unfoldable pub after_all : Found → List RuleReached → Found
after_all found rules = fold (λ before rule. found_after before rule.outcome) found rules

-- the answers behind the last of these rules
unfoldable pub rest_behind : List (List ℕ) → List RuleReached → List (List ℕ)
rest_behind answers rules = fold (λ before rule. rule.rest) answers rules

-- before any rule: no bit, and the results of no method performed, failed
abbrev pub nothing_found : Found
nothing_found = record { tvr = record { 0 = 0 }; results = 0x3F ∷ 0x00 ∷ 0x01 ∷ []; good = false; online_pin = None }

-- verification was performed; where no rule was successful, it wasn't
abbrev pub verified : Found → Verified
verified found = record {
  results = found.results;
  tvr = record { 0 = (if found.good then found.tvr.0 else bit_or found.tvr.0 (tvr_bit 3 8)) };
  performed = true;
  online_pin = found.online_pin;
}

-- verification ends with these rules reached
abbrev pub verified_with : Found → List RuleReached → List (List ℕ) → Progress Verified
verified_with found reached answers = Done (verified (after_all found reached)) (rest_behind answers reached)

abbrev pub by_behind : Behind → Found → List RuleReached → List (List ℕ) → Progress Verified
by_behind Nothing found known answers = verified_with found known answers
by_behind (Asking command) found known answers = Wants command
by_behind (Stopping cause) found known answers = Stopped cause

abbrev pub by_place : Option ℕ → Behind → Found → List RuleReached → List (List ℕ) → Progress Verified
by_place (Some place) behind found known answers = verified_with found (take (suc place) known) answers
by_place None behind found known answers = by_behind behind found known answers

-- reached are the rules up to the first that decides, or all where there is none
unfoldable pub verified_by_rules : Found → ReachedRules → List (List ℕ) → Progress Verified
verified_by_rules found rules answers = by_place (deciding rules.known) rules.behind found rules.known answers
