-- Steps along the rules of a list.
use Rattle.std.proofs.Common.{◌≡◌, ℕ, suc, Bool, true, false, ◌&&◌, IsTrue, if◌then◌else◌, List, [], ◌∷◌, ◌++◌, length, take, drop, Option, Some, None, option_map, ap, sym, refl, ◌∙◌, cond, bit_or, arith}
use Rattle.std.proofs.lemmas.Bool.{false≢true}
use Rattle.apdu_core.specs.Response.{ResponseData, response_of}
use Rattle.cvm_list.specs.Cvm.{RuleReached, Behind, Nothing, Asking, Stopping, ReachedRules, course, course_by, is_deciding, deciding, found_after, after_all, rest_behind, verified, by_place, by_behind, verified_by_rules}
use Rattle.cvm_list.specs.NextIs.{VerifyNextLeads}
use Rattle.cvm_list.specs.Plain.{is_plain, plain_result, asks_card}
use Rattle.cvm_list.specs.Rules.{method_of, supports}
use Rattle.cvm_list.specs.Settled.{rest_behind_rule, said_in}
use Rattle.cvm_list.specs.Tried.{Trial, Known, Asks, Stops, tried, performed, pin_tried, by_answer, by_said, said_of, successful, failed, verify_command}
use Rattle.cvm_list.specs.Waiting.{VerifyingData, verifying_rest}
use Rattle.cvm_list.specs.declared.outcome.Found.{Found}
use Rattle.cvm_list.specs.declared.outcome.Outcome.{Outcome}
use Rattle.cvm_list.specs.declared.outcome.Said.{Said}
use Rattle.cvm_list.specs.declared.outcome.Said.TheVariants.{Right, Again, Exceeded, Other}
use Rattle.cvm_list.specs.declared.rule.Method.{Method}
use Rattle.cvm_list.specs.declared.rule.Method.TheVariants.{Fail, PlainPin, OnlinePin, PlainPinAndSignature, EncipheredPin, EncipheredPinAndSignature, Signature, NoCvm, Unrecognised}
use Rattle.cvm_list.specs.declared.rule.Rule.{Rule}
use Rattle.cvm_list.specs.declared.verifying.VerifyNext.{VerifyNext}
use Rattle.cvm_list.specs.declared.verifying.VerifyNext.TheVariants as next
use Rattle.emv_dict.proofs.Steps.{leads_more}
use Rattle.emv_dict.specs.Flags.{tvr_bit}
use Rattle.emv_dict.specs.Progress.{Progress, Leads, Wants, Stopped, Done}
use Rattle.emv_dict.specs.declared.ending.Cause.TheVariants.{Answer}
use Rattle.emv_dict.specs.declared.verified.Verified.{Verified}

-- the rule behind which none decides, as far as known
behind_by : (b : Behind) (found : Found) (x : RuleReached) (known : List RuleReached) (answers : List (List ℕ))
    → by_behind b found (x ∷ known) answers ≡ by_behind b (found_after found x.outcome) known x.rest
unfolding after_all rest_behind
behind_by Nothing found x known answers = refl
behind_by (Asking command) found x known answers = refl
behind_by (Stopping cause) found x known answers = refl

place_by : (d : Option ℕ) (b : Behind) (found : Found) (x : RuleReached) (known : List RuleReached) (answers : List (List ℕ))
    → by_place (option_map suc d) b found (x ∷ known) answers ≡ by_place d b (found_after found x.outcome) known x.rest
unfolding after_all rest_behind
place_by None b found x known answers = behind_by b found x known answers
place_by (Some place) b found x known answers = refl

settled_by : (t : Bool) (b : Behind) (found : Found) (x : RuleReached) (known : List RuleReached) (answers : List (List ℕ))
    → by_place (if t then Some 0 else option_map suc (deciding known)) b found (x ∷ known) answers
    ≡ (if t then Done (verified (found_after found x.outcome)) x.rest else by_place (deciding known) b (found_after found x.outcome) known x.rest)
unfolding after_all rest_behind
settled_by true b found x known answers = refl
settled_by false b found x known answers = place_by (deciding known) b found x known answers

-- behind a rule whose outcome is known
pub settled_is : (found : Found) (outcome : Outcome) (behind : List (List ℕ) → List (List ℕ) → ReachedRules) (pins rest answers : List (List ℕ))
    → verified_by_rules found (course_by (Known outcome pins rest) behind) answers ≡ rest_behind_rule found outcome behind pins rest
unfolding verified_by_rules deciding
settled_is found outcome behind pins rest answers =
    settled_by (is_deciding outcome) (behind pins rest).behind found (record { outcome = outcome; rest = rest }) (behind pins rest).known answers

-- no rule is left
pub none_left : (found : Found) (caps : ℕ) (rules : List Rule) (pins answers : List (List ℕ)) → rules ≡ [] → verified_by_rules found (course caps rules pins answers) answers ≡ Done (verified found) answers
unfolding course verified_by_rules deciding after_all rest_behind
none_left found caps rules pins answers none = ap (λ rules. verified_by_rules found (course caps rules pins answers) answers) none

-- one rule
pub one_rule : (found : Found) (caps : ℕ) (rules : List Rule) (rule : Rule) (others : List Rule) (pins answers : List (List ℕ)) (trial : Trial)
    → rules ≡ rule ∷ others → tried caps rule pins answers ≡ trial
    → verified_by_rules found (course caps rules pins answers) answers ≡ verified_by_rules found (course_by trial (course caps others)) answers
unfolding course
one_rule found caps rules rule others pins answers trial stands is =
    ap (λ rules. verified_by_rules found (course caps rules pins answers) answers) stands
    ∙ ap (λ trial. verified_by_rules found (course_by trial (course caps others)) answers) is

first_of : (a b : Bool) → (a && b) ≡ true → a ≡ true
first_of true b both = refl
first_of false b both = both

second_of : (a b : Bool) → (a && b) ≡ true → b ≡ true
second_of true b both = both
second_of false b both = absurd (false≢true both)

plain_by : (rule : Rule) (m : Method) (pins answers : List (List ℕ)) → is_plain m ≡ true → performed rule m pins answers ≡ pin_tried rule (plain_result m) pins answers
plain_by rule Fail pins answers is = absurd (false≢true is)
plain_by rule PlainPin pins answers is = refl
plain_by rule OnlinePin pins answers is = absurd (false≢true is)
plain_by rule PlainPinAndSignature pins answers is = refl
plain_by rule EncipheredPin pins answers is = absurd (false≢true is)
plain_by rule EncipheredPinAndSignature pins answers is = absurd (false≢true is)
plain_by rule Signature pins answers is = absurd (false≢true is)
plain_by rule NoCvm pins answers is = absurd (false≢true is)
plain_by rule Unrecognised pins answers is = absurd (false≢true is)

-- a rule that asks the card
pub asks_tried : (caps : ℕ) (rule : Rule) (pins answers : List (List ℕ)) → IsTrue (asks_card caps rule) → tried caps rule pins answers ≡ pin_tried rule (plain_result (method_of rule)) pins answers
unfolding tried
asks_tried caps rule pins answers asks =
    rw (first_of (supports caps (method_of rule)) (is_plain (method_of rule)) asks)
    (plain_by rule (method_of rule) pins answers (second_of (supports caps (method_of rule)) (is_plain (method_of rule)) asks))

-- the card is asked
pub asked : (found : Found) (caps : ℕ) (rule : Rule) (others : List Rule) (pin : List ℕ) (pins : List (List ℕ)) → IsTrue (asks_card caps rule)
    → verified_by_rules found (course caps (rule ∷ others) (pin ∷ pins) []) [] ≡ Wants (verify_command pin)
unfolding pin_tried verified_by_rules deciding
asked found caps rule others pin pins asks =
    one_rule found caps (rule ∷ others) rule others (pin ∷ pins) [] (Asks (verify_command pin)) refl (asks_tried caps rule (pin ∷ pins) [] asks)

-- the card has answered
pub answered : (found : Found) (caps : ℕ) (rule : Rule) (others : List Rule) (pin : List ℕ) (pins : List (List ℕ)) (reply : List ℕ) (later : List (List ℕ)) (response : Option ResponseData)
    → IsTrue (asks_card caps rule) → response_of reply ≡ response
    → verified_by_rules found (course caps (rule ∷ others) (pin ∷ pins) (reply ∷ later)) (reply ∷ later)
    ≡ verified_by_rules found (course_by (by_answer rule (plain_result (method_of rule)) response pins later (pin_tried rule (plain_result (method_of rule)) pins later)) (course caps others)) (reply ∷ later)
unfolding pin_tried
answered found caps rule others pin pins reply later response asks read =
    one_rule found caps (rule ∷ others) rule others (pin ∷ pins) (reply ∷ later) _ refl
    (asks_tried caps rule (pin ∷ pins) (reply ∷ later) asks ∙ ap (λ r. by_answer rule (plain_result (method_of rule)) r pins later (pin_tried rule (plain_result (method_of rule)) pins later)) read)

-- the answers that are left are told by the rule
pub answers_apart : (found : Found) (trial : Trial) (behind : List (List ℕ) → List (List ℕ) → ReachedRules) (a b : List (List ℕ))
    → verified_by_rules found (course_by trial behind) a ≡ verified_by_rules found (course_by trial behind) b
unfolding verified_by_rules deciding
answers_apart found (Known outcome pins rest) behind a b = settled_is found outcome behind pins rest a ∙ sym (settled_is found outcome behind pins rest b)
answers_apart found (Asks command) behind a b = refl
answers_apart found (Stops cause) behind a b = refl

by_response : (rule : Rule) (result : ℕ) (o : Option ResponseData) (said : Said) (pins rest : List (List ℕ)) (again : Trial)
    → option_map (λ r. said_of r.status) o ≡ Some said → by_answer rule result o pins rest again ≡ by_said rule result said pins rest again
by_response rule result None said pins rest again is = cc
by_response rule result (Some r) said pins rest again is =
    let same : said_of r.status ≡ said = cc in
    ap (λ s. by_said rule result s pins rest again) same

no_response : (rule : Rule) (result : ℕ) (o : Option ResponseData) (pins rest : List (List ℕ)) (again : Trial)
    → option_map (λ r. said_of r.status) o ≡ None → by_answer rule result o pins rest again ≡ Stops Answer
no_response rule result None pins rest again is = refl
no_response rule result (Some r) pins rest again is = cc

module _ (s : VerifyingData) (found : Found) (caps : ℕ) (rule : Rule) (others : List Rule) (pin : List ℕ) (pins : List (List ℕ)) (reply : List ℕ)
    (seen : record { found = found; caps = caps; rules = rule ∷ others; pins = pin ∷ pins } ≡ s) (asks : IsTrue (asks_card caps rule)) where
  -- the card's answer is a response that says so
  after_said : (said : Said) → said_in reply ≡ Some said → (later : List (List ℕ))
      → verifying_rest s (reply ∷ later)
      ≡ verified_by_rules found (course_by (by_said rule (plain_result (method_of rule)) said pins later (pin_tried rule (plain_result (method_of rule)) pins later)) (course caps others)) (reply ∷ later)
  after_said said is later =
      ap (λ s. verifying_rest s (reply ∷ later)) (sym seen)
      ∙ answered found caps rule others pin pins reply later (response_of reply) asks refl
      ∙ ap (λ t. verified_by_rules found (course_by t (course caps others)) (reply ∷ later))
      (by_response rule (plain_result (method_of rule)) (response_of reply) said pins later (pin_tried rule (plain_result (method_of rule)) pins later) is)

  pub unreadable : said_in reply ≡ None → (later : List (List ℕ)) → verifying_rest s (reply ∷ later) ≡ Stopped Answer
  unfolding verified_by_rules deciding
  unreadable is later =
      ap (λ s. verifying_rest s (reply ∷ later)) (sym seen)
      ∙ answered found caps rule others pin pins reply later (response_of reply) asks refl
      ∙ ap (λ t. verified_by_rules found (course_by t (course caps others)) (reply ∷ later))
      (no_response rule (plain_result (method_of rule)) (response_of reply) pins later (pin_tried rule (plain_result (method_of rule)) pins later) is)

  pub right : said_in reply ≡ Some Right → (later : List (List ℕ))
      → verifying_rest s (reply ∷ later) ≡ rest_behind_rule found (successful rule (plain_result (method_of rule))) (course caps others) pins later
  right is later = after_said Right is later ∙ settled_is found (successful rule (plain_result (method_of rule))) (course caps others) pins later (reply ∷ later)

  pub exceeded : said_in reply ≡ Some Exceeded → (later : List (List ℕ))
      → verifying_rest s (reply ∷ later) ≡ rest_behind_rule found (failed rule (tvr_bit 3 6)) (course caps others) pins later
  exceeded is later = after_said Exceeded is later ∙ settled_is found (failed rule (tvr_bit 3 6)) (course caps others) pins later (reply ∷ later)

  pub other : said_in reply ≡ Some Other → (later : List (List ℕ))
      → verifying_rest s (reply ∷ later) ≡ rest_behind_rule found (failed rule 0) (course caps others) pins later
  other is later = after_said Other is later ∙ settled_is found (failed rule 0) (course caps others) pins later (reply ∷ later)

  pub again : said_in reply ≡ Some Again → (later : List (List ℕ))
      → verifying_rest s (reply ∷ later) ≡ verified_by_rules found (course caps (rule ∷ others) pins later) later
  again is later =
      after_said Again is later
      ∙ answers_apart found (pin_tried rule (plain_result (method_of rule)) pins later) (course caps others) (reply ∷ later) later
      ∙ sym (one_rule found caps (rule ∷ others) rule others pins later _ refl (asks_tried caps rule pins later asks))

-- what goes on as `next` does after one answer more
pub leads_on : (whole start behind : List (List ℕ) → Progress Verified) (answers : List (List ℕ)) (reply : List ℕ) (n : VerifyNext)
    → Leads whole answers start → ((later : List (List ℕ)) → start (reply ∷ later) ≡ behind later) → VerifyNextLeads behind [] n → VerifyNextLeads whole (answers ++ reply ∷ []) n
leads_on whole start behind answers reply (next.Ask s) leads on goes = leads_more whole start (verifying_rest s) answers reply leads (λ later. on later ∙ goes later)
leads_on whole start behind answers reply (next.Done v) leads on goes = leads_more whole start (λ later. Done v later) answers reply leads (λ later. on later ∙ goes later)
leads_on whole start behind answers reply (next.Ended cause) leads on goes = leads_more whole start (λ _. Stopped cause) answers reply leads (λ later. on later ∙ goes later)

-- goes on as another start does that is the same for all answers
pub next_same : (start other : List (List ℕ) → Progress Verified) (n : VerifyNext)
    → ((later : List (List ℕ)) → start later ≡ other later) → VerifyNextLeads other [] n → VerifyNextLeads start [] n
next_same start other (next.Ask s) on goes = λ later. on later ∙ goes later
next_same start other (next.Done v) on goes = λ later. on later ∙ goes later
next_same start other (next.Ended cause) on goes = λ later. on later ∙ goes later

-- a rule whose outcome no answer changes
pub known_step : (found : Found) (caps : ℕ) (rules : List Rule) (rule : Rule) (others : List Rule) (pins : List (List ℕ)) (outcome : Outcome) (left : List (List ℕ))
    → rules ≡ rule ∷ others → ((later : List (List ℕ)) → tried caps rule pins later ≡ Known outcome left later)
    → (later : List (List ℕ)) → verified_by_rules found (course caps rules pins later) later ≡ rest_behind_rule found outcome (course caps others) left later
known_step found caps rules rule others pins outcome left stands is later =
    one_rule found caps rules rule others pins later (Known outcome left later) stands (is later)
    ∙ settled_is found outcome (course caps others) left later later

pub done_step : (found : Found) (outcome : Outcome) (behind : List (List ℕ) → List (List ℕ) → ReachedRules) (pins rest : List (List ℕ)) (v : Verified)
    → is_deciding outcome ≡ true → v ≡ verified (found_after found outcome) → rest_behind_rule found outcome behind pins rest ≡ Done v rest
done_step found outcome behind pins rest v deciding same =
    let choice : Bool → Progress Verified = λ t. if t then Done (verified (found_after found outcome)) rest else verified_by_rules (found_after found outcome) (behind pins rest) rest in
    let done : Verified → Progress Verified = λ v. Done v rest in
    ap choice deciding ∙ ap done (sym same)

pub on_step : (found : Found) (outcome : Outcome) (behind : List (List ℕ) → List (List ℕ) → ReachedRules) (pins rest : List (List ℕ)) (more : Found)
    → is_deciding outcome ≡ false → more ≡ found_after found outcome → rest_behind_rule found outcome behind pins rest ≡ verified_by_rules more (behind pins rest) rest
on_step found outcome behind pins rest more deciding same =
    let choice : Bool → Progress Verified = λ t. if t then Done (verified (found_after found outcome)) rest else verified_by_rules (found_after found outcome) (behind pins rest) rest in
    let go : Found → Progress Verified = λ f. verified_by_rules f (behind pins rest) rest in
    ap choice deciding ∙ ap go (sym same)
