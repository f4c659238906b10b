-- Laws of the rules of a list.
use Rattle.std.proofs.Common.{◌≡◌, ℕ, suc, Bool, true, false, if◌then◌else◌, List, [], ◌∷◌, ◌++◌, Option, Some, None, option_map, ap, subst, sym, refl, ◌∙◌}
use Rattle.apdu_core.specs.Response.{ResponseData, response_of}
use Rattle.cvm_list.proofs.Walk.{settled_is}
use Rattle.cvm_list.specs.Cvm.{ReachedRules, course, course_by, is_deciding, deciding, found_after, verified, verified_by_rules}
use Rattle.cvm_list.specs.Laws.{RulesBehindAreIdle, StandBehind, EntriesAreUsedOnce}
use Rattle.cvm_list.specs.Rules.{method_of, supports}
use Rattle.cvm_list.specs.Tried.{Trial, Known, Asks, Stops, tried, performed, pin_tried, online_tried, by_answer, by_said, said_of, unsupported}
use Rattle.cvm_list.specs.declared.outcome.Found.{Found}
use Rattle.cvm_list.specs.declared.outcome.Outcome.{Outcome}
use Rattle.cvm_list.specs.declared.outcome.Said.{Said}
use Rattle.cvm_list.specs.declared.outcome.Said.TheVariants.{Right, Again, Exceeded, Other}
use Rattle.cvm_list.specs.declared.rule.Method.{Method}
use Rattle.cvm_list.specs.declared.rule.Method.TheVariants.{Fail, PlainPin, OnlinePin, PlainPinAndSignature, EncipheredPin, EncipheredPinAndSignature, Signature, NoCvm, Unrecognised}
use Rattle.cvm_list.specs.declared.rule.Rule.{Rule}
use Rattle.emv_dict.specs.Progress.{Progress, Done}
use Rattle.emv_dict.specs.declared.verified.Verified.{Verified}

choice : (b : Bool) (d : Option ℕ) (place : ℕ) (x y z : Progress Verified) → ((q : ℕ) → d ≡ Some q → y ≡ z)
    → (if b then Some 0 else option_map suc d) ≡ Some place → (if b then x else y) ≡ (if b then x else z)
choice true d place x y z same is = refl
choice false (Some q) place x y z same is = same q refl
choice false None place x y z same is = cc

by_trial : (t : Trial) (one two : List (List ℕ) → List (List ℕ) → ReachedRules) (found : Found) (answers : List (List ℕ)) (place : ℕ)
    → ((found : Found) (pins rest : List (List ℕ)) (q : ℕ) → deciding (two pins rest).known ≡ Some q → verified_by_rules found (one pins rest) rest ≡ verified_by_rules found (two pins rest) rest)
    → deciding (course_by t two).known ≡ Some place
    → verified_by_rules found (course_by t one) answers ≡ verified_by_rules found (course_by t two) answers
unfolding deciding
by_trial (Known outcome pins rest) one two found answers place same is =
    settled_is found outcome one pins rest answers
    ∙ choice (is_deciding outcome) (deciding (two pins rest).known) place (Done (verified (found_after found outcome)) rest)
    (verified_by_rules (found_after found outcome) (one pins rest) rest) (verified_by_rules (found_after found outcome) (two pins rest) rest)
    (same (found_after found outcome) pins rest) is
    ∙ sym (settled_is found outcome two pins rest answers)
by_trial (Asks command) one two found answers place same is = cc
by_trial (Stops cause) one two found answers place same is = cc

pub behind_idle : RulesBehindAreIdle
unfolding course deciding
behind_idle caps [] more found pins answers place is = cc
behind_idle caps (rule ∷ rules) more found pins answers place is =
    by_trial (tried caps rule pins answers) (course caps (rules ++ more)) (course caps rules) found answers place
    (λ found pins rest q decided. behind_idle caps rules more found pins rest q decided) is

-- where a trial has an outcome, it leaves what stands behind what it took
abbrev Leaves : List (List ℕ) → List (List ℕ) → Trial → Type 0
Leaves pins answers (Known outcome left rest) = StandBehind pins left × StandBehind answers rest
Leaves pins answers (Asks command) = Unit {0}
Leaves pins answers (Stops cause) = Unit {0}

one_more : (pin : List ℕ) (pins left : List (List ℕ)) → StandBehind pins left → StandBehind (pin ∷ pins) left
one_more pin pins left (taken, same) = (pin ∷ taken, ap (λ ps. pin ∷ ps) same)

leaves_more : (t : Trial) (pin reply : List ℕ) (pins answers : List (List ℕ)) → Leaves pins answers t → Leaves (pin ∷ pins) (reply ∷ answers) t
leaves_more (Known outcome left rest) pin reply pins answers leaves = (one_more pin pins left leaves.0, one_more reply answers rest leaves.1)
leaves_more (Asks command) pin reply pins answers leaves = tt
leaves_more (Stops cause) pin reply pins answers leaves = tt

said_leaves : (rule : Rule) (result : ℕ) (said : Said) (pin reply : List ℕ) (pins rest : List (List ℕ)) (again : Trial)
    → Leaves pins rest again → Leaves (pin ∷ pins) (reply ∷ rest) (by_said rule result said pins rest again)
said_leaves rule result Right pin reply pins rest again leaves = ((pin ∷ [], refl), (reply ∷ [], refl))
said_leaves rule result Again pin reply pins rest again leaves = leaves_more again pin reply pins rest leaves
said_leaves rule result Exceeded pin reply pins rest again leaves = ((pin ∷ [], refl), (reply ∷ [], refl))
said_leaves rule result Other pin reply pins rest again leaves = ((pin ∷ [], refl), (reply ∷ [], refl))

answer_leaves : (rule : Rule) (result : ℕ) (o : Option ResponseData) (pin reply : List ℕ) (pins rest : List (List ℕ)) (again : Trial)
    → Leaves pins rest again → Leaves (pin ∷ pins) (reply ∷ rest) (by_answer rule result o pins rest again)
answer_leaves rule result (Some r) pin reply pins rest again leaves = said_leaves rule result (said_of r.status) pin reply pins rest again leaves
answer_leaves rule result None pin reply pins rest again leaves = tt

pin_leaves : (rule : Rule) (result : ℕ) (pins answers : List (List ℕ)) → Leaves pins answers (pin_tried rule result pins answers)
unfolding pin_tried
pin_leaves rule result [] answers = (([], refl), ([], refl))
pin_leaves rule result (pin ∷ pins) [] = tt
pin_leaves rule result (pin ∷ pins) (reply ∷ rest) =
    answer_leaves rule result (response_of reply) pin reply pins rest (pin_tried rule result pins rest) (pin_leaves rule result pins rest)

online_leaves : (rule : Rule) (pins answers : List (List ℕ)) → Leaves pins answers (online_tried rule pins answers)
online_leaves rule [] answers = (([], refl), ([], refl))
online_leaves rule (pin ∷ pins) answers = ((pin ∷ [], refl), ([], refl))

performed_leaves : (rule : Rule) (m : Method) (pins answers : List (List ℕ)) → Leaves pins answers (performed rule m pins answers)
performed_leaves rule Fail pins answers = (([], refl), ([], refl))
performed_leaves rule PlainPin pins answers = pin_leaves rule 2 pins answers
performed_leaves rule OnlinePin pins answers = online_leaves rule pins answers
performed_leaves rule PlainPinAndSignature pins answers = pin_leaves rule 0 pins answers
performed_leaves rule EncipheredPin pins answers = (([], refl), ([], refl))
performed_leaves rule EncipheredPinAndSignature pins answers = (([], refl), ([], refl))
performed_leaves rule Signature pins answers = (([], refl), ([], refl))
performed_leaves rule NoCvm pins answers = (([], refl), ([], refl))
performed_leaves rule Unrecognised pins answers = (([], refl), ([], refl))

tried_by : (b : Bool) (rule : Rule) (m : Method) (pins answers : List (List ℕ))
    → Leaves pins answers (if b then performed rule m pins answers else Known (unsupported rule) pins answers)
tried_by true rule m pins answers = performed_leaves rule m pins answers
tried_by false rule m pins answers = (([], refl), ([], refl))

tried_leaves : (caps : ℕ) (rule : Rule) (pins answers : List (List ℕ)) → Leaves pins answers (tried caps rule pins answers)
unfolding tried
tried_leaves caps rule pins answers = tried_by (supports caps (method_of rule)) rule (method_of rule) pins answers

along : (pins answers : List (List ℕ)) (t u : Trial) → t ≡ u → Leaves pins answers t → Leaves pins answers u
along pins answers t u same leaves = let P : Trial → Type 0 = λ t. Leaves pins answers t in subst P same leaves

pub used_once : EntriesAreUsedOnce
used_once caps rule pins answers outcome left rest is =
    along pins answers (tried caps rule pins answers) (Known outcome left rest) is (tried_leaves caps rule pins answers)
