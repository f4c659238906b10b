use Rattle.std.proofs.Common.{◌≡◌, ℕ, ◌+◌, List, ◌∷◌, Option, Some, None, drop, ap, sym, ◌∙◌}
use Rattle.cvm_list.proofs.Walk.{unreadable, again, right, exceeded, other, leads_on}
use Rattle.cvm_list.proofs.verifying.Verifying.take.Goals as goal
use Rattle.cvm_list.specs.Cvm.{course, verified_by_rules}
use Rattle.cvm_list.specs.Plain.{plain_result}
use Rattle.cvm_list.specs.Rules.{method_of}
use Rattle.cvm_list.specs.Settled.{rest_behind_rule, said_in}
use Rattle.cvm_list.specs.Tried.{successful, failed}
use Rattle.cvm_list.specs.Waiting.{verifying_rest}
use Rattle.cvm_list.specs.declared.outcome.Outcome.{Outcome}
use Rattle.cvm_list.specs.declared.outcome.Said.{Said}
use Rattle.cvm_list.specs.declared.outcome.Said.TheVariants.{Right, Again, Exceeded, Other}
use Rattle.cvm_list.specs.declared.rule.Rule.{Rule}
use Rattle.emv_dict.proofs.Steps.{leads_more}
use Rattle.emv_dict.specs.Progress.{Progress, Stopped}
use Rattle.emv_dict.specs.declared.ending.Cause.TheVariants.{Answer}
use Rattle.emv_dict.specs.declared.verified.Verified.{Verified}

pub returns-in-None-clause-leads : goal.returns-in-None-clause-leads
returns-in-None-clause-leads c whole answers leads =
    let s = c.self.inside in
    let is : said_in c.args.reply.now ≡ None = sym c.read_said.ensures ∙ c.in-None.is in
    leads_more whole (verifying_rest c.args.self) (λ _. Stopped Answer) answers c.args.reply.now leads
    (unreadable c.args.self s.found s.caps s.rule (drop (s.at + 1) s.rules.items) s.pin.now s.pins.now c.args.reply.now c.self.view_is c.self.invariant.asks is)

pub returns-in-Some-Again-clause-leads : goal.returns-in-Some-Again-clause-leads
returns-in-Some-Again-clause-leads c whole answers leads =
    let s = c.self.inside in
    let some : Said → Option Said = λ said. Some said in
    let is : said_in c.args.reply.now ≡ Some Again = sym c.read_said.ensures ∙ c.in-Some-Again.is ∙ ap some c.in-Some-Again.field-0-is in
    leads_on whole (verifying_rest c.args.self) (λ later. verified_by_rules s.found (course s.caps (drop s.at s.rules.items) s.pins.now later) later) answers c.args.reply.now c.walk.result leads
    (λ later. again c.args.self s.found s.caps s.rule (drop (s.at + 1) s.rules.items) s.pin.now s.pins.now c.args.reply.now c.self.view_is c.self.invariant.asks is later
    ∙ ap (λ (rules : List Rule). verified_by_rules s.found (course s.caps rules s.pins.now later) later) (sym c.self.invariant.stands))
    c.walk.ensures.leads

pub returns-in-Some-Right-clause-leads : goal.returns-in-Some-Right-clause-leads
returns-in-Some-Right-clause-leads c whole answers leads =
    let s = c.self.inside in
    let some : Said → Option Said = λ said. Some said in
    let is : said_in c.args.reply.now ≡ Some Right = sym c.read_said.ensures ∙ c.in-Some-Right.is ∙ ap some c.in-Some-Right.field-0-is in
    let made : c.successful-outcome.result ≡ successful s.rule (plain_result (method_of s.rule)) = c.successful-outcome.ensures ∙ ap (λ (r : ℕ). successful s.rule r) c.right_result.ensures in
    let behind = course s.caps (drop (s.at + 1) s.rules.items) in
    leads_on whole (verifying_rest c.args.self) (rest_behind_rule s.found c.successful-outcome.result behind s.pins.now) answers c.args.reply.now c.go_on.result leads
    (λ later. right c.args.self s.found s.caps s.rule (drop (s.at + 1) s.rules.items) s.pin.now s.pins.now c.args.reply.now c.self.view_is c.self.invariant.asks is later
    ∙ ap (λ (o : Outcome). rest_behind_rule s.found o behind s.pins.now later) (sym made))
    c.go_on.ensures.leads

pub returns-in-Some-Exceeded-clause-leads : goal.returns-in-Some-Exceeded-clause-leads
returns-in-Some-Exceeded-clause-leads c whole answers leads =
    let s = c.self.inside in
    let some : Said → Option Said = λ said. Some said in
    let is : said_in c.args.reply.now ≡ Some Exceeded = sym c.read_said.ensures ∙ c.in-Some-Exceeded.is ∙ ap some c.in-Some-Exceeded.field-0-is in
    let behind = course s.caps (drop (s.at + 1) s.rules.items) in
    leads_on whole (verifying_rest c.args.self) (rest_behind_rule s.found c.failed-outcome.result behind s.pins.now) answers c.args.reply.now c.go_on-in-Some-Exceeded.result leads
    (λ later. exceeded c.args.self s.found s.caps s.rule (drop (s.at + 1) s.rules.items) s.pin.now s.pins.now c.args.reply.now c.self.view_is c.self.invariant.asks is later
    ∙ ap (λ (o : Outcome). rest_behind_rule s.found o behind s.pins.now later) (sym c.failed-outcome.ensures))
    c.go_on-in-Some-Exceeded.ensures.leads

pub returns-in-Some-Other-clause-leads : goal.returns-in-Some-Other-clause-leads
returns-in-Some-Other-clause-leads c whole answers leads =
    let s = c.self.inside in
    let some : Said → Option Said = λ said. Some said in
    let is : said_in c.args.reply.now ≡ Some Other = sym c.read_said.ensures ∙ c.in-Some-Other.is ∙ ap some c.in-Some-Other.field-0-is in
    let behind = course s.caps (drop (s.at + 1) s.rules.items) in
    leads_on whole (verifying_rest c.args.self) (rest_behind_rule s.found c.failed-outcome-in-Some-Other.result behind s.pins.now) answers c.args.reply.now c.go_on-in-Some-Other.result leads
    (λ later. other c.args.self s.found s.caps s.rule (drop (s.at + 1) s.rules.items) s.pin.now s.pins.now c.args.reply.now c.self.view_is c.self.invariant.asks is later
    ∙ ap (λ (o : Outcome). rest_behind_rule s.found o behind s.pins.now later) (sym c.failed-outcome-in-Some-Other.ensures))
    c.go_on-in-Some-Other.ensures.leads
