use Rattle.std.proofs.Common.{◌≡◌, ℕ, ◌≤◌, ◌<◌, List, length, drop, ap, sym, ◌∙◌, arith, Bor, option_map}
use Rattle.cvm_list.proofs.Opening.{no_rules, with_rules}
use Rattle.cvm_list.proofs.Walk.{next_same}
use Rattle.cvm_list.proofs.verifying.with_list.Goals as goal
use Rattle.cvm_list.specs.Begun.{by_rules, holding, situation}
use Rattle.cvm_list.specs.Cvm.{course, nothing_found, verified_by_rules}
use Rattle.cvm_list.specs.Rules.{rules_of}
use Rattle.cvm_list.specs.declared.outcome.Found.{Found}
use Rattle.cvm_list.specs.declared.rule.Rule.{Rule}
use Rattle.cvm_list.specs.declared.rule.Situation.{Situation}
use Rattle.emv_dict.specs.Progress.{Progress}
use Rattle.emv_dict.specs.Views.{PurchaseData}
use Rattle.emv_dict.specs.declared.verified.Verified.{Verified}

pub returns-then-list-lt10-clause-leads : goal.returns-then-list-lt10-clause-leads
returns-then-list-lt10-clause-leads c later =
    let short : length c.args.list.now < 10 = omega arith in
    no_rules c.args.list.now _ c.args.purchase.now later c.passed.result short c.passed.ensures

pub returns-clause-leads : goal.returns-clause-leads
returns-clause-leads c =
    let list = c.args.list.now in
    let p = c.args.purchase.now in
    let s = situation list (option_map {T = Bor (List ℕ)} {U = List ℕ} (λ given. given.now) c.args.currency) c.args.settings.now p in
    let made = c.situation-s.result in
    let rules = rules_of (drop 8 list) in
    let kept = c.holding_rules-rules.result.items in
    let entries = c.as_slice-pins.result.now in
    let long : 10 ≤ length list = omega arith in
    let f : Found → Situation → List Rule → List (List ℕ) → List (List ℕ) → Progress Verified = λ found s rules pins later. verified_by_rules found (course s.caps rules pins later) later in
    let pins : p.pins ≡ entries = cc in
    next_same (by_rules rules s p) (f c.nothing_found.result made kept entries) c.walk.result
    (λ later. with_rules list s p later long
    ∙ ap (λ (x : Situation). f nothing_found x (holding x rules) p.pins later) (sym c.situation-s.ensures)
    ∙ ap (λ (x : List Rule). f nothing_found made x p.pins later) (sym c.holding_rules-rules.ensures)
    ∙ ap (λ (x : List (List ℕ)). f nothing_found made kept x later) pins
    ∙ ap (λ (x : Found). f x made kept entries later) (sym c.nothing_found.ensures))
    c.walk.ensures.leads
