use Rattle.std.proofs.Common.{◌≤◌, ◌+◌, ℕ, List, length, drop, ap, sym, ◌∙◌, arith}
use Rattle.std.proofs.lemmas.List.{drop_all}
use Rattle.cvm_list.proofs.Walk.{none_left, known_step, done_step, on_step, next_same}
use Rattle.cvm_list.proofs.verifying.+walk.Goals as goal
use Rattle.cvm_list.specs.Cvm.{course, verified_by_rules}
use Rattle.emv_dict.specs.Progress.{Progress, Done}
use Rattle.emv_dict.specs.declared.verified.Verified.{Verified}

pub returns-then-at-len-clause-leads : goal.returns-then-at-len-clause-leads
returns-then-at-len-clause-leads t c later =
    let rules = c.args.rules.items in
    let past : length rules ≤ c.args.at = omega (arith, c.len.ensures.value) in
    let done : Verified → Progress Verified = λ v. Done v later in
    none_left c.args.found c.args.caps (drop c.args.at rules) c.args.pins.now later (drop_all c.args.at rules past) ∙ ap done (sym c.verified.ensures)

pub returns-in-GoesOn-clause-leads : goal.returns-in-GoesOn-clause-leads
returns-in-GoesOn-clause-leads t c =
    let rules = c.args.rules.items in
    let left = c.in-Known.pins.now in
    let behind = course c.args.caps (drop (c.args.at + 1) rules) in
    next_same (λ later. verified_by_rules c.args.found (course c.args.caps (drop c.args.at rules) c.args.pins.now later) later)
    (λ later. verified_by_rules c.in-GoesOn.found (behind left later) later) c.walk.result
    (λ later. known_step c.args.found c.args.caps (drop c.args.at rules) c.rule_at-rule.result (drop (c.args.at + 1) rules) c.args.pins.now c.in-Known.outcome left c.rule_at-rule.ensures c.in-Known.ensures.is later
    ∙ on_step c.args.found c.in-Known.outcome behind left later c.in-GoesOn.found c.in-GoesOn.ensures.0 c.in-GoesOn.ensures.1)
    c.walk.ensures.leads

pub returns-in-Done-clause-leads : goal.returns-in-Done-clause-leads
returns-in-Done-clause-leads t c later =
    let rules = c.args.rules.items in
    let left = c.in-Known.pins.now in
    let behind = course c.args.caps (drop (c.args.at + 1) rules) in
    known_step c.args.found c.args.caps (drop c.args.at rules) c.rule_at-rule.result (drop (c.args.at + 1) rules) c.args.pins.now c.in-Known.outcome left c.rule_at-rule.ensures c.in-Known.ensures.is later
    ∙ done_step c.args.found c.in-Known.outcome behind left later c.in-Done.verified c.in-Done.ensures.0 c.in-Done.ensures.1
