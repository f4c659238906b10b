use Rattle.std.proofs.Common.{◌≡◌, ℕ, ◌==◌, false, List, drop, Some, option_map, Bor, bit_and, slice_index, sym, rules, arith}
use Rattle.std.proofs.lemmas.Grind.{common_steps}
use Rattle.env_map.specs.Entries.{value_of}
use Rattle.cvm_list.proofs.Opening.{begun}
use Rattle.cvm_list.proofs.Walk.{next_same}
use Rattle.cvm_list.specs.Begun.{by_rules, cvm, situation}
use Rattle.cvm_list.specs.Rules.{rules_of}
use Rattle.cvm_list.proofs.verifying.Verifying.begin.Goals as goal

pub returns-in-Some-clause-leads : goal.returns-in-Some-clause-leads
returns-in-Some-clause-leads c =
    let card = c.args.card.now in
    let settings = c.args.settings.now in
    let p = c.args.purchase.now in
    let list = c.in-Some.list.now in
    let currency = option_map {T = Bor (List ℕ)} {U = List ℕ} (λ given. given.now) c.value-in-Some.result in
    let asks : (bit_and (slice_index card.aip 0) 0x10 == 0) ≡ false = first_of (search rules, grind (arith, common_steps)) in
    let there : value_of 0x8E card.entries ≡ Some list = first_of (search rules, cc) in
    next_same (cvm card settings p) (by_rules (rules_of (drop 8 list)) (situation list currency settings p) p) c.with_list.result
    (λ later. begun card settings p list currency later asks there (sym c.value-in-Some.ensures.value))
    c.with_list.ensures.leads
