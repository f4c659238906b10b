use Rattle.std.proofs.Common.{◌≡◌, List, ℕ, ◌∷◌, subst, rules, arith}
use Rattle.std.specs.List.{All}
use Rattle.std.proofs.lemmas.Grind.{common_steps}
use Rattle.std.proofs.lemmas.List.Elements.{All-head, All-tail}
use Rattle.emv_dict.specs.Digits.{HasPinLength}
use Rattle.cvm_list.proofs.attempt.try_rule.Goals as goal

pub returns-in-Some-clause-pins : goal.returns-in-Some-clause-pins
returns-in-Some-clause-pins c =
    let pin = c.in-Some.pin.now in
    let others = c.in-Some.others.now in
    let same : c.args.pins.now ≡ pin ∷ others = first_of (search rules, grind (arith, common_steps)) in
    let P : List (List ℕ) → Type 0 = λ pins. All HasPinLength pins in
    let all = subst P same c.requires in
    (All-head HasPinLength pin others all, All-tail HasPinLength pin others all)

pub returns-in-Some-split_first-clause-pins : goal.returns-in-Some-split_first-clause-pins
returns-in-Some-split_first-clause-pins c =
    let pin = c.in-Some-split_first.pin.now in
    let others = c.in-Some-split_first.others.now in
    let same : c.args.pins.now ≡ pin ∷ others = first_of (search rules, grind (arith, common_steps)) in
    let P : List (List ℕ) → Type 0 = λ pins. All HasPinLength pins in
    All-tail HasPinLength pin others (subst P same c.requires)
