use Rattle.std.proofs.Common.{◌≡◌, List, ℕ, [], length, ap, arith, rules}
use Rattle.script_run.specs.Ran.{template_ran}
use Rattle.script_run.specs.Script.{commands_of}
use Rattle.script_run.proofs.Bounds.{commands_few}
use Rattle.script_run.proofs.Form.{begun}
use Rattle.script_run.proofs.running.Running.begin.Goals as goal

pub returns-clause-leads : goal.returns-clause-leads
returns-clause-leads c =
    let copied : c.append.new.out.items ≡ c.args.template.now = search (rules, c.append.ensures.items, c.new-copy.ensures) in
    c.go_on.ensures.leads (template_ran c.args.template.now) [] (begun c.args.template.now c.append.new.out.items c.in-Some.identifier c.in-Some.ensures.identifier copied)

pub returns-clause-few : goal.returns-clause-few
returns-clause-few c =
    let few = commands_few c.args.template.now in
    let left = c.go_on.ensures.left in
    let copied : c.append.new.out.items ≡ c.args.template.now = search (rules, c.append.ensures.items, c.new-copy.ensures) in
    let same : length (commands_of c.append.new.out.items) ≡ length (commands_of c.args.template.now) = ap (λ (bytes : List ℕ). length (commands_of bytes)) copied in
    omega arith
