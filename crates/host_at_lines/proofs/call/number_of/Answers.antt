use Rattle.std.proofs.Common.{◌+◌, Bool, cond, drop, Option, Some, sym, ap, ◌∙◌}
use Rattle.std.specs.List.{position_from}
use Rattle.host_at_lines.specs.Calls.{is_of}
use Rattle.host_at_lines.specs.declared.call.Call.{Call}
use Rattle.host_at_lines.proofs.Places.{step_number}
use Rattle.host_at_lines.proofs.call.number_of.Goals as goal

pub returns-then-is_of : goal.returns-then-is_of
returns-then-is_of c =
    let t : Option Call → Bool = λ call. is_of c.args.kind c.args.key.now call in
    let i = c.loop-place.place in
    let step = step_number t c.args.calls.now i (i + 1) c.index-calls-place.result c.loop-place-test.true c.index-calls-place.is in
    let yes = sym c.is_of.ensures ∙ c.if-is_of.true in
    sym (step ∙ ap (λ b. cond b (Some (i + 1)) (position_from t (i + 1 + 1) (drop (i + 1) c.args.calls.now))) yes) ∙ c.loop-place.invariant

pub loop-place-preserved : goal.loop-place-preserved
loop-place-preserved c =
    let t : Option Call → Bool = λ call. is_of c.args.kind c.args.key.now call in
    let i = c.loop-place.place in
    let step = step_number t c.args.calls.now i (i + 1) c.index-calls-place.result c.loop-place-test.true c.index-calls-place.is in
    let no = sym c.is_of.ensures ∙ c.if-is_of.false in
    sym (step ∙ ap (λ b. cond b (Some (i + 1)) (position_from t (i + 1 + 1) (drop (i + 1) c.args.calls.now))) no) ∙ c.loop-place.invariant
