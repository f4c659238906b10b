use Rattle.std.proofs.Common.{List, ℕ, Option, Some, ap, ◌∙◌}
use Rattle.std.specs.Result.{is_ok}
use Rattle.host_at_lines.specs.Because.{because_by}
use Rattle.host_at_lines.specs.declared.because.Because.{Because as Why}
use Rattle.host_at_lines.specs.declared.call.Call.{Call}
use Rattle.host_at_lines.proofs.Standing.{asked, pushed}
use Rattle.host_at_lines.proofs.at_lines.ask.Goals as goal

pub returns-clause-stands : goal.returns-clause-stands
returns-clause-stands c = λ heard at.
    let call : Option Call = c.call_of-call.result in
    let reply : List ℕ = c.answer.new.out.items in
    asked c.args.at.now.host c.answer.new.self c.args.at.now.accounts.now c.args.at.now.calls.items c.args.at.now.because heard at c.args.message.now reply call
    c.reason-reason.result c.in_ok-answer.ensures.keys c.in_ok-answer.ensures.accounts c.call_of-call.ensures c.reason-reason.ensures.exact c.in_ok-answer.ensures.reply
    c.push.new.self.items (Some c.because_for-why.result) c.in_ok-answer.ensures.stands
    (pushed c.args.at.now.calls.items c.reserve.new.self.items c.push.new.self.items call (is_ok c.push.result) c.push.ensures.items c.if-is_err.ensures.negation c.reserve.ensures.items)
    (ap (λ (w : Why). Some w)
    (c.because_for-why.ensures
    ∙ ap (λ (x : List (Option Call)). because_by x call c.reason-reason.result c.as_slice-2.result.now) (c.as_slice.ensures.value ∙ c.reserve.ensures.items)
    ∙ ap (λ (x : List ℕ). because_by c.args.at.now.calls.items call c.reason-reason.result x) c.as_slice-2.ensures.value))
