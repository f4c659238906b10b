use Rattle.std.proofs.Common.{◌≡◌, subst, sym}
use Rattle.terminal_at_reader.specs.Talk.{HasAmounts}
use Rattle.terminal_at_reader.specs.Till.{TillData}
use Rattle.terminal_at_reader.proofs.till.Till.keep.Goals as goal

pub returns-clause-amounts : goal.returns-clause-amounts
returns-clause-amounts c = λ fits amounts.
    let seen : TillData = record { begun = c.self.inside.begun; log = c.self.inside.log.items; captures = c.self.inside.captures.items; question = c.self.inside.question; log_before = c.self.inside.log_before; captures_before = c.self.inside.captures_before } in
    let same : seen ≡ c.args.self.now = cc c.self.view_is in
    c.in_ok-add_approval.ensures.amounts fits (subst (λ (t : TillData). HasAmounts t.log) (sym same) amounts)
