use Rattle.std.proofs.Common.{ap, sym, ◌∙◌, ◌∷◌, ℕ, List, true, Ok, Err}
use Rattle.emv_dict.proofs.Steps.{leads_more}
use Rattle.emv_dict.specs.Progress.{Progress, Done, Stopped}
use Rattle.emv_dict.specs.declared.judged.Judged.{Judged}
use Rattle.risk_mgmt.proofs.JudgingSteps.{first_answered, last_answered}
use Rattle.risk_mgmt.proofs.judging.Judging.take.Goals as goal
use Rattle.risk_mgmt.specs.Asked.{judging_rest}
use Rattle.risk_mgmt.specs.Risky.{judged_with, last_asked}

pub returns-in-Ok-clause-leads : goal.returns-in-Ok-clause-leads
returns-in-Ok-clause-leads c whole answers leads =
    let s = c.self.inside in
    leads_more whole (judging_rest c.args.self) (last_asked s.tvr.0 s.lower s.upper c.in-Ok.counter) answers c.args.reply.now leads
    (first_answered c.args.self s.asking s.tvr.0 s.lower s.upper c.args.reply.now (Ok c.in-Ok.counter) c.self.view_is c.in-Counter.is c.in-Ok.ensures)

pub returns-in-Err-clause-leads : goal.returns-in-Err-clause-leads
returns-in-Err-clause-leads c whole answers leads =
    let s = c.self.inside in
    leads_more whole (judging_rest c.args.self) (λ _. Stopped c.in-Err.cause) answers c.args.reply.now leads
    (first_answered c.args.self s.asking s.tvr.0 s.lower s.upper c.args.reply.now (Err c.in-Err.cause) c.self.view_is c.in-Counter.is c.in-Err.ensures)

pub returns-in-Ok-read_counter-clause-leads : goal.returns-in-Ok-read_counter-clause-leads
returns-in-Ok-read_counter-clause-leads c whole answers leads =
    let s = c.self.inside in
    let counter = c.in-LastOnline.counter in
    leads_more whole (judging_rest c.args.self) (λ later. Done (judged_with c.counted.result.0 true) later) answers c.args.reply.now leads
    (λ later. last_answered c.args.self s.asking s.tvr.0 s.lower s.upper counter c.args.reply.now (Ok c.in-Ok-read_counter.last) c.self.view_is c.in-LastOnline.is c.in-Ok-read_counter.ensures later
    ∙ ap (λ bits. Done (judged_with bits true) later) (sym c.counted.ensures))

pub returns-in-Err-read_counter-clause-leads : goal.returns-in-Err-read_counter-clause-leads
returns-in-Err-read_counter-clause-leads c whole answers leads =
    let s = c.self.inside in
    leads_more whole (judging_rest c.args.self) (λ _. Stopped c.in-Err-read_counter.cause) answers c.args.reply.now leads
    (last_answered c.args.self s.asking s.tvr.0 s.lower s.upper c.in-LastOnline.counter c.args.reply.now (Err c.in-Err-read_counter.cause) c.self.view_is c.in-LastOnline.is c.in-Err-read_counter.ensures)
