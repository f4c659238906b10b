use Rattle.std.proofs.Common.{◌∷◌, ap, sym, ◌∙◌, arith, rules}
use Rattle.auth_message.specs.Reply.{ReplyData}
use Rattle.kernel.proofs.Falling.{scripts_bytes}
use Rattle.kernel.proofs.Hearing.{reply_kept}
use Rattle.kernel.proofs.online.take_reply.Goals as goal
use Rattle.kernel.specs.Transactions.{transaction_of}
use Rattle.terminal_state.specs.StepResults.{HasReply}
use Rattle.terminal_state.specs.Scripts.{kept_host_reply}

pub returns-clause-stands : goal.returns-clause-stands
returns-clause-stands c = λ steps_done log rest begins.
    c.authenticate.ensures.stands (HasReply c.args.said ∷ steps_done) log (ap (λ (r : ReplyData). r.auth) (c.keep.ensures.kept ∙ ap kept_host_reply (sym c.said.view_is))) rest
    (reply_kept c.args.table.now _ (transaction_of c.args.transaction.now) steps_done log rest c.args.said begins c.keep.ensures.kept (c.has_reply.ensures.steps_done steps_done begins.tied))

pub returns-clause-step : goal.returns-clause-step
returns-clause-step c =
    let fit = scripts_bytes c.keep.new.reply.scripts in
    let short = c.keep.ensures.short in
    let few = c.authenticate.ensures.step.nearer in
    record { same = search rules; nearer = omega arith; room = search rules; asked = search rules }
