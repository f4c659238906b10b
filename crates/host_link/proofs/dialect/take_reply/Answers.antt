use Rattle.std.proofs.Common.{sym, subst}
use Rattle.auth_message.specs.Reply.{ReplyData}
use Rattle.auth_message.specs.Whole.{AreSpelledScripts}
use Rattle.auth_message.proofs.Templates.{spelled_are_scripts}
use Rattle.host_link.proofs.dialect.take_reply.Goals as goal

pub write_reply-requires-clause-scripts : goal.write_reply-requires-clause-scripts
write_reply-requires-clause-scripts c =
    spelled_are_scripts c.found.inside.scripts.now (subst (λ (d : ReplyData). AreSpelledScripts d.scripts) (sym c.found.view_is) c.in-Ok.ensures.scripts)
