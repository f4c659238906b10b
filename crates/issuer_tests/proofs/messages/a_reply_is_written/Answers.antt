use Rattle.auth_message.proofs.Templates.{none_are_scripts}
use Rattle.issuer_tests.proofs.messages.a_reply_is_written.Goals as goal

pub write_reply-requires-clause-scripts : goal.write_reply-requires-clause-scripts
write_reply-requires-clause-scripts g c = none_are_scripts
