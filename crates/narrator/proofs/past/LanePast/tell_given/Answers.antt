use Rattle.std.proofs.Common.{◌≡◌, arith}
use Rattle.std.proofs.lemmas.Grind.{common_steps}
use Rattle.exchange_words.specs.Answers.{left_by_answer}
use Rattle.exchange_words.specs.Lanes.{without_command}
use Rattle.purchase_reasons.specs.Followed.{with_first_question, with_answer}
use Rattle.narrator.specs.Selections.{selection_answered}
use Rattle.narrator.proofs.past.LanePast.tell_given.Goals as goal

pub returns-clause-state : goal.returns-clause-state
returns-clause-state c =
    let past = c.args.self.now in
    let bytes = c.args.bytes.now in
    let command = past.talk.command.items in
    let behind = left_by_answer (without_command past.talk) command bytes in
    let talk : c.tell_answer.new.lane ≡ behind = grind (arith, common_steps) in
    let followed : c.note_answer.new.self ≡ with_answer command bytes (with_first_question behind past.followed) = grind (arith, common_steps) in
    let selection : c.note_given.new.self ≡ selection_answered command bytes past.selection = grind (arith, common_steps) in
    rw (talk, followed, selection)
