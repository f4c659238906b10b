use Rattle.std.proofs.Common.{List, Option, None, option_map, sym, subst, ap, ◌∙◌}
use Rattle.object_words.specs.declared.style.Style.{Style}
use Rattle.report_lines.specs.Pieces.{Piece, Tells}
use Rattle.message_words.specs.Iso.{MessageData, message_words, seen_message}
use Rattle.message_words.specs.Messages.{reply_words, reply_by, meaning, objects_reply}
use Rattle.message_words.specs.Objects.{borrowed}
use Rattle.message_words.proofs.Replies.{said-borrowed, message-alike, objects_reply-alike}
use Rattle.message_words.proofs.host.tell_reply.Goals as goal

pub returns-in-Some : goal.returns-in-Some
unfolding reply_words
returns-in-Some c =
    let found = seen_message c.in-Some.found in
    let same = c.meaning-answer.ensures ∙ sym (said-borrowed (meaning c.args.settled)) in
    let words = ap (λ (s : Style). message_words s None found c.args.brief) c.message_style.ensures
    ∙ message-alike 2 c.meaning-answer.result (option_map borrowed (meaning c.args.settled)) found c.args.brief same
    ∙ ap (λ (m : Option MessageData). reply_by c.args.settled m c.args.reply.now c.args.brief) c.in-Some.ensures in
    subst (λ (w : List Piece). Tells c.args.out.now c.tell_message.new.out w) words c.tell_message.ensures

pub returns-in-None : goal.returns-in-None
unfolding reply_words
returns-in-None c =
    let same = c.meaning-answer.ensures ∙ sym (said-borrowed (meaning c.args.settled)) in
    let words = ap (λ (s : Style). objects_reply s c.args.reply.now c.args.brief) c.message_style-in-None.ensures
    ∙ objects_reply-alike 1 c.meaning-answer.result (option_map borrowed (meaning c.args.settled)) c.args.reply.now c.args.brief same
    ∙ ap (λ (m : Option MessageData). reply_by c.args.settled m c.args.reply.now c.args.brief) c.in-None.ensures in
    subst (λ (w : List Piece). Tells c.args.out.now c.tell_objects_reply.new.out w) words c.tell_objects_reply.ensures
