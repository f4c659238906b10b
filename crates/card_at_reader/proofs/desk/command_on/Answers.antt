use Rattle.std.proofs.Common.{◌≡◌, ◌++◌, length, ap, sym, subst, ◌∙◌}
use Rattle.card_app.specs.Answering.{card_answer}
use Rattle.card_app.specs.SeenCard.{CardSeen}
use Rattle.card_files.specs.Files.{opening_of}
use Rattle.card_app.specs.Cuts.{cut_of}
use Rattle.card_words.specs.DecisionText.{told_behind}
use Rattle.card_at_reader.specs.Desk.{IsTurn, answer_text, commanded}
use Rattle.card_at_reader.specs.SincePower.{told_coming}
use Rattle.card_at_reader.proofs.Sides.{command_answered, command_cut, on_ok_three}
use Rattle.card_at_reader.proofs.desk.command_on.Goals as goal

pub returns-in-Ok-clause-turn : goal.returns-in-Ok-clause-turn
returns-in-Ok-clause-turn g c =
    on_ok_three c.note_answered.result
    (λ told noted says session found taken holds.
    let old = c.args.desk.now in
    let new = c.note_answered.new.desk in
    let opening = opening_of old.icc.image in
    let coming : told_coming c.coming_in-coming.result ≡ told_behind opening (found ++ taken) (card_answer old.icc.image (found ++ taken) session c.args.command.now).new =
    c.coming_in-coming.ensures opening (found ++ taken) (c.totals.ensures.totals session (found ++ taken) old.notes.plan (length taken) holds.stands)
    ∙ ap (told_behind opening (found ++ taken)) (c.foretell-foretold.ensures session (found ++ taken) old.notes.plan (length taken) holds.stands) in
    subst (λ (icc : CardSeen). IsTurn icc new.notes new.told.items c.note_answered.new.out.items
    (commanded old.icc.image session found taken old.notes c.args.command.now (cut_of old.notes.plan (length taken) (card_answer old.icc.image (found ++ taken) session c.args.command.now).new)))
    (sym c.note_answered.ensures.icc)
    (command_answered old.icc c.process.new.self c.process.ensures.image session found taken old.notes new.notes old.told.items new.told.items (told_coming c.coming_in-coming.result)
    c.args.command.now c.note_answered.new.out.items coming holds.told_is _ c.reason-reason.result
    (c.in-Ok.ensures.answered session (found ++ taken) old.notes.plan (length taken) holds.stands) (says ∙ ap answer_text c.as_slice.ensures.value) told noted
    (c.reason-reason.ensures session (found ++ taken) old.notes.plan (length taken) holds.stands)))
    c.note_answered.ensures.told c.note_answered.ensures.noted c.note_answered.ensures.text

pub returns-in-Err-clause-turn : goal.returns-in-Err-clause-turn
returns-in-Err-clause-turn g c =
    on_ok_three c.note_cut_off.result
    (λ told noted says session found taken holds.
    let old = c.args.desk.now in
    let new = c.note_cut_off.new.desk in
    let opening = opening_of old.icc.image in
    let coming : told_coming c.coming_in-coming.result ≡ told_behind opening (found ++ taken) (card_answer old.icc.image (found ++ taken) session c.args.command.now).new =
    c.coming_in-coming.ensures opening (found ++ taken) (c.totals.ensures.totals session (found ++ taken) old.notes.plan (length taken) holds.stands)
    ∙ ap (told_behind opening (found ++ taken)) (c.foretell-foretold.ensures session (found ++ taken) old.notes.plan (length taken) holds.stands) in
    subst (λ (icc : CardSeen). IsTurn icc new.notes new.told.items c.note_cut_off.new.out.items
    (commanded old.icc.image session found taken old.notes c.args.command.now (cut_of old.notes.plan (length taken) (card_answer old.icc.image (found ++ taken) session c.args.command.now).new)))
    (sym c.note_cut_off.ensures.icc)
    (command_cut old.icc c.process.new.self c.process.ensures.image session found taken old.notes new.notes old.told.items new.told.items (told_coming c.coming_in-coming.result)
    c.args.command.now c.note_cut_off.new.out.items coming holds.told_is
    (c.in-Err.ensures.cut session (found ++ taken) old.notes.plan (length taken) holds.stands) says told noted))
    c.note_cut_off.ensures.told c.note_cut_off.ensures.noted c.note_cut_off.ensures.text
