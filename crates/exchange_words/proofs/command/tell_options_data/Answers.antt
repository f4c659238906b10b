use Rattle.std.proofs.Common.{◌≡◌, ◌==◌, true, length, sym, ◌∙◌}
use Rattle.exchange_words.proofs.command.tell_options_data.Goals as goal

pub returns-then-is_empty : goal.returns-then-is_empty
returns-then-is_empty c =
    let none : (length c.in-Some.bytes.now == 0) ≡ true = sym c.is_empty.ensures ∙ c.if-is_empty.true in
    rw (c.in-Some.is, none) c.text.ensures.told
