use Rattle.std.proofs.Common.{ap, sym, ◌∙◌, ◌++◌, append_assoc, length}
use Rattle.iso_message.specs.Text.{digit_characters, with_length, decimal_digits}
use Rattle.iso_message.proofs.Numerals.{text_length}
use Rattle.iso_message.proofs.write.put_account.Goals as goal

pub returns-clause-field : goal.returns-clause-field
unfolding with_length
returns-clause-field c =
    let pan = c.args.pan.now in
    let out = c.args.out.now.items in
    rw (c.put_text.ensures.field, c.append.ensures.items, c.two_digits.ensures, c.len.ensures.count, c.as_slice.ensures.value)
    (append_assoc out (digit_characters (decimal_digits 2 (length pan))) (digit_characters pan) ∙ ap (λ n. out ++ (digit_characters (decimal_digits 2 n) ++ digit_characters pan)) (sym (text_length pan)))
