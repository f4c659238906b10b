use Rattle.std.proofs.Common.{◌-◌, List, length, take, drop, codes, sym, subst, ◌∙◌, arith}
use Rattle.report_lines.specs.Pieces.{Piece, Tells, text}
use Rattle.report_lines.proofs.Telling.{tells_then}
use Rattle.value_words.specs.Digits.{digits_words}
use Rattle.value_words.specs.Plain.{or_nothing}
use Rattle.exchange_words.proofs.Pins.{pin-told}
use Rattle.exchange_words.proofs.command.tell_pin.Goals as goal

pub returns-then-is_pin_block : goal.returns-then-is_pin_block
returns-then-is_pin_block c =
    let block = c.args.block.now in
    let digits = take (length block - 1) (drop 1 block) in
    let is = sym c.is_pin_block.ensures ∙ c.if-is_pin_block.true in
    subst (λ (words : List Piece). Tells c.args.out.now c.tell_digits.new.out words) (sym (pin-told block (omega arith) is))
    (tells_then _ _ _ (text (codes ": plaintext PIN ")) (or_nothing (digits_words digits)) c.text.ensures.told c.tell_digits.ensures.words)
