use Rattle.std.proofs.Common.{rules}
use Rattle.online_step.proofs.Digits.{all_digits, code_digits, card_pan}
use Rattle.online_step.proofs.captures.reversal.Goals as goal

pub write_reversal-requires : goal.write_reversal-requires
write_reversal-requires c = record {
  account_number = rw c.copy.ensures (card_pan _ c.card.invariant);
  sequence_number = c.sequence_number.ensures.digits;
  amount = all_digits _ c.amount_bytes.ensures.decimal;
  currency = code_digits c.currency.result (search rules) (rw c.currency.ensures c.requires.currency_code);
}

pub returns-clause-read : goal.returns-clause-read
returns-clause-read c = c.write_reversal.ensures.message (rw c.currency.ensures c.requires.currency_code)
