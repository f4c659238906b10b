use Rattle.std.proofs.Common.{rules}
use Rattle.online_step.proofs.Digits.{card_pan, code_digits}
use Rattle.online_step.proofs.online.request.Goals as goal

pub write_request-requires : goal.write_request-requires
write_request-requires c = record {
  account_number = rw c.copy.ensures (card_pan _ c.card.invariant);
  sequence_number = c.sequence_number.ensures.digits;
  expiry = c.expiry.ensures.digits;
  amount = rw c.object-2.ensures c.requires.terminal.amount_digits;
  other_amount = rw c.object-3.ensures c.requires.terminal.other_amount_digits;
  currency = code_digits c.object-6.result (search rules) (rw c.object-6.ensures c.requires.terminal.currency_code);
  date = rw c.object-7.ensures c.requires.terminal.date_digits;
  issuer_data = c.deref.ensures.1;
}

pub returns-clause-read : goal.returns-clause-read
returns-clause-read c = c.write_request.ensures.message (record {
  currency = rw c.object-6.ensures c.requires.terminal.currency_code;
  transaction_type = rw c.object-8.ensures c.requires.terminal.transaction_digits;
})
