use Rattle.std.proofs.Common.{rules, ap}
use Rattle.emv_dict.specs.Views.{PurchaseData}
use Rattle.online_step.proofs.Digits.{all_digits, code_digits, date_digits, trade_digits, card_pan}
use Rattle.online_step.proofs.captures.presentment.Goals as goal

pub write_presentment-requires : goal.write_presentment-requires
write_presentment-requires c = record {
  account_number = rw c.copy.ensures (card_pan _ c.card.invariant);
  sequence_number = c.sequence_number.ensures.digits;
  amount = all_digits _ c.amount_bytes.ensures.decimal;
  other_amount = all_digits _ c.amount_bytes-2.ensures.decimal;
  currency = code_digits c.currency.result (search rules) (rw c.currency.ensures c.requires.currency_code);
  date = date_digits c.date.result (search rules) (rw c.date.ensures c.requires.day);
  issuer_data = c.deref.ensures.1;
}

pub returns-clause-read : goal.returns-clause-read
returns-clause-read c = c.write_presentment.ensures.message (record {
  currency = rw c.currency.ensures c.requires.currency_code;
  transaction_type = trade_digits c.purchase.inside.trade (rw (ap (λ (p : PurchaseData). p.trade) c.purchase.view_is) c.requires.known_trade);
})
