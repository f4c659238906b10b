-- A kept message as the table keeps it: under its transaction's key.
use Rattle.host_ledger.specs.declared.key.Key.{Key}
use Rattle.issuer_host.specs.declared.keeping.KeptMessage.{KeptMessage}
use Rattle.issuer_host.specs.Books.{KeptCall}

abbrev pub kept_message : Key → KeptMessage → KeptCall
kept_message key kept = record {
  key = key;
  amount = kept.amount;
  message = kept.message.items;
  code = kept.code;
  online = kept.online;
  reply = kept.reply;
}

abbrev pub seen_kept_call : Key × KeptMessage → KeptCall
seen_kept_call entry = kept_message entry.0 entry.1
