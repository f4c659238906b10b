-- An entry as the table keeps it: under its key.
use Rattle.host_ledger.specs.declared.key.Key.{Key}
use Rattle.host_ledger.specs.declared.entry.Entry.{Entry}
use Rattle.host_ledger.specs.declared.rows.Row.{Row}

abbrev pub kept_entry : Key × Row → Entry
kept_entry kept = record { key = kept.0; amount = kept.1.amount; state = kept.1.state }
