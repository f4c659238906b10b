-- Whether two transactions are one.
use Rattle.std.specs.Prelude.{Bool, ◌==◌, ◌&&◌}
use Rattle.std.specs.Str.{bytes_eq}
use Rattle.host_ledger.specs.declared.key.Key.{Key}

-- the same account number, sequence number and counter
abbrev pub same_key : Key → Key → Bool
same_key k l = bytes_eq k.pan l.pan && (k.sequence == l.sequence && k.counter == l.counter)
