-- The objects of an answer to GENERATE AC as a contract sees them.
use Rattle.std.specs.Prelude.{ℕ, List, Option, option_map}
use Rattle.std.specs.Borrow.{Bor}
use Rattle.online_step.specs.Ac.{AcObjects}
use Rattle.online_step.specs.declared.objects.Objects.{Objects}

-- the bytes that are lent, where there are any
abbrev pub seen_bytes : Option (Bor (List ℕ)) → Option (List ℕ)
seen_bytes value = option_map (λ bytes. bytes.now) value

abbrev pub seen_objects : Objects → AcObjects
seen_objects objects = record { information = objects.information; counter = objects.counter; cryptogram = objects.cryptogram; iad = objects.iad.now }
