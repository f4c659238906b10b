use Rattle.std.proofs.Common.{sym, arith, map, string_bytes}
use Rattle.std.proofs.lemmas.List.{length-map}
use Rattle.emv_top.proofs.WordLemmas.{too_many}
use Rattle.emv_top.proofs.words.read_subcommand.Goals as goal

pub returns-in-len4-up-clause-exact : goal.returns-in-len4-up-clause-exact
returns-in-len4-up-clause-exact c = sym (too_many (map string_bytes c.args.words.now) (let same = length-map c.args.words.now string_bytes in omega (arith, same, c.in-len4-up.len_at_least)))
