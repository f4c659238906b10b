use Rattle.std.proofs.Common.{◌≡◌, length, map}
use Rattle.std.specs.List.{All}
use Rattle.emv_ports.specs.Memory.{IsBlank}
use Rattle.emv_ports.specs.Bank.{IsNewRough}
use Rattle.emv_ports.proofs.memory_bank.rough_bank.Given as goal

abbrev pub invariant-loop-card : goal.invariant-loop-card
invariant-loop-card l = record {
  count : length l.bank.items ≡ l._card;
  blank : All IsBlank (map (λ pages. pages.memory) l.bank.items);
  made : All (IsNewRough l.word) l.bank.items;
}
