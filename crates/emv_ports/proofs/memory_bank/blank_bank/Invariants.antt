use Rattle.std.proofs.Common.{◌≡◌, length, map}
use Rattle.std.specs.List.{All}
use Rattle.emv_ports.specs.Memory.{IsBlank}
use Rattle.emv_ports.specs.Bank.{IsNewMemory}
use Rattle.emv_ports.proofs.memory_bank.blank_bank.Given as goal

abbrev pub invariant-loop-card : goal.invariant-loop-card
invariant-loop-card l = record {
  count : length l.bank.items ≡ l._card;
  blank : All IsBlank (map (λ pages. pages.memory) l.bank.items);
  made : All IsNewMemory l.bank.items;
}
