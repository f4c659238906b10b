use Rattle.std.proofs.Common.{◌≡◌, ◌+◌, ◌++◌, length, drop}
use Rattle.torn_store.specs.Layout.{paired}
use Rattle.torn_store.proofs.journal.read_journal.Given as goal

abbrev pub invariant-loop-i : goal.invariant-loop-i
invariant-loop-i g l = record {
  count : length l.blocks.items ≡ l.i;
  left : l.blocks.items ++ paired (drop l.i l.numbers) (drop (19 + l.i) (g.P.Pages.memory l.pages).shown)
      ≡ paired l.numbers (drop 19 (g.P.Pages.memory l.pages).shown);
}
