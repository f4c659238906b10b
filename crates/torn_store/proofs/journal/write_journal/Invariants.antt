use Rattle.std.proofs.Common.{◌≡◌, ◌+◌, true, drop}
use Rattle.torn_store.specs.Writing.{journaled}
use Rattle.torn_store.proofs.Turns.{Rest}
use Rattle.torn_store.proofs.journal.write_journal.Given as goal

abbrev pub invariant-loop-i : goal.invariant-loop-i
invariant-loop-i g l = record {
  on : (g.P.Pages.memory l.pages).on ≡ true;
  rest : Rest (g.P.Pages.memory l.initial.pages) (g.P.Pages.memory l.pages) (journaled 19 l.blocks) (journaled (19 + l.i) (drop l.i l.blocks));
}
