use Rattle.std.proofs.Common.{◌≡◌, true, drop}
use Rattle.torn_store.proofs.Turns.{Rest}
use Rattle.torn_store.proofs.journal.write_home.Given as goal

abbrev pub invariant-loop-block : goal.invariant-loop-block
invariant-loop-block g l = record {
  on : (g.P.Pages.memory l.pages).on ≡ true;
  rest : Rest (g.P.Pages.memory l.initial.pages) (g.P.Pages.memory l.pages) l.blocks (drop l.block-index l.blocks);
}
