use Rattle.std.proofs.Common.{◌≡◌, false, take, IsTrue}
use Rattle.std.specs.List.{list_all}
use Rattle.emv_ports.specs.Cell.{is_sure_page}
use Rattle.emv_ports.proofs.Settling.{Settling}
use Rattle.emv_ports.proofs.memory_pages.settle.Given as goal

abbrev pub invariant-loop-page : goal.invariant-loop-page
invariant-loop-page l = record {
  so_far : Settling l.power_up l.initial.pages l.page l.pages;
  sure : l.torn ≡ false → IsTrue (list_all is_sure_page (take l.page l.pages));
}
