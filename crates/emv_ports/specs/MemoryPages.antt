-- How the fields of pages that live in memory are seen.
use Rattle.std.specs.Prelude.{map}
use Rattle.emv_ports.specs.Cell.{sure_of, given_of}
use Rattle.emv_ports.specs.Memory.{Memory}
use Rattle.emv_ports.specs.Workings.{Workings}
use Rattle.emv_ports.specs.declared.memory_pages.MemoryPages.TheInside.{Inside}

abbrev pub memory_of : Inside → Memory
memory_of pages = record {
  cells = map (map sure_of) pages.cells;
  shown = map (map given_of) pages.cells;
  on = pages.on;
  plan = pages.plan;
  commit = pages.commit;
  writes = pages.writes_of_commit;
  losses = pages.losses;
  power_ups = pages.power_ups;
}

abbrev pub workings_of : Inside → Workings
workings_of pages = record {
  cells = pages.cells;
  turn = pages.turn;
  marks = pages.marks;
  writes = pages.writes;
}
