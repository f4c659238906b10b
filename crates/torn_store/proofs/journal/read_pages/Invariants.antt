use Rattle.std.proofs.Common.{◌≡◌, ◌*◌, length, take, drop}
use Rattle.torn_store.specs.Layout.{bytes_of_pages}
use Rattle.torn_store.proofs.journal.read_pages.Given as goal

abbrev pub invariant-loop-i : goal.invariant-loop-i
invariant-loop-i g l =
    (length l.home ≡ 1088) × (take (64 * l.i) l.home ≡ bytes_of_pages (take l.i (take 17 (drop 1 (g.P.Pages.memory l.pages).shown))))
