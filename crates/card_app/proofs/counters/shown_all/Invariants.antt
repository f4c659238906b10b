use Rattle.std.proofs.Common.{◌≡◌, ◌≤◌, take, map, length}
use Rattle.std.specs.List.{zip}
use Rattle.card_app.specs.Counters.{shown_state}
use Rattle.card_app.proofs.counters.shown_all.Given as goal

abbrev pub invariant-loop-app : goal.invariant-loop-app
invariant-loop-app l = record {
  so_far : l.all.items ≡ map (λ pair. shown_state pair.0 pair.1) (take (length l.yielded) (zip l.image.apps l.state.apps.items));
  sized : length l.all.items ≡ length l.yielded;
  few : length l.image.apps ≤ 4;
}
