use Rattle.std.proofs.Common.{◌≡◌, ◌-◌, ◌++◌, List, length, option_map}
use Rattle.card_state.specs.declared.state.AppState.{AppState}
use Rattle.card_state.specs.Layout.{apps_in}
use Rattle.card_state.proofs.decoding.read_apps.Given as goal

-- the applications are those so far and those of the bytes that are left
abbrev pub invariant-loop-i : goal.invariant-loop-i
invariant-loop-i l = record {
  count : length l.apps.items ≡ l.i;
  left : apps_in l.version l.count l.bytes ≡ option_map (λ (ss : List AppState). l.apps.items ++ ss) (apps_in l.version (l.count - l.i) l.rest);
}
