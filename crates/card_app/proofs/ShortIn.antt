-- Of states whose logs are short, each one's is.
use Rattle.std.proofs.Common.{◌≡◌, ℕ, ◌<◌, ◌≤◌, List, length, get_or, sym, subst}
use Rattle.std.specs.List.{All}
use Rattle.card_state.specs.declared.state.AppState.{AppState}

pub short_in : (states : List AppState) (k : ℕ) (s : AppState) → All (λ s. s.log_max ≤ 10) states → k < length states → s ≡ get_or states k s → s.log_max ≤ 10
short_in states k s short within is = subst (λ (x : AppState). x.log_max ≤ 10) (sym is) (short k s within)
