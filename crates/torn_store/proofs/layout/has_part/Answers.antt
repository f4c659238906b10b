use Rattle.std.proofs.Common.{◌≡◌, ◌*◌, ◌-◌, ◌++◌, ◌==◌, ℕ, List, length, ap, ap₂, sym, ◌∙◌, arith}
use Rattle.std.specs.List.{starts_with}
use Rattle.torn_store.proofs.Pieces.{drop_apart}
use Rattle.torn_store.proofs.layout.has_part.Goals as goal

pub returns : goal.returns
returns c =
    let rest : c.saturating_sub.result ≡ 64 * c.args.place - length c.args.front.now = omega (arith, c.saturating_sub.ensures) in
    c.begin_with.ensures
    ∙ ap (λ (l : List ℕ). starts_with ◌==◌ l c.args.part.now)
    (ap₂ (λ (a b : List ℕ). a ++ b) c.from_byte-near.ensures c.from_byte-far.ensures
    ∙ sym (drop_apart (64 * c.args.place) c.saturating_sub.result c.args.front.now c.args.behind.now rest))
