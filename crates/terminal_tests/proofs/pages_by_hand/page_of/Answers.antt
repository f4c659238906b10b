use Rattle.std.proofs.Common.{ℕ, List, length, drop, replicate, ap, ◌∙◌, ◌++◌}
use Rattle.std.proofs.lemmas.List.{drop-replicate}
use Rattle.terminal_tests.proofs.pages_by_hand.page_of.Goals as goal

pub returns : goal.returns
returns c =
    ap (λ (l : List ℕ). l ++ drop (length c.args.front.now) (replicate 64 0)) c.copy_from_slice.ensures.after
    ∙ ap (λ (l : List ℕ). c.args.front.now ++ l) (drop-replicate (length c.args.front.now) 64 0)
