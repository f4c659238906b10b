use Rattle.std.proofs.Common.{ℕ, List, ◌++◌, ap, ◌∙◌}
use Rattle.card_keys.proofs.TwoBlocks.{put_second}
use Rattle.card_keys.proofs.joining.join.Goals as goal

pub returns : goal.returns
returns c =
    put_second c.copy_from_slice.new.self c.copy_from_slice-2.new.self c.copy_from_slice.ensures.len
    ∙ ap (λ (l : List ℕ). l ++ c.copy_from_slice-2.new.self) c.copy_from_slice.ensures.after
    ∙ ap (λ (l : List ℕ). c.args.left ++ l) c.copy_from_slice-2.ensures.after
