use Rattle.std.proofs.Common.{ℕ, List, length, drop, ap, ◌∙◌, arith}
use Rattle.card_check.proofs.Words.{added, words_before, words_behind}
use Rattle.card_check.proofs.verdicts.push_reading.Goals as goal

pub split_at-requires : goal.split_at-requires
split_at-requires c = omega (arith, words_before c.args.cause, ap length (c.as_slice.ensures.value ∙ c.write_line.ensures))

pub returns : goal.returns
returns c =
    added c.extend_from_slice.result c.args.out.now.items c.extend_from_slice.new.self.items _ _ c.extend_from_slice.ensures.items
    (c.split_at.ensures.back ∙ ap (λ (told : List ℕ). drop 16 told) (c.as_slice.ensures.value ∙ c.write_line.ensures) ∙ words_behind c.args.cause)
