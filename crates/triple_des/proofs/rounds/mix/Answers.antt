use Rattle.std.proofs.Common.{◌≡◌, ℕ, List, [], get_or, ap, subst, ◌∙◌, arith}
use Rattle.triple_des.specs.Bits.{bits, pick, xor}
use Rattle.triple_des.specs.Tables.{box_tables, expansion_table, permutation_table}
use Rattle.triple_des.specs.Des.{box_bits, placed, cipher_function}
use Rattle.triple_des.proofs.Boxes.{so_far, no_box, box_more, six_bits, all_boxes}
use Rattle.triple_des.proofs.rounds.mix.Goals as goal

pub loop-number-init : goal.loop-number-init
loop-number-init c = no_box (xor (pick expansion_table (bits 32 c.args.right)) (bits 48 c.args.key))

pub loop-number-preserved : goal.loop-number-preserved
loop-number-preserved c =
    let i = c.loop-number.number in
    let below = c.loop-number-test.true in
    box_more (xor (pick expansion_table (bits 32 c.args.right)) (bits 48 c.args.key)) c.loop-number.out i c.merged-out.result below
    (c.merged-out.ensures ∙ ap (λ (six : List ℕ). pick permutation_table (placed i (box_bits (get_or box_tables i []) six))) (six_bits c.args.right c.ringed-ring.result c.args.key i below c.ringed-ring.ensures))
    c.loop-number.invariant

pub returns : goal.returns
unfolding cipher_function
returns c =
    let sum : List ℕ = xor (pick expansion_table (bits 32 c.args.right)) (bits 48 c.args.key) in
    let all : c.loop-number.number ≡ 8 = omega arith in
    subst (λ (n : ℕ). bits 32 c.loop-number.out ≡ so_far n sum) all c.loop-number.invariant ∙ all_boxes sum
