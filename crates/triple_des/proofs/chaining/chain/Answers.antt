use Rattle.std.proofs.Common.{◌+◌, ◌-◌, ◌*◌, ◌/◌, ◌++◌, ℕ, List, length, drop, ap, sym, ◌∙◌}
use Rattle.triple_des.specs.Bits.{xor_bytes}
use Rattle.triple_des.specs.Des.{enciphered}
use Rattle.triple_des.specs.Mac.{padded_text, first_blocks, chained_from}
use Rattle.triple_des.proofs.ChainSteps.{chain_step, chain_ends}
use Rattle.triple_des.proofs.chaining.chain.Goals as goal

pub loop-index-preserved : goal.loop-index-preserved
loop-index-preserved c =
    let keys : List (List ℕ) = c.args.key.now in
    let text : List ℕ = padded_text (c.args.head.now ++ c.args.tail.now) in
    let count : ℕ = (length c.args.head.now + length c.args.tail.now) / 8 + 1 in
    let i : ℕ = c.loop-index.index in
    ap (λ (state : List ℕ). chained_from keys state (first_blocks (count - (i + 1)) (drop (8 * (i + 1)) text))) (c.encipher-state.ensures.value
    ∙ ap (λ (l : List ℕ). enciphered keys l) (c.xor_blocks.ensures ∙ ap (λ (l : List ℕ). xor_bytes c.loop-index.state l) c.padded_block.ensures))
    ∙ chain_step keys c.loop-index.state text count i c.loop-index-test.true
    ∙ c.loop-index.invariant

pub returns : goal.returns
returns c =
    let text : List ℕ = padded_text (c.args.head.now ++ c.args.tail.now) in
    let count : ℕ = (length c.args.head.now + length c.args.tail.now) / 8 + 1 in
    sym (chain_ends c.args.key.now c.loop-index.state (drop (8 * c.loop-index.index) text) count c.loop-index.index c.loop-index-test.false) ∙ c.loop-index.invariant
