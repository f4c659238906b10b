use Rattle.std.proofs.Common.{◌≡◌, ◌*◌, length, arith}
use Rattle.triple_des.proofs.Nibbles.{no_nibble, nibble_more, all_nibbles}
use Rattle.triple_des.proofs.permuting.permute_by.Goals as goal

pub loop-index-init : goal.loop-index-init
loop-index-init c = λ places are. no_nibble places (4 * length c.args.tables.now) c.args.word

pub loop-index-preserved : goal.loop-index-preserved
loop-index-preserved c = λ places are.
    nibble_more places c.args.tables.now c.args.word c.loop-index.out c.loop-index.index are c.loop-index-test.true (c.loop-index.invariant places are)

pub returns : goal.returns
returns c = λ places are.
    let all : c.loop-index.index ≡ length c.args.tables.now = omega arith in
    all_nibbles places c.args.word c.loop-index.out c.loop-index.index (length c.args.tables.now) all (c.loop-index.invariant places are)
