use Rattle.std.proofs.Common.{◌≡◌, ◌<◌, ℕ, length, get_or, rules, sym, ◌∙◌}
use Rattle.triple_des.proofs.Undone.{IsBlock}
use Rattle.pin_block.specs.Block.{IsPin, block_of}
use Rattle.pin_block.specs.Online.{online_of}
use Rattle.pin_block.proofs.OnlineLemmas.{online_found, online_read, if_some_weaker}
use Rattle.pin_block.proofs.online.read_online.Goals as goal

pub returns-clause-found : goal.returns-clause-found
returns-clause-found c =
    let eight : length c.decipher.result ≡ 8 = search rules in
    let as_long : length c.account_block.result ≡ 8 = search rules in
    if_some_weaker (λ pin. IsPin pin × (block_of 0 pin ≡ c.xor_blocks.result))
    (λ pin. IsPin pin × (online_of c.args.key.now pin c.args.pan.now ≡ c.args.bytes)) c.read_block.result
    (λ pin holds. (
      holds.0,
      online_found c.args.key.now c.args.bytes c.args.pan.now pin c.decipher.result c.account_block.result c.xor_blocks.result
          c.decipher.ensures.undone c.account_block.ensures c.xor_blocks.ensures (eight ∙ sym as_long) holds.1,
    ))
    c.read_block.ensures.found

pub returns-clause-reads : goal.returns-clause-reads
returns-clause-reads c = λ pin is same.
    let eight : length c.account_block.result ≡ 8 = search rules in
    let bytes : (i : ℕ) → get_or c.account_block.result i 0 < 256 = search rules in
    let block : IsBlock c.account_block.result = record { long = eight; small = bytes } in
    c.read_block.ensures.reads pin is
    (online_read c.args.key.now c.args.bytes c.args.pan.now pin c.decipher.result c.account_block.result c.xor_blocks.result
    c.decipher.ensures.value c.account_block.ensures block c.xor_blocks.ensures is same)
