use Rattle.std.proofs.Common.{◌≡◌, ℕ, ◌<◌, List, length, get_or, map, ap, sym, ◌∙◌, rules}
use Rattle.triple_des.specs.Bits.{bits, bytes_from_bits}
use Rattle.triple_des.specs.Des.{cipher, enciphered}
use Rattle.triple_des.proofs.Bytes.{bytes_of_bits, bits_from_bytes}
use Rattle.triple_des.proofs.rounds.encipher_block.Goals as goal

pub returns : goal.returns
unfolding enciphered
returns c =
    let eight : length c.args.block ≡ 8 = search rules in
    let small : (i : ℕ) → get_or c.args.block i 0 < 256 = search rules in
    c.to_be_bytes.ensures
    ∙ sym (bytes_of_bits 8 c.encipher_word.result)
    ∙ ap (λ (l : List ℕ). bytes_from_bits 8 l) (c.encipher_word.ensures
    ∙ ap (λ (l : List ℕ). cipher (map (bits 48) c.args.keys.now) l) (bits_from_bytes c.args.block c.from_be_bytes.result eight small c.from_be_bytes.ensures))
