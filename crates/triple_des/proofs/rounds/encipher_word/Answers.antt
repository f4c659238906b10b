use Rattle.std.proofs.Common.{◌<◌, ◌+◌, ◌*◌, ◌^◌, ℕ, map, ap, ◌∙◌, rules}
use Rattle.triple_des.specs.Bits.{bits, pick}
use Rattle.triple_des.specs.Tables.{initial_table, final_table}
use Rattle.triple_des.proofs.Nibbles.{initial_tables, final_tables}
use Rattle.triple_des.proofs.WordRounds.{cipher_parts}
use Rattle.triple_des.proofs.rounds.encipher_word.Goals as goal

pub returns : goal.returns
unfolding initial_table final_table
returns c =
    let left = c.run_rounds-left.result.0 in
    let right = c.run_rounds-left.result.1 in
    let small : left < 2 ^ 32 = search rules in
    cipher_parts (map (bits 48) c.args.keys.now) c.args.block c.permute_by-start.result left right c.permute_by.result (c.permute_by-start.ensures initial_table initial_tables) c.run_rounds-left.ensures small
    (c.permute_by.ensures final_table final_tables
    ∙ ap (λ (r : ℕ). pick final_table (bits 64 (r * 2 ^ 32 + c.from-2.result))) c.from.ensures
    ∙ ap (λ (l : ℕ). pick final_table (bits 64 (right * 2 ^ 32 + l))) c.from-2.ensures)
