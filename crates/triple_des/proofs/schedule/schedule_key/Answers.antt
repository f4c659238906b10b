use Rattle.std.proofs.Common.{◌≡◌, ◌<◌, ℕ, length, get_or, map, rules}
use Rattle.triple_des.specs.Bits.{bits}
use Rattle.triple_des.specs.Tables.{first_choice_table}
use Rattle.triple_des.proofs.Bytes.{bits_from_bytes}
use Rattle.triple_des.proofs.Nibbles.{first_choice_tables}
use Rattle.triple_des.proofs.ScheduleSteps.{round_keys_parts}
use Rattle.triple_des.proofs.schedule.schedule_key.Goals as goal

pub returns : goal.returns
unfolding first_choice_table
returns c =
    let eight : length c.args.key ≡ 8 = search rules in
    let small : (i : ℕ) → get_or c.args.key i 0 < 256 = search rules in
    round_keys_parts c.args.key c.from_be_bytes.result c.permute_by-chosen.result (map (bits 48) c.schedule_halves.result)
    (bits_from_bytes c.args.key c.from_be_bytes.result eight small c.from_be_bytes.ensures) (c.permute_by-chosen.ensures first_choice_table first_choice_tables) c.schedule_halves.ensures
