use Rattle.std.proofs.Common.{ℕ, ◌-◌, ◌/◌, ◌%◌, ◌^◌, ◌==◌, sym, ap, ◌∙◌, arith}
use Rattle.std.proofs.Math.Nat.{zero-div}
use Rattle.message_words.specs.Fields.{has_field_bit}
use Rattle.message_words.proofs.fields.is_named.Goals as goal

pub returns-in-Some : goal.returns-in-Some
unfolding has_field_bit
returns-in-Some c =
    let place = 7 - (c.args.number - 1) % 8 in
    ap (λ (byte : ℕ). byte / 2 ^ place % 2 == 1) (c.in-Some.ensures.lookup.3.1 0)

pub returns-in-None : goal.returns-in-None
unfolding has_field_bit
returns-in-None c =
    let place = 7 - (c.args.number - 1) % 8 in
    sym (ap (λ (n : ℕ). n % 2 == 1) (zero-div (2 ^ place))) ∙ ap (λ (byte : ℕ). byte / 2 ^ place % 2 == 1) (c.in-None.ensures.lookup.4 (omega arith) 0)
