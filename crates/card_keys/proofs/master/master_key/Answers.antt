use Rattle.std.proofs.Common.{◌≡◌, ◌/◌, ◌∙◌, List, ℕ, map, ap, rules}
use Rattle.card_keys.proofs.OddBytes.{upper_bits_stay}
use Rattle.card_keys.specs.Master.{two_halves, master_key_of}
use Rattle.card_keys.proofs.master.master_key.Goals as goal

same_upper : (key issuer pan : List ℕ) (sequence : ℕ) → key ≡ master_key_of issuer pan sequence
    → map (λ b. b / 2) key ≡ map (λ b. b / 2) (two_halves issuer pan sequence)
unfolding master_key_of
same_upper key issuer pan sequence is =
    ap (λ (bytes : List ℕ). map (λ b. b / 2) bytes) is ∙ upper_bits_stay (two_halves issuer pan sequence)

pub returns-clause-upper : goal.returns-clause-upper
unfolding master_key_of
returns-clause-upper c =
    let is : c.new.result ≡ master_key_of c.args.issuer.now c.args.pan.now c.args.sequence = search rules in
    same_upper c.new.result c.args.issuer.now c.args.pan.now c.args.sequence is
