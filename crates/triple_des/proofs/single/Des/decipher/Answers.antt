use Rattle.std.proofs.Common.{List, ℕ, ap, ◌∙◌, rules}
use Rattle.triple_des.specs.Des.{enciphered, deciphered}
use Rattle.triple_des.proofs.Undone.{enciphered_undoes}
use Rattle.triple_des.proofs.single.Des.decipher.Goals as goal

pub returns-clause-value : goal.returns-clause-value
unfolding deciphered
returns-clause-value c = c.encipher.ensures.value ∙ ap (λ (ks : List (List ℕ)). enciphered ks c.args.block) c.reversed.ensures

pub returns-clause-undone : goal.returns-clause-undone
returns-clause-undone c =
    ap (λ (l : List ℕ). enciphered c.args.self.now l) (returns-clause-value c)
    ∙ enciphered_undoes c.args.self.now c.args.block (record { long = search rules; small = search rules })
