use Rattle.std.proofs.Common.{List, ℕ, ap, ◌∙◌, rules}
use Rattle.triple_des.specs.Des.{enciphered, deciphered}
use Rattle.triple_des.specs.TripleDes.{right_keys}
use Rattle.triple_des.proofs.Undone.{enciphered_undoes, reversed_enciphers}
use Rattle.triple_des.proofs.double.Key16.decipher_right.Goals as goal

pub returns-clause-value : goal.returns-clause-value
returns-clause-value c =
    c.encipher.ensures.value
    ∙ ap (λ (ks : List (List ℕ)). enciphered ks c.args.block) c.self.invariant.1
    ∙ reversed_enciphers (right_keys c.self.inside.bytes) c.args.block
    ∙ ap (λ (key : List ℕ). deciphered (right_keys key) c.args.block) c.self.view_is

pub returns-clause-undone : goal.returns-clause-undone
returns-clause-undone c =
    ap (λ (l : List ℕ). enciphered (right_keys c.args.self.now) l) (returns-clause-value c)
    ∙ enciphered_undoes (right_keys c.args.self.now) c.args.block (record { long = search rules; small = search rules })
