use Rattle.std.proofs.Common.{List, ℕ, ap, ◌∙◌, rules}
use Rattle.triple_des.specs.Des.{enciphered, deciphered}
use Rattle.triple_des.specs.TripleDes.{right_keys}
use Rattle.triple_des.proofs.Undone.{deciphered_undoes, reversed_deciphers}
use Rattle.triple_des.proofs.double.Key16.encipher_right.Goals as goal

pub returns-clause-value : goal.returns-clause-value
returns-clause-value c =
    c.decipher.ensures.value
    ∙ ap (λ (ks : List (List ℕ)). deciphered ks c.args.block) c.self.invariant.1
    ∙ reversed_deciphers (right_keys c.self.inside.bytes) c.args.block
    ∙ ap (λ (key : List ℕ). enciphered (right_keys key) c.args.block) c.self.view_is

pub returns-clause-undone : goal.returns-clause-undone
returns-clause-undone c =
    ap (λ (l : List ℕ). deciphered (right_keys c.args.self.now) l) (returns-clause-value c)
    ∙ deciphered_undoes (right_keys c.args.self.now) c.args.block (record { long = search rules; small = search rules })
