use Rattle.std.proofs.Common.{List, ℕ, ap, ◌∙◌, rules}
use Rattle.triple_des.specs.Des.{enciphered, deciphered}
use Rattle.triple_des.proofs.Undone.{deciphered_undoes}
use Rattle.triple_des.proofs.single.Des.encipher.Goals as goal

pub returns-clause-undone : goal.returns-clause-undone
returns-clause-undone c =
    ap (λ (l : List ℕ). deciphered c.args.self.now l) (c.encipher_block.ensures ∙ ap (λ (ks : List (List ℕ)). enciphered ks c.args.block) c.self.view_is)
    ∙ deciphered_undoes c.args.self.now c.args.block (record { long = search rules; small = search rules })
