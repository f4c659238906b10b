use Rattle.std.proofs.Common.{◌≡◌, ℕ, ◌/◌, ◌%◌, List, [], ◌∷◌, ◌++◌, take, replicate, ap, ◌∙◌, append_assoc}
use Rattle.std.proofs.lemmas.List.{take-replicate}
use Rattle.card_keys.proofs.BehindZeros.{behind_zeros_small}
use Rattle.card_keys.proofs.master.behind_zeros.Goals as goal

pub returns-clause-value : goal.returns-clause-value
returns-clause-value c =
    let two : List ℕ = c.args.sequence / 16 ∷ c.args.sequence % 16 ∷ [] in
    let zeros : c.append.new.digits.items ≡ replicate c.args.zeros 0 = c.append.ensures ∙ ap (λ (l : List ℕ). l ++ take c.args.zeros (replicate 16 0)) c.new-digits.ensures ∙ take-replicate c.args.zeros 16 0 c.requires.most in
    c.append-3.ensures
    ∙ ap (λ (l : List ℕ). l ++ two) (c.append-2.ensures ∙ ap (λ (l : List ℕ). l ++ c.args.pan.now) zeros)
    ∙ append_assoc (replicate c.args.zeros 0) c.args.pan.now two

pub returns-clause-small : goal.returns-clause-small
returns-clause-small c =
    let is = returns-clause-value c in
    rw is (behind_zeros_small c.args.zeros c.args.pan.now c.args.sequence c.requires.digits.1 c.ranges.sequence.fits)
