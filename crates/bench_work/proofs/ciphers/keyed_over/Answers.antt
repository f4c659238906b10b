use Rattle.std.proofs.Common.{◌≡◌, List, ℕ, replicate, refl, ap, subst, sym, ◌∙◌, arith}
use Rattle.std.proofs.Math.Numerals.{add-one}
use Rattle.triple_des.specs.Des.{enciphered, des}
use Rattle.bench_work.specs.Work.{repeated}
use Rattle.bench_work.proofs.ciphers.keyed_over.Goals as goal

pub loop-turn-init : goal.loop-turn-init
unfolding repeated
loop-turn-init c = refl

pub loop-turn-preserved : goal.loop-turn-preserved
unfolding repeated
loop-turn-preserved c =
    let step : List ℕ → List ℕ = λ key. des key key in
    c.encipher-next.ensures.value
    ∙ ap (λ (keys : List (List ℕ)). enciphered keys c.loop-turn.key) c.new.ensures
    ∙ ap step c.loop-turn.invariant
    ∙ ap (λ (n : ℕ). repeated n step (replicate 8 0)) (sym (add-one c.loop-turn._turn))

pub returns : goal.returns
returns c =
    let all : c.loop-turn._turn ≡ c.args.count = omega arith in
    subst (λ (n : ℕ). c.loop-turn.key ≡ repeated n (λ key. des key key) (replicate 8 0)) all c.loop-turn.invariant
