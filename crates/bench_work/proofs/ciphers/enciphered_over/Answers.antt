use Rattle.std.proofs.Common.{◌≡◌, List, ℕ, replicate, refl, ap, subst, sym, ◌∙◌, arith}
use Rattle.std.proofs.Math.Numerals.{add-one}
use Rattle.triple_des.specs.Des.{enciphered}
use Rattle.bench_work.specs.Work.{repeated}
use Rattle.bench_work.proofs.ciphers.enciphered_over.Goals as goal

pub loop-done-init : goal.loop-done-init
unfolding repeated
loop-done-init c = refl

pub loop-done-preserved : goal.loop-done-preserved
unfolding repeated
loop-done-preserved c =
    let step : List ℕ → List ℕ = λ l. enciphered c.args.des.now l in
    c.encipher-next.ensures.value
    ∙ ap step c.loop-done.invariant
    ∙ ap (λ (n : ℕ). repeated n step (replicate 8 0)) (sym (add-one c.loop-done._done))

pub returns : goal.returns
returns c =
    let all : c.loop-done._done ≡ c.args.count = omega arith in
    subst (λ (n : ℕ). c.loop-done.block ≡ repeated n (enciphered c.args.des.now) (replicate 8 0)) all c.loop-done.invariant
