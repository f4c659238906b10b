use Rattle.std.proofs.Common.{◌≡◌, ◌<◌, ◌≤◌, ◌++◌, ◌&&◌, ◌==◌, ℕ, List, [], length, Bool, ap, ap₂, sym, ◌∙◌, arith}
use Rattle.std.specs.List.{starts_with}
use Rattle.std.proofs.lemmas.List.{take-append-drop, drop_all}
use Rattle.torn_store.proofs.Pieces.{begins_apart}
use Rattle.torn_store.proofs.layout.begin_with.Goals as goal

pub returns-then-starts_with : goal.returns-then-starts_with
returns-then-starts_with c =
    let near : List ℕ = c.args.near.now in
    let far : List ℕ = c.args.far.now in
    let part : List ℕ = c.args.part.now in
    let head : List ℕ = c.split_at.result.0.now in
    let tail : List ℕ = c.split_at.result.1.now in
    let whole : head ++ tail ≡ part = ap₂ (λ (a b : List ℕ). a ++ b) c.split_at.ensures.front c.split_at.ensures.back ∙ take-append-drop c.min.result part in
    let short : length head ≤ length near = omega (arith, c.min.ensures, c.split_at.ensures.front_len) in
    let all : length head < length near → tail ≡ [] = λ below. c.split_at.ensures.back ∙ drop_all c.min.result part (omega (arith, c.min.ensures, c.split_at.ensures.front_len)) in
    c.starts_with-then-starts_with.ensures.value
    ∙ sym (ap (λ (b : Bool). b && starts_with ◌==◌ far tail) (sym c.starts_with.ensures.value ∙ c.if-starts_with.true))
    ∙ sym (begins_apart near far head tail short all)
    ∙ ap (λ (l : List ℕ). starts_with ◌==◌ (near ++ far) l) whole

pub returns-else-starts_with : goal.returns-else-starts_with
returns-else-starts_with c =
    let near : List ℕ = c.args.near.now in
    let far : List ℕ = c.args.far.now in
    let part : List ℕ = c.args.part.now in
    let head : List ℕ = c.split_at.result.0.now in
    let tail : List ℕ = c.split_at.result.1.now in
    let whole : head ++ tail ≡ part = ap₂ (λ (a b : List ℕ). a ++ b) c.split_at.ensures.front c.split_at.ensures.back ∙ take-append-drop c.min.result part in
    let short : length head ≤ length near = omega (arith, c.min.ensures, c.split_at.ensures.front_len) in
    let all : length head < length near → tail ≡ [] = λ below. c.split_at.ensures.back ∙ drop_all c.min.result part (omega (arith, c.min.ensures, c.split_at.ensures.front_len)) in
    c.if-starts_with.false
    ∙ sym (ap (λ (b : Bool). b && starts_with ◌==◌ far tail) (sym c.starts_with.ensures.value ∙ c.if-starts_with.false))
    ∙ sym (begins_apart near far head tail short all)
    ∙ ap (λ (l : List ℕ). starts_with ◌==◌ (near ++ far) l) whole
