use Rattle.std.proofs.Common.{◌≡◌, ◌+◌, Bool, true, false, cond, drop, Some, sym, ap, ◌∙◌}
use Rattle.std.specs.List.{position_from}
use Rattle.std.specs.Str.{bytes_eq}
use Rattle.issuer_host.specs.Account.{AccountData}
use Rattle.issuer_host.proofs.Places.{step_place}
use Rattle.issuer_host.proofs.accounts.place_of.Goals as goal

pub returns-then-eq : goal.returns-then-eq
returns-then-eq c =
    let t : AccountData → Bool = λ account. bytes_eq c.args.pan.now account.pan in
    let i = c.loop-place.place in
    let step = step_place t c.args.accounts.now i c.index-accounts-place.result c.loop-place-test.true c.index-accounts-place.is in
    let yes : t c.index-accounts-place.result ≡ true = ap t (sym c.account.view_is) ∙ sym c.eq.ensures ∙ c.if-eq.true in
    sym (step ∙ ap (λ b. cond b (Some i) (position_from t (i + 1) (drop (i + 1) c.args.accounts.now))) yes) ∙ c.loop-place.invariant

pub loop-place-preserved : goal.loop-place-preserved
loop-place-preserved c =
    let t : AccountData → Bool = λ account. bytes_eq c.args.pan.now account.pan in
    let i = c.loop-place.place in
    let step = step_place t c.args.accounts.now i c.index-accounts-place.result c.loop-place-test.true c.index-accounts-place.is in
    let no : t c.index-accounts-place.result ≡ false = ap t (sym c.account.view_is) ∙ sym c.eq.ensures ∙ c.if-eq.false in
    sym (step ∙ ap (λ b. cond b (Some i) (position_from t (i + 1) (drop (i + 1) c.args.accounts.now))) no) ∙ c.loop-place.invariant
