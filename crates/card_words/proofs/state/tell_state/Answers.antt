use Rattle.std.proofs.Common.{◌≡◌, length, arith}
use Rattle.card_words.proofs.StateLines.{app_more, state_told}
use Rattle.card_words.proofs.state.tell_state.Goals as goal

pub loop-place-preserved : goal.loop-place-preserved
loop-place-preserved c =
    app_more c.as_slice-apps.result.now c.loop-place.place c.args.state.now.blocked c.index-apps-place.result c.loop-place.text.items c.tell_app.new.text.items _
    c.index-apps-place.is c.loop-place-test.true c.in_ok-tell_app.ensures c.loop-place.invariant

pub returns : goal.returns
returns c =
    let end : c.loop-place.place ≡ length c.as_slice-apps.result.now = omega (arith, c.loop-place-test.false, c.loop-place.auto.place-end) in
    state_told c.args.state.now c.as_slice-apps.result.now c.loop-place.place c.loop-place.text.items c.as_slice-apps.ensures.value end c.loop-place.invariant
