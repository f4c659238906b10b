use Rattle.std.proofs.Common.{rules, ap, ◌∙◌, get_or, List, arith}
use Rattle.card_state.specs.declared.state.AppState.{AppState}
use Rattle.card_state.specs.Encoding.{app_bytes_one}
use Rattle.card_state.proofs.Appended.{bytes_more}
use Rattle.card_state.proofs.encoding.encode_one.Goals as goal

pub loop-app-preserved : goal.loop-app-preserved
loop-app-preserved c =
    let here = c.app-item.is ∙ ap (λ (xs : List AppState). get_or xs c.loop-app.app-index c.app-item.result) c.as_slice-app-items.ensures.value in
    record {
      items = bytes_more c.args.state.now.apps.items c.loop-app.app-index c.app-item.result (search rules) here app_bytes_one _ _ _ c.loop-app.invariant.items c.append_first.ensures.items;
      len = omega arith;
    }
