use Rattle.std.proofs.Common.{◌+◌, ◌++◌, List, drop, rules, sym, ap, ◌∙◌, arith}
use Rattle.card_state.specs.declared.state.AppState.{AppState}
use Rattle.card_state.specs.Upgrade.{limits_applied}
use Rattle.card_state.proofs.UpgradeLemmas.{one_more, all_limited}
use Rattle.card_state.proofs.upgrade.apps_with_limits.Goals as goal

pub loop-i-preserved : goal.loop-i-preserved
loop-i-preserved c = record {
  count = search rules;
  left =
      one_more (limits_applied c.args.opening.now c.args.apps.now) c.loop-i.made.items c.args.opening.now c.args.apps.now c.loop-i.i
      c.index-opening-i.result c.index-apps-i.result c.with_limit.result (omega arith) (omega arith) c.index-opening-i.is c.index-apps-i.is
      c.with_limit.ensures c.loop-i.invariant.left
      ∙ ap (λ (xs : List AppState). xs ++ limits_applied (drop (c.loop-i.i + 1) c.args.opening.now) (drop (c.loop-i.i + 1) c.args.apps.now)) (sym c.push.ensures.items);
}

pub returns : goal.returns
returns c =
    all_limited (limits_applied c.args.opening.now c.args.apps.now) c.loop-i.made.items c.args.opening.now c.args.apps.now c.loop-i.i (omega arith) c.loop-i.invariant.left
