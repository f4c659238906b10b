use Rattle.std.proofs.lemmas.Bool.Decides.{nat_tests}
use Rattle.std.proofs.Common.{◌≡◌, ◌<◌, ◌+◌, ◌-◌, ◌++◌, List, length, take, drop, suc, option_map, rules, sym, ap, ◌∙◌, arith}
use Rattle.card_state.specs.declared.state.AppState.{AppState}
use Rattle.card_state.specs.Layout.{apps_in}
use Rattle.card_state.proofs.Apps.{start_read, one_more_read, not_read, whole_read, more_left}
use Rattle.card_state.proofs.decoding.read_apps.Goals as goal

pub loop-i-init : goal.loop-i-init
loop-i-init c = record {
  count = search rules;
  left = start_read c.args.version c.args.count (c.args.count - 0) c.args.bytes.now c.new-apps.result.items c.new-apps.ensures (omega arith);
}

pub loop-i-preserved : goal.loop-i-preserved
loop-i-preserved c =
    let n = c.args.count - (c.loop-i.i + 1) in
    let some : c.args.count - c.loop-i.i ≡ suc n = omega arith in
    record {
      count = search rules;
      left =
          one_more_read c.args.version (apps_in c.args.version c.args.count c.args.bytes.now) c.loop-i.apps.items c.loop-i.rest.now n (c.args.count - c.loop-i.i)
          c.size_of.result c.in-Some.app some c.in-Some.ensures.exact c.size_of.ensures c.loop-i.invariant.left
          ∙ ap (λ (xs : List AppState). option_map (λ (ss : List AppState). xs ++ ss) (apps_in c.args.version n (take (length c.loop-i.rest.now - c.size_of.result) (drop c.size_of.result c.loop-i.rest.now)))) (sym c.push.ensures.items);
    }

pub returns-in-None : goal.returns-in-None
returns-in-None c =
    let n = c.args.count - (c.loop-i.i + 1) in
    let some : c.args.count - c.loop-i.i ≡ suc n = omega arith in
    sym (not_read c.args.version (apps_in c.args.version c.args.count c.args.bytes.now) c.loop-i.apps.items c.loop-i.rest.now n (c.args.count - c.loop-i.i)
    some c.in-None.ensures.exact c.loop-i.invariant.left)

pub returns-then-not-is_empty : goal.returns-then-not-is_empty
returns-then-not-is_empty c =
    let some : 0 < length c.loop-i.rest.now = grind (arith, nat_tests, c.if-not-is_empty.ensures) in
    sym (more_left c.args.version (apps_in c.args.version c.args.count c.args.bytes.now) c.loop-i.apps.items c.loop-i.rest.now (c.args.count - c.loop-i.i)
    (omega arith) some c.loop-i.invariant.left)

pub returns : goal.returns
returns c =
    let none : length c.loop-i.rest.now ≡ 0 = grind (arith, nat_tests, c.if-not-is_empty.ensures) in
    sym (whole_read c.args.version (apps_in c.args.version c.args.count c.args.bytes.now) c.loop-i.apps.items c.loop-i.rest.now (c.args.count - c.loop-i.i)
    (omega arith) none c.loop-i.invariant.left)
