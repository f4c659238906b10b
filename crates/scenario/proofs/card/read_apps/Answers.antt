use Rattle.std.proofs.Common.{◌≡◌, ℕ, ◌+◌, ◌<◌, List, [], ◌∷◌, ◌++◌, length, get_or, drop, Result, Ok, ap, sym, subst, ◌∙◌, rules, arith}
use Rattle.card_files.specs.Views.{AppData}
use Rattle.issuer_host.specs.declared.keys.HostKeys.{HostKeys}
use Rattle.toml.proofs.Views.{items_view-drop}
use Rattle.toml.specs.Data.{Data, Items, item}
use Rattle.toml.specs.View.{view, items_view}
use Rattle.toml.specs.declared.value.Value.{Value}
use Rattle.scenario_fields.specs.Fields.{with_front}
use Rattle.scenario_fields.specs.declared.fault.ScenarioFault.{ScenarioFault}
use Rattle.scenario.proofs.Loops.{front_moved}
use Rattle.scenario.proofs.CardParts.{apps_keep, app_names_differ}
use Rattle.scenario.specs.CardRules.{IsNewApp}
use Rattle.scenario.specs.Cards.{app_item, apps_from}
use Rattle.scenario.proofs.card.read_apps.Goals as goal

apps_step : (card : ℕ) (keys : HostKeys) (front earlier : List AppData) (i : ℕ) (d : Data) (ds : Items) (x : AppData) → app_item card i keys earlier d ≡ Ok x →
    with_front (front ++ x ∷ []) (apps_from card (i + 1) keys (earlier ++ x ∷ []) ds) ≡ with_front front (apps_from card i keys earlier (item d ds))
apps_step card keys front earlier i d ds x is = rw is (front_moved front x (apps_from card (i + 1) keys (earlier ++ x ∷ []) ds))

apps_pushed : (card : ℕ) (keys : HostKeys) (i j : ℕ) (vs : List Value) (v : Value) (old new : List AppData) (x : AppData) (whole : Result (List AppData) ScenarioFault) →
    i < length vs → v ≡ get_or vs i v → j ≡ i → new ≡ old ++ x ∷ [] → app_item card j keys old (view v) ≡ Ok x →
    with_front old (apps_from card i keys old (items_view (drop i vs))) ≡ whole →
    with_front new (apps_from card (i + 1) keys new (items_view (drop (i + 1) vs))) ≡ whole
apps_pushed card keys i j vs v old new x whole inside item_is at pushed is before =
    rw pushed
    (apps_step card keys old old i (view (get_or vs i v)) (items_view (drop (i + 1) vs)) x
    (subst (λ (k : ℕ). app_item card k keys old (view (get_or vs i v)) ≡ Ok x) at
    (subst (λ (w : Value). app_item card j keys old (view w) ≡ Ok x) item_is is))
    ∙ (ap (λ (ds : Items). with_front old (apps_from card i keys old ds)) (sym (items_view-drop vs i v inside)) ∙ before))

pub loop-value-preserved : goal.loop-value-preserved
loop-value-preserved c = record {
  rules = apps_keep c.loop-value.apps.items c.push.new.self.items c.in_ok-app.app c.in_ok-push.ensures.items c.loop-value.invariant.rules (subst (λ (apps : List AppData). IsNewApp apps c.in_ok-app.app) c.as_slice.ensures.value c.in_ok-app.ensures.new);
  names = app_names_differ c.loop-value.apps.items c.push.new.self.items c.in_ok-app.app c.in_ok-push.ensures.items c.loop-value.invariant.names (subst (λ (apps : List AppData). IsNewApp apps c.in_ok-app.app) c.as_slice.ensures.value c.in_ok-app.ensures.new);
  count = search rules;
  read =
      apps_pushed c.args.card c.args.keys.now c.loop-value.value-index c.len.result c.args.values.now
      c.value-item.result c.loop-value.apps.items c.push.new.self.items c.in_ok-app.app _
      c.loop-value-test.true c.value-item.is (omega (arith, c.len.ensures)) c.in_ok-push.ensures.items
      (subst (λ (apps : List AppData). app_item c.args.card c.len.result c.args.keys.now apps (view c.value-item.result) ≡ Ok c.in_ok-app.app) c.as_slice.ensures.value c.in_ok-app.ensures.exact)
      c.loop-value.invariant.read;
}
