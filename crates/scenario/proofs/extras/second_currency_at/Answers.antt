use Rattle.std.proofs.Common.{◌≡◌, ℕ, List, Err, refl, ap, sym, ◌∙◌, rules}
use Rattle.std.specs.Prelude.{codes, true, false}
use Rattle.std.proofs.lemmas.Result.{err_from_is_err_and}
use Rattle.toml.specs.View.{table_view}
use Rattle.scenario_fields.proofs.Loops.{Fails-then}
use Rattle.scenario_fields.specs.TablePaths.{path, spot_path}
use Rattle.scenario_fields.specs.declared.fault.ScenarioFault.TheVariants.{BadValue}
use Rattle.card_files.specs.AppRules.{is_second_code}
use Rattle.scenario.proofs.Behind.{tells_fails, second_kept, second_refused, second_failed}
use Rattle.scenario.proofs.extras.second_currency_at.Goals as goal

pub returns-in_err-second-clause-exact : goal.returns-in_err-second-clause-exact
returns-in_err-second-clause-exact c =
    let failed = err_from_is_err_and c.from_residual.result c.from_residual.ensures.1 in
    rw (failed.1, failed.2)
    (Fails-then c.in_err-second.field-0.0 _ _ (λ e is. second_failed (path c.args.fields.now.place) c.args.currency (table_view c.args.fields.now.table.now) e is)
    c.in_err-second.ensures.exact)

pub returns-then-not-is_second_code-clause-exact : goal.returns-then-not-is_second_code-clause-exact
returns-then-not-is_second_code-clause-exact c =
    let fails : is_second_code c.args.currency c.in_ok-second.second ≡ false = sym c.is_second_code.ensures ∙ c.if-not-is_second_code.true in
    let at : spot_path c.spot.result.place c.spot.result.key.now c.spot.result.index ≡ path c.args.fields.now.place (codes "currency_two") =
    rw (c.spot.ensures.place, c.spot.ensures.key, c.spot.ensures.index) refl in
    tells_fails c.bad.result (BadValue (spot_path c.spot.result.place c.spot.result.key.now c.spot.result.index)) _ c.bad.ensures
    (second_refused (path c.args.fields.now.place) c.args.currency (table_view c.args.fields.now.table.now) c.in_ok-second.second c.in_ok-second.ensures.exact fails
    ∙ ap (λ (p : List ℕ). Err (BadValue p)) (sym at))

pub returns-clause-exact : goal.returns-clause-exact
returns-clause-exact c =
    let passes : is_second_code c.args.currency c.in_ok-second.second ≡ true = search rules in
    second_kept (path c.args.fields.now.place) c.args.currency (table_view c.args.fields.now.table.now) c.in_ok-second.second c.in_ok-second.ensures.exact passes
