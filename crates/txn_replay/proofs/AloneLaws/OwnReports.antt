-- The whole report of a run with others: a lane's own lines of it are those of a run of the lane alone.
-- The law `LanesStandAlone`: settlement, audit and balances are among these lines.
use Rattle.std.proofs.Common.{◌≡◌, ℕ, ℤ, Bool, true, false, cond, List, [], ◌∷◌, ◌++◌, Option, Some, None, refl, sym, ap, ◌∙◌, append-nil}
use Rattle.std.specs.List.{flat_map}
use Rattle.std.specs.Prelude.{filter}
use Rattle.std.proofs.lemmas.List.Elements.{filter-append}
use Rattle.host_histories.specs.Apart.{own_accounts, StandApart}
use Rattle.issuer_host.specs.Account.{AccountData}
use Rattle.issuer_host.specs.History.{balance_after}
use Rattle.report_text.specs.declared.line.Line.{Line}
use Rattle.report_text.specs.declared.line.Line.TheVariants.{Done}
use Rattle.scenario_plan.specs.Plan.{ScenarioData}
use Rattle.txn_replay.specs.Alone.{alone, PartsAgree, is_own}
use Rattle.txn_replay.specs.Run.{Finished, balance_line, account_lines, ended_count, closing}
use Rattle.txn_replay.specs.StandAlone.{LanesStandAlone, run_choices}
use Rattle.txn_replay.specs.World.{World}
use Rattle.txn_replay.proofs.AloneLaws.OwnPieces.{balance_own}
use Rattle.txn_replay.proofs.AloneLaws.OwnRuns.{Lone, far}

-- the balances at the end
module _ (pans : List ℕ → Bool) (s : ScenarioData) (l : ℕ) (apart : StandApart) (w v : World) (agree : PartsAgree pans s l w v) where
  line_own : (pan : List ℕ) (o : Option ℤ) → pans pan ≡ true → filter (is_own pans s l) (balance_line pan o) ≡ balance_line pan o
  line_own pan None is = refl
  line_own pan (Some amount) is = rw is refl

  line_other : (pan : List ℕ) (o : Option ℤ) → pans pan ≡ false → filter (is_own pans s l) (balance_line pan o) ≡ []
  line_other pan None isnt = refl
  line_other pan (Some amount) isnt = rw isnt refl

  balances : (accounts : List AccountData)
      → flat_map (account_lines (alone pans s l) v) (own_accounts pans accounts) ≡ filter (is_own pans s l) (flat_map (account_lines s w) accounts)
  balances [] = refl
  balances (account ∷ accounts) =
      by (pans account.pan) refl (balances accounts)
      ∙ sym (filter-append (is_own pans s l) (account_lines s w account) (flat_map (account_lines s w) accounts))
    where
      by : (b : Bool) → pans account.pan ≡ b
          → flat_map (account_lines (alone pans s l) v) (own_accounts pans accounts) ≡ filter (is_own pans s l) (flat_map (account_lines s w) accounts)
          → flat_map (account_lines (alone pans s l) v) (cond b (account ∷ own_accounts pans accounts) (own_accounts pans accounts))
          ≡ filter (is_own pans s l) (account_lines s w account) ++ filter (is_own pans s l) (flat_map (account_lines s w) accounts)
      by true is later =
          ap (λ (xs : List Line). account_lines (alone pans s l) v account ++ xs) later
          ∙ ap (λ (xs : List Line). xs ++ filter (is_own pans s l) (flat_map (account_lines s w) accounts))
          (ap (balance_line account.pan) (balance_own pans apart s.issuer s.accounts v.messages w.messages account.pan agree.messages is)
          ∙ sym (line_own account.pan (balance_after s.issuer s.accounts w.messages account.pan) is))
      by false isnt later =
          later
          ∙ ap (λ (xs : List Line). xs ++ filter (is_own pans s l) (flat_map (account_lines s w) accounts))
          (sym (line_other account.pan (balance_after s.issuer s.accounts w.messages account.pan) isnt))

pub lanes_stand_alone : StandApart → LanesStandAlone
lanes_stand_alone apart pans s l lines w fits is run = record {
  own = lone.reported ++ flat_map (account_lines (alone pans s l) lone.world) (own_accounts pans s.accounts);
  world = lone.world;
  run = record { count = lone.count; reported = lone.reported; reached = lone.reached; whole = refl };
  told =
      ap (λ (xs : List Line). xs ++ flat_map (account_lines (alone pans s l) lone.world) (own_accounts pans s.accounts)) lone.told
      ∙ ap (λ (xs : List Line). filter (is_own pans s l) run.reported ++ xs) closing_own
      ∙ sym (filter-append (is_own pans s l) run.reported (closing s w))
      ∙ ap (filter (is_own pans s l)) (sym run.whole);
  parts = lone.parts;
}
  where
    lone : Lone pans s l Finished (run_choices s l lines w run) run.reported w
    lone = far pans s l apart is.inside is.cards fits Finished run.count run.choices run.reported w run.reached is.numbers

    closing_own : flat_map (account_lines (alone pans s l) lone.world) (own_accounts pans s.accounts) ≡ filter (is_own pans s l) (closing s w)
    closing_own =
        balances pans s l apart w lone.world lone.parts s.accounts
        ∙ sym (append-nil (filter (is_own pans s l) (flat_map (account_lines s w) s.accounts)))
        ∙ sym (filter-append (is_own pans s l) (flat_map (account_lines s w) s.accounts) (Done (ended_count w) ∷ []))
