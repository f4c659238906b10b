use Rattle.std.proofs.Common.{◌≡◌, refl, sym, ap, ◌∙◌, ℕ, Bool, true, false, List, [], arith}
use Rattle.app_select.specs.Leading.{rest_with}
use Rattle.emv_dict.specs.Views.{SettingsData, PurchaseData}
use Rattle.emv_dict.specs.declared.ending.Step.TheVariants as step
use Rattle.kernel.proofs.Opened.{asks_on}
use Rattle.kernel.proofs.selection.begin.Goals as goal
use Rattle.kernel.specs.Dialogue.{dialogue, selected_then}
use Rattle.pse_directory.proofs.Chains.{without_directory}
use Rattle.pse_directory.proofs.Going.{rest_wants}
use Rattle.pse_directory.specs.Directory.{selecting_by}
use Rattle.pse_directory.specs.Left.{DirectoryData, directory_answers_left, directory_rest}
use Rattle.terminal_state.specs.Table.{outset_of}
use Rattle.terminal_state.specs.Terminal.{Outset}

-- what was dealt is what selection begins with
same_course : (outset : Outset) (settings : SettingsData) (purchase : PurchaseData) (pse confirm : Bool) → outset ≡ record { settings = settings; purchase = purchase }
    → settings.pse ≡ pse → purchase.confirm ≡ confirm → (later : List (List ℕ))
    → selecting_by outset.settings.pse outset.settings.aids outset.purchase.confirm later ≡ selecting_by pse settings.aids confirm later
same_course outset settings purchase pse confirm outset_given pse_is confirm_is later = rw (outset_given, pse_is, confirm_is) refl

pub returns-then-settings-clause-stands : goal.returns-then-settings-clause-stands
unfolding dialogue
returns-then-settings-clause-stands c = λ table outset_given candidates unread state_so_far command.
    let outset = outset_of table in record {
      passed = asks_on step.Power step.Select (selecting_by outset.settings.pse outset.settings.aids outset.purchase.confirm) (selected_then outset) [] (dialogue outset) (λ later. refl) (directory_rest c.begin-listing.result)
          (λ later. same_course outset _ _ true _ outset_given (sym (ap (λ (s : SettingsData). s.pse) c.settings.view_is) ∙ c.if-settings.true) (sym (ap (λ (p : PurchaseData). p.confirm) c.purchase.view_is)) later
          ∙ c.begin-listing.ensures.leads later);
      tied = state_so_far;
      shows = rw command (rest_wants c.begin-listing.result _ c.ask.ensures.wants);
    }

pub returns-then-settings-clause-few : goal.returns-then-settings-clause-few
returns-then-settings-clause-few c = λ table candidates.
    let left : directory_answers_left c.begin-listing.result ≡ 768 = ap (λ (d : DirectoryData). directory_answers_left d) c.begin-listing.ensures.is in
    omega (arith, left)

pub returns-else-settings-clause-stands : goal.returns-else-settings-clause-stands
unfolding dialogue
returns-else-settings-clause-stands c = λ table outset_given candidates unread state_so_far command.
    let outset = outset_of table in record {
      passed = rw candidates (asks_on step.Power step.Select (selecting_by outset.settings.pse outset.settings.aids outset.purchase.confirm) (selected_then outset) [] (dialogue outset) (λ later. refl) (rest_with c.begin-search.result [])
          (λ later. same_course outset _ _ false _ outset_given (sym (ap (λ (s : SettingsData). s.pse) c.settings.view_is) ∙ c.if-settings.false) (sym (ap (λ (p : PurchaseData). p.confirm) c.purchase.view_is)) later
          ∙ without_directory _ _ later ∙ c.begin-search.ensures.leads later));
      tied = state_so_far;
      shows = rw (candidates, command) (c.ask-else-settings.ensures.wants [] (rest_with c.begin-search.result []) [] (λ later. refl));
    }
