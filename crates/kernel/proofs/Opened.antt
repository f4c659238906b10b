-- How the steps before the card is read follow one another.
use Rattle.std.proofs.Common.{◌≡◌, refl, ◌∙◌, ℕ, List, [], ◌∷◌, ◌++◌}
use Rattle.std.specs.declared.option.Option.{Option}
use Rattle.app_select.specs.Candidates.{CandidateData}
use Rattle.app_select.specs.NextLeads.{SearchNextLeads}
use Rattle.app_select.specs.Selecting.{SelectedData}
use Rattle.app_select.specs.declared.search.SearchNext.{SearchNext}
use Rattle.app_select.specs.declared.search.SearchNext.TheVariants as search
use Rattle.emv_dict.specs.Progress.{Progress, Wants, Stopped, Done}
use Rattle.emv_dict.specs.declared.ending.Cause.{Cause}
use Rattle.emv_dict.specs.declared.ending.Ending.TheVariants.{Terminated, CutOff}
use Rattle.emv_dict.specs.declared.ending.Step.{Step}
use Rattle.emv_dict.specs.declared.purchase.Logged.{Logged}
use Rattle.env_map.specs.Entries.{Entries}
use Rattle.kernel.proofs.Courses.{same, done, stopped, gone, taken}
use Rattle.kernel.specs.StepsInTurn.{Standing, Rest, over, card_step, cut_off}
use Rattle.kernel.specs.Reply.{Reply, CardSaid, CardGone}
use Rattle.object_lists.specs.CardRead.{ReadCard}
use Rattle.pse_directory.specs.Next.{DirectoryNextLeads}
use Rattle.pse_directory.specs.declared.listing.DirectoryNext.{DirectoryNext}
use Rattle.pse_directory.specs.declared.listing.DirectoryNext.TheVariants as directory
use Rattle.read_records.specs.Leading.{OptionsNextLeads, CourseNextLeads}
use Rattle.read_records.specs.Options.{Opened}
use Rattle.read_records.specs.declared.initiating.OptionsNext.{OptionsNext}
use Rattle.read_records.specs.declared.initiating.OptionsNext.TheVariants as options
use Rattle.read_records.specs.declared.reading.RecordsNext.{RecordsNext}
use Rattle.read_records.specs.declared.reading.RecordsNext.TheVariants as course
use Rattle.terminal_state.specs.StepResults.{StepResult}

module _ {A : Type 0} (cut step : Step) (course : List (List ℕ) → Progress A) (next : A → Rest StepResult) (log : List Logged) (rest : List Reply → Standing StepResult)
    (passed : (later : List Reply) → rest later ≡ card_step (cut_off []) cut step [] course next log later) where
  -- the step asks on
  pub asks_on : (other : List (List ℕ) → Progress A) → ((later : List (List ℕ)) → course later ≡ other later) → (later : List Reply) → rest later ≡ card_step (cut_off []) cut step [] other next log later
  asks_on other equal later = passed later ∙ same (cut_off []) cut step [] course other next log later (λ at one two alike. refl) equal

  -- the next one follows
  pub done_on : (value : A) → ((later : List (List ℕ)) → course later ≡ Done value later) → (later : List Reply) → rest later ≡ next value log later
  done_on value is later = passed later ∙ done (cut_off []) cut step [] course next value is log later

  -- a cause ends the dialogue
  pub stopped_on : (cause : Cause) → ((later : List (List ℕ)) → course later ≡ Stopped cause) → (later : List Reply) → rest later ≡ over [] (Terminated step cause) log later
  stopped_on cause is later = passed later ∙ stopped (cut_off []) cut step [] course next cause is log later

  -- the card answers
  pub taken_on : (command : List ℕ) → course [] ≡ Wants command → (answer : List ℕ) → (now : List Logged) → (later : List Reply)
      → rest (CardSaid answer now ∷ later) ≡ card_step (cut_off []) step step [] (λ answers. course (answer ∷ answers)) next now later
  taken_on command wants answer now later = passed (CardSaid answer now ∷ later) ∙ taken (cut_off []) cut step [] course next log command wants answer now later

  -- it is gone
  pub gone_on : (command : List ℕ) → course [] ≡ Wants command → (later : List Reply) → rest (CardGone ∷ later) ≡ over [] (CutOff cut) log later
  gone_on command wants later = passed (CardGone ∷ later) ∙ gone (cut_off []) cut step [] course next log command wants later

-- what follows an answer, for the whole behind it
pub search_shifted : (candidates : List CandidateData) → (whole : List (List ℕ) → Progress SelectedData) → (answer : List ℕ) → (next : SearchNext) → SearchNextLeads candidates whole ([] ++ answer ∷ []) next → SearchNextLeads candidates (λ later. whole (answer ∷ later)) [] next
search_shifted candidates whole answer (search.Ask state) leads = leads
search_shifted candidates whole answer (search.Chosen choice) leads = leads
search_shifted candidates whole answer (search.Ended cause) leads = leads

pub directory_shifted : (candidates : List CandidateData) → (whole : List (List ℕ) → Progress SelectedData) → (answer : List ℕ) → (next : DirectoryNext) → DirectoryNextLeads candidates whole ([] ++ answer ∷ []) next → DirectoryNextLeads candidates (λ later. whole (answer ∷ later)) [] next
directory_shifted candidates whole answer (directory.Ask state) leads = leads
directory_shifted candidates whole answer (directory.Found search) leads = leads
directory_shifted candidates whole answer (directory.List search) leads = leads
directory_shifted candidates whole answer (directory.Ended cause) leads = leads

pub options_shifted : (objects : Entries) → (whole : List (List ℕ) → Progress (Option Opened)) → (answer : List ℕ) → (next : OptionsNext) → OptionsNextLeads objects whole ([] ++ answer ∷ []) next → OptionsNextLeads objects (λ later. whole (answer ∷ later)) [] next
options_shifted objects whole answer options.Refused leads = leads
options_shifted objects whole answer (options.Read records) leads = leads
options_shifted objects whole answer (options.Ended cause) leads = leads

pub course_shifted : (objects : Entries) → (whole : List (List ℕ) → Progress ReadCard) → (answer : List ℕ) → (next : RecordsNext) → CourseNextLeads objects whole ([] ++ answer ∷ []) next → CourseNextLeads objects (λ later. whole (answer ∷ later)) [] next
course_shifted objects whole answer (course.Ask records) leads = leads
course_shifted objects whole answer course.Done leads = leads
course_shifted objects whole answer (course.Ended cause) leads = leads
