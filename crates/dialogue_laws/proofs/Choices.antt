-- The applications of a card that a terminal may choose, and their names.
use Rattle.std.proofs.Common.{◌≡◌, ℕ, ◌==◌, Bool, true, false, if◌then◌else◌, List, slice_get, Option, Some, None, refl, sym, ap, ◌∙◌, subst, inl, inr}
use Rattle.std.specs.List.{All}
use Rattle.std.specs.Str.{bytes_eq}
use Rattle.std.proofs.lemmas.Bool.{cases_eq}
use Rattle.std.proofs.lemmas.Option.{get_or_from_slice_get, slice_get_within}
use Rattle.std.proofs.lemmas.Slice.Eq.{bytes_eq-Decides}
use Rattle.app_select.specs.Candidates.{CandidateData, is_candidate_named, is_allowed}
use Rattle.card_app.specs.Selection.{directory_asked}
use Rattle.card_files.specs.Directory.{is_hidden}
use Rattle.emv_dict.specs.Name.{directory_name}
use Rattle.card_files.specs.ImageRules.{AreInSight}
use Rattle.card_files.specs.Views.{AppData, ImageData}
use Rattle.card_state.specs.declared.state.AppState.{AppState}
use Rattle.card_state.specs.declared.state.CardState.{CardState}
use Rattle.dialogue_laws.proofs.Seeking.{begins, begins_itself}
use Rattle.dialogue_laws.specs.WellFormed.{HaveApartNames, CanServe}
use Rattle.terminal_state.specs.Terminal.{Outset}

-- a candidate is an application of the card
pub record IsOwn (image : ImageData) (state : CardState) (candidate : CandidateData) : Type 0 where
  pub app : ℕ
  pub own : AppData
  pub now : AppState
  pub is : slice_get image.apps app ≡ Some own
  pub state_is : slice_get state.apps.items app ≡ Some now
  pub name : candidate.name ≡ own.name
  pub priority : candidate.priority ≡ own.priority

-- or its directory, where the terminal has that name in its list
pub data IsFound (image : ImageData) (state : CardState) (candidate : CandidateData) : Type 0 where
  application : IsOwn image state candidate → IsFound image state candidate
  directory : (sfi : ℕ) → image.directory ≡ Some sfi → candidate.name ≡ directory_name → IsFound image state candidate

-- what holds of all holds of each
pub all_at : {X : Type 0} (P : X → Type 0) (xs : List X) (i : ℕ) (x : X) → slice_get xs i ≡ Some x → All P xs → P x
all_at P xs i x is all = subst P (get_or_from_slice_get xs i x x is) (all i x (slice_get_within xs i x is))

-- one application alone has a name that begins with another's
pub alone : (image : ImageData) → HaveApartNames image.apps → (i j : ℕ) (a b : AppData) → slice_get image.apps i ≡ Some a → slice_get image.apps j ≡ Some b → begins b.name a.name ≡ true → i ≡ j
alone image apart i j a b at_i at_j begin =
    elim (cases_eq i j) [
      | inl same ↦ same
      | inr other ↦ absurd (cc (sym begin ∙ apart i j a b at_i at_j other))
    ]

pub named_itself : (name : List ℕ) → bytes_eq name name ≡ true
named_itself name = (bytes_eq-Decides name name).1 refl

-- beside a directory, no application's name is found by its name
pub hidden : (image : ImageData) → AreInSight image.directory image.apps → (sfi : ℕ) → image.directory ≡ Some sfi → (app : ℕ) (a : AppData) → slice_get image.apps app ≡ Some a
    → begins a.name directory_name ≡ false
unfolding is_hidden
hidden image sight sfi has app a is =
    let all : All (λ (x : AppData). is_hidden x.name ≡ false) image.apps = rw has at sight in
    all_at (λ (x : AppData). is_hidden x.name ≡ false) image.apps app a is all

pub no_directory_name : (image : ImageData) → AreInSight image.directory image.apps → (sfi : ℕ) → image.directory ≡ Some sfi → (app : ℕ) (a : AppData) → slice_get image.apps app ≡ Some a
    → a.name ≡ directory_name → ⊥
no_directory_name image sight sfi has app a is same =
    let begin : begins a.name directory_name ≡ true = subst (λ (n : List ℕ). begins a.name n ≡ true) same (begins_itself a.name) in
    absurd (cc (sym begin ∙ hidden image sight sfi has app a is))

-- so SELECT with an application's name doesn't ask for it
pub asks_application : (image : ImageData) → AreInSight image.directory image.apps → (p2 app : ℕ) (a : AppData) → slice_get image.apps app ≡ Some a → directory_asked image p2 a.name ≡ None
asks_application image sight p2 app a is = by (p2 == 0) (bytes_eq a.name directory_name) image.directory refl refl
  where
    by : (first named : Bool) (file : Option ℕ) → bytes_eq a.name directory_name ≡ named → image.directory ≡ file → (if first then (if named then file else None) else None) ≡ None
    by false named file is_named has = refl
    by true false file is_named has = refl
    by true true None is_named has = refl
    by true true (Some sfi) is_named has = absurd (no_directory_name image sight sfi has app a is ((bytes_eq-Decides a.name directory_name).0 is_named))

-- a candidate of the name of the application that serves can be confirmed as that one
pub confirmed : {image : ImageData} {state : CardState} {outset : Outset} (serves : CanServe image state outset) → HaveApartNames image.apps → AreInSight image.directory image.apps
    → (candidate : CandidateData) → IsFound image state candidate → is_candidate_named serves.own.name candidate ≡ true → is_allowed outset.purchase.confirm candidate ≡ true
confirmed {image} {state} {outset} serves apart sight candidate (application own) named =
    let name : candidate.name ≡ serves.own.name = (bytes_eq-Decides candidate.name serves.own.name).0 named in
    let begin : begins serves.own.name own.own.name ≡ true = subst (λ (n : List ℕ). begins serves.own.name n ≡ true) (sym name ∙ own.name) (begins_itself serves.own.name) in
    let place : own.app ≡ serves.app = alone image apart own.app serves.app own.own serves.own own.is serves.is begin in
    let one : Some own.own ≡ Some serves.own = sym own.is ∙ ap (slice_get image.apps) place ∙ serves.is in
    let same : own.own ≡ serves.own = cc in
    let byte : candidate.priority ≡ serves.own.priority = own.priority ∙ ap (λ (a : AppData). a.priority) same in
    subst (λ (p : Option ℕ). is_allowed outset.purchase.confirm (record { row = candidate.row; name = candidate.name; priority = p }) ≡ true) (sym byte) serves.allowed
confirmed {image} {state} {outset} serves apart sight candidate (directory sfi has name) named =
    absurd (no_directory_name image sight sfi has serves.app serves.own serves.is (sym ((bytes_eq-Decides candidate.name serves.own.name).0 named) ∙ name))
