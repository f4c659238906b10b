-- What the directory and the list find of an application is its own priority.
use Rattle.std.proofs.Common.{◌≡◌, ◌≢◌, ℕ, suc, Bool, true, false, List, [], ◌∷◌, Option, Some, None, option_map, refl, arith, if◌then◌else◌}
use Rattle.std.specs.List.{All, AllPairs, find, cons_option, slice_index_or}
use Rattle.std.specs.Str.{bytes_eq}
use Rattle.std.proofs.lemmas.List.Elements.{All-nil, All-cons, All-head, All-tail, All-append}
use Rattle.std.proofs.lemmas.Slice.Eq.{bytes_eq-Decides}
use Rattle.app_select.specs.Candidates.{CandidateData}
use Rattle.card_files.specs.Views.{AppData}
use Rattle.dialogue_laws.proofs.Choices.{named_itself}
use Rattle.dialogue_laws.proofs.Finding.{shown_to, listed_in}
use Rattle.dialogue_laws.proofs.Names.{supports}
use Rattle.dialogue_laws.proofs.Order.{HavePriorities}
use Rattle.dialogue_laws.proofs.EntriesFound.{directed_in}
use Rattle.emv_dict.specs.declared.purchase.AidRow.{AidRow}

-- the priority of the application of this name
abbrev pub priority_in : List AppData → List ℕ → Option ℕ
priority_in [] name = None
priority_in (a ∷ apps) name = if bytes_eq a.name name then a.priority else priority_in apps name

abbrev HasOwn : (List ℕ → Option ℕ) → AppData → Type 0
HasOwn priority a = a.priority ≡ priority a.name

own_apps : (apps : List AppData) → AllPairs (λ a b. a.name ≢ b.name) apps → All (HasOwn (priority_in apps)) apps
own_apps [] other = All-nil (HasOwn (priority_in []))
own_apps (a ∷ apps) other =
    let later : All (HasOwn (priority_in apps)) apps = own_apps apps (λ i j d less within. other (suc i) (suc j) d (omega arith) (omega arith)) in
    let head : HasOwn (priority_in (a ∷ apps)) a = rw (named_itself a.name) refl in
    All-cons (HasOwn (priority_in (a ∷ apps))) a apps head (λ k d within. let b = slice_index_or apps k d in behind b (bytes_eq a.name b.name) refl (other 0 (suc k) d (omega arith) (omega arith)) (later k d within))
  where
    behind : (b : AppData) (same : Bool) → bytes_eq a.name b.name ≡ same → a.name ≢ b.name → HasOwn (priority_in apps) b → b.priority ≡ (if same then a.priority else priority_in apps b.name)
    behind b true is other own = absurd (other ((bytes_eq-Decides a.name b.name).0 is))
    behind b false is other own = own

module _ (priority : List ℕ → Option ℕ) where
  abbrev Owned : CandidateData → Type 0
  Owned c = c.priority ≡ priority c.name

  own_entry : (a : AppData) (o : Option AidRow) (later : List CandidateData) → HasOwn priority a → HavePriorities priority later
      → HavePriorities priority (cons_option (option_map (λ row. record { row = row; name = a.name; priority = a.priority }) o) later)
  own_entry a None later own all = all
  own_entry a (Some row) later own all = All-cons Owned (record { row = row; name = a.name; priority = a.priority }) later own all

  pub directed_own : (rows : List AidRow) (apps : List AppData) → All (HasOwn priority) apps → HavePriorities priority (directed_in rows apps)
  directed_own rows [] all = All-nil Owned
  directed_own rows (a ∷ apps) all =
      own_entry a (find (supports a) rows) (directed_in rows apps) (All-head (HasOwn priority) a apps all) (directed_own rows apps (All-tail (HasOwn priority) a apps all))

  own_found : (row : AidRow) (a : AppData) (test : Bool) (later : List CandidateData) → HasOwn priority a → HavePriorities priority later
      → HavePriorities priority (cons_option (if test then Some (record { row = row; name = a.name; priority = a.priority }) else None) later)
  own_found row a true later own all = All-cons Owned (record { row = row; name = a.name; priority = a.priority }) later own all
  own_found row a false later own all = all

  shown_own : (row : AidRow) (apps : List AppData) → All (HasOwn priority) apps → HavePriorities priority (shown_to apps row)
  shown_own row [] all = All-nil Owned
  shown_own row (a ∷ apps) all =
      own_found row a (supports a row) (shown_to apps row) (All-head (HasOwn priority) a apps all) (shown_own row apps (All-tail (HasOwn priority) a apps all))

  pub listed_own : (rows : List AidRow) (apps : List AppData) → All (HasOwn priority) apps → HavePriorities priority (listed_in rows apps)
  listed_own [] apps all = All-nil Owned
  listed_own (row ∷ rows) apps all = All-append Owned (shown_to apps row) (listed_in rows apps) (shown_own row apps all) (listed_own rows apps all)

pub card_own : (apps : List AppData) → AllPairs (λ a b. a.name ≢ b.name) apps → All (λ a. a.priority ≡ priority_in apps a.name) apps
card_own apps other = own_apps apps other
