-- The payment system directory of a card and the terminal's list find the same applications (EMV 4.3 Book 1 sections
-- 12.3.2 and 12.3.3; section 12.4).
use Rattle.std.specs.Prelude.{◌≡◌, ◌≢◌, ℕ, false, Bool, List}
use Rattle.std.specs.List.{All, AllPairs, Contains, list_any}
use Rattle.std.specs.Option.{IsSome}
use Rattle.std.specs.Str.{bytes_eq}
use Rattle.app_select.specs.Candidates.{CandidateData, is_candidate_named, priority_rank}
use Rattle.card_files.specs.Files.{opening_of}
use Rattle.card_files.specs.ImageRules.{IsImage}
use Rattle.card_files.specs.Views.{ImageData}
use Rattle.card_state.specs.Decisions.{Decided}
use Rattle.card_state.specs.Totals.{totals}
use Rattle.dialogue_laws.specs.Cards.{Now}
use Rattle.dialogue_laws.specs.WellFormed.{HaveApartNames}
use Rattle.dialogue_laws.specs.StepAtCard.{ComesTo}
use Rattle.dialogue_laws.specs.ListCourse.{list_candidates}
use Rattle.emv_dict.specs.Settings.{IsAidRow}
use Rattle.emv_dict.specs.declared.purchase.AidRow.{AidRow}
use Rattle.pse_directory.specs.Directory.{directory}
use Rattle.emv_dict.specs.Name.{directory_name}

-- a card that shows all its applications in both ways: it has a directory, no name begins another's, and with these
-- decisions neither the card nor an application is blocked
pub record ShowsAll (image : ImageData) (decided : List Decided) : Type 0 where
  pub rules : IsImage image
  pub directory : IsSome image.directory
  pub apart : HaveApartNames image.apps
  pub card : (totals (opening_of image) decided).blocked ≡ false
  pub apps : All (λ app. app.blocked ≡ false) (totals (opening_of image) decided).apps.items

-- an AID of a terminal, which isn't the name of the directory
pub record IsPlainRow (row : AidRow) : Type 0 where
  pub rules : IsAidRow row
  pub other : bytes_eq row.name directory_name ≡ false

-- each name of one is a name of the other
abbrev pub HaveSameNames : List CandidateData → List CandidateData → Type 0
HaveSameNames one two = (name : List ℕ) → list_any (is_candidate_named name) one ≡ list_any (is_candidate_named name) two

-- no two stand at one place in the order of priority, so at most one is without a priority
abbrev pub HaveOwnRanks : List CandidateData → Type 0
HaveOwnRanks found = AllPairs (λ a b. priority_rank a.priority ≢ priority_rank b.priority) found

-- those of one name are one: found by the same AID, with the same priority
abbrev pub AreOneByName : List CandidateData → List CandidateData → Type 0
AreOneByName one two = (a b : CandidateData) → Contains one a → Contains two b → a.name ≡ b.name → a ≡ b

-- the candidates that the directory gives a terminal at one card, and those that the list gives it at another
pub record Agree (image : ImageData) (rows : List AidRow) (confirm : Bool) (one two : Now) : Type 0 where
  pub directed : List CandidateData
  pub listed : List CandidateData
  pub by_directory : ComesTo image directed one (directory rows confirm)
  pub by_list : ComesTo image listed two (list_candidates rows confirm)
  pub names : HaveSameNames directed listed
  pub same : AreOneByName directed listed
  pub order : HaveOwnRanks directed → directed ≡ listed

-- wherever the two stand in a session
abbrev pub DirectoryAgrees : Type 0
DirectoryAgrees =
    (image : ImageData) (decided : List Decided) (rows : List AidRow) (confirm : Bool) (one two : Now)
    → ShowsAll image decided → All IsPlainRow rows → one.kept ≡ decided → two.kept ≡ decided → Agree image rows confirm one two
