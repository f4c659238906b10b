-- What a card has decided since its last power-up.
use Rattle.std.specs.Prelude.{ℕ, ◌+◌, false, List, [], ◌∷◌, ◌++◌, if◌then◌else◌, Option, Some, None}
use Rattle.card_app.specs.Cuts.{Cut, Fate, Dropped, Joined, Pending, fate_by, kept_by, pending_by}
use Rattle.emv_ports.specs.Cut.{commit_of}
use Rattle.card_state.specs.Decisions.{Decided}
use Rattle.card_state.specs.Totals.{totals}
use Rattle.card_state.specs.declared.state.CardState.{CardState}
use Rattle.emv_ports.specs.Cut.{names_commit}
use Rattle.emv_ports.specs.declared.tear.Tear.{Tear}
use Rattle.card_words.specs.DecisionText.{told_behind, told_in}
use Rattle.card_words.specs.declared.decision.Told.{Told}
use Rattle.card_at_reader.specs.declared.since.Coming.{Coming}
use Rattle.card_at_reader.specs.declared.since.Coming.TheVariants.{Nothing, One, Two}

-- behind those that the power-up found, the decisions that are kept, and one that may be kept or not
pub record Since : Type 0 where
  pub found : List Decided
  pub kept : List Decided
  pub unsure : Option Decided

abbrev pub nothing_since : Since
nothing_since = record { found = []; kept = []; unsure = None }

-- where a decision was cut
abbrev pub cut_since : Fate → List Decided → List Decided → Cut → Since
cut_since fate found taken cut = record { found = found; kept = kept_by fate taken cut; unsure = pending_by fate cut }

-- one that may be kept or not is told as such
abbrev pub told_unsure : CardState → List Decided → Option Decided → List Told
told_unsure opening ds None = []
told_unsure opening ds (Some d) = record (told_in (totals opening ds) d) { sure = false } ∷ []

-- the decisions as they are told
abbrev pub told_since : CardState → Since → List Told
told_since opening since = told_behind opening since.found since.kept ++ told_unsure opening (since.found ++ since.kept) since.unsure

-- the decisions of a command, as they are told
abbrev pub told_coming : Coming → List Told
told_coming Nothing = []
told_coming (One told) = told ∷ []
told_coming (Two first second) = first ∷ second ∷ []

-- what is told of a decision that is cut
abbrev pub told_cut : Fate → Told → List Told
told_cut Dropped told = []
told_cut Joined told = told ∷ []
told_cut Pending told = record told { sure = false } ∷ []

-- of the decisions of a command whose plan cuts one of them, those before it and what becomes of it, where so many were made
-- since power-up before them
abbrev pub told_of_cut : Option Tear → ℕ → List Told → List Told
told_of_cut plan made [] = []
told_of_cut plan made (told ∷ later) =
    if names_commit plan (commit_of (made + 1)) then told_cut (fate_by plan) told else told ∷ told_of_cut plan (made + 1) later
