-- What a dialogue ends with (EMV 4.3 Book 4 section 6; EMV 4.3 Book 4 sections 6.3, 6.5): the outcome, what the
-- terminal holds then, and what is to be captured.
use Rattle.std.specs.Prelude.{ℕ, Bool, false, List, [], ◌∷◌, Option, Some, None, option_map, unwrap_or, Result, Ok, Err, is_some, if◌then◌else◌}
use Rattle.emv_dict.specs.declared.ending.Ending.{Ending}
use Rattle.emv_dict.specs.declared.ending.Ending.TheVariants.{Approved, Declined, Terminated, CutOff}
use Rattle.env_map.specs.Entries.{value_of}
use Rattle.kernel.specs.StepsInTurn.{Standing}
use Rattle.kernel.specs.Reply.{Deed, ToCard, ToHost, Over}
use Rattle.object_lists.specs.CardRead.{ReadCard}
use Rattle.object_lists.specs.DolEntries.{DolEntry, dol_of, data_place}
use Rattle.object_lists.specs.declared.dol.DolFault.{DolFault}
use Rattle.online_step.specs.Captures.{presentment_of, reversal_of}
use Rattle.terminal_state.specs.StepResults.{StepResult, StateSoFarData, state_so_far, latest, sets_card}
use Rattle.terminal_state.specs.Terminal.{Outset}

-- the card's data are there exactly where reading is finished; `capture` are the bytes of the message
pub record EndData : Type 0 where
  pub ending : Ending
  pub state_so_far : StateSoFarData
  pub card : Option ReadCard
  pub capture : Option (List ℕ)

abbrev pub names_results : Result (List DolEntry) DolFault → Bool
names_results (Ok entries) = is_some (data_place 0x95 5 entries)
names_results (Err fault) = false

-- an object list of the card has an entry of five bytes for the terminal verification results
abbrev pub asks_results : Option (List ℕ) → Bool
asks_results None = false
asks_results (Some list) = names_results (dol_of list)

-- the terminal verification results as they were when the last GENERATE AC was asked whose object list names them,
-- or when the first one was
abbrev pub results_behind : ReadCard → ℕ → Option ℕ → ℕ
results_behind card first None = first
results_behind card first (Some second) = (if asks_results (value_of 0x8D card.entries) then second else first)

abbrev pub code_or_zeros : Option (List ℕ) → List ℕ
code_or_zeros code = unwrap_or code (0 ∷ 0 ∷ [])

-- an approval is presented, with the cryptogram that approved
unfoldable pub presentment : Outset → ReadCard → StateSoFarData → Option (List ℕ)
presentment outset card state_so_far =
    option_map (λ ac. presentment_of card outset.settings outset.purchase
    (results_behind card state_so_far.tvr_when_first state_so_far.tvr_when_second) ac (code_or_zeros state_so_far.code)) state_so_far.last

-- a request that may have been approved is reversed, where the payment ended otherwise
unfoldable pub reversal : Outset → ReadCard → StateSoFarData → Option (List ℕ)
reversal outset card state_so_far =
    if state_so_far.is_open then option_map (λ counter. reversal_of card outset.settings outset.purchase counter (code_or_zeros state_so_far.code)) state_so_far.counter
    else None

abbrev pub capture_by : Outset → Ending → ReadCard → StateSoFarData → Option (List ℕ)
capture_by outset (Approved online) card state_so_far = presentment outset card state_so_far
capture_by outset (Declined online) card state_so_far = reversal outset card state_so_far
capture_by outset (Terminated step cause) card state_so_far = reversal outset card state_so_far
capture_by outset (CutOff step) card state_so_far = reversal outset card state_so_far

-- nothing is captured before the card is read
abbrev pub capture : Outset → Ending → Option ReadCard → StateSoFarData → Option (List ℕ)
capture outset ending None state_so_far = None
capture outset ending (Some card) state_so_far = capture_by outset ending card state_so_far

abbrev pub end_with : Outset → Ending → Option ReadCard → StateSoFarData → EndData
end_with outset ending card state_so_far = record { ending = ending; state_so_far = state_so_far; card = card; capture = capture outset ending card state_so_far }

abbrev pub end_by : Outset → List StepResult → Deed → Option EndData
end_by outset steps_done (ToCard command) = None
end_by outset steps_done (ToHost message) = None
end_by outset steps_done (Over ending) = Some (end_with outset ending (latest sets_card None steps_done) (state_so_far steps_done))

-- the end record, where the dialogue is over
abbrev pub end_of : Outset → Standing StepResult → Option EndData
end_of outset standing = end_by outset standing.steps_done standing.deed
