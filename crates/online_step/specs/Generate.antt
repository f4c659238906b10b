-- GENERATE AC: its data, the command, and the step over a card's answers (EMV 4.3 Book 3 sections 6.5.5, 10.8 and
-- 10.11; section 5.4).
use Rattle.std.specs.Prelude.{ℕ, nat_le, if◌then◌else◌, List, [], ◌∷◌, Option, Some, None, option_and_then, Result, Ok, Err}
use Rattle.apdu_core.specs.Command.{command_bytes}
use Rattle.emv_dict.specs.Kinds.{kind_byte}
use Rattle.emv_dict.specs.Progress.{Progress, Wants, Stopped, Done}
use Rattle.emv_dict.specs.Views.{AcData}
use Rattle.emv_dict.specs.declared.ending.Cause.{Cause}
use Rattle.emv_dict.specs.declared.ending.Cause.TheVariants.{Dol}
use Rattle.emv_dict.specs.declared.ending.Kind.{Kind}
use Rattle.env_map.specs.Entries.{Entries, value_of}
use Rattle.object_lists.specs.CardRead.{ReadCard}
use Rattle.object_lists.specs.DolEntries.{DolEntry, dol_of, total_of}
use Rattle.object_lists.specs.Filled.{dol_data}
use Rattle.object_lists.specs.declared.dol.DolFault.{DolFault}
use Rattle.online_step.specs.Ac.{ac_in_answer}
use Rattle.online_step.specs.declared.ac.GenerateAc.{GenerateAc}

-- the data of a list, where it is read and they have room in a command
abbrev pub filled_list : Entries → Entries → Result (List DolEntry) DolFault → Option (List ℕ)
filled_list card terminal (Ok dol) = (if nat_le (total_of dol) 252 then Some (dol_data dol card terminal) else None)
filled_list card terminal (Err fault) = None

-- the data of a card's object list, CDOL1 (8C) or CDOL2 (8D), none above 252 bytes
unfoldable pub list_data : ℕ → ReadCard → Entries → Option (List ℕ)
list_data tag card terminal = option_and_then (λ list. filled_list card.entries terminal (dol_of list)) (value_of tag card.entries)

-- the command that asks for a kind of cryptogram with these data
unfoldable pub generate_command : Kind → List ℕ → List ℕ
generate_command kind given = command_bytes (record { class = 0x80; ins = 0xAE; p1 = kind_byte kind; p2 = 0; body = given; expects = Some 0 })

abbrev pub after_ac : Result AcData Cause → List (List ℕ) → Progress AcData
after_ac (Ok ac) rest = Done ac rest
after_ac (Err because) rest = Stopped because

-- the step: the first time with the data of CDOL1, the second with those of CDOL2; no data where the list of
-- this tag wants too many
abbrev pub generated : ℕ → Kind → GenerateAc → Option (List ℕ) → List (List ℕ) → Progress AcData
generated tag asked which None answers = Stopped (Dol (record { 0 = tag }))
generated tag asked which (Some given) [] = Wants (generate_command asked given)
generated tag asked which (Some given) (answer ∷ rest) = after_ac (ac_in_answer answer asked which) rest
