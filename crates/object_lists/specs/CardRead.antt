-- What a terminal has of a card once its records are read (EMV 4.3 Book 3 section 10.2).
use Rattle.std.specs.Prelude.{◌≡◌, ℕ, List, [], Some, option_and_then, unwrap_or}
use Rattle.std.specs.Result.{result_ok}
use Rattle.emv_dict.specs.Pan.{pan_of}
use Rattle.env_map.specs.Entries.{Entries, value_of}
use Rattle.object_lists.specs.Forms.{HasForms}

-- the card's objects by rising tag, the application interchange profile, and the digits of the primary
-- account number
pub record ReadCard : Type 0 where
  pub entries : Entries
  pub aip : List ℕ
  pub pan : List ℕ

-- the objects are those of a finished reading, the profile is the value of 82, and the digits are those
-- of 5A
pub record IsRead (card : ReadCard) : Type 0 where
  pub forms : HasForms card.entries
  pub profile : value_of 0x82 card.entries ≡ Some card.aip
  pub digits : option_and_then (λ field. result_ok (pan_of field)) (value_of 0x5A card.entries) ≡ Some card.pan

-- what these objects make
abbrev pub card_of_objects : Entries → ReadCard
card_of_objects entries = record {
  entries = entries;
  aip = unwrap_or (value_of 0x82 entries) [];
  pan = unwrap_or (option_and_then (λ field. result_ok (pan_of field)) (value_of 0x5A entries)) [];
}
