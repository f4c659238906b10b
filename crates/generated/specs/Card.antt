-- The cards of a generated scenario.
use Rattle.std.specs.Prelude.{ℕ, ◌+◌, List, [], ◌∷◌, ◌++◌, codes, false, Some, None}
use Rattle.card_files.specs.AppRules.{reference_pin}
use Rattle.card_files.specs.Views.{RecordData, AppData, ImageData}
use Rattle.card_keys.specs.Master.{master_key_of}
use Rattle.card_state.specs.declared.state.AppState.{AppState}
use Rattle.emv_dict.specs.Bcd.{two_digits}
use Rattle.emv_dict.specs.Pan.{pan_field}
use Rattle.scenario_plan.specs.Cards.{CardData}
use Rattle.generated.specs.Issuer.{generated_keys, generated_pan, code, pin}

-- the name of the application
abbrev pub application : List ℕ
application = 0xA0 ∷ 0x00 ∷ 0x00 ∷ 0x00 ∷ 0x03 ∷ 0x10 ∷ 0x10 ∷ []

-- both amounts, country, verification results, currency, date, type and unpredictable number
abbrev pub cdol1 : List ℕ
cdol1 =
    0x9F ∷ 0x02 ∷ 0x06 ∷ 0x9F ∷ 0x03 ∷ 0x06 ∷ 0x9F ∷ 0x1A ∷ 0x02 ∷ 0x95 ∷ 0x05 ∷ 0x5F ∷ 0x2A ∷ 0x02 ∷ 0x9A ∷ 0x03 ∷ 0x9C ∷ 0x01
    ∷ 0x9F ∷ 0x37 ∷ 0x04 ∷ []

-- the authorisation response code, and the same
abbrev pub cdol2 : List ℕ
cdol2 = 0x8A ∷ 0x02 ∷ cdol1

-- account number, its sequence number, the days of expiry and of effect, country, currency, usage and version
unfoldable pub holder_record : ℕ → List ℕ
holder_record card =
    (0x70 ∷ 0x2E ∷ 0x5A ∷ 0x08 ∷ []) ++ pan_field (generated_pan card)
    ++ (0x5F ∷ 0x34 ∷ 0x01 ∷ 0x01 ∷ 0x5F ∷ 0x24 ∷ 0x03 ∷ 0x26 ∷ 0x12 ∷ 0x31 ∷ 0x5F ∷ 0x25 ∷ 0x03 ∷ 0x24 ∷ 0x01 ∷ 0x01
    ∷ 0x5F ∷ 0x28 ∷ 0x02 ∷ 0x08 ∷ 0x40 ∷ 0x9F ∷ 0x42 ∷ 0x02 ∷ 0x08 ∷ 0x40 ∷ 0x9F ∷ 0x07 ∷ 0x02 ∷ 0xFF ∷ 0x00
    ∷ 0x9F ∷ 0x08 ∷ 0x02 ∷ 0x00 ∷ 0x96 ∷ [])

-- both object lists
abbrev pub lists_record : List ℕ
lists_record = (0x70 ∷ 0x30 ∷ 0x8C ∷ 0x15 ∷ []) ++ cdol1 ++ (0x8D ∷ 0x17 ∷ []) ++ cdol2

-- the methods of verification, the issuer's action codes for default, denial and online, and the limits of transactions
-- that go offline in a row
abbrev pub rules_record : List ℕ
rules_record =
    0x70 ∷ 0x30 ∷ 0x8E ∷ 0x0E ∷ 0x00 ∷ 0x00 ∷ 0x00 ∷ 0x00 ∷ 0x00 ∷ 0x00 ∷ 0x00 ∷ 0x00 ∷ 0x41 ∷ 0x03 ∷ 0x5E ∷ 0x03 ∷ 0x1F ∷ 0x00
    ∷ 0x9F ∷ 0x0D ∷ 0x05 ∷ 0x70 ∷ 0x68 ∷ 0xBC ∷ 0xF8 ∷ 0x00 ∷ 0x9F ∷ 0x0E ∷ 0x05 ∷ 0x00 ∷ 0x10 ∷ 0x00 ∷ 0x00 ∷ 0x00
    ∷ 0x9F ∷ 0x0F ∷ 0x05 ∷ 0x70 ∷ 0x68 ∷ 0xBC ∷ 0x98 ∷ 0x00 ∷ 0x9F ∷ 0x14 ∷ 0x01 ∷ 0x05 ∷ 0x9F ∷ 0x23 ∷ 0x01 ∷ 0x09 ∷ []

-- a record of the one file
abbrev pub generated_record : ℕ → List ℕ → RecordData
generated_record number bytes = record { sfi = 1; number = number; bytes = bytes }

-- nothing is counted yet, and the log is empty
unfoldable pub generated_opening : AppState
generated_opening = record {
  counter = 10;
  last_online = 9;
  count = 0;
  sum = 0;
  count_limit = 5;
  sum_limit = 20000;
  tries = 3;
  blocked = false;
  auth_failed = false;
  pin = reference_pin (Some pin);
  sum_two = 0;
  limit_two = 0;
  log_max = 0;
  log = record { items = [] };
}

-- the records of a card's one file
abbrev pub generated_records : ℕ → List RecordData
generated_records card = generated_record 1 (holder_record card) ∷ generated_record 2 lists_record ∷ generated_record 3 rules_record ∷ []

-- the one application of a card, without a second currency and a log; its keys are derived from the issuer's
unfoldable pub generated_app : ℕ → AppData
generated_app card = record {
  name = application;
  label = codes "CREDIT";
  priority = Some 1;
  pdol = None;
  aip = 0x1C ∷ 0x00 ∷ [];
  afl = 0x08 ∷ 0x01 ∷ 0x03 ∷ 0x00 ∷ [];
  gpo_format = 1;
  ac_format = 1;
  cdol1 = cdol1;
  cdol2 = cdol2;
  records = generated_records card;
  pan = generated_pan card;
  sequence = two_digits 1;
  currency = code;
  opening = generated_opening;
  tries = 3;
  ac_key = master_key_of generated_keys.ac (generated_pan card) (two_digits 1);
  currency_two = None;
  limit_two = 0;
  log = 0;
  log_sfi = 11;
  mac_key = master_key_of generated_keys.mac (generated_pan card) (two_digits 1);
  enc_key = master_key_of generated_keys.enc (generated_pan card) (two_digits 1);
}

-- the card has its state in today's form and no directory
abbrev pub generated_image : ℕ → ImageData
generated_image card = record { apps = generated_app card ∷ []; version = 2; directory = None }

-- `c0` and on
unfoldable pub generated_card : ℕ → CardData
generated_card card = record { name = codes "c" ++ (48 + card) ∷ []; image = generated_image card; canned = None }
