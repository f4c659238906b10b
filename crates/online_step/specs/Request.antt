-- The request to the host for a cryptogram that asks the issuer to decide (own format; EMV 4.3 Book 3 section
-- 10.9).
use Rattle.std.specs.Prelude.{ℕ, List, Option, option_map}
use Rattle.std.specs.Int.{to_be_bytes, w16}
use Rattle.auth_message.specs.Data.{RequestData}
use Rattle.auth_message.specs.Spelling.{request_bytes}
use Rattle.emv_dict.specs.Views.{SettingsData, AcData}
use Rattle.env_map.specs.Entries.{Entries, value_of}
use Rattle.object_lists.specs.CardRead.{ReadCard}
use Rattle.online_step.specs.TerminalData.{object}
use Rattle.pin_block.specs.Online.{online_of}

-- a PIN that was entered, under the terminal's key
abbrev pub enciphered_pin : SettingsData → ReadCard → Option (List ℕ) → Option (List ℕ)
enciphered_pin settings card pin = option_map (λ digits. online_of settings.pin_key digits card.pan) pin

-- the fields: the card's objects, the terminal's, those of the cryptogram, and the PIN block (DF11) if a PIN was
-- entered
abbrev pub request_data : ReadCard → Entries → SettingsData → AcData → Option (List ℕ) → RequestData
request_data card terminal settings ac pin = record {
  named = record { t9f1c = object 0x9F1C terminal; pan = card.pan; t5f34 = value_of 0x5F34 card.entries };
  t5f24 = object 0x5F24 card.entries;
  paid = record {
    t9f02 = object 0x9F02 terminal;
    t9f03 = object 0x9F03 terminal;
    t9f1a = object 0x9F1A terminal;
    t95 = object 0x95 terminal;
    t5f2a = object 0x5F2A terminal;
    t9a = object 0x9A terminal;
    t9c = object 0x9C terminal;
    t9f37 = object 0x9F37 terminal;
    t82 = card.aip;
    t9f36 = to_be_bytes w16 ac.counter;
    t9f26 = ac.cryptogram;
  };
  t9f10 = ac.iad;
  tdf11 = enciphered_pin settings card pin;
}

-- the request's bytes
unfoldable pub request_of : ReadCard → Entries → SettingsData → AcData → Option (List ℕ) → List ℕ
request_of card terminal settings ac pin = request_bytes (request_data card terminal settings ac pin)
