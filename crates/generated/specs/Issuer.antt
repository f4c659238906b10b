-- The issuer of a generated scenario: its keys and its accounts.
use Rattle.std.specs.Prelude.{ℕ, List, [], ◌∷◌, false, Some}
use Rattle.issuer_host.specs.Account.{AccountData}
use Rattle.issuer_host.specs.declared.account.Method.TheVariants.{One}
use Rattle.issuer_host.specs.declared.keys.HostKeys.{HostKeys}

unfoldable pub generated_keys : HostKeys
generated_keys = record {
  ac = 0x01 ∷ 0x23 ∷ 0x45 ∷ 0x67 ∷ 0x89 ∷ 0xAB ∷ 0xCD ∷ 0xEF ∷ 0xFE ∷ 0xDC ∷ 0xBA ∷ 0x98 ∷ 0x76 ∷ 0x54 ∷ 0x32 ∷ 0x10 ∷ [];
  mac = 0x23 ∷ 0x45 ∷ 0x67 ∷ 0x89 ∷ 0xAB ∷ 0xCD ∷ 0xEF ∷ 0x01 ∷ 0xDC ∷ 0xBA ∷ 0x98 ∷ 0x76 ∷ 0x54 ∷ 0x32 ∷ 0x10 ∷ 0xFE ∷ [];
  enc = 0x45 ∷ 0x67 ∷ 0x89 ∷ 0xAB ∷ 0xCD ∷ 0xEF ∷ 0x01 ∷ 0x23 ∷ 0xBA ∷ 0x98 ∷ 0x76 ∷ 0x54 ∷ 0x32 ∷ 0x10 ∷ 0xFE ∷ 0xDC ∷ [];
  pin = 0x67 ∷ 0x89 ∷ 0xAB ∷ 0xCD ∷ 0xEF ∷ 0x01 ∷ 0x23 ∷ 0x45 ∷ 0x98 ∷ 0x76 ∷ 0x54 ∷ 0x32 ∷ 0x10 ∷ 0xFE ∷ 0xDC ∷ 0xBA ∷ [];
}

-- the account number of a card, which ends with the card's number
abbrev pub generated_pan : ℕ → List ℕ
generated_pan card = 4 ∷ 7 ∷ 6 ∷ 1 ∷ 7 ∷ 3 ∷ 9 ∷ 0 ∷ 0 ∷ 1 ∷ 0 ∷ 1 ∷ 0 ∷ 0 ∷ 1 ∷ card ∷ []

-- 840: the United States, and their dollar
abbrev pub code : List ℕ
code = 0x08 ∷ 0x40 ∷ []

abbrev pub pin : List ℕ
pin = 1 ∷ 2 ∷ 3 ∷ 4 ∷ []

unfoldable pub generated_account : ℕ → AccountData
generated_account card = record { pan = generated_pan card; currency = code; balance = 1000000; blocked = false; pin = Some pin; scripts = []; arpc = One; status = 0 }
