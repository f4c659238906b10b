-- What a contract sees of an image: numbers and lists.
use Rattle.std.specs.Prelude.{ℕ, List, Option}
use Rattle.card_state.specs.declared.state.AppState.{AppState}

-- a record: its file, its number and its bytes
pub record RecordData : Type 0 where
  pub sfi : ℕ
  pub number : ℕ
  pub bytes : List ℕ

-- an application
pub record AppData : Type 0 where
  pub name : List ℕ
  pub label : List ℕ
  pub priority : Option ℕ
  pub pdol : Option (List ℕ)
  pub aip : List ℕ
  pub afl : List ℕ
  pub gpo_format : ℕ
  pub ac_format : ℕ
  pub cdol1 : List ℕ
  pub cdol2 : List ℕ
  pub records : List RecordData
  pub pan : List ℕ
  pub sequence : ℕ
  pub currency : List ℕ
  pub opening : AppState
  pub tries : ℕ
  pub ac_key : List ℕ
  pub currency_two : Option (List ℕ)
  pub limit_two : ℕ
  pub log : ℕ
  pub log_sfi : ℕ
  pub mac_key : List ℕ
  pub enc_key : List ℕ

-- a card: its applications, the form of its state before its first decision, and the file of its payment system
-- directory where it has one
pub record ImageData : Type 0 where
  pub apps : List AppData
  pub version : ℕ
  pub directory : Option ℕ
