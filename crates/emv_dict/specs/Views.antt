-- A terminal's settings, a purchase and a cryptogram as a contract sees them: lists in place of vectors.
use Rattle.std.specs.Prelude.{ℕ, Bool, List}
use Rattle.emv_dict.specs.declared.ending.Kind.{Kind}
use Rattle.emv_dict.specs.declared.purchase.AidRow.{AidRow}

pub record SettingsData : Type 0 where
  pub kind : ℕ
  pub country : List ℕ
  pub caps : List ℕ
  pub id : List ℕ
  pub pin_key : List ℕ
  pub exceptions : List (List ℕ)
  pub aids : List AidRow
  pub pse : Bool

pub record PurchaseData : Type 0 where
  pub amount : ℕ
  pub other : ℕ
  pub currency : List ℕ
  pub trade : ℕ
  pub services : Bool
  pub date : List ℕ
  pub time : List ℕ
  pub number : List ℕ
  pub word : ℕ
  pub pins : List (List ℕ)
  pub forced : Bool
  pub confirm : Bool

-- what a card's answer gives: the kind of the cryptogram, the application transaction counter, the
-- cryptogram, and the issuer application data, none where they are absent
pub record AcData : Type 0 where
  pub kind : Kind
  pub counter : ℕ
  pub cryptogram : List ℕ
  pub iad : List ℕ
