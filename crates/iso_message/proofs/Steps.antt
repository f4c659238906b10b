-- Going through the steps of a reading.
use Rattle.std.proofs.Common.{◌≡◌, Bool, true, false, refl, Result, Ok, Err}
use Rattle.auth_message.specs.declared.fault.MessageFault.{MessageFault}
use Rattle.auth_message.specs.Fields as tlv
use Rattle.iso_message.specs.declared.fault.IsoFault.{IsoFault}
use Rattle.iso_message.specs.Left.{◌>>=◌, only_if, in_55}

-- a step that was made, and the one behind it
pub record Made {A B : Type 0} (first : Result A IsoFault) (next : A → Result B IsoFault) (last : B) : Type 0 where
  pub value : A
  pub made : first ≡ Ok value
  pub behind : next value ≡ Ok last

pub made_of : {A B : Type 0} (first : Result A IsoFault) (next : A → Result B IsoFault) (last : B) → (first >>= next) ≡ Ok last → Made first next last
made_of (Ok value) next last is = record { value = value; made = refl; behind = is }
made_of (Err fault) next last is = cc

pub holds_only : (right : Bool) (fault : IsoFault) (u : Unit {0}) → only_if right fault ≡ Ok u → right ≡ true
holds_only true fault u is = refl
holds_only false fault u is = cc

pub from_55 : {A : Type 0} (found : Result A MessageFault) (value : A) → in_55 found ≡ Ok value → found ≡ Ok value
from_55 (Ok found) value is = cc
from_55 (Err fault) value is = cc

-- the same of a reading of items
pub record Read {A B : Type 0} (first : Result A MessageFault) (next : A → Result B MessageFault) (last : B) : Type 0 where
  pub value : A
  pub made : first ≡ Ok value
  pub behind : next value ≡ Ok last

pub read_of : {A B : Type 0} (first : Result A MessageFault) (next : A → Result B MessageFault) (last : B) → tlv.◌>>=◌ first next ≡ Ok last → Read first next last
read_of (Ok value) next last is = record { value = value; made = refl; behind = is }
read_of (Err fault) next last is = cc

-- the values that two readings gave
abbrev pub read_ok : {A : Type 0} → A → Result A MessageFault
read_ok value = Ok value

pub same_read : {A : Type 0} (one other : A) → read_ok one ≡ read_ok other → one ≡ other
same_read one other is = cc

abbrev pub made_ok : {A : Type 0} → A → Result A IsoFault
made_ok value = Ok value

pub same_made : {A : Type 0} (one other : A) → made_ok one ≡ made_ok other → one ≡ other
same_made one other is = cc
