-- What a terminal has of its purchases.
use Rattle.std.specs.Prelude.{ℕ, ◌+◌, List, [], ◌∷◌, ◌++◌, length, take, Option, Some, None, option_to_list}
use Rattle.emv_dict.specs.declared.ending.Ending.{Ending}
use Rattle.emv_dict.specs.declared.ending.Ending.TheVariants.{Approved, Declined, Terminated, CutOff}
use Rattle.emv_dict.specs.declared.purchase.Logged.{Logged}
use Rattle.kernel.specs.EndShown.{EndShown}
use Rattle.trace_check.specs.declared.question.Question.{Question}

-- how many have begun, the log of those that were approved, the messages that wait for settlement, oldest first, the last
-- question of the purchase that ended last, where it had one, and how long log and messages were before that purchase, or
-- behind a settlement since
pub record TillData : Type 0 where
  pub begun : ℕ
  pub log : List Logged
  pub captures : List (List ℕ)
  pub question : Option Question
  pub log_before : ℕ
  pub captures_before : ℕ

-- none has begun
abbrev pub new_till : TillData
new_till = record { begun = 0; log = []; captures = []; question = None; log_before = 0; captures_before = 0 }

-- one more begins, and what there is stays
abbrev pub till_begun : TillData → TillData
till_begun till = record till { begun = till.begun + 1; log_before = length till.log; captures_before = length till.captures }

-- an approval joins the log, under the number of the card's account
abbrev pub approval_logged : ℕ → Ending → Option (List ℕ) → List Logged
approval_logged amount (Approved online) (Some pan) = record { pan = pan; amount = amount } ∷ []
approval_logged amount (Approved online) None = []
approval_logged amount (Declined online) pan = []
approval_logged amount (Terminated step cause) pan = []
approval_logged amount (CutOff step) pan = []

-- a purchase of this amount has ended so, behind this last question
abbrev pub till_ended : ℕ → EndShown → Option Question → TillData → TillData
till_ended amount end question till = record till {
  log = till.log ++ approval_logged amount end.ending end.pan;
  captures = till.captures ++ option_to_list end.capture;
  question = question;
}

-- a settlement has ended: no message waits, and what there is stays
abbrev pub till_settled : TillData → TillData
till_settled till = record till { captures = []; log_before = length till.log; captures_before = 0 }

-- the power is lost in a purchase: it leaves nothing, and no question
abbrev pub till_broken_off : TillData → TillData
till_broken_off till = record till { question = None }

-- it is lost behind a purchase: what that one brought is taken back; and where the store had its message, the approval alone
abbrev pub till_lost : TillData → TillData
till_lost till = record till { log = take till.log_before till.log; captures = take till.captures_before till.captures }

abbrev pub till_lost_captured : TillData → TillData
till_lost_captured till = record till { log = take till.log_before till.log }
