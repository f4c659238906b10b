-- The reason of a message is that of the reply to it.
use Rattle.std.proofs.Common.{◌≡◌, ℕ, ℤ, pos, Bool, true, false, cond, not, ◌||◌, List, Option, Some, None, Ok, Err, refl, ap, ◌∙◌}
use Rattle.std.specs.Prelude.{Result, int_lt}
use Rattle.std.specs.Option.{is_some}
use Rattle.std.specs.Str.{bytes_eq}
use Rattle.emv_dict.specs.Bcd.{number_in}
use Rattle.emv_dict.specs.Date.{is_earlier}
use Rattle.auth_message.specs.Data.{RequestData, PresentData}
use Rattle.auth_message.specs.Message.{message_of}
use Rattle.auth_message.specs.declared.fault.MessageFault.{MessageFault}
use Rattle.auth_message.specs.declared.message.Incoming.{Incoming}
use Rattle.auth_message.specs.declared.message.Incoming.TheVariants.{Request, Present, Reverse}
use Rattle.auth_message.specs.declared.reversal.ReversalFields.{ReversalFields}
use Rattle.issuer_host.specs.declared.code.Code.TheVariants as code
use Rattle.issuer_host.specs.declared.keys.HostKeys.{HostKeys}
use Rattle.issuer_host.specs.declared.reason.Reason.{Reason}
use Rattle.issuer_host.specs.declared.reason.Reason.TheVariants as reason
use Rattle.issuer_host.specs.Account.{AccountData}
use Rattle.issuer_host.specs.Balance.{is_booked, is_released, account_with_pan}
use Rattle.issuer_host.specs.Books.{KeptCall, Books, kept_at}
use Rattle.issuer_host.specs.Reasons.{left_on, approved_amount, genuine_reason, request_reason, booking_reason, present_reason, release_reason, reversal_reason, again_reason, reason_in, code_of_reason, kept_for, new_kept, ReasonsAreReplys}
use Rattle.issuer_host.specs.Reply.{request_key, present_key, reversal_key, request_is_genuine, present_is_genuine, date_of_digits, pin_is_wrong, request_code, present_code, request_reply, present_reply, reversal_reply, online_reply, code_alone, said_bytes, again_or, reply_to_message, reply_to}

-- the codes of the reasons of a genuine request, test by test
genuine_chain : (blocked foreign reversed presented expired wrong above : Bool) (message own expiry day : List ℕ) (amount : ℕ) (balance : ℤ)
    → code_of_reason (cond blocked reason.Blocked (cond foreign (reason.OtherCurrency message own) (cond reversed reason.Reversed (cond presented reason.Presented (cond expired (reason.Expired expiry day) (cond wrong reason.WrongPin (cond above (reason.AboveBalance amount balance) (reason.Approved amount))))))))
    ≡ Some (cond blocked code.Declined (cond foreign code.Declined (cond (reversed || presented) code.Declined (cond expired code.Expired (cond wrong code.WrongPin (cond above code.NoFunds code.Approved))))))
genuine_chain true foreign reversed presented expired wrong above message own expiry day amount balance = refl
genuine_chain false true reversed presented expired wrong above message own expiry day amount balance = refl
genuine_chain false false true presented expired wrong above message own expiry day amount balance = refl
genuine_chain false false false true expired wrong above message own expiry day amount balance = refl
genuine_chain false false false false true wrong above message own expiry day amount balance = refl
genuine_chain false false false false false true above message own expiry day amount balance = refl
genuine_chain false false false false false false true message own expiry day amount balance = refl
genuine_chain false false false false false false false message own expiry day amount balance = refl

pub genuine_code : (keys : HostKeys) (account : AccountData) (books : Books) (f : RequestData) → code_of_reason (genuine_reason keys account books f) ≡ Some (request_code keys account books f)
unfolding genuine_reason request_code
genuine_code keys account books f =
    genuine_chain account.blocked (not (bytes_eq f.paid.t5f2a account.currency)) (is_some (kept_at (request_key f) books.reversals)) (is_some (kept_at (request_key f) books.presentments))
    (is_earlier (date_of_digits f.t5f24) (date_of_digits f.paid.t9a)) (pin_is_wrong keys.pin account.pin account.pan f.tdf11) (int_lt (left_on account books) (pos (number_in f.paid.t9f02)))
    f.paid.t5f2a account.currency f.t5f24 f.paid.t9a (number_in f.paid.t9f02) (left_on account books)

-- the same of a presentment
booking_chain : (forged foreign released : Bool) (message own : List ℕ) (amount : ℕ) (held : Option ℕ)
    → code_of_reason (cond forged reason.WrongCryptogram (cond foreign (reason.OtherCurrency message own) (cond released reason.Reversed (reason.Settled amount held))))
    ≡ Some (cond (forged || (foreign || released)) code.Declined code.Approved)
booking_chain true foreign released message own amount held = refl
booking_chain false true released message own amount held = refl
booking_chain false false true message own amount held = refl
booking_chain false false false message own amount held = refl

pub booking_code : (keys : HostKeys) (account : AccountData) (books : Books) (f : PresentData) → code_of_reason (booking_reason keys account books f) ≡ Some (present_code keys account books f)
unfolding booking_reason present_code
booking_code keys account books f =
    booking_chain (not (present_is_genuine keys f)) (not (bytes_eq f.paid.t5f2a account.currency)) (is_released books (present_key f))
    f.paid.t5f2a account.currency (number_in f.paid.t9f02) (approved_amount (kept_at (present_key f) books.requests))

release_code : (held : Option ℕ) → code_of_reason (release_reason held) ≡ Some code.Approved
release_code None = refl
release_code (Some amount) = refl

request_fits : (keys : HostKeys) (account : Option AccountData) (books : Books) (f : RequestData) → code_of_reason (request_reason keys account books f) ≡ Some (request_reply keys account books f).code
request_fits keys None books f = refl
request_fits keys (Some account) books f =
    elim (request_is_genuine keys f) as (λ b. code_of_reason (cond b (genuine_reason keys account books f) reason.WrongCryptogram) ≡ Some (cond b (online_reply keys account books f (request_code keys account books f)) (code_alone code.Declined)).code) [
      | true ↦ genuine_code keys account books f
      | false ↦ refl
    ]

present_fits : (keys : HostKeys) (account : Option AccountData) (books : Books) (f : PresentData) → code_of_reason (present_reason keys account books f) ≡ Some (present_reply keys account books f).code
present_fits keys None books f = refl
present_fits keys (Some account) books f = booking_code keys account books f

reversal_fits : (account : Option AccountData) (books : Books) (f : ReversalFields) → code_of_reason (reversal_reason account books f) ≡ Some (reversal_reply account books f).code
reversal_fits None books f = refl
reversal_fits (Some account) books f =
    elim (is_booked books (reversal_key f)) as (λ b. code_of_reason (cond b reason.Presented (release_reason (approved_amount (kept_at (reversal_key f) books.requests)))) ≡ Some (cond b code.Declined code.Approved)) [
      | true ↦ refl
      | false ↦ release_code (approved_amount (kept_at (reversal_key f) books.requests))
    ]

-- what is said of a kept message, and of one whose kind and transaction are new
kept_again : (kept : KeptCall) (message reply : List ℕ) (why : Reason) → bytes_eq kept.message message ≡ true
    → (again_reason (Some kept) message why ≡ reason.Repeat) × (again_or (Some kept) message reply ≡ kept.reply)
kept_again kept message reply why is = (rw is refl, rw is refl)

kept_other : (kept : KeptCall) (message reply : List ℕ) (why : Reason) → bytes_eq kept.message message ≡ false
    → (again_reason (Some kept) message why ≡ reason.OtherBytes) × (again_or (Some kept) message reply ≡ said_bytes (code_alone code.Declined))
kept_other kept message reply why is = (rw is refl, rw is refl)

-- the reason of a new message
abbrev new_reason : HostKeys → List AccountData → Books → Incoming → Reason
new_reason keys accounts books (Request f) = request_reason keys (account_with_pan f.named.pan accounts) books f
new_reason keys accounts books (Present f) = present_reason keys (account_with_pan f.named.pan accounts) books f
new_reason keys accounts books (Reverse f) = reversal_reason (account_with_pan f.pan accounts) books f

new_fits : (keys : HostKeys) (accounts : List AccountData) (books : Books) (message : List ℕ) (incoming : Incoming) → code_of_reason (new_reason keys accounts books incoming) ≡ Some (new_kept keys accounts books message incoming).code
new_fits keys accounts books message (Request f) = request_fits keys (account_with_pan f.named.pan accounts) books f
new_fits keys accounts books message (Present f) = present_fits keys (account_with_pan f.named.pan accounts) books f
new_fits keys accounts books message (Reverse f) = reversal_fits (account_with_pan f.pan accounts) books f

reason_by : (keys : HostKeys) (accounts : List AccountData) (books : Books) (message : List ℕ) (incoming : Incoming) → reason_in keys accounts books message (Ok incoming) ≡ again_reason (kept_for books incoming) message (new_reason keys accounts books incoming)
reason_by keys accounts books message (Request f) = refl
reason_by keys accounts books message (Present f) = refl
reason_by keys accounts books message (Reverse f) = refl

reply_by : (keys : HostKeys) (accounts : List AccountData) (books : Books) (message : List ℕ) (incoming : Incoming) → reply_to_message keys accounts books message (Ok incoming) ≡ again_or (kept_for books incoming) message (new_kept keys accounts books message incoming).reply
reply_by keys accounts books message (Request f) = refl
reply_by keys accounts books message (Present f) = refl
reply_by keys accounts books message (Reverse f) = refl

-- the reply to a message that is read
reply_read : (keys : HostKeys) (accounts : List AccountData) (books : Books) (message : List ℕ) (read : Result Incoming MessageFault) → message_of message ≡ read → reply_to keys accounts books message ≡ reply_to_message keys accounts books message read
unfolding reply_to
reply_read keys accounts books message read is = ap (reply_to_message keys accounts books message) is

pub each_reason : ReasonsAreReplys
each_reason keys accounts books message = record {
  unreadable = λ fault is. (reason_read (Err fault) is, reply_read keys accounts books message (Err fault) is);
  repeat = λ incoming kept is at bytes.
      let both = kept_again kept message (new_kept keys accounts books message incoming).reply (new_reason keys accounts books incoming) bytes in
      (reason_at incoming (Some kept) is at ∙ both.0, reply_at incoming (Some kept) is at ∙ both.1);
  other = λ incoming kept is at bytes.
      let both = kept_other kept message (new_kept keys accounts books message incoming).reply (new_reason keys accounts books incoming) bytes in
      (reason_at incoming (Some kept) is at ∙ both.0, reply_at incoming (Some kept) is at ∙ both.1);
  first = λ incoming is at.
      (ap code_of_reason (reason_at incoming None is at) ∙ new_fits keys accounts books message incoming, reply_at incoming None is at);
}
  where
    reason_read : (read : Result Incoming MessageFault) → message_of message ≡ read → reason_in keys accounts books message (message_of message) ≡ reason_in keys accounts books message read
    reason_read read is = ap (reason_in keys accounts books message) is

    reason_at : (incoming : Incoming) (kept : Option KeptCall) → message_of message ≡ Ok incoming → kept_for books incoming ≡ kept
        → reason_in keys accounts books message (message_of message) ≡ again_reason kept message (new_reason keys accounts books incoming)
    reason_at incoming kept is at = reason_read (Ok incoming) is ∙ reason_by keys accounts books message incoming ∙ ap (λ k. again_reason k message (new_reason keys accounts books incoming)) at

    reply_at : (incoming : Incoming) (kept : Option KeptCall) → message_of message ≡ Ok incoming → kept_for books incoming ≡ kept
        → reply_to keys accounts books message ≡ again_or kept message (new_kept keys accounts books message incoming).reply
    reply_at incoming kept is at = reply_read keys accounts books message (Ok incoming) is ∙ reply_by keys accounts books message incoming ∙ ap (λ k. again_or k message (new_kept keys accounts books message incoming).reply) at
