-- A presentment that the host answers with code 00: by then a message books its transaction.
-- So a capture whose reply is 00 is booked once, by it or by an earlier copy of it.
use Rattle.std.proofs.Common.{◌≡◌, ℕ, zero, suc, ◌+◌, ◌<◌, ◌≤◌, Bool, true, false, if◌then◌else◌, List, [], ◌∷◌, ◌++◌, length, take, slice_get, Option, Some, None, Result, Ok, Err, refl, sym, ap, ◌∙◌, subst, arith}
use Rattle.std.specs.List.{All}
use Rattle.std.specs.Str.{bytes_eq}
use Rattle.std.proofs.lemmas.List.Elements.{All-nil, All-head, All-tail, All-push}
use Rattle.std.proofs.lemmas.Option.{slice_get_within, get_or_from_slice_get}
use Rattle.std.proofs.Math.Seq.{take-suc}
use Rattle.auth_message.specs.Data.{PresentData}
use Rattle.auth_message.specs.Message.{message_of}
use Rattle.auth_message.specs.Reply.{reply_of}
use Rattle.auth_message.specs.declared.fault.MessageFault.{MessageFault}
use Rattle.auth_message.specs.declared.message.Incoming.{Incoming}
use Rattle.auth_message.specs.declared.message.Incoming.TheVariants.{Request, Present, Reverse}
use Rattle.auth_message.proofs.ReplyAgain.{reply_again}
use Rattle.auth_message.proofs.Templates.{none_are_scripts}
use Rattle.host_histories.specs.BookedOnce.{books_after, is_booked_after, IsBooking}
use Rattle.host_ledger.specs.Key.{same_key}
use Rattle.host_ledger.specs.declared.key.Key.{Key}
use Rattle.issuer_host.specs.Account.{AccountData}
use Rattle.issuer_host.specs.Balance.{is_booked, account_with_pan}
use Rattle.issuer_host.specs.Books.{KeptCall, Books, no_books, kept_at, was_approved}
use Rattle.issuer_host.specs.Code.{code_bytes, is_approved}
use Rattle.issuer_host.specs.History.{with_first, kept_in, books_with, books_from, books_of, host_reply}
use Rattle.issuer_host.specs.Reply.{present_key, code_alone, said_bytes, present_reply, new_present, again_or, reply_to_message, reply_to}
use Rattle.issuer_host.specs.declared.code.Code.{Code}
use Rattle.issuer_host.specs.declared.code.Code.TheVariants.{Approved, Declined, UnknownAccount, NoFunds, Expired, WrongPin}
use Rattle.issuer_host.specs.declared.keys.HostKeys.{HostKeys}
use Rattle.issuer_host.proofs.Histories.{books_grow}
use Rattle.issuer_host.proofs.Responses.{two_bytes}
use Rattle.issuer_host.proofs.Totals.{kept_own}
use Rattle.txn_replay.specs.Captured.{is_reply_approved, IsBookedBy, IsDelivered}

-- code 00 is that of an approval
code_read : (code : Code) → is_reply_approved (reply_of (said_bytes (code_alone code))) ≡ is_approved code
code_read code = ap is_reply_approved (reply_again (code_bytes code) None [] (two_bytes code) tt none_are_scripts) ∙ by code
  where
    by : (c : Code) → bytes_eq (code_bytes c) (code_bytes Approved) ≡ is_approved c
    by Approved = refl
    by Declined = refl
    by UnknownAccount = refl
    by NoFunds = refl
    by Expired = refl
    by WrongPin = refl

-- a kept reply that says its code alone
abbrev IsPlain : KeptCall → Type 0
IsPlain kept = kept.reply ≡ said_bytes (code_alone kept.code)

module _ (keys : HostKeys) (accounts : List AccountData) where
  new_plain : (books : Books) (message : List ℕ) (f : PresentData) → IsPlain (new_present keys accounts books message f)
  new_plain books message f = ap said_bytes (by (account_with_pan f.named.pan accounts))
    where
      by : (account : Option AccountData) → present_reply keys account books f ≡ code_alone (present_reply keys account books f).code
      by None = refl
      by (Some account) = refl

  first_plain : (found : Option KeptCall) (new : KeptCall) (messages : List KeptCall) → All IsPlain messages → IsPlain new → All IsPlain (with_first found new messages)
  first_plain None new messages all is = All-push IsPlain messages new all is
  first_plain (Some kept) new messages all is = all

  kept_plain : (books : Books) (message : List ℕ) (reading : Result Incoming MessageFault) → All IsPlain books.presentments
      → All IsPlain (kept_in keys accounts books message reading).presentments
  kept_plain books message (Err fault) all = all
  kept_plain books message (Ok (Request f)) all = all
  kept_plain books message (Ok (Present f)) all =
      first_plain (kept_at (present_key f) books.presentments) (new_present keys accounts books message f) books.presentments all (new_plain books message f)
  kept_plain books message (Ok (Reverse f)) all = all

  books_plain : (books : Books) (messages : List (List ℕ)) → All IsPlain books.presentments → All IsPlain (books_from keys accounts books messages).presentments
  unfolding books_with
  books_plain books [] all = all
  books_plain books (message ∷ messages) all = books_plain (books_with keys accounts books message) messages (kept_plain books message (message_of message) all)

  found_plain : (key : Key) (messages : List KeptCall) (kept : KeptCall) → All IsPlain messages → kept_at key messages ≡ Some kept → IsPlain kept
  found_plain key [] kept all is = cc
  found_plain key (first ∷ others) kept all is = by (found_plain key others kept (All-tail IsPlain first others all)) (same_key key first.key) is
    where
      by : (kept_at key others ≡ Some kept → IsPlain kept) → (same : Bool) → (if same then Some first else kept_at key others) ≡ Some kept → IsPlain kept
      by later true is = let one : first ≡ kept = cc in subst IsPlain one (All-head IsPlain first others all)
      by later false is = later is

  -- the transaction is booked once its presentment is answered so
  present_booked : (books : Books) (message : List ℕ) (f : PresentData) → All IsPlain books.presentments
      → is_reply_approved (reply_of (reply_to_message keys accounts books message (Ok (Present f)))) ≡ true
      → is_booked (kept_in keys accounts books message (Ok (Present f))) (present_key f) ≡ true
  present_booked books message f all = by (kept_at (present_key f) books.presentments) refl
    where
      new : KeptCall
      new = new_present keys accounts books message f

      approved : (kept : KeptCall) → IsPlain kept → is_reply_approved (reply_of kept.reply) ≡ true → is_approved kept.code ≡ true
      approved kept is accepted = sym (code_read kept.code) ∙ ap (λ (bytes : List ℕ). is_reply_approved (reply_of bytes)) (sym is) ∙ accepted

      again : (kept : KeptCall) (same : Bool) → IsPlain kept → is_reply_approved (reply_of (if same then kept.reply else said_bytes (code_alone Declined))) ≡ true
          → is_approved kept.code ≡ true
      again kept true is accepted = approved kept is accepted
      again kept false is accepted = let no : false ≡ true = sym (code_read Declined) ∙ accepted in cc

      by : (found : Option KeptCall) → kept_at (present_key f) books.presentments ≡ found → is_reply_approved (reply_of (again_or found message new.reply)) ≡ true
          → was_approved (kept_at (present_key f) (with_first found new books.presentments)) ≡ true
      by None none accepted = ap was_approved (kept_own books.presentments new none) ∙ approved new (new_plain books message f) accepted
      by (Some kept) is accepted =
          ap was_approved is ∙ again kept (bytes_eq kept.message message) (found_plain (present_key f) books.presentments kept all is) accepted

  -- where a transaction is booked behind so many messages, one of them books it
  booked_before : (messages : List (List ℕ)) (key : Key) (count : ℕ) → count ≤ length messages → is_booked_after keys accounts messages key count ≡ true
      → (first : ℕ) × (first < count) × IsBooking keys accounts messages key first
  booked_before messages key zero within is = cc
  booked_before messages key (suc n) within is = by (booked_before messages key n (omega arith)) (is_booked_after keys accounts messages key n) refl
    where
      by : (is_booked_after keys accounts messages key n ≡ true → (first : ℕ) × (first < n) × IsBooking keys accounts messages key first)
          → (b : Bool) → is_booked_after keys accounts messages key n ≡ b → (first : ℕ) × (first < suc n) × IsBooking keys accounts messages key first
      by earlier true before = let one = earlier before in (one.0, (omega (arith, one.1)), one.2)
      by earlier false before =
          let count : n + 1 ≡ suc n = omega arith in
          (n, (omega arith), record { within = omega arith; before = before; after = ap (λ c. is_booked_after keys accounts messages key c) count ∙ is })

  pub booked_by : (messages : List (List ℕ)) (message : List ℕ) (place : ℕ) (f : PresentData) → slice_get messages place ≡ Some message
      → message_of message ≡ Ok (Present f) → is_reply_approved (reply_of (host_reply keys accounts (take place messages) message)) ≡ true
      → IsBookedBy keys accounts messages (present_key f) place
  unfolding books_with reply_to
  booked_by messages message place f there read accepted =
      let one = booked_before messages (present_key f) (suc place) within after in
      record { first = one.0; by_then = omega (arith, one.1); books = one.2 }
    where
      within : place < length messages
      within = slice_get_within messages place message there

      books : Books
      books = books_after keys accounts messages place

      split : take (suc place) messages ≡ take place messages ++ message ∷ []
      split = take-suc messages place [] within ∙ ap (λ (m : List ℕ). take place messages ++ m ∷ []) (get_or_from_slice_get messages place message [] there)

      grown : books_after keys accounts messages (suc place) ≡ kept_in keys accounts books message (Ok (Present f))
      grown =
          ap (books_of keys accounts) split ∙ books_grow keys accounts no_books (take place messages) message
          ∙ ap (kept_in keys accounts books message) read

      answered : is_reply_approved (reply_of (reply_to_message keys accounts books message (Ok (Present f)))) ≡ true
      answered = ap (λ (reading : Result Incoming MessageFault). is_reply_approved (reply_of (reply_to_message keys accounts books message reading))) (sym read) ∙ accepted

      after : is_booked_after keys accounts messages (present_key f) (suc place) ≡ true
      after =
          ap (λ (b : Books). is_booked b (present_key f)) grown
          ∙ present_booked books message f (books_plain no_books (take place messages) (All-nil IsPlain)) answered

  -- a message among those that came to the host
  pub delivered_at : (messages : List (List ℕ)) (message : List ℕ) (place : ℕ) → slice_get messages place ≡ Some message
      → IsDelivered keys accounts messages message
  delivered_at messages message place there = record {
    place = place;
    there = there;
    booked = λ at f here read accepted. booked_by messages message at f here read accepted;
  }
