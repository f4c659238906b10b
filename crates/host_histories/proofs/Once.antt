-- A booked transaction stays booked, with the amount of its presentment.
use Rattle.std.proofs.Common.{◌≡◌, ℕ, ◌+◌, ◌-◌, ◌<◌, ◌≤◌, suc, Bool, true, false, cond, nat_lt, List, [], ◌∷◌, ◌++◌, take, drop, get_or, Option, Some, None, Result, Ok, Err, refl, sym, ap, subst, ◌∙◌, arith, inl, inr, take-add}
use Rattle.std.specs.Prelude.{option_map}
use Rattle.std.proofs.lemmas.Bool.{cases_eq}
use Rattle.std.proofs.lemmas.Bool.Decides.{nat_tests}
use Rattle.std.proofs.lemmas.Option.{slice_get-get_or}
use Rattle.std.proofs.Math.Seq.{take-suc}
use Rattle.auth_message.specs.Data.{PresentData}
use Rattle.auth_message.specs.Message.{message_of}
use Rattle.auth_message.specs.declared.fault.MessageFault.{MessageFault}
use Rattle.auth_message.specs.declared.message.Incoming.{Incoming}
use Rattle.auth_message.specs.declared.message.Incoming.TheVariants.{Request, Present, Reverse}
use Rattle.host_ledger.specs.declared.key.Key.{Key}
use Rattle.host_ledger.specs.Key.{same_key}
use Rattle.host_ledger.proofs.Keys.{same}
use Rattle.issuer_host.specs.declared.keys.HostKeys.{HostKeys}
use Rattle.issuer_host.specs.Account.{AccountData}
use Rattle.issuer_host.specs.Balance.{is_booked}
use Rattle.host_histories.specs.BookedOnce.{books_after, IsBooking, TakesAmount, BookedOnce}
use Rattle.issuer_host.specs.Books.{KeptCall, Books, no_books, kept_at, was_approved}
use Rattle.issuer_host.specs.Code.{is_approved}
use Rattle.issuer_host.specs.History.{books_with, books_from, books_of, kept_in, with_first}
use Rattle.issuer_host.specs.Records.{amount_of}
use Rattle.issuer_host.specs.Reply.{present_key, new_present}
use Rattle.issuer_host.proofs.Histories.{books_grow}
use Rattle.issuer_host.proofs.Totals.{last_or_found, kept_last}

found_stays : (key : Key) (messages : List KeptCall) (new kept : KeptCall) (r : Option KeptCall) → kept_at key messages ≡ Some kept → kept_at key (with_first r new messages) ≡ Some kept
found_stays key messages new kept None is = kept_last key messages new ∙ ap (last_or_found key new) is
found_stays key messages new kept (Some other) is = is

kept_stays : (keys : HostKeys) (accounts : List AccountData) (books : Books) (message : List ℕ) (key : Key) (kept : KeptCall) (reading : Result Incoming MessageFault)
    → kept_at key books.presentments ≡ Some kept → kept_at key (kept_in keys accounts books message reading).presentments ≡ Some kept
kept_stays keys accounts books message key kept (Err fault) is = is
kept_stays keys accounts books message key kept (Ok (Request f)) is = is
kept_stays keys accounts books message key kept (Ok (Present f)) is = found_stays key books.presentments (new_present keys accounts books message f) kept (kept_at (present_key f) books.presentments) is
kept_stays keys accounts books message key kept (Ok (Reverse f)) is = is

presentment_stays : (keys : HostKeys) (accounts : List AccountData) (books : Books) (messages : List (List ℕ)) (key : Key) (kept : KeptCall)
    → kept_at key books.presentments ≡ Some kept → kept_at key (books_from keys accounts books messages).presentments ≡ Some kept
unfolding books_with
presentment_stays keys accounts books [] key kept is = is
presentment_stays keys accounts books (message ∷ messages) key kept is =
    presentment_stays keys accounts (books_with keys accounts books message) messages key kept (kept_stays keys accounts books message key kept (message_of message) is)

books_joined : (keys : HostKeys) (accounts : List AccountData) (books : Books) (front rest : List (List ℕ)) → books_from keys accounts books (front ++ rest) ≡ books_from keys accounts (books_from keys accounts books front) rest
books_joined keys accounts books [] rest = refl
books_joined keys accounts books (message ∷ front) rest = books_joined keys accounts (books_with keys accounts books message) front rest

-- a presentment that was kept after some of the messages is kept from then on
from_then_on : (keys : HostKeys) (accounts : List AccountData) (messages : List (List ℕ)) (key : Key) (kept : KeptCall) (i j : ℕ) → i ≤ j
    → kept_at key (books_after keys accounts messages i).presentments ≡ Some kept → kept_at key (books_after keys accounts messages j).presentments ≡ Some kept
from_then_on keys accounts messages key kept i j before is =
    let count : i + (j - i) ≡ j = omega arith in
    let split : take j messages ≡ take i messages ++ take (j - i) (drop i messages) = ap (λ n. take n messages) (sym count) ∙ take-add i (j - i) messages in
    let joined : books_after keys accounts messages j ≡ books_from keys accounts (books_after keys accounts messages i) (take (j - i) (drop i messages)) =
    ap (books_of keys accounts) split ∙ books_joined keys accounts no_books (take i messages) (take (j - i) (drop i messages)) in
    ap (λ (b : Books). kept_at key b.presentments) joined ∙ presentment_stays keys accounts (books_after keys accounts messages i) (take (j - i) (drop i messages)) key kept is

-- a presentment of the transaction that was approved
record Booking (key : Key) (books : Books) (kept : KeptCall) : Type 0 where
  found : kept_at key books.presentments ≡ Some kept
  approved : is_approved kept.code ≡ true

booking_found : (key : Key) (books : Books) → is_booked books key ≡ true → (kept : KeptCall) × Booking key books kept
booking_found key books is = by (kept_at key books.presentments) refl is
  where
    by : (r : Option KeptCall) → kept_at key books.presentments ≡ r → was_approved r ≡ true → (kept : KeptCall) × Booking key books kept
    by None found is = cc
    by (Some kept) found is = (kept, record { found = found; approved = is })

booking_stays : (keys : HostKeys) (accounts : List AccountData) (messages : List (List ℕ)) (key : Key) (kept : KeptCall) (i j : ℕ) → i ≤ j
    → Booking key (books_after keys accounts messages i) kept → Booking key (books_after keys accounts messages j) kept
booking_stays keys accounts messages key kept i j before booking = record { found = from_then_on keys accounts messages key kept i j before booking.found; approved = booking.approved }

booking_books : (key : Key) (books : Books) (kept : KeptCall) → Booking key books kept → is_booked books key ≡ true
booking_books key books kept booking = ap was_approved booking.found ∙ booking.approved

booking_amount : (key : Key) (books : Books) (kept : KeptCall) → Booking key books kept → amount_of books key ≡ kept.amount
booking_amount key books kept booking = rw (booking.found, booking.approved) refl

earlier : (keys : HostKeys) (accounts : List AccountData) (messages : List (List ℕ)) (key : Key) (i j : ℕ) → i < j → IsBooking keys accounts messages key i → IsBooking keys accounts messages key j → ⊥
earlier keys accounts messages key i j before one other =
    let first = booking_found key (books_after keys accounts messages (i + 1)) one.after in
    let stays = booking_books key (books_after keys accounts messages j) first.0 (booking_stays keys accounts messages key first.0 (i + 1) j (omega arith) first.1) in
    let not_yet = other.before in
    cc

booked_once : (keys : HostKeys) (accounts : List AccountData) (messages : List (List ℕ)) (key : Key) (i j : ℕ) → IsBooking keys accounts messages key i → IsBooking keys accounts messages key j → i ≡ j
booked_once keys accounts messages key i j one other = elim (cases_eq i j) [
  | inl same ↦ same
  | inr differ ↦ absurd (by (nat_lt i j) refl differ)
]
  where
    by : (b : Bool) → nat_lt i j ≡ b → (i ≡ j → ⊥) → ⊥
    by true is differ = let before : i < j = grind (arith, nat_tests) in earlier keys accounts messages key i j before one other
    by false is differ = let behind : j ≤ i = grind (arith, nat_tests) in let before : j < i = omega arith in earlier keys accounts messages key j i before other one

-- where a transaction is booked that was not, the new message is its presentment
record IsNew (key : Key) (messages : List KeptCall) (new : KeptCall) : Type 0 where
  own : new.key ≡ key
  found : kept_at key messages ≡ Some new
  approved : is_approved new.code ≡ true

new_books : (key : Key) (messages : List KeptCall) (new : KeptCall) (r found : Option KeptCall) → kept_at key messages ≡ found → was_approved found ≡ false → was_approved (kept_at key (with_first r new messages)) ≡ true
    → IsNew key (with_first r new messages) new
new_books key messages new (Some other) found is before after = let again : was_approved (kept_at key messages) ≡ false = ap was_approved is ∙ before in cc
new_books key messages new None (Some kept) is before after = let again : was_approved (kept_at key (messages ++ new ∷ [])) ≡ false = ap was_approved (kept_last key messages new ∙ ap (last_or_found key new) is) ∙ before in cc
new_books key messages new None None is before after = by (same_key key new.key) refl (kept_last key messages new ∙ ap (last_or_found key new) is)
  where
    by : (b : Bool) → same_key key new.key ≡ b → kept_at key (messages ++ new ∷ []) ≡ cond b (Some new) None → IsNew key (messages ++ new ∷ []) new
    by false other last = let none : was_approved (kept_at key (messages ++ new ∷ [])) ≡ false = ap was_approved last in cc
    by true one last = record { own = sym (same key new.key one); found = last; approved = sym (ap was_approved last) ∙ after }

-- the presentment that books the transaction
record IsPresented (keys : HostKeys) (accounts : List AccountData) (books : Books) (message : List ℕ) (key : Key) (reading : Result Incoming MessageFault) : Type 0 where
  fields : PresentData
  read : reading ≡ Ok (Present fields)
  own : present_key fields ≡ key
  booking : Booking key (kept_in keys accounts books message reading) (new_present keys accounts books message fields)

message_books : (keys : HostKeys) (accounts : List AccountData) (books : Books) (message : List ℕ) (key : Key) (reading : Result Incoming MessageFault)
    → is_booked books key ≡ false → is_booked (kept_in keys accounts books message reading) key ≡ true → IsPresented keys accounts books message key reading
message_books keys accounts books message key (Err fault) before after = cc
message_books keys accounts books message key (Ok (Request f)) before after = cc
message_books keys accounts books message key (Ok (Reverse f)) before after = cc
message_books keys accounts books message key (Ok (Present f)) before after =
    let new = new_books key books.presentments (new_present keys accounts books message f) (kept_at (present_key f) books.presentments) (kept_at key books.presentments) refl before after in
    record { fields = f; read = refl; own = new.own; booking = record { found = new.found; approved = new.approved } }

takes_amount : (keys : HostKeys) (accounts : List AccountData) (messages : List (List ℕ)) (key : Key) (place : ℕ) → IsBooking keys accounts messages key place → TakesAmount keys accounts messages key place
unfolding books_with
takes_amount keys accounts messages key place booking =
    let books = books_after keys accounts messages place in
    let message = get_or messages place [] in
    let next : place + 1 ≡ suc place = omega arith in
    let split : take (place + 1) messages ≡ take place messages ++ message ∷ [] = ap (λ n. take n messages) next ∙ take-suc messages place [] booking.within in
    let grown : books_after keys accounts messages (place + 1) ≡ kept_in keys accounts books message (message_of message) = ap (books_of keys accounts) split ∙ books_grow keys accounts no_books (take place messages) message in
    let presented = message_books keys accounts books message key (message_of message) booking.before (ap (λ b. is_booked b key) (sym grown) ∙ booking.after) in
    let kept = new_present keys accounts books message presented.fields in
    let now : Booking key (books_after keys accounts messages (place + 1)) kept = subst (λ b. Booking key b kept) (sym grown) presented.booking in
    record {
      fields = presented.fields;
      presentment = ap (option_map message_of) (slice_get-get_or messages place [] booking.within) ∙ ap Some presented.read;
      transaction = presented.own;
      amount = λ count behind. booking_amount key (books_after keys accounts messages count) kept (booking_stays keys accounts messages key kept (place + 1) count (omega arith) now);
    }

pub booked_once_law : BookedOnce
booked_once_law = record { once = booked_once; presented = takes_amount }
