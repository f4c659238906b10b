-- The host among some account numbers: what is kept of their messages, and what is replied to them, is the same with
-- the others and without them.
use Rattle.std.proofs.Common.{◌≡◌, ℕ, ◌+◌, ℤ, pos, ◌-ℤ◌, Bool, true, false, not, cond, ◌&&◌, ◌||◌, List, [], ◌∷◌, ◌++◌, Option, Some, None, Result, Ok, Err, refl, sym, ap, subst, ◌∙◌}
use Rattle.std.specs.Prelude.{filter, sum_by, option_map, if◌then◌else◌}
use Rattle.std.specs.List.{list_any}
use Rattle.std.specs.Str.{bytes_eq}
use Rattle.std.proofs.lemmas.List.Elements.{filter-append}
use Rattle.std.proofs.lemmas.List.Sums.{sum_by-cons}
use Rattle.auth_message.specs.Data.{RequestData, PresentData}
use Rattle.auth_message.specs.Message.{message_of}
use Rattle.auth_message.specs.declared.fault.MessageFault.{MessageFault}
use Rattle.auth_message.specs.declared.message.Incoming.{Incoming}
use Rattle.auth_message.specs.declared.message.Incoming.TheVariants.{Request, Present, Reverse}
use Rattle.auth_message.specs.declared.reversal.ReversalFields.{ReversalFields}
use Rattle.emv_dict.specs.Bcd.{number_in}
use Rattle.host_ledger.specs.Key.{same_key}
use Rattle.host_ledger.specs.declared.key.Key.{Key}
use Rattle.host_ledger.proofs.Keys.{same, same_pan}
use Rattle.host_histories.specs.Apart.{pan_in, pan_carried, is_own_pan, own_messages, own_accounts, StandApart}
use Rattle.issuer_host.specs.Account.{AccountData}
use Rattle.issuer_host.specs.Balance.{booked_amount, held_amount, of_pan, taken_in_all, account_with_pan}
use Rattle.issuer_host.specs.Books.{KeptCall, Books, no_books, kept_at}
use Rattle.issuer_host.specs.History.{with_first, kept_in, books_with, books_from, books_of}
use Rattle.issuer_host.specs.Reply.{ReplySaid, request_key, present_key, reversal_key, request_code, present_code, is_served, request_reply, present_reply, reversal_reply, kept_with, new_request, new_present, new_reversal, again_or, said_bytes, reply_to_message, reply_to}
use Rattle.issuer_host.specs.declared.keys.HostKeys.{HostKeys}
use Rattle.issuer_host.proofs.Places.{has_pan}

module _ (own : List ℕ → Bool) where
  abbrev is_own : KeptCall → Bool
  is_own kept = own kept.key.pan

  abbrev own_kept : List KeptCall → List KeptCall
  own_kept messages = filter is_own messages

  abbrev own_books : Books → Books
  own_books books = record { requests = own_kept books.requests; presentments = own_kept books.presentments; reversals = own_kept books.reversals }

  not_both : (pan other : List ℕ) → own pan ≡ true → pan ≡ other → own other ≡ false → ⊥
  not_both pan other is same isnt = let also : own other ≡ true = ap own (sym same) ∙ is in cc

  -- the kept message of a transaction
  kept_own : (key : Key) → own key.pan ≡ true → (messages : List KeptCall) → kept_at key (own_kept messages) ≡ kept_at key messages
  kept_own key is [] = refl
  kept_own key is (kept ∷ others) = by (kept_own key is others) (own kept.key.pan) (same_key key kept.key) refl refl
    where
      by : kept_at key (own_kept others) ≡ kept_at key others → (a b : Bool) → own kept.key.pan ≡ a → same_key key kept.key ≡ b
          → kept_at key (cond a (kept ∷ own_kept others) (own_kept others)) ≡ cond b (Some kept) (kept_at key others)
      by later true true kept_is this = rw this refl
      by later true false kept_is this = rw this later
      by later false true kept_is this = absurd (not_both key.pan kept.key.pan is (ap (λ (k : Key). k.pan) (same key kept.key this)) kept_is)
      by later false false kept_is this = later

  account_own : (pan : List ℕ) → own pan ≡ true → (accounts : List AccountData) → account_with_pan pan (own_accounts own accounts) ≡ account_with_pan pan accounts
  account_own pan is [] = refl
  account_own pan is (account ∷ others) = by (account_own pan is others) (own account.pan) (bytes_eq pan account.pan) refl refl
    where
      by : account_with_pan pan (own_accounts own others) ≡ account_with_pan pan others → (a b : Bool) → own account.pan ≡ a → bytes_eq pan account.pan ≡ b
          → account_with_pan pan (cond a (account ∷ own_accounts own others) (own_accounts own others)) ≡ cond b (Some account) (account_with_pan pan others)
      by later true true account_is this = rw this refl
      by later true false account_is this = rw this later
      by later false true account_is this = absurd (not_both pan account.pan is (same_pan pan account.pan this) account_is)
      by later false false account_is this = later

  of_pan_own : (pan : List ℕ) → own pan ≡ true → (messages : List KeptCall) → of_pan pan (own_kept messages) ≡ of_pan pan messages
  of_pan_own pan is [] = refl
  of_pan_own pan is (kept ∷ others) = by (of_pan_own pan is others) (own kept.key.pan) (bytes_eq pan kept.key.pan) refl refl
    where
      by : of_pan pan (own_kept others) ≡ of_pan pan others → (a b : Bool) → own kept.key.pan ≡ a → bytes_eq pan kept.key.pan ≡ b
          → of_pan pan (cond a (kept ∷ own_kept others) (own_kept others)) ≡ cond b (kept ∷ of_pan pan others) (of_pan pan others)
      by later true true kept_is this = rw this (ap (λ (ks : List KeptCall). kept ∷ ks) later)
      by later true false kept_is this = rw this later
      by later false true kept_is this = absurd (not_both pan kept.key.pan is (same_pan pan kept.key.pan this) kept_is)
      by later false false kept_is this = later

  -- what a request of theirs holds
  held_own : (books : Books) (kept : KeptCall) → own kept.key.pan ≡ true → held_amount (own_books books) kept ≡ held_amount books kept
  held_own books kept is = rw (kept_own kept.key is books.presentments, kept_own kept.key is books.reversals) refl

  sums_own : (books : Books) (pan : List ℕ) → own pan ≡ true → (messages : List KeptCall) → sum_by (held_amount (own_books books)) (of_pan pan messages) ≡ sum_by (held_amount books) (of_pan pan messages)
  sums_own books pan is [] = refl
  sums_own books pan is (kept ∷ others) = by (sums_own books pan is others) (bytes_eq pan kept.key.pan) refl
    where
      by : sum_by (held_amount (own_books books)) (of_pan pan others) ≡ sum_by (held_amount books) (of_pan pan others) → (b : Bool) → bytes_eq pan kept.key.pan ≡ b
          → sum_by (held_amount (own_books books)) (cond b (kept ∷ of_pan pan others) (of_pan pan others)) ≡ sum_by (held_amount books) (cond b (kept ∷ of_pan pan others) (of_pan pan others))
      by later true this =
          sum_by-cons (held_amount (own_books books)) kept (of_pan pan others)
          ∙ rw (held_own books kept (ap own (sym (same_pan pan kept.key.pan this)) ∙ is), later) (sym (sum_by-cons (held_amount books) kept (of_pan pan others)))
      by later false this = later

  taken_own : (books : Books) (pan : List ℕ) → own pan ≡ true → taken_in_all pan (own_books books) ≡ taken_in_all pan books
  taken_own books pan is =
      ap (λ (ks : List KeptCall). sum_by booked_amount ks + sum_by (held_amount (own_books books)) (of_pan pan (own_kept books.requests))) (of_pan_own pan is books.presentments)
      ∙ ap (λ (ks : List KeptCall). sum_by booked_amount (of_pan pan books.presentments) + sum_by (held_amount (own_books books)) ks) (of_pan_own pan is books.requests)
      ∙ ap (λ (n : ℕ). sum_by booked_amount (of_pan pan books.presentments) + n) (sums_own books pan is books.requests)

  served_own : (pan : List ℕ) → own pan ≡ true → (messages : List KeptCall)
      → list_any (λ kept. kept.online && bytes_eq pan kept.key.pan) (own_kept messages) ≡ list_any (λ kept. kept.online && bytes_eq pan kept.key.pan) messages
  served_own pan is [] = refl
  served_own pan is (kept ∷ others) = by (served_own pan is others) (own kept.key.pan) (bytes_eq pan kept.key.pan) refl refl
    where
      apart : (online : Bool) → (online && false) ≡ false
      apart true = refl
      apart false = refl

      by : list_any (λ kept. kept.online && bytes_eq pan kept.key.pan) (own_kept others) ≡ list_any (λ kept. kept.online && bytes_eq pan kept.key.pan) others → (a b : Bool) → own kept.key.pan ≡ a → bytes_eq pan kept.key.pan ≡ b
          → list_any (λ kept. kept.online && bytes_eq pan kept.key.pan) (cond a (kept ∷ own_kept others) (own_kept others)) ≡ ((kept.online && b) || list_any (λ kept. kept.online && bytes_eq pan kept.key.pan) others)
      by later true b kept_is this = rw (this, later) refl
      by later false true kept_is this = absurd (not_both pan kept.key.pan is (same_pan pan kept.key.pan this) kept_is)
      by later false false kept_is this = later ∙ rw (apart kept.online) refl

  -- the reply to a new message
  code_own : (keys : HostKeys) (account : AccountData) (books : Books) (f : RequestData) → own f.named.pan ≡ true → own account.pan ≡ true → request_code keys account (own_books books) f ≡ request_code keys account books f
  unfolding request_code
  code_own keys account books f is account_is =
      rw (kept_own (request_key f) is books.reversals, kept_own (request_key f) is books.presentments, taken_own books account.pan account_is) refl

  request_own : (keys : HostKeys) (accounts : List AccountData) (books : Books) (f : RequestData) → own f.named.pan ≡ true
      → request_reply keys (account_with_pan f.named.pan (own_accounts own accounts)) (own_books books) f ≡ request_reply keys (account_with_pan f.named.pan accounts) books f
  request_own keys accounts books f is =
      ap (λ (a : Option AccountData). request_reply keys a (own_books books) f) (account_own f.named.pan is accounts) ∙ by (account_with_pan f.named.pan accounts) refl
    where
      by : (account : Option AccountData) → account_with_pan f.named.pan accounts ≡ account → request_reply keys account (own_books books) f ≡ request_reply keys account books f
      by None known = refl
      by (Some account) known =
          let account_is : own account.pan ≡ true = ap own (has_pan f.named.pan accounts account known) ∙ is in
          rw (code_own keys account books f is account_is, served_own account.pan account_is books.requests) refl

  present_own : (keys : HostKeys) (accounts : List AccountData) (books : Books) (f : PresentData) → own f.named.pan ≡ true
      → present_reply keys (account_with_pan f.named.pan (own_accounts own accounts)) (own_books books) f ≡ present_reply keys (account_with_pan f.named.pan accounts) books f
  unfolding present_code
  present_own keys accounts books f is =
      ap (λ (a : Option AccountData). present_reply keys a (own_books books) f) (account_own f.named.pan is accounts) ∙ by (account_with_pan f.named.pan accounts)
    where
      by : (account : Option AccountData) → present_reply keys account (own_books books) f ≡ present_reply keys account books f
      by None = refl
      by (Some account) = rw (kept_own (present_key f) is books.reversals) refl

  reversal_own : (accounts : List AccountData) (books : Books) (f : ReversalFields) → own f.pan ≡ true
      → reversal_reply (account_with_pan f.pan (own_accounts own accounts)) (own_books books) f ≡ reversal_reply (account_with_pan f.pan accounts) books f
  reversal_own accounts books f is =
      ap (λ (a : Option AccountData). reversal_reply a (own_books books) f) (account_own f.pan is accounts) ∙ by (account_with_pan f.pan accounts)
    where
      by : (account : Option AccountData) → reversal_reply account (own_books books) f ≡ reversal_reply account books f
      by None = refl
      by (Some account) = rw (kept_own (reversal_key f) is books.presentments) refl

  -- the kept messages with a new one
  first_own : (key : Key) (new : KeptCall) (messages : List KeptCall) → own key.pan ≡ true → own new.key.pan ≡ true → with_first (kept_at key (own_kept messages)) new (own_kept messages) ≡ own_kept (with_first (kept_at key messages) new messages)
  first_own key new messages is new_is = ap (λ (k : Option KeptCall). with_first k new (own_kept messages)) (kept_own key is messages) ∙ by (kept_at key messages)
    where
      by : (found : Option KeptCall) → with_first found new (own_kept messages) ≡ own_kept (with_first found new messages)
      by None = sym (filter-append is_own messages (new ∷ []) ∙ rw new_is refl)
      by (Some kept) = refl

  first_other : (found : Option KeptCall) (new : KeptCall) (messages : List KeptCall) → own new.key.pan ≡ false → own_kept (with_first found new messages) ≡ own_kept messages
  first_other None new messages isnt = filter-append is_own messages (new ∷ []) ∙ rw isnt (append_none (own_kept messages))
    where
      append_none : (ks : List KeptCall) → ks ++ [] ≡ ks
      append_none [] = refl
      append_none (k ∷ ks) = ap (λ (ks : List KeptCall). k ∷ ks) (append_none ks)
  first_other (Some kept) new messages isnt = refl

  module _ (keys : HostKeys) (accounts : List AccountData) where
    -- a message of theirs
    kept_in_own : (books : Books) (message : List ℕ) (read : Result Incoming MessageFault) → is_own_pan own (pan_in read) ≡ true
        → kept_in keys (own_accounts own accounts) (own_books books) message read ≡ own_books (kept_in keys accounts books message read)
    kept_in_own books message (Err fault) is = cc
    kept_in_own books message (Ok (Request f)) is =
        let new = ap (λ (s : ReplySaid). kept_with (request_key f) (number_in f.paid.t9f02) message s) (request_own keys accounts books f is) in
        ap (λ (k : KeptCall). record (own_books books) { requests = with_first (kept_at (request_key f) (own_kept books.requests)) k (own_kept books.requests) }) new
        ∙ ap (λ (ks : List KeptCall). record (own_books books) { requests = ks }) (first_own (request_key f) (new_request keys accounts books message f) books.requests is is)
    kept_in_own books message (Ok (Present f)) is =
        let new = ap (λ (s : ReplySaid). kept_with (present_key f) (number_in f.paid.t9f02) message s) (present_own keys accounts books f is) in
        ap (λ (k : KeptCall). record (own_books books) { presentments = with_first (kept_at (present_key f) (own_kept books.presentments)) k (own_kept books.presentments) }) new
        ∙ ap (λ (ks : List KeptCall). record (own_books books) { presentments = ks }) (first_own (present_key f) (new_present keys accounts books message f) books.presentments is is)
    kept_in_own books message (Ok (Reverse f)) is =
        let new = ap (λ (s : ReplySaid). kept_with (reversal_key f) (number_in f.t9f02) message s) (reversal_own accounts books f is) in
        ap (λ (k : KeptCall). record (own_books books) { reversals = with_first (kept_at (reversal_key f) (own_kept books.reversals)) k (own_kept books.reversals) }) new
        ∙ ap (λ (ks : List KeptCall). record (own_books books) { reversals = ks }) (first_own (reversal_key f) (new_reversal accounts books message f) books.reversals is is)

    -- another one
    kept_in_other : (books : Books) (message : List ℕ) (read : Result Incoming MessageFault) → is_own_pan own (pan_in read) ≡ false
        → own_books books ≡ own_books (kept_in keys accounts books message read)
    kept_in_other books message (Err fault) isnt = refl
    kept_in_other books message (Ok (Request f)) isnt =
        ap (λ (ks : List KeptCall). record (own_books books) { requests = ks }) (sym (first_other (kept_at (request_key f) books.requests) (new_request keys accounts books message f) books.requests isnt))
    kept_in_other books message (Ok (Present f)) isnt =
        ap (λ (ks : List KeptCall). record (own_books books) { presentments = ks }) (sym (first_other (kept_at (present_key f) books.presentments) (new_present keys accounts books message f) books.presentments isnt))
    kept_in_other books message (Ok (Reverse f)) isnt =
        ap (λ (ks : List KeptCall). record (own_books books) { reversals = ks }) (sym (first_other (kept_at (reversal_key f) books.reversals) (new_reversal accounts books message f) books.reversals isnt))

    books_own : (books : Books) (messages : List (List ℕ)) → books_from keys (own_accounts own accounts) (own_books books) (own_messages own messages) ≡ own_books (books_from keys accounts books messages)
    unfolding books_with pan_carried
    books_own books [] = refl
    books_own books (message ∷ messages) = by (books_own (kept_in keys accounts books message (message_of message)) messages) (is_own_pan own (pan_in (message_of message))) refl
      where
        by : books_from keys (own_accounts own accounts) (own_books (kept_in keys accounts books message (message_of message))) (own_messages own messages) ≡ own_books (books_from keys accounts (kept_in keys accounts books message (message_of message)) messages)
            → (b : Bool) → is_own_pan own (pan_in (message_of message)) ≡ b
            → books_from keys (own_accounts own accounts) (own_books books) (cond b (message ∷ own_messages own messages) (own_messages own messages)) ≡ own_books (books_from keys accounts (kept_in keys accounts books message (message_of message)) messages)
        by later true is = ap (λ (b : Books). books_from keys (own_accounts own accounts) b (own_messages own messages)) (kept_in_own books message (message_of message) is) ∙ later
        by later false isnt = ap (λ (b : Books). books_from keys (own_accounts own accounts) b (own_messages own messages)) (kept_in_other books message (message_of message) isnt) ∙ later

    again_own : (key : Key) → own key.pan ≡ true → (messages : List KeptCall) (message reply new : List ℕ) → new ≡ reply → again_or (kept_at key (own_kept messages)) message new ≡ again_or (kept_at key messages) message reply
    again_own key is messages message reply new made = ap (λ (k : Option KeptCall). again_or k message new) (kept_own key is messages) ∙ ap (again_or (kept_at key messages) message) made

    reply_own : (books : Books) (message : List ℕ) (read : Result Incoming MessageFault) → ((pan : List ℕ) → pan_in read ≡ Some pan → own pan ≡ true)
        → reply_to_message keys (own_accounts own accounts) (own_books books) message read ≡ reply_to_message keys accounts books message read
    reply_own books message (Err fault) are = refl
    reply_own books message (Ok (Request f)) are =
        let is : own f.named.pan ≡ true = are f.named.pan refl in
        again_own (request_key f) is books.requests message _ _ (ap said_bytes (request_own keys accounts books f is))
    reply_own books message (Ok (Present f)) are =
        let is : own f.named.pan ≡ true = are f.named.pan refl in
        again_own (present_key f) is books.presentments message _ _ (ap said_bytes (present_own keys accounts books f is))
    reply_own books message (Ok (Reverse f)) are =
        let is : own f.pan ≡ true = are f.pan refl in
        again_own (reversal_key f) is books.reversals message _ _ (ap said_bytes (reversal_own accounts books f is))

pub stand_apart : StandApart
unfolding reply_to pan_carried
stand_apart = record {
  replies = λ own keys accounts messages message are.
      ap (λ (b : Books). reply_to_message keys (own_accounts own accounts) b message (message_of message)) (books_own own keys accounts no_books messages)
      ∙ reply_own own keys accounts (books_of keys accounts messages) message (message_of message) are;
  balances = λ own keys accounts messages pan is.
      let books = books_of keys accounts messages in
      ap (λ (b : Books). option_map (λ account. pos account.balance -ℤ pos (taken_in_all pan b)) (account_with_pan pan (own_accounts own accounts))) (books_own own keys accounts no_books messages)
      ∙ rw (account_own own pan is accounts, taken_own own books pan is) refl;
}
