-- The transactions of the messages add up to what the balances lose.
use Rattle.std.proofs.Common.{◌≡◌, ℕ, Bool, true, false, cond, ◌||◌, List, [], ◌∷◌, Option, Some, None, Result, Ok, Err, refl, sym, ap, ◌∙◌}
use Rattle.std.specs.Prelude.{pos, ◌-ℤ◌, option_map}
use Rattle.std.specs.Option.{is_some}
use Rattle.auth_message.specs.Message.{message_of}
use Rattle.auth_message.specs.declared.fault.MessageFault.{MessageFault}
use Rattle.auth_message.specs.declared.message.Incoming.{Incoming}
use Rattle.auth_message.specs.declared.message.Incoming.TheVariants.{Request, Present, Reverse}
use Rattle.auth_message.specs.Data.{RequestData, PresentData}
use Rattle.auth_message.specs.declared.reversal.ReversalFields.{ReversalFields}
use Rattle.host_ledger.specs.Accounts.{LedgerData, KeepsEntry}
use Rattle.host_ledger.specs.Entries.{entry_at, with_entry}
use Rattle.host_ledger.specs.Key.{same_key}
use Rattle.host_ledger.specs.declared.entry.Entry.{Entry}
use Rattle.host_ledger.specs.declared.key.Key.{Key}
use Rattle.host_ledger.proofs.Keys.{same, own_key}
use Rattle.host_ledger.proofs.Sums.{own_sum, other_sum, found_again, others_again}
use Rattle.issuer_host.specs.declared.keys.HostKeys.{HostKeys}
use Rattle.issuer_host.specs.Account.{AccountData}
use Rattle.issuer_host.specs.Balance.{account_with_pan}
use Rattle.host_histories.specs.BookedOnce.{AreOfApartKeys, BalancesAddUp}
use Rattle.issuer_host.specs.Books.{KeptCall, Books, no_books, kept_at}
use Rattle.issuer_host.specs.Code.{is_approved}
use Rattle.issuer_host.specs.History.{books_with, books_from, kept_in, with_first}
use Rattle.issuer_host.specs.Records.{LedgerAgrees}
use Rattle.issuer_host.specs.Reply.{request_key, present_key, reversal_key, new_request, new_present, new_reversal}
use Rattle.issuer_host.proofs.Agreement.{with_request, with_presentment, with_reversal, held_entry, booked_entry, released_entry, request_agrees, request_declined, presentment_agrees, presentment_declined, reversal_agrees, reversal_declined}
use Rattle.issuer_host.proofs.Approved.{request_open, present_open, reversal_open}
use Rattle.issuer_host.proofs.Totals.{other_way}

-- an entry that is kept leaves the entries apart
still_absent : (key : Key) (kept : Entry) (es : List Entry) → same_key key kept.key ≡ false → entry_at key es ≡ None → entry_at key (with_entry kept es) ≡ None
still_absent key kept es other none = others_again kept es key (λ e. let yes : same_key key kept.key ≡ true = ap (same_key key) (sym e) ∙ own_key key in absurd cc) ∙ none

stay_apart : (kept : Entry) (es : List Entry) → AreOfApartKeys es → AreOfApartKeys (with_entry kept es)
stay_apart kept [] apart = (refl, tt)
stay_apart kept (e ∷ es) apart = by (stay_apart kept es apart.1) (same_key kept.key e.key) refl
  where
    by : AreOfApartKeys (with_entry kept es) → (b : Bool) → same_key kept.key e.key ≡ b → AreOfApartKeys (cond b (kept ∷ es) (e ∷ with_entry kept es))
    by rest true one = (ap (λ k. entry_at k es) (same kept.key e.key one) ∙ apart.0, apart.1)
    by rest false other = (still_absent e.key kept es (other_way kept.key e.key other) apart.0, rest)

abbrev pub ledger_of : List Entry → LedgerData
ledger_of entries = record { accounts = []; entries = entries }

keeps : (kept : Entry) (es : List Entry) → KeepsEntry kept (ledger_of es) (ledger_of (with_entry kept es))
keeps kept es = record { accounts = refl; entries = refl; found = found_again kept es; others = others_again kept es; own_sum = own_sum kept es; other_sums = other_sum kept es }

-- entries that agree with what is kept
record IsLedger (books : Books) (entries : List Entry) : Type 0 where
  agrees : LedgerAgrees books entries
  apart : AreOfApartKeys entries

closed_none : (r p : Option KeptCall) → (is_some r || is_some p) ≡ false → (p ≡ None) × (r ≡ None)
closed_none None None is = (refl, refl)
closed_none None (Some kept) is = cc
closed_none (Some kept) p is = cc

request_step : (keys : HostKeys) (accounts : List AccountData) (books : Books) (message : List ℕ) (f : RequestData) (es : List Entry) → IsLedger books es → kept_at (request_key f) books.requests ≡ None
    → (after : List Entry) × IsLedger (with_request books (new_request keys accounts books message f)) after
request_step keys accounts books message f es ledger none = by (is_approved new.code) refl
  where
    new : KeptCall
    new = new_request keys accounts books message f

    by : (b : Bool) → is_approved new.code ≡ b → (after : List Entry) × IsLedger (with_request books new) after
    by false declined = (es, record { agrees = request_declined books new es declined none ledger.agrees; apart = ledger.apart })
    by true approved =
        let open_request = request_open keys (account_with_pan f.named.pan accounts) books f approved in
        let absent = closed_none (kept_at (request_key f) books.reversals) (kept_at (request_key f) books.presentments) open_request.closed in
        let after = with_entry (held_entry new) es in
        (after, record { agrees = request_agrees books new (ledger_of es) (ledger_of after) approved none absent.0 absent.1 ledger.agrees (keeps (held_entry new) es); apart = stay_apart (held_entry new) es ledger.apart })

presentment_step : (keys : HostKeys) (accounts : List AccountData) (books : Books) (message : List ℕ) (f : PresentData) (es : List Entry) → IsLedger books es → kept_at (present_key f) books.presentments ≡ None
    → (after : List Entry) × IsLedger (with_presentment books (new_present keys accounts books message f)) after
presentment_step keys accounts books message f es ledger none = by (is_approved new.code) refl
  where
    new : KeptCall
    new = new_present keys accounts books message f

    by : (b : Bool) → is_approved new.code ≡ b → (after : List Entry) × IsLedger (with_presentment books new) after
    by false declined = (es, record { agrees = presentment_declined books new es declined ledger.agrees; apart = ledger.apart })
    by true approved =
        let open_presentment = present_open keys (account_with_pan f.named.pan accounts) books f approved in
        let after = with_entry (booked_entry new) es in
        (after, record { agrees = presentment_agrees books new (ledger_of es) (ledger_of after) approved none open_presentment.unreleased ledger.agrees (keeps (booked_entry new) es); apart = stay_apart (booked_entry new) es ledger.apart })

reversal_step : (accounts : List AccountData) (books : Books) (message : List ℕ) (f : ReversalFields) (es : List Entry) → IsLedger books es → kept_at (reversal_key f) books.reversals ≡ None
    → (after : List Entry) × IsLedger (with_reversal books (new_reversal accounts books message f)) after
reversal_step accounts books message f es ledger none = by (is_approved new.code) refl
  where
    new : KeptCall
    new = new_reversal accounts books message f

    by : (b : Bool) → is_approved new.code ≡ b → (after : List Entry) × IsLedger (with_reversal books new) after
    by false declined = (es, record { agrees = reversal_declined books new es declined ledger.agrees; apart = ledger.apart })
    by true approved =
        let open_reversal = reversal_open (account_with_pan f.pan accounts) books f approved in
        let after = with_entry (released_entry new) es in
        (after, record { agrees = reversal_agrees books new (ledger_of es) (ledger_of after) approved none open_reversal.unbooked ledger.agrees (keeps (released_entry new) es); apart = stay_apart (released_entry new) es ledger.apart })

message_step : (keys : HostKeys) (accounts : List AccountData) (books : Books) (message : List ℕ) (reading : Result Incoming MessageFault) (es : List Entry) → IsLedger books es
    → (after : List Entry) × IsLedger (kept_in keys accounts books message reading) after
message_step keys accounts books message (Err fault) es ledger = (es, ledger)
message_step keys accounts books message (Ok (Request f)) es ledger = by (kept_at (request_key f) books.requests) refl
  where
    by : (r : Option KeptCall) → kept_at (request_key f) books.requests ≡ r → (after : List Entry) × IsLedger (record books { requests = with_first r (new_request keys accounts books message f) books.requests }) after
    by None none = request_step keys accounts books message f es ledger none
    by (Some kept) is = (es, ledger)
message_step keys accounts books message (Ok (Present f)) es ledger = by (kept_at (present_key f) books.presentments) refl
  where
    by : (r : Option KeptCall) → kept_at (present_key f) books.presentments ≡ r → (after : List Entry) × IsLedger (record books { presentments = with_first r (new_present keys accounts books message f) books.presentments }) after
    by None none = presentment_step keys accounts books message f es ledger none
    by (Some kept) is = (es, ledger)
message_step keys accounts books message (Ok (Reverse f)) es ledger = by (kept_at (reversal_key f) books.reversals) refl
  where
    by : (r : Option KeptCall) → kept_at (reversal_key f) books.reversals ≡ r → (after : List Entry) × IsLedger (record books { reversals = with_first r (new_reversal accounts books message f) books.reversals }) after
    by None none = reversal_step accounts books message f es ledger none
    by (Some kept) is = (es, ledger)

messages_step : (keys : HostKeys) (accounts : List AccountData) (books : Books) (messages : List (List ℕ)) (es : List Entry) → IsLedger books es → (after : List Entry) × IsLedger (books_from keys accounts books messages) after
unfolding books_with
messages_step keys accounts books [] es ledger = (es, ledger)
messages_step keys accounts books (message ∷ messages) es ledger =
    let next = message_step keys accounts books message (message_of message) es ledger in
    messages_step keys accounts (books_with keys accounts books message) messages next.0 next.1

no_entries : IsLedger no_books []
no_entries = record { agrees = record { each = λ key. record { state = refl; amount = refl }; sums = λ pan. refl; once = tt }; apart = tt }

pub add_up : BalancesAddUp
add_up keys accounts messages =
    let ledger = messages_step keys accounts no_books messages [] no_entries in
    let agrees = ledger.1.agrees in (
      ledger.0,
      record {
        apart = ledger.1.apart;
        amounts = λ key. (agrees.each key).amount;
        balances = λ pan. ap (λ n. option_map (λ (account : AccountData). pos account.balance -ℤ pos n) (account_with_pan pan accounts)) (sym (agrees.sums pan));
      },
    )
