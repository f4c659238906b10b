-- What holds of each reply that a host makes holds of every reply that it gives: those that it kept are given
-- again. So every reply is written as a reply is.
use Rattle.std.proofs.Common.{◌≡◌, ℕ, Bool, true, false, if◌then◌else◌, IfSome, List, [], ◌∷◌, Option, Some, None, Result, Ok, Err, refl, subst, arith}
use Rattle.std.specs.List.{All}
use Rattle.std.specs.Str.{bytes_eq}
use Rattle.std.proofs.lemmas.List.Elements.{All-nil, All-head, All-tail, All-push}
use Rattle.auth_message.specs.Data.{RequestData, PresentData}
use Rattle.auth_message.specs.Message.{message_of}
use Rattle.auth_message.specs.Whole.{AreSpelledScripts, IsReply}
use Rattle.auth_message.specs.declared.fault.MessageFault.{MessageFault}
use Rattle.auth_message.specs.declared.message.Incoming.{Incoming}
use Rattle.auth_message.specs.declared.message.Incoming.TheVariants.{Request, Present, Reverse}
use Rattle.auth_message.specs.declared.reversal.ReversalFields.{ReversalFields}
use Rattle.auth_message.proofs.ReplyAgain.{reply_written}
use Rattle.auth_message.proofs.Templates.{none_spelled}
use Rattle.host_ledger.specs.Key.{same_key}
use Rattle.host_ledger.specs.declared.key.Key.{Key}
use Rattle.issuer_host.specs.Account.{AccountData, IsAccount}
use Rattle.issuer_host.specs.Balance.{account_with_pan}
use Rattle.issuer_host.specs.Books.{KeptCall, Books, no_books, kept_at}
use Rattle.issuer_host.specs.Code.{code_bytes}
use Rattle.issuer_host.specs.History.{with_first, kept_in, books_with, books_from, host_reply}
use Rattle.issuer_host.specs.Reply.{request_key, present_key, reversal_key, session_of, request_is_genuine, request_code, present_code, reversal_code, code_alone, said_bytes, is_served, script_keys, scripts_for, keyed_response, online_reply, request_reply, present_reply, reversal_reply, new_request, new_present, new_reversal, again_or, reply_to_message, reply_to}
use Rattle.issuer_host.specs.Scripts.{all_script_bytes}
use Rattle.issuer_host.specs.declared.code.Code.{Code}
use Rattle.issuer_host.specs.declared.code.Code.TheVariants.{Declined, UnknownAccount}
use Rattle.issuer_host.specs.declared.keys.HostKeys.{HostKeys}
use Rattle.issuer_host.proofs.MadeScripts.{made_spelled}
use Rattle.issuer_host.proofs.MadeSizes.{scripts_size}
use Rattle.issuer_host.proofs.Responses.{two_bytes, response_least, response_most}

-- the replies that a host makes have a property
pub record Made (P : List ℕ → Type 0) (keys : HostKeys) (accounts : List AccountData) : Type 0 where
  pub plain : (code : Code) → P (said_bytes (code_alone code))
  pub online : (pan : List ℕ) (account : AccountData) → account_with_pan pan accounts ≡ Some account → (books : Books) (f : RequestData) (code : Code) → P (said_bytes (online_reply keys account books f code))

abbrev KeptHas : (List ℕ → Type 0) → KeptCall → Type 0
KeptHas P kept = P kept.reply

-- so do those that it kept
record BooksHave (P : List ℕ → Type 0) (books : Books) : Type 0 where
  requests : All (KeptHas P) books.requests
  presentments : All (KeptHas P) books.presentments
  reversals : All (KeptHas P) books.reversals

none_has : (P : List ℕ → Type 0) → BooksHave P no_books
none_has P = record { requests = All-nil (KeptHas P); presentments = All-nil (KeptHas P); reversals = All-nil (KeptHas P) }

module _ (P : List ℕ → Type 0) (keys : HostKeys) (accounts : List AccountData) (made : Made P keys accounts) where
  request_has : (books : Books) (f : RequestData) → P (said_bytes (request_reply keys (account_with_pan f.named.pan accounts) books f))
  request_has books f = by (account_with_pan f.named.pan accounts) refl
    where
      genuine_or : (account : AccountData) → account_with_pan f.named.pan accounts ≡ Some account → (genuine : Bool) → P (said_bytes (if genuine then online_reply keys account books f (request_code keys account books f) else code_alone Declined))
      genuine_or account known true = made.online f.named.pan account known books f (request_code keys account books f)
      genuine_or account known false = made.plain Declined

      by : (account : Option AccountData) → account_with_pan f.named.pan accounts ≡ account → P (said_bytes (request_reply keys account books f))
      by None known = made.plain UnknownAccount
      by (Some account) known = genuine_or account known (request_is_genuine keys f)

  present_has : (account : Option AccountData) (books : Books) (f : PresentData) → P (said_bytes (present_reply keys account books f))
  present_has None books f = made.plain UnknownAccount
  present_has (Some account) books f = made.plain (present_code keys account books f)

  reversal_has : (account : Option AccountData) (books : Books) (f : ReversalFields) → P (said_bytes (reversal_reply account books f))
  reversal_has None books f = made.plain UnknownAccount
  reversal_has (Some account) books f = made.plain (reversal_code books f)

  found_has : (key : Key) (messages : List KeptCall) → All (KeptHas P) messages → IfSome (kept_at key messages) (KeptHas P)
  found_has key [] all = tt
  found_has key (kept ∷ others) all = by (found_has key others (All-tail (KeptHas P) kept others all)) (same_key key kept.key)
    where
      by : IfSome (kept_at key others) (KeptHas P) → (same : Bool) → IfSome (if same then Some kept else kept_at key others) (KeptHas P)
      by later true = All-head (KeptHas P) kept others all
      by later false = later

  again_has : (kept : Option KeptCall) (message reply : List ℕ) → IfSome kept (KeptHas P) → P reply → P (again_or kept message reply)
  again_has None message reply found new = new
  again_has (Some kept) message reply found new = by (bytes_eq kept.message message)
    where
      by : (same : Bool) → P (if same then kept.reply else said_bytes (code_alone Declined))
      by true = found
      by false = made.plain Declined

  first_has : (kept : Option KeptCall) (new : KeptCall) (messages : List KeptCall) → All (KeptHas P) messages → KeptHas P new → All (KeptHas P) (with_first kept new messages)
  first_has None new messages all has = All-push (KeptHas P) messages new all has
  first_has (Some kept) new messages all has = all

  reply_has : (books : Books) (message : List ℕ) (read : Result Incoming MessageFault) → BooksHave P books → P (reply_to_message keys accounts books message read)
  reply_has books message (Err fault) all = made.plain Declined
  reply_has books message (Ok (Request f)) all =
      again_has (kept_at (request_key f) books.requests) message (new_request keys accounts books message f).reply (found_has (request_key f) books.requests all.requests)
      (request_has books f)
  reply_has books message (Ok (Present f)) all =
      again_has (kept_at (present_key f) books.presentments) message (new_present keys accounts books message f).reply (found_has (present_key f) books.presentments all.presentments)
      (present_has (account_with_pan f.named.pan accounts) books f)
  reply_has books message (Ok (Reverse f)) all =
      again_has (kept_at (reversal_key f) books.reversals) message (new_reversal accounts books message f).reply (found_has (reversal_key f) books.reversals all.reversals)
      (reversal_has (account_with_pan f.pan accounts) books f)

  kept_has : (books : Books) (message : List ℕ) (read : Result Incoming MessageFault) → BooksHave P books → BooksHave P (kept_in keys accounts books message read)
  kept_has books message (Err fault) all = all
  kept_has books message (Ok (Request f)) all = record {
    requests = first_has (kept_at (request_key f) books.requests) (new_request keys accounts books message f) books.requests all.requests (request_has books f);
    presentments = all.presentments;
    reversals = all.reversals;
  }
  kept_has books message (Ok (Present f)) all = record {
    requests = all.requests;
    presentments = first_has (kept_at (present_key f) books.presentments) (new_present keys accounts books message f) books.presentments all.presentments (present_has (account_with_pan f.named.pan accounts) books f);
    reversals = all.reversals;
  }
  kept_has books message (Ok (Reverse f)) all = record {
    requests = all.requests;
    presentments = all.presentments;
    reversals = first_has (kept_at (reversal_key f) books.reversals) (new_reversal accounts books message f) books.reversals all.reversals (reversal_has (account_with_pan f.pan accounts) books f);
  }

  books_have : (books : Books) (messages : List (List ℕ)) → BooksHave P books → BooksHave P (books_from keys accounts books messages)
  unfolding books_with
  books_have books [] all = all
  books_have books (message ∷ messages) all = books_have (books_with keys accounts books message) messages (kept_has books message (message_of message) all)

-- each reply of a host
pub every_reply : (P : List ℕ → Type 0) (keys : HostKeys) (accounts : List AccountData) → Made P keys accounts → (messages : List (List ℕ)) (message : List ℕ) → P (host_reply keys accounts messages message)
unfolding reply_to
every_reply P keys accounts made messages message =
    reply_has P keys accounts made (books_from keys accounts no_books messages) message (message_of message) (books_have P keys accounts made no_books messages (none_has P))

-- a reply with the code alone
pub plain_written : (code : Code) → IsReply (said_bytes (code_alone code))
plain_written code = reply_written (code_bytes code) None [] (two_bytes code) tt none_spelled

known_account : (pan : List ℕ) (accounts : List AccountData) (account : AccountData) → All IsAccount accounts → account_with_pan pan accounts ≡ Some account → IsAccount account
known_account pan [] account all known = cc
known_account pan (first ∷ others) account all known = by (λ known. known_account pan others account (All-tail IsAccount first others all) known) (bytes_eq pan first.pan) known
  where
    by : (account_with_pan pan others ≡ Some account → IsAccount account) → (same : Bool) → (let found : Option AccountData = (if same then Some first else account_with_pan pan others) in found) ≡ Some account → IsAccount account
    by later true known = let same : first ≡ account = cc in subst IsAccount same (All-head IsAccount first others all)
    by later false known = later known

scripts_spelled : (keys : HostKeys) (account : AccountData) (books : Books) (f : RequestData) → IsAccount account → AreSpelledScripts (scripts_for keys account books f)
scripts_spelled keys account books f is = by (is_served account.pan books)
  where
    by : (served : Bool) → AreSpelledScripts (if served then [] else all_script_bytes (script_keys keys f) account.scripts)
    by true = none_spelled
    by false = made_spelled (script_keys keys f) account.scripts is.few_scripts (omega (arith, scripts_size (script_keys keys f) account.scripts is.whole_scripts, is.short_scripts))

-- each is written as a reply is
pub replies_written : (keys : HostKeys) (accounts : List AccountData) (messages : List (List ℕ)) (message : List ℕ) → All IsAccount accounts → IsReply (host_reply keys accounts messages message)
replies_written keys accounts messages message all = every_reply IsReply keys accounts made messages message
  where
    made : Made IsReply keys accounts
    made = record {
      plain = plain_written;
      online = λ pan account known books f code.
          let session = session_of keys.ac (request_key f) in
          let least = response_least account.arpc account.status session f.paid.t9f26 code in
          let most = response_most account.arpc account.status session f.paid.t9f26 code in
          reply_written (code_bytes code) (Some (keyed_response keys account f code)) (scripts_for keys account books f) (two_bytes code) (least, most)
          (scripts_spelled keys account books f (known_account pan accounts account all known));
    }
