-- The step of one new message.
use Rattle.std.proofs.Common.{◌≡◌, ℕ, Bool, true, List, Option, Some, None, Result, Ok, Err, Bor, refl, sym, ap, subst, ◌∙◌}
use Rattle.std.specs.Prelude.{option_map, OnOk, OnErr}
use Rattle.std.specs.Option.{is_some}
use Rattle.auth_message.specs.Data.{RequestData}
use Rattle.host_ledger.specs.declared.key.Key.{Key}
use Rattle.issuer_host.specs.declared.keeping.KeptMessage.{KeptMessage}
use Rattle.issuer_host.specs.declared.keys.HostKeys.{HostKeys}
use Rattle.issuer_host.specs.Account.{AccountData}
use Rattle.issuer_host.specs.Books.{KeptCall, Books}
use Rattle.issuer_host.specs.Holds.{Holds}
use Rattle.issuer_host.specs.Keeping.{kept_message}
use Rattle.issuer_host.specs.Records.{RecordsData}
use Rattle.issuer_host.specs.Reply.{ReplySaid, kept_with, said_bytes, request_reply}

pub got_some : (key : Key) (r : Option (Bor KeptMessage)) (b : Bor KeptMessage) (found : Option KeptCall) → option_map (λ k. kept_message key k.now) r ≡ found → r ≡ Some b → found ≡ Some (kept_message key b.now)
got_some key r b found is some = sym is ∙ ap (option_map (λ k. kept_message key k.now)) some

pub got_none : (key : Key) (r : Option (Bor KeptMessage)) (found : Option KeptCall) → option_map (λ k. kept_message key k.now) r ≡ found → r ≡ None → found ≡ None
got_none key r found is none = sym is ∙ ap (option_map (λ k. kept_message key k.now)) none

-- what was kept is what was said
pub kept_made : (key own : Key) (kept : KeptMessage) (amount : ℕ) (message : List ℕ) (said : ReplySaid) → key ≡ own → kept.amount ≡ amount → kept.message.items ≡ message → kept.code ≡ said.code → kept.online ≡ is_some said.auth → kept.reply ≡ said_bytes said
    → kept_message key kept ≡ kept_with own amount message said
kept_made key own kept amount message said a b c d e f = λ i. record { key = a i; amount = b i; message = c i; code = d i; online = e i; reply = f i }

pub on_ok_map : {T E : Type 0} {P Q : Type 0} → (r : Result T E) → (P → Q) → OnOk r P → OnOk r Q
on_ok_map (Ok x) f p = f p
on_ok_map (Err e) f p = tt

-- the records after a message was kept or not
pub holds_after : {T E : Type 0} → (r : Result T E) (accounts : List AccountData) (old new kept : RecordsData) (served : List Bool) → OnOk r (new ≡ kept) → OnErr r (new ≡ old) → Holds accounts old served → Holds accounts kept served → Holds accounts new served
holds_after (Ok x) accounts old new kept served ok err before after = subst (λ n. Holds accounts n served) (sym ok) after
holds_after (Err e) accounts old new kept served ok err before after = subst (λ n. Holds accounts n served) (sym err) before

-- a presentment or a reversal more changes nothing of what is known of the accounts
pub holds_others : (accounts : List AccountData) (records : RecordsData) (served : List Bool) (presentments reversals : List KeptCall) → Holds accounts records served
    → Holds accounts (record { accounts = records.accounts; books = record { requests = records.books.requests; presentments = presentments; reversals = reversals } }) served
holds_others accounts records served presentments reversals holds = record { valid = holds.valid; openings = holds.openings; sized = holds.sized; flags = holds.flags }

-- a reply with issuer authentication data is one to an account
pub online_known : (keys : HostKeys) (account : Option AccountData) (books : Books) (f : RequestData) → is_some (request_reply keys account books f).auth ≡ true → (a : AccountData) × (account ≡ Some a)
online_known keys None books f is = cc
online_known keys (Some a) books f is = (a, refl)

pub on_err : {T E : Type 0} {P : Type 0} → (r : Result T E) → P → OnErr r P
on_err (Ok x) p = tt
on_err (Err e) p = p

pub on_err_map : {T E : Type 0} {P Q : Type 0} → (r : Result T E) → (P → Q) → OnErr r P → OnErr r Q
on_err_map (Ok x) f p = tt
on_err_map (Err e) f p = f p
