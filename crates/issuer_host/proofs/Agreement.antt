-- The ledger agrees with the kept messages after one more is kept.
use Rattle.std.proofs.Common.{◌≡◌, ℕ, ◌+◌, Bool, true, false, cond, not, ◌&&◌, ◌||◌, List, [], ◌∷◌, ◌++◌, Option, Some, None, refl, sym, ap, subst, ◌∙◌, arith}
use Rattle.std.specs.Prelude.{◌≢◌, option_map}
use Rattle.std.specs.Option.{is_some}
use Rattle.std.specs.Str.{bytes_eq}
use Rattle.std.proofs.lemmas.Bool.{false_from_ne_true}
use Rattle.host_ledger.specs.Accounts.{LedgerData, KeepsEntry}
use Rattle.host_ledger.specs.Entries.{entry_at, taken_at, taken_from}
use Rattle.host_ledger.specs.Key.{same_key}
use Rattle.host_ledger.specs.declared.entry.Entry.{Entry}
use Rattle.host_ledger.specs.declared.entry.EntryState.TheVariants.{Held, Booked, Released}
use Rattle.host_ledger.specs.declared.key.Key.{Key}
use Rattle.host_ledger.proofs.Keys.{same, own_key, same_pan, own_pan}
use Rattle.issuer_host.specs.Balance.{is_booked, is_released, booked_amount, held_amount, taken_in_all}
use Rattle.issuer_host.specs.Books.{KeptCall, Books, kept_at, was_approved}
use Rattle.issuer_host.specs.Code.{is_approved}
use Rattle.issuer_host.specs.Records.{is_only_requested, state_of, amount_or_zero, amount_of, AreOnce, EntryIs, LedgerAgrees}
use Rattle.issuer_host.proofs.Totals.{total, total_is, total_last, total_same, total_split, total_own, total_foreign, weight, own, of_found, last_or_found, kept_last, kept_other, kept_own, other_way, once_last, found_key}

-- what is taken, by sums that go down the lists
taken_is : (pan : List ℕ) (books : Books) → taken_in_all pan books ≡ total booked_amount pan books.presentments + total (held_amount books) pan books.requests
taken_is pan books = omega (arith, total_is booked_amount pan books.presentments, total_is (held_amount books) pan books.requests)

-- a message was kept for which the ledger has this entry
record Moves (books after : Books) (entry : Entry) : Type 0 where
  own_entry : EntryIs after entry.key (Some entry)
  others : (key : Key) → same_key key entry.key ≡ false → (state_of after key ≡ state_of books key) × (amount_of after key ≡ amount_of books key)
  own_sum : taken_in_all entry.key.pan after + amount_of books entry.key ≡ taken_in_all entry.key.pan books + amount_of after entry.key
  other_sums : (pan : List ℕ) → pan ≢ entry.key.pan → taken_in_all pan after ≡ taken_in_all pan books
  once : AreOnce after.requests

moves_agree : (books after : Books) (entry : Entry) (old new : LedgerData) → LedgerAgrees books old.entries → Moves books after entry → KeepsEntry entry old new → LedgerAgrees after new.entries
moves_agree books after entry old new agrees moves keeps = record { each = each; sums = sums; once = moves.once }
  where
    each : (key : Key) → EntryIs after key (entry_at key new.entries)
    each key = by (same_key key entry.key) refl
      where
        by : (b : Bool) → same_key key entry.key ≡ b → EntryIs after key (entry_at key new.entries)
        by true is =
            let one : key ≡ entry.key = same key entry.key is in
            subst (λ k. EntryIs after k (entry_at k new.entries)) (sym one) (subst (EntryIs after entry.key) (sym keeps.found) moves.own_entry)
        by false is =
            let differ : key ≢ entry.key = λ e. let yes : same_key key entry.key ≡ true = ap (same_key key) (sym e) ∙ own_key key in absurd cc in
            let before = agrees.each key in
            let entries = keeps.others key differ in
            let same_state = moves.others key is in
            record { state = ap (option_map (λ (e : Entry). e.state)) entries ∙ before.state ∙ sym same_state.0; amount = ap taken_at entries ∙ before.amount ∙ sym same_state.1 }

    sums : (pan : List ℕ) → taken_from pan new.entries ≡ taken_in_all pan after
    sums pan = by (bytes_eq pan entry.key.pan) refl
      where
        by : (b : Bool) → bytes_eq pan entry.key.pan ≡ b → taken_from pan new.entries ≡ taken_in_all pan after
        by true is =
            let one : pan ≡ entry.key.pan = same_pan pan entry.key.pan is in
            let before = agrees.sums entry.key.pan in
            let old_amount = (agrees.each entry.key).amount in
            let new_amount = moves.own_entry.amount in
            let ledger = keeps.own_sum in
            let host = moves.own_sum in
            subst (λ p. taken_from p new.entries ≡ taken_in_all p after) (sym one) (omega arith)
        by false is =
            let differ : pan ≢ entry.key.pan = λ e. let yes : bytes_eq pan entry.key.pan ≡ true = ap (bytes_eq pan) (sym e) ∙ own_pan pan in absurd cc in
            keeps.other_sums pan differ ∙ agrees.sums pan ∙ sym (moves.other_sums pan differ)

other_weight : (f : KeptCall → ℕ) (pan : List ℕ) (new : KeptCall) → pan ≢ new.key.pan → weight f pan new ≡ 0
other_weight f pan new differ = rw (false_from_ne_true (bytes_eq pan new.key.pan) (λ h. differ (same_pan pan new.key.pan h))) refl

own_weight : (f : KeptCall → ℕ) (new : KeptCall) → weight f new.key.pan new ≡ f new
own_weight f new = rw (own_pan new.key.pan) refl

-- a transaction whose presentment and reversal were not kept
untouched : (books : Books) (key : Key) → kept_at key books.presentments ≡ None → kept_at key books.reversals ≡ None → (is_booked books key ≡ false) × (is_released books key ≡ false)
untouched books key none absent = (ap was_approved none, ap was_approved absent)

-- an approved request
abbrev pub with_request : Books → KeptCall → Books
with_request books new = record { requests = books.requests ++ new ∷ []; presentments = books.presentments; reversals = books.reversals }

abbrev pub held_entry : KeptCall → Entry
held_entry new = record { key = new.key; amount = new.amount; state = Held }

request_moves : (books : Books) (new : KeptCall) → is_approved new.code ≡ true → kept_at new.key books.requests ≡ None → kept_at new.key books.presentments ≡ None → kept_at new.key books.reversals ≡ None
    → AreOnce books.requests → Moves books (with_request books new) (held_entry new)
request_moves books new approved none p r once =
    let states = untouched books new.key p r in
    let found = kept_own books.requests new none in
    let held : held_amount books new ≡ new.amount = rw (approved, states.0, states.1) refl in
    record {
      own_entry = record { state = rw (states.0, states.1, found, approved) refl; amount = rw (states.0, states.1, found, approved) refl };
      others = λ key is. let stays = kept_other key books.requests new is in (rw stays refl, rw stays refl);
      own_sum =
          let zero_before : amount_of books new.key ≡ 0 = rw (states.0, states.1, none) refl in
          let after : amount_of (with_request books new) new.key ≡ new.amount = rw (states.0, states.1, found, approved) refl in
          omega (arith, taken_is new.key.pan books, taken_is new.key.pan (with_request books new), total_last (held_amount books) new.key.pan books.requests new, own_weight (held_amount books) new);
      other_sums = λ pan differ. omega (arith, taken_is pan books, taken_is pan (with_request books new), total_last (held_amount books) pan books.requests new, other_weight (held_amount books) pan new differ);
      once = once_last books.requests new none once;
    }

pub request_agrees : (books : Books) (new : KeptCall) (old left : LedgerData) → is_approved new.code ≡ true → kept_at new.key books.requests ≡ None → kept_at new.key books.presentments ≡ None → kept_at new.key books.reversals ≡ None
    → LedgerAgrees books old.entries → KeepsEntry (held_entry new) old left → LedgerAgrees (with_request books new) left.entries
request_agrees books new old left approved none p r agrees keeps =
    moves_agree books (with_request books new) (held_entry new) old left agrees (request_moves books new approved none p r agrees.once) keeps

-- where the ledger's entries stay
same_agree : (books after : Books) (entries : List Entry) → LedgerAgrees books entries → ((key : Key) → (state_of after key ≡ state_of books key) × (amount_of after key ≡ amount_of books key))
    → ((pan : List ℕ) → taken_in_all pan after ≡ taken_in_all pan books) → AreOnce after.requests → LedgerAgrees after entries
same_agree books after entries agrees states sums once = record {
  each = λ key. let before = agrees.each key in let same_state = states key in record { state = before.state ∙ sym same_state.0; amount = before.amount ∙ sym same_state.1 };
  sums = λ pan. agrees.sums pan ∙ sym (sums pan);
  once = once;
}

-- a declined message changes no decision
declined_found : (key : Key) (new : KeptCall) (r : Option KeptCall) → is_approved new.code ≡ false → (was_approved (last_or_found key new r) ≡ was_approved r) × (amount_or_zero (last_or_found key new r) ≡ amount_or_zero r)
declined_found key new None declined = elim (same_key key new.key) as (λ b. (was_approved (cond b (Some new) None) ≡ false) × (amount_or_zero (cond b (Some new) None) ≡ 0)) [ true ↦ (declined, rw declined refl) | false ↦ (refl, refl) ]
declined_found key new (Some kept) declined = (refl, refl)

declined_last : (key : Key) (messages : List KeptCall) (new : KeptCall) → is_approved new.code ≡ false
    → (was_approved (kept_at key (messages ++ new ∷ [])) ≡ was_approved (kept_at key messages)) × (amount_or_zero (kept_at key (messages ++ new ∷ [])) ≡ amount_or_zero (kept_at key messages))
declined_last key messages new declined =
    let both = declined_found key new (kept_at key messages) declined in
    (ap was_approved (kept_last key messages new) ∙ both.0, ap amount_or_zero (kept_last key messages new) ∙ both.1)

no_weight : (f : KeptCall → ℕ) (pan : List ℕ) (new : KeptCall) → f new ≡ 0 → weight f pan new ≡ 0
no_weight f pan new none = elim (bytes_eq pan new.key.pan) as (λ b. cond b (f new) 0 ≡ 0) [ true ↦ none | false ↦ refl ]

pub request_declined : (books : Books) (new : KeptCall) (entries : List Entry) → is_approved new.code ≡ false → kept_at new.key books.requests ≡ None → LedgerAgrees books entries → LedgerAgrees (with_request books new) entries
request_declined books new entries declined none agrees =
    same_agree books (with_request books new) entries agrees
    (λ key. let last = declined_last key books.requests new declined in (rw (last.0) refl, rw (last.1) refl))
    (λ pan. let nothing : held_amount books new ≡ 0 = rw declined refl in
    omega (arith, taken_is pan books, taken_is pan (with_request books new), total_last (held_amount books) pan books.requests new, no_weight (held_amount books) pan new nothing))
    (once_last books.requests new none agrees.once)

-- an approved presentment
abbrev pub with_presentment : Books → KeptCall → Books
with_presentment books new = record { requests = books.requests; presentments = books.presentments ++ new ∷ []; reversals = books.reversals }

abbrev pub booked_entry : KeptCall → Entry
booked_entry new = record { key = new.key; amount = new.amount; state = Booked }

-- what is held for a transaction that is neither booked nor released
held_found : (books : Books) (key : Key) → is_booked books key ≡ false → is_released books key ≡ false → of_found (held_amount books) (kept_at key books.requests) ≡ amount_or_zero (kept_at key books.requests)
held_found books key b r = by (kept_at key books.requests) refl
  where
    by : (found : Option KeptCall) → kept_at key books.requests ≡ found → of_found (held_amount books) found ≡ amount_or_zero found
    by None is = refl
    by (Some kept) is =
        let one = found_key key books.requests kept is in
        let booked : is_booked books kept.key ≡ false = ap (is_booked books) one ∙ b in
        let released : is_released books kept.key ≡ false = ap (is_released books) one ∙ r in
        elim (is_approved kept.code) as (λ c. cond (c && not (is_booked books kept.key || is_released books kept.key)) kept.amount 0 ≡ cond c kept.amount 0) [ true ↦ rw (booked, released) refl | false ↦ refl ]

-- the amounts of the requests, where the transaction of a new message is no longer held
split_by : (books after : Books) (key : Key) → ((k : Key) → same_key k key ≡ false → (is_booked after k ≡ is_booked books k) × (is_released after k ≡ is_released books k)) → (is_booked after key || is_released after key) ≡ true
    → (kept : KeptCall) → held_amount books kept ≡ held_amount after kept + own (held_amount books) key kept
split_by books after key others done kept = by (same_key key kept.key) refl
  where
    by : (b : Bool) → same_key key kept.key ≡ b → held_amount books kept ≡ held_amount after kept + cond b (held_amount books kept) 0
    by true is =
        let one : key ≡ kept.key = same key kept.key is in
        let closed : (is_booked after kept.key || is_released after kept.key) ≡ true = ap (λ k. is_booked after k || is_released after k) (sym one) ∙ done in
        let none : held_amount after kept ≡ 0 = rw closed (elim (is_approved kept.code) as (λ c. cond (c && false) kept.amount 0 ≡ 0) [ true ↦ refl | false ↦ refl ]) in
        omega arith
    by false is =
        let same_states = others kept.key (other_way key kept.key is) in
        let again : held_amount after kept ≡ held_amount books kept = rw (same_states.0, same_states.1) refl in
        omega arith

or_true : (a b : Bool) → b ≡ true → (a || b) ≡ true
or_true true b is = refl
or_true false b is = is

presentment_moves : (books : Books) (new : KeptCall) → is_approved new.code ≡ true → kept_at new.key books.presentments ≡ None → is_released books new.key ≡ false → AreOnce books.requests
    → Moves books (with_presentment books new) (booked_entry new)
presentment_moves books new approved none unreleased once =
    let after = with_presentment books new in
    let unbooked : is_booked books new.key ≡ false = ap was_approved none in
    let found = kept_own books.presentments new none in
    let booked : is_booked after new.key ≡ true = ap was_approved found ∙ approved in
    let stays : (k : Key) → same_key k new.key ≡ false → (is_booked after k ≡ is_booked books k) × (is_released after k ≡ is_released books k) = λ k is. (ap was_approved (kept_other k books.presentments new is), refl) in
    let closed : (is_booked after new.key || is_released after new.key) ≡ true = rw booked refl in
    let split = λ (pan : List ℕ). total_split (held_amount books) (held_amount after) (own (held_amount books) new.key) pan books.requests (split_by books after new.key stays closed) in
    let amount : booked_amount new ≡ new.amount = rw approved refl in
    record {
      own_entry = record { state = rw (found, approved) refl; amount = rw (found, approved) refl };
      others = λ key is. let other = kept_other key books.presentments new is in (rw other refl, rw other refl);
      own_sum =
          let before : amount_of books new.key ≡ amount_or_zero (kept_at new.key books.requests) = rw (unbooked, unreleased) refl in
          let now : amount_of after new.key ≡ new.amount = rw (found, approved) refl in
          omega (arith, taken_is new.key.pan books, taken_is new.key.pan after, total_last booked_amount new.key.pan books.presentments new, own_weight booked_amount new, split new.key.pan, total_own (held_amount books) new.key books.requests once, held_found books new.key unbooked unreleased);
      other_sums = λ pan differ.
          omega (arith, taken_is pan books, taken_is pan after, total_last booked_amount pan books.presentments new, other_weight booked_amount pan new differ, split pan, total_foreign (held_amount books) new.key pan books.requests differ);
      once = once;
    }

pub presentment_agrees : (books : Books) (new : KeptCall) (old left : LedgerData) → is_approved new.code ≡ true → kept_at new.key books.presentments ≡ None → is_released books new.key ≡ false
    → LedgerAgrees books old.entries → KeepsEntry (booked_entry new) old left → LedgerAgrees (with_presentment books new) left.entries
presentment_agrees books new old left approved none unreleased agrees keeps =
    moves_agree books (with_presentment books new) (booked_entry new) old left agrees (presentment_moves books new approved none unreleased agrees.once) keeps

declined_presentment_states : (books : Books) (new : KeptCall) → is_approved new.code ≡ false → (key : Key) → (is_booked (with_presentment books new) key ≡ is_booked books key) × (amount_or_zero (kept_at key (books.presentments ++ new ∷ [])) ≡ amount_or_zero (kept_at key books.presentments))
declined_presentment_states books new declined key = declined_last key books.presentments new declined

pub presentment_declined : (books : Books) (new : KeptCall) (entries : List Entry) → is_approved new.code ≡ false → LedgerAgrees books entries → LedgerAgrees (with_presentment books new) entries
presentment_declined books new entries declined agrees =
    let after = with_presentment books new in
    let none : booked_amount new ≡ 0 = rw declined refl in
    same_agree books after entries agrees
    (λ key. let last = declined_last key books.presentments new declined in (rw last.0 refl, rw (last.0, last.1) refl))
    (λ pan. omega (
      arith,
      taken_is pan books,
      taken_is pan after,
      total_last booked_amount pan books.presentments new,
      no_weight booked_amount pan new none,
      total_same (held_amount after) (held_amount books) pan books.requests (λ kept. let last = declined_last kept.key books.presentments new declined in rw last.0 refl),
    ))
    agrees.once

-- an approved reversal
abbrev pub with_reversal : Books → KeptCall → Books
with_reversal books new = record { requests = books.requests; presentments = books.presentments; reversals = books.reversals ++ new ∷ [] }

abbrev pub released_entry : KeptCall → Entry
released_entry new = record { key = new.key; amount = new.amount; state = Released }

reversal_moves : (books : Books) (new : KeptCall) → is_approved new.code ≡ true → kept_at new.key books.reversals ≡ None → is_booked books new.key ≡ false → AreOnce books.requests
    → Moves books (with_reversal books new) (released_entry new)
reversal_moves books new approved none unbooked once =
    let after = with_reversal books new in
    let unreleased : is_released books new.key ≡ false = ap was_approved none in
    let found = kept_own books.reversals new none in
    let released : is_released after new.key ≡ true = ap was_approved found ∙ approved in
    let stays : (k : Key) → same_key k new.key ≡ false → (is_booked after k ≡ is_booked books k) × (is_released after k ≡ is_released books k) = λ k is. (refl, ap was_approved (kept_other k books.reversals new is)) in
    let closed : (is_booked after new.key || is_released after new.key) ≡ true = or_true (is_booked after new.key) (is_released after new.key) released in
    let split = λ (pan : List ℕ). total_split (held_amount books) (held_amount after) (own (held_amount books) new.key) pan books.requests (split_by books after new.key stays closed) in
    record {
      own_entry = record { state = rw (unbooked, found, approved) refl; amount = rw (unbooked, found, approved) refl };
      others = λ key is. let other = kept_other key books.reversals new is in (rw other refl, rw other refl);
      own_sum =
          let before : amount_of books new.key ≡ amount_or_zero (kept_at new.key books.requests) = rw (unbooked, unreleased) refl in
          let now : amount_of after new.key ≡ 0 = rw (unbooked, found, approved) refl in
          omega (arith, taken_is new.key.pan books, taken_is new.key.pan after, split new.key.pan, total_own (held_amount books) new.key books.requests once, held_found books new.key unbooked unreleased);
      other_sums = λ pan differ.
          omega (arith, taken_is pan books, taken_is pan after, split pan, total_foreign (held_amount books) new.key pan books.requests differ);
      once = once;
    }

pub reversal_agrees : (books : Books) (new : KeptCall) (old left : LedgerData) → is_approved new.code ≡ true → kept_at new.key books.reversals ≡ None → is_booked books new.key ≡ false
    → LedgerAgrees books old.entries → KeepsEntry (released_entry new) old left → LedgerAgrees (with_reversal books new) left.entries
reversal_agrees books new old left approved none unbooked agrees keeps =
    moves_agree books (with_reversal books new) (released_entry new) old left agrees (reversal_moves books new approved none unbooked agrees.once) keeps

pub reversal_declined : (books : Books) (new : KeptCall) (entries : List Entry) → is_approved new.code ≡ false → LedgerAgrees books entries → LedgerAgrees (with_reversal books new) entries
reversal_declined books new entries declined agrees =
    let after = with_reversal books new in
    same_agree books after entries agrees
    (λ key. let last = declined_last key books.reversals new declined in (rw last.0 refl, rw last.0 refl))
    (λ pan. omega (
      arith,
      taken_is pan books,
      taken_is pan after,
      total_same (held_amount after) (held_amount books) pan books.requests (λ kept. let last = declined_last kept.key books.reversals new declined in rw last.0 refl),
    ))
    agrees.once

both_true : (a b : Bool) → (a && b) ≡ true → (a ≡ true) × (b ≡ true)
both_true true b is = (refl, is)
both_true false b is = cc

none_found : (p r : Option KeptCall) → not (is_some p || is_some r) ≡ true → (p ≡ None) × (r ≡ None)
none_found None None is = (refl, refl)
none_found None (Some kept) is = cc
none_found (Some kept) r is = cc

-- no presentment and no reversal stands beside a request that can be held
pub open_untouched : (books : Books) (key : Key) (covered : Bool) → (is_only_requested books key && covered) ≡ true → (kept_at key books.presentments ≡ None) × (kept_at key books.reversals ≡ None)
open_untouched books key covered is = none_found (kept_at key books.presentments) (kept_at key books.reversals) (both_true (is_only_requested books key) covered is).0
