-- Power lines in words: a card's counters, and what changed since its last power-up.
use Rattle.std.specs.Prelude.{ℕ, ◌+◌, ◌-◌, ◌/◌, ◌%◌, ◌==◌, Bool, true, false, not, ◌||◌, nat_lt, if◌then◌else◌, List, [], ◌∷◌, ◌++◌, length, codes, Option, Some, None, unwrap_or, slice_get}
use Rattle.report_lines.specs.Pieces.{Piece, line, text, number}
use Rattle.message_words.specs.declared.cards.Counters.{Counters}
use Rattle.message_words.specs.declared.phrases.TheConstants.{SECOND_SUM, APPROVALS, TRANSACTION_COUNTER, BLOCKED, FAILED, SINCE_LAST}
use Rattle.object_words.specs.declared.phrases.TheConstants.{OFFLINE_APPROVALS, APPLICATION_BLOCKED, AUTHENTICATION_FAILED}

-- the two flags of an application
abbrev pub is_app_blocked : Counters → Bool
is_app_blocked c = c.flags % 2 == 1

abbrev pub has_failed : Counters → Bool
has_failed c = c.flags / 2 % 2 == 1

abbrev pub told_where : Bool → List ℕ → List Piece
told_where holds characters = (if holds then text characters else [])

-- the sum in the second currency, where there is one
abbrev pub second_words : Option ℕ → List Piece
second_words None = []
second_words (Some second) = (if nat_lt 0 second then text SECOND_SUM.now ++ number second else [])

-- between two changes, and in front of the first
abbrev pub between : Bool → List Piece
between told = (if told then text (codes ", ") else text (codes " "))

-- how far a number went up or down
abbrev pub difference_words : ℕ → ℕ → List Piece
difference_words before now = (if nat_lt before now then text (codes " +") ++ number (now - before) else text (codes " -") ++ number (before - now))

abbrev pub change_words : Bool → List ℕ → ℕ → ℕ → List Piece
change_words told name before now = (if before == now then [] else between told ++ text name ++ difference_words before now)

abbrev pub differ : ℕ → ℕ → Bool
differ before now = not (before == now)

abbrev pub flags_differ : Bool → Bool → Bool
flags_differ true now = not now
flags_differ false now = now

-- what changed of the numbers of an application
unfoldable pub changes_words : Counters → Counters → List Piece
changes_words before now =
    let counter = differ before.counter now.counter in
    let online = counter || differ before.last_online now.last_online in
    let count = online || differ before.count now.count in
    let sum = count || differ before.sum now.sum in
    change_words false (codes "counter") before.counter now.counter
    ++ change_words counter (codes "last online") before.last_online now.last_online
    ++ change_words online APPROVALS.now before.count now.count
    ++ change_words count (codes "sum") before.sum now.sum
    ++ change_words sum (codes "PIN tries") before.tries now.tries

abbrev pub has_changed : Counters → Counters → Bool
has_changed before now =
    differ before.counter now.counter || differ before.last_online now.last_online || differ before.count now.count
    || differ before.sum now.sum || differ before.tries now.tries

abbrev pub has_turned : Counters → Counters → Bool
has_turned before now = flags_differ (is_app_blocked before) (is_app_blocked now) || flags_differ (has_failed before) (has_failed now)

-- the transaction counter and the last online one
unfoldable pub transaction_counters_words : Counters → List Piece
transaction_counters_words c = text TRANSACTION_COUNTER.now ++ number c.counter ++ text (codes ", last online ") ++ number c.last_online

-- the offline approvals, and their sum
unfoldable pub approvals_words : Counters → List Piece
approvals_words c = text OFFLINE_APPROVALS.now ++ number c.count ++ text (codes ", sum ") ++ number c.sum

-- the PIN tries that are left
abbrev pub tries_words : Counters → List Piece
tries_words c = text (codes ", PIN tries ") ++ number c.tries

-- what is not as it should be, and the sum in the second currency
unfoldable pub standing_words : Counters → List Piece
standing_words c =
    told_where (is_app_blocked c) APPLICATION_BLOCKED.now ++ told_where (has_failed c) AUTHENTICATION_FAILED.now ++ second_words c.second

-- the counters of an application
unfoldable pub counters_words : Counters → List Piece
counters_words c = transaction_counters_words c ++ approvals_words c ++ tries_words c ++ standing_words c

-- a flag that is set now, or is so no longer
unfoldable pub turned_words : Bool → List ℕ → Bool → List Piece
turned_words told name before = between told ++ told_where before (codes "no longer ") ++ text name

abbrev pub changed_flag_words : Bool → List ℕ → Bool → Bool → List Piece
changed_flag_words told name before now = (if flags_differ before now then turned_words told name before else [])

-- what changed of the flags of an application
unfoldable pub app_flags_words : Bool → Counters → Counters → List Piece
app_flags_words told before now =
    changed_flag_words told BLOCKED.now (is_app_blocked before) (is_app_blocked now)
    ++ changed_flag_words (told || flags_differ (is_app_blocked before) (is_app_blocked now)) FAILED.now (has_failed before) (has_failed now)

-- the sum in the second currency, 0 where there is none
abbrev pub second_sum_or_zero : Counters → ℕ
second_sum_or_zero c = unwrap_or c.second 0

-- all that changed of an application
unfoldable pub changed_words : Counters → Counters → List Piece
changed_words before now =
    changes_words before now ++ app_flags_words (has_changed before now) before now
    ++ change_words (has_changed before now || has_turned before now) (codes "second sum") (second_sum_or_zero before) (second_sum_or_zero now)

abbrev pub is_changed : Counters → Counters → Bool
is_changed before now = has_changed before now || has_turned before now || differ (second_sum_or_zero before) (second_sum_or_zero now)

-- what changed of an application since the card's last power line
unfoldable pub since_last_words : Counters → Counters → List Piece
since_last_words before now =
    line 2 ++ text SINCE_LAST.now ++ changed_words before now ++ told_where (not (is_changed before now)) (codes " no change")

abbrev pub earlier_words : Option Counters → Counters → List Piece
earlier_words None now = []
earlier_words (Some before) now = since_last_words before now

-- which of several applications
unfoldable pub place_words : Bool → ℕ → List Piece
place_words several place = (if several then text (codes "application ") ++ number (place + 1) ++ text (codes ": ") else [])

-- an application by its place, with what changed of it
unfoldable pub app_words : Bool → List Counters → ℕ → Counters → List Piece
app_words several before place now =
    line 1 ++ place_words several place ++ counters_words now ++ earlier_words (slice_get before place) now

abbrev pub apps_words_from : Bool → List Counters → ℕ → List Counters → List Piece
apps_words_from several before place [] = []
apps_words_from several before place (now ∷ others) = app_words several before place now ++ apps_words_from several before (place + 1) others

-- the counters of the last power line, where it had as many applications
abbrev pub alike : List Counters → List Counters → List Counters
alike before apps = (if length before == length apps then before else [])

-- the applications of a card, with what changed of them since its last power line, where that had as many
unfoldable pub apps_words : List Counters → List Counters → List Piece
apps_words before apps = apps_words_from (nat_lt 1 (length apps)) (alike before apps) 0 apps
