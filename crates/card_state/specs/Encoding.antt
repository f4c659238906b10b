-- The bytes of a card's state, all numbers big-endian, in both versions: version 1 knows no second currency and no
-- transaction log.
use Rattle.std.specs.Prelude.{ℕ, ◌≡◌, ◌+◌, ◌^◌, ◌<◌, ◌≤◌, if◌then◌else◌, List, [], ◌∷◌, ◌++◌, length, flat_map}
use Rattle.std.specs.List.{All}
use Rattle.std.specs.Int.{to_be_bytes, w16, w64}
use Rattle.card_state.specs.declared.state.AppState.{AppState}
use Rattle.card_state.specs.declared.state.CardState.{CardState}
use Rattle.card_state.specs.declared.state.LogRow.{LogRow}

-- value 1 for a blocked application, value 2 for a failed issuer authentication
abbrev pub flags_of : AppState → ℕ
flags_of s = (if s.blocked then 1 else 0) + (if s.auth_failed then 2 else 0)

-- the 32 bytes of an application in version 1: counter 2, last online counter 2, count 1, sum 8, count limit 1,
-- sum limit 8, tries 1, flags 1, PIN 8
unfoldable pub app_bytes_one : AppState → List ℕ
app_bytes_one s =
    to_be_bytes w16 s.counter ++ to_be_bytes w16 s.last_online ++ s.count ∷ [] ++ to_be_bytes w64 s.sum ++ s.count_limit ∷ []
    ++ to_be_bytes w64 s.sum_limit ++ s.tries ∷ [] ++ flags_of s ∷ [] ++ s.pin

-- the 18 bytes behind them in version 2: second sum 8, its limit 8, most rows 1, number of rows 1
unfoldable pub more_bytes : AppState → List ℕ
more_bytes s = to_be_bytes w64 s.sum_two ++ to_be_bytes w64 s.limit_two ++ s.log_max ∷ [] ++ length s.log.items ∷ []

-- the 14 bytes of a row: amount 6, currency 2, date 3, counter 2, kind 1
unfoldable pub row_bytes : LogRow → List ℕ
row_bytes r = r.raw ++ r.currency ++ r.date ++ to_be_bytes w16 r.counter ++ r.kind ∷ []

-- an application in version 2
unfoldable pub app_bytes : AppState → List ℕ
app_bytes s = app_bytes_one s ++ more_bytes s ++ flat_map row_bytes s.log.items

-- the bytes of a state in version 2, in which every card stores its states: 02, the number of applications, 01 for a
-- blocked card, the applications
unfoldable pub encoding : CardState → List ℕ
encoding state = 2 ∷ length state.apps.items ∷ (if state.blocked then 1 else 0) ∷ flat_map app_bytes state.apps.items

-- in version 1, in which older cards were personalised
unfoldable pub encoding_one : CardState → List ℕ
encoding_one state = 1 ∷ length state.apps.items ∷ (if state.blocked then 1 else 0) ∷ flat_map app_bytes_one state.apps.items

-- so many bytes
abbrev pub AreBytesOf : ℕ → List ℕ → Type 0
AreBytesOf n bs = (length bs ≡ n) × All (λ b. b < 2 ^ 8) bs

-- the numbers of a row are in the ranges of their fields
pub record IsLogRow (r : LogRow) : Type 0 where
  pub raw : AreBytesOf 6 r.raw
  pub currency : AreBytesOf 2 r.currency
  pub date : AreBytesOf 3 r.date
  pub counter : r.counter < 2 ^ 16
  pub kind : r.kind < 2 ^ 8

-- the numbers that version 1 has are in the ranges of their fields
pub record IsAppOne (s : AppState) : Type 0 where
  pub counter : s.counter < 2 ^ 16
  pub last_online : s.last_online < 2 ^ 16
  pub count : s.count < 2 ^ 8
  pub sum : s.sum < 2 ^ 64
  pub count_limit : s.count_limit < 2 ^ 8
  pub sum_limit : s.sum_limit < 2 ^ 64
  pub tries : s.tries < 2 ^ 8
  pub pin : AreBytesOf 8 s.pin

-- and those that version 2 adds
pub record IsMore (s : AppState) : Type 0 where
  pub sum_two : s.sum_two < 2 ^ 64
  pub limit_two : s.limit_two < 2 ^ 64
  pub log_max : s.log_max < 2 ^ 8
  pub few_rows : length s.log.items ≤ 10

-- all numbers of an application are
pub record IsAppState (s : AppState) : Type 0 where
  pub one : IsAppOne s
  pub more : IsMore s
  pub rows : All IsLogRow s.log.items

-- at most four applications, whose numbers are in their ranges: what a card's state of the program is
pub record IsCardState (state : CardState) : Type 0 where
  pub few : length state.apps.items ≤ 4
  pub apps : All IsAppState state.apps.items

-- no application's log has more than ten rows by its limit, as in every image
abbrev pub HasShortLogs : CardState → Type 0
HasShortLogs state = All (λ s. s.log_max ≤ 10) state.apps.items
