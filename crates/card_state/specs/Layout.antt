-- What state some bytes are the encoding of.
use Rattle.std.specs.Prelude.{ℕ, zero, suc, ◌+◌, ◌*◌, ◌/◌, ◌%◌, ◌==◌, ◌&&◌, nat_le, if◌then◌else◌, Bool, List, [], ◌∷◌, length, take, drop, slice_index, Option, Some, None, option_map, option_and_then}
use Rattle.std.specs.Int.{from_be_bytes, w16, w64}
use Rattle.card_state.specs.declared.decoding.Version.{Version}
use Rattle.card_state.specs.declared.decoding.Version.TheVariants.{One, Two}
use Rattle.card_state.specs.declared.state.AppState.{AppState}
use Rattle.card_state.specs.declared.state.CardState.{CardState}
use Rattle.card_state.specs.declared.state.LogRow.{LogRow}

-- the place of the flags
abbrev pub flags_place : ℕ
flags_place = 23

-- a state that knows of no second currency and no log
abbrev pub as_one : AppState → AppState
as_one s = record s { sum_two = 0; limit_two = 0; log_max = 0; log = record { items = [] } }

-- the fields that stand in an application's bytes of version 1, whatever is behind
unfoldable pub fields_one : List ℕ → AppState
fields_one bytes = record {
  counter = from_be_bytes w16 (take 2 (drop 0 bytes));
  last_online = from_be_bytes w16 (take 2 (drop 2 bytes));
  count = slice_index bytes 4;
  sum = from_be_bytes w64 (take 8 (drop 5 bytes));
  count_limit = slice_index bytes 13;
  sum_limit = from_be_bytes w64 (take 8 (drop 14 bytes));
  tries = slice_index bytes 22;
  blocked = slice_index bytes flags_place % 2 == 1;
  auth_failed = slice_index bytes flags_place / 2 == 1;
  pin = take 8 (drop 24 bytes);
  sum_two = 0;
  limit_two = 0;
  log_max = 0;
  log = record { items = [] };
}

-- the row in these 14 bytes, whatever is behind
unfoldable pub log_row_of : List ℕ → LogRow
log_row_of bytes = record {
  raw = take 6 (drop 0 bytes);
  currency = take 2 (drop 6 bytes);
  date = take 3 (drop 8 bytes);
  counter = from_be_bytes w16 (take 2 (drop 11 bytes));
  kind = slice_index bytes 13;
}

-- so many rows
unfoldable pub rows_in : ℕ → List ℕ → List LogRow
rows_in zero bytes = []
rows_in (suc n) bytes = log_row_of bytes ∷ rows_in n (drop 14 bytes)

-- the place of the number of rows behind the bytes of version 1, and the rows that are said to stand there
abbrev pub rows_place : ℕ
rows_place = 17

abbrev pub rows_said : List ℕ → ℕ
rows_said more = slice_index more rows_place

-- an application with the fields of version 2 that stand in these bytes
unfoldable pub with_more : AppState → List ℕ → AppState
with_more s more = record s {
  sum_two = from_be_bytes w64 (take 8 (drop 0 more));
  limit_two = from_be_bytes w64 (take 8 (drop 8 more));
  log_max = slice_index more 16;
  log = record { items = rows_in (rows_said more) (drop 18 more) };
}

-- the fields that stand in an application's bytes of version 2, whatever is behind
unfoldable pub app_fields : List ℕ → AppState
app_fields bytes = with_more (fields_one bytes) (drop 32 bytes)

-- how many bytes an application has
abbrev pub size_in : Version → AppState → ℕ
size_in One s = 32
size_in Two s = 50 + 14 * length s.log.items

-- known flags
abbrev pub is_flagged : List ℕ → Bool
is_flagged bytes = nat_le (slice_index bytes flags_place) 3

-- at most ten rows, which stand there
abbrev pub has_rows : List ℕ → Bool
has_rows more = nat_le (rows_said more) 10 && nat_le (18 + 14 * rows_said more) (length more)

-- the bytes begin with an application
abbrev pub has_app_at : Version → List ℕ → Bool
has_app_at One bytes = nat_le 32 (length bytes) && is_flagged bytes
has_app_at Two bytes = nat_le 50 (length bytes) && (is_flagged bytes && has_rows (drop 32 bytes))

-- the application that they begin with
unfoldable pub app_in : Version → List ℕ → Option AppState
app_in One bytes = (if has_app_at One bytes then Some (fields_one bytes) else None)
app_in Two bytes = (if has_app_at Two bytes then Some (app_fields bytes) else None)

-- nothing is left
abbrev pub none_left : List ℕ → Option (List AppState)
none_left [] = Some []
none_left (b ∷ bytes) = None

-- so many applications, and nothing behind them
unfoldable pub apps_in : Version → ℕ → List ℕ → Option (List AppState)
apps_in version zero bytes = none_left bytes
apps_in version (suc n) bytes =
    option_and_then (λ s. option_map (λ ss. s ∷ ss) (apps_in version n (drop (size_in version s) bytes))) (app_in version bytes)

-- a card of so many applications; the byte before them is 01 where it is blocked, else 00
unfoldable pub card_of_bytes : Version → ℕ → ℕ → List ℕ → Option CardState
card_of_bytes version count card bytes =
    if nat_le count 4 && nat_le card 1
    then option_map (λ apps. record { blocked = card == 1; apps = record { items = apps } }) (apps_in version count bytes)
    else None

-- the state whose encoding of version 1 these bytes are
unfoldable pub decoded_one : List ℕ → Option CardState
decoded_one (version ∷ count ∷ card ∷ bytes) = (if version == 1 then card_of_bytes One count card bytes else None)
decoded_one bytes = None

-- the state whose encoding of either version they are
unfoldable pub decoded : List ℕ → Option CardState
decoded (version ∷ count ∷ card ∷ bytes) =
    if version == 1 then card_of_bytes One count card bytes else if version == 2 then card_of_bytes Two count card bytes else None
decoded bytes = None
