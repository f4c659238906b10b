-- The bytes of an application and its fields give each other back, in both versions, whatever is behind the bytes.
use Rattle.std.proofs.Common.{◌≡◌, ℕ, ◌+◌, ◌-◌, ◌*◌, ◌/◌, ◌%◌, ◌^◌, ◌<◌, ◌≤◌, ◌==◌, Bool, true, false, if◌then◌else◌, List, [], ◌∷◌, ◌++◌, length, take, drop, get_or, refl, sym, ◌∙◌, ap, arith, append-nil, append_assoc, length-append, length-drop, zero, suc}
use Rattle.std.specs.Int.{from_be_bytes, to_be_bytes, w16, w64}
use Rattle.std.specs.List.{All, flat_map}
use Rattle.std.proofs.lemmas.Nat.{from_be_bytes-to_be_bytes_2, from_be_bytes-to_be_bytes_8, be_bytes_2, be_bytes_8}
use Rattle.std.proofs.lemmas.List.{take_at, take_rest, drop_at, drop-drop, get_or-drop, length-take-le}
use Rattle.std.proofs.Math.Seq.{drop-cons, take-add, drop-append-add}
use Rattle.card_state.specs.declared.state.AppState.{AppState}
use Rattle.card_state.specs.declared.state.LogRow.{LogRow}
use Rattle.card_state.specs.Encoding.{app_bytes_one, more_bytes, row_bytes, app_bytes, IsLogRow, IsAppState}
use Rattle.card_state.specs.Layout.{as_one, fields_one, log_row_of, rows_in, rows_said, with_more, app_fields}

blocked_flag : (blocked failed : Bool) → (((if blocked then 1 else 0) + (if failed then 2 else 0)) % 2 == 1) ≡ blocked
blocked_flag true true = refl
blocked_flag true false = refl
blocked_flag false true = refl
blocked_flag false false = refl

failed_flag : (blocked failed : Bool) → (((if blocked then 1 else 0) + (if failed then 2 else 0)) / 2 == 1) ≡ failed
failed_flag true true = refl
failed_flag true false = refl
failed_flag false true = refl
failed_flag false false = refl

few_flags : (blocked failed : Bool) → (if blocked then 1 else 0) + (if failed then 2 else 0) ≤ 3
few_flags true true = omega arith
few_flags true false = omega arith
few_flags false true = omega arith
few_flags false false = omega arith

-- what stands further behind a list
skip : (xs ys : List ℕ) (n m : ℕ) → length xs ≡ n → drop (n + m) (xs ++ ys) ≡ drop m ys
skip xs ys n m size = ap (λ (k : ℕ). drop (k + m) (xs ++ ys)) (sym size) ∙ drop-append-add xs ys m

-- reading back what was written

pub length-app_bytes_one : (s : AppState) → length s.pin ≡ 8 → length (app_bytes_one s) ≡ 32
unfolding app_bytes_one
length-app_bytes_one s size = omega arith

pub length-more_bytes : (s : AppState) → length (more_bytes s) ≡ 18
unfolding more_bytes
length-more_bytes s = refl

-- an application's flags are known ones
pub known_flag_byte : (s : AppState) (behind : List ℕ) → get_or (app_bytes_one s ++ behind) 23 0 ≤ 3
unfolding app_bytes_one
known_flag_byte s behind = few_flags s.blocked s.auth_failed

pub fields_one-app_bytes_one : (s : AppState) (behind : List ℕ) → IsAppState s → fields_one (app_bytes_one s ++ behind) ≡ as_one s
unfolding app_bytes_one fields_one
fields_one-app_bytes_one s behind is = λ i. record {
  counter = from_be_bytes-to_be_bytes_2 s.counter is.one.counter i;
  last_online = from_be_bytes-to_be_bytes_2 s.last_online is.one.last_online i;
  count = s.count;
  sum = from_be_bytes-to_be_bytes_8 s.sum is.one.sum i;
  count_limit = s.count_limit;
  sum_limit = from_be_bytes-to_be_bytes_8 s.sum_limit is.one.sum_limit i;
  tries = s.tries;
  blocked = blocked_flag s.blocked s.auth_failed i;
  auth_failed = failed_flag s.blocked s.auth_failed i;
  pin = take_at s.pin behind 8 is.one.pin.0 i;
  sum_two = 0;
  limit_two = 0;
  log_max = 0;
  log = record { items = [] };
}

sizes : (a b c d e : List ℕ) → length ((((a ++ b) ++ c) ++ d) ++ e) ≡ length a + length b + length c + length d + length e
sizes a b c d e = simp length-append

length-row_bytes : (r : LogRow) → IsLogRow r → length (row_bytes r) ≡ 14
unfolding row_bytes
length-row_bytes r is =
    let all : length (row_bytes r) ≡ length r.raw + length r.currency + length r.date + 2 + 1 =
    sizes r.raw r.currency r.date (to_be_bytes w16 r.counter) (r.kind ∷ []) in
    let raw : length r.raw ≡ 6 = is.raw.0 in
    let currency : length r.currency ≡ 2 = is.currency.0 in
    let date : length r.date ≡ 3 = is.date.0 in
    omega arith

spread : (a b c d e f : List ℕ) → ((((a ++ b) ++ c) ++ d) ++ e) ++ f ≡ a ++ (b ++ (c ++ (d ++ (e ++ f))))
spread a b c d e f = simp append_assoc

module _ (raw currency date : List ℕ) (counter kind : ℕ) (behind : List ℕ) (six : length raw ≡ 6) (two : length currency ≡ 2) (three : length date ≡ 3) where
  abbrev tail : List ℕ
  tail = to_be_bytes w16 counter ++ (kind ∷ behind)

  abbrev whole : List ℕ
  whole = raw ++ (currency ++ (date ++ tail))

  past_raw : drop 6 whole ≡ currency ++ (date ++ tail)
  past_raw = drop_at raw (currency ++ (date ++ tail)) 6 six

  past_currency : drop 8 whole ≡ date ++ tail
  past_currency = skip raw (currency ++ (date ++ tail)) 6 2 six ∙ drop_at currency (date ++ tail) 2 two

  past_date : drop 11 whole ≡ tail
  past_date = skip raw (currency ++ (date ++ tail)) 6 5 six ∙ skip currency (date ++ tail) 2 3 two ∙ drop_at date tail 3 three

  last : get_or whole 13 0 ≡ kind
  last = sym (get_or-drop 11 whole 2 0) ∙ ap (λ (xs : List ℕ). get_or xs 2 0) past_date

  log_row_of-spread : counter < 2 ^ 16 → log_row_of whole ≡ record { raw = raw; currency = currency; date = date; counter = counter; kind = kind }
  unfolding log_row_of
  log_row_of-spread fits = λ i. record {
    raw = take_at raw (currency ++ (date ++ tail)) 6 six i;
    currency = (ap (λ (xs : List ℕ). take 2 xs) past_raw ∙ take_at currency (date ++ tail) 2 two) i;
    date = (ap (λ (xs : List ℕ). take 3 xs) past_currency ∙ take_at date tail 3 three) i;
    counter = (ap (λ (xs : List ℕ). from_be_bytes w16 (take 2 xs)) past_date ∙ from_be_bytes-to_be_bytes_2 counter fits) i;
    kind = last i;
  }

log_row_of-row_bytes : (r : LogRow) (behind : List ℕ) → IsLogRow r → log_row_of (row_bytes r ++ behind) ≡ r
unfolding row_bytes
log_row_of-row_bytes r behind is =
    ap (λ (bs : List ℕ). log_row_of bs) (spread r.raw r.currency r.date (to_be_bytes w16 r.counter) (r.kind ∷ []) behind)
    ∙ log_row_of-spread r.raw r.currency r.date r.counter r.kind behind is.raw.0 is.currency.0 is.date.0 is.counter

others : {A : Type 0} (P : A → Type 0) (x : A) (xs : List A) → All P (x ∷ xs) → All P xs
others P x xs all = λ k d within. all (suc k) d (omega arith)

-- the rows of a log stand in its bytes
pub rows_in-row_bytes : (rows : List LogRow) (behind : List ℕ) → All IsLogRow rows → rows_in (length rows) (flat_map row_bytes rows ++ behind) ≡ rows
unfolding rows_in
rows_in-row_bytes [] behind all = refl
rows_in-row_bytes (r ∷ rs) behind all =
    let first : IsLogRow r = all 0 r (omega arith) in
    let rest : List ℕ = flat_map row_bytes rs ++ behind in
    ap (λ (bs : List ℕ). log_row_of bs ∷ rows_in (length rs) (drop 14 bs)) (append_assoc (row_bytes r) (flat_map row_bytes rs) behind)
    ∙ ap (λ (x : LogRow). x ∷ rows_in (length rs) (drop 14 (row_bytes r ++ rest))) (log_row_of-row_bytes r rest first)
    ∙ ap (λ (bs : List ℕ). r ∷ rows_in (length rs) bs) (drop_at (row_bytes r) rest 14 (length-row_bytes r first))
    ∙ ap (λ (xs : List LogRow). r ∷ xs) (rows_in-row_bytes rs behind (others IsLogRow r rs all))

pub length-rows : (rows : List LogRow) → All IsLogRow rows → length (flat_map row_bytes rows) ≡ 14 * length rows
length-rows [] all = refl
length-rows (r ∷ rs) all =
    let head : length (row_bytes r) ≡ 14 = length-row_bytes r (all 0 r (omega arith)) in
    let tail : length (flat_map row_bytes rs) ≡ 14 * length rs = length-rows rs (others IsLogRow r rs all) in
    let both : length (row_bytes r ++ flat_map row_bytes rs) ≡ length (row_bytes r) + length (flat_map row_bytes rs) =
    length-append (row_bytes r) (flat_map row_bytes rs) in
    omega arith

with_more-more_bytes : (s t : AppState) (behind : List ℕ) → IsAppState s
    → with_more t (more_bytes s ++ (flat_map row_bytes s.log.items ++ behind))
    ≡ record t { sum_two = s.sum_two; limit_two = s.limit_two; log_max = s.log_max; log = s.log }
unfolding with_more more_bytes
with_more-more_bytes s t behind is = λ i. record t {
  sum_two = from_be_bytes-to_be_bytes_8 s.sum_two is.more.sum_two i;
  limit_two = from_be_bytes-to_be_bytes_8 s.limit_two is.more.limit_two i;
  log_max = s.log_max;
  log = record { items = rows_in-row_bytes s.log.items behind is.rows i };
}

-- the parts of an application's bytes, before others
parts : (s : AppState) (behind : List ℕ)
    → app_bytes s ++ behind ≡ app_bytes_one s ++ (more_bytes s ++ (flat_map row_bytes s.log.items ++ behind))
unfolding app_bytes
parts s behind =
    append_assoc (app_bytes_one s ++ more_bytes s) (flat_map row_bytes s.log.items) behind
    ∙ append_assoc (app_bytes_one s) (more_bytes s) (flat_map row_bytes s.log.items ++ behind)

-- what stands behind the bytes of version 1
pub behind_one : (s : AppState) (behind : List ℕ) → IsAppState s
    → drop 32 (app_bytes s ++ behind) ≡ more_bytes s ++ (flat_map row_bytes s.log.items ++ behind)
behind_one s behind is =
    ap (λ (bs : List ℕ). drop 32 bs) (parts s behind)
    ∙ drop_at (app_bytes_one s) (more_bytes s ++ (flat_map row_bytes s.log.items ++ behind)) 32 (length-app_bytes_one s is.one.pin.0)

pub known_flags_two : (s : AppState) (behind : List ℕ) → get_or (app_bytes s ++ behind) 23 0 ≤ 3
known_flags_two s behind =
    let rest : List ℕ = more_bytes s ++ (flat_map row_bytes s.log.items ++ behind) in
    let known : get_or (app_bytes_one s ++ rest) 23 0 ≤ 3 = known_flag_byte s rest in
    let same : get_or (app_bytes s ++ behind) 23 0 ≡ get_or (app_bytes_one s ++ rest) 23 0 = ap (λ (bs : List ℕ). get_or bs 23 0) (parts s behind) in
    omega arith

pub app_fields-app_bytes : (s : AppState) (behind : List ℕ) → IsAppState s → app_fields (app_bytes s ++ behind) ≡ s
unfolding app_fields
app_fields-app_bytes s behind is =
    let rest : List ℕ = more_bytes s ++ (flat_map row_bytes s.log.items ++ behind) in
    ap (λ (bs : List ℕ). with_more (fields_one bs) (drop 32 (app_bytes s ++ behind))) (parts s behind)
    ∙ ap (λ (t : AppState). with_more t (drop 32 (app_bytes s ++ behind))) (fields_one-app_bytes_one s rest is)
    ∙ ap (λ (more : List ℕ). with_more (as_one s) more) (behind_one s behind is)
    ∙ with_more-more_bytes s (as_one s) behind is

pub length-app_bytes : (s : AppState) → IsAppState s → length (app_bytes s) ≡ 50 + 14 * length s.log.items
unfolding app_bytes
length-app_bytes s is =
    let all : length ((app_bytes_one s ++ more_bytes s) ++ flat_map row_bytes s.log.items) ≡ length (app_bytes_one s ++ more_bytes s) + length (flat_map row_bytes s.log.items) =
    length-append (app_bytes_one s ++ more_bytes s) (flat_map row_bytes s.log.items) in
    let front : length (app_bytes_one s ++ more_bytes s) ≡ length (app_bytes_one s) + length (more_bytes s) = length-append (app_bytes_one s) (more_bytes s) in
    let one : length (app_bytes_one s) ≡ 32 = length-app_bytes_one s is.one.pin.0 in
    let more : length (more_bytes s) ≡ 18 = length-more_bytes s in
    let rows : length (flat_map row_bytes s.log.items) ≡ 14 * length s.log.items = length-rows s.log.items is.rows in
    omega arith

-- writing again what was read

-- so many numbers more of a list
on : (bs front piece : List ℕ) (n m : ℕ) → front ≡ take n bs → piece ≡ take m (drop n bs) → front ++ piece ≡ take (n + m) bs
on bs front piece n m is_front is_piece =
    ap (λ (xs : List ℕ). xs ++ piece) is_front ∙ ap (λ (xs : List ℕ). take n bs ++ xs) is_piece ∙ sym (take-add n m bs)

take_fits : (xs : List ℕ) (m : ℕ) → ((i : ℕ) → get_or xs i 0 < 256) → (i : ℕ) → get_or (take m xs) i 0 < 256
take_fits xs zero fits i = omega arith
take_fits [] (suc m) fits i = omega arith
take_fits (x ∷ xs) (suc m) fits zero = fits zero
take_fits (x ∷ xs) (suc m) fits (suc i) = take_fits xs m (λ j. fits (suc j)) i

pub drop_fits : (xs : List ℕ) (n : ℕ) → ((i : ℕ) → get_or xs i 0 < 256) → (i : ℕ) → get_or (drop n xs) i 0 < 256
drop_fits xs zero fits i = fits i
drop_fits [] (suc n) fits i = omega arith
drop_fits (x ∷ xs) (suc n) fits i = drop_fits xs n (λ j. fits (suc j)) i

piece_size : (bs : List ℕ) (n m : ℕ) → n + m ≤ length bs → length (take m (drop n bs)) ≡ m
piece_size bs n m within =
    let left : m ≤ length (drop n bs) = simp length-drop (omega arith) in
    length-take-le m (drop n bs) left

short : (bs : List ℕ) (n : ℕ) → n + 2 ≤ length bs → ((i : ℕ) → get_or bs i 0 < 256)
    → to_be_bytes w16 (from_be_bytes w16 (take 2 (drop n bs))) ≡ take 2 (drop n bs)
short bs n within fits = be_bytes_2 (take 2 (drop n bs)) (from_be_bytes w16 (take 2 (drop n bs))) (piece_size bs n 2 within) (take_fits (drop n bs) 2 (drop_fits bs n fits)) refl

long : (bs : List ℕ) (n : ℕ) → n + 8 ≤ length bs → ((i : ℕ) → get_or bs i 0 < 256)
    → to_be_bytes w64 (from_be_bytes w64 (take 8 (drop n bs))) ≡ take 8 (drop n bs)
long bs n within fits = be_bytes_8 (take 8 (drop n bs)) (from_be_bytes w64 (take 8 (drop n bs))) (piece_size bs n 8 within) (take_fits (drop n bs) 8 (drop_fits bs n fits)) refl

one : (bs : List ℕ) (n : ℕ) → n < length bs → get_or bs n 0 ∷ [] ≡ take 1 (drop n bs)
one bs n within = sym (ap (λ (xs : List ℕ). take 1 xs) (drop-cons bs n 0 within))

known_flags : (f : ℕ) → f ≤ 3 → (if f % 2 == 1 then 1 else 0) + (if f / 2 == 1 then 2 else 0) ≡ f
known_flags zero few = refl
known_flags (suc zero) few = refl
known_flags (suc (suc zero)) few = refl
known_flags (suc (suc (suc zero))) few = refl
known_flags (suc (suc (suc (suc f)))) few = absurd (omega arith)

flag_byte : (bs : List ℕ) → 23 < length bs → get_or bs 23 0 ≤ 3
    → ((if get_or bs 23 0 % 2 == 1 then 1 else 0) + (if get_or bs 23 0 / 2 == 1 then 2 else 0)) ∷ [] ≡ take 1 (drop 23 bs)
flag_byte bs within few = ap (λ (f : ℕ). f ∷ []) (known_flags (get_or bs 23 0) few) ∙ one bs 23 within

-- the bytes of the fields that stand in 32 bytes with known flags are these bytes
pub app_bytes_one-fields_one : (bs : List ℕ) → 32 ≤ length bs → ((i : ℕ) → get_or bs i 0 < 256) → get_or bs 23 0 ≤ 3
    → app_bytes_one (fields_one bs) ≡ take 32 bs
unfolding app_bytes_one fields_one
app_bytes_one-fields_one bs size fits few =
    on bs _ _ 24 8
    (on bs _ _ 23 1
    (on bs _ _ 22 1
    (on bs _ _ 14 8
    (on bs _ _ 13 1
    (on bs _ _ 5 8
    (on bs _ _ 4 1
    (on bs _ _ 2 2 (short bs 0 (omega arith) fits) (short bs 2 (omega arith) fits))
    (one bs 4 (omega arith)))
    (long bs 5 (omega arith) fits))
    (one bs 13 (omega arith)))
    (long bs 14 (omega arith) fits))
    (one bs 22 (omega arith)))
    (flag_byte bs (omega arith) few))
    refl

-- so those of a row
row_bytes-log_row_of : (bs : List ℕ) → 14 ≤ length bs → ((i : ℕ) → get_or bs i 0 < 256) → row_bytes (log_row_of bs) ≡ take 14 bs
unfolding row_bytes log_row_of
row_bytes-log_row_of bs size fits =
    on bs _ _ 13 1
    (on bs _ _ 11 2
    (on bs _ _ 8 3
    (on bs _ _ 6 2 refl refl)
    refl)
    (short bs 11 (omega arith) fits))
    (one bs 13 (omega arith))

pub length-rows_in : (n : ℕ) (bs : List ℕ) → length (rows_in n bs) ≡ n
unfolding rows_in
length-rows_in zero bs = refl
length-rows_in (suc n) bs = ap suc (length-rows_in n (drop 14 bs))

row_bytes-rows_in : (n : ℕ) (bs : List ℕ) → 14 * n ≤ length bs → ((i : ℕ) → get_or bs i 0 < 256)
    → flat_map row_bytes (rows_in n bs) ≡ take (14 * n) bs
unfolding rows_in
row_bytes-rows_in zero bs size fits = refl
row_bytes-rows_in (suc n) bs size fits =
    let rest : 14 * n ≤ length (drop 14 bs) = simp length-drop (omega arith) in
    let count : 14 + 14 * n ≡ 14 * suc n = omega arith in
    on bs (row_bytes (log_row_of bs)) (flat_map row_bytes (rows_in n (drop 14 bs))) 14 (14 * n) (row_bytes-log_row_of bs (omega arith) fits)
    (row_bytes-rows_in n (drop 14 bs) rest (drop_fits bs 14 fits))
    ∙ ap (λ (k : ℕ). take k bs) count

more_bytes-with_more : (t : AppState) (more : List ℕ) → 18 ≤ length more → ((i : ℕ) → get_or more i 0 < 256)
    → more_bytes (with_more t more) ≡ take 18 more
unfolding more_bytes with_more
more_bytes-with_more t more size fits =
    on more _ _ 17 1
    (on more _ _ 16 1
    (on more _ _ 8 8 (long more 0 (omega arith) fits) (long more 8 (omega arith) fits))
    (one more 16 (omega arith)))
    (ap (λ (n : ℕ). n ∷ []) (length-rows_in (rows_said more) (drop 18 more)) ∙ one more 17 (omega arith))

one-with_more : (t : AppState) (more : List ℕ) → app_bytes_one (with_more t more) ≡ app_bytes_one t
unfolding app_bytes_one with_more
one-with_more t more = refl

rows-with_more : (t : AppState) (more : List ℕ) → (with_more t more).log.items ≡ rows_in (rows_said more) (drop 18 more)
unfolding with_more
rows-with_more t more = refl

-- how many rows stand there
pub rows-app_fields : (bs : List ℕ) → length (app_fields bs).log.items ≡ rows_said (drop 32 bs)
unfolding app_fields
rows-app_fields bs =
    ap (λ (xs : List LogRow). length xs) (rows-with_more (fields_one bs) (drop 32 bs)) ∙ length-rows_in (rows_said (drop 32 bs)) (drop 18 (drop 32 bs))

-- the bytes of the fields that stand there are these bytes
pub app_bytes-app_fields : (bs : List ℕ) → 50 ≤ length bs → 50 + 14 * rows_said (drop 32 bs) ≤ length bs → ((i : ℕ) → get_or bs i 0 < 256)
    → get_or bs 23 0 ≤ 3 → app_bytes (app_fields bs) ≡ take (50 + 14 * rows_said (drop 32 bs)) bs
unfolding app_bytes app_fields
app_bytes-app_fields bs size whole fits few =
    let left : 18 ≤ length (drop 32 bs) = simp length-drop (omega arith) in
    let rest : 14 * rows_said (drop 32 bs) ≤ length (drop 18 (drop 32 bs)) = simp length-drop (omega arith) in
    let place : drop 18 (drop 32 bs) ≡ drop 50 bs = drop-drop 18 32 bs in
    on bs _ _ 50 (14 * rows_said (drop 32 bs))
    (on bs _ _ 32 18
    (one-with_more (fields_one bs) (drop 32 bs) ∙ app_bytes_one-fields_one bs (omega arith) fits few)
    (more_bytes-with_more (fields_one bs) (drop 32 bs) left (drop_fits bs 32 fits)))
    (ap (λ (xs : List LogRow). flat_map row_bytes xs) (rows-with_more (fields_one bs) (drop 32 bs))
    ∙ row_bytes-rows_in (rows_said (drop 32 bs)) (drop 18 (drop 32 bs)) rest (drop_fits (drop 32 bs) 18 (drop_fits bs 32 fits))
    ∙ ap (λ (xs : List ℕ). take (14 * rows_said (drop 32 bs)) xs) place)

-- reading one row more, behind those so far
pub one_more_row : (all front : List LogRow) (n left : ℕ) (rest : List ℕ) (r : LogRow) → left ≡ suc n → r ≡ log_row_of rest
    → all ≡ front ++ rows_in left rest → all ≡ (front ++ r ∷ []) ++ rows_in n (take (length rest - 14) (drop 14 rest))
unfolding rows_in
one_more_row all front n left rest r some is so_far =
    so_far
    ∙ ap (λ (k : ℕ). front ++ rows_in k rest) some
    ∙ ap (λ (x : LogRow). front ++ (x ∷ rows_in n (drop 14 rest))) (sym is)
    ∙ sym (append_assoc front (r ∷ []) (rows_in n (drop 14 rest)))
    ∙ ap (λ (bs : List ℕ). (front ++ r ∷ []) ++ rows_in n bs) (sym (take_rest rest 14))

pub all_rows : (all front : List LogRow) (left : ℕ) (rest : List ℕ) → left ≡ 0 → all ≡ front ++ rows_in left rest → front ≡ all
unfolding rows_in
all_rows all front left rest none so_far = sym (so_far ∙ ap (λ (k : ℕ). front ++ rows_in k rest) none ∙ append-nil front)
