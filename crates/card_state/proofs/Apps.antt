-- A list of applications and its bytes, in both versions.
use Rattle.std.proofs.Common.{◌≡◌, ℕ, zero, suc, ◌+◌, ◌-◌, ◌*◌, ◌<◌, ◌≤◌, ◌&&◌, Bool, true, false, nat_le, if◌then◌else◌, List, [], ◌∷◌, ◌++◌, length, map, take, drop, get_or, Option, Some, None, option_map, option_and_then, refl, sym, ◌∙◌, ap, subst, arith, append-nil, append_assoc, length-append, length-drop}
use Rattle.std.specs.List.{All, flat_map}
use Rattle.std.proofs.lemmas.Bool.Decides.{nat_tests}
use Rattle.std.proofs.lemmas.List.{drop_at, take_rest, take-append-drop}
use Rattle.card_state.specs.declared.decoding.Version.{Version}
use Rattle.card_state.specs.declared.decoding.Version.TheVariants.{One, Two}
use Rattle.card_state.specs.declared.state.AppState.{AppState}
use Rattle.card_state.specs.Encoding.{app_bytes_one, app_bytes, more_bytes, row_bytes, IsAppState}
use Rattle.card_state.specs.Layout.{as_one, fields_one, app_fields, rows_said, is_flagged, has_rows, has_app_at, with_more, app_in, none_left, apps_in, size_in}
use Rattle.card_state.proofs.LayoutLemmas.{length-app_bytes_one, length-app_bytes, length-rows, known_flag_byte, known_flags_two, behind_one, fields_one-app_bytes_one, app_fields-app_bytes, app_bytes_one-fields_one, app_bytes-app_fields, rows-app_fields, drop_fits}

-- the bytes of an application
abbrev pub app_bytes_in : Version → AppState → List ℕ
app_bytes_in One s = app_bytes_one s
app_bytes_in Two s = app_bytes s

-- what is read of them
abbrev pub as_read : Version → AppState → AppState
as_read One s = as_one s
as_read Two s = s

le_true : (m n : ℕ) → m ≤ n → nat_le m n ≡ true
le_true m n below = grind (arith, nat_tests)

true_le : (m n : ℕ) → nat_le m n ≡ true → m ≤ n
true_le m n test = grind (arith, nat_tests)

both : (a b : Bool) → a ≡ true → b ≡ true → (a && b) ≡ true
both true b first second = second
both false b first second = first

first_of_both : (a b : Bool) → (a && b) ≡ true → a ≡ true
first_of_both true b test = refl
first_of_both false b test = test

second_of_both : (a b : Bool) → (a && b) ≡ true → b ≡ true
second_of_both true b test = test
second_of_both false b test = cc

rows_there : (s : AppState) (behind : List ℕ) → IsAppState s → has_rows (more_bytes s ++ (flat_map row_bytes s.log.items ++ behind)) ≡ true
unfolding more_bytes
rows_there s behind is =
    let rest : length (flat_map row_bytes s.log.items ++ behind) ≡ length (flat_map row_bytes s.log.items) + length behind =
    length-append (flat_map row_bytes s.log.items) behind in
    let rows : length (flat_map row_bytes s.log.items) ≡ 14 * length s.log.items = length-rows s.log.items is.rows in
    both _ _ (le_true (length s.log.items) 10 is.more.few_rows)
    (le_true (18 + 14 * length s.log.items) (length (more_bytes s ++ (flat_map row_bytes s.log.items ++ behind))) (omega arith))

-- the bytes of an application begin with it
has_app_at-app : (v : Version) (s : AppState) (behind : List ℕ) → IsAppState s → has_app_at v (app_bytes_in v s ++ behind) ≡ true
has_app_at-app One s behind is =
    let size : length (app_bytes_one s ++ behind) ≡ length (app_bytes_one s) + length behind = length-append (app_bytes_one s) behind in
    let own : length (app_bytes_one s) ≡ 32 = length-app_bytes_one s is.one.pin.0 in
    both _ _ (le_true 32 (length (app_bytes_one s ++ behind)) (omega arith))
    (le_true (get_or (app_bytes_one s ++ behind) 23 0) 3 (known_flag_byte s behind))
has_app_at-app Two s behind is =
    let size : length (app_bytes s ++ behind) ≡ length (app_bytes s) + length behind = length-append (app_bytes s) behind in
    let own : length (app_bytes s) ≡ 50 + 14 * length s.log.items = length-app_bytes s is in
    both _ _ (le_true 50 (length (app_bytes s ++ behind)) (omega arith))
    (both _ _ (le_true (get_or (app_bytes s ++ behind) 23 0) 3 (known_flags_two s behind))
    (ap (λ (more : List ℕ). has_rows more) (behind_one s behind is) ∙ rows_there s behind is))

pub app_in-app_bytes : (v : Version) (s : AppState) (behind : List ℕ) → IsAppState s → app_in v (app_bytes_in v s ++ behind) ≡ Some (as_read v s)
unfolding app_in
app_in-app_bytes One s behind is =
    ap (λ b. if b then Some (fields_one (app_bytes_one s ++ behind)) else None) (has_app_at-app One s behind is)
    ∙ ap (λ (t : AppState). Some t) (fields_one-app_bytes_one s behind is)
app_in-app_bytes Two s behind is =
    ap (λ b. if b then Some (app_fields (app_bytes s ++ behind)) else None) (has_app_at-app Two s behind is)
    ∙ ap (λ (t : AppState). Some t) (app_fields-app_bytes s behind is)

size-as_read : (v : Version) (s : AppState) → IsAppState s → length (app_bytes_in v s) ≡ size_in v (as_read v s)
size-as_read One s is = length-app_bytes_one s is.one.pin.0
size-as_read Two s is = length-app_bytes s is

others : (s : AppState) (ss : List AppState) → All IsAppState (s ∷ ss) → All IsAppState ss
others s ss all = λ k d within. all (suc k) d (omega arith)

-- the applications of these bytes are read
pub apps_in-flat_map : (v : Version) (ss : List AppState) → All IsAppState ss
    → apps_in v (length ss) (flat_map (app_bytes_in v) ss) ≡ Some (map (as_read v) ss)
unfolding apps_in
apps_in-flat_map v [] all = refl
apps_in-flat_map v (s ∷ ss) all =
    let is : IsAppState s = all 0 s (omega arith) in
    let rest : List ℕ = flat_map (app_bytes_in v) ss in
    let whole : List ℕ = app_bytes_in v s ++ rest in
    ap (λ (o : Option AppState). option_and_then (λ (t : AppState). option_map (λ (ts : List AppState). t ∷ ts) (apps_in v (length ss) (drop (size_in v t) whole))) o)
    (app_in-app_bytes v s rest is)
    ∙ ap (λ (bs : List ℕ). option_map (λ (ts : List AppState). as_read v s ∷ ts) (apps_in v (length ss) bs))
    (drop_at (app_bytes_in v s) rest (size_in v (as_read v s)) (size-as_read v s is))
    ∙ ap (λ (o : Option (List AppState)). option_map (λ (ts : List AppState). as_read v s ∷ ts) o) (apps_in-flat_map v ss (others s ss all))

-- what was read of some bytes: they begin with the application's
pub record IsRead (v : Version) (bs : List ℕ) (s : AppState) : Type 0 where
  pub bytes : app_bytes_in v s ≡ take (size_in v s) bs
  pub size : size_in v s ≤ length bs
  pub same : as_read v s ≡ s

one_is_read : (bs : List ℕ) → ((i : ℕ) → get_or bs i 0 < 256) → has_app_at One bs ≡ true → IsRead One bs (fields_one bs)
unfolding fields_one
one_is_read bs fits test =
    let size : 32 ≤ length bs = true_le 32 (length bs) (first_of_both (nat_le 32 (length bs)) (is_flagged bs) test) in
    let few : get_or bs 23 0 ≤ 3 = true_le (get_or bs 23 0) 3 (second_of_both (nat_le 32 (length bs)) (is_flagged bs) test) in
    record { bytes = app_bytes_one-fields_one bs size fits few; size = size; same = refl }

two_is_read : (bs : List ℕ) → ((i : ℕ) → get_or bs i 0 < 256) → has_app_at Two bs ≡ true → IsRead Two bs (app_fields bs)
two_is_read bs fits test =
    let behind = second_of_both (nat_le 50 (length bs)) (is_flagged bs && has_rows (drop 32 bs)) test in
    let size : 50 ≤ length bs = true_le 50 (length bs) (first_of_both (nat_le 50 (length bs)) (is_flagged bs && has_rows (drop 32 bs)) test) in
    let few : get_or bs 23 0 ≤ 3 = true_le (get_or bs 23 0) 3 (first_of_both (is_flagged bs) (has_rows (drop 32 bs)) behind) in
    let more : List ℕ = drop 32 bs in
    let n : ℕ = rows_said more in
    let has : has_rows more ≡ true = second_of_both (is_flagged bs) (has_rows more) behind in
    let there : 18 + 14 * n ≤ length more = true_le (18 + 14 * n) (length more) (second_of_both (nat_le n 10) (nat_le (18 + 14 * n) (length more)) has) in
    let left : length more ≡ length bs - 32 = length-drop 32 bs in
    let whole : 50 + 14 * n ≤ length bs = omega arith in
    let rows : length (app_fields bs).log.items ≡ n = rows-app_fields bs in
    let sizes : 50 + 14 * n ≡ 50 + 14 * length (app_fields bs).log.items = omega arith in
    record {
      bytes = app_bytes-app_fields bs size whole fits few ∙ ap (λ (k : ℕ). take k bs) sizes;
      size = omega arith;
      same = refl;
    }

by_test : {A : Type 0} (P : A → Type 0) (b : Bool) (x y : A) → (b ≡ true → P x) → (if b then Some x else None) ≡ Some y → P y
by_test P true x y holds is = subst P (let same : x ≡ y = cc in same) (holds refl)
by_test P false x y holds is = cc

app_in-is_read : (v : Version) (bs : List ℕ) (s : AppState) → ((i : ℕ) → get_or bs i 0 < 256) → app_in v bs ≡ Some s → IsRead v bs s
unfolding app_in
app_in-is_read One bs s fits is = by_test (λ (t : AppState). IsRead One bs t) (has_app_at One bs) (fields_one bs) s (one_is_read bs fits) is
app_in-is_read Two bs s fits is = by_test (λ (t : AppState). IsRead Two bs t) (has_app_at Two bs) (app_fields bs) s (two_is_read bs fits) is

two_size : (bs : List ℕ) → has_app_at Two bs ≡ true → size_in Two (app_fields bs) ≤ length bs
two_size bs test =
    let behind = second_of_both (nat_le 50 (length bs)) (is_flagged bs && has_rows (drop 32 bs)) test in
    let more : List ℕ = drop 32 bs in
    let n : ℕ = rows_said more in
    let has : has_rows more ≡ true = second_of_both (is_flagged bs) (has_rows more) behind in
    let there : 18 + 14 * n ≤ length more = true_le (18 + 14 * n) (length more) (second_of_both (nat_le n 10) (nat_le (18 + 14 * n) (length more)) has) in
    let size : 50 ≤ length bs = true_le 50 (length bs) (first_of_both (nat_le 50 (length bs)) (is_flagged bs && has_rows (drop 32 bs)) test) in
    let left : length more ≡ length bs - 32 = length-drop 32 bs in
    let rows : length (app_fields bs).log.items ≡ n = rows-app_fields bs in
    omega arith

-- an application fits into the bytes that it was read of
pub size_known : (v : Version) (bs : List ℕ) (s : AppState) → app_in v bs ≡ Some s → size_in v s ≤ length bs
unfolding app_in
size_known One bs s is =
    by_test (λ (t : AppState). 32 ≤ length bs) (has_app_at One bs) (fields_one bs) s
    (λ test. true_le 32 (length bs) (first_of_both (nat_le 32 (length bs)) (is_flagged bs) test)) is
size_known Two bs s is = by_test (λ (t : AppState). size_in Two t ≤ length bs) (has_app_at Two bs) (app_fields bs) s (two_size bs) is

-- reading an application
module _ (v : Version) (bs : List ℕ) where
  pub some_fits : (s : AppState) → Some s ≡ app_in v bs → size_in v s ≤ length bs
  some_fits s is = size_known v bs s (sym is)

first_fails : (a b : Bool) → a ≡ false → (a && b) ≡ false
first_fails true b fails = cc
first_fails false b fails = refl

second_fails : (a b : Bool) → b ≡ false → (a && b) ≡ false
second_fails true b fails = fails
second_fails false b fails = refl

not_le : (m n : ℕ) → n < m → nat_le m n ≡ false
not_le m n above = grind (arith, nat_tests)

module _ (bs : List ℕ) where
  none_of_one : has_app_at One bs ≡ false → None ≡ app_in One bs
  unfolding app_in
  none_of_one fails = sym (ap (λ b. if b then Some (fields_one bs) else None) fails)

  pub one_short : length bs < 32 → None ≡ app_in One bs
  one_short few = none_of_one (first_fails (nat_le 32 (length bs)) (is_flagged bs) (not_le 32 (length bs) few))

  pub one_flagged : 3 < get_or bs 23 0 → None ≡ app_in One bs
  one_flagged more = none_of_one (second_fails (nat_le 32 (length bs)) (is_flagged bs) (not_le (get_or bs 23 0) 3 more))

  pub one_there : 32 ≤ length bs → get_or bs 23 0 ≤ 3 → (s : AppState) → s ≡ fields_one bs → Some s ≡ app_in One bs
  unfolding app_in
  one_there size few s is =
      let test : has_app_at One bs ≡ true = both (nat_le 32 (length bs)) (is_flagged bs) (le_true 32 (length bs) size) (le_true (get_or bs 23 0) 3 few) in
      ap (λ (t : AppState). Some t) is ∙ sym (ap (λ b. if b then Some (fields_one bs) else None) test)

  none_of_two : has_app_at Two bs ≡ false → None ≡ app_in Two bs
  unfolding app_in
  none_of_two fails = sym (ap (λ b. if b then Some (app_fields bs) else None) fails)

  pub two_short : length bs < 50 → None ≡ app_in Two bs
  two_short few = none_of_two (first_fails (nat_le 50 (length bs)) (is_flagged bs && has_rows (drop 32 bs)) (not_le 50 (length bs) few))

  pub two_flagged : 3 < get_or bs 23 0 → None ≡ app_in Two bs
  two_flagged more =
      none_of_two (second_fails (nat_le 50 (length bs)) (is_flagged bs && has_rows (drop 32 bs))
      (first_fails (is_flagged bs) (has_rows (drop 32 bs)) (not_le (get_or bs 23 0) 3 more)))

  -- the rest as the program cuts it
  module _ (rest : List ℕ) (is_rest : rest ≡ take (length bs - 32) (drop 32 bs)) where
    here : rest ≡ drop 32 bs
    here = is_rest ∙ take_rest bs 32

    pub two_rowless : has_rows rest ≡ false → None ≡ app_in Two bs
    two_rowless fails =
        none_of_two (second_fails (nat_le 50 (length bs)) (is_flagged bs && has_rows (drop 32 bs))
        (second_fails (is_flagged bs) (has_rows (drop 32 bs)) (ap (λ (more : List ℕ). has_rows more) (sym here) ∙ fails)))

    pub two_there : 50 ≤ length bs → get_or bs 23 0 ≤ 3 → has_rows rest ≡ true → (s t : AppState) → s ≡ fields_one bs → t ≡ with_more s rest
        → Some t ≡ app_in Two bs
    unfolding app_in app_fields
    two_there size few has s t is with_is =
        let test : has_app_at Two bs ≡ true =
        both (nat_le 50 (length bs)) (is_flagged bs && has_rows (drop 32 bs)) (le_true 50 (length bs) size)
        (both (is_flagged bs) (has_rows (drop 32 bs)) (le_true (get_or bs 23 0) 3 few) (ap (λ (more : List ℕ). has_rows more) (sym here) ∙ has)) in
        let fields : t ≡ with_more (fields_one bs) (drop 32 bs) =
        with_is ∙ ap (λ (x : AppState). with_more x rest) is ∙ ap (λ (more : List ℕ). with_more (fields_one bs) more) here in
        ap (λ (x : AppState). Some x) fields ∙ sym (ap (λ b. if b then Some (with_more (fields_one bs) (drop 32 bs)) else None) test)

-- the applications that were read have these bytes
pub record AreRead (v : Version) (n : ℕ) (bs : List ℕ) (ss : List AppState) : Type 0 where
  pub bytes : flat_map (app_bytes_in v) ss ≡ bs
  pub count : length ss ≡ n
  pub same : map (as_read v) ss ≡ ss

none_read : (v : Version) (bs : List ℕ) (ss : List AppState) → none_left bs ≡ Some ss → AreRead v 0 bs ss
none_read v [] ss is =
    let empty : [] ≡ ss = cc in
    subst (λ (xs : List AppState). AreRead v 0 [] xs) empty (record { bytes = refl; count = refl; same = refl })
none_read v (b ∷ bs) ss is = cc

more_read : (v : Version) (n : ℕ) (bs : List ℕ) (s : AppState) (ss : List AppState) → IsRead v bs s → AreRead v n (drop (size_in v s) bs) ss
    → AreRead v (suc n) bs (s ∷ ss)
more_read v n bs s ss first rest = record {
  bytes =
      ap (λ (xs : List ℕ). app_bytes_in v s ++ xs) rest.bytes
      ∙ ap (λ (xs : List ℕ). xs ++ drop (size_in v s) bs) first.bytes
      ∙ take-append-drop (size_in v s) bs;
  count = ap suc rest.count;
  same = ap (λ (x : AppState). x ∷ map (as_read v) ss) first.same ∙ ap (λ (xs : List AppState). s ∷ xs) rest.same;
}

step_read : (v : Version) (n : ℕ) (bs : List ℕ) (s : AppState) (ss : List AppState) (o : Option (List AppState)) → IsRead v bs s
    → ((ts : List AppState) → o ≡ Some ts → AreRead v n (drop (size_in v s) bs) ts)
    → option_map (λ (ts : List AppState). s ∷ ts) o ≡ Some ss → AreRead v (suc n) bs ss
step_read v n bs s ss None first rest is = cc
step_read v n bs s ss (Some ts) first rest is =
    let same : s ∷ ts ≡ ss = cc in
    subst (λ (xs : List AppState). AreRead v (suc n) bs xs) same (more_read v n bs s ts first (rest ts refl))

app_read : (v : Version) (n : ℕ) (bs : List ℕ) (ss : List AppState) (o : Option AppState) (behind : AppState → Option (List AppState))
    → ((s : AppState) → o ≡ Some s → IsRead v bs s)
    → ((s : AppState) (ts : List AppState) → IsRead v bs s → behind s ≡ Some ts → AreRead v n (drop (size_in v s) bs) ts)
    → option_and_then (λ (s : AppState). option_map (λ (ts : List AppState). s ∷ ts) (behind s)) o ≡ Some ss → AreRead v (suc n) bs ss
app_read v n bs ss None behind first rest is = cc
app_read v n bs ss (Some s) behind first rest is =
    let read : IsRead v bs s = first s refl in
    step_read v n bs s ss (behind s) read (λ ts found. rest s ts read found) is

pub apps_in-are_read : (v : Version) (n : ℕ) (bs : List ℕ) (ss : List AppState) → ((i : ℕ) → get_or bs i 0 < 256) → apps_in v n bs ≡ Some ss
    → AreRead v n bs ss
unfolding apps_in
apps_in-are_read v zero bs ss fits is = none_read v bs ss is
apps_in-are_read v (suc n) bs ss fits is =
    app_read v n bs ss (app_in v bs) (λ (s : AppState). apps_in v n (drop (size_in v s) bs)) (λ s found. app_in-is_read v bs s fits found)
    (λ s ts read found. apps_in-are_read v n (drop (size_in v s) bs) ts (drop_fits bs (size_in v s) fits) found) is

-- reading one application after the other: what is read in all, with those in front so far

nothing_read : (o : Option (List AppState)) → o ≡ option_map (λ (ss : List AppState). [] ++ ss) o
nothing_read None = refl
nothing_read (Some ss) = refl

pub start_read : (v : Version) (n left : ℕ) (bytes : List ℕ) (front : List AppState) → front ≡ [] → left ≡ n
    → apps_in v n bytes ≡ option_map (λ (ss : List AppState). front ++ ss) (apps_in v left bytes)
start_read v n left bytes front empty same =
    nothing_read (apps_in v n bytes)
    ∙ ap (λ (xs : List AppState). option_map (λ (ss : List AppState). xs ++ ss) (apps_in v n bytes)) (sym empty)
    ∙ ap (λ (k : ℕ). option_map (λ (ss : List AppState). front ++ ss) (apps_in v k bytes)) (sym same)

pushed : (front : List AppState) (s : AppState) (o : Option (List AppState))
    → option_map (λ (ss : List AppState). front ++ ss) (option_map (λ (ss : List AppState). s ∷ ss) o)
    ≡ option_map (λ (ss : List AppState). (front ++ s ∷ []) ++ ss) o
pushed front s None = refl
pushed front s (Some ss) = ap (λ (xs : List AppState). Some xs) (sym (append_assoc front (s ∷ []) ss))

module _ (v : Version) (all : Option (List AppState)) (front : List AppState) (rest : List ℕ) where
  pub one_more_read : (n left size : ℕ) (s : AppState) → left ≡ suc n → Some s ≡ app_in v rest → size ≡ size_in v s
      → all ≡ option_map (λ (ss : List AppState). front ++ ss) (apps_in v left rest)
      → all ≡ option_map (λ (ss : List AppState). (front ++ s ∷ []) ++ ss) (apps_in v n (take (length rest - size) (drop size rest)))
  unfolding apps_in
  one_more_read n left size s some found is so_far =
      so_far
      ∙ ap (λ (k : ℕ). option_map (λ (ss : List AppState). front ++ ss) (apps_in v k rest)) some
      ∙ ap (λ (o : Option AppState). option_map (λ (ss : List AppState). front ++ ss) (option_and_then (λ (t : AppState). option_map (λ (ts : List AppState). t ∷ ts) (apps_in v n (drop (size_in v t) rest))) o)) (sym found)
      ∙ pushed front s (apps_in v n (drop (size_in v s) rest))
      ∙ ap (λ (bs : List ℕ). option_map (λ (ss : List AppState). (front ++ s ∷ []) ++ ss) (apps_in v n bs))
      (ap (λ (k : ℕ). drop k rest) (sym is) ∙ sym (take_rest rest size))

  pub not_read : (n left : ℕ) → left ≡ suc n → None ≡ app_in v rest
      → all ≡ option_map (λ (ss : List AppState). front ++ ss) (apps_in v left rest) → all ≡ None
  unfolding apps_in
  not_read n left some none so_far =
      so_far
      ∙ ap (λ (k : ℕ). option_map (λ (ss : List AppState). front ++ ss) (apps_in v k rest)) some
      ∙ ap (λ (o : Option AppState). option_map (λ (ss : List AppState). front ++ ss) (option_and_then (λ (t : AppState). option_map (λ (ts : List AppState). t ∷ ts) (apps_in v n (drop (size_in v t) rest))) o)) (sym none)

  left_over : (bytes : List ℕ) → (0 < length bytes → option_map (λ (ss : List AppState). front ++ ss) (none_left bytes) ≡ None)
      × (length bytes ≡ 0 → option_map (λ (ss : List AppState). front ++ ss) (none_left bytes) ≡ Some front)
  left_over [] = (λ some. absurd (omega arith), λ none. ap (λ (xs : List AppState). Some xs) (append-nil front))
  left_over (b ∷ bytes) = (λ some. refl, λ none. absurd (omega arith))

  pub whole_read : (left : ℕ) → left ≡ 0 → length rest ≡ 0
      → all ≡ option_map (λ (ss : List AppState). front ++ ss) (apps_in v left rest) → all ≡ Some front
  unfolding apps_in
  whole_read left none empty so_far =
      so_far ∙ ap (λ (k : ℕ). option_map (λ (ss : List AppState). front ++ ss) (apps_in v k rest)) none ∙ (left_over rest).1 empty

  pub more_left : (left : ℕ) → left ≡ 0 → 0 < length rest
      → all ≡ option_map (λ (ss : List AppState). front ++ ss) (apps_in v left rest) → all ≡ None
  unfolding apps_in
  more_left left none some so_far =
      so_far ∙ ap (λ (k : ℕ). option_map (λ (ss : List AppState). front ++ ss) (apps_in v k rest)) none ∙ (left_over rest).0 some
