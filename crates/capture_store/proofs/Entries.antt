-- The state of a list reads back as that list, and grows and shrinks with it.
use Rattle.std.proofs.Common.{◌≡◌, ℕ, zero, suc, ◌+◌, ◌-◌, ◌*◌, ◌/◌, ◌%◌, ◌<◌, ◌≤◌, List, [], ◌∷◌, ◌++◌, take, drop, length, get_or, refl, ap, sym, subst, ◌∙◌, arith, append-nil, append_assoc, length-append}
use Rattle.std.specs.Prelude.{All}
use Rattle.std.proofs.lemmas.List.{take_at, take_rest, drop_at, drop-drop, length_push}
use Rattle.capture_store.specs.Spelling.{IsCaptureMessage, IsList, IsState, counted_message, counted_messages, state_of_list, messages_in, list_of_state}

size_is : (message : List ℕ) → length message / 256 * 256 + length message % 256 ≡ length message
size_is message = omega arith

read_entries : (list : List (List ℕ)) → messages_in (length list) (counted_messages list) ≡ list
read_entries [] = refl
read_entries (m ∷ ms) =
    let size : ℕ = length m / 256 * 256 + length m % 256 in
    let text : List ℕ = m ++ counted_messages ms in
    let first : take size text ≡ m = take_at m (counted_messages ms) size (sym (size_is m)) in
    let rest : drop size text ≡ counted_messages ms = drop_at m (counted_messages ms) size (sym (size_is m)) in
    ap (λ (x : List ℕ). x ∷ messages_in (length ms) (drop size text)) first
    ∙ ap (λ (xs : List ℕ). m ∷ messages_in (length ms) xs) rest
    ∙ ap (λ (xs : List (List ℕ)). m ∷ xs) (read_entries ms)

-- the state of a list reads back as the list
pub read_state : (list : List (List ℕ)) → list_of_state (state_of_list list) ≡ list
read_state list = read_entries list

-- the state of a list that fits is one of a list
pub is_state : (list : List (List ℕ)) → IsList list → IsState (state_of_list list)
is_state list fits = record {
  is_list = subst IsList (sym (read_state list)) fits;
  spelled = ap state_of_list (sym (read_state list));
}

-- what holds of the state of a list that fits holds of a state
at_state : (P : List ℕ → List (List ℕ) → Type 0) (state : List ℕ) → IsState state → ((list : List (List ℕ)) → IsList list → P (state_of_list list) list)
    → P state (list_of_state state)
at_state P state is holds = let Q : List ℕ → Type 0 = λ s. P s (list_of_state state) in subst Q (sym is.spelled) (holds (list_of_state state) is.is_list)

each_rest : (m : List ℕ) (ms : List (List ℕ)) → All IsCaptureMessage (m ∷ ms) → All IsCaptureMessage ms
each_rest m ms each k d inside = each (suc k) d (omega arith)

each_first : (m : List ℕ) (ms : List (List ℕ)) → All IsCaptureMessage (m ∷ ms) → IsCaptureMessage m
each_first m ms each = each 0 m (omega arith)

entries_short : (list : List (List ℕ)) → All IsCaptureMessage list → length (counted_messages list) ≤ 141 * length list
entries_short [] each = omega arith
entries_short (m ∷ ms) each =
    let rest = entries_short ms (each_rest m ms each) in
    let first = (each_first m ms each).short in
    let whole : length (m ++ counted_messages ms) ≡ length m + length (counted_messages ms) = length-append m (counted_messages ms) in
    omega (arith, rest, first, whole)

-- a state has at most 141 bytes a message, behind two
pub state_short : (state : List ℕ) → IsState state → length state ≤ 141 * length (list_of_state state) + 2
state_short state is =
    at_state (λ s list. length s ≤ 141 * length list + 2) state is (λ list fits. let short = entries_short list fits.each in omega (arith, short))

-- one more message stands behind the others
entries_more : (list : List (List ℕ)) (m : List ℕ) → counted_messages (list ++ m ∷ []) ≡ counted_messages list ++ counted_message m
entries_more [] m = append-nil (counted_message m)
entries_more (x ∷ xs) m = ap (λ (bytes : List ℕ). counted_message x ++ bytes) (entries_more xs m) ∙ sym (append_assoc (counted_message x) (counted_messages xs) (counted_message m))

each_more : (list : List (List ℕ)) (m : List ℕ) → All IsCaptureMessage list → IsCaptureMessage m → All IsCaptureMessage (list ++ m ∷ [])
each_more [] m each is = alone
  where
    alone : All IsCaptureMessage (m ∷ [])
    alone zero d inside = is
    alone (suc k) d inside = absurd (omega arith)
each_more (x ∷ xs) m each is = longer (each_more xs m (each_rest x xs each) is)
  where
    longer : All IsCaptureMessage (xs ++ m ∷ []) → All IsCaptureMessage (x ∷ (xs ++ m ∷ []))
    longer rest zero d inside = each 0 d (omega arith)
    longer rest (suc k) d inside = rest k d (omega arith)

-- the list with one more message
pub list_more : (list : List (List ℕ)) (m : List ℕ) → IsList list → length list < 7 → IsCaptureMessage m → IsList (list ++ m ∷ [])
list_more list m fits room is = record {
  few = let more = length_push list m in omega (arith, more);
  each = each_more list m fits.each is;
}

-- the state with one more message
longer_is : (state m : List ℕ) → IsState state → (1 ∷ (length (list_of_state state) + 1) ∷ drop 2 state) ++ counted_message m ≡ state_of_list (list_of_state state ++ m ∷ [])
longer_is state m is =
    at_state (λ s list. (1 ∷ (length list + 1) ∷ drop 2 s) ++ counted_message m ≡ state_of_list (list ++ m ∷ [])) state is
    (λ list fits.
    ap (λ n. 1 ∷ n ∷ (counted_messages list ++ counted_message m)) (sym (length_push list m))
    ∙ ap (λ (bytes : List ℕ). 1 ∷ length (list ++ m ∷ []) ∷ bytes) (sym (entries_more list m)))

-- and so it is put together
pub longer_put : (state m : List ℕ) (count : ℕ) (begun counted copied out : List ℕ) → IsState state → count ≡ length (list_of_state state) → begun ≡ []
    → counted ≡ begun ++ 1 ∷ (count + 1) ∷ [] → copied ≡ counted ++ take (length state - 2) (drop 2 state) → out ≡ copied ++ counted_message m
    → out ≡ state_of_list (list_of_state state ++ m ∷ [])
longer_put state m count begun counted copied out is count_is begun_is counted_is copied_is out_is =
    let rest : List ℕ = take (length state - 2) (drop 2 state) in
    out_is
    ∙ ap (λ (xs : List ℕ). xs ++ counted_message m) (copied_is ∙ ap (λ (xs : List ℕ). xs ++ rest) (counted_is ∙ ap (λ (xs : List ℕ). xs ++ 1 ∷ (count + 1) ∷ []) begun_is))
    ∙ ap (λ (xs : List ℕ). 1 ∷ (count + 1) ∷ (xs ++ counted_message m)) (take_rest state 2)
    ∙ ap (λ n. 1 ∷ (n + 1) ∷ (drop 2 state ++ counted_message m)) count_is
    ∙ longer_is state m is

pub longer_state : (state m out : List ℕ) → IsState state → length (list_of_state state) < 7 → IsCaptureMessage m → out ≡ state_of_list (list_of_state state ++ m ∷ []) → IsState out
longer_state state m out is room message same =
    subst IsState (sym same) (is_state (list_of_state state ++ m ∷ []) (list_more (list_of_state state) m is.is_list room message))

pub same_list : (out : List ℕ) (list : List (List ℕ)) → out ≡ state_of_list list → list_of_state out ≡ list
same_list out list same = ap list_of_state same ∙ read_state list

abbrev size_at : List ℕ → ℕ
size_at state = get_or state 2 0 * 256 + get_or state 3 0

module _ (state : List ℕ) (is : IsState state) (some : 0 < length (list_of_state state)) where
  -- the state without it
  shorter_is : 1 ∷ (length (list_of_state state) - 1) ∷ drop (4 + size_at state) state ≡ state_of_list (drop 1 (list_of_state state))
  shorter_is = at_state (λ s list. 0 < length list → 1 ∷ (length list - 1) ∷ drop (4 + size_at s) s ≡ state_of_list (drop 1 list)) state is left some
    where
      left : (list : List (List ℕ)) → IsList list → 0 < length list
          → 1 ∷ (length list - 1) ∷ drop (4 + size_at (state_of_list list)) (state_of_list list) ≡ state_of_list (drop 1 list)
      left [] fits some = absurd (omega arith)
      left (m ∷ ms) fits some =
          let size : ℕ = size_at (state_of_list (m ∷ ms)) in
          let behind : drop (4 + size) (state_of_list (m ∷ ms)) ≡ counted_messages ms =
          sym (drop-drop size 4 (state_of_list (m ∷ ms))) ∙ drop_at m (counted_messages ms) size (sym (size_is m)) in
          let count : length (m ∷ ms) - 1 ≡ length ms = omega arith in
          ap (λ (bytes : List ℕ). 1 ∷ (length (m ∷ ms) - 1) ∷ bytes) behind ∙ ap (λ n. 1 ∷ n ∷ counted_messages ms) count

  -- and so it is put together
  pub shorter_put : (count size : ℕ) (begun counted out : List ℕ) → count ≡ length (list_of_state state) → size ≡ size_at state → begun ≡ []
      → counted ≡ begun ++ 1 ∷ (count - 1) ∷ [] → out ≡ counted ++ take (length state - (4 + size)) (drop (4 + size) state)
      → out ≡ state_of_list (drop 1 (list_of_state state))
  shorter_put count size begun counted out count_is size_is begun_is counted_is out_is =
      let rest : List ℕ = take (length state - (4 + size)) (drop (4 + size) state) in
      out_is
      ∙ ap (λ (xs : List ℕ). xs ++ rest) (counted_is ∙ ap (λ (xs : List ℕ). xs ++ 1 ∷ (count - 1) ∷ []) begun_is)
      ∙ ap (λ (xs : List ℕ). 1 ∷ (count - 1) ∷ xs) (take_rest state (4 + size))
      ∙ ap (λ n. 1 ∷ (n - 1) ∷ drop (4 + size) state) count_is
      ∙ ap (λ n. 1 ∷ (length (list_of_state state) - 1) ∷ drop (4 + n) state) size_is
      ∙ shorter_is

-- the list without its first message
pub list_less : (list : List (List ℕ)) → IsList list → IsList (drop 1 list)
list_less [] fits = fits
list_less (m ∷ ms) fits = record { few = let few = fits.few in omega (arith, few); each = each_rest m ms fits.each }

pub shorter_state : (state out : List ℕ) → IsState state → out ≡ state_of_list (drop 1 (list_of_state state)) → IsState out
shorter_state state out is same = subst IsState (sym same) (is_state (drop 1 (list_of_state state)) (list_less (list_of_state state) is.is_list))
