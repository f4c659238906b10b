-- How the entries change as values and places do.
use Rattle.std.proofs.Common.{◌≡◌, ◌≢◌, ℕ, zero, suc, Bool, true, false, ◌+◌, ◌<◌, ◌≤◌, ◌==◌, nat_lt, nat_le, if◌then◌else◌, List, [], ◌∷◌, ◌++◌, length, take, drop, Option, Some, None, is_some, option_map, Ok, Err, refl, arith, sym, ap, ◌∙◌, append_assoc, length-append, length-drop, ◌⊎◌, inl, inr, subst, MatchOption}
use Rattle.std.specs.List.{insert, AllByRecursion, find, refill}
use Rattle.std.proofs.lemmas.List.{length-take, length-take-le, take_at, drop_at, drop-drop, append-nil, take-append-le, drop-append-le}
use Rattle.std.proofs.lemmas.List.Sums.{sum_by-cons}
use Rattle.std.proofs.Math.Seq.{take-add}
use Rattle.ber_tlv.specs.declared.tag.Tag.{Tag}
use Rattle.env_map.specs.Entries.{Entries, IsRising, value_of, with_object, with_value, size_of_values, is_tag_above, entries_after}
use Rattle.env_map.specs.Places.{entries_of, count_of_bytes, index_for, start_for, start_at}
use Rattle.env_map.specs.Put.{put_of, set_of}
use Rattle.env_map.specs.declared.place.ObjectPlace.{ObjectPlace}
use Rattle.env_map.specs.declared.env.EnvFault.TheVariants.{Repeated, TooMany, TooLong}

pub length-entries_of : (bytes : List ℕ) (places : List ObjectPlace) → length (entries_of bytes places) ≡ length places
length-entries_of bytes [] = refl
length-entries_of bytes (place ∷ places) = ap suc (length-entries_of (drop place.count bytes) places)

pub size_of_values-entries_of : (bytes : List ℕ) (places : List ObjectPlace) → count_of_bytes places ≤ length bytes → size_of_values (entries_of bytes places) ≡ count_of_bytes places
size_of_values-entries_of bytes [] within = refl
size_of_values-entries_of bytes (place ∷ places) within =
    let here : length (take place.count bytes) ≡ place.count = length-take-le place.count bytes (omega arith) in
    let rest : size_of_values (entries_of (drop place.count bytes) places) ≡ count_of_bytes places =
    size_of_values-entries_of (drop place.count bytes) places (omega (arith, length-drop place.count bytes)) in
    let step : size_of_values (entries_of bytes (place ∷ places)) ≡ length (take place.count bytes) + size_of_values (entries_of (drop place.count bytes) places) =
    sum_by-cons {X = ℕ × List ℕ} (λ entry. length entry.1) (place.tag.0, take place.count bytes) (entries_of (drop place.count bytes) places) in
    step ∙ rw (here, rest) refl

-- the first value, and the others behind it
entries_of-first : (front rest : List ℕ) (place : ObjectPlace) (places : List ObjectPlace) → length front ≡ place.count → entries_of (front ++ rest) (place ∷ places) ≡ (place.tag.0, front) ∷ entries_of rest places
entries_of-first front rest place places e = rw (take_at front rest place.count e, drop_at front rest place.count e) refl

-- the bytes with a value between, split behind the first of them
value_between : (count start : ℕ) (bytes value : List ℕ) → take (count + start) bytes ++ (value ++ drop (count + start) bytes)
    ≡ take count bytes ++ (take start (drop count bytes) ++ (value ++ drop start (drop count bytes)))
value_between count start bytes value = rw (take-add count start bytes, ← drop-drop start count bytes) (append_assoc (take count bytes) (take start (drop count bytes)) _)

-- the bytes with a value where an object of this tag goes
abbrev pub bytes_with : ℕ → List ℕ → List ℕ → List ObjectPlace → List ℕ
bytes_with tag value bytes places = take (start_for tag places) bytes ++ (value ++ drop (start_for tag places) bytes)

entries_of-insert_at : (test : Bool) (bytes value : List ℕ) (first : ObjectPlace) (places : List ObjectPlace) (place : ObjectPlace) → nat_lt place.tag.0 first.tag.0 ≡ test
    → place.count ≡ length value → first.count ≤ length bytes
    → entries_of (bytes_with place.tag.0 value (drop first.count bytes) places) (insert places (index_for place.tag.0 places) place) ≡ with_object place.tag.0 value (entries_of (drop first.count bytes) places)
    → entries_of (bytes_with place.tag.0 value bytes (first ∷ places)) (insert (first ∷ places) (index_for place.tag.0 (first ∷ places)) place) ≡ with_object place.tag.0 value (entries_of bytes (first ∷ places))
entries_of-insert_at true bytes value first places place test e within later =
    rw test (entries_of-first value bytes place (first ∷ places) (sym e))
entries_of-insert_at false bytes value first places place test e within later =
    let between = value_between first.count (start_for place.tag.0 places) bytes value in
    let kept = entries_of-first (take first.count bytes) (bytes_with place.tag.0 value (drop first.count bytes) places) first
    (insert places (index_for place.tag.0 places) place) (length-take-le first.count bytes within) in
    rw (test, between) (kept ∙ ap (λ entries. (first.tag.0, take first.count bytes) ∷ entries) later)

-- an entry more, before the first greater tag
pub entries_of-insert : (bytes value : List ℕ) (places : List ObjectPlace) (place : ObjectPlace) → place.count ≡ length value → count_of_bytes places ≤ length bytes
    → entries_of (bytes_with place.tag.0 value bytes places) (insert places (index_for place.tag.0 places) place) ≡ with_object place.tag.0 value (entries_of bytes places)
entries_of-insert bytes value [] place e within = entries_of-first value bytes place [] (sym e)
entries_of-insert bytes value (first ∷ places) place e within =
    entries_of-insert_at (nat_lt place.tag.0 first.tag.0) bytes value first places place refl e (omega arith)
    (entries_of-insert (drop first.count bytes) value places place e (omega (arith, length-drop first.count bytes)))

-- these tags are above this one
abbrev AllAbove : ℕ → Entries → Type 0
AllAbove tag entries = AllByRecursion (λ later. tag < later.0) entries

AllAbove-lower : (low high : ℕ) (entries : Entries) → low ≤ high → AllAbove high entries → AllAbove low entries
AllAbove-lower low high [] below all = tt
AllAbove-lower low high (entry ∷ entries) below (first, all) = (omega arith, AllAbove-lower low high entries below all)

AllAbove-with_at : (test : Bool) (least tag : ℕ) (value : List ℕ) (entry : ℕ × List ℕ) (entries : Entries) → nat_lt tag entry.0 ≡ test → least < tag → AllAbove least (entry ∷ entries)
    → AllAbove least (with_object tag value entries) → AllAbove least (with_object tag value (entry ∷ entries))
AllAbove-with_at true least tag value entry entries test below all later = rw test (below, all)
AllAbove-with_at false least tag value entry entries test below all later = rw test (all.0, later)

AllAbove-with : (least tag : ℕ) (value : List ℕ) (entries : Entries) → least < tag → AllAbove least entries → AllAbove least (with_object tag value entries)
AllAbove-with least tag value [] below all = (below, tt)
AllAbove-with least tag value (entry ∷ entries) below all =
    AllAbove-with_at (nat_lt tag entry.0) least tag value entry entries refl below all (AllAbove-with least tag value entries below all.1)

absent_later : (tag : ℕ) (entry : ℕ × List ℕ) (entries : Entries) → value_of tag (entry ∷ entries) ≡ None → (value_of tag entries ≡ None) × (entry.0 ≡ tag → ⊥)
absent_later tag entry entries absent = (grind arith, λ e. grind arith)

IsRising-with_at : (test : Bool) (tag : ℕ) (value : List ℕ) (entry : ℕ × List ℕ) (entries : Entries) → nat_lt tag entry.0 ≡ test → (entry.0 ≡ tag → ⊥) → IsRising (entry ∷ entries)
    → IsRising (with_object tag value entries) → IsRising (with_object tag value (entry ∷ entries))
IsRising-with_at true tag value entry entries test other rising later =
    let below : tag < entry.0 = grind arith in
    rw test ((below, AllAbove-lower tag entry.0 entries (omega arith) rising.0), rising)
IsRising-with_at false tag value entry entries test other rising later =
    let above : entry.0 < tag = grind arith in
    rw test (AllAbove-with entry.0 tag value entries above rising.0, later)

-- one entry more, of a tag that is absent, keeps the order
pub IsRising-with : (tag : ℕ) (value : List ℕ) (entries : Entries) → value_of tag entries ≡ None → IsRising entries → IsRising (with_object tag value entries)
IsRising-with tag value [] absent rising = (tt, tt)
IsRising-with tag value (entry ∷ entries) absent rising =
    let later = absent_later tag entry entries absent in
    IsRising-with_at (nat_lt tag entry.0) tag value entry entries refl later.1 rising (IsRising-with tag value entries later.0 rising.1)

pub count_of_bytes-insert : (places : List ObjectPlace) (index : ℕ) (place : ObjectPlace) → count_of_bytes (insert places index place) ≡ place.count + count_of_bytes places
count_of_bytes-insert places zero place = refl
count_of_bytes-insert [] (suc index) place = refl
count_of_bytes-insert (first ∷ places) (suc index) place =
    let later = count_of_bytes-insert places index place in omega arith

pub length-bytes_with : (start : ℕ) (bytes value : List ℕ) → length (take start bytes ++ (value ++ drop start bytes)) ≡ length value + length bytes
length-bytes_with start bytes value = simp (length-append, length-take, length-drop) (omega arith)

start_at-value_of_first : (test : Bool) (count : ℕ) (start : Option ℕ) (found : List ℕ) (value : Option (List ℕ)) → is_some start ≡ is_some value
    → is_some (if test then Some 0 else option_map (λ behind. count + behind) start) ≡ is_some (if test then Some found else value)
start_at-value_of_first true count start found value later = refl
start_at-value_of_first false count None found value later = later
start_at-value_of_first false count (Some start) found value later = later

-- a tag has a place exactly where it has a value
pub start_at-value_of : (bytes : List ℕ) (places : List ObjectPlace) (tag : ℕ) → is_some (start_at tag places) ≡ is_some (value_of tag (entries_of bytes places))
start_at-value_of bytes [] tag = refl
start_at-value_of bytes (place ∷ places) tag =
    start_at-value_of_first (place.tag.0 == tag) place.count (start_at tag places) (take place.count bytes) _ (start_at-value_of (drop place.count bytes) places tag)

-- the bytes with a value over others of the same length
abbrev pub bytes_over : ℕ → List ℕ → List ℕ → List ℕ
bytes_over start value bytes = take start bytes ++ (value ++ drop (start + length value) bytes)

value_over : (count start : ℕ) (bytes value : List ℕ) → bytes_over (count + start) value bytes ≡ take count bytes ++ bytes_over start value (drop count bytes)
value_over count start bytes value =
    let far : count + start + length value ≡ count + (start + length value) = omega arith in
    rw (take-add count start bytes, far, ← drop-drop (start + length value) count bytes) (append_assoc (take count bytes) (take start (drop count bytes)) _)

-- what a search for a tag's place and value found, at the first object or behind it
first_or_later : (test : Bool) (count start : ℕ) (later : Option ℕ) → (if test then Some 0 else option_map (λ behind. count + behind) later) ≡ Some start
    → ((test ≡ true) × (start ≡ 0)) ⊎ ((test ≡ false) × ((behind : ℕ) × (later ≡ Some behind) × (start ≡ count + behind)))
first_or_later true count start later e = inl (refl, cc)
first_or_later false count start None e = cc
first_or_later false count start (Some behind) e = inr (refl, (behind, refl, cc))

value_here : (test : Bool) (value found : List ℕ) (later : Option (List ℕ)) → test ≡ true → (if test then Some found else later) ≡ Some value → found ≡ value
value_here test value found later is e = grind arith

value_later : (test : Bool) (value found : List ℕ) (later : Option (List ℕ)) → test ≡ false → (if test then Some found else later) ≡ Some value → later ≡ Some value
value_later test value found later is e = grind arith

-- the bytes of a value, and where they end
pub value_within : (bytes old : List ℕ) (places : List ObjectPlace) (tag start : ℕ) → count_of_bytes places ≤ length bytes → start_at tag places ≡ Some start → value_of tag (entries_of bytes places) ≡ Some old
    → start + length old ≤ count_of_bytes places
value_within bytes old [] tag start within is_start is_old = cc
value_within bytes old (place ∷ places) tag start within is_start is_old =
    elim (first_or_later (place.tag.0 == tag) place.count start (start_at tag places) is_start) [
      | inl (here, at_front) ↦
          let same = value_here (place.tag.0 == tag) old (take place.count bytes) _ here is_old in
          let count : length old ≡ place.count = ap length (sym same) ∙ length-take-le place.count bytes (omega arith) in
          omega arith
      | inr (other, (behind, is_behind, is_far)) ↦
          let later = value_later (place.tag.0 == tag) old (take place.count bytes) _ other is_old in
          let fits = value_within (drop place.count bytes) old places tag behind (omega (arith, length-drop place.count bytes)) is_behind later in
          omega arith
    ]

-- another value of the same length, written over
pub entries_of-over : (bytes value old : List ℕ) (places : List ObjectPlace) (tag start : ℕ) → count_of_bytes places ≤ length bytes → start_at tag places ≡ Some start → value_of tag (entries_of bytes places) ≡ Some old
    → length old ≡ length value → entries_of (bytes_over start value bytes) places ≡ with_value tag value (entries_of bytes places)
entries_of-over bytes value old [] tag start within is_start is_old same_length = cc
entries_of-over bytes value old (place ∷ places) tag start within is_start is_old same_length =
    elim (first_or_later (place.tag.0 == tag) place.count start (start_at tag places) is_start) [
      | inl (here, at_front) ↦
          let same = value_here (place.tag.0 == tag) old (take place.count bytes) _ here is_old in
          let count : length value ≡ place.count = sym same_length ∙ ap length (sym same) ∙ length-take-le place.count bytes (omega arith) in
          let number : 0 + length value ≡ place.count = omega arith in
          let is_tag : place.tag.0 ≡ tag = grind arith in
          rw (at_front, here, number) (entries_of-first value (drop place.count bytes) place places count
          ∙ ap (λ first. (first, value) ∷ entries_of (drop place.count bytes) places) is_tag)
      | inr (other, (behind, is_behind, is_far)) ↦
          let later = value_later (place.tag.0 == tag) old (take place.count bytes) _ other is_old in
          let rest = entries_of-over (drop place.count bytes) value old places tag behind (omega (arith, length-drop place.count bytes)) is_behind later same_length in
          let kept = entries_of-first (take place.count bytes) (bytes_over behind value (drop place.count bytes)) place places (length-take-le place.count bytes (omega arith)) in
          rw (is_far, value_over place.count behind bytes value, other) (kept ∙ ap (λ entries. (place.tag.0, take place.count bytes) ∷ entries) rest)
    ]

AllAbove-value_at : (test : Bool) (least tag : ℕ) (value : List ℕ) (entry : ℕ × List ℕ) (entries : Entries) → (entry.0 == tag) ≡ test → AllAbove least (entry ∷ entries)
    → AllAbove least (with_value tag value entries) → AllAbove least (with_value tag value (entry ∷ entries))
AllAbove-value_at true least tag value entry entries test all later =
    let is_tag : entry.0 ≡ tag = grind arith in
    rw test (omega (arith, all.0), all.1)
AllAbove-value_at false least tag value entry entries test all later = rw test (all.0, later)

AllAbove-value : (least tag : ℕ) (value : List ℕ) (entries : Entries) → AllAbove least entries → AllAbove least (with_value tag value entries)
AllAbove-value least tag value [] all = tt
AllAbove-value least tag value (entry ∷ entries) all =
    AllAbove-value_at (entry.0 == tag) least tag value entry entries refl all (AllAbove-value least tag value entries all.1)

IsRising-value_at : (test : Bool) (tag : ℕ) (value : List ℕ) (entry : ℕ × List ℕ) (entries : Entries) → (entry.0 == tag) ≡ test → IsRising (entry ∷ entries)
    → IsRising (with_value tag value entries) → IsRising (with_value tag value (entry ∷ entries))
IsRising-value_at true tag value entry entries test rising later =
    let is_tag : entry.0 ≡ tag = grind arith in
    rw test (AllAbove-lower tag entry.0 entries (omega arith) rising.0, rising.1)
IsRising-value_at false tag value entry entries test rising later = rw test (AllAbove-value entry.0 tag value entries rising.0, later)

-- another value keeps the order
pub IsRising-value : (tag : ℕ) (value : List ℕ) (entries : Entries) → IsRising entries → IsRising (with_value tag value entries)
IsRising-value tag value [] rising = tt
IsRising-value tag value (entry ∷ entries) rising =
    IsRising-value_at (entry.0 == tag) tag value entry entries refl rising (IsRising-value tag value entries rising.1)

pub length-bytes_over : (start : ℕ) (value bytes : List ℕ) → start + length value ≤ length bytes → length (bytes_over start value bytes) ≡ length bytes
length-bytes_over start value bytes within = simp (length-append, length-take, length-drop) (omega arith)

-- the first entry above a tag is the least, and behind it are those above it
unfoldable pub Follows : Option Tag → Entries → Option (ℕ × List ℕ) → Type 0
Follows given entries None = entries_after given entries ≡ []
Follows given entries (Some entry) = (entries_after given entries ≡ entry ∷ entries_after (Some (record { 0 = entry.0 })) entries)

is_tag_above-higher : (given : Option Tag) (low high : ℕ) → low < high → is_tag_above given low ≡ true → is_tag_above given high ≡ true
is_tag_above-higher None low high below e = refl
is_tag_above-higher (Some tag) low high below e = grind arith

entries_after-first : (test : Bool) (given : Option Tag) (entry : ℕ × List ℕ) (entries : Entries) → is_tag_above given entry.0 ≡ test
    → entries_after given (entry ∷ entries) ≡ (if test then entry ∷ entries_after given entries else entries_after given entries)
entries_after-first true given entry entries test = rw test refl
entries_after-first false given entry entries test = rw test refl

entries_after-all : (given : Option Tag) (tag : ℕ) (entries : Entries) → is_tag_above given tag ≡ true → AllAbove tag entries → entries_after given entries ≡ entries
entries_after-all given tag [] above all = refl
entries_after-all given tag (entry ∷ entries) above all =
    entries_after-first true given entry entries (is_tag_above-higher given tag entry.0 all.0 above)
    ∙ ap (λ rest. entry ∷ rest) (entries_after-all given tag entries above all.1)

entries_after_own : (tag : ℕ) (entries : Entries) → AllAbove tag entries → entries_after (Some (record { 0 = tag })) entries ≡ entries
entries_after_own tag [] all = refl
entries_after_own tag (entry ∷ entries) all =
    let above : is_tag_above (Some (record { 0 = tag })) entry.0 ≡ true = grind arith in
    entries_after-first true (Some (record { 0 = tag })) entry entries above ∙ ap (λ rest. entry ∷ rest) (entries_after_own tag entries all.1)

-- the first entry above a tag
abbrev pub first_after : Option Tag → Entries → Option (ℕ × List ℕ)
first_after given entries = find (λ entry. is_tag_above given entry.0) entries

first_after-first : (test : Bool) (given : Option Tag) (entry : ℕ × List ℕ) (entries : Entries) → is_tag_above given entry.0 ≡ test
    → first_after given (entry ∷ entries) ≡ (if test then Some entry else first_after given entries)
first_after-first true given entry entries test = rw test refl
first_after-first false given entry entries test = rw test refl

-- what is found among entries above a tag is above it
abbrev FoundAbove : ℕ → Option (ℕ × List ℕ) → Type 0
FoundAbove tag None = Unit {0}
FoundAbove tag (Some entry) = tag < entry.0

FoundAbove-first : (test : Bool) (tag : ℕ) (entry : ℕ × List ℕ) (later : Option (ℕ × List ℕ)) → tag < entry.0 → FoundAbove tag later → FoundAbove tag (if test then Some entry else later)
FoundAbove-first true tag entry later here found = here
FoundAbove-first false tag entry later here found = found

FoundAbove-found : (given : Option Tag) (tag : ℕ) (entries : Entries) → AllAbove tag entries → FoundAbove tag (first_after given entries)
FoundAbove-found given tag [] all = tt
FoundAbove-found given tag (entry ∷ entries) all =
    FoundAbove-first (is_tag_above given entry.0) tag entry (first_after given entries) all.0 (FoundAbove-found given tag entries all.1)

Follows-later : (given : Option Tag) (entry : ℕ × List ℕ) (entries : Entries) (found : Option (ℕ × List ℕ)) → is_tag_above given entry.0 ≡ false → FoundAbove entry.0 found
    → Follows given entries found → Follows given (entry ∷ entries) found
unfolding Follows
Follows-later given entry entries None skipped above follows = entries_after-first false given entry entries skipped ∙ follows
Follows-later given entry entries (Some found) skipped above follows =
    let passed : is_tag_above (Some (record { 0 = found.0 })) entry.0 ≡ false = grind arith in
    entries_after-first false given entry entries skipped ∙ follows
    ∙ ap (λ rest. found ∷ rest) (sym (entries_after-first false (Some (record { 0 = found.0 })) entry entries passed))

Follows-at : (test : Bool) (given : Option Tag) (entry : ℕ × List ℕ) (entries : Entries) → is_tag_above given entry.0 ≡ test → IsRising (entry ∷ entries)
    → Follows given entries (first_after given entries) → Follows given (entry ∷ entries) (if test then Some entry else first_after given entries)
unfolding Follows
Follows-at true given entry entries test rising follows =
    let here : is_tag_above (Some (record { 0 = entry.0 })) entry.0 ≡ false = grind arith in
    let all = entries_after-all given entry.0 entries test rising.0 in
    let behind : entries_after (Some (record { 0 = entry.0 })) entries ≡ entries = entries_after_own entry.0 entries rising.0 in
    entries_after-first true given entry entries test
    ∙ ap (λ rest. entry ∷ rest) (all ∙ sym behind ∙ sym (entries_after-first false (Some (record { 0 = entry.0 })) entry entries here))
Follows-at false given entry entries test rising follows =
    Follows-later given entry entries (first_after given entries) test (FoundAbove-found given entry.0 entries rising.0) follows

pub Follows-found : (given : Option Tag) (entries : Entries) → IsRising entries → Follows given entries (first_after given entries)
unfolding Follows
Follows-found given [] rising = refl
Follows-found given (entry ∷ entries) rising =
    rw (first_after-first (is_tag_above given entry.0) given entry entries refl)
    (Follows-at (is_tag_above given entry.0) given entry entries refl rising (Follows-found given entries rising.1))

-- the same of what a search returned
pub Follows-returned : {X : Type 0} (shown : X → ℕ × List ℕ) (result : Option X) (given : Option Tag) (entries : Entries) → IsRising entries
    → option_map shown result ≡ first_after given entries
    → MatchOption result (entries_after given entries ≡ []) (λ entry. entries_after given entries ≡ shown entry ∷ entries_after (Some (record { 0 = (shown entry).0 })) entries)
unfolding Follows
Follows-returned shown None given entries rising found =
    let P : Option (ℕ × List ℕ) → Type 0 = λ o. Follows given entries o in subst P (sym found) (Follows-found given entries rising)
Follows-returned shown (Some entry) given entries rising found =
    let P : Option (ℕ × List ℕ) → Type 0 = λ o. Follows given entries o in subst P (sym found) (Follows-found given entries rising)

-- what `put` and `set` make of an absent tag
pub absent : {X : Type 0} (shown : X → List ℕ) (result : Option X) (value : Option (List ℕ)) → option_map shown result ≡ value → is_some result ≡ false → value ≡ None
absent shown None value e none = sym e
absent shown (Some x) value e none = cc

pub put_of-many : (tag : Tag) (value : List ℕ) (entries : Entries) → value_of tag.0 entries ≡ None → 512 ≤ length entries → put_of tag value entries ≡ Err TooMany
put_of-many tag value entries none many = rw none (grind arith)

pub put_of-long : (tag : Tag) (value : List ℕ) (entries : Entries) → value_of tag.0 entries ≡ None → length entries < 512 → 16384 < size_of_values entries + length value → put_of tag value entries ≡ Err TooLong
put_of-long tag value entries none few long = rw none (grind arith)

pub put_of-fits : (tag : Tag) (value : List ℕ) (entries : Entries) → value_of tag.0 entries ≡ None → length entries < 512 → size_of_values entries + length value ≤ 16384
    → put_of tag value entries ≡ Ok (with_object tag.0 value entries)
put_of-fits tag value entries none few short = rw none (grind arith)

-- the entries of the bytes and places as `put` leaves them
pub entries_of-put : (bytes value new_bytes : List ℕ) (places new_places : List ObjectPlace) (tag : Tag) (index start : ℕ) → count_of_bytes places ≤ length bytes
    → index ≡ index_for tag.0 places → start ≡ start_for tag.0 places
    → new_bytes ≡ take start bytes ++ (value ++ drop start bytes) → new_places ≡ insert places index (record { tag = tag; count = length value })
    → entries_of new_bytes new_places ≡ with_object tag.0 value (entries_of bytes places)
entries_of-put bytes value new_bytes places new_places tag index start within is_index is_start is_bytes is_places =
    rw (is_bytes, is_places, is_index, is_start) (entries_of-insert bytes value places (record { tag = tag; count = length value }) refl within)

pub filled-put : (bytes value new_bytes : List ℕ) (places new_places : List ObjectPlace) (tag : Tag) (index start : ℕ) → count_of_bytes places ≡ length bytes
    → new_bytes ≡ take start bytes ++ (value ++ drop start bytes) → new_places ≡ insert places index (record { tag = tag; count = length value })
    → count_of_bytes new_places ≡ length new_bytes
filled-put bytes value new_bytes places new_places tag index start filled is_bytes is_places =
    rw (is_bytes, is_places, count_of_bytes-insert places index (record { tag = tag; count = length value }), length-bytes_with start bytes value, filled) refl

some_value : (value : Option (List ℕ)) → is_some value ≡ true → (old : List ℕ) × (value ≡ Some old)
some_value None e = cc
some_value (Some old) e = (old, refl)

-- a tag that has a place has a value
pub present : (bytes : List ℕ) (places : List ObjectPlace) (tag start : ℕ) → start_at tag places ≡ Some start → (old : List ℕ) × (value_of tag (entries_of bytes places) ≡ Some old)
present bytes places tag start is_start =
    some_value (value_of tag (entries_of bytes places)) (sym (start_at-value_of bytes places tag) ∙ ap is_some is_start)

-- the value of a tag that has a place ends within the bytes
pub over_within : (bytes value : List ℕ) (places : List ObjectPlace) (tag start : ℕ) → count_of_bytes places ≡ length bytes → start_at tag places ≡ Some start
    → ((old : List ℕ) → value_of tag (entries_of bytes places) ≡ Some old → length old ≡ length value) → start + length value ≤ length bytes
over_within bytes value places tag start filled is_start same_length =
    let old = present bytes places tag start is_start in
    let fits = value_within bytes old.0 places tag start (omega arith) is_start old.1 in
    let same = same_length old.0 old.1 in
    omega arith

-- the bytes as a write over a part of them leaves them
pub refilled : (bytes value new_bytes : List ℕ) (start : ℕ) → start + length value ≤ length bytes → new_bytes ≡ bytes_over start value bytes → refill (length bytes) bytes new_bytes ≡ bytes_over start value bytes
refilled bytes value new_bytes start within is_bytes =
    take_at new_bytes (drop (length new_bytes) bytes) (length bytes) (ap length is_bytes ∙ length-bytes_over start value bytes within) ∙ is_bytes

pub entries_of-set : (bytes value : List ℕ) (places : List ObjectPlace) (tag start : ℕ) → count_of_bytes places ≡ length bytes → start_at tag places ≡ Some start
    → ((old : List ℕ) → value_of tag (entries_of bytes places) ≡ Some old → length old ≡ length value)
    → entries_of (bytes_over start value bytes) places ≡ with_value tag value (entries_of bytes places)
entries_of-set bytes value places tag start filled is_start same_length =
    let old = present bytes places tag start is_start in
    entries_of-over bytes value old.0 places tag start (omega arith) is_start old.1 (same_length old.0 old.1)

pub set_of-present : (tag : Tag) (value : List ℕ) (entries : Entries) → is_some (value_of tag.0 entries) ≡ true → set_of tag value entries ≡ Ok (with_value tag.0 value entries)
set_of-present tag value entries there = rw there refl

pub set_of-absent : (tag : Tag) (value : List ℕ) (entries : Entries) → is_some (value_of tag.0 entries) ≡ false → set_of tag value entries ≡ put_of tag value entries
set_of-absent tag value entries missing = rw missing refl

-- the value at a tag that was put, and at the others
value_of-with_at : (here : Bool) (tag : ℕ) (value : List ℕ) (entry : ℕ × List ℕ) (entries : Entries) → nat_lt tag entry.0 ≡ here → (entry.0 == tag) ≡ false
    → value_of tag (with_object tag value entries) ≡ Some value → value_of tag (with_object tag value (entry ∷ entries)) ≡ Some value
value_of-with_at true tag value entry entries test other later =
    let same : (tag == tag) ≡ true = grind arith in
    rw (test, same) refl
value_of-with_at false tag value entry entries test other later = rw (test, other) later

value_of-with : (tag : ℕ) (value : List ℕ) (entries : Entries) → value_of tag entries ≡ None → value_of tag (with_object tag value entries) ≡ Some value
value_of-with tag value [] absent = let same : (tag == tag) ≡ true = grind arith in rw same refl
value_of-with tag value (entry ∷ entries) absent =
    let later = absent_later tag entry entries absent in
    let other : (entry.0 == tag) ≡ false = grind (arith, later.1) in
    value_of-with_at (nat_lt tag entry.0) tag value entry entries refl other (value_of-with tag value entries later.0)

value_of-with_other_at : (here : Bool) (tag other : ℕ) (value : List ℕ) (entry : ℕ × List ℕ) (entries : Entries) → nat_lt tag entry.0 ≡ here → (tag == other) ≡ false
    → value_of other (with_object tag value entries) ≡ value_of other entries → value_of other (with_object tag value (entry ∷ entries)) ≡ value_of other (entry ∷ entries)
value_of-with_other_at true tag other value entry entries test apart later = rw (test, apart) refl
value_of-with_other_at false tag other value entry entries test apart later = rw (test, later) refl

value_of-with_other : (tag other : ℕ) (value : List ℕ) (entries : Entries) → (tag == other) ≡ false → value_of other (with_object tag value entries) ≡ value_of other entries
value_of-with_other tag other value [] apart = rw apart refl
value_of-with_other tag other value (entry ∷ entries) apart =
    value_of-with_other_at (nat_lt tag entry.0) tag other value entry entries refl apart (value_of-with_other tag other value entries apart)

-- the same where a value is written over
value_of-over_at : (here : Bool) (tag : ℕ) (value : List ℕ) (entry : ℕ × List ℕ) (entries : Entries) → (entry.0 == tag) ≡ here → is_some (value_of tag (entry ∷ entries)) ≡ true
    → (is_some (value_of tag entries) ≡ true → value_of tag (with_value tag value entries) ≡ Some value) → value_of tag (with_value tag value (entry ∷ entries)) ≡ Some value
value_of-over_at true tag value entry entries test there later = let same : (tag == tag) ≡ true = grind arith in rw (test, same) refl
value_of-over_at false tag value entry entries test there later = rw (test, test) (later (rw test at there))

value_of-over : (tag : ℕ) (value : List ℕ) (entries : Entries) → is_some (value_of tag entries) ≡ true → value_of tag (with_value tag value entries) ≡ Some value
value_of-over tag value [] there = cc
value_of-over tag value (entry ∷ entries) there = value_of-over_at (entry.0 == tag) tag value entry entries refl there (value_of-over tag value entries)

value_of-over_other_at : (here : Bool) (tag other : ℕ) (value : List ℕ) (entry : ℕ × List ℕ) (entries : Entries) → (entry.0 == tag) ≡ here → (tag == other) ≡ false
    → value_of other (with_value tag value entries) ≡ value_of other entries → value_of other (with_value tag value (entry ∷ entries)) ≡ value_of other (entry ∷ entries)
value_of-over_other_at true tag other value entry entries test apart later =
    let skipped : (entry.0 == other) ≡ false = grind arith in
    rw (test, apart, skipped) refl
value_of-over_other_at false tag other value entry entries test apart later = rw (test, later) refl

value_of-over_other : (tag other : ℕ) (value : List ℕ) (entries : Entries) → (tag == other) ≡ false → value_of other (with_value tag value entries) ≡ value_of other entries
value_of-over_other tag other value [] apart = refl
value_of-over_other tag other value (entry ∷ entries) apart =
    value_of-over_other_at (entry.0 == tag) tag other value entry entries refl apart (value_of-over_other tag other value entries apart)

-- what `put` and `set` leave at each tag
pub record Puts (old new : Entries) (tag : ℕ) (value : List ℕ) : Type 0 where
  pub there : value_of tag new ≡ Some value
  pub others : (other : ℕ) → other ≢ tag → value_of other new ≡ value_of other old

apart : (tag other : ℕ) → other ≢ tag → (tag == other) ≡ false
apart tag other different = grind arith

puts_at : (found : Option (List ℕ)) (many long : Bool) (tag : Tag) (value : List ℕ) (old new : Entries) → value_of tag.0 old ≡ found
    → (if is_some found then Err (Repeated tag) else if many then Err TooMany else if long then Err TooLong else Ok (with_object tag.0 value old)) ≡ Ok new → Puts old new tag.0 value
puts_at (Some before) many long tag value old new is_found e = cc
puts_at None true long tag value old new is_found e = cc
puts_at None false true tag value old new is_found e = cc
puts_at None false false tag value old new is_found e =
    let same : with_object tag.0 value old ≡ new = cc in
    record {
      there = ap (value_of tag.0) (sym same) ∙ value_of-with tag.0 value old is_found;
      others = λ other different. ap (value_of other) (sym same) ∙ value_of-with_other tag.0 other value old (apart tag.0 other different);
    }

pub put_of-puts : (tag : Tag) (value : List ℕ) (old new : Entries) → put_of tag value old ≡ Ok new → Puts old new tag.0 value
put_of-puts tag value old new e = puts_at (value_of tag.0 old) (nat_le 512 (length old)) (nat_lt 16384 (size_of_values old + length value)) tag value old new refl e

set_of-puts_at : (there : Bool) (tag : Tag) (value : List ℕ) (old new : Entries) → is_some (value_of tag.0 old) ≡ there
    → (if there then Ok (with_value tag.0 value old) else put_of tag value old) ≡ Ok new → Puts old new tag.0 value
set_of-puts_at true tag value old new test e =
    let same : with_value tag.0 value old ≡ new = cc in
    record {
      there = ap (value_of tag.0) (sym same) ∙ value_of-over tag.0 value old test;
      others = λ other different. ap (value_of other) (sym same) ∙ value_of-over_other tag.0 other value old (apart tag.0 other different);
    }
set_of-puts_at false tag value old new test e = put_of-puts tag value old new e

pub set_of-puts : (tag : Tag) (value : List ℕ) (old new : Entries) → set_of tag value old ≡ Ok new → Puts old new tag.0 value
set_of-puts tag value old new e = set_of-puts_at (is_some (value_of tag.0 old)) tag value old new refl e

-- the tags of these entries are below this one
abbrev AllBelow : ℕ → Entries → Type 0
AllBelow tag entries = AllByRecursion (λ entry. entry.0 < tag) entries

-- an object behind all others
pub value_of-below : (tag : ℕ) (entries : Entries) → AllBelow tag entries → value_of tag entries ≡ None
value_of-below tag [] all = refl
value_of-below tag (entry ∷ entries) (below, all) =
    let other : (entry.0 == tag) ≡ false = grind arith in
    rw other (value_of-below tag entries all)

with_object-below : (tag : ℕ) (value : List ℕ) (entries : Entries) → AllBelow tag entries → entries ++ (tag, value) ∷ [] ≡ with_object tag value entries
with_object-below tag value [] all = refl
with_object-below tag value (entry ∷ entries) (below, all) =
    let later : nat_lt tag entry.0 ≡ false = grind arith in
    rw later (ap (λ (es : Entries). entry ∷ es) (with_object-below tag value entries all))

entries_of-append : (bytes value : List ℕ) (places : List ObjectPlace) (place : ObjectPlace) → count_of_bytes places ≡ length bytes → place.count ≡ length value
    → entries_of (bytes ++ value) (places ++ place ∷ []) ≡ entries_of bytes places ++ (place.tag.0, value) ∷ []
entries_of-append [] value [] place filled is =
    ap (λ (all : List ℕ). entries_of all (place ∷ [])) (sym (append-nil value)) ∙ entries_of-first value [] place [] (sym is)
entries_of-append (b ∷ bs) value [] place filled is = absurd (omega arith)
entries_of-append bytes value (first ∷ places) place filled is =
    let short : first.count ≤ length bytes = omega arith in
    let later = entries_of-append (drop first.count bytes) value places place (omega (arith, length-drop first.count bytes)) is in
    rw (take-append-le first.count bytes value short, drop-append-le first.count bytes value short)
    (ap (λ (es : Entries). (first.tag.0, take first.count bytes) ∷ es) later)

count_of_bytes-append : (places : List ObjectPlace) (place : ObjectPlace) → count_of_bytes (places ++ place ∷ []) ≡ count_of_bytes places + place.count
count_of_bytes-append [] place = omega arith
count_of_bytes-append (first ∷ places) place = let later = count_of_bytes-append places place in omega arith

-- the entries of the bytes and places as an object behind all others leaves them
pub entries_of-behind : (bytes value new_bytes : List ℕ) (places new_places : List ObjectPlace) (tag : Tag) → count_of_bytes places ≡ length bytes
    → AllBelow tag.0 (entries_of bytes places) → new_bytes ≡ bytes ++ value → new_places ≡ places ++ record { tag = tag; count = length value } ∷ []
    → entries_of new_bytes new_places ≡ with_object tag.0 value (entries_of bytes places)
entries_of-behind bytes value new_bytes places new_places tag filled below is_bytes is_places =
    rw (is_bytes, is_places) (entries_of-append bytes value places (record { tag = tag; count = length value }) filled refl ∙ with_object-below tag.0 value (entries_of bytes places) below)

pub filled-behind : (bytes value new_bytes : List ℕ) (places new_places : List ObjectPlace) (tag : Tag) → count_of_bytes places ≡ length bytes
    → new_bytes ≡ bytes ++ value → new_places ≡ places ++ record { tag = tag; count = length value } ∷ [] → count_of_bytes new_places ≡ length new_bytes
filled-behind bytes value new_bytes places new_places tag filled is_bytes is_places =
    let count = count_of_bytes-append places (record { tag = tag; count = length value }) in
    rw (is_bytes, is_places) (omega (arith, length-append bytes value))

above_last : (least : ℕ) (bytes : List ℕ) (places : List ObjectPlace) (last : ObjectPlace) → AllAbove least (entries_of bytes (places ++ last ∷ [])) → least < last.tag.0
above_last least bytes [] last all = all.0
above_last least bytes (first ∷ places) last all = above_last least (drop first.count bytes) places last all.1

-- a tag above the last one is above all
pub below_last : (bytes : List ℕ) (places : List ObjectPlace) (last : ObjectPlace) (tag : ℕ) → IsRising (entries_of bytes (places ++ last ∷ [])) → last.tag.0 < tag
    → AllBelow tag (entries_of bytes (places ++ last ∷ []))
below_last bytes [] last tag rising low = (low, tt)
below_last bytes (first ∷ places) last tag rising low =
    let here = above_last first.tag.0 (drop first.count bytes) places last rising.0 in
    (omega arith, below_last (drop first.count bytes) places last tag rising.1 low)
