-- What a header names, and that it names the same pages in every reading where it has its form in each.
use Rattle.std.proofs.Common.{◌≡◌, ◌≤◌, ◌-◌, ℕ, zero, suc, List, [], ◌∷◌, length, take, map, replicate, refl, ap, sym, ◌∙◌, arith, Option, Some, None, Bool, true, false, ◌&&◌, nat_lt, nat_le, lit<}
use Rattle.std.specs.Prelude.{if◌then◌else◌}
use Rattle.std.proofs.lemmas.Bool.Decides.{nat_tests}
use Rattle.std.proofs.lemmas.List.{take_at, length-map}
use Rattle.torn_store.specs.Layout.{numbers_in, is_rising}
use Rattle.torn_store.specs.Writing.{header}
use Rattle.torn_store.specs.declared.layout.Block.{Block}
use Rattle.torn_store.proofs.Frames.{both_true}
use Rattle.torn_store.proofs.Readings.{PageReading, some_page}

pub header_names : (blocks : List Block) → length blocks ≤ 17 → is_rising 0 (map (λ (b : Block). b.page) blocks) ≡ true
    → numbers_in (header blocks) ≡ Some (map (λ (b : Block). b.page) blocks)
header_names blocks few rises =
    let names : List ℕ = map (λ (b : Block). b.page) blocks in
    let count : length names ≡ length blocks = length-map blocks (λ (b : Block). b.page) in
    let test : nat_le (length blocks) 17 ≡ true = grind (arith, nat_tests) in
    rw (take_at names (replicate (64 - suc (length names)) 0) (length blocks) count, test, rises) refl

-- the numbers behind the count are sure: an unsure cell could give 255, which is no home page
rising_sure : (k above : ℕ) (cells : List (Option ℕ)) → ((read : List ℕ) → PageReading cells read → is_rising above (take k read) ≡ true)
    → (one other : List ℕ) → PageReading cells one → PageReading cells other → take k one ≡ take k other
rising_sure zero above cells rises one other read_one read_other = refl
rising_sure (suc k) above [] rises [] [] read_one read_other = refl
rising_sure (suc k) above [] rises [] (o ∷ other) read_one read_other = absurd read_other
rising_sure (suc k) above [] rises (o ∷ one) other read_one read_other = absurd read_one
rising_sure (suc k) above (c ∷ cells) rises [] other read_one read_other = absurd read_one
rising_sure (suc k) above (c ∷ cells) rises (o ∷ one) [] read_one read_other = absurd read_other
rising_sure (suc k) above (None ∷ cells) rises (o ∷ one) (p ∷ other) read_one read_other =
    let rest = some_page cells in
    let whole : (nat_lt above 255 && (nat_le 255 17 && is_rising 255 (take k rest.0))) ≡ true = rises (255 ∷ rest.0) (lit< tt, rest.1) in
    let last = (both_true (nat_lt above 255) (nat_le 255 17 && is_rising 255 (take k rest.0)) whole).1 in
    cc
rising_sure (suc k) above (Some sure ∷ cells) rises (o ∷ one) (p ∷ other) read_one read_other =
    let rest : (read : List ℕ) → PageReading cells read → is_rising sure (take k read) ≡ true = λ read reading.
    let whole : (nat_lt above sure && (nat_le sure 17 && is_rising sure (take k read))) ≡ true = rises (sure ∷ read) (refl, reading) in
    (both_true (nat_le sure 17) (is_rising sure (take k read)) (both_true (nat_lt above sure) (nat_le sure 17 && is_rising sure (take k read)) whole).1).1 in
    ap (λ x. x ∷ take k one) (read_one.0 ∙ sym read_other.0)
    ∙ ap (λ (l : List ℕ). p ∷ l) (rising_sure k sure cells rest one other read_one.1 read_other.1)

-- the header has its form in this reading
abbrev HasForm : List ℕ → Type 0
HasForm page = (numbers : List ℕ) × (numbers_in page ≡ Some numbers)

form_test : (test : Bool) (text numbers : List ℕ) → (if test then Some text else None) ≡ Some numbers → test ≡ true
form_test true text numbers is = refl
form_test false text numbers is = cc

form_rises : (count : ℕ) (text : List ℕ) → HasForm (count ∷ text) → (nat_le count 17 && is_rising 0 (take count text)) ≡ true
form_rises count text form = form_test (nat_le count 17 && is_rising 0 (take count text)) (take count text) form.0 form.1

-- a header that has its form in every reading names the same pages in every reading
pub header_sure : (cells : List (Option ℕ)) → ((read : List ℕ) → PageReading cells read → HasForm read)
    → (one other : List ℕ) → PageReading cells one → PageReading cells other → numbers_in one ≡ numbers_in other
header_sure [] form [] [] read_one read_other = refl
header_sure [] form [] (o ∷ other) read_one read_other = absurd read_other
header_sure [] form (o ∷ one) other read_one read_other = absurd read_one
header_sure (c ∷ cells) form [] other read_one read_other = absurd read_one
header_sure (c ∷ cells) form (o ∷ one) [] read_one read_other = absurd read_other
header_sure (None ∷ cells) form (o ∷ one) (p ∷ other) read_one read_other =
    let rest = some_page cells in
    let whole = form_rises 255 rest.0 (form (255 ∷ rest.0) (lit< tt, rest.1)) in
    let first = (both_true (nat_le 255 17) (is_rising 0 (take 255 rest.0)) whole).0 in
    cc
header_sure (Some sure ∷ cells) form (o ∷ one) (p ∷ other) read_one read_other =
    let rises : (read : List ℕ) → PageReading cells read → is_rising 0 (take sure read) ≡ true = λ read reading.
    (both_true (nat_le sure 17) (is_rising 0 (take sure read)) (form_rises sure read (form (sure ∷ read) (refl, reading)))).1 in
    let same = rising_sure sure 0 cells rises one other read_one.1 read_other.1 in
    let names : List ℕ → Option (List ℕ) = λ (l : List ℕ). (if nat_le sure 17 && is_rising 0 l then Some l else None) in
    ap (λ (n : ℕ). numbers_in (n ∷ one)) read_one.0 ∙ ap names same ∙ sym (ap (λ (n : ℕ). numbers_in (n ∷ other)) read_other.0)
