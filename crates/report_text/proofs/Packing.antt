-- How the lines of an event grow by one.
use Rattle.std.proofs.Common.{◌≡◌, ℕ, suc, ◌+◌, ◌*◌, ◌≤◌, List, [], ◌∷◌, ◌++◌, length, take, drop, refl, arith, sym, ap, ◌∙◌, length-append, length-drop}
use Rattle.std.specs.List.{AllByRecursion}
use Rattle.std.proofs.lemmas.List.{append-nil, take_all, take-append-le, drop-append-le}
use Rattle.report_text.specs.declared.line.Line.{Line}
use Rattle.report_text.specs.declared.head.LinePlace.{LinePlace}
use Rattle.report_text.specs.Packed.{line_at, lines_at, packed_length, IsFilled}

pub length-lines_at : (places : List LinePlace) (bytes : List ℕ) → length (lines_at places bytes) ≡ length places
length-lines_at [] bytes = refl
length-lines_at (place ∷ places) bytes = ap suc (length-lines_at places (drop place.count bytes))

pub lines_at-push : (bytes more : List ℕ) (places : List LinePlace) (place : LinePlace) → packed_length places ≡ length bytes → place.count ≡ length more
    → lines_at (places ++ place ∷ []) (bytes ++ more) ≡ lines_at places bytes ++ line_at place.head more ∷ []
lines_at-push [] more [] place filled is = ap (λ (own : List ℕ). line_at place.head own ∷ []) (take_all place.count more (omega arith))
lines_at-push (b ∷ bs) more [] place filled is = absurd (omega arith)
lines_at-push bytes more (first ∷ places) place filled is =
    let short : first.count ≤ length bytes = omega arith in
    let later = lines_at-push (drop first.count bytes) more places place (omega (arith, length-drop first.count bytes)) is in
    rw (take-append-le first.count bytes more short, drop-append-le first.count bytes more short)
    (ap (λ (ls : List Line). line_at first.head (take first.count bytes) ∷ ls) later)

packed_length-push : (places : List LinePlace) (place : LinePlace) → packed_length (places ++ place ∷ []) ≡ packed_length places + place.count
packed_length-push [] place = omega arith
packed_length-push (first ∷ places) place = let later = packed_length-push places place in omega arith

short-push : (places : List LinePlace) (place : LinePlace) → AllByRecursion (λ it. it.count ≤ 2048) places → place.count ≤ 2048
    → AllByRecursion (λ it. it.count ≤ 2048) (places ++ place ∷ [])
short-push [] place all here = (here, tt)
short-push (first ∷ places) place all here = (all.0, short-push places place all.1 here)

pub IsFilled-push : (bytes more : List ℕ) (places : List LinePlace) (place : LinePlace) → IsFilled places bytes → place.count ≡ length more → length more ≤ 2048
    → IsFilled (places ++ place ∷ []) (bytes ++ more)
IsFilled-push bytes more places place filled is few = record {
  filled = let count = packed_length-push places place in let all = filled.filled in omega (arith, length-append bytes more);
  short = short-push places place filled.short (omega arith);
}

-- so many lines have at most so many bytes
pub count-few : (places : List LinePlace) → AllByRecursion (λ it. it.count ≤ 2048) places → packed_length places ≤ 2048 * length places
count-few [] all = omega arith
count-few (first ∷ places) all = let here = all.0 in let later = count-few places all.1 in omega arith
