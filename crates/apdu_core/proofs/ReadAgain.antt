-- A response that was written is read again.
use Rattle.std.proofs.Common.{◌≡◌, ℕ, ◌+◌, ◌-◌, ◌*◌, ◌/◌, ◌%◌, ◌≤◌, List, [], ◌∷◌, ◌++◌, true, ◌&&◌, nat_le, length, take, get_or, Some, refl, ap, ◌∙◌, arith, length-append}
use Rattle.std.specs.declared.option.Option.{Option}
use Rattle.std.proofs.lemmas.Bool.Decides.{nat_tests}
use Rattle.std.proofs.lemmas.List.{take_at}
use Rattle.std.proofs.lemmas.Grind.{common_steps}
use Rattle.apdu_core.specs.Response.{ResponseData, response_bytes, response_of, status_of}

last_two : (body : List ℕ) (high low : ℕ) → (get_or (body ++ high ∷ low ∷ []) (length body) 0 ≡ high) × (get_or (body ++ high ∷ low ∷ []) (length body + 1) 0 ≡ low)
last_two [] high low = (refl, refl)
last_two (b ∷ body) high low = let rest = last_two body high low in (grind (arith, common_steps, rest.0), grind (arith, common_steps, rest.1))

pub response_again : (body : List ℕ) (status : ℕ) → length body ≤ 256 → response_of (response_bytes body status) ≡ Some (record { body = body; status = status })
unfolding response_of
response_again body status few =
    let bytes : List ℕ = response_bytes body status in
    let count : length (response_bytes body status) ≡ length body + 2 = length-append body (status / 256 ∷ status % 256 ∷ []) in
    let fits : (nat_le 2 (length (response_bytes body status)) && nat_le (length (response_bytes body status)) 258) ≡ true = grind (arith, nat_tests, count) in
    let front : take (length (response_bytes body status) - 2) (response_bytes body status) ≡ body =
    take_at body (status / 256 ∷ status % 256 ∷ []) (length (response_bytes body status) - 2) (omega (arith, count)) in
    let two = last_two body (status / 256) (status % 256) in
    let high_place : length (response_bytes body status) - 2 ≡ length body = omega (arith, count) in
    let low_place : length (response_bytes body status) - 1 ≡ length body + 1 = omega (arith, count) in
    let number : status_of (length (response_bytes body status)) (response_bytes body status) ≡ status =
    ap (λ (i : ℕ). get_or (response_bytes body status) i 0 * 256 + get_or (response_bytes body status) (length (response_bytes body status) - 1) 0) high_place
    ∙ ap (λ (i : ℕ). get_or (response_bytes body status) (length body) 0 * 256 + get_or (response_bytes body status) i 0) low_place
    ∙ ap (λ (h : ℕ). h * 256 + get_or (response_bytes body status) (length body + 1) 0) two.0
    ∙ ap (λ (l : ℕ). status / 256 * 256 + l) two.1
    ∙ omega arith in
    rw fits
    (ap (λ (b : List ℕ). let r : Option ResponseData = Some (record { body = b; status = status_of (length (response_bytes body status)) (response_bytes body status) }) in r) front
    ∙ ap (λ (s : ℕ). let r : Option ResponseData = Some (record { body = body; status = s }) in r) number)
