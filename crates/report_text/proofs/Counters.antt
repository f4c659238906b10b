-- The counters of applications are read from the front of a text.
use Rattle.std.proofs.Common.{◌≡◌, ◌≢◌, ℕ, ◌<◌, List, [], ◌∷◌, ◌++◌, refl, sym, ap, ◌∙◌, arith, append_assoc}
use Rattle.std.specs.Prelude.{slice_index, decimal, Option, Some, None, option_map}
use Rattle.std.specs.List.{AllZip}
use Rattle.report_text.specs.Text.{second_text, shown_text, all_shown}
use Rattle.report_text.specs.declared.line.Shown.{Shown}
use Rattle.report_text.specs.LineTexts.{SameCounters}
use Rattle.report_text.proofs.Fronts.{behind, number, first_same, decimal_first}

-- what follows the first counter
abbrev pub behind_first : Shown → List ℕ → List ℕ
behind_first app rest =
    44 ∷ (decimal app.last_online ++ 44 ∷ (decimal app.count ++ 44 ∷ (decimal app.sum ++ 44 ∷ (decimal app.tries ++ 44 ∷ (decimal app.flags ++ (second_text app.sum_two ++ rest))))))

pub shown_flat : (app : Shown) (rest : List ℕ) → shown_text app ++ rest ≡ 32 ∷ (decimal app.counter ++ behind_first app rest)
unfolding shown_text
shown_flat app rest = simp append_assoc

-- the flags, and the sum in a second currency where there is one: what follows begins with no comma
last_two : (m n : ℕ) (x y : Option ℕ) (c d : ℕ) (r s : List ℕ) → decimal m ++ (second_text x ++ c ∷ r) ≡ decimal n ++ (second_text y ++ d ∷ s)
    → c < 44 → d < 44 → (decimal m ≡ decimal n) × (option_map decimal x ≡ option_map decimal y) × (c ∷ r ≡ d ∷ s)
unfolding second_text
last_two m n None None c d r s e hc hd =
    let same = number m n c d r s e (omega arith) (omega arith) in
    (same.0, refl, same.1)
last_two m n None (Some y) c d r s e hc hd =
    let same = number m n c 44 r (decimal y ++ d ∷ s) e (omega arith) (omega arith) in
    let no : c ≡ 44 = first_same c 44 _ _ same.1 in
    absurd (omega arith)
last_two m n (Some x) None c d r s e hc hd =
    let same = number m n 44 d (decimal x ++ c ∷ r) s e (omega arith) (omega arith) in
    let no : ◌≡◌ {A = ℕ} 44 d = first_same 44 d _ _ same.1 in
    absurd (omega arith)
last_two m n (Some x) (Some y) c d r s e hc hd =
    let same = number m n 44 44 (decimal x ++ c ∷ r) (decimal y ++ d ∷ s) e (omega arith) (omega arith) in
    let sums = number x y c d r s (behind 1 same.1) (omega arith) (omega arith) in
    (same.0, ap Some sums.0, sums.1)

shown_front : (a b : Shown) (c d : ℕ) (r s : List ℕ) → shown_text a ++ c ∷ r ≡ shown_text b ++ d ∷ s → c < 44 → d < 44 → SameCounters a b × (c ∷ r ≡ d ∷ s)
shown_front a b c d r s e hc hd =
    let flat : 32 ∷ (decimal a.counter ++ behind_first a (c ∷ r)) ≡ 32 ∷ (decimal b.counter ++ behind_first b (d ∷ s)) = sym (shown_flat a (c ∷ r)) ∙ e ∙ shown_flat b (d ∷ s) in
    let one = number a.counter b.counter 44 44 _ _ (behind 1 flat) (omega arith) (omega arith) in
    let two = number a.last_online b.last_online 44 44 _ _ (behind 1 one.1) (omega arith) (omega arith) in
    let three = number a.count b.count 44 44 _ _ (behind 1 two.1) (omega arith) (omega arith) in
    let four = number a.sum b.sum 44 44 _ _ (behind 1 three.1) (omega arith) (omega arith) in
    let five = number a.tries b.tries 44 44 _ _ (behind 1 four.1) (omega arith) (omega arith) in
    let six = last_two a.flags b.flags a.sum_two b.sum_two c d r s (behind 1 five.1) hc hd in
    let same : SameCounters a b =
    record { counter = one.0; last_online = two.0; count = three.0; sum = four.0; tries = five.0; flags = six.0; sum_two = six.1 } in
    (same, six.2)

-- what begins here is the newline, or a blank and an application
pub record Begun (text : List ℕ) : Type 0 where
  pub first : ℕ
  pub rest : List ℕ
  pub is : text ≡ first ∷ rest
  pub low : first < 33
  pub digit : first ≢ 10 → slice_index rest 0 < 58

pub begun : (apps : List Shown) (r : List ℕ) → Begun (all_shown apps ++ 10 ∷ r)
begun [] r = record { first = 10; rest = r; is = refl; low = omega arith; digit = λ other. absurd (other refl) }
begun (app ∷ apps) r = record {
  first = 32;
  rest = decimal app.counter ++ behind_first app (all_shown apps ++ 10 ∷ r);
  is = append_assoc (shown_text app) (all_shown apps) (10 ∷ r) ∙ shown_flat app (all_shown apps ++ 10 ∷ r);
  low = omega arith;
  digit = λ other. decimal_first app.counter (behind_first app (all_shown apps ++ 10 ∷ r));
}

pub counters_same : (xs ys : List Shown) (r s : List ℕ) → all_shown xs ++ 10 ∷ r ≡ all_shown ys ++ 10 ∷ s → AllZip SameCounters xs ys × (r ≡ s)
counters_same [] [] r s e = (tt, behind 1 e)
counters_same [] (y ∷ ys) r s e = let no : ◌≡◌ {A = ℕ} 10 32 = first_same 10 32 _ _ (e ∙ append_assoc (shown_text y) (all_shown ys) (10 ∷ s) ∙ shown_flat y (all_shown ys ++ 10 ∷ s)) in absurd (omega arith)
counters_same (x ∷ xs) [] r s e = let no : ◌≡◌ {A = ℕ} 10 32 = first_same 10 32 _ _ (sym e ∙ append_assoc (shown_text x) (all_shown xs) (10 ∷ r) ∙ shown_flat x (all_shown xs ++ 10 ∷ r)) in absurd (omega arith)
counters_same (x ∷ xs) (y ∷ ys) r s e =
    let one = begun xs r in
    let two = begun ys s in
    let flat : shown_text x ++ (all_shown xs ++ 10 ∷ r) ≡ shown_text y ++ (all_shown ys ++ 10 ∷ s) = sym (append_assoc (shown_text x) _ _) ∙ e ∙ append_assoc (shown_text y) _ _ in
    let joined : shown_text x ++ one.first ∷ one.rest ≡ shown_text y ++ two.first ∷ two.rest =
    ap (λ (t : List ℕ). shown_text x ++ t) (sym one.is) ∙ flat ∙ ap (λ (t : List ℕ). shown_text y ++ t) two.is in
    let low : one.first < 33 = one.low in
    let low' : two.first < 33 = two.low in
    let same = shown_front x y one.first two.first one.rest two.rest joined (omega arith) (omega arith) in
    let more = counters_same xs ys r s (one.is ∙ same.1 ∙ sym two.is) in
    ((same.0, more.0), more.1)
