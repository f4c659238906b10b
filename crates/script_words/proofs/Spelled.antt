-- An order is read from its own text, and from no other.
use Rattle.std.proofs.Common.{◌≡◌, ◌≢◌, ℕ, ◌+◌, ◌-◌, ◌<◌, ◌≤◌, Bool, true, false, cond, List, [], ◌∷◌, ◌++◌, length, take, drop, get_or, map, Option, Some, None, refl, sym, ◌∙◌, ap, arith, length-append, length-drop}
use Rattle.std.specs.Prelude.{IfSome, codes, decimal}
use Rattle.std.specs.Option.{option_map}
use Rattle.std.specs.Str.{bytes_eq}
use Rattle.std.specs.Str.Parse.{AllDigits}
use Rattle.std.proofs.Math.Seq.{drop-append_seam, take-append_seam}
use Rattle.std.proofs.lemmas.List.{take-append-drop, get_or-append-add, get_or-drop}
use Rattle.std.proofs.lemmas.Option.{IfSome_then}
use Rattle.std.proofs.lemmas.Slice.Eq.{bytes_eq-Decides}
use Rattle.std.proofs.lemmas.Str.Parse.{digit_at}
use Rattle.std.proofs.lemmas.Fmt.{decimal_is_IsNumeral}
use Rattle.emv_dict.specs.Digits.{HasPinLength}
use Rattle.script_words.specs.declared.script.Word.{Word}
use Rattle.script_words.specs.declared.script.Word.TheVariants.{Block, Unblock, CardBlock, PinUnblock, Pin, Count, Amount}
use Rattle.script_words.specs.declared.script.Ordered.{Ordered}
use Rattle.script_words.specs.Numeral.{pin_in_text, numeral_of}
use Rattle.script_words.specs.OrderWords.{behind, before, either, pin_word, count_word, amount_word, word_with_argument, word_of, ordered, by_end, order_of}
use Rattle.script_words.specs.Spelling.{IsWord, word_text, marked_bad, order_text}
use Rattle.script_words.proofs.Texts.{numeral_spelled, numeral_known, numeral_proper, pin_spelled, pin_known, pin_proper, all_digits}

-- what stands behind a front
behind_by : (front text : List ℕ) (p : Bool) → bytes_eq (take (length front) text) front ≡ p
    → IfSome (cond p (Some (drop (length front) text)) None) (λ rest. front ++ rest ≡ text)
behind_by front text true same =
    let begins : take (length front) text ≡ front = (bytes_eq-Decides _ _).0 same in
    ap (λ (xs : List ℕ). xs ++ drop (length front) text) (sym begins) ∙ take-append-drop (length front) text
behind_by front text false other = tt

behind_spelled : (front text : List ℕ) → IfSome (behind front text) (λ rest. front ++ rest ≡ text)
unfolding behind
behind_spelled front text = behind_by front text _ refl

-- what stands before an end
before_by : (end text : List ℕ) (p : Bool) → bytes_eq (drop (length text - length end) text) end ≡ p
    → IfSome (cond p (Some (take (length text - length end) text)) None) (λ rest. rest ++ end ≡ text)
before_by end text true same =
    let ends : drop (length text - length end) text ≡ end = (bytes_eq-Decides _ _).0 same in
    ap (λ (xs : List ℕ). take (length text - length end) text ++ xs) (sym ends) ∙ take-append-drop (length text - length end) text
before_by end text false other = tt

before_spelled : (end text : List ℕ) → IfSome (before end text) (λ rest. rest ++ end ≡ text)
unfolding before
before_spelled end text = before_by end text _ refl

-- a word that was read has this text
HasText : List ℕ → Option Word → Type 0
HasText text found = IfSome found (λ word. word_text word ≡ text)

constant : (text word : List ℕ) (w : Word) (p : Bool) (other : Option Word) → bytes_eq text word ≡ p → word_text w ≡ word
    → IfSome other (λ o. word_text o ≡ text) → IfSome (cond p (Some w) other) (λ o. word_text o ≡ text)
constant text word w true other same is rest = is ∙ sym ((bytes_eq-Decides _ _).0 same)
constant text word w false other differs is rest = rest

argument : (text front : List ℕ) (found : Option (List ℕ)) (reading : List ℕ → Option Word) (other : Option Word)
    → IfSome found (λ rest. front ++ rest ≡ text) → ((rest : List ℕ) → IfSome (reading rest) (λ o. word_text o ≡ front ++ rest))
    → IfSome other (λ o. word_text o ≡ text) → IfSome (either found reading other) (λ o. word_text o ≡ text)
argument text front (Some rest) reading other begins reads others = IfSome_then (reading rest) (reads rest) (λ o is. is ∙ begins)
argument text front None reading other begins reads others = others

mapped : {A : Type 0} (make : A → Word) (found : Option A) (text : List ℕ) → IfSome found (λ x. word_text (make x) ≡ text)
    → IfSome (option_map make found) (λ o. word_text o ≡ text)
mapped make (Some x) text is = is
mapped make None text is = tt

pin_word_spelled : (rest : List ℕ) → IfSome (pin_word rest) (λ o. word_text o ≡ codes "pin " ++ rest)
pin_word_spelled rest = mapped Pin (pin_in_text rest) _ (IfSome_then (pin_in_text rest) (pin_spelled rest) (λ ds is. ap (λ (xs : List ℕ). codes "pin " ++ xs) is))

count_word_spelled : (rest : List ℕ) → IfSome (count_word rest) (λ o. word_text o ≡ codes "count " ++ rest)
count_word_spelled rest =
    mapped Count (numeral_of 255 rest) _
    (IfSome_then (numeral_of 255 rest) (numeral_spelled 255 rest (omega arith)) (λ n is. ap (λ (xs : List ℕ). codes "count " ++ xs) is))

amount_word_spelled : (rest : List ℕ) → IfSome (amount_word rest) (λ o. word_text o ≡ codes "amount " ++ rest)
amount_word_spelled rest =
    mapped Amount (numeral_of 999999999999 rest) _
    (IfSome_then (numeral_of 999999999999 rest) (numeral_spelled 999999999999 rest (omega arith)) (λ n is. ap (λ (xs : List ℕ). codes "amount " ++ xs) is))

with_argument_spelled : (text : List ℕ) → IfSome (word_with_argument text) (λ o. word_text o ≡ text)
unfolding word_with_argument
with_argument_spelled text =
    argument text (codes "pin ") (behind (codes "pin ") text) pin_word _ (behind_spelled (codes "pin ") text) pin_word_spelled
    (argument text (codes "count ") (behind (codes "count ") text) count_word _ (behind_spelled (codes "count ") text) count_word_spelled
    (argument text (codes "amount ") (behind (codes "amount ") text) amount_word None (behind_spelled (codes "amount ") text) amount_word_spelled tt))

word_spelled : (text : List ℕ) → IfSome (word_of text) (λ o. word_text o ≡ text)
unfolding word_of
word_spelled text =
    constant text (codes "block") Block _ _ refl refl
    (constant text (codes "unblock") Unblock _ _ refl refl
    (constant text (codes "card_block") CardBlock _ _ refl refl
    (constant text (codes "pin_unblock") PinUnblock _ _ refl refl
    (with_argument_spelled text))))

ordered_spelled : (bad : Bool) (front text : List ℕ) (found : Option Word) → IfSome found (λ o. word_text o ≡ front) → marked_bad bad front ≡ text
    → IfSome (ordered bad found) (λ o. order_text o ≡ text)
ordered_spelled bad front text (Some w) is whole = ap (marked_bad bad) is ∙ whole
ordered_spelled bad front text None is whole = tt

by_end_spelled : (text : List ℕ) (found : Option (List ℕ)) → IfSome found (λ front. front ++ codes " bad" ≡ text) → IfSome (by_end found text) (λ o. order_text o ≡ text)
by_end_spelled text (Some front) whole = ordered_spelled true front text (word_of front) (word_spelled front) whole
by_end_spelled text None whole = ordered_spelled false text text (word_of text) (word_spelled text) refl

-- what was read stands in the text
pub order_spelled : (text : List ℕ) → IfSome (order_of text) (λ o. order_text o ≡ text)
unfolding order_of
order_spelled text = by_end_spelled text (before (codes " bad") text) (before_spelled (codes " bad") text)

-- the word of a text is read
word_known : (w : Word) → IsWord w → word_of (word_text w) ≡ Some w
unfolding word_of word_with_argument behind
word_known Block is = refl
word_known Unblock is = refl
word_known CardBlock is = refl
word_known PinUnblock is = refl
word_known (Pin ds) is = ap (λ (found : Option (List ℕ)). option_map Pin found) (pin_known ds is.0 is.1)
word_known (Count n) is = ap (λ (found : Option ℕ). option_map Count found) (numeral_known 255 n (omega arith) is)
word_known (Amount n) is = ap (λ (found : Option ℕ). option_map Amount found) (numeral_known 999999999999 n (omega arith) is)

-- an end is taken off again
taken_off : (front end : List ℕ) → before end (front ++ end) ≡ Some front
unfolding before
taken_off front end =
    let count : length (front ++ end) - length end ≡ length front = omega (arith, length-append front end) in
    let same : bytes_eq end end ≡ true = (bytes_eq-Decides end end).1 refl in
    rw (count, drop-append_seam front end, same, take-append_seam front end) refl

-- a text that ends with a digit doesn't end with ` bad`
last_of_bad : (text : List ℕ) → drop (length text - 4) text ≡ codes " bad" → get_or text (length text - 1) 0 ≡ 100
last_of_bad text ends =
    let four : length (drop (length text - 4) text) ≡ 4 = ap length ends in
    let left : length text - (length text - 4) ≡ 4 = sym (length-drop (length text - 4) text) ∙ four in
    let place : length text - 1 ≡ length text - 4 + 3 = omega arith in
    ap (λ k. get_or text k 0) place ∙ sym (get_or-drop (length text - 4) text 3 0) ∙ ap (λ (xs : List ℕ). get_or xs 3 0) ends

unmarked_by : (text : List ℕ) (p : Bool) → bytes_eq (drop (length text - 4) text) (codes " bad") ≡ p → get_or text (length text - 1) 0 ≢ 100
    → cond p (Some (take (length text - 4) text)) None ≡ None
unmarked_by text true same other = absurd (other (last_of_bad text ((bytes_eq-Decides _ _).0 same)))
unmarked_by text false same other = refl

ends_with_digit : (front ds : List ℕ) → 0 < length ds → AllDigits 10 ds → get_or (front ++ ds) (length (front ++ ds) - 1) 0 ≢ 100
ends_with_digit front ds some digits d =
    let place : length (front ++ ds) - 1 ≡ length front + (length ds - 1) = omega (arith, length-append front ds) in
    let last : get_or (front ++ ds) (length (front ++ ds) - 1) 0 ≡ get_or ds (length ds - 1) 0 =
    ap (λ k. get_or (front ++ ds) k 0) place ∙ get_or-append-add front ds (length ds - 1) 0 in
    let small : get_or ds (length ds - 1) 0 ≤ 57 = (digit_at ds (length ds - 1) digits (omega arith)).1 in
    omega arith

unmarked : (front ds : List ℕ) → 0 < length ds → AllDigits 10 ds → before (codes " bad") (front ++ ds) ≡ None
unfolding before
unmarked front ds some digits = unmarked_by (front ++ ds) _ refl (ends_with_digit front ds some digits)

pin_has_digits : (ds : List ℕ) → HasPinLength ds → 0 < length (map (λ d. d + 48) ds)
pin_has_digits [] is = cc
pin_has_digits (d ∷ ds) is = omega arith

word_unmarked : (w : Word) → IsWord w → before (codes " bad") (word_text w) ≡ None
unfolding before
word_unmarked Block is = refl
word_unmarked Unblock is = refl
word_unmarked CardBlock is = refl
word_unmarked PinUnblock is = refl
word_unmarked (Pin ds) is = unmarked (codes "pin ") (map (λ d. d + 48) ds) (pin_has_digits ds is.0) (all_digits ds is.1)
word_unmarked (Count n) is = let numeral = decimal_is_IsNumeral n (omega arith) in unmarked (codes "count ") (decimal n) numeral.0.0 numeral.0.1
word_unmarked (Amount n) is = let numeral = decimal_is_IsNumeral n (omega arith) in unmarked (codes "amount ") (decimal n) numeral.0.0 numeral.0.1

order_known_by : (w : Word) (bad : Bool) → IsWord w → by_end (before (codes " bad") (marked_bad bad (word_text w))) (marked_bad bad (word_text w)) ≡ Some (record { word = w; bad = bad })
order_known_by w true is = rw (taken_off (word_text w) (codes " bad"), word_known w is) refl
order_known_by w false is = rw (word_unmarked w is, word_known w is) refl

-- what stands in a text is read
pub order_known : (o : Ordered) (text : List ℕ) → IsWord o.word → order_text o ≡ text → order_of text ≡ Some o
unfolding order_of
order_known o text is same = rw (← same) (order_known_by o.word o.bad is)

-- a word that was read can be ordered
constant_proper : (w : Word) (p : Bool) (other : Option Word) → IsWord w → IfSome other IsWord → IfSome (cond p (Some w) other) IsWord
constant_proper w true other is rest = is
constant_proper w false other is rest = rest

argument_proper : (found : Option (List ℕ)) (reading : List ℕ → Option Word) (other : Option Word) → ((rest : List ℕ) → IfSome (reading rest) IsWord)
    → IfSome other IsWord → IfSome (either found reading other) IsWord
argument_proper (Some rest) reading other reads others = reads rest
argument_proper None reading other reads others = others

mapped_proper : {A : Type 0} (make : A → Word) (found : Option A) → IfSome found (λ x. IsWord (make x)) → IfSome (option_map make found) IsWord
mapped_proper make (Some x) is = is
mapped_proper make None is = tt

with_argument_proper : (text : List ℕ) → IfSome (word_with_argument text) IsWord
unfolding word_with_argument
with_argument_proper text =
    let amounts : Option Word = either (behind (codes "amount ") text) amount_word None in
    let counts : Option Word = either (behind (codes "count ") text) count_word amounts in
    argument_proper (behind (codes "pin ") text) pin_word counts (λ rest. mapped_proper Pin (pin_in_text rest) (pin_proper rest))
    (argument_proper (behind (codes "count ") text) count_word amounts (λ rest. mapped_proper Count (numeral_of 255 rest) (numeral_proper 255 rest))
    (argument_proper (behind (codes "amount ") text) amount_word None
    (λ rest. mapped_proper Amount (numeral_of 999999999999 rest) (numeral_proper 999999999999 rest)) tt))

word_proper : (text : List ℕ) → IfSome (word_of text) IsWord
unfolding word_of
word_proper text =
    let is_it : List ℕ → Bool = bytes_eq text in
    let fourth : Option Word = cond (is_it (codes "pin_unblock")) (Some PinUnblock) (word_with_argument text) in
    let third : Option Word = cond (is_it (codes "card_block")) (Some CardBlock) fourth in
    let second : Option Word = cond (is_it (codes "unblock")) (Some Unblock) third in
    constant_proper Block (is_it (codes "block")) second tt
    (constant_proper Unblock (is_it (codes "unblock")) third tt
    (constant_proper CardBlock (is_it (codes "card_block")) fourth tt
    (constant_proper PinUnblock (is_it (codes "pin_unblock")) (word_with_argument text) tt (with_argument_proper text))))

ordered_proper : (bad : Bool) (found : Option Word) → IfSome found IsWord → IfSome (ordered bad found) (λ o. IsWord o.word)
ordered_proper bad (Some w) is = is
ordered_proper bad None is = tt

by_end_proper : (text : List ℕ) (found : Option (List ℕ)) → IfSome (by_end found text) (λ o. IsWord o.word)
by_end_proper text (Some front) = ordered_proper true (word_of front) (word_proper front)
by_end_proper text None = ordered_proper false (word_of text) (word_proper text)

pub order_proper : (text : List ℕ) → IfSome (order_of text) (λ o. IsWord o.word)
unfolding order_of
order_proper text = by_end_proper text (before (codes " bad") text)
