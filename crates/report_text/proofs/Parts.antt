-- How a purchase ended is read from the text behind its number.
use Rattle.std.proofs.Common.{◌≡◌, ℕ, zero, suc, List, [], ◌∷◌, ◌++◌, length, length-append, refl, sym, ap, ◌∙◌, arith, append_assoc, Option, Some, None}
use Rattle.std.specs.Prelude.{codes, IfSome}
use Rattle.std.specs.List.{All, flat_map}
use Rattle.std.proofs.lemmas.List.Elements.{All-head, All-tail}
use Rattle.hex.specs.Hex.{encode_lower}
use Rattle.emv_dict.specs.Flags.{tvr_bytes}
use Rattle.report_text.specs.Pieces.{two_bytes}
use Rattle.report_text.specs.Words.{ending_text}
use Rattle.report_text.specs.Text.{arc_text, cryptogram_text, scripts_text, parts_text}
use Rattle.report_text.specs.declared.line.EndParts.{EndParts}
use Rattle.ber_tlv.specs.Item.{AreBytes}
use Rattle.report_text.specs.Told.{IsResult, ArePartsTold}
use Rattle.report_text.specs.LineTexts.{SameLast, SameParts}
use Rattle.report_text.proofs.Fronts.{behind, hex, two, five, dash, no_dash, no_bytes, two_are_bytes}
use Rattle.report_text.proofs.Endings.{ending_front}

-- fronts of one length
pub long_front : (xs ys r s : List ℕ) → xs ++ r ≡ ys ++ s → length xs ≡ length ys → (xs ≡ ys) × (r ≡ s)
long_front [] [] r s e h = (refl, e)
long_front [] (y ∷ ys) r s e h = absurd (omega arith)
long_front (x ∷ xs) [] r s e h = absurd (omega arith)
long_front (x ∷ xs) (y ∷ ys) r s e h =
    let first : x ≡ y = cc in
    let rest : xs ++ r ≡ ys ++ s = cc in
    let same = long_front xs ys r s rest (omega arith) in
    let words : xs ≡ ys = same.0 in
    (cc, same.1)

-- the response code
code_text_two : (code : Option (List ℕ)) → IfSome code (λ two. length two ≡ 2) → length (arc_text code) ≡ 2
unfolding arc_text
code_text_two None told = refl
code_text_two (Some code) told = told

code_front : (a b : Option (List ℕ)) {r s : List ℕ} → arc_text a ++ r ≡ arc_text b ++ s → IfSome a (λ two. length two ≡ 2) → IfSome b (λ two. length two ≡ 2)
    → (arc_text a ≡ arc_text b) × (r ≡ s)
code_front a b {r} {s} e ta tb = long_front (arc_text a) (arc_text b) r s e (code_text_two a ta ∙ sym (code_text_two b tb))

-- the counter and the cryptogram
last_front : (a b : Option (ℕ × List ℕ)) (r s : List ℕ) → cryptogram_text a ++ 32 ∷ r ≡ cryptogram_text b ++ 32 ∷ s → IfSome a (λ last. AreBytes last.1) → IfSome b (λ last. AreBytes last.1)
    → SameLast a b × (r ≡ s)
unfolding cryptogram_text SameLast
last_front None None r s e ta tb = (tt, behind 30 e)
last_front None (Some n) r s e ta tb =
    let flat = simp append_assoc at (behind 5 e) in
    absurd (no_dash (two_bytes n.0) _ _ flat (two_are_bytes n.0) (omega arith))
last_front (Some m) None r s e ta tb =
    let flat = simp append_assoc at (behind 5 (sym e)) in
    absurd (no_dash (two_bytes m.0) _ _ flat (two_are_bytes m.0) (omega arith))
last_front (Some m) (Some n) r s e ta tb =
    let flat : encode_lower (two_bytes m.0) ++ 32 ∷ 97 ∷ 99 ∷ 61 ∷ (encode_lower m.1 ++ 32 ∷ r) ≡ encode_lower (two_bytes n.0) ++ 32 ∷ 97 ∷ 99 ∷ 61 ∷ (encode_lower n.1 ++ 32 ∷ s) = simp append_assoc at (behind 5 e) in
    let counters = two m.0 n.0 32 32 _ _ flat (omega arith) (omega arith) in
    let cryptograms = hex m.1 n.1 32 32 r s (behind 4 counters.1) ta tb (omega arith) (omega arith) in
    ((counters.0, cryptograms.0), behind 1 cryptograms.1)

-- the results of scripts
joined : List (List ℕ) → List ℕ
joined results = flat_map (λ result. result) results

bytes_append : (xs ys : List ℕ) → AreBytes xs → AreBytes ys → AreBytes (xs ++ ys)
bytes_append [] ys p q k = q k
bytes_append (x ∷ xs) ys p q zero = p 0
bytes_append (x ∷ xs) ys p q (suc k) = bytes_append xs ys (λ j. p (suc j)) q k

results_are_bytes : (results : List (List ℕ)) → All IsResult results → AreBytes (joined results)
unfolding joined
results_are_bytes [] all = no_bytes
results_are_bytes (result ∷ results) all =
    bytes_append result (joined results) (All-head IsResult result results all).bytes (results_are_bytes results (All-tail IsResult result results all))

pub scripts_are_bytes : (results : List (List ℕ)) → All IsResult results → AreBytes (flat_map (λ result. result) results)
unfolding joined
scripts_are_bytes results all = results_are_bytes results all

results_same : (xs ys : List (List ℕ)) → joined xs ≡ joined ys → All IsResult xs → All IsResult ys → xs ≡ ys
unfolding joined
results_same [] [] e p q = refl
results_same [] (y ∷ ys) e p q =
    let long : length y ≡ 5 = (All-head IsResult y ys q).five in
    let sum : 0 ≡ length (y ++ joined ys) = ap length e in
    absurd (omega (arith, length-append y (joined ys)))
results_same (x ∷ xs) [] e p q =
    let long : length x ≡ 5 = (All-head IsResult x xs p).five in
    let sum : length (x ++ joined xs) ≡ 0 = ap length e in
    absurd (omega (arith, length-append x (joined xs)))
results_same (x ∷ xs) (y ∷ ys) e p q =
    let same = long_front x y (joined xs) (joined ys) e ((All-head IsResult x xs p).five ∙ sym (All-head IsResult y ys q).five) in
    let here : x ≡ y = same.0 in
    let there : xs ≡ ys = results_same xs ys same.1 (All-tail IsResult x xs p) (All-tail IsResult y ys q) in
    cc

scripts_same : (xs ys : List (List ℕ)) {r s : List ℕ} → scripts_text xs ++ 10 ∷ r ≡ scripts_text ys ++ 10 ∷ s → All IsResult xs → All IsResult ys → (xs ≡ ys) × (r ≡ s)
unfolding joined
scripts_same xs ys e p q =
    let same = dash (joined xs) (joined ys) e (results_are_bytes xs p) (results_are_bytes ys q) in
    (results_same xs ys same.0 p q, same.1)

-- their text, with what follows each
abbrev flat_parts : EndParts → List ℕ → List ℕ
flat_parts p r =
    ending_text p.ending ++ (codes " tvr=" ++ (encode_lower (tvr_bytes p.tvr.0) ++ (codes " tsi=" ++ (encode_lower (two_bytes p.tsi.0)
    ++ (codes " cvm=" ++ (encode_lower p.cvm ++ (codes " arc=" ++ (arc_text p.arc ++ (cryptogram_text p.atc_ac ++ (codes " scripts=" ++ (scripts_text p.scripts.items ++ 10 ∷ r)))))))))))

flat_of : (p : EndParts) (r : List ℕ) → parts_text p ++ 10 ∷ r ≡ flat_parts p r
unfolding parts_text
flat_of p r = simp append_assoc

pub parts_same : (a b : EndParts) {r s : List ℕ} → parts_text a ++ 10 ∷ r ≡ parts_text b ++ 10 ∷ s → ArePartsTold a → ArePartsTold b → SameParts a b × (r ≡ s)
parts_same a b {r} {s} e ta tb =
    let flat : flat_parts a r ≡ flat_parts b s = sym (flat_of a r) ∙ e ∙ flat_of b s in
    let one = ending_front a.ending b.ending 32 32 _ _ flat ta.ending tb.ending (omega arith) (omega arith) in
    let verified = five a.tvr.0 b.tvr.0 32 32 _ _ (behind 5 one.1) (omega arith) (omega arith) in
    let three = two a.tsi.0 b.tsi.0 32 32 _ _ (behind 5 verified.1) (omega arith) (omega arith) in
    let four = hex a.cvm b.cvm 32 32 _ _ (behind 5 three.1) ta.cvm tb.cvm (omega arith) (omega arith) in
    let code = code_front a.arc b.arc (behind 5 four.1) ta.code tb.code in
    let last = last_front a.atc_ac b.atc_ac _ _ code.1 ta.last tb.last in
    let scripts = scripts_same a.scripts.items b.scripts.items (behind 8 last.1) ta.scripts tb.scripts in
    let same : SameParts a b =
    record { ending = one.0; tvr = verified.0; tsi = three.0; cvm = four.0; code = code.0; last = last.0; scripts = scripts.0 } in
    (same, scripts.1)
