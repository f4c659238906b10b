-- An entry has one text.
use Rattle.std.proofs.Common.{◌≡◌, ℕ, ◌≤◌, ◌&&◌, Bool, true, false, nat_le, List, [], ◌∷◌, ◌++◌, length, take, drop, codes, Option, Some, None, Result, Ok, Err, refl, sym, ap, subst, ◌∙◌, arith, if◌then◌else◌}
use Rattle.std.proofs.lemmas.Bool.{and_parts}
use Rattle.std.proofs.lemmas.Bool.Decides.{nat_tests}
use Rattle.std.proofs.lemmas.List.{take-append-drop}
use Rattle.std.proofs.lemmas.Slice.Eq.{bytes_eq-Decides}
use Rattle.std.specs.Prelude.{option_map}
use Rattle.std.specs.Str.{bytes_eq}
use Rattle.hex.proofs.HexLemmas.{decode_of-encode_lower, decode_of-ok}
use Rattle.hex.proofs.OnLiterals.{hex_on_literals}
use Rattle.hex.specs.Hex.{decode_of, encode_lower, IsBytes}
use Rattle.hex.specs.declared.error.FromHexError.{FromHexError}
use Rattle.report_text.specs.Pieces.{hex_or_dash}
use Rattle.trace_check.proofs.Left.{same_bytes}
use Rattle.trace_check.specs.Texts.{marked_rest, decoded_or_none, bytes_shown, most_in, entry_of_form, shown_in, if_behind, with_bytes, entry_of_text, entry_text, Fits, IsEntry}
use Rattle.trace_check.specs.declared.entry.Entry.{Entry}
use Rattle.trace_check.specs.declared.entry.Entry.TheVariants.{ToCard, CardSaid, CardGone, ToHost, HostSaid, HostSilent, End}
use Rattle.trace_check.specs.declared.entry.Form.{Form}
use Rattle.trace_check.specs.declared.entry.Form.TheVariants as form

-- a text with this mark in front
behind_is : (mark text rest : List ℕ) → marked_rest mark text ≡ Some rest → text ≡ mark ++ rest
behind_is mark text rest is = by (bytes_eq (take (length mark) text) mark) refl is
  where
    by : (test : Bool) → bytes_eq (take (length mark) text) mark ≡ test → (if test then Some (drop (length mark) text) else None) ≡ Some rest → text ≡ mark ++ rest
    by true same found =
        let front : take (length mark) text ≡ mark = (bytes_eq-Decides (take (length mark) text) mark).0 same in
        let back : drop (length mark) text ≡ rest = cc found in
        sym (take-append-drop (length mark) text) ∙ ap (λ (xs : List ℕ). xs ++ drop (length mark) text) front ∙ ap (λ (xs : List ℕ). mark ++ xs) back
    by false other found = absurd (cc found)

-- the bytes of a text, which is theirs
shown_is : (most : ℕ) (text bytes : List ℕ) → bytes_shown most text ≡ Some bytes → (text ≡ hex_or_dash bytes) × (length bytes ≤ most) × (decoded_or_none (decode_of text) ≡ bytes)
unfolding bytes_shown
shown_is most text bytes is = by (nat_le (length found) most && bytes_eq (hex_or_dash found) text) refl is
  where
    found : List ℕ
    found = decoded_or_none (decode_of text)

    by : (test : Bool) → (nat_le (length found) most && bytes_eq (hex_or_dash found) text) ≡ test → (if test then Some found else None) ≡ Some bytes
        → (text ≡ hex_or_dash bytes) × (length bytes ≤ most) × (found ≡ bytes)
    by true good same =
        let parts = and_parts (nat_le (length found) most) (bytes_eq (hex_or_dash found) text) good in
        let one : found ≡ bytes = cc same in
        let few : length found ≤ most = grind (arith, nat_tests, parts.0) in
        let text_is : hex_or_dash found ≡ text = (bytes_eq-Decides (hex_or_dash found) text).0 parts.1 in
        (sym text_is ∙ ap hex_or_dash one, subst (λ (xs : List ℕ). length xs ≤ most) one few, one)
    by false bad same = absurd (cc same)

decoded_bytes : (found : Result (List ℕ) FromHexError) (text : List ℕ) → decode_of text ≡ found → IsBytes (decoded_or_none found)
decoded_bytes (Ok bytes) text is = (decode_of-ok text bytes is).3
decoded_bytes (Err fault) text is = λ i. omega arith

shown_fits : (f : Form) (text bytes : List ℕ) → bytes_shown (most_in f) text ≡ Some bytes → (text ≡ hex_or_dash bytes) × Fits f bytes
shown_fits f text bytes is =
    let found = shown_is (most_in f) text bytes is in
    (found.0, record { bytes_are = subst IsBytes found.2 (decoded_bytes (decode_of text) text refl); few = found.1 })

decoded_again : (bytes : List ℕ) → IsBytes bytes → decoded_or_none (decode_of (hex_or_dash bytes)) ≡ bytes
unfolding hex_or_dash hex_on_literals
decoded_again [] are = refl
decoded_again (b ∷ bs) are = rw (decode_of-encode_lower (b ∷ bs) are) refl

shown_there : (f : Form) (bytes : List ℕ) → Fits f bytes → bytes_shown (most_in f) (hex_or_dash bytes) ≡ Some bytes
unfolding bytes_shown
shown_there f bytes fits =
    let few : nat_le (length bytes) (most_in f) ≡ true = (let within = fits.few in grind (arith, nat_tests)) in
    rw (decoded_again bytes fits.bytes_are, few, same_bytes (hex_or_dash bytes)) refl

shown_entry : (f : Form) (bytes : List ℕ) → Fits f bytes → shown_in f (hex_or_dash bytes) ≡ Some (entry_of_form f bytes)
shown_entry f bytes fits = rw (shown_there f bytes fits) refl

-- what no bytes are shown by: a word that is no digits
no_bytes : (word bytes : List ℕ) → IsBytes bytes → bytes_eq (hex_or_dash (decoded_or_none (decode_of word))) word ≡ false → bytes_eq (hex_or_dash bytes) word ≡ false
no_bytes word bytes are other = by (bytes_eq (hex_or_dash bytes) word) refl
  where
    by : (test : Bool) → bytes_eq (hex_or_dash bytes) word ≡ test → test ≡ false
    by true same =
        let is : hex_or_dash bytes ≡ word = (bytes_eq-Decides (hex_or_dash bytes) word).0 same in
        let again : decoded_or_none (decode_of word) ≡ bytes = ap (λ (xs : List ℕ). decoded_or_none (decode_of xs)) (sym is) ∙ decoded_again bytes are in
        let clash : true ≡ false = sym same ∙ ap (λ (xs : List ℕ). bytes_eq (hex_or_dash xs) word) (sym again) ∙ other in
        absurd (cc clash)
    by false same = refl

gone_is_none : bytes_eq (hex_or_dash (decoded_or_none (decode_of (codes "gone")))) (codes "gone") ≡ false
unfolding hex_or_dash hex_on_literals
gone_is_none = refl

none_is_none : bytes_eq (hex_or_dash (decoded_or_none (decode_of (codes "none")))) (codes "none") ≡ false
unfolding hex_or_dash hex_on_literals
none_is_none = refl

-- the text of an entry is the entry
pub text_again : (entry : Entry) → IsEntry entry → entry_of_text (entry_text entry) ≡ Some entry
unfolding entry_of_text with_bytes
text_again (ToCard bytes) fits = rw (shown_entry form.ToCard bytes fits) refl
text_again (CardSaid bytes) fits =
    rw (no_bytes (codes "gone") bytes fits.bytes_are gone_is_none, shown_entry form.CardSaid bytes fits) refl
text_again CardGone fits = refl
text_again (ToHost bytes) fits = rw (shown_entry form.ToHost bytes fits) refl
text_again (HostSaid bytes) fits =
    rw (no_bytes (codes "none") bytes fits.bytes_are none_is_none, shown_entry form.HostSaid bytes fits) refl
text_again HostSilent fits = refl
text_again (End text) fits = refl

-- and a text that is an entry is its text
abbrev IsText : List ℕ → Entry → Type 0
IsText text entry = (text ≡ entry_text entry) × IsEntry entry

of_form : (f : Form) (bytes : List ℕ) → Fits f bytes → IsEntry (entry_of_form f bytes)
of_form form.ToCard bytes fits = fits
of_form form.CardSaid bytes fits = fits
of_form form.ToHost bytes fits = fits
of_form form.HostSaid bytes fits = fits

abbrev mark_of : Form → List ℕ
mark_of form.ToCard = codes "> "
mark_of form.CardSaid = codes "< "
mark_of form.ToHost = codes "host > "
mark_of form.HostSaid = codes "host < "

text_of_form : (f : Form) (bytes : List ℕ) → entry_text (entry_of_form f bytes) ≡ mark_of f ++ hex_or_dash bytes
text_of_form form.ToCard bytes = refl
text_of_form form.CardSaid bytes = refl
text_of_form form.ToHost bytes = refl
text_of_form form.HostSaid bytes = refl

-- behind a form's mark its bytes are shown
shown_behind : (f : Form) (text shown : List ℕ) (entry : Entry) → marked_rest (mark_of f) text ≡ Some shown → shown_in f shown ≡ Some entry → IsText text entry
shown_behind f text shown entry marked is = by (bytes_shown (most_in f) shown) refl is
  where
    by : (found : Option (List ℕ)) → bytes_shown (most_in f) shown ≡ found → option_map (entry_of_form f) found ≡ Some entry → (text ≡ entry_text entry) × IsEntry entry
    by None none same = absurd (cc same)
    by (Some bytes) found same =
        let one : entry_of_form f bytes ≡ entry = cc same in
        let fits = shown_fits f shown bytes found in
        let text_is : text ≡ entry_text (entry_of_form f bytes) =
        behind_is (mark_of f) text shown marked ∙ ap (λ (xs : List ℕ). mark_of f ++ xs) fits.0 ∙ sym (text_of_form f bytes) in
        subst (λ (e : Entry). (text ≡ entry_text e) × IsEntry e) one (text_is, of_form f bytes fits.1)

-- a form that is tried, and others behind it
tried : (f : Form) (text : List ℕ) (entry : Entry) (others : Option Entry) → (others ≡ Some entry → IsText text entry)
    → if_behind (marked_rest (mark_of f) text) (shown_in f) others ≡ Some entry → IsText text entry
tried f text entry others rest is = by (marked_rest (mark_of f) text) refl is
  where
    by : (found : Option (List ℕ)) → marked_rest (mark_of f) text ≡ found → if_behind found (shown_in f) others ≡ Some entry → IsText text entry
    by None none same = rest same
    by (Some shown) found same = shown_behind f text shown entry found same

bytes_text : (text : List ℕ) (entry : Entry) → with_bytes text ≡ Some entry → IsText text entry
unfolding with_bytes
bytes_text text entry is =
    tried form.ToCard text entry _
    (tried form.CardSaid text entry _ (tried form.ToHost text entry _ (tried form.HostSaid text entry None (λ none. absurd (cc none))))) is

pub text_is : (text : List ℕ) (entry : Entry) → entry_of_text text ≡ Some entry → (text ≡ entry_text entry) × IsEntry entry
unfolding entry_of_text
text_is text entry is = by_gone (bytes_eq text (codes "< gone")) refl is
  where
    by_end : (found : Option (List ℕ)) → marked_rest (codes "end ") text ≡ found → if_behind found (λ rest. Some (End rest)) (with_bytes text) ≡ Some entry
        → (text ≡ entry_text entry) × IsEntry entry
    by_end None none same = bytes_text text entry same
    by_end (Some rest) found same =
        let one : End rest ≡ entry = cc same in
        subst (λ (e : Entry). (text ≡ entry_text e) × IsEntry e) one (behind_is (codes "end ") text rest found, tt)

    by_silent : (test : Bool) → bytes_eq text (codes "host < none") ≡ test
        → (if test then Some HostSilent else if_behind (marked_rest (codes "end ") text) (λ rest. Some (End rest)) (with_bytes text)) ≡ Some entry
        → (text ≡ entry_text entry) × IsEntry entry
    by_silent true found same =
        let one : HostSilent ≡ entry = cc same in
        subst (λ (e : Entry). (text ≡ entry_text e) × IsEntry e) one ((bytes_eq-Decides text (codes "host < none")).0 found, tt)
    by_silent false none same = by_end (marked_rest (codes "end ") text) refl same

    by_gone : (test : Bool) → bytes_eq text (codes "< gone") ≡ test
        → (if test then Some CardGone
        else if bytes_eq text (codes "host < none") then Some HostSilent
        else if_behind (marked_rest (codes "end ") text) (λ rest. Some (End rest)) (with_bytes text)) ≡ Some entry
        → (text ≡ entry_text entry) × IsEntry entry
    by_gone true found same =
        let one : CardGone ≡ entry = cc same in
        subst (λ (e : Entry). (text ≡ entry_text e) × IsEntry e) one ((bytes_eq-Decides text (codes "< gone")).0 found, tt)
    by_gone false none same = by_silent (bytes_eq text (codes "host < none")) refl same
