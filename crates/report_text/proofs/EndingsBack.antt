-- How a payment ended, and the fields behind it, as they are read from their text.
use Rattle.std.proofs.Common.{◌≡◌, ℕ, ◌<◌, true, false, List, [], ◌∷◌, ◌++◌, drop, refl, sym, ap, ◌∙◌, append_assoc, append-nil, codes, decimal, Option, Some, None}
use Rattle.std.specs.Prelude.{IfSome}
use Rattle.std.specs.List.{All, flat_map}
use Rattle.std.specs.Str.{bytes_eq}
use Rattle.std.proofs.lemmas.Slice.Eq.{bytes_eq-Decides}
use Rattle.std.proofs.Math.Seq.{take-append_seam, drop-append_seam}
use Rattle.ber_tlv.specs.Item.{AreBytes}
use Rattle.ber_tlv.specs.Written.{tag_bytes}
use Rattle.emv_dict.specs.Flags.{tvr_bytes}
use Rattle.emv_dict.specs.declared.ending.Cause.{Cause}
use Rattle.emv_dict.specs.declared.ending.Cause.TheVariants as cause
use Rattle.emv_dict.specs.declared.ending.Ending.{Ending}
use Rattle.emv_dict.specs.declared.ending.Ending.TheVariants as ending
use Rattle.emv_dict.specs.declared.ending.Step.{Step}
use Rattle.hex.specs.Hex.{encode_lower, encode_with}
use Rattle.report_lines.specs.Reading as read
use Rattle.report_lines.specs.Reading.{EndingData, ending_in, field_in, fields_in, stands_alone, terminated_in}
use Rattle.report_text.specs.Pieces.{two_bytes}
use Rattle.report_text.specs.Text.{arc_text, cryptogram_text, parts_text, scripts_text}
use Rattle.report_text.specs.Told.{ArePartsTold, IsCauseTold, IsEndingTold}
use Rattle.report_text.specs.Words.{cause_text, ending_text, side_word, step_word}
use Rattle.report_text.specs.declared.line.EndParts.{EndParts}
use Rattle.report_text.specs.LinesRead.{cause_detail, cause_named, ending_data, fields_data}
use Rattle.report_text.proofs.Fronts.{five_are_bytes, one_byte}
use Rattle.report_text.proofs.Parts.{scripts_are_bytes}
use Rattle.report_text.proofs.Splitting.{IsBehindWord, IsOneWord, one_dash, one_decimal, one_hex, one_name, one_side, one_step, one_tag, one_two, parts, split}

-- ---- endings

abbrev pub ended : EndingData → List ℕ → EndingData × List ℕ
ended how rest = (how, rest)

-- a cause that stands alone
alone : (at why rest : List ℕ) → IsOneWord at → IsOneWord why → stands_alone why ≡ true → IsBehindWord rest
    → terminated_in (at ++ 32 ∷ (why ++ rest)) ≡ ended (read.Terminated at why []) (drop 1 rest)
alone at why rest one two is behind = rw (split at (32 ∷ (why ++ rest)) one refl, split why rest two behind, is) refl

-- one with a word of its own behind it
detailed : (at why detail rest : List ℕ) → IsOneWord at → IsOneWord why → IsOneWord detail → stands_alone why ≡ false → IsBehindWord rest
    → terminated_in (at ++ 32 ∷ (why ++ 32 ∷ (detail ++ rest))) ≡ ended (read.Terminated at why detail) (drop 1 rest)
detailed at why detail rest one two three is behind =
    rw (split at (32 ∷ (why ++ 32 ∷ (detail ++ rest))) one refl, split why (32 ∷ (detail ++ rest)) two refl, split detail rest three behind, is) refl

cause_back : (at : List ℕ) (why : Cause) (rest : List ℕ) → IsOneWord at → IsCauseTold why → IsBehindWord rest
    → terminated_in (at ++ 32 ∷ (cause_text why ++ rest)) ≡ ended (read.Terminated at (cause_named why) (cause_detail why)) (drop 1 rest)
unfolding cause_text
cause_back at cause.NoCandidate rest one told behind = alone at (codes "no-candidate") rest one refl refl behind
cause_back at cause.CardBlocked rest one told behind = alone at (codes "card-blocked") rest one refl refl behind
cause_back at cause.Answer rest one told behind = alone at (codes "answer") rest one refl refl behind
cause_back at (cause.Status n) rest one told behind = detailed at (codes "status") (encode_lower (two_bytes n)) rest one refl (one_two n) refl behind
cause_back at (cause.Coding n) rest one told behind = detailed at (codes "coding") (decimal n) rest one refl (one_decimal n) refl behind
cause_back at (cause.Repeated t) rest one told behind = detailed at (codes "repeated") (encode_lower (tag_bytes t.0)) rest one refl (one_tag t.0) refl behind
cause_back at (cause.Missing t) rest one told behind = detailed at (codes "missing") (encode_lower (tag_bytes t.0)) rest one refl (one_tag t.0) refl behind
cause_back at (cause.Value t) rest one told behind = detailed at (codes "value") (encode_lower (tag_bytes t.0)) rest one refl (one_tag t.0) refl behind
cause_back at (cause.Afl n) rest one told behind = detailed at (codes "afl") (decimal n) rest one refl (one_decimal n) refl behind
cause_back at (cause.Dol t) rest one told behind = detailed at (codes "dol") (encode_lower (tag_bytes t.0)) rest one refl (one_tag t.0) refl behind
cause_back at cause.TooMuch rest one told behind = alone at (codes "too-much") rest one refl refl behind
cause_back at (cause.Kind n) rest one told behind = detailed at (codes "kind") (encode_lower (n ∷ [])) rest one refl (one_hex (n ∷ []) (one_byte n told)) refl behind

terminated_flat : (at : Step) (why : Cause) (rest : List ℕ)
    → ending_text (ending.Terminated at why) ++ rest ≡ codes "terminated" ++ 32 ∷ (step_word at ++ 32 ∷ (cause_text why ++ rest))
unfolding ending_text
terminated_flat at why rest = simp append_assoc

pub ending_back : (how : Ending) (rest : List ℕ) → IsEndingTold how → IsBehindWord rest → ending_in (ending_text how ++ rest) ≡ Some (ended (ending_data how) (drop 1 rest))
unfolding ending_in ending_text
ending_back (ending.Approved online) rest told behind =
    rw (split (codes "approved") (32 ∷ (side_word online ++ rest)) refl refl, split (side_word online) rest (one_side online) behind) refl
ending_back (ending.Declined online) rest told behind =
    rw (split (codes "declined") (32 ∷ (side_word online ++ rest)) refl refl, split (side_word online) rest (one_side online) behind) refl
ending_back (ending.Terminated at why) rest told behind =
    let whole : List ℕ = step_word at ++ 32 ∷ (cause_text why ++ rest) in
    ap ending_in (terminated_flat at why rest)
    ∙ rw (split (codes "terminated") (32 ∷ whole) refl refl) (ap Some (cause_back (step_word at) why rest (one_step at) told behind))
ending_back (ending.CutOff at) rest told behind =
    rw (split (codes "cut") (32 ∷ (step_word at ++ rest)) refl refl, split (step_word at) rest (one_step at) behind) refl

-- no ending begins as a loss does
pub not_lost : (how : Ending) (rest : List ℕ) → bytes_eq (ending_text how ++ rest) (codes "lost") ≡ false
unfolding ending_text
not_lost (ending.Approved online) rest = refl
not_lost (ending.Declined online) rest = refl
not_lost (ending.Terminated at why) rest = refl
not_lost (ending.CutOff at) rest = refl

-- ---- fields

same_bytes : (text : List ℕ) → bytes_eq text text ≡ true
same_bytes text = (bytes_eq-Decides text text).1 refl

-- a field of this name
field_back : (name value rest : List ℕ) → IsOneWord (name ++ value) → IsBehindWord rest
    → field_in name ((name ++ value) ++ rest) ≡ Some (parts value (drop 1 rest))
field_back name value rest one is =
    rw (split (name ++ value) rest one is, take-append_seam name value, same_bytes name, drop-append_seam name value) refl

abbrev pub counter_text : Option (ℕ × List ℕ) → List ℕ
counter_text None = codes "----"
counter_text (Some last) = encode_lower (two_bytes last.0)

abbrev pub last_text : Option (ℕ × List ℕ) → List ℕ
last_text None = codes "----------------"
last_text (Some last) = encode_lower last.1

cryptogram_flat : (last : Option (ℕ × List ℕ)) → cryptogram_text last ≡ 32 ∷ (codes "atc=" ++ (counter_text last ++ 32 ∷ (codes "ac=" ++ last_text last)))
unfolding cryptogram_text encode_with
cryptogram_flat None = refl
cryptogram_flat (Some last) = refl

one_counter : (last : Option (ℕ × List ℕ)) → IsOneWord (counter_text last)
one_counter None = refl
one_counter (Some last) = one_two last.0

one_last : (last : Option (ℕ × List ℕ)) → IfSome last (λ given. AreBytes given.1) → IsOneWord (last_text last)
one_last None told = refl
one_last (Some last) told = one_hex last.1 told

one_code : (code : Option (List ℕ)) → IfSome code (λ two. All (λ c. 32 < c) two) → IsOneWord (arc_text code)
unfolding arc_text
one_code None told = refl
one_code (Some code) told = one_name code told

-- the fields, each before all that follow it
abbrev pub fields_text : EndParts → List ℕ
fields_text p =
    codes "tvr=" ++ (encode_lower (tvr_bytes p.tvr.0) ++ 32 ∷ (codes "tsi=" ++ (encode_lower (two_bytes p.tsi.0) ++ 32 ∷ (codes "cvm=" ++ (encode_lower p.cvm
    ++ 32 ∷ (codes "arc=" ++ (arc_text p.arc ++ 32 ∷ (codes "atc=" ++ (counter_text p.atc_ac ++ 32 ∷ (codes "ac=" ++ (last_text p.atc_ac
    ++ 32 ∷ (codes "scripts=" ++ scripts_text p.scripts.items))))))))))))

pub parts_flat : (p : EndParts) → parts_text p ≡ ending_text p.ending ++ 32 ∷ fields_text p
unfolding parts_text
parts_flat p = rw (cryptogram_flat p.atc_ac) (simp append_assoc)

-- a field and those behind it
next_field : (name value rest : List ℕ) → IsOneWord (name ++ value) → field_in name ((name ++ value) ++ 32 ∷ rest) ≡ Some (parts value rest)
next_field name value rest one = field_back name value (32 ∷ rest) one refl

last_field : (name value : List ℕ) → IsOneWord (name ++ value) → field_in name (name ++ value) ≡ Some (parts value [])
last_field name value one = ap (field_in name) (sym (append-nil (name ++ value))) ∙ field_back name value [] one tt

pub fields_back : (p : EndParts) → ArePartsTold p → IfSome p.arc (λ two. All (λ c. 32 < c) two) → fields_in (fields_text p) ≡ Some (fields_data p)
unfolding fields_in
fields_back p told plain =
    let scripts : List ℕ = scripts_text p.scripts.items in
    let at_scripts : List ℕ = codes "scripts=" ++ scripts in
    let at_ac : List ℕ = codes "ac=" ++ (last_text p.atc_ac ++ 32 ∷ at_scripts) in
    let at_atc : List ℕ = codes "atc=" ++ (counter_text p.atc_ac ++ 32 ∷ at_ac) in
    let at_arc : List ℕ = codes "arc=" ++ (arc_text p.arc ++ 32 ∷ at_atc) in
    let at_cvm : List ℕ = codes "cvm=" ++ (encode_lower p.cvm ++ 32 ∷ at_arc) in
    let at_tsi : List ℕ = codes "tsi=" ++ (encode_lower (two_bytes p.tsi.0) ++ 32 ∷ at_cvm) in
    rw (
      next_field (codes "tvr=") (encode_lower (tvr_bytes p.tvr.0)) at_tsi (one_hex (tvr_bytes p.tvr.0) (five_are_bytes p.tvr.0)),
      next_field (codes "tsi=") (encode_lower (two_bytes p.tsi.0)) at_cvm (one_two p.tsi.0),
      next_field (codes "cvm=") (encode_lower p.cvm) at_arc (one_hex p.cvm told.cvm),
      next_field (codes "arc=") (arc_text p.arc) at_atc (one_code p.arc plain),
      next_field (codes "atc=") (counter_text p.atc_ac) at_ac (one_counter p.atc_ac),
      next_field (codes "ac=") (last_text p.atc_ac) at_scripts (one_last p.atc_ac told.last),
      last_field (codes "scripts=") scripts (one_dash (flat_map (λ result. result) p.scripts.items) (scripts_are_bytes p.scripts.items told.scripts)),
    ) refl
