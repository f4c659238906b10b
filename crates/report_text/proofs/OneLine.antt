-- The pieces of a line's text have no newline.
use Rattle.std.proofs.Common.{ℕ, ◌<◌, ◌==◌, Bool, true, false, List, [], ◌∷◌, ◌++◌, codes, decimal, refl, sym, subst, ◌∙◌, arith, Option, Some, None, IfSome, ℤ}
use Rattle.std.specs.List.{All, list_any, flat_map}
use Rattle.std.specs.Fmt.{signed_decimal}
use Rattle.std.proofs.lemmas.Bool.{or_from}
use Rattle.std.proofs.lemmas.List.Folds.{list_any-append}
use Rattle.ber_tlv.specs.Item.{AreBytes}
use Rattle.ber_tlv.specs.Written.{tag_bytes}
use Rattle.emv_dict.specs.Flags.{tvr_bytes}
use Rattle.emv_dict.specs.declared.ending.Cause.{Cause}
use Rattle.emv_dict.specs.declared.ending.Cause.TheVariants as cause
use Rattle.emv_dict.specs.declared.ending.Ending.{Ending}
use Rattle.emv_dict.specs.declared.ending.Ending.TheVariants as ending
use Rattle.emv_dict.specs.declared.ending.Step.{Step}
use Rattle.emv_dict.specs.declared.ending.Step.TheVariants as step
use Rattle.hex.specs.Hex.{encode_lower}
use Rattle.report_text.specs.Pieces.{digits_text, hex_or_dash, two_bytes}
use Rattle.report_text.specs.Text.{all_shown, arc_text, parts_text, scripts_text, second_text}
use Rattle.report_text.specs.Told.{ArePartsTold, IsCardName, IsCauseTold, IsEndingTold}
use Rattle.report_text.specs.Words.{cause_text, ending_text, side_word, step_word}
use Rattle.report_text.specs.declared.line.EndParts.{EndParts}
use Rattle.report_text.specs.declared.line.Shown.{Shown}
use Rattle.report_text.proofs.Counters.{shown_flat}
use Rattle.report_text.proofs.EndingsBack.{counter_text, fields_text, last_text, parts_flat}
use Rattle.report_text.proofs.Fronts.{amount_high, decimal_high, digits_high, five_are_bytes, hex_high, one_byte, tag_is_bytes, two_are_bytes}
use Rattle.report_text.proofs.Marks.{name_high}
use Rattle.report_text.proofs.Parts.{scripts_are_bytes}
use Rattle.report_text.proofs.Splitting.{IsWithout, without_low}

-- two texts without a newline, one behind the other
pub joined : (first second : List ℕ) → IsWithout 10 first → IsWithout 10 second → IsWithout 10 (first ++ second)
joined first second p q =
    list_any-append (λ (c : ℕ). c == 10) first second ∙ or_from (list_any (λ (c : ℕ). c == 10) first) (list_any (λ (c : ℕ). c == 10) second) p q

-- ---- words and numbers

pub line_decimal : (n : ℕ) → IsWithout 10 (decimal n)
line_decimal n = without_low 10 48 (decimal n) (omega arith) (decimal_high n)

pub line_name : (name : List ℕ) → IsCardName name → IsWithout 10 name
line_name name all = without_low 10 33 name (omega arith) (name_high name all)

line_hex : (bytes : List ℕ) → AreBytes bytes → IsWithout 10 (encode_lower bytes)
line_hex bytes all = without_low 10 48 (encode_lower bytes) (omega arith) (hex_high bytes all)

pub line_tag : (tag : ℕ) → IsWithout 10 (encode_lower (tag_bytes tag))
line_tag tag = line_hex (tag_bytes tag) (tag_is_bytes tag)

line_two : (n : ℕ) → IsWithout 10 (encode_lower (two_bytes n))
line_two n = line_hex (two_bytes n) (two_are_bytes n)

pub line_dash : (bytes : List ℕ) → AreBytes bytes → IsWithout 10 (hex_or_dash bytes)
unfolding hex_or_dash
line_dash [] all = refl
line_dash (b ∷ bytes) all = line_hex (b ∷ bytes) all

pub line_pan : (digits : List ℕ) → IsWithout 10 (digits_text digits)
line_pan digits = without_low 10 48 (digits_text digits) (omega arith) (digits_high digits)

pub line_amount : (amount : ℤ) → IsWithout 10 (signed_decimal amount)
line_amount amount = without_low 10 45 (signed_decimal amount) (omega arith) (amount_high amount)

-- ---- counters

counter_then : (n : ℕ) (rest : List ℕ) → IsWithout 10 rest → IsWithout 10 (decimal n ++ 44 ∷ rest)
counter_then n rest one = joined (decimal n) (44 ∷ rest) (line_decimal n) one

line_second : (sum : Option ℕ) → IsWithout 10 (second_text sum)
unfolding second_text
line_second None = refl
line_second (Some sum) = joined (codes ",") (decimal sum) refl (line_decimal sum)

pub line_apps : (apps : List Shown) → IsWithout 10 (all_shown apps)
line_apps [] = refl
line_apps (app ∷ apps) =
    let others : List ℕ = all_shown apps in
    let at_second : List ℕ = second_text app.sum_two ++ others in
    let at_flags : List ℕ = decimal app.flags ++ at_second in
    let at_tries : List ℕ = decimal app.tries ++ 44 ∷ at_flags in
    let at_sum : List ℕ = decimal app.sum ++ 44 ∷ at_tries in
    let at_count : List ℕ = decimal app.count ++ 44 ∷ at_sum in
    let at_online : List ℕ = decimal app.last_online ++ 44 ∷ at_count in
    let second : IsWithout 10 at_second = joined (second_text app.sum_two) others (line_second app.sum_two) (line_apps apps) in
    let flags : IsWithout 10 at_flags = joined (decimal app.flags) at_second (line_decimal app.flags) second in
    let tries : IsWithout 10 at_tries = counter_then app.tries at_flags flags in
    let sum : IsWithout 10 at_sum = counter_then app.sum at_tries tries in
    let count : IsWithout 10 at_count = counter_then app.count at_sum sum in
    let online : IsWithout 10 at_online = counter_then app.last_online at_count count in
    subst (IsWithout 10) (sym (shown_flat app others)) (counter_then app.counter at_online online)

-- ---- endings

line_step : (at : Step) → IsWithout 10 (step_word at)
unfolding step_word
line_step step.Power = refl
line_step step.Select = refl
line_step step.Initiate = refl
line_step step.Read = refl
line_step step.Verify = refl
line_step step.Risk = refl
line_step step.First = refl
line_step step.Authenticate = refl
line_step step.Second = refl
line_step step.Script = refl

line_side : (online : Bool) → IsWithout 10 (side_word online)
line_side true = refl
line_side false = refl

line_cause : (why : Cause) → IsCauseTold why → IsWithout 10 (cause_text why)
unfolding cause_text
line_cause cause.NoCandidate told = refl
line_cause cause.CardBlocked told = refl
line_cause cause.Answer told = refl
line_cause (cause.Status n) told = joined (codes "status ") (encode_lower (two_bytes n)) refl (line_two n)
line_cause (cause.Coding n) told = joined (codes "coding ") (decimal n) refl (line_decimal n)
line_cause (cause.Repeated t) told = joined (codes "repeated ") (encode_lower (tag_bytes t.0)) refl (line_tag t.0)
line_cause (cause.Missing t) told = joined (codes "missing ") (encode_lower (tag_bytes t.0)) refl (line_tag t.0)
line_cause (cause.Value t) told = joined (codes "value ") (encode_lower (tag_bytes t.0)) refl (line_tag t.0)
line_cause (cause.Afl n) told = joined (codes "afl ") (decimal n) refl (line_decimal n)
line_cause (cause.Dol t) told = joined (codes "dol ") (encode_lower (tag_bytes t.0)) refl (line_tag t.0)
line_cause cause.TooMuch told = refl
line_cause (cause.Kind n) told = joined (codes "kind ") (encode_lower (n ∷ [])) refl (line_hex (n ∷ []) (one_byte n told))

pub line_ending : (how : Ending) → IsEndingTold how → IsWithout 10 (ending_text how)
unfolding ending_text
line_ending (ending.Approved online) told = joined (codes "approved ") (side_word online) refl (line_side online)
line_ending (ending.Declined online) told = joined (codes "declined ") (side_word online) refl (line_side online)
line_ending (ending.Terminated at why) told =
    let front : List ℕ = codes "terminated " ++ step_word at in
    joined (front ++ codes " ") (cause_text why) (joined front (codes " ") (joined (codes "terminated ") (step_word at) refl (line_step at)) refl) (line_cause why told)
line_ending (ending.CutOff at) told = joined (codes "cut ") (step_word at) refl (line_step at)

-- ---- fields

field_then : (name value rest : List ℕ) → IsWithout 10 name → IsWithout 10 value → IsWithout 10 rest → IsWithout 10 (name ++ (value ++ 32 ∷ rest))
field_then name value rest one two three = joined name (value ++ 32 ∷ rest) one (joined value (32 ∷ rest) two three)

line_code : (code : Option (List ℕ)) → IfSome code (λ two. All (λ c. 32 < c) two) → IsWithout 10 (arc_text code)
unfolding arc_text
line_code None plain = refl
line_code (Some code) plain = line_name code plain

line_counter : (last : Option (ℕ × List ℕ)) → IsWithout 10 (counter_text last)
line_counter None = refl
line_counter (Some last) = line_two last.0

line_last : (last : Option (ℕ × List ℕ)) → IfSome last (λ given. AreBytes given.1) → IsWithout 10 (last_text last)
line_last None told = refl
line_last (Some last) told = line_hex last.1 told

line_fields : (p : EndParts) → ArePartsTold p → IfSome p.arc (λ two. All (λ c. 32 < c) two) → IsWithout 10 (fields_text p)
line_fields p told plain =
    let scripts : List ℕ = scripts_text p.scripts.items in
    let at_scripts : List ℕ = codes "scripts=" ++ scripts in
    let at_ac : List ℕ = codes "ac=" ++ (last_text p.atc_ac ++ 32 ∷ at_scripts) in
    let at_atc : List ℕ = codes "atc=" ++ (counter_text p.atc_ac ++ 32 ∷ at_ac) in
    let at_arc : List ℕ = codes "arc=" ++ (arc_text p.arc ++ 32 ∷ at_atc) in
    let at_cvm : List ℕ = codes "cvm=" ++ (encode_lower p.cvm ++ 32 ∷ at_arc) in
    let at_tsi : List ℕ = codes "tsi=" ++ (encode_lower (two_bytes p.tsi.0) ++ 32 ∷ at_cvm) in
    let last : IsWithout 10 at_scripts = joined (codes "scripts=") scripts refl (line_dash (flat_map (λ result. result) p.scripts.items) (scripts_are_bytes p.scripts.items told.scripts)) in
    let ac : IsWithout 10 at_ac = field_then (codes "ac=") (last_text p.atc_ac) at_scripts refl (line_last p.atc_ac told.last) last in
    let atc : IsWithout 10 at_atc = field_then (codes "atc=") (counter_text p.atc_ac) at_ac refl (line_counter p.atc_ac) ac in
    let arc : IsWithout 10 at_arc = field_then (codes "arc=") (arc_text p.arc) at_atc refl (line_code p.arc plain) atc in
    let cvm : IsWithout 10 at_cvm = field_then (codes "cvm=") (encode_lower p.cvm) at_arc refl (line_hex p.cvm told.cvm) arc in
    let tsi : IsWithout 10 at_tsi = field_then (codes "tsi=") (encode_lower (two_bytes p.tsi.0)) at_cvm refl (line_two p.tsi.0) cvm in
    field_then (codes "tvr=") (encode_lower (tvr_bytes p.tvr.0)) at_tsi refl (line_hex (tvr_bytes p.tvr.0) (five_are_bytes p.tvr.0)) tsi

pub line_parts : (p : EndParts) → ArePartsTold p → IfSome p.arc (λ two. All (λ c. 32 < c) two) → IsWithout 10 (parts_text p)
line_parts p told plain =
    subst (IsWithout 10) (sym (parts_flat p)) (joined (ending_text p.ending) (32 ∷ fields_text p) (line_ending p.ending told.ending) (line_fields p told plain))
