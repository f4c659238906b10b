-- Each line is read back from its own text.
use Rattle.std.proofs.Common.{◌≡◌, ℕ, ◌<◌, ◌^◌, ◌==◌, true, false, not, ◌&&◌, nat_le, nat_lt, List, [], ◌∷◌, ◌++◌, length, drop, slice_index, codes, decimal, refl, sym, ap, subst, ◌∙◌, arith, append_assoc, append-nil, length-append, Option, Some, None, option_map, IfSome}
use Rattle.std.specs.List.{All}
use Rattle.std.specs.Str.{bytes_eq}
use Rattle.std.specs.Fmt.{signed_decimal}
use Rattle.std.proofs.lemmas.Bool.Decides.{nat_tests}
use Rattle.ber_tlv.specs.Item.{AreBytes}
use Rattle.ber_tlv.specs.Written.{tag_bytes}
use Rattle.hex.specs.Hex.{encode_lower}
use Rattle.report_lines.specs.Reading as read
use Rattle.report_lines.specs.Reading.{EndingData, LineData, WhatData, card_line_in, end_line_in, ended_in, ending_in, exchange_in, fields_in, host_in, line_in, of_audit, of_lane, power_in, with_whose}
use Rattle.report_text.specs.Pieces.{digits_text, hex_or_dash}
use Rattle.report_text.specs.Text.{all_shown, line_text, parts_text}
use Rattle.report_text.specs.Words.{ending_text}
use Rattle.report_text.specs.declared.line.EndParts.{EndParts}
use Rattle.report_text.specs.declared.line.Line.{Line}
use Rattle.report_text.specs.declared.line.Line.TheVariants.{Power, PowerCanned, PowerTorn, ToCard, FromCard, Torn, Gone, ToHost, FromHost, NoReply, End, EndLost, SettleCall, SettleReply, AuditPower, AuditAsk, AuditAnswer, Balance, Done, Object, ReadOk, ReadEnded}
use Rattle.report_text.specs.declared.line.Shown.{Shown}
use Rattle.report_text.specs.Told.{ArePartsTold, IsCardName, IsTold}
use Rattle.report_text.specs.LinesRead.{IsShortName, KeepsLimits, LinesAreRead, counters_data, data_of_line, ending_data, fields_data, lane_data, settlement_data, audit_data, report_data}
use Rattle.report_text.proofs.Counters.{behind_first, shown_flat}
use Rattle.report_text.proofs.EndingsBack.{ending_back, fields_back, fields_text, not_lost, parts_flat}
use Rattle.report_text.proofs.Fronts.{dash_first, decimal_first}
use Rattle.report_text.proofs.OneLine.{joined, line_amount, line_apps, line_dash, line_decimal, line_ending, line_name, line_pan, line_parts, line_tag}
use Rattle.report_text.proofs.Parts.{long_front}
use Rattle.report_text.proofs.Splitting.{IsBehindWord, IsOneWord, IsWithout, decimal_more, number_back, one_decimal, one_name, one_tag, split}

-- ---- what is told

differs : (text word : List ℕ) (c : ℕ) → slice_index text 0 < c → bytes_eq text (c ∷ word) ≡ false
differs [] word c low = refl
differs (x ∷ text) word c low =
    let below : x < c = low in
    let other : (x == c) ≡ false = grind (arith, nat_tests) in
    ap (λ b. b && bytes_eq text word) other

two_at_least : (a b : ℕ) (rest : List ℕ) → nat_le 2 (length (a ∷ b ∷ rest)) ≡ true
two_at_least a b rest = grind (arith, nat_tests)

-- what was sent, and what came
sent : (rest : List ℕ) → exchange_in (62 ∷ 32 ∷ rest) ≡ Some (read.Sent rest)
sent rest = rw (two_at_least 62 32 rest) refl

given : (rest : List ℕ) → exchange_in (60 ∷ 32 ∷ rest) ≡ Some (read.Given rest)
given rest = rw (two_at_least 60 32 rest) refl

-- bytes in hexadecimal begin with a digit, a letter up to f or a dash
low_first : (bytes : List ℕ) → AreBytes bytes → slice_index (hex_or_dash bytes) 0 < 103
low_first bytes all = subst (λ (t : List ℕ). slice_index t 0 < 103) (append-nil (hex_or_dash bytes)) (dash_first bytes [] all)

card_given : (bytes : List ℕ) → AreBytes bytes → card_line_in (60 ∷ 32 ∷ hex_or_dash bytes) ≡ Some (read.Given (hex_or_dash bytes))
card_given bytes all =
    let low : slice_index (hex_or_dash bytes) 0 < 103 = low_first bytes all in
    rw (differs (hex_or_dash bytes) (codes "orn") 116 (omega arith), differs (hex_or_dash bytes) (codes "one") 103 low) (given (hex_or_dash bytes))

host_sent : (rest : List ℕ) → host_in (62 ∷ 32 ∷ rest) ≡ Some (read.ToHost rest)
host_sent rest = rw (two_at_least 62 32 rest) refl

host_given : (bytes : List ℕ) → AreBytes bytes → host_in (60 ∷ 32 ∷ hex_or_dash bytes) ≡ Some (read.FromHost (hex_or_dash bytes))
host_given bytes all =
    let low : slice_index (hex_or_dash bytes) 0 < 103 = low_first bytes all in
    rw (differs (hex_or_dash bytes) (codes "one") 110 (omega arith), two_at_least 60 32 (hex_or_dash bytes)) refl

-- a card's power
name_fits : (name : List ℕ) → IsShortName name → (not (length name == 0) && nat_le (length name) 16) ≡ true
name_fits name fits =
    let many = fits.0 in
    let few = fits.1 in
    grind (arith, nat_tests)

apps_behind : (apps : List Shown) → IsBehindWord (all_shown apps)
apps_behind [] = tt
apps_behind (app ∷ apps) = subst IsBehindWord (sym (shown_flat app (all_shown apps))) refl

apps_low : (apps : List Shown) → slice_index (counters_data apps) 0 < 58
apps_low [] = omega arith
apps_low (app ∷ apps) =
    subst (λ (t : List ℕ). slice_index (drop 1 t) 0 < 58) (sym (shown_flat app (all_shown apps))) (decimal_first app.counter (behind_first app (all_shown apps)))

powered : (card : List ℕ) (apps : List Shown) → IsShortName card → power_in card (counters_data apps) ≡ Some (read.Power card (counters_data apps))
powered card apps fits =
    let low : slice_index (counters_data apps) 0 < 58 = apps_low apps in
    rw (name_fits card fits, differs (counters_data apps) (codes "orn") 116 (omega arith), differs (counters_data apps) (codes "anned") 99 (omega arith)) refl

canned : (card : List ℕ) → IsShortName card → power_in card (codes "canned") ≡ Some (read.PowerCanned card)
canned card fits = rw (name_fits card fits) refl

torn : (card : List ℕ) → IsShortName card → power_in card (codes "torn") ≡ Some (read.PowerTorn card)
torn card fits = rw (name_fits card fits) refl

-- ---- a lane's line

lane_line : (lane : ℕ) (rest : List ℕ) (what : WhatData) → lane < 16 → of_lane rest ≡ Some what → line_in (76 ∷ (decimal lane ++ 32 ∷ rest)) ≡ lane_data lane what
unfolding line_in
lane_line lane rest what small is =
    let long : nat_lt 1 (length (76 ∷ decimal lane)) ≡ true = grind (arith, nat_tests, decimal_more lane (omega arith)) in
    let known : nat_lt lane 16 ≡ true = grind (arith, nat_tests) in
    rw (split (76 ∷ decimal lane) (32 ∷ rest) (one_decimal lane) refl, long, number_back lane (omega arith), known) (ap (with_whose (read.Lane lane)) is)

settlement_line : (lane : ℕ) (rest : List ℕ) (what : WhatData) → lane < 16 → exchange_in rest ≡ Some what → line_in (83 ∷ (decimal lane ++ 32 ∷ rest)) ≡ settlement_data lane what
unfolding line_in
settlement_line lane rest what small is =
    let long : nat_lt 1 (length (83 ∷ decimal lane)) ≡ true = grind (arith, nat_tests, decimal_more lane (omega arith)) in
    let known : nat_lt lane 16 ≡ true = grind (arith, nat_tests) in
    rw (split (83 ∷ decimal lane) (32 ∷ rest) (one_decimal lane) refl, long, number_back lane (omega arith), known) (ap (with_whose (read.Settlement lane)) is)

-- a line of the audit
audit_line : (card rest : List ℕ) (what : WhatData) → IsOneWord card → of_audit card rest ≡ Some what → line_in (65 ∷ 32 ∷ (card ++ 32 ∷ rest)) ≡ audit_data card what
unfolding line_in
audit_line card rest what one is =
    rw (split (65 ∷ []) (32 ∷ (card ++ 32 ∷ rest)) refl refl, split card (32 ∷ rest) one refl) (ap (with_whose (read.Audit card)) is)

-- ---- what stands behind a lane

lane_sent : (rest : List ℕ) → of_lane (62 ∷ 32 ∷ rest) ≡ Some (read.Sent rest)
lane_sent rest = rw (split (62 ∷ []) (32 ∷ rest) refl refl) (sent rest)

lane_given : (bytes : List ℕ) → AreBytes bytes → of_lane (60 ∷ 32 ∷ hex_or_dash bytes) ≡ Some (read.Given (hex_or_dash bytes))
lane_given bytes all = rw (split (60 ∷ []) (32 ∷ hex_or_dash bytes) refl refl) (card_given bytes all)

lane_torn : of_lane (codes "< torn") ≡ Some read.Torn
lane_torn = rw (split (60 ∷ []) (codes " torn") refl refl) refl

lane_gone : of_lane (codes "< gone") ≡ Some read.Gone
lane_gone = rw (split (60 ∷ []) (codes " gone") refl refl) refl

lane_host : (rest : List ℕ) → of_lane (codes "host " ++ rest) ≡ host_in rest
lane_host rest = rw (split (codes "host") (32 ∷ rest) refl refl) refl

lane_power : (card rest : List ℕ) → IsOneWord card → IsBehindWord rest → of_lane (codes "power " ++ (card ++ rest)) ≡ power_in card (drop 1 rest)
lane_power card rest one behind = rw (split (codes "power") (32 ∷ (card ++ rest)) refl refl, split card rest one behind) refl

lane_end : (rest : List ℕ) → of_lane (codes "end " ++ rest) ≡ end_line_in rest
lane_end rest = rw (split (codes "end") (32 ∷ rest) refl refl) refl

numbered : (number : ℕ) (rest : List ℕ) → number < 2 ^ 32 → end_line_in (decimal number ++ 32 ∷ rest) ≡ ended_in number rest
numbered number rest small = rw (split (decimal number) (32 ∷ rest) (one_decimal number) refl, number_back number small) refl

-- an end, behind the purchase's number
with_fields : (number : ℕ) (how : EndingData) (rest : List ℕ) (p : EndParts) → fields_in rest ≡ Some (fields_data p)
    → option_map (λ fields. read.End number how fields) (fields_in rest) ≡ Some (read.End number how (fields_data p))
with_fields number how rest p is = ap (option_map (λ fields. read.End number how fields)) is

end_back : (number : ℕ) (p : EndParts) → ArePartsTold p → IfSome p.arc (λ two. All (λ c. 32 < c) two) → ended_in number (parts_text p) ≡ Some (read.End number (ending_data p.ending) (fields_data p))
end_back number p told plain =
    ap (ended_in number) (parts_flat p)
    ∙ rw (not_lost p.ending (32 ∷ fields_text p), ending_back p.ending (32 ∷ fields_text p) told.ending refl)
    (with_fields number (ending_data p.ending) (fields_text p) p (fields_back p told plain))

-- ---- what stands behind a card's name in the audit

audit_power : (card rest : List ℕ) → IsBehindWord rest → of_audit card (codes "power" ++ rest) ≡ power_in card (drop 1 rest)
audit_power card rest behind = rw (split (codes "power") rest refl behind) refl

audit_sent : (card rest : List ℕ) → of_audit card (62 ∷ 32 ∷ rest) ≡ Some (read.Sent rest)
audit_sent card rest = rw (split (62 ∷ []) (32 ∷ rest) refl refl) (sent rest)

audit_given : (card rest : List ℕ) → of_audit card (60 ∷ 32 ∷ rest) ≡ Some (read.Given rest)
audit_given card rest = rw (split (60 ∷ []) (32 ∷ rest) refl refl) (given rest)

-- ---- lines of the report itself

balance_line : (rest : List ℕ) → line_in (codes "balance " ++ rest) ≡ report_data read.Balance
unfolding line_in
balance_line rest = rw (split (codes "balance") (32 ∷ rest) refl refl) refl

done_line : (rest : List ℕ) → line_in (codes "done " ++ rest) ≡ report_data read.Done
unfolding line_in
done_line rest = rw (split (codes "done") (32 ∷ rest) refl refl) refl

object_line : (tag value : List ℕ) → IsOneWord tag → line_in (codes "object " ++ (tag ++ 32 ∷ value)) ≡ report_data (read.Object tag value)
unfolding line_in
object_line tag value one = rw (split (codes "object") (32 ∷ (tag ++ 32 ∷ value)) refl refl, split tag (32 ∷ value) one refl) refl

abbrev read_ended : Option (EndingData × List ℕ) → Option LineData
read_ended found = with_whose read.Report (option_map (λ how. read.ReadEnded how.0) found)

read_line : (rest : List ℕ) → line_in (codes "read " ++ rest) ≡ read_ended (ending_in rest)
unfolding line_in
read_line rest = rw (split (codes "read") (32 ∷ rest) refl refl) refl

no_ending : ending_in (codes "ok") ≡ None
unfolding ending_in
no_ending = rw (split (codes "ok") [] refl tt) refl

-- ---- all lines

-- the text of a line without its newline, each piece before all that follow it
abbrev front_of : Line → List ℕ
front_of (Power lane card apps) = 76 ∷ (decimal lane ++ (codes " power " ++ (card.items ++ all_shown apps.items)))
front_of (PowerCanned lane card) = 76 ∷ (decimal lane ++ (codes " power " ++ (card.items ++ codes " canned")))
front_of (PowerTorn lane card) = 76 ∷ (decimal lane ++ (codes " power " ++ (card.items ++ codes " torn")))
front_of (ToCard lane bytes) = 76 ∷ (decimal lane ++ (codes " > " ++ hex_or_dash bytes.items))
front_of (FromCard lane bytes) = 76 ∷ (decimal lane ++ (codes " < " ++ hex_or_dash bytes.items))
front_of (Torn lane) = 76 ∷ (decimal lane ++ codes " < torn")
front_of (Gone lane) = 76 ∷ (decimal lane ++ codes " < gone")
front_of (ToHost lane bytes) = 76 ∷ (decimal lane ++ (codes " host > " ++ hex_or_dash bytes.items))
front_of (FromHost lane bytes) = 76 ∷ (decimal lane ++ (codes " host < " ++ hex_or_dash bytes.items))
front_of (NoReply lane) = 76 ∷ (decimal lane ++ codes " host < none")
front_of (End lane number p) = 76 ∷ (decimal lane ++ (codes " end " ++ (decimal number ++ (codes " " ++ parts_text p))))
front_of (EndLost lane number) = 76 ∷ (decimal lane ++ (codes " end " ++ (decimal number ++ codes " lost")))
front_of (SettleCall lane bytes) = 83 ∷ (decimal lane ++ (codes " > " ++ hex_or_dash bytes.items))
front_of (SettleReply lane bytes) = 83 ∷ (decimal lane ++ (codes " < " ++ hex_or_dash bytes.items))
front_of (AuditPower card apps) = codes "A " ++ (card.items ++ (codes " power" ++ all_shown apps.items))
front_of (AuditAsk card bytes) = codes "A " ++ (card.items ++ (codes " > " ++ hex_or_dash bytes.items))
front_of (AuditAnswer card bytes) = codes "A " ++ (card.items ++ (codes " < " ++ hex_or_dash bytes.items))
front_of (Balance pan amount) = codes "balance " ++ (digits_text pan ++ (codes " " ++ signed_decimal amount))
front_of (Done number) = codes "done " ++ decimal number
front_of (Object tag value) = codes "object " ++ (encode_lower (tag_bytes tag.0) ++ (codes " " ++ hex_or_dash value.items))
front_of ReadOk = codes "read ok"
front_of (ReadEnded ending) = codes "read " ++ ending_text ending

lane_name : (lane : ℕ) (card word : List ℕ) → IsCardName card → IsWithout 10 word → IsWithout 10 (76 ∷ (decimal lane ++ (codes " power " ++ (card ++ word))))
lane_name lane card word name one =
    joined (decimal lane) (codes " power " ++ (card ++ word)) (line_decimal lane) (joined (codes " power ") (card ++ word) refl (joined card word (line_name card name) one))

lane_bytes : (lane : ℕ) (mark bytes : List ℕ) → IsWithout 10 mark → AreBytes bytes → IsWithout 10 (decimal lane ++ (mark ++ hex_or_dash bytes))
lane_bytes lane mark bytes one all =
    joined (decimal lane) (mark ++ hex_or_dash bytes) (line_decimal lane) (joined mark (hex_or_dash bytes) one (line_dash bytes all))

name_bytes : (card mark bytes : List ℕ) → IsCardName card → IsWithout 10 mark → AreBytes bytes → IsWithout 10 (card ++ (mark ++ hex_or_dash bytes))
name_bytes card mark bytes name one all =
    joined card (mark ++ hex_or_dash bytes) (line_name card name) (joined mark (hex_or_dash bytes) one (line_dash bytes all))

front_is : (line : Line) → line_text line ≡ front_of line ++ 10 ∷ []
unfolding line_text
front_is (Power lane card apps) = simp append_assoc
front_is (PowerCanned lane card) = simp append_assoc
front_is (PowerTorn lane card) = simp append_assoc
front_is (ToCard lane bytes) = simp append_assoc
front_is (FromCard lane bytes) = simp append_assoc
front_is (Torn lane) = simp append_assoc
front_is (Gone lane) = simp append_assoc
front_is (ToHost lane bytes) = simp append_assoc
front_is (FromHost lane bytes) = simp append_assoc
front_is (NoReply lane) = simp append_assoc
front_is (End lane number p) = simp append_assoc
front_is (EndLost lane number) = simp append_assoc
front_is (SettleCall lane bytes) = simp append_assoc
front_is (SettleReply lane bytes) = simp append_assoc
front_is (AuditPower card apps) = simp append_assoc
front_is (AuditAsk card bytes) = simp append_assoc
front_is (AuditAnswer card bytes) = simp append_assoc
front_is (Balance pan amount) = simp append_assoc
front_is (Done number) = refl
front_is (Object tag value) = simp append_assoc
front_is ReadOk = refl
front_is (ReadEnded ending) = refl

front_back : (line : Line) → IsTold line → KeepsLimits line → line_in (front_of line) ≡ data_of_line line
front_back (Power lane card apps) told keeps =
    lane_line lane (codes "power " ++ (card.items ++ all_shown apps.items)) (read.Power card.items (counters_data apps.items)) keeps.0
    (lane_power card.items (all_shown apps.items) (one_name card.items told.name) (apps_behind apps.items) ∙ powered card.items apps.items keeps.1)
front_back (PowerCanned lane card) told keeps =
    lane_line lane (codes "power " ++ (card.items ++ codes " canned")) (read.PowerCanned card.items) keeps.0
    (lane_power card.items (codes " canned") (one_name card.items told.name) refl ∙ canned card.items keeps.1)
front_back (PowerTorn lane card) told keeps =
    lane_line lane (codes "power " ++ (card.items ++ codes " torn")) (read.PowerTorn card.items) keeps.0
    (lane_power card.items (codes " torn") (one_name card.items told.name) refl ∙ torn card.items keeps.1)
front_back (ToCard lane bytes) told keeps =
    lane_line lane (codes "> " ++ hex_or_dash bytes.items) (read.Sent (hex_or_dash bytes.items)) keeps (lane_sent (hex_or_dash bytes.items))
front_back (FromCard lane bytes) told keeps =
    lane_line lane (codes "< " ++ hex_or_dash bytes.items) (read.Given (hex_or_dash bytes.items)) keeps (lane_given bytes.items told.bytes)
front_back (Torn lane) told keeps = lane_line lane (codes "< torn") read.Torn keeps lane_torn
front_back (Gone lane) told keeps = lane_line lane (codes "< gone") read.Gone keeps lane_gone
front_back (ToHost lane bytes) told keeps =
    lane_line lane (codes "host > " ++ hex_or_dash bytes.items) (read.ToHost (hex_or_dash bytes.items)) keeps
    (lane_host (codes "> " ++ hex_or_dash bytes.items) ∙ host_sent (hex_or_dash bytes.items))
front_back (FromHost lane bytes) told keeps =
    lane_line lane (codes "host < " ++ hex_or_dash bytes.items) (read.FromHost (hex_or_dash bytes.items)) keeps
    (lane_host (codes "< " ++ hex_or_dash bytes.items) ∙ host_given bytes.items told.bytes)
front_back (NoReply lane) told keeps = lane_line lane (codes "host < none") read.NoReply keeps (lane_host (codes "< none"))
front_back (End lane number p) told keeps =
    lane_line lane (codes "end " ++ (decimal number ++ 32 ∷ parts_text p)) (read.End number (ending_data p.ending) (fields_data p)) keeps.0
    (lane_end (decimal number ++ 32 ∷ parts_text p) ∙ numbered number (parts_text p) keeps.1 ∙ end_back number p told.bytes keeps.2)
front_back (EndLost lane number) told keeps =
    lane_line lane (codes "end " ++ (decimal number ++ codes " lost")) (read.Lost number) keeps.0
    (lane_end (decimal number ++ codes " lost") ∙ numbered number (codes "lost") keeps.1)
front_back (SettleCall lane bytes) told keeps =
    settlement_line lane (codes "> " ++ hex_or_dash bytes.items) (read.Sent (hex_or_dash bytes.items)) keeps (sent (hex_or_dash bytes.items))
front_back (SettleReply lane bytes) told keeps =
    settlement_line lane (codes "< " ++ hex_or_dash bytes.items) (read.Given (hex_or_dash bytes.items)) keeps (given (hex_or_dash bytes.items))
front_back (AuditPower card apps) told keeps =
    audit_line card.items (codes "power" ++ all_shown apps.items) (read.Power card.items (counters_data apps.items)) (one_name card.items told.name)
    (audit_power card.items (all_shown apps.items) (apps_behind apps.items) ∙ powered card.items apps.items keeps)
front_back (AuditAsk card bytes) told keeps =
    audit_line card.items (codes "> " ++ hex_or_dash bytes.items) (read.Sent (hex_or_dash bytes.items)) (one_name card.items told.name)
    (audit_sent card.items (hex_or_dash bytes.items))
front_back (AuditAnswer card bytes) told keeps =
    audit_line card.items (codes "< " ++ hex_or_dash bytes.items) (read.Given (hex_or_dash bytes.items)) (one_name card.items told.name)
    (audit_given card.items (hex_or_dash bytes.items))
front_back (Balance pan amount) told keeps = balance_line (digits_text pan ++ (codes " " ++ signed_decimal amount))
front_back (Done number) told keeps = done_line (decimal number)
front_back (Object tag value) told keeps = object_line (encode_lower (tag_bytes tag.0)) (hex_or_dash value.items) (one_tag tag.0)
front_back ReadOk told keeps = read_line (codes "ok") ∙ ap read_ended no_ending
front_back (ReadEnded ending) told keeps =
    read_line (ending_text ending)
    ∙ ap (λ (t : List ℕ). read_ended (ending_in t)) (sym (append-nil (ending_text ending))) ∙ ap read_ended (ending_back ending [] told.bytes tt)

-- no newline stands within
front_one : (line : Line) → IsTold line → KeepsLimits line → IsWithout 10 (front_of line)
front_one (Power lane card apps) told keeps =
    joined (decimal lane) (codes " power " ++ (card.items ++ all_shown apps.items)) (line_decimal lane)
    (joined (codes " power ") (card.items ++ all_shown apps.items) refl (joined card.items (all_shown apps.items) (line_name card.items told.name) (line_apps apps.items)))
front_one (PowerCanned lane card) told keeps = lane_name lane card.items (codes " canned") told.name refl
front_one (PowerTorn lane card) told keeps = lane_name lane card.items (codes " torn") told.name refl
front_one (ToCard lane bytes) told keeps = lane_bytes lane (codes " > ") bytes.items refl told.bytes
front_one (FromCard lane bytes) told keeps = lane_bytes lane (codes " < ") bytes.items refl told.bytes
front_one (Torn lane) told keeps = joined (decimal lane) (codes " < torn") (line_decimal lane) refl
front_one (Gone lane) told keeps = joined (decimal lane) (codes " < gone") (line_decimal lane) refl
front_one (ToHost lane bytes) told keeps = lane_bytes lane (codes " host > ") bytes.items refl told.bytes
front_one (FromHost lane bytes) told keeps = lane_bytes lane (codes " host < ") bytes.items refl told.bytes
front_one (NoReply lane) told keeps = joined (decimal lane) (codes " host < none") (line_decimal lane) refl
front_one (End lane number p) told keeps =
    joined (decimal lane) (codes " end " ++ (decimal number ++ (codes " " ++ parts_text p))) (line_decimal lane)
    (joined (codes " end ") (decimal number ++ (codes " " ++ parts_text p)) refl
    (joined (decimal number) (codes " " ++ parts_text p) (line_decimal number) (joined (codes " ") (parts_text p) refl (line_parts p told.bytes keeps.2))))
front_one (EndLost lane number) told keeps =
    joined (decimal lane) (codes " end " ++ (decimal number ++ codes " lost")) (line_decimal lane)
    (joined (codes " end ") (decimal number ++ codes " lost") refl (joined (decimal number) (codes " lost") (line_decimal number) refl))
front_one (SettleCall lane bytes) told keeps = lane_bytes lane (codes " > ") bytes.items refl told.bytes
front_one (SettleReply lane bytes) told keeps = lane_bytes lane (codes " < ") bytes.items refl told.bytes
front_one (AuditPower card apps) told keeps =
    joined card.items (codes " power" ++ all_shown apps.items) (line_name card.items told.name) (joined (codes " power") (all_shown apps.items) refl (line_apps apps.items))
front_one (AuditAsk card bytes) told keeps = name_bytes card.items (codes " > ") bytes.items told.name refl told.bytes
front_one (AuditAnswer card bytes) told keeps = name_bytes card.items (codes " < ") bytes.items told.name refl told.bytes
front_one (Balance pan amount) told keeps =
    joined (codes "balance ") (digits_text pan ++ (codes " " ++ signed_decimal amount)) refl
    (joined (digits_text pan) (codes " " ++ signed_decimal amount) (line_pan pan) (joined (codes " ") (signed_decimal amount) refl (line_amount amount)))
front_one (Done number) told keeps = joined (codes "done ") (decimal number) refl (line_decimal number)
front_one (Object tag value) told keeps =
    joined (codes "object ") (encode_lower (tag_bytes tag.0) ++ (codes " " ++ hex_or_dash value.items)) refl
    (joined (encode_lower (tag_bytes tag.0)) (codes " " ++ hex_or_dash value.items) (line_tag tag.0)
    (joined (codes " ") (hex_or_dash value.items) refl (line_dash value.items told.bytes)))
front_one ReadOk told keeps = refl
front_one (ReadEnded ending) told keeps = joined (codes "read ") (ending_text ending) refl (line_ending ending told.bytes)

-- two texts of one line
same_front : (text front : List ℕ) → text ++ 10 ∷ [] ≡ front ++ 10 ∷ [] → text ≡ front
same_front text front e = (long_front text front (10 ∷ []) (10 ∷ []) e (omega (arith, ap length e, length-append text (10 ∷ []), length-append front (10 ∷ [])))).0

pub lines_are_read : LinesAreRead
lines_are_read line text told keeps e =
    let same = same_front text (front_of line) (sym e ∙ front_is line) in
    (subst (IsWithout 10) (sym same) (front_one line told keeps), ap line_in same ∙ front_back line told keeps)
