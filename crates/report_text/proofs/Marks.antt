-- Which kind of line a text is of, by its first words.
use Rattle.std.proofs.Common.{◌≡◌, ◌≢◌, ℕ, ◌<◌, ◌≤◌, ◌==◌, nat_lt, Bool, true, false, List, [], ◌∷◌, ◌++◌, drop, refl, sym, ap, ◌∙◌, arith, append_assoc}
use Rattle.std.specs.Prelude.{slice_index, if◌then◌else◌, codes, decimal, IsTrue}
use Rattle.std.proofs.lemmas.Bool.Decides.{nat_tests}
use Rattle.std.proofs.lemmas.List.Elements.{All-weaker}
use Rattle.emv_dict.specs.declared.ending.Ending.{Ending}
use Rattle.emv_dict.specs.declared.ending.Ending.TheVariants as ending
use Rattle.emv_dict.specs.Flags.{tvr_bytes}
use Rattle.hex.specs.Hex.{encode_lower}
use Rattle.report_text.specs.Pieces.{two_bytes}
use Rattle.report_text.specs.Text.{arc_text, cryptogram_text, scripts_text, parts_text}
use Rattle.report_text.specs.Words.{ending_text}
use Rattle.report_text.specs.declared.line.EndParts.{EndParts}
use Rattle.report_text.specs.declared.line.Line.{Line}
use Rattle.report_text.specs.declared.line.Line.TheVariants.{Power, PowerCanned, PowerTorn, ToCard, FromCard, Torn, Gone, ToHost, FromHost, NoReply, End, EndLost, SettleCall, SettleReply, AuditPower, AuditAsk, AuditAnswer, Balance, Done, Object, ReadOk, ReadEnded}
use Rattle.report_text.specs.Told.{IsCardName, IsTold}
use Rattle.report_text.proofs.Fronts.{AtLeast, high_head, high_tail, decimal_high, dash_first}
use Rattle.report_text.proofs.Counters.{begun}
use Rattle.report_text.proofs.Flat.{flat_text}

-- what follows a word
rest_of : ℕ → List ℕ → List ℕ
rest_of bound [] = []
rest_of bound (c ∷ rest) = if nat_lt c bound then c ∷ rest else rest_of bound rest

rest_word : (bound : ℕ) (word : List ℕ) (c : ℕ) (rest : List ℕ) → AtLeast bound word → c < bound → rest_of bound (word ++ c ∷ rest) ≡ c ∷ rest
unfolding rest_of
rest_word bound [] c rest all low =
    let yes : nat_lt c bound ≡ true = grind (arith, nat_tests) in
    rw yes refl
rest_word bound (x ∷ word) c rest all low =
    let high : bound ≤ x = high_head bound x word all in
    let no : nat_lt x bound ≡ false = grind (arith, nat_tests) in
    rw no (rest_word bound word c rest (high_tail bound x word all) low)

pub name_high : (name : List ℕ) → IsCardName name → AtLeast 33 name
name_high name all = All-weaker (λ (c : ℕ). 32 < c) (λ (c : ℕ). 33 ≤ c) (λ c h. omega arith) name all

-- the kinds, numbered
abbrev pub kind : Line → ℕ
kind (Power lane card apps) = 1
kind (PowerCanned lane card) = 2
kind (PowerTorn lane card) = 3
kind (ToCard lane bytes) = 4
kind (FromCard lane bytes) = 5
kind (Torn lane) = 6
kind (Gone lane) = 7
kind (ToHost lane bytes) = 8
kind (FromHost lane bytes) = 9
kind (NoReply lane) = 10
kind (End lane number parts) = 11
kind (SettleCall lane bytes) = 12
kind (SettleReply lane bytes) = 13
kind (AuditPower card apps) = 14
kind (AuditAsk card bytes) = 15
kind (AuditAnswer card bytes) = 16
kind (Balance pan amount) = 17
kind (Done number) = 18
kind (Object tag value) = 19
kind ReadOk = 20
kind (ReadEnded ending) = 21
kind (EndLost lane number) = 22

-- behind `power` and a name
power_mark : List ℕ → ℕ
power_mark text =
    if slice_index text 0 == 10 then 1
    else if slice_index text 1 == 99 then 2
    else if slice_index text 1 == 116 then 3
    else 1

-- by the first character of an answer
answer_mark : ℕ → ℕ
answer_mark c = if c == 116 then 6 else if c == 103 then 7 else 5

reply_mark : ℕ → ℕ
reply_mark c = if c == 110 then 10 else 9

-- behind `end` and a number
end_mark : List ℕ → ℕ
end_mark text = if slice_index text 1 == 108 then 22 else 11

-- behind a lane's number
lane_mark : List ℕ → ℕ
lane_mark text =
    if slice_index text 1 == 112 then power_mark (rest_of 33 (drop 7 text))
    else if slice_index text 1 == 62 then 4
    else if slice_index text 1 == 60 then answer_mark (slice_index text 3)
    else if slice_index text 1 == 104 then (if slice_index text 6 == 62 then 8 else reply_mark (slice_index text 8))
    else end_mark (rest_of 48 (drop 5 text))

settle_mark : List ℕ → ℕ
settle_mark text = if slice_index text 1 == 62 then 12 else 13

audit_mark : List ℕ → ℕ
audit_mark text = if slice_index text 1 == 112 then 14 else if slice_index text 1 == 62 then 15 else 16

read_mark : ℕ → ℕ
read_mark c = if c == 111 then 20 else 21

line_mark : List ℕ → ℕ
line_mark text =
    if slice_index text 0 == 76 then lane_mark (rest_of 48 (drop 1 text))
    else if slice_index text 0 == 83 then settle_mark (rest_of 48 (drop 1 text))
    else if slice_index text 0 == 65 then audit_mark (rest_of 33 (drop 2 text))
    else if slice_index text 0 == 98 then 17
    else if slice_index text 0 == 100 then 18
    else if slice_index text 0 == 111 then 19
    else read_mark (slice_index text 5)

lane_line : (lane : ℕ) (rest : List ℕ) → line_mark (76 ∷ (decimal lane ++ 32 ∷ rest)) ≡ lane_mark (32 ∷ rest)
unfolding line_mark
lane_line lane rest = ap lane_mark (rest_word 48 (decimal lane) 32 rest (decimal_high lane) (omega arith))

settle_line : (lane : ℕ) (rest : List ℕ) → line_mark (83 ∷ (decimal lane ++ 32 ∷ rest)) ≡ settle_mark (32 ∷ rest)
unfolding line_mark
settle_line lane rest = ap settle_mark (rest_word 48 (decimal lane) 32 rest (decimal_high lane) (omega arith))

audit_line : (card rest : List ℕ) → IsCardName card → line_mark (65 ∷ 32 ∷ (card ++ 32 ∷ rest)) ≡ audit_mark (32 ∷ rest)
unfolding line_mark
audit_line card rest h = ap audit_mark (rest_word 33 card 32 rest (name_high card h) (omega arith))

power_line : (lane : ℕ) (card : List ℕ) (c : ℕ) (rest : List ℕ) → IsCardName card → c < 33
    → line_mark (76 ∷ (decimal lane ++ (codes " power " ++ (card ++ c ∷ rest)))) ≡ power_mark (c ∷ rest)
unfolding lane_mark
power_line lane card c rest name low = lane_line lane _ ∙ ap power_mark (rest_word 33 card c rest (name_high card name) low)

end_line : (lane number : ℕ) (rest : List ℕ)
    → line_mark (76 ∷ (decimal lane ++ (codes " end " ++ (decimal number ++ 32 ∷ rest)))) ≡ end_mark (32 ∷ rest)
unfolding lane_mark
end_line lane number rest = lane_line lane _ ∙ ap end_mark (rest_word 48 (decimal number) 32 rest (decimal_high number) (omega arith))

power_low_by : (c : ℕ) (rest : List ℕ) (ends : Bool) → (c == 10) ≡ ends → (c ≢ 10 → slice_index rest 0 < 58) → power_mark (c ∷ rest) ≡ 1
unfolding power_mark
power_low_by c rest true is digit = rw is refl
power_low_by c rest false is digit =
    let other : c ≢ 10 = λ (e : c ≡ 10). grind (arith, nat_tests) in
    let low : slice_index rest 0 < 58 = digit other in
    grind (arith, nat_tests)

power_low : (c : ℕ) (rest : List ℕ) → (c ≢ 10 → slice_index rest 0 < 58) → power_mark (c ∷ rest) ≡ 1
power_low c rest digit = power_low_by c rest (c == 10) refl digit

answer_low : (c : ℕ) → c < 103 → answer_mark c ≡ 5
unfolding answer_mark
answer_low c low = grind (arith, nat_tests)

reply_low : (c : ℕ) → c < 103 → reply_mark c ≡ 9
unfolding reply_mark
reply_low c low = grind (arith, nat_tests)

ending_mark : (ending : Ending) (rest : List ℕ) → line_mark (codes "read " ++ (ending_text ending ++ rest)) ≡ 21
unfolding line_mark read_mark ending_text
ending_mark (ending.Approved online) rest = refl
ending_mark (ending.Declined online) rest = refl
ending_mark (ending.Terminated step cause) rest = refl
ending_mark (ending.CutOff step) rest = refl

end_parts_mark : (ending : Ending) (rest : List ℕ) → end_mark (32 ∷ (ending_text ending ++ rest)) ≡ 11
unfolding end_mark ending_text
end_parts_mark (ending.Approved online) rest = refl
end_parts_mark (ending.Declined online) rest = refl
end_parts_mark (ending.Terminated step cause) rest = refl
end_parts_mark (ending.CutOff step) rest = refl

-- the parts begin with the ending
parts_begin : (parts : EndParts) (r : List ℕ) → (rest : List ℕ) × (parts_text parts ++ 10 ∷ r ≡ ending_text parts.ending ++ rest)
unfolding parts_text
parts_begin parts r =
    let rest : List ℕ =
    codes " tvr=" ++ (encode_lower (tvr_bytes parts.tvr.0) ++ (codes " tsi=" ++ (encode_lower (two_bytes parts.tsi.0)
    ++ (codes " cvm=" ++ (encode_lower parts.cvm ++ (codes " arc=" ++ (arc_text parts.arc ++ (cryptogram_text parts.atc_ac ++ (codes " scripts=" ++ (scripts_text parts.scripts.items ++ 10 ∷ r)))))))))) in
    (rest, simp append_assoc)

marked : (line : Line) (r : List ℕ) → IsTold line → line_mark (flat_text line r) ≡ kind line
unfolding line_mark lane_mark settle_mark audit_mark answer_mark reply_mark read_mark power_mark end_mark
marked (Power lane card apps) r t =
    let start = begun apps.items r in
    let whole : line_mark (76 ∷ (decimal lane ++ (codes " power " ++ (card.items ++ start.first ∷ start.rest)))) ≡ power_mark (start.first ∷ start.rest) =
    power_line lane card.items start.first start.rest t.name start.low in
    rw start.is (whole ∙ power_low start.first start.rest start.digit)
marked (PowerCanned lane card) r t = power_line lane card.items 32 _ t.name (omega arith)
marked (PowerTorn lane card) r t = power_line lane card.items 32 _ t.name (omega arith)
marked (ToCard lane bytes) r t = lane_line lane _
marked (FromCard lane bytes) r t = lane_line lane _ ∙ answer_low _ (dash_first bytes.items (10 ∷ r) t.bytes)
marked (Torn lane) r t = lane_line lane _
marked (Gone lane) r t = lane_line lane _
marked (ToHost lane bytes) r t = lane_line lane _
marked (FromHost lane bytes) r t = lane_line lane _ ∙ reply_low _ (dash_first bytes.items (10 ∷ r) t.bytes)
marked (NoReply lane) r t = lane_line lane _
marked (End lane number parts) r t =
    let begin = parts_begin parts r in
    end_line lane number (parts_text parts ++ 10 ∷ r)
    ∙ ap (λ (text : List ℕ). end_mark (32 ∷ text)) begin.1 ∙ end_parts_mark parts.ending begin.0
marked (EndLost lane number) r t = end_line lane number _
marked (SettleCall lane bytes) r t = settle_line lane _
marked (SettleReply lane bytes) r t = settle_line lane _
marked (AuditPower card apps) r t = audit_line card.items _ t.name
marked (AuditAsk card bytes) r t = audit_line card.items _ t.name
marked (AuditAnswer card bytes) r t = audit_line card.items _ t.name
marked (Balance pan amount) r t = refl
marked (Done number) r t = refl
marked (Object tag value) r t = refl
marked ReadOk r t = refl
marked (ReadEnded ending) r t = ending_mark ending (10 ∷ r)

pub same_kind : (a b : Line) (r s : List ℕ) → flat_text a r ≡ flat_text b s → IsTold a → IsTold b → IsTrue (kind a == kind b)
same_kind a b r s e ta tb =
    let same : kind a ≡ kind b = sym (marked a r ta) ∙ ap line_mark e ∙ marked b s tb in
    grind (arith, nat_tests)
