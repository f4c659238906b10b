-- Two lines that stand at the front of one text are of one kind, and tell the same; so reports of one text have the
-- same lines.
use Rattle.std.proofs.Common.{◌≡◌, ◌==◌, ℕ, ◌<◌, List, [], ◌∷◌, ◌++◌, true, false, sym, ap, ◌∙◌, arith, append_assoc, length, length-append}
use Rattle.std.specs.Prelude.{decimal, IsTrue}
use Rattle.std.specs.List.{AllZip, flat_map}
use Rattle.std.proofs.lemmas.List.Elements.{All-head, All-nil, All-tail}
use Rattle.report_text.specs.Text.{line_text, all_shown}
use Rattle.report_text.specs.Told.{IsCardName, IsTold}
use Rattle.report_text.specs.declared.line.Line.{Line}
use Rattle.report_text.specs.declared.line.Line.TheVariants.{Power, PowerCanned, PowerTorn, ToCard, FromCard, Torn, Gone, ToHost, FromHost, NoReply, End, EndLost, SettleCall, SettleReply, AuditPower, AuditAsk, AuditAnswer, Balance, Done, Object, ReadOk, ReadEnded}
use Rattle.report_text.specs.declared.line.Shown.{Shown}
use Rattle.report_text.specs.LineTexts.{SameCounters, ShowsAs, LinesDiffer, ReportsDiffer}
use Rattle.report_text.proofs.Fronts.{behind, word, number, amount, dash, pan_digits, tag}
use Rattle.report_text.proofs.Counters.{begun, counters_same}
use Rattle.report_text.proofs.Endings.{ending_front}
use Rattle.report_text.proofs.Parts.{parts_same}
use Rattle.report_text.proofs.Flat.{flat_text, flat_of}
use Rattle.report_text.proofs.Marks.{name_high, kind, same_kind}

-- a lane's number behind the first letter
lane : (x m n : ℕ) {r s : List ℕ} → x ∷ (decimal m ++ 32 ∷ r) ≡ x ∷ (decimal n ++ 32 ∷ s) → (decimal m ≡ decimal n) × (r ≡ s)
lane x m n {r} {s} e =
    let same = number m n 32 32 r s (behind 1 e) (omega arith) (omega arith) in
    (same.0, behind 1 same.1)

-- a card's name
name : (c d : List ℕ) {r s : List ℕ} → c ++ 32 ∷ r ≡ d ++ 32 ∷ s → IsCardName c → IsCardName d → (c ≡ d) × (r ≡ s)
name c d {r} {s} e h k =
    let same = word 33 c d 32 32 r s e (name_high c h) (name_high d k) (omega arith) (omega arith) in
    (same.0, behind 1 same.1)

-- and the counters of its applications
name_apps : (c d : List ℕ) (x y : List Shown) {r s : List ℕ} → c ++ (all_shown x ++ 10 ∷ r) ≡ d ++ (all_shown y ++ 10 ∷ s) → IsCardName c → IsCardName d
    → (c ≡ d) × AllZip SameCounters x y × (r ≡ s)
name_apps c d x y {r} {s} e h k =
    let one = begun x r in
    let two = begun y s in
    let joined : c ++ one.first ∷ one.rest ≡ d ++ two.first ∷ two.rest =
    ap (λ (t : List ℕ). c ++ t) (sym one.is) ∙ e ∙ ap (λ (t : List ℕ). d ++ t) two.is in
    let same = word 33 c d one.first two.first one.rest two.rest joined (name_high c h) (name_high d k) one.low two.low in
    let apps = counters_same x y r s (one.is ∙ same.1 ∙ sym two.is) in
    (same.0, apps.0, apps.1)

not_false : false ≡ true → ⊥
not_false e = cc

line_front : (a b : Line) (r s : List ℕ) → flat_text a r ≡ flat_text b s → IsTold a → IsTold b → IsTrue (kind a == kind b) → ShowsAs a b × (r ≡ s)
unfolding ShowsAs
line_front (Power m c x) (Power n d y) r s e ta tb same =
    let one = lane 76 m n e in
    let two = name_apps c.items d.items x.items y.items (behind 6 one.1) ta.name tb.name in
    ((one.0, two.0, two.1), two.2)
line_front (PowerCanned m c) (PowerCanned n d) r s e ta tb same =
    let one = lane 76 m n e in
    let two = name c.items d.items (behind 6 one.1) ta.name tb.name in
    ((one.0, two.0), behind 7 two.1)
line_front (PowerTorn m c) (PowerTorn n d) r s e ta tb same =
    let one = lane 76 m n e in
    let two = name c.items d.items (behind 6 one.1) ta.name tb.name in
    ((one.0, two.0), behind 5 two.1)
line_front (ToCard m x) (ToCard n y) r s e ta tb same =
    let one = lane 76 m n e in
    let two = dash x.items y.items (behind 2 one.1) ta.bytes tb.bytes in
    ((one.0, two.0), two.1)
line_front (FromCard m x) (FromCard n y) r s e ta tb same =
    let one = lane 76 m n e in
    let two = dash x.items y.items (behind 2 one.1) ta.bytes tb.bytes in
    ((one.0, two.0), two.1)
line_front (Torn m) (Torn n) r s e ta tb same =
    let one = lane 76 m n e in
    (one.0, behind 7 one.1)
line_front (Gone m) (Gone n) r s e ta tb same =
    let one = lane 76 m n e in
    (one.0, behind 7 one.1)
line_front (ToHost m x) (ToHost n y) r s e ta tb same =
    let one = lane 76 m n e in
    let two = dash x.items y.items (behind 7 one.1) ta.bytes tb.bytes in
    ((one.0, two.0), two.1)
line_front (FromHost m x) (FromHost n y) r s e ta tb same =
    let one = lane 76 m n e in
    let two = dash x.items y.items (behind 7 one.1) ta.bytes tb.bytes in
    ((one.0, two.0), two.1)
line_front (NoReply m) (NoReply n) r s e ta tb same =
    let one = lane 76 m n e in
    (one.0, behind 12 one.1)
line_front (End m i x) (End n j y) r s e ta tb same =
    let one = lane 76 m n e in
    let two = number i j 32 32 _ _ (behind 4 one.1) (omega arith) (omega arith) in
    let three = parts_same x y (behind 1 two.1) ta.bytes tb.bytes in
    ((one.0, two.0, three.0), three.1)
line_front (EndLost m i) (EndLost n j) r s e ta tb same =
    let one = lane 76 m n e in
    let two = number i j 32 32 _ _ (behind 4 one.1) (omega arith) (omega arith) in
    ((one.0, two.0), behind 6 two.1)
line_front (SettleCall m x) (SettleCall n y) r s e ta tb same =
    let one = lane 83 m n e in
    let two = dash x.items y.items (behind 2 one.1) ta.bytes tb.bytes in
    ((one.0, two.0), two.1)
line_front (SettleReply m x) (SettleReply n y) r s e ta tb same =
    let one = lane 83 m n e in
    let two = dash x.items y.items (behind 2 one.1) ta.bytes tb.bytes in
    ((one.0, two.0), two.1)
line_front (AuditPower c x) (AuditPower d y) r s e ta tb same =
    let one = name c.items d.items (behind 2 e) ta.name tb.name in
    let two = counters_same x.items y.items r s (behind 5 one.1) in
    ((one.0, two.0), two.1)
line_front (AuditAsk c x) (AuditAsk d y) r s e ta tb same =
    let one = name c.items d.items (behind 2 e) ta.name tb.name in
    let two = dash x.items y.items (behind 2 one.1) ta.bytes tb.bytes in
    ((one.0, two.0), two.1)
line_front (AuditAnswer c x) (AuditAnswer d y) r s e ta tb same =
    let one = name c.items d.items (behind 2 e) ta.name tb.name in
    let two = dash x.items y.items (behind 2 one.1) ta.bytes tb.bytes in
    ((one.0, two.0), two.1)
line_front (Balance p x) (Balance q y) r s e ta tb same =
    let one = pan_digits p q 32 32 _ _ (behind 8 e) (omega arith) (omega arith) in
    let two = amount x y (behind 1 one.1) in
    ((one.0, two.0), two.1)
line_front (Done m) (Done n) r s e ta tb same =
    let one = number m n 10 10 r s (behind 5 e) (omega arith) (omega arith) in
    (one.0, behind 1 one.1)
line_front (Object t x) (Object u y) r s e ta tb same =
    let one = tag t.0 u.0 32 32 _ _ (behind 7 e) (omega arith) (omega arith) in
    let two = dash x.items y.items (behind 1 one.1) ta.bytes tb.bytes in
    ((one.0, two.0), two.1)
line_front ReadOk ReadOk r s e ta tb same = (tt, behind 8 e)
line_front (ReadEnded x) (ReadEnded y) r s e ta tb same =
    let one = ending_front x y 10 10 r s (behind 5 e) ta.bytes tb.bytes (omega arith) (omega arith) in
    (one.0, behind 1 one.1)
line_front a b r s e ta tb same = absurd (not_false same)

front : (a b : Line) (r s : List ℕ) → IsTold a → IsTold b → line_text a ++ r ≡ line_text b ++ s → ShowsAs a b × (r ≡ s)
front a b r s ta tb e =
    let flat : flat_text a r ≡ flat_text b s = sym (flat_of a r) ∙ e ∙ flat_of b s in
    line_front a b r s flat ta tb (same_kind a b r s flat ta tb)

pub lines_differ : LinesDiffer
lines_differ a b ta tb e = (front a b [] [] ta tb (ap (λ (t : List ℕ). t ++ []) e)).0

read_ok_told : IsTold ReadOk
read_ok_told = record { bytes = tt; name = All-nil (λ (c : ℕ). 32 < c) }

-- no line has an empty text: what follows it would be what follows another
some : (a : Line) (r : List ℕ) → IsTold a → line_text a ++ r ≡ [] → ⊥
unfolding line_text
some a r told e =
    let joined : line_text a ++ (r ++ line_text ReadOk) ≡ line_text ReadOk ++ [] = sym (append_assoc (line_text a) r (line_text ReadOk)) ∙ ap (λ (t : List ℕ). t ++ line_text ReadOk) e in
    let same = front a ReadOk (r ++ line_text ReadOk) [] told read_ok_told joined in
    let long = ap length same.1 in
    omega (arith, length-append r (line_text ReadOk))

pub reports_differ : ReportsDiffer
reports_differ [] [] tx ty e = tt
reports_differ [] (y ∷ ys) tx ty e = absurd (some y (flat_map line_text ys) (All-head IsTold y ys ty) (sym e))
reports_differ (x ∷ xs) [] tx ty e = absurd (some x (flat_map line_text xs) (All-head IsTold x xs tx) e)
reports_differ (x ∷ xs) (y ∷ ys) tx ty e =
    let same = front x y (flat_map line_text xs) (flat_map line_text ys) (All-head IsTold x xs tx) (All-head IsTold y ys ty) e in
    (same.0, reports_differ xs ys (All-tail IsTold x xs tx) (All-tail IsTold y ys ty) same.1)
