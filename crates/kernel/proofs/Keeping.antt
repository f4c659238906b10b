-- A reply that is read and kept.
use Rattle.std.proofs.Common.{◌≡◌, refl, sym, ap, ◌+◌, ◌≤◌, ◌==◌, nat_le, ℕ, Bool, true, false, List, [], ◌∷◌, length, filter, Option, Some, None, Result, Ok, Err, if◌then◌else◌, arith}
use Rattle.std.specs.Prelude.{IfSome, cond}
use Rattle.std.proofs.lemmas.Bool.Decides.{nat_tests}
use Rattle.std.proofs.lemmas.List.{length-map}
use Rattle.auth_message.specs.Field.{some_value, is_between, wrong_field}
use Rattle.auth_message.specs.Fields.{◌>>=◌, field_given, behind_field, field_if_there, fixed_at, no_item_left}
use Rattle.auth_message.specs.Outer.{outer_of}
use Rattle.auth_message.specs.Reply.{ReplyData, auth_at, leading_templates as next_templates, behind_templates, bytes_of_items, scripts_in_items, reply_at, reply_of, are_few_templates as few_templates}
use Rattle.auth_message.specs.declared.fault.MessageFault.{MessageFault}
use Rattle.ber_tlv.proofs.ReadAgain.{both}
use Rattle.ber_tlv.proofs.Reading.{left-end, no_zeros}
use Rattle.ber_tlv.specs.Direct.{values_of}
use Rattle.ber_tlv.specs.Item.{ItemData}
use Rattle.ber_tlv.specs.Left.{items_of}
use Rattle.ber_tlv.specs.declared.item.TlvFault.{TlvFault}
use Rattle.kernel.specs.Sound.{IsIssuerData, IsReplyInRange}
use Rattle.terminal_state.specs.Scripts.{templates_of_tag, AreFew, has_few_scripts}

pub none_few : AreFew []
none_few = record { items = []; listed = left-end [] 0 (no_zeros [] 0 (omega arith)); few = omega arith }

-- no object has two tags
count_one : (items : List ItemData) → length (filter (λ item. item.tag == 0x71) items) + length (filter (λ item. item.tag == 0x72) items) ≤ length items
count_one [] = omega arith
count_one (item ∷ items) = by (item.tag == 0x71) (item.tag == 0x72) refl refl (count_one items)
  where
    by : (a b : Bool) → (item.tag == 0x71) ≡ a → (item.tag == 0x72) ≡ b → length (filter (λ item. item.tag == 0x71) items) + length (filter (λ item. item.tag == 0x72) items) ≤ length items
        → length (cond a (item ∷ filter (λ item. item.tag == 0x71) items) (filter (λ item. item.tag == 0x71) items)) + length (cond b (item ∷ filter (λ item. item.tag == 0x72) items) (filter (λ item. item.tag == 0x72) items)) ≤ length (item ∷ items)
    by true true x y rest = absurd (grind (arith, nat_tests))
    by true false x y rest = omega arith
    by false true x y rest = omega arith
    by false false x y rest = omega arith

read_few : (read : Result (List ItemData) TlvFault) (items : List ItemData) → read ≡ Ok items → length (values_of 0x71 read) + length (values_of 0x72 read) ≤ length items
read_few (Ok others) items is =
    let same : others ≡ items = cc in
    let one = count_one items in
    rw same (simp length-map one)
read_few (Err fault) items is = cc

pub few_scripts : (scripts : List ℕ) → AreFew scripts → length (templates_of_tag 0x71 scripts) + length (templates_of_tag 0x72 scripts) ≤ 8
unfolding templates_of_tag
few_scripts scripts few =
    let one = read_few (items_of scripts) few.items few.listed in
    let most = few.few in
    omega arith

few_read : (scripts : List ℕ) (read : Result (List ItemData) TlvFault) → items_of scripts ≡ read → has_few_scripts read ≡ true → AreFew scripts
few_read scripts (Ok items) is few = record { items = items; listed = is; few = grind (arith, nat_tests) }
few_read scripts (Err fault) is few = cc

pub few_from : (scripts : List ℕ) → has_few_scripts (items_of scripts) ≡ true → AreFew scripts
few_from scripts few = few_read scripts (items_of scripts) refl few

step_ok : {A B : Type 0} (r : Result A MessageFault) (f : A → Result B MessageFault) (b : B) → (r >>= f) ≡ Ok b → (a : A) × (r ≡ Ok a) × (f a ≡ Ok b)
step_ok (Ok a) f b e = (a, refl, e)
step_ok (Err fault) f b e = cc

between : (test : Bool) (value found : List ℕ) (fault : MessageFault) → test ≡ is_between 8 16 value → (let r : Result (List ℕ) MessageFault = (if test then Ok value else Err fault) in r) ≡ Ok found → IsIssuerData found
between true value found fault is e =
    let same : value ≡ found = cc in
    let parts = both (nat_le 8 (length value)) (nat_le (length value) 16) (sym is) in
    rw (← same) (record { least = grind (arith, nat_tests); most = grind (arith, nat_tests) })
between false value found fault is e = cc

some_between : (value found : List ℕ) → some_value 8 16 0x91 value ≡ Ok found → IsIssuerData found
unfolding some_value
some_between value found e = between (is_between 8 16 value) value found (wrong_field 0x91) refl e

there_between : (value : Option (List ℕ)) (found : Option (List ℕ)) → field_if_there (some_value 8 16 0x91) value ≡ Ok found → IfSome found IsIssuerData
there_between None found e = let same : ◌≡◌ {A = Option (List ℕ)} None found = cc in rw (← same) tt
there_between (Some value) found e =
    let step = step_ok (some_value 8 16 0x91 value) _ found e in
    let same : Some step.0 ≡ found = (let last = step.2 in cc) in
    rw (← same) (some_between value step.0 step.1)

auth_sound : (items : List ItemData) (found : Option (List ℕ) × List ItemData) → auth_at items ≡ Ok found → IfSome found.0 IsIssuerData
unfolding auth_at
auth_sound items found e =
    let step = step_ok (field_if_there (some_value 8 16 0x91) (field_given 0x91 items)) _ found e in
    let pair : ◌≡◌ {A = Option (List ℕ) × List ItemData} (step.0, behind_field 0x91 items) found = (let last = step.2 in cc) in
    let same : step.0 ≡ found.0 = ap (λ p. p.0) pair in
    rw (← same) (there_between (field_given 0x91 items) step.0 step.1)

few_bytes : (test : Bool) (found other : List ℕ × List ItemData) (items : List ItemData) (fault : MessageFault) → test ≡ few_templates items other.0 → (let r : Result (List ℕ × List ItemData) MessageFault = (if test then Ok other else Err fault) in r) ≡ Ok found → length found.0 ≤ 1024
few_bytes true found other items fault is e =
    let same : other ≡ found = cc in
    let parts = both (nat_le (length items) 8) (nat_le (length other.0) 1024) (sym is) in
    let short : length other.0 ≤ 1024 = grind (arith, nat_tests) in
    rw (← same) short
few_bytes false found other items fault is e = cc

scripts_short : (bytes : List ℕ) (items : List ItemData) (found : List ℕ × List ItemData) → scripts_in_items bytes items ≡ Ok found → length found.0 ≤ 1024
unfolding scripts_in_items
scripts_short bytes items found e =
    few_bytes (few_templates (next_templates items) (bytes_of_items bytes (next_templates items))) found (bytes_of_items bytes (next_templates items), behind_templates items) (next_templates items) (wrong_field 0x71) refl e

reply_sound : (bytes : List ℕ) (items : List ItemData) (reply : ReplyData) → reply_at bytes items ≡ Ok reply → IsReplyInRange reply
unfolding reply_at
reply_sound bytes items reply e =
    let code = step_ok (fixed_at 2 false 0x8A items) _ reply e in
    let auth = step_ok (auth_at code.0.1) _ reply code.2 in
    let scripts = step_ok (scripts_in_items bytes auth.0.1) _ reply auth.2 in
    let end = step_ok (no_item_left scripts.0.1) _ reply scripts.2 in
    let same : ◌≡◌ {A = ReplyData} (record { code = code.0.0; auth = auth.0.0; scripts = scripts.0.0 }) reply = (let last = end.2 in cc) in
    rw (← same) (record { auth = auth_sound code.0.1 auth.0 auth.1; short = scripts_short bytes auth.0.1 scripts.0 scripts.1 })

pub sound_reply : (bytes : List ℕ) (reply : ReplyData) → reply_of bytes ≡ Ok reply → IsReplyInRange reply
sound_reply bytes reply e =
    let outer = step_ok (outer_of (0xE2 ∷ []) bytes) _ reply e in
    reply_sound bytes outer.0.1 reply outer.2
