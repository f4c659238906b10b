-- A reply that is read is kept as it came: its scripts, cut out of the message, are at most 8 templates again.
use Rattle.std.proofs.Common.{◌≡◌, refl, sym, ap, ◌∙◌, subst, ℕ, ◌-◌, ◌≤◌, ◌==◌, nat_le, Bool, true, false, if◌then◌else◌, List, [], ◌∷◌, take, length, Option, Result, Ok, Err, arith, length-take}
use Rattle.std.proofs.lemmas.Bool.Decides.{nat_tests}
use Rattle.std.specs.List.{list_any}
use Rattle.auth_message.proofs.Opened.{front_of}
use Rattle.auth_message.specs.Field.{wrong_field, fixed_value, some_value}
use Rattle.auth_message.specs.Fields.{◌>>=◌, field_given, behind_field, or_missing, required_field, fixed_at, field_if_there, no_item_left}
use Rattle.auth_message.specs.Outer.{items_held, items_within, first_met, fault_in, alone_among_items, outer_within, outer_among, outer_of}
use Rattle.auth_message.specs.Reply.{ReplyData, auth_at, leading_templates, behind_templates, bytes_of_items, are_few_templates as few_templates, scripts_in_items, reply_at, reply_of}
use Rattle.auth_message.specs.declared.fault.MessageFault.{MessageFault}
use Rattle.auth_message.specs.declared.fault.MessageFault.TheVariants.{Coding}
use Rattle.ber_tlv.proofs.ItemBounds.{item_at-lies}
use Rattle.ber_tlv.proofs.ReadAgain.{both}
use Rattle.ber_tlv.proofs.Reading.{Reads, left-Reads}
use Rattle.ber_tlv.specs.Item.{ItemData, item_at}
use Rattle.ber_tlv.specs.Items.{Items}
use Rattle.ber_tlv.specs.Left.{items_of}
use Rattle.ber_tlv.specs.Walked.{walk_of}
use Rattle.ber_tlv.specs.declared.item.TlvFault.{TlvFault}
use Rattle.dialogue_laws.proofs.Templates.{few_again}
use Rattle.terminal_state.specs.Scripts.{has_few_scripts, kept_host_reply, sound_scripts}

then_ok : {A B : Type 0} (r : Result A MessageFault) (f : A → Result B MessageFault) (b : B) → (r >>= f) ≡ Ok b → (a : A) × (r ≡ Ok a) × (f a ≡ Ok b)
then_ok (Ok a) f b e = (a, refl, e)
then_ok (Err fault) f b e = absurd (cc e)

chosen : {A : Type 0} (test : Bool) (x : A) (fault : MessageFault) (a : A) → ◌≡◌ {A = Result A MessageFault} (if test then Ok x else Err fault) (Ok a) → (test ≡ true) × (x ≡ a)
chosen true x fault a e = let same : x ≡ a = cc e in (refl, same)
chosen false x fault a e = absurd (cc e)

-- the items of the first bytes of a message, from some place on
record FirstItems (bytes : List ℕ) (items : List ItemData) : Type 0 where
  cut : List ℕ
  are_first : cut ≡ take (length cut) bytes
  place : ℕ
  stand : Items cut place items

held_by : (bytes : List ℕ) (start : ℕ) (found : Result (ItemData × ℕ) TlvFault) (items : List ItemData) → item_at bytes start ≡ found → items_within bytes found ≡ Ok items → FirstItems bytes items
held_by bytes start (Err fault) items is e = absurd (cc e)
held_by bytes start (Ok (item, next)) items is e =
    let lies = item_at-lies bytes start item next is in
    let within = lies.within in
    let cut = take next bytes in
    let all : length cut ≡ next = length-take next bytes ∙ omega arith in
    let place = next - length item.value in
    record {
      cut = cut;
      are_first = front_of bytes cut bytes next refl refl;
      place = place;
      stand = (let P : Result (List ItemData) TlvFault → Type 0 = λ r. Reads cut place r in subst P e (left-Reads cut place (omega arith)));
    }

alone_is : (tag : ℕ) (items others : List ItemData) (outer : ℕ × List ItemData) → ◌≡◌ {A = Result (ℕ × List ItemData) MessageFault} (alone_among_items (tag, items) others) (Ok outer) → items ≡ outer.1
alone_is tag items [] outer e = let pair : ◌≡◌ {A = ℕ × List ItemData} (tag, items) outer = cc e in ap (λ p. p.1) pair
alone_is tag items (other ∷ others) outer e = absurd (cc e)

known_is : (test : Bool) (item : ItemData) (items others : List ItemData) (outer : ℕ × List ItemData)
    → ◌≡◌ {A = Result (ℕ × List ItemData) MessageFault} (if test then alone_among_items (item.tag, items) others else Err (Coding item.start)) (Ok outer) → items ≡ outer.1
known_is true item items others outer e = alone_is item.tag items others outer e
known_is false item items others outer e = absurd (cc e)

within_is : (known bytes : List ℕ) (item : ItemData) (others : List ItemData) (found : Result (List ItemData) TlvFault) (outer : ℕ × List ItemData) → items_held bytes item ≡ found
    → outer_within known item others found ≡ Ok outer → FirstItems bytes outer.1
within_is known bytes item others (Err fault) outer is e = absurd (cc e)
within_is known bytes item others (Ok items) outer is e =
    subst (FirstItems bytes) (known_is (list_any (λ tag. tag == item.tag) known) item items others outer e) (held_by bytes item.start (item_at bytes item.start) items refl is)

among_are : (known bytes : List ℕ) (inside : Option TlvFault) (read : Result (List ItemData) TlvFault) (outer : ℕ × List ItemData) → outer_among known bytes inside read ≡ Ok outer → FirstItems bytes outer.1
among_are known bytes inside (Err fault) outer e = absurd (cc e)
among_are known bytes inside (Ok []) outer e = absurd (cc e)
among_are known bytes inside (Ok (item ∷ others)) outer e = within_is known bytes item others (items_held bytes item) outer refl e

outer_items : (known bytes : List ℕ) (outer : ℕ × List ItemData) → outer_of known bytes ≡ Ok outer → FirstItems bytes outer.1
outer_items known bytes outer e = among_are known bytes (fault_in bytes (first_met (walk_of bytes))) (items_of bytes) outer e

-- the items behind a field
behind_by : (test : Bool) (bytes cut : List ℕ) (item : ItemData) (items : List ItemData) (place : ℕ) → cut ≡ take (length cut) bytes → Items cut place (item ∷ items)
    → FirstItems bytes (if test then items else item ∷ items)
behind_by true bytes cut item items place are_first (next, step, rest) = record { cut = cut; are_first = are_first; place = next; stand = rest }
behind_by false bytes cut item items place are_first stand = record { cut = cut; are_first = are_first; place = place; stand = stand }

behind_are : (tag : ℕ) (bytes : List ℕ) (items : List ItemData) → FirstItems bytes items → FirstItems bytes (behind_field tag items)
behind_are tag bytes [] first = first
behind_are tag bytes (item ∷ items) first = behind_by (item.tag == tag) bytes first.cut item items first.place first.are_first first.stand

code_behind : (items : List ItemData) (code : List ℕ × List ItemData) → fixed_at 2 false 0x8A items ≡ Ok code → behind_field 0x8A items ≡ code.1
unfolding fixed_at required_field
code_behind items code e =
    let found = then_ok (required_field 0x8A items) _ code e in
    let value = then_ok (fixed_value 2 false 0x8A found.0.0) _ code found.2 in
    let there = then_ok (or_missing 0x8A (field_given 0x8A items)) _ found.0 found.1 in
    let first : ◌≡◌ {A = List ℕ × List ItemData} (there.0, behind_field 0x8A items) found.0 = cc there.2 in
    let second : ◌≡◌ {A = List ℕ × List ItemData} (value.0, found.0.1) code = cc value.2 in
    ap (λ p. p.1) first ∙ ap (λ p. p.1) second

auth_behind : (items : List ItemData) (auth : Option (List ℕ) × List ItemData) → auth_at items ≡ Ok auth → behind_field 0x91 items ≡ auth.1
unfolding auth_at
auth_behind items auth e =
    let value = then_ok (field_if_there (some_value 8 16 0x91) (field_given 0x91 items)) _ auth e in
    let pair : ◌≡◌ {A = Option (List ℕ) × List ItemData} (value.0, behind_field 0x91 items) auth = cc value.2 in
    ap (λ p. p.1) pair

scripts_few : (bytes : List ℕ) (items : List ItemData) (scripts : List ℕ × List ItemData) → FirstItems bytes items → scripts_in_items bytes items ≡ Ok scripts → has_few_scripts (items_of scripts.0) ≡ true
unfolding scripts_in_items
scripts_few bytes items scripts first e =
    let found = chosen {A = List ℕ × List ItemData} (few_templates (leading_templates items) (bytes_of_items bytes (leading_templates items))) (bytes_of_items bytes (leading_templates items), behind_templates items) (wrong_field 0x71) scripts e in
    let test = both (nat_le (length (leading_templates items)) 8) (nat_le (length (bytes_of_items bytes (leading_templates items))) 1024) found.0 in
    let few : length (leading_templates items) ≤ 8 = (let is = test.0 in grind (arith, nat_tests)) in
    ap (λ (p : List ℕ × List ItemData). has_few_scripts (items_of p.0)) (sym found.1) ∙ few_again bytes first.cut first.are_first first.place items first.stand few

reply_few : (bytes : List ℕ) (items : List ItemData) (reply : ReplyData) → FirstItems bytes items → reply_at bytes items ≡ Ok reply → has_few_scripts (items_of reply.scripts) ≡ true
unfolding reply_at
reply_few bytes items reply first e =
    let code = then_ok (fixed_at 2 false 0x8A items) _ reply e in
    let auth = then_ok (auth_at code.0.1) _ reply code.2 in
    let scripts = then_ok (scripts_in_items bytes auth.0.1) _ reply auth.2 in
    let end = then_ok (no_item_left scripts.0.1) _ reply scripts.2 in
    let behind_code = subst (FirstItems bytes) (code_behind items code.0 code.1) (behind_are 0x8A bytes items first) in
    let behind_auth = subst (FirstItems bytes) (auth_behind code.0.1 auth.0 auth.1) (behind_are 0x91 bytes code.0.1 behind_code) in
    let same : ◌≡◌ {A = ReplyData} (record { code = code.0.0; auth = auth.0.0; scripts = scripts.0.0 }) reply = cc end.2 in
    ap (λ (r : ReplyData). has_few_scripts (items_of r.scripts)) (sym same) ∙ scripts_few bytes auth.0.1 scripts.0 behind_auth scripts.1

kept_if : (reply : ReplyData) → has_few_scripts (items_of reply.scripts) ≡ true → kept_host_reply reply ≡ reply
kept_if reply few =
    let same : sound_scripts reply.scripts ≡ reply.scripts = rw few refl in
    ap (λ (scripts : List ℕ). let r : ReplyData = record { code = reply.code; auth = reply.auth; scripts = scripts } in r) same

pub reply_kept : (bytes : List ℕ) (reply : ReplyData) → reply_of bytes ≡ Ok reply → kept_host_reply reply ≡ reply
reply_kept bytes reply e =
    let outer = then_ok (outer_of (0xE2 ∷ []) bytes) _ reply e in
    kept_if reply (reply_few bytes outer.0.1 reply (outer_items (0xE2 ∷ []) bytes outer.0 outer.1) outer.2)
