-- A reply that is written is read back.
use Rattle.std.proofs.Common.{◌≡◌, ℕ, true, false, ◌||◌, ◌==◌, IfSome, ◌+◌, ◌-◌, ◌≤◌, nat_le, List, [], ◌∷◌, ◌++◌, map, length, Option, Some, None, Ok, slice_get, refl, sym, ap, subst, ◌∙◌, arith, length-append, append_assoc, append-nil, suc}
use Rattle.std.specs.Prelude.{slice_range}
use Rattle.std.specs.List.{list_all, AllByRecursion}
use Rattle.std.proofs.lemmas.Bool.{le-leb}
use Rattle.std.proofs.lemmas.Bool.Decides.{nat_tests}
use Rattle.ber_tlv.specs.Item.{ItemData, item_at}
use Rattle.ber_tlv.specs.Items.{Zeros, NextItem, Items}
use Rattle.ber_tlv.specs.Left.{items_behind}
use Rattle.ber_tlv.specs.Written.{written}
use Rattle.ber_tlv.proofs.ItemBounds.{item_at-lies}
use Rattle.ber_tlv.proofs.ReadAgain.{both}
use Rattle.ber_tlv.proofs.Reading.{reads_list, Items-left}
use Rattle.auth_message.specs.Field.{fixed_value, some_value}
use Rattle.auth_message.specs.Fields.{◌>>=◌, field_given, behind_field, required_field, fixed_at}
use Rattle.auth_message.specs.Reply.{AreScripts, auth_at, is_template, leading_templates, behind_templates, place_behind, place_behind_item, end_behind, bytes_of_items, scripts_in_items, reply_at, reply_of}
use Rattle.auth_message.specs.Whole.{AreSpelledScripts, IsReply}
use Rattle.auth_message.proofs.Templates.{spelled_are_scripts}
use Rattle.auth_message.specs.Spelling.{optional, spelled, reply_fields, reply_bytes}
use Rattle.auth_message.proofs.Opened.{start_of}
use Rattle.auth_message.proofs.Inside.{Inside, moved_item, item_inside, inside_joined}
use Rattle.auth_message.proofs.Spelled.{placed, optional_last, front_length, message_read, header, in_parts}
use Rattle.auth_message.proofs.ReadBack.{any_bytes}

-- items of a string stand at their places in a longer one that ends with it
zeros_moved : (bytes whole : List ℕ) (front from to : ℕ) → Inside bytes whole front → Zeros bytes from to → Zeros whole (front + from) (front + to)
zeros_moved bytes whole front from to inside zeros =
    let upward = zeros.upward in
    let within = zeros.within in
    let fits = inside.fits in
    record {
      upward = omega arith;
      within = omega arith;
      zero = λ k above below.
          let place : front + (k - front) ≡ k = omega arith in
          ap (slice_get whole) (sym place) ∙ inside.get (k - front) 0 (zeros.zero (k - front) (omega arith) (omega arith));
    }

next_moved : (bytes whole : List ℕ) (front place : ℕ) (item : ItemData) (next : ℕ) → Inside bytes whole front → NextItem bytes place item next → NextItem whole (front + place) (moved_item front item) (front + next)
next_moved bytes whole front place item next inside step = record {
  start = front + step.start;
  zeros = zeros_moved bytes whole front place step.start inside step.zeros;
  begins = record { byte = step.begins.byte; there = inside.get step.start step.begins.byte step.begins.there; not_zero = step.begins.not_zero };
  stands = item_inside bytes whole front step.start item next inside step.stands;
}

items_moved : (bytes whole : List ℕ) (front place : ℕ) (items : List ItemData) → Inside bytes whole front → length whole ≡ front + length bytes → Items bytes place items → Items whole (front + place) (map (moved_item front) items)
items_moved bytes whole front place [] inside size zeros = subst (Zeros whole (front + place)) (sym size) (zeros_moved bytes whole front place (length bytes) inside zeros)
items_moved bytes whole front place (item ∷ items) inside size (next, step, rest) =
    (front + next, next_moved bytes whole front place item next inside step, items_moved bytes whole front next items inside size rest)

-- an item stands at its start
abbrev pub Stands : List ℕ → ItemData → Type 0
Stands bytes item = (next : ℕ) × (item_at bytes item.start ≡ Ok (item, next))

all_stand : (bytes : List ℕ) (place : ℕ) (items : List ItemData) → Items bytes place items → AllByRecursion (Stands bytes) items
all_stand bytes place [] zeros = tt
all_stand bytes place (item ∷ items) (next, step, rest) =
    ((next, ap (item_at bytes) (start_of bytes step.start item next step.stands) ∙ step.stands), all_stand bytes next items rest)

end_moved : (bytes whole : List ℕ) (front : ℕ) (item : ItemData) → Inside bytes whole front → Stands bytes item → place_behind_item whole (moved_item front item) ≡ front + place_behind_item bytes item
end_moved bytes whole front item inside (next, stands) =
    ap place_behind (item_inside bytes whole front item.start item next inside stands) ∙ ap (λ r. front + place_behind r) (sym stands)

ends_moved : (bytes whole : List ℕ) (front end : ℕ) (items : List ItemData) → Inside bytes whole front → AllByRecursion (Stands bytes) items
    → end_behind whole (front + end) (map (moved_item front) items) ≡ front + end_behind bytes end items
ends_moved bytes whole front end [] inside stand = refl
ends_moved bytes whole front end (item ∷ items) inside stand =
    ap (λ n. end_behind whole n (map (moved_item front) items)) (end_moved bytes whole front item inside stand.0) ∙ ends_moved bytes whole front (place_behind_item bytes item) items inside stand.1

end_within : (bytes : List ℕ) (item : ItemData) → Stands bytes item → place_behind_item bytes item ≤ length bytes
end_within bytes item (next, stands) =
    let lies = item_at-lies bytes item.start item next stands in
    let within = lies.within in
    let end : place_behind_item bytes item ≡ next = ap place_behind stands in
    omega arith

ends_inside : (bytes : List ℕ) (end : ℕ) (items : List ItemData) → end ≤ length bytes → AllByRecursion (Stands bytes) items → end_behind bytes end items ≤ length bytes
ends_inside bytes end [] within stand = within
ends_inside bytes end (item ∷ items) within stand = ends_inside bytes (place_behind_item bytes item) items (end_within bytes item stand.0) stand.1

bytes_moved : (bytes whole : List ℕ) (front : ℕ) (items : List ItemData) → Inside bytes whole front → AllByRecursion (Stands bytes) items → bytes_of_items whole (map (moved_item front) items) ≡ bytes_of_items bytes items
bytes_moved bytes whole front [] inside stand = refl
bytes_moved bytes whole front (item ∷ items) inside stand =
    let first : place_behind_item whole (moved_item front item) ≡ front + place_behind_item bytes item = end_moved bytes whole front item inside stand.0 in
    let last = ap (λ n. end_behind whole n (map (moved_item front) items)) first ∙ ends_moved bytes whole front (place_behind_item bytes item) items inside stand.1 in
    ap (slice_range whole (front + item.start)) last
    ∙ inside.range item.start (end_behind bytes (place_behind_item bytes item) items) (ends_inside bytes (place_behind_item bytes item) items (end_within bytes item stand.0) stand.1)

templates_moved : (front : ℕ) (items : List ItemData) → list_all is_template items ≡ true → (leading_templates (map (moved_item front) items) ≡ map (moved_item front) items) × (behind_templates (map (moved_item front) items) ≡ [])
templates_moved front [] all = (refl, refl)
templates_moved front (item ∷ items) all =
    let facts = both (is_template item) _ all in
    let others = templates_moved front items facts.1 in
    (rw facts.0 (ap (λ l. moved_item front item ∷ l) others.0), rw facts.0 others.1)

length_moved : (front : ℕ) (items : List ItemData) → length (map (moved_item front) items) ≡ length items
length_moved front [] = refl
length_moved front (item ∷ items) = ap suc (length_moved front items)

scripts_again : (bytes whole : List ℕ) (front : ℕ) (scripts : AreScripts bytes) → Inside bytes whole front → scripts_in_items whole (map (moved_item front) scripts.items) ≡ Ok (bytes, [])
unfolding scripts_in_items
scripts_again bytes whole front scripts inside =
    let stand = all_stand bytes 0 scripts.items ((reads_list bytes scripts.items).0 scripts.listed) in
    let moved = templates_moved front scripts.items scripts.templates in
    let same : bytes_of_items whole (map (moved_item front) scripts.items) ≡ bytes = bytes_moved bytes whole front scripts.items inside stand ∙ scripts.no_padding in
    let few : nat_le (length scripts.items) 8 ≡ true = le-leb _ _ scripts.few in
    let short : nat_le (length bytes) 1024 ≡ true = le-leb _ _ scripts.short in
    rw (moved.0, moved.1, same, length_moved front scripts.items, few, short) refl

itself : (n : ℕ) → (n == n) ≡ true
itself n = grind arith

code_front : (place : ℕ) (code : List ℕ) (rest : List ItemData) → length code ≡ 2 → fixed_at 2 false 0x8A (record { tag = 0x8A; value = code; start = place } ∷ rest) ≡ Ok (code, rest)
unfolding fixed_at required_field fixed_value
code_front place code rest two = rw (any_bytes 2 code two) refl

no_template : (tag : ℕ) → (tag == 0x71 || tag == 0x72) ≡ true → (tag == 0x91) ≡ false
no_template tag is = grind (arith, nat_tests)

other_first : (items : List ItemData) → list_all is_template items ≡ true → (field_given 0x91 items ≡ None) × (behind_field 0x91 items ≡ items)
other_first [] all = (refl, refl)
other_first (item ∷ items) all =
    let facts = both (is_template item) _ all in
    let other : (item.tag == 0x91) ≡ false = no_template item.tag facts.0 in
    (rw other refl, rw other refl)

moved_templates : (front : ℕ) (items : List ItemData) → list_all is_template items ≡ true → list_all is_template (map (moved_item front) items) ≡ true
moved_templates front [] all = refl
moved_templates front (item ∷ items) all = let facts = both (is_template item) _ all in rw facts.0 (moved_templates front items facts.1)

abbrev pub IsAuth : List ℕ → Type 0
IsAuth value = (8 ≤ length value) × (length value ≤ 16)

auth_front : (place : ℕ) (auth : Option (List ℕ)) (items : List ItemData) → IfSome auth IsAuth → list_all is_template items ≡ true → auth_at (placed place (optional 0x91 auth) ++ items) ≡ Ok (auth, items)
unfolding auth_at some_value
auth_front place None items is all = let other = other_first items all in rw (other.0, other.1) refl
auth_front place (Some value) items is all = rw (le-leb _ _ is.0, le-leb _ _ is.1) refl

pub reply_again : (code : List ℕ) (auth : Option (List ℕ)) (scripts : List ℕ) → length code ≡ 2 → IfSome auth IsAuth → AreScripts scripts
    → reply_of (reply_bytes code auth scripts) ≡ Ok (record { code = code; auth = auth; scripts = scripts })
unfolding reply_bytes reply_at
reply_again code auth scripts two is are =
    let fields = reply_fields code auth in
    let content = spelled fields ++ scripts in
    let whole = written 0xE2 content in
    let before = header 0xE2 content ++ spelled fields in
    let front = length before in
    let parts : whole ≡ before ++ (scripts ++ []) = in_parts 0xE2 content ∙ sym (append_assoc (header 0xE2 content) (spelled fields) scripts) ∙ ap (λ b. before ++ b) (sym (append-nil scripts)) in
    let inside : Inside scripts whole front = subst (λ w. Inside scripts w front) (sym parts) (inside_joined before scripts []) in
    let size : length whole ≡ front + length scripts = ap length parts ∙ length-append before (scripts ++ []) ∙ ap (λ b. front + length b) (append-nil scripts) in
    let moved = map (moved_item front) are.items in
    let listed : items_behind whole (front + 0) ≡ Ok moved = Items-left whole (front + 0) moved (items_moved scripts whole front 0 are.items inside size ((reads_list scripts are.items).0 are.listed)) in
    let place : front_length 0xE2 content + length (spelled fields) ≡ front + 0 = omega (arith, length-append (header 0xE2 content) (spelled fields)) in
    let outer = message_read (0xE2 ∷ []) 0xE2 fields scripts moved refl refl (optional_last 0x91 auth refl) (ap (items_behind whole) place ∙ listed) in
    let all = moved_templates front are.items are.templates in
    let start = front_length 0xE2 content in
    let first = code_front start code (placed (start + length (written 0x8A code)) (optional 0x91 auth) ++ moved) two in
    let second = auth_front (start + length (written 0x8A code)) auth moved is all in
    let third = scripts_again scripts whole front are inside in
    ap (λ r. r >>= λ outer. reply_at whole outer.1) outer ∙ rw (first, second, third) refl

-- a reply as it is written
pub reply_written : (code : List ℕ) (auth : Option (List ℕ)) (scripts : List ℕ) → length code ≡ 2 → IfSome auth IsAuth → AreSpelledScripts scripts → IsReply (reply_bytes code auth scripts)
reply_written code auth scripts two is_auth are = record {
  reply = record { code = code; auth = auth; scripts = scripts };
  read = reply_again code auth scripts two is_auth (spelled_are_scripts scripts are);
  exact = refl;
  scripts = are;
}
