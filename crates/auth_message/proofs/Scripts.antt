-- Taking a reply's scripts.
use Rattle.std.proofs.Common.{◌≡◌, ℕ, Bool, true, false, ◌+◌, ◌≤◌, nat_le, cond, List, [], ◌∷◌, ◌++◌, length, take, drop, Option, Some, None, Result, Ok, Err, refl, sym, ap, ◌∙◌, arith, length-take, take-append-drop, min}
use Rattle.std.specs.Prelude.{slice_range}
use Rattle.std.proofs.lemmas.Bool.Decides.{nat_tests}
use Rattle.std.proofs.lemmas.Bool.{le-leb}
use Rattle.ber_tlv.specs.Item.{ItemData, item_at}
use Rattle.ber_tlv.specs.Left.{fault_of, then_left}
use Rattle.ber_tlv.specs.declared.item.TlvFault.{TlvFault}
use Rattle.ber_tlv.proofs.ItemBounds.{item_at-lies}
use Rattle.auth_message.specs.Field.{wrong_field}
use Rattle.auth_message.specs.Left.{items_or_none}
use Rattle.auth_message.specs.Reply.{is_template, leading_templates, behind_templates, place_behind, place_behind_item, end_behind, bytes_of_items, scripts_in_items}
use Rattle.auth_message.specs.Script.{next_script, behind_script, end_of_few}
use Rattle.auth_message.proofs.Inside.{inside_joined, item_inside}

in_whole : (whole cut : List ℕ) → cut ≡ take (length cut) whole → cut ++ drop (length cut) whole ≡ whole
in_whole whole cut front = ap (λ b. b ++ drop (length cut) whole) front ∙ take-append-drop (length cut) whole

-- an item of the first bytes of a message ends at the same place in the message
pub ends_in_whole : (whole cut : List ℕ) (item : ItemData) (place : ℕ) → cut ≡ take (length cut) whole → item_at cut item.start ≡ Ok (item, place) → place_behind_item whole item ≡ place
ends_in_whole whole cut item place front stands =
    let joined : cut ++ drop (length cut) whole ≡ whole = in_whole whole cut front in
    let inside = item_inside cut (cut ++ drop (length cut) whole) 0 item.start item place (inside_joined [] cut (drop (length cut) whole)) stands in
    let start : item.start ≡ 0 + item.start = omega arith in
    ap (λ b. place_behind (item_at b item.start)) (sym joined) ∙ ap (λ n. place_behind (item_at (cut ++ drop (length cut) whole) n)) start ∙ ap place_behind inside ∙ omega arith

pub ends_within : (whole cut : List ℕ) (item : ItemData) (place : ℕ) → cut ≡ take (length cut) whole → item_at cut item.start ≡ Ok (item, place) → place ≤ length whole
ends_within whole cut item place front stands =
    let lies = item_at-lies cut item.start item place stands in
    let within = lies.within in
    let size : length cut ≡ min (length cut) (length whole) = ap length front ∙ length-take (length cut) whole in
    omega arith

none_next : (bytes : List ℕ) (left : List ItemData) → next_script bytes left ≡ None → (leading_templates left ≡ []) × (behind_templates left ≡ behind_script left)
none_next bytes [] none = (refl, refl)
none_next bytes (item ∷ items) none = by (is_template item) none
  where
    by : (b : Bool) → cond {A = Option (ℕ × ℕ)} b (Some (item.start, place_behind_item bytes item)) None ≡ None → (cond b (item ∷ leading_templates items) [] ≡ []) × (cond b (behind_templates items) (item ∷ items) ≡ cond b items (item ∷ items))
    by true none = cc
    by false none = (refl, refl)

pub no_scripts : (bytes : List ℕ) (left : List ItemData) → next_script bytes left ≡ None → scripts_in_items bytes left ≡ Ok ([], behind_script left)
unfolding scripts_in_items
no_scripts bytes left none = let both = none_next bytes left none in rw (both.0, both.1) refl

-- the first script of those that are left
record First (bytes : List ℕ) (left : List ItemData) (start end : ℕ) : Type 0 where
  first : ItemData
  splits : leading_templates left ≡ first ∷ leading_templates (behind_script left)
  behind : behind_templates left ≡ behind_templates (behind_script left)
  starts : first.start ≡ start
  ends : place_behind_item bytes first ≡ end

first_next : (bytes : List ℕ) (left : List ItemData) (start end : ℕ) → next_script bytes left ≡ Some (start, end) → First bytes left start end
first_next bytes [] start end some = cc
first_next bytes (item ∷ items) start end some = by (is_template item) refl some
  where
    by : (b : Bool) → is_template item ≡ b → cond {A = Option (ℕ × ℕ)} b (Some (item.start, place_behind_item bytes item)) None ≡ Some (start, end) → First bytes (item ∷ items) start end
    by true is some =
        let pair : ◌≡◌ {A = ℕ × ℕ} (item.start, place_behind_item bytes item) (start, end) = cc some in
        record { first = item; splits = rw is refl; behind = rw is refl; starts = ap (λ p. p.0) pair; ends = ap (λ p. p.1) pair }
    by false is some = cc

few_cons : (first : ItemData) (others : List ItemData) (found : Bool) → nat_le (length others) 7 ≡ found → nat_le (length (first ∷ others)) 8 ≡ found
few_cons first others true few = let small : length others ≤ 7 = grind (arith, nat_tests) in le-leb _ _ (omega arith)
few_cons first others false few = grind (arith, nat_tests)

some_end : (b : Bool) (place end : ℕ) → cond b (Some place) None ≡ Some end → (b ≡ true) × (place ≡ end)
some_end true place end e = let same : place ≡ end = cc in (refl, same)
some_end false place end e = cc

none_end : (b : Bool) (place : ℕ) → ◌≡◌ {A = Option ℕ} (cond b (Some place) None) None → b ≡ false
none_end true place e = cc
none_end false place e = refl

pub too_many : (bytes : List ℕ) (left : List ItemData) (start end : ℕ) → next_script bytes left ≡ Some (start, end) → end_of_few 7 bytes end (leading_templates (behind_script left)) ≡ None
    → scripts_in_items bytes left ≡ Err (wrong_field 0x71)
unfolding scripts_in_items
too_many bytes left start end next none =
    let f = first_next bytes left start end next in
    let many = few_cons f.first (leading_templates (behind_script left)) false (none_end _ _ none) in
    rw (f.splits, many) refl

-- the bytes of the scripts
all_bytes : (bytes : List ℕ) (left : List ItemData) (start end last : ℕ) → next_script bytes left ≡ Some (start, end) → end_of_few 7 bytes end (leading_templates (behind_script left)) ≡ Some last
    → (bytes_of_items bytes (leading_templates left) ≡ slice_range bytes start last) × (nat_le (length (leading_templates left)) 8 ≡ true)
all_bytes bytes left start end last next some =
    let f = first_next bytes left start end next in
    let found = some_end _ _ last some in
    let place : end_behind bytes (place_behind_item bytes f.first) (leading_templates (behind_script left)) ≡ last = ap (λ n. end_behind bytes n (leading_templates (behind_script left))) f.ends ∙ found.1 in (
      ap (bytes_of_items bytes) f.splits ∙ ap (λ n. slice_range bytes n (end_behind bytes (place_behind_item bytes f.first) (leading_templates (behind_script left)))) f.starts ∙ ap (slice_range bytes start) place,
      ap (λ (l : List ItemData). nat_le (length l) 8) f.splits ∙ few_cons f.first (leading_templates (behind_script left)) true found.0,
    )

pub too_long : (bytes : List ℕ) (left : List ItemData) (start end last : ℕ) → next_script bytes left ≡ Some (start, end) → end_of_few 7 bytes end (leading_templates (behind_script left)) ≡ Some last
    → nat_le (length (slice_range bytes start last)) 1024 ≡ false → scripts_in_items bytes left ≡ Err (wrong_field 0x71)
unfolding scripts_in_items
too_long bytes left start end last next some long =
    let all = all_bytes bytes left start end last next some in
    rw (all.0, all.1, long) refl

pub all_scripts : (bytes : List ℕ) (left : List ItemData) (start end last : ℕ) → next_script bytes left ≡ Some (start, end) → end_of_few 7 bytes end (leading_templates (behind_script left)) ≡ Some last
    → nat_le (length (slice_range bytes start last)) 1024 ≡ true → scripts_in_items bytes left ≡ Ok (slice_range bytes start last, behind_templates (behind_script left))
unfolding scripts_in_items
all_scripts bytes left start end last next some short =
    let f = first_next bytes left start end next in
    let all = all_bytes bytes left start end last next some in
    rw (all.0, all.1, short, f.behind) refl

-- the first item that is left is a script
pub script_value : (whole cut : List ℕ) (item : ItemData) (place end : ℕ) (rest : Result (List ItemData) TlvFault) → fault_of (then_left item rest) ≡ None → cut ≡ take (length cut) whole
    → item_at cut item.start ≡ Ok (item, place) → end ≡ place → is_template item ≡ true → Some (item.start, end) ≡ next_script whole (items_or_none (then_left item rest))
script_value whole cut item place end (Ok items) good front stands same is =
    let ends : end ≡ place_behind_item whole item = same ∙ sym (ends_in_whole whole cut item place front stands) in
    rw is (ap (λ (n : ℕ). let p : Option (ℕ × ℕ) = Some (item.start, n) in p) ends)
script_value whole cut item place end (Err fault) good front stands same is = absurd cc
