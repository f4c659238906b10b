-- The templates that come first in some items of a byte string are read again in the bytes that hold them alone.
use Rattle.std.proofs.Common.{◌≡◌, refl, sym, ap, ◌∙◌, subst, ℕ, suc, ◌+◌, ◌-◌, ◌<◌, ◌≤◌, min, Bool, true, false, if◌then◌else◌, List, [], ◌∷◌, ◌++◌, take, drop, length, slice_range, arith, length-take, length-drop, take-append-drop}
use Rattle.std.proofs.lemmas.Bool.{le-leb}
use Rattle.auth_message.proofs.Inside.{Inside, inside_joined}
use Rattle.auth_message.proofs.Opened.{stands_at, start_of}
use Rattle.auth_message.proofs.Scripts.{ends_in_whole}
use Rattle.auth_message.specs.Reply.{is_template, leading_templates, place_behind_item, end_behind, bytes_of_items}
use Rattle.ber_tlv.proofs.ItemBounds.{item_at-lies}
use Rattle.ber_tlv.proofs.Reading.{no_zeros, Items-left}
use Rattle.ber_tlv.specs.Item.{ItemData, item_at}
use Rattle.ber_tlv.specs.Items.{NextItem, Items}
use Rattle.ber_tlv.specs.Left.{items_behind, items_from, items_of}
use Rattle.dialogue_laws.proofs.Cutting.{byte_in, item_again}
use Rattle.terminal_state.specs.Scripts.{has_few_scripts}

-- an item of a part of the string
record PartItem (part : List ℕ) (front place next : ℕ) : Type 0 where
  item : ItemData
  end : ℕ
  same : next ≡ front + end
  step : NextItem part place item end

step_bounds : (cut : List ℕ) (place : ℕ) (item : ItemData) (next : ℕ) (step : NextItem cut place item next) → (place ≤ step.start) × (step.start < next) × (next ≤ length cut)
step_bounds cut place item next step =
    let lies = item_at-lies cut step.start item next step.stands in
    let header = lies.header in
    let upward = lies.upward in
    (step.zeros.upward, omega arith, lies.within)

part_item : (part cut : List ℕ) (front place at : ℕ) (item : ItemData) (next : ℕ) → Inside part cut front → at ≡ front + place → NextItem cut at item next → next ≤ front + length part
    → PartItem part front place next
part_item part cut front place at item next inside is step within =
    let bounds = step_bounds cut at item next step in
    let upward = bounds.0 in
    let before = bounds.1 in
    let start = step.start - front in
    let start_is : step.start ≡ front + start = omega arith in
    let found = item_again part cut front start item next inside (ap (item_at cut) (sym start_is) ∙ step.stands) within in
    record {
      item = found.item;
      end = found.end;
      same = found.same;
      step = record {
        start = start;
        zeros = record {
          upward = omega arith;
          within = omega arith;
          zero = λ k from to. byte_in part cut front k (front + k) 0 inside refl (omega arith) (step.zeros.zero (front + k) (omega arith) (omega arith));
        };
        begins = record {
          byte = step.begins.byte;
          there = byte_in part cut front start step.start step.begins.byte inside start_is (omega arith) step.begins.there;
          not_zero = step.begins.not_zero;
        };
        stands = found.reads;
      };
    }

-- where some items end: at this place or behind it, and within the bytes
record Ends (bytes : List ℕ) (place most : ℕ) (items : List ItemData) : Type 0 where
  upward : place ≤ end_behind bytes place items
  within : end_behind bytes place items ≤ most

-- items of a part, as many as these
record PartItems (part : List ℕ) (place count : ℕ) : Type 0 where
  items : List ItemData
  stand : Items part place items
  many : length items ≡ count

no_more : (part : List ℕ) (place : ℕ) → place ≡ length part → PartItems part place 0
no_more part place is = record {
  items = [];
  stand = record { upward = omega arith; within = omega arith; zero = λ k from to. absurd (omega arith) };
  many = refl;
}

few_read : (part : List ℕ) (items : List ItemData) → Items part 0 items → length items ≤ 8 → has_few_scripts (items_of part) ≡ true
few_read part items stand few = ap has_few_scripts (Items-left part 0 items stand) ∙ le-leb (length items) 8 few

-- the first bytes of a message, whose items these are
module _ (bytes cut : List ℕ) (are_first : cut ≡ take (length cut) bytes) where
  end_is : (place : ℕ) (item : ItemData) (next : ℕ) → NextItem cut place item next → place_behind_item bytes item ≡ next
  end_is place item next step = ends_in_whole bytes cut item next are_first (stands_at cut cut place item next refl step)

  ends_by : (test : Bool) (place next : ℕ) (item : ItemData) (items : List ItemData) → place_behind_item bytes item ≡ next → place ≤ next → next ≤ length cut → Ends bytes next (length cut) items
      → Ends bytes place (length cut) (if test then item ∷ items else [])
  ends_by true place next item items ends onward inside later =
      let same : end_behind bytes (place_behind_item bytes item) items ≡ end_behind bytes next items = ap (λ n. end_behind bytes n items) ends in
      let upward = later.upward in
      let within = later.within in
      record { upward = omega arith; within = omega arith }
  ends_by false place next item items ends onward inside later = record { upward = omega arith; within = omega arith }

  templates_end : (place : ℕ) (items : List ItemData) → Items cut place items → Ends bytes place (length cut) (leading_templates items)
  templates_end place [] zeros = record { upward = omega arith; within = omega (arith, zeros.upward, zeros.within) }
  templates_end place (item ∷ items) (next, step, rest) =
      let bounds = step_bounds cut place item next step in
      let upward = bounds.0 in
      let before = bounds.1 in
      ends_by (is_template item) place next item (leading_templates items) (end_is place item next step) (omega arith) bounds.2 (templates_end next items rest)

  module _ (part : List ℕ) (front : ℕ) (inside : Inside part cut front) where
    items_by : (test : Bool) (at place next : ℕ) (item : ItemData) (items : List ItemData) → at ≡ front + place → NextItem cut at item next → next ≤ end_behind bytes next items
        → end_behind bytes at (if test then item ∷ items else []) ≡ front + length part
        → ((end : ℕ) → next ≡ front + end → end_behind bytes next items ≡ front + length part → PartItems part end (length items))
        → PartItems part place (length (if test then item ∷ items else []))
    items_by true at place next item items is step upward all later =
        let same : end_behind bytes (place_behind_item bytes item) items ≡ end_behind bytes next items = ap (λ n. end_behind bytes n items) (end_is at item next step) in
        let total : end_behind bytes next items ≡ front + length part = sym same ∙ all in
        let first = part_item part cut front place at item next inside is step (omega arith) in
        let others = later first.end first.same total in
        record { items = first.item ∷ others.items; stand = (first.end, first.step, others.stand); many = ap suc others.many }
    items_by false at place next item items is step upward all later = let here : at ≡ front + length part = all in no_more part place (omega arith)

    part_items : (at place : ℕ) (items : List ItemData) → at ≡ front + place → Items cut at items → end_behind bytes at (leading_templates items) ≡ front + length part
        → PartItems part place (length (leading_templates items))
    part_items at place [] is zeros all = let here : at ≡ front + length part = all in no_more part place (omega arith)
    part_items at place (item ∷ items) is (next, step, rest) all =
        items_by (is_template item) at place next item (leading_templates items) is step (templates_end next items rest).upward all
        (λ end same total. part_items next end items same rest total)

  -- the bytes from one place to another, within the message and within its first bytes
  part_same : (from to : ℕ) → to ≤ length cut → slice_range bytes from to ≡ slice_range cut from to
  part_same from to within =
      let rest = drop (length cut) bytes in
      let joined : cut ++ rest ≡ bytes = ap (λ b. b ++ rest) are_first ∙ take-append-drop (length cut) bytes in
      let inside = inside_joined [] cut rest in
      let at_from : from ≡ 0 + from = omega arith in
      let at_to : to ≡ 0 + to = omega arith in
      ap (λ b. slice_range b from to) (sym joined) ∙ ap (λ n. slice_range (cut ++ rest) n to) at_from ∙ ap (slice_range (cut ++ rest) (0 + from)) at_to ∙ inside.range from to within

  part_inside : (from to : ℕ) → from ≤ to → to ≤ length cut → Inside (slice_range cut from to) cut from
  part_inside from to upward within =
      let part = slice_range cut from to in
      let rest = drop (to - from) (drop from cut) in
      let joined : take from cut ++ (part ++ rest) ≡ cut = ap (λ b. take from cut ++ b) (take-append-drop (to - from) (drop from cut)) ∙ take-append-drop from cut in
      let front : length (take from cut) ≡ from = length-take from cut ∙ omega arith in
      subst (λ w. Inside part w from) joined (subst (λ n. Inside part (take from cut ++ (part ++ rest)) n) front (inside_joined (take from cut) part rest))

  part_length : (from to : ℕ) → from ≤ to → to ≤ length cut → from + length (slice_range cut from to) ≡ to
  part_length from to upward within =
      let count : length (slice_range cut from to) ≡ min (to - from) (length cut - from) = length-take (to - from) (drop from cut) ∙ ap (min (to - from)) (length-drop from cut) in
      omega arith

  at_start : (place : ℕ) (item : ItemData) (next : ℕ) → NextItem cut place item next → NextItem cut item.start item next
  at_start place item next step =
      let within = step.zeros.within in
      let here : NextItem cut step.start item next = record { start = step.start; zeros = no_zeros cut step.start within; begins = step.begins; stands = step.stands } in
      subst (λ n. NextItem cut n item next) (sym (start_of cut step.start item next step.stands)) here

  few_in : (place : ℕ) (item : ItemData) (items : List ItemData) (next : ℕ) → NextItem cut place item next → Items cut next items → length (item ∷ leading_templates items) ≤ 8
      → has_few_scripts (items_of (bytes_of_items bytes (item ∷ leading_templates items))) ≡ true
  few_in place item items next step rest few =
      let start_is : item.start ≡ step.start = start_of cut step.start item next step.stands in
      let bounds = step_bounds cut place item next step in
      let onward = bounds.1 in
      let end = end_behind bytes (place_behind_item bytes item) (leading_templates items) in
      let same : end ≡ end_behind bytes next (leading_templates items) = ap (λ n. end_behind bytes n (leading_templates items)) (end_is place item next step) in
      let later = templates_end next items rest in
      let upward = later.upward in
      let within = later.within in
      let from_start : item.start ≤ end = omega arith in
      let to_end : end ≤ length cut = omega arith in
      let part = slice_range cut item.start end in
      let inside = part_inside item.start end from_start to_end in
      let total : end ≡ item.start + length part = sym (part_length item.start end from_start to_end) in
      let first = part_item part cut item.start 0 item.start item next inside (omega arith) (at_start place item next step) (omega arith) in
      let others = part_items part item.start inside next first.end items first.same rest (sym same ∙ total) in
      let count = others.many in
      ap (λ b. has_few_scripts (items_of b)) (part_same item.start end to_end)
      ∙ few_read part (first.item ∷ others.items) (first.end, first.step, others.stand) (omega arith)

  few_by : (test : Bool) (place : ℕ) (item : ItemData) (items : List ItemData) (next : ℕ) → NextItem cut place item next → Items cut next items
      → length (if test then item ∷ leading_templates items else []) ≤ 8 → has_few_scripts (items_of (bytes_of_items bytes (if test then item ∷ leading_templates items else []))) ≡ true
  unfolding items_behind items_from
  few_by true place item items next step rest few = few_in place item items next step rest few
  few_by false place item items next step rest few = refl

  pub few_again : (place : ℕ) (items : List ItemData) → Items cut place items → length (leading_templates items) ≤ 8 → has_few_scripts (items_of (bytes_of_items bytes (leading_templates items))) ≡ true
  unfolding items_behind items_from
  few_again place [] zeros few = refl
  few_again place (item ∷ items) (next, step, rest) few = few_by (is_template item) place item items next step rest few
