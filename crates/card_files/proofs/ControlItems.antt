-- The data objects of what was written, read again.
use Rattle.std.proofs.Common.{◌≡◌, ℕ, ◌+◌, ◌<◌, ◌==◌, Bool, true, false, List, [], ◌∷◌, ◌++◌, length, map, Option, Some, None, refl, sym, ap, subst, ◌∙◌, arith, append_assoc, length-append}
use Rattle.std.specs.Prelude.{IsTrue, slice_get, if◌then◌else◌}
use Rattle.std.proofs.lemmas.Bool.{eqb-true}
use Rattle.std.proofs.lemmas.List.{append-nil, get_or_at}
use Rattle.std.proofs.lemmas.Option.{slice_get-get_or}
use Rattle.ber_tlv.specs.Item.{ItemData}
use Rattle.ber_tlv.specs.Items.{Items, HasObjectAt}
use Rattle.ber_tlv.specs.Tag.{is_readable}
use Rattle.ber_tlv.specs.Written.{written, tag_bytes, length_bytes}
use Rattle.ber_tlv.proofs.ReadAgain.{appended_read}
use Rattle.ber_tlv.proofs.Reading.{Items-left, no_zeros}
use Rattle.card_files.specs.Control.{Objects, AreObjects, written_some, object_if, value_of_byte, log_entry, proprietary, fci_bytes, IsLogEntry, IsFci}
use Rattle.card_files.specs.Directory.{directory_fci, directory_record_bytes, IsDirectoryFci, IsDirectoryRecord}
use Rattle.emv_dict.specs.Name.{directory_name}
use Rattle.card_files.specs.Views.{AppData}

-- a tag that a reading can give
record IsTag (tag : ℕ) : Type 0 where
  readable : IsTrue (is_readable tag)
  first : ℕ
  others : List ℕ
  bytes : tag_bytes tag ≡ first ∷ others
  not_zero : 0 < first

abbrev AreTags : Objects → Type 0
AreTags [] = Unit {0}
AreTags ((tag, value) ∷ objects) = IsTag tag × AreTags objects

-- objects written one behind the other, and the items that stand then behind other bytes
abbrev all_written : Objects → List ℕ
all_written [] = []
all_written ((tag, value) ∷ objects) = written tag value ++ all_written objects

abbrev items_behind_front : List ℕ → Objects → List ItemData
items_behind_front front [] = []
items_behind_front front ((tag, value) ∷ objects) =
    record { tag = tag; value = value; start = length front } ∷ items_behind_front (front ++ written tag value) objects

written_begins : (tag : ℕ) (value : List ℕ) (is : IsTag tag) → written tag value ≡ is.first ∷ (is.others ++ length_bytes (length value) ++ value)
unfolding written
written_begins tag value is = ap (λ (bs : List ℕ). bs ++ length_bytes (length value) ++ value) is.bytes

begins : (front rest value : List ℕ) (tag : ℕ) → IsTag tag → HasObjectAt (front ++ (written tag value ++ rest)) (length front)
begins front rest value tag is =
    let more : List ℕ = is.others ++ length_bytes (length value) ++ value in
    let bytes : List ℕ = front ++ (is.first ∷ more ++ rest) in
    let size : length bytes ≡ length front + length (is.first ∷ more ++ rest) = length-append front (is.first ∷ more ++ rest) in
    let there : slice_get bytes (length front) ≡ Some is.first =
    slice_get-get_or bytes (length front) 0 (omega arith) ∙ ap (λ (b : ℕ). Some b) (get_or_at front is.first (more ++ rest) 0 (length front) refl) in
    let whole : HasObjectAt bytes (length front) = record { byte = is.first; there = there; not_zero = is.not_zero } in
    subst (λ (bs : List ℕ). HasObjectAt (front ++ (bs ++ rest)) (length front)) (sym (written_begins tag value is)) whole

stand : (bytes front : List ℕ) (objects : Objects) → bytes ≡ front ++ all_written objects → AreTags objects → Items bytes (length front) (items_behind_front front objects)
stand bytes front [] is tags =
    let same : bytes ≡ front = is ∙ append-nil front in
    rw same (no_zeros front (length front) (omega arith))
stand bytes front ((tag, value) ∷ objects) is tags =
    let next : List ℕ = front ++ written tag value in
    let whole : bytes ≡ next ++ all_written objects = is ∙ sym (append_assoc front (written tag value) (all_written objects)) in
    let size : length bytes ≡ length front + length (written tag value ++ all_written objects) = ap length is ∙ length-append front (written tag value ++ all_written objects) in (
      length next,
      record {
        start = length front;
        zeros = no_zeros bytes (length front) (omega arith);
        begins = subst (λ (bs : List ℕ). HasObjectAt bs (length front)) (sym is) (begins front (all_written objects) value tag tags.0);
        stands = rw whole (appended_read front next tag value refl tags.0.readable (all_written objects));
      },
      stand bytes next objects whole tags.1,
    )

what_stands : (front : List ℕ) (objects : Objects) → map (λ i. (i.tag, i.value)) (items_behind_front front objects) ≡ objects
what_stands front [] = refl
what_stands front ((tag, value) ∷ objects) = ap (λ (os : Objects). (tag, value) ∷ os) (what_stands (front ++ written tag value) objects)

read_again : (bytes : List ℕ) (objects : Objects) → bytes ≡ all_written objects → AreTags objects → AreObjects bytes objects
read_again bytes objects is tags =
    (items_behind_front [] objects, Items-left bytes 0 (items_behind_front [] objects) (stand bytes [] objects is tags), what_stands [] objects)

one_byte_tag : (tag : ℕ) → IsTrue (is_readable tag) → tag_bytes tag ≡ tag ∷ [] → 0 < tag → IsTag tag
one_byte_tag tag readable bytes not_zero = record { readable = readable; first = tag; others = []; bytes = bytes; not_zero = not_zero }

list_tag : IsTag 0x9F38
list_tag = record { readable = refl; first = 0x9F; others = 0x38 ∷ []; bytes = refl; not_zero = omega arith }

log_tag : IsTag 0x9F4D
log_tag = record { readable = refl; first = 0x9F; others = 0x4D ∷ []; bytes = refl; not_zero = omega arith }

template_tag : IsTag 0xBF0C
template_tag = record { readable = refl; first = 0xBF; others = 0x0C ∷ []; bytes = refl; not_zero = omega arith }

-- an object that may be absent, and objects behind others
some_written : (tag : ℕ) (value : Option (List ℕ)) → written_some tag value ≡ all_written (object_if tag value)
some_written tag None = refl
some_written tag (Some value) = sym (append-nil (written tag value))

if_tags : (tag : ℕ) (value : Option (List ℕ)) → IsTag tag → AreTags (object_if tag value)
if_tags tag None is = tt
if_tags tag (Some value) is = (is, tt)

all_written-append : (xs ys : Objects) → all_written (xs ++ ys) ≡ all_written xs ++ all_written ys
all_written-append [] ys = refl
all_written-append ((tag, value) ∷ xs) ys =
    ap (λ (bs : List ℕ). written tag value ++ bs) (all_written-append xs ys) ∙ sym (append_assoc (written tag value) (all_written xs) (all_written ys))

tags-append : (xs ys : Objects) → AreTags xs → AreTags ys → AreTags (xs ++ ys)
tags-append [] ys firsts others = others
tags-append ((tag, value) ∷ xs) ys firsts others = (firsts.0, tags-append xs ys firsts.1 others)

-- the label and the priority indicator, and the list behind them, and the log's entry behind those
abbrev head_objects : List ℕ → Option (List ℕ) → Objects
head_objects label priority = (0x50, label) ∷ object_if 0x87 priority

abbrev own_objects : List ℕ → Option (List ℕ) → Option (List ℕ) → Option (List ℕ) → Objects
own_objects label priority pdol log = head_objects label priority ++ object_if 0x9F38 pdol ++ object_if 0xBF0C log

own_written : (label : List ℕ) (priority pdol log : Option (List ℕ)) →
    written 0x50 label ++ written_some 0x87 priority ++ written_some 0x9F38 pdol ++ written_some 0xBF0C log ≡ all_written (own_objects label priority pdol log)
own_written label priority pdol log =
    let head : List ℕ = all_written (head_objects label priority) in
    let list : List ℕ = all_written (object_if 0x9F38 pdol) in
    ap (λ (bs : List ℕ). written 0x50 label ++ bs ++ written_some 0x9F38 pdol ++ written_some 0xBF0C log) (some_written 0x87 priority)
    ∙ ap (λ (bs : List ℕ). head ++ bs ++ written_some 0xBF0C log) (some_written 0x9F38 pdol)
    ∙ ap (λ (bs : List ℕ). head ++ list ++ bs) (some_written 0xBF0C log)
    ∙ ap (λ (bs : List ℕ). bs ++ all_written (object_if 0xBF0C log)) (sym (all_written-append (head_objects label priority) (object_if 0x9F38 pdol)))
    ∙ sym (all_written-append (head_objects label priority ++ object_if 0x9F38 pdol) (object_if 0xBF0C log))

own_tags : (label : List ℕ) (priority pdol log : Option (List ℕ)) → AreTags (own_objects label priority pdol log)
own_tags label priority pdol log =
    tags-append (head_objects label priority ++ object_if 0x9F38 pdol) (object_if 0xBF0C log)
    (tags-append (head_objects label priority) (object_if 0x9F38 pdol)
    (one_byte_tag 0x50 refl refl (omega arith), if_tags 0x87 priority (one_byte_tag 0x87 refl refl (omega arith))) (if_tags 0x9F38 pdol list_tag))
    (if_tags 0xBF0C log template_tag)

entry_read : (app : AppData) (none : Bool) → (app.log == 0) ≡ none → IsLogEntry app (if none then None else Some (written 0x9F4D (app.log_sfi ∷ app.log ∷ [])))
entry_read app true is = eqb-true app.log 0 is
entry_read app false is =
    let value : List ℕ = app.log_sfi ∷ app.log ∷ [] in
    read_again (written 0x9F4D value) ((0x9F4D, value) ∷ []) (sym (append-nil (written 0x9F4D value))) (log_tag, tt)

pub is_fci : (app : AppData) (bytes : List ℕ) → bytes ≡ fci_bytes app → IsFci app bytes
unfolding fci_bytes proprietary
is_fci app bytes is =
    let own : List ℕ = proprietary app in
    let template : List ℕ = written 0x84 app.name ++ written 0xA5 own in
    record {
      template = template;
      own = own;
      whole = read_again bytes ((0x6F, template) ∷ []) (is ∙ sym (append-nil (written 0x6F template))) (one_byte_tag 0x6F refl refl (omega arith), tt);
      parts =
          read_again template ((0x84, app.name) ∷ (0xA5, own) ∷ []) (ap (λ (bs : List ℕ). written 0x84 app.name ++ bs) (sym (append-nil (written 0xA5 own))))
          (one_byte_tag 0x84 refl refl (omega arith), (one_byte_tag 0xA5 refl refl (omega arith), tt));
      objects =
          read_again own (own_objects app.label (value_of_byte app.priority) app.pdol (log_entry app))
          (own_written app.label (value_of_byte app.priority) app.pdol (log_entry app)) (own_tags app.label (value_of_byte app.priority) app.pdol (log_entry app));
      log = entry_read app (app.log == 0) refl;
    }

pub is_directory_fci : (sfi : ℕ) (bytes : List ℕ) → bytes ≡ directory_fci sfi → IsDirectoryFci sfi bytes
unfolding directory_fci
is_directory_fci sfi bytes is =
    let own : List ℕ = written 0x88 (sfi ∷ []) in
    let template : List ℕ = written 0x84 directory_name ++ written 0xA5 own in
    record {
      template = template;
      own = own;
      whole = read_again bytes ((0x6F, template) ∷ []) (is ∙ sym (append-nil (written 0x6F template))) (one_byte_tag 0x6F refl refl (omega arith), tt);
      parts =
          read_again template ((0x84, directory_name) ∷ (0xA5, own) ∷ []) (ap (λ (bs : List ℕ). written 0x84 directory_name ++ bs) (sym (append-nil (written 0xA5 own))))
          (one_byte_tag 0x84 refl refl (omega arith), (one_byte_tag 0xA5 refl refl (omega arith), tt));
      objects = read_again own ((0x88, sfi ∷ []) ∷ []) (sym (append-nil own)) (one_byte_tag 0x88 refl refl (omega arith), tt);
    }

pub is_entry : (app : AppData) (bytes : List ℕ) → bytes ≡ directory_record_bytes app → IsDirectoryRecord app bytes
unfolding directory_record_bytes
is_entry app bytes is =
    let priority : Option (List ℕ) = value_of_byte app.priority in
    let entry : List ℕ = written 0x4F app.name ++ written 0x50 app.label ++ written_some 0x87 priority in
    let template : List ℕ = written 0x61 entry in
    record {
      template = template;
      entry = entry;
      whole = read_again bytes ((0x70, template) ∷ []) (is ∙ sym (append-nil (written 0x70 template))) (one_byte_tag 0x70 refl refl (omega arith), tt);
      parts = read_again template ((0x61, entry) ∷ []) (sym (append-nil template)) (one_byte_tag 0x61 refl refl (omega arith), tt);
      objects =
          read_again entry ((0x4F, app.name) ∷ (0x50, app.label) ∷ object_if 0x87 priority)
          (append_assoc (written 0x4F app.name) (written 0x50 app.label) (written_some 0x87 priority)
          ∙ ap (λ (bs : List ℕ). written 0x4F app.name ++ (written 0x50 app.label ++ bs)) (some_written 0x87 priority)) (
            one_byte_tag 0x4F refl refl (omega arith),
            (one_byte_tag 0x50 refl refl (omega arith), if_tags 0x87 priority (one_byte_tag 0x87 refl refl (omega arith))),
          );
    }
