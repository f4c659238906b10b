-- Objects that are told with what they hold.
use Rattle.std.proofs.Common.{◌≡◌, ℕ, zero, suc, ◌-◌, ◌<◌, true, false, List, ◌++◌, refl, arith, ap}
use Rattle.std.specs.List.{flat_map}
use Rattle.ber_tlv.specs.Item.{ItemData}
use Rattle.object_words.specs.Leading.{leading_items}
use Rattle.object_words.specs.Objects.{objects_words, told_item, plain_item, is_opened, template_line, level_within, name_of}
use Rattle.object_words.specs.declared.style.Style.{Style}

-- the objects one by one
pub objects-each : (more : ℕ) (style : Style) (bytes : List ℕ) → objects_words more style bytes ≡ flat_map (told_item more style) (leading_items bytes)
unfolding objects_words
objects-each zero style bytes = refl
objects-each (suc more) style bytes = refl

-- one that is not opened
pub item-plain : (more : ℕ) (style : Style) (item : ItemData) → is_opened style.level item ≡ false → told_item more style item ≡ plain_item style item
item-plain zero style item closed = refl
item-plain (suc more) style item closed = rw closed refl

pub item-last : (more : ℕ) (style : Style) (item : ItemData) → more ≡ 0 → told_item more style item ≡ plain_item style item
item-last more style item none = ap (λ (n : ℕ). told_item n style item) none

-- one that is
pub item-opened : (more : ℕ) (style : Style) (item : ItemData) → 0 < more → is_opened style.level item ≡ true
    → told_item more style item
    ≡ template_line (name_of item.tag) style.level item.tag
    ++ objects_words (more - 1) (record style { level = level_within (name_of item.tag) style.level item.tag }) item.value
item-opened zero style item some opened = absurd (omega arith)
item-opened (suc more) style item some opened =
    rw opened (ap (λ (n : ℕ). template_line (name_of item.tag) style.level item.tag
    ++ objects_words n (record style { level = level_within (name_of item.tag) style.level item.tag }) item.value) {y = suc more - 1} (omega arith))
