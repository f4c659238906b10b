-- What changed of an application, told part by part.
use Rattle.std.proofs.Common.{◌≡◌, ℕ, Bool, ◌||◌, List, ◌++◌, refl, ap, subst, ◌∙◌, codes}
use Rattle.report_lines.specs.Lines.{WordsData}
use Rattle.report_lines.specs.Pieces.{Piece, Tells, text}
use Rattle.report_lines.proofs.Telling.{tells_then}
use Rattle.message_words.specs.Powers.{between, told_where, turned_words, changes_words, app_flags_words, change_words, changed_words, has_changed, has_turned, second_sum_or_zero}
use Rattle.message_words.specs.declared.cards.Counters.{Counters}

-- the same pieces in other words
pub tells_as : (old new : WordsData) (pieces same : List Piece) → pieces ≡ same → Tells old new pieces → Tells old new same
tells_as old new pieces same is tells = subst (λ (p : List Piece). Tells old new p) is tells

turned_is : (told : Bool) (name : List ℕ) (before : Bool) → between told ++ told_where before (codes "no longer ") ++ text name ≡ turned_words told name before
unfolding turned_words
turned_is told name before = refl

-- a flag that is set now, or is so no longer
pub turned_told : (first second third last : WordsData) (told : Bool) (name : List ℕ) (before : Bool) → Tells first second (between told)
    → Tells second third (told_where before (codes "no longer ")) → Tells third last (text name) → Tells first last (turned_words told name before)
turned_told first second third last told name before front longer named =
    tells_as first last (between told ++ told_where before (codes "no longer ") ++ text name) (turned_words told name before) (turned_is told name before)
    (tells_then first third last (between told ++ told_where before (codes "no longer ")) (text name)
    (tells_then first second third (between told) (told_where before (codes "no longer ")) front longer) named)

changed_is : (before now : Counters) (told more : Bool) (sum sum' : ℕ) → told ≡ has_changed before now → more ≡ (told || has_turned before now)
    → sum ≡ second_sum_or_zero before → sum' ≡ second_sum_or_zero now
    → changes_words before now ++ app_flags_words told before now ++ change_words more (codes "second sum") sum sum' ≡ changed_words before now
unfolding changed_words
changed_is before now told more sum sum' first then' was is =
    ap (λ (t : Bool). changes_words before now ++ app_flags_words t before now ++ change_words more (codes "second sum") sum sum') first
    ∙ ap (λ (m : Bool). changes_words before now ++ app_flags_words (has_changed before now) before now ++ change_words m (codes "second sum") sum sum')
    (then' ∙ ap (λ (t : Bool). t || has_turned before now) first)
    ∙ ap (λ (s : ℕ). changes_words before now ++ app_flags_words (has_changed before now) before now ++ change_words (has_changed before now || has_turned before now) (codes "second sum") s sum') was
    ∙ ap (λ (s : ℕ). changes_words before now ++ app_flags_words (has_changed before now) before now ++ change_words (has_changed before now || has_turned before now) (codes "second sum") (second_sum_or_zero before) s) is

-- all that changed
pub changed_told : (first second third last : WordsData) (before now : Counters) (told more : Bool) (sum sum' : ℕ) → told ≡ has_changed before now
    → more ≡ (told || has_turned before now) → sum ≡ second_sum_or_zero before → sum' ≡ second_sum_or_zero now → Tells first second (changes_words before now)
    → Tells second third (app_flags_words told before now) → Tells third last (change_words more (codes "second sum") sum sum') → Tells first last (changed_words before now)
changed_told first second third last before now told more sum sum' f t was is changes flags change =
    tells_as first last (changes_words before now ++ app_flags_words told before now ++ change_words more (codes "second sum") sum sum') (changed_words before now)
    (changed_is before now told more sum sum' f t was is)
    (tells_then first third last (changes_words before now ++ app_flags_words told before now) (change_words more (codes "second sum") sum sum')
    (tells_then first second third (changes_words before now) (app_flags_words told before now) changes flags) change)
