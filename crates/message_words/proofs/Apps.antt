-- The counters of applications, read one by one and told one by one.
use Rattle.std.proofs.Common.{◌≡◌, ℕ, zero, suc, ◌+◌, ◌-◌, ◌<◌, ◌≤◌, Bool, false, cond, eqb, List, [], ◌∷◌, ◌++◌, length, drop, get_or, refl, sym, ap, subst, ◌∙◌, append_assoc, arith, add-one, drop-cons, Option, Some, None, option_map, option_and_then}
use Rattle.std.proofs.lemmas.Bool.Decides.{nat_tests}
use Rattle.std.proofs.lemmas.List.{append-nil, length-append, drop_all}
use Rattle.report_lines.specs.Parts.{split_word}
use Rattle.message_words.specs.Cards.{apps_within, some_apps, counters_in}
use Rattle.message_words.specs.Powers.{apps_words_from, app_words}
use Rattle.message_words.specs.declared.cards.Counters.{Counters}

-- so many of at most four were read
pub record IsReadTo (text left : List ℕ) (apps : List Counters) : Type 0 where
  pub few : length apps ≤ 4
  pub same : apps_within 4 text ≡ option_map (λ others. apps ++ others) (apps_within (4 - length apps) left)

map_none : (found : Option (List Counters)) → found ≡ option_map (λ others. [] ++ others) found
map_none None = refl
map_none (Some others) = refl

pub reading_start : (text : List ℕ) → IsReadTo text text []
reading_start text = record { few = omega arith; same = map_none (apps_within 4 text) }

-- a word more
step : (most : ℕ) (left : List ℕ) → 0 < length left
    → apps_within (suc most) left ≡ option_and_then (λ one. option_map (λ others. one ∷ others) (apps_within most (split_word left).1)) (counters_in (split_word left).0)
unfolding apps_within
step most left some =
    let is : eqb (length left) 0 ≡ false = grind (arith, nat_tests) in
    ap (λ b. cond b (Some []) (option_and_then (λ one. option_map (λ others. one ∷ others) (apps_within most (split_word left).1)) (counters_in (split_word left).0))) is

no_room : (left : List ℕ) → 0 < length left → apps_within 0 left ≡ None
unfolding apps_within
no_room left some =
    let is : eqb (length left) 0 ≡ false = grind (arith, nat_tests) in
    ap (λ b. cond b (Some []) None) is

at_end : (most : ℕ) (left : List ℕ) → length left ≡ 0 → apps_within most left ≡ Some []
unfolding apps_within
at_end zero left none = ap (λ n. cond (eqb n 0) (Some []) None) none
at_end (suc most) left none =
    ap (λ n. cond (eqb n 0) (Some []) (option_and_then (λ one. option_map (λ others. one ∷ others) (apps_within most (split_word left).1)) (counters_in (split_word left).0))) none

map_more : (apps : List Counters) (one : Counters) (found : Option (List Counters))
    → option_map (λ others. apps ++ others) (option_map (λ others. one ∷ others) found) ≡ option_map (λ others. (apps ++ one ∷ []) ++ others) found
map_more apps one None = refl
map_more apps one (Some others) = ap Some (sym (append_assoc apps (one ∷ []) others))

one_more : (text left : List ℕ) (apps : List Counters) (one : Counters) → 0 < length left → length apps < 4 → counters_in (split_word left).0 ≡ Some one
    → IsReadTo text left apps → IsReadTo text (split_word left).1 (apps ++ one ∷ [])
one_more text left apps one some room is r =
    let size : length (apps ++ one ∷ []) ≡ suc (length apps) = omega (arith, length-append apps (one ∷ [])) in
    let less : 4 - length apps ≡ suc (4 - length (apps ++ one ∷ [])) = omega (arith, size) in
    record {
      few = omega (arith, size);
      same = r.same ∙ ap (λ n. option_map (λ others. apps ++ others) (apps_within n left)) less
          ∙ ap (option_map (λ others. apps ++ others)) (step (4 - length (apps ++ one ∷ [])) left some)
          ∙ ap (λ c. option_map (λ others. apps ++ others) (option_and_then (λ next. option_map (λ others. next ∷ others) (apps_within (4 - length (apps ++ one ∷ [])) (split_word left).1)) c)) is
          ∙ map_more apps one (apps_within (4 - length (apps ++ one ∷ [])) (split_word left).1);
    }

pub reading_more : (text left rest : List ℕ) (apps more : List Counters) (one : Counters) → 0 < length left → length apps < 4
    → counters_in (split_word left).0 ≡ Some one → rest ≡ (split_word left).1 → more ≡ apps ++ one ∷ [] → IsReadTo text left apps → IsReadTo text rest more
reading_more text left rest apps more one some room is behind grown r =
    subst (λ (t : List ℕ). IsReadTo text t more) (sym behind) (subst (λ (a : List Counters). IsReadTo text (split_word left).1 a) (sym grown) (one_more text left apps one some room is r))

none_at : (most : ℕ) (left : List ℕ) → 0 < length left → counters_in (split_word left).0 ≡ None → apps_within most left ≡ None
none_at zero left some is = no_room left some
none_at (suc most) left some is =
    step most left some ∙ ap (λ c. option_and_then (λ one. option_map (λ others. one ∷ others) (apps_within most (split_word left).1)) c) is

-- a word that is none ends it
pub reading_none : (text left : List ℕ) (apps : List Counters) → 0 < length left → counters_in (split_word left).0 ≡ None → IsReadTo text left apps
    → some_apps (apps_within 4 text) ≡ None
reading_none text left apps some is r =
    ap some_apps (r.same ∙ ap (option_map (λ others. apps ++ others)) (none_at (4 - length apps) left some is))

-- and a fifth one
pub reading_full : (text left : List ℕ) (apps : List Counters) → 0 < length left → 4 ≤ length apps → IsReadTo text left apps → some_apps (apps_within 4 text) ≡ None
reading_full text left apps some full r =
    let none : 4 - length apps ≡ 0 = omega arith in
    ap some_apps (r.same ∙ ap (λ n. option_map (λ others. apps ++ others) (apps_within n left)) none ∙ ap (option_map (λ others. apps ++ others)) (no_room left some))

-- the end
all_read : (text left : List ℕ) (apps : List Counters) → length left ≡ 0 → IsReadTo text left apps → apps_within 4 text ≡ Some apps
all_read text left apps none r =
    r.same ∙ ap (option_map (λ others. apps ++ others)) (at_end (4 - length apps) left none) ∙ ap Some (append-nil apps)

some_of : (apps : List Counters) → 0 < length apps → some_apps (Some apps) ≡ Some apps
some_of [] none = absurd (omega arith)
some_of (one ∷ others) some = refl

none_of : (apps : List Counters) → length apps ≡ 0 → some_apps (Some apps) ≡ None
none_of [] none = refl
none_of (one ∷ others) none = absurd (omega arith)

pub reading_end : (text left : List ℕ) (apps : List Counters) → length left ≡ 0 → 0 < length apps → IsReadTo text left apps → some_apps (apps_within 4 text) ≡ Some apps
reading_end text left apps none some r = ap some_apps (all_read text left apps none r) ∙ some_of apps some

pub reading_empty : (text left : List ℕ) (apps : List Counters) → length left ≡ 0 → length apps ≡ 0 → IsReadTo text left apps → some_apps (apps_within 4 text) ≡ None
reading_empty text left apps none bare r = ap some_apps (all_read text left apps none r) ∙ none_of apps bare

-- the applications from a place on: the first, and those behind it
from_place : (apps : List Counters) (place : ℕ) (d : Counters) → place < length apps → drop place apps ≡ get_or apps place d ∷ drop (place + 1) apps
from_place apps place d within = rw (add-one, drop-cons apps place d) refl

pub apps_next : (several : Bool) (before apps : List Counters) (place : ℕ) (d : Counters) → place < length apps
    → apps_words_from several before place (drop place apps) ≡ app_words several before place (get_or apps place d) ++ apps_words_from several before (place + 1) (drop (place + 1) apps)
apps_next several before apps place d within = ap (apps_words_from several before place) (from_place apps place d within)

pub apps_end : (several : Bool) (before apps : List Counters) (place : ℕ) → length apps ≤ place → apps_words_from several before place (drop place apps) ≡ []
apps_end several before apps place past = ap (apps_words_from several before place) (drop_all place apps past)
