-- The counters of a card, one application after another.
use Rattle.std.proofs.Common.{◌≡◌, ℕ, ◌+◌, ◌<◌, List, [], ◌∷◌, ◌++◌, length, map, take, get_or, min, sym, ap, ◌∙◌, arith}
use Rattle.std.specs.List.{zip}
use Rattle.std.proofs.lemmas.List.{map-append, take_all, take_more}
use Rattle.std.proofs.lemmas.Slice.Zip.{length-zip, get_or-zip}
use Rattle.card_files.specs.Views.{AppData}
use Rattle.card_state.specs.declared.state.AppState.{AppState}
use Rattle.report_text.specs.declared.line.Shown.{Shown}
use Rattle.card_app.specs.Counters.{shown_state}

abbrev pub shown_pairs : List (AppData × AppState) → List Shown
shown_pairs pairs = map (λ pair. shown_state pair.0 pair.1) pairs

pub shows_more : (apps : List AppData) (states : List AppState) (n : ℕ) (a : AppData) (s : AppState) → n < length apps → n < length states → a ≡ get_or apps n a → s ≡ get_or states n s
    → shown_pairs (take (n + 1) (zip apps states)) ≡ shown_pairs (take n (zip apps states)) ++ shown_state a s ∷ []
shows_more apps states n a s in_apps in_states app state =
    let size : length (zip apps states) ≡ min (length apps) (length states) = length-zip apps states in
    let within : n < length (zip apps states) = omega arith in
    let pair : get_or (zip apps states) n (a, s) ≡ (a, s) =
    get_or-zip apps states n (a, s) in_apps in_states ∙ ap (λ (x : AppData). (x, get_or states n s)) (sym app) ∙ ap (λ (y : AppState). (a, y)) (sym state) in
    ap shown_pairs (take_more (zip apps states) n (a, s) within)
    ∙ map-append (λ (p : AppData × AppState). shown_state p.0 p.1) (take n (zip apps states)) (get_or (zip apps states) n (a, s) ∷ [])
    ∙ ap (λ (p : AppData × AppState). shown_pairs (take n (zip apps states)) ++ shown_state p.0 p.1 ∷ []) pair

pub shows_all : (apps : List AppData) (states : List AppState) (n : ℕ) → n ≡ min (length apps) (length states) → shown_pairs (take n (zip apps states)) ≡ shown_pairs (zip apps states)
shows_all apps states n is =
    let size : length (zip apps states) ≡ min (length apps) (length states) = length-zip apps states in
    ap shown_pairs (take_all n (zip apps states) (omega arith))
