-- The lines of a state, one application after the other.
use Rattle.std.proofs.Common.{◌≡◌, ℕ, ◌+◌, ◌<◌, Bool, List, [], ◌∷◌, ◌++◌, length, codes, decimal, drop, get_or, append_assoc, append-nil, add-one, drop-cons, refl, sym, ap, ◌∙◌}
use Rattle.card_state.specs.declared.state.AppState.{AppState}
use Rattle.card_state.specs.declared.state.CardState.{CardState}
use Rattle.report_text.specs.Pieces.{newline}
use Rattle.card_words.specs.StateText.{app_text, apps_text, state_text}

-- one more application was told
pub app_more : (states : List AppState) (place : ℕ) (blocked : Bool) (s : AppState) (text new whole : List ℕ) → s ≡ get_or states place s → place < length states
    → new ≡ text ++ app_text place blocked s → text ++ apps_text place blocked (drop place states) ≡ whole
    → new ++ apps_text (place + 1) blocked (drop (place + 1) states) ≡ whole
unfolding apps_text
app_more states place blocked s text new whole is within told before =
    let rest : List ℕ = apps_text (place + 1) blocked (drop (place + 1) states) in
    let here : drop place states ≡ get_or states place s ∷ drop (place + 1) states = rw add-one (drop-cons states place s within) in
    let splits : drop place states ≡ s ∷ drop (place + 1) states = here ∙ ap (λ (x : AppState). x ∷ drop (place + 1) states) (sym is) in
    let joined : (text ++ app_text place blocked s) ++ rest ≡ text ++ (app_text place blocked s ++ rest) = simp append_assoc in
    ap (λ (t : List ℕ). t ++ rest) told ∙ joined ∙ ap (λ (xs : List AppState). text ++ apps_text place blocked xs) (sym splits) ∙ before

-- all were told
pub state_told : (state : CardState) (given : List AppState) (place : ℕ) (text : List ℕ) → given ≡ state.apps.items → place ≡ length given
    → text ++ apps_text place state.blocked (drop place given) ≡ (codes "state " ++ (decimal (length given) ++ newline)) ++ apps_text 0 state.blocked given
    → text ≡ state_text state
unfolding apps_text state_text
state_told state given place text same end told =
    let none : drop place given ≡ [] = ap (λ n. drop n given) end ∙ dropped given in
    let whole : text ++ [] ≡ (codes "state " ++ (decimal (length given) ++ newline)) ++ apps_text 0 state.blocked given =
    ap (λ (xs : List AppState). text ++ apps_text place state.blocked xs) (sym none) ∙ told in
    let joined : (codes "state " ++ (decimal (length given) ++ newline)) ++ apps_text 0 state.blocked given
    ≡ codes "state " ++ decimal (length given) ++ newline ++ apps_text 0 state.blocked given = simp append_assoc in
    sym (append-nil text) ∙ whole ∙ joined
    ∙ ap (λ (xs : List AppState). codes "state " ++ decimal (length xs) ++ newline ++ apps_text 0 state.blocked xs) same
  where
    dropped : (xs : List AppState) → drop (length xs) xs ≡ []
    dropped [] = refl
    dropped (x ∷ xs) = dropped xs
