-- The state of a card before its first decision, from its applications as they are.
use Rattle.std.proofs.Common.{◌≡◌, ◌≤◌, ◌==◌, ◌&&◌, Bool, false, not, List, [], ◌∷◌, length, map, refl, ap, sym, subst, ◌∙◌, arith}
use Rattle.std.specs.List.{All}
use Rattle.std.proofs.lemmas.Bool.{and_parts, eqb-true, leb-true, not-true}
use Rattle.std.proofs.lemmas.List.Elements.{All-weaker, All-map}
use Rattle.card_state.proofs.Unused.{totals-none}
use Rattle.card_state.specs.Encoding.{HasShortLogs}
use Rattle.card_state.specs.Totals.{totals, IsUnused}
use Rattle.card_state.specs.declared.state.LogRow.{LogRow}
use Rattle.card_state.specs.declared.state.AppState.{AppState}
use Rattle.card_state.specs.declared.state.CardState.{CardState}
use Rattle.card_files.specs.AppRules.{is_unused}
use Rattle.card_files.specs.Files.{opening_of}
use Rattle.card_files.specs.ImageRules.{KeepsRules, IsImage}
use Rattle.card_files.specs.Views.{AppData, ImageData}

state_of : Bool → List AppState → CardState
state_of blocked states = record { blocked = blocked; apps = record { items = states } }

pub opened : (out : CardState) (image : ImageData) → out.blocked ≡ false → out.apps.items ≡ map (λ a. a.opening) image.apps → out ≡ opening_of image
unfolding state_of
opened out image free states = ap (λ (b : Bool). state_of b out.apps.items) free ∙ ap (λ (xs : List AppState). state_of false xs) states

no_rows : (rows : List LogRow) → length rows ≡ 0 → rows ≡ []
no_rows [] none = refl
no_rows (row ∷ rows) none = absurd (omega arith)

-- the parts of the rule of an opening state
abbrev tried : AppData → Bool
tried a = not a.opening.auth_failed && (a.opening.tries == a.tries)

abbrev logged : AppData → Bool
logged a = (length a.opening.log.items == 0) && tried a

abbrev given_size : AppData → Bool
given_size a = (a.opening.limit_two == a.limit_two) && (a.opening.log_max == a.log)

unused : (a : AppData) → KeepsRules a → IsUnused a.opening
unused a keeps =
    let s : AppState = a.opening in
    let all = and_parts (is_unused a.tries s) (given_size a) keeps.opening in
    let first = and_parts (s.count == 0) ((s.sum == 0) && ((s.sum_two == 0) && logged a)) all.0 in
    let second = and_parts (s.sum == 0) ((s.sum_two == 0) && logged a) first.1 in
    let third = and_parts (s.sum_two == 0) (logged a) second.1 in
    let fourth = and_parts (length s.log.items == 0) (tried a) third.1 in
    let fifth = and_parts (not s.auth_failed) (s.tries == a.tries) fourth.1 in
    record {
      count = eqb-true s.count 0 first.0;
      sum = eqb-true s.sum 0 second.0;
      sum_two = eqb-true s.sum_two 0 third.0;
      log = no_rows s.log.items (eqb-true (length s.log.items) 0 fourth.0);
      auth_failed = not-true s.auth_failed fifth.0;
    }

has_short_log : (a : AppData) → KeepsRules a → a.opening.log_max ≤ 10
has_short_log a keeps =
    let all = and_parts (is_unused a.tries a.opening) (given_size a) keeps.opening in
    let sizes = and_parts (a.opening.limit_two == a.limit_two) (a.opening.log_max == a.log) all.1 in
    let same : a.opening.log_max ≡ a.log = eqb-true a.opening.log_max a.log sizes.1 in
    let few : a.log ≤ 10 = leb-true a.log 10 keeps.log in
    omega arith

-- before its first decision a card has the totals of none
pub no_totals : (out : CardState) (image : ImageData) → out ≡ opening_of image → IsImage image → totals out [] ≡ out
no_totals out image same is =
    let each : All IsUnused (map (λ a. a.opening) image.apps) =
    All-map IsUnused (λ a. a.opening) image.apps (All-weaker KeepsRules (λ a. IsUnused a.opening) unused image.apps is.apps.rules) in
    subst (λ (s : CardState). totals s [] ≡ s) (sym same) (totals-none (opening_of image) each)

-- and logs of at most ten rows
pub short_logs : (out : CardState) (image : ImageData) → out ≡ opening_of image → IsImage image → HasShortLogs out
short_logs out image same is =
    let Short : AppState → Type 0 = λ s. s.log_max ≤ 10 in
    let each : All Short (map (λ a. a.opening) image.apps) =
    All-map Short (λ a. a.opening) image.apps (All-weaker KeepsRules (λ a. Short a.opening) has_short_log image.apps is.apps.rules) in
    subst (λ (s : CardState). All Short s.apps.items) (sym same) each
