-- A list of allowed decisions stays one with those of a reply.
use Rattle.std.proofs.Common.{◌≡◌, ℕ, ◌+◌, ◌<◌, ◌++◌, Bool, true, false, List, [], ◌∷◌, length, refl, ap, sym, subst, ◌∙◌, arith, append-nil}
use Rattle.std.proofs.lemmas.List.{append_assoc, length-map}
use Rattle.card_files.specs.Files.{opening_of}
use Rattle.card_files.specs.Views.{AppData, ImageData}
use Rattle.card_state.specs.Allowed.{Allowed}
use Rattle.card_state.specs.Decisions.{Decided}
use Rattle.card_state.specs.Totals.{totals, apps_totals}
use Rattle.card_state.specs.declared.decision.Decision.TheVariants.{PinTry, PinRight}
use Rattle.card_state.specs.declared.state.AppState.{AppState}
use Rattle.card_state.specs.declared.state.CardState.{CardState}
use Rattle.card_state.proofs.AllowedLemmas.{Allowed-push}
use Rattle.card_app.specs.Comparing.{compared, is_equal}
use Rattle.card_app.specs.SeenKept.{MayTake}
use Rattle.card_app.specs.SeenReply.{reply_data, MayReply}
use Rattle.card_app.specs.declared.comparing.Comparison.{Comparison}
use Rattle.card_app.specs.declared.reply.Reply.{Reply}
use Rattle.card_app.specs.declared.reply.Reply.TheVariants.{Plain, Decides, Compares}

counted : (n : ℕ) (openings : List AppState) (ds : List Decided) → length (apps_totals n openings ds) ≡ length openings
unfolding apps_totals
counted n [] ds = refl
counted n (o ∷ os) ds = let rest : length (apps_totals (n + 1) os ds) ≡ length os = counted (n + 1) os ds in omega arith

-- the number of applications is that of the opening state
same_apps : (opening : CardState) (ds es : List Decided) → length (totals opening ds).apps.items ≡ length (totals opening es).apps.items
unfolding totals
same_apps opening ds es = counted 0 opening.apps.items ds ∙ sym (counted 0 opening.apps.items es)

module _ (opening : CardState) (ds : List Decided) (allowed : Allowed opening ds) where
  after_compare : (k : Comparison) → k.app < length (totals opening ds).apps.items → MayTake (totals opening ds) k.app PinTry → (right : Bool)
      → Allowed opening (ds ++ (compared k.app k.limit k.tries right).new)
  after_compare k inside may right = by_test right
    where
      one : Decided
      one = record { app = k.app; decision = PinTry }

      other : Decided
      other = record { app = k.app; decision = PinRight k.limit }

      first : Allowed opening (ds ++ one ∷ [])
      first = Allowed-push opening ds one allowed (record { in_range = inside; allowed = may })

      inside_still : k.app < length (totals opening (ds ++ one ∷ [])).apps.items
      inside_still = subst (λ n. k.app < n) (same_apps opening ds (ds ++ one ∷ [])) inside

      by_test : (right : Bool) → Allowed opening (ds ++ (compared k.app k.limit k.tries right).new)
      by_test true =
          subst (λ (xs : List Decided). Allowed opening xs) (append_assoc ds (one ∷ []) (other ∷ []))
          (Allowed-push opening (ds ++ one ∷ []) other first (record { in_range = inside_still; allowed = λ s here. tt }))
      by_test false = first

  pub card_allowed : (body : List ℕ) (reply : Reply) → MayReply (totals opening ds) reply → Allowed opening (ds ++ (reply_data body reply).new)
  card_allowed body (Plain status phase) may = subst (λ (xs : List Decided). Allowed opening xs) (sym (append-nil ds)) allowed
  card_allowed body (Decides app decision status phase) may =
      Allowed-push opening ds (record { app = app; decision = decision }) allowed (record { in_range = may.0; allowed = may.1 })
  card_allowed body (Compares k) may = after_compare k may.app may.allowed (is_equal k)

-- a card has a state for each application of its image
pub count_is : (image : ImageData) (ds : List Decided) (state : CardState) → state ≡ totals (opening_of image) ds → length state.apps.items ≡ length image.apps
unfolding totals
count_is image ds state is =
    ap (λ (s : CardState). length s.apps.items) is ∙ counted 0 (opening_of image).apps.items ds ∙ length-map image.apps (λ (a : AppData). a.opening)
