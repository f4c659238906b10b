-- A PIN block to compare (EMV 4.3 Book 3 section 6.5.12): the try is decided before the comparison.
use Rattle.std.specs.Prelude.{◌≡◌, ℕ, ◌+◌, ◌-◌, ◌<◌, not, Bool, true, if◌then◌else◌, [], ◌∷◌, length, replicate, slice_get}
use Rattle.std.specs.Option.{ForSome}
use Rattle.std.specs.Str.{bytes_eq}
use Rattle.card_state.specs.declared.decision.Decision.TheVariants.{PinTry, PinRight}
use Rattle.card_state.specs.declared.state.AppState.{AppState}
use Rattle.card_state.specs.declared.state.CardState.{CardState}
use Rattle.card_app.specs.PageReplies.{CardReplyData}
use Rattle.card_app.specs.SeenKept.{MayTake}
use Rattle.card_app.specs.declared.comparing.Comparison.{Comparison}

-- a right PIN restores the tries; a wrong one is answered with the tries that are left
abbrev pub compared : ℕ → ℕ → ℕ → Bool → CardReplyData
compared app limit tries right =
    if right
    then record { new = record { app = app; decision = PinTry } ∷ record { app = app; decision = PinRight limit } ∷ []; body = []; status = 0x9000 }
    else record { new = record { app = app; decision = PinTry } ∷ []; body = []; status = 0x63C0 + (tries - 1) }

-- no PIN is eight zero bytes
abbrev pub has_pin : AppState → Bool
has_pin s = not (bytes_eq s.pin (replicate 8 0))

-- whether the block is the PIN
abbrev pub is_equal : Comparison → Bool
is_equal k = bytes_eq k.block k.pin

-- what a card decides and answers to a PIN block to compare
abbrev pub comparison_reply : Comparison → CardReplyData
comparison_reply k = compared k.app k.limit k.tries (is_equal k)

-- an application that is there and has a PIN, this one, and so many tries left
pub record MayCompare (state : CardState) (k : Comparison) : Type 0 where
  pub app : k.app < length state.apps.items
  pub there : ForSome (slice_get state.apps.items k.app) (λ s. has_pin s ≡ true)
  pub pin : ForSome (slice_get state.apps.items k.app) (λ s. s.pin ≡ k.pin)
  pub tries : ForSome (slice_get state.apps.items k.app) (λ s. s.tries ≡ k.tries)
  pub allowed : MayTake state k.app PinTry
  pub size : length k.block ≡ 8
