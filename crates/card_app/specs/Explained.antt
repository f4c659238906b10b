-- What a reason says by itself: whether each test holds, in other words than the policy's.
use Rattle.std.specs.Prelude.{◌≡◌, ◌↔◌, ℕ, ◌+◌, ◌&&◌, not, nat_le, Bool, true, false, IsTrue, List, Option, Some, None, slice_get}
use Rattle.card_cryptogram.specs.Bodies.{kind_in}
use Rattle.card_files.specs.Views.{AppData, ImageData}
use Rattle.card_app.specs.PageReplies.{CardReplyData}
use Rattle.card_state.specs.Decisions.{Decided}
use Rattle.card_state.specs.declared.decision.How.{How}
use Rattle.card_state.specs.declared.decision.How.TheVariants.{Authenticated as ByIssuer, Held, Alone, Offline}
use Rattle.card_state.specs.declared.decision.Which.{Which}
use Rattle.card_state.specs.declared.decision.Which.TheVariants.{One, Two, Neither}
use Rattle.emv_dict.specs.declared.ending.Kind.TheVariants.{Tc}
use Rattle.card_app.specs.Answering.{card_reply}
use Rattle.card_app.specs.Reasons.{why_of}
use Rattle.card_app.specs.Session.{Exchange}
use Rattle.card_app.specs.declared.reason.Reason.{Reason}
use Rattle.card_app.specs.declared.reason.Resting.{Resting}

-- one of the application's currencies
abbrev pub is_own_currency : Which → Bool
is_own_currency One = true
is_own_currency Two = true
is_own_currency Neither = false

-- an approval without the issuer
abbrev pub stays_within : Reason → Bool
stays_within r = not r.auth_failed && (nat_le (r.count + 1) r.count_limit && (is_own_currency r.which && nat_le (r.sum + r.amount) r.sum_limit))

-- a second one by what it rests on
abbrev pub rests_well : Reason → Resting → How → Bool
rests_well r rest ByIssuer = true
rests_well r rest Held = true
rests_well r rest Alone = not rest.issuer_auth
rests_well r rest Offline = stays_within r

abbrev pub may_be_approved : Reason → Option Resting → Bool
may_be_approved r None = stays_within r
may_be_approved r (Some rest) = not rest.declined && rests_well r rest rest.how

-- each test of an approval holds
abbrev pub passes_tests : Reason → Bool
passes_tests r = not r.blocked && may_be_approved r r.second

-- The kind told is the one in the answer, and an approval that is asked for is given exactly where each test holds.
pub record ExplainsAnswer (image : ImageData) (reply : CardReplyData) (r : Reason) : Type 0 where
  pub status : reply.status ≡ 0x9000
  pub made : (a : AppData) → slice_get image.apps r.app ≡ Some a → kind_in a.ac_format reply.body ≡ Some r.made
  pub approved : r.asked ≡ Tc → (r.made ≡ Tc) ↔ IsTrue (passes_tests r)

-- whatever a card of this image has decided and answered, what it tells of a command explains its answer
abbrev pub ReasonsExplain : ImageData → Type 0
ReasonsExplain image =
    (ds : List Decided) (session : List Exchange) (command : List ℕ) (r : Reason) → why_of image ds session command ≡ Some r
    → ExplainsAnswer image (card_reply image ds session command) r
