-- Where an application stands in the card, and how its phase goes on.
use Rattle.std.proofs.Common.{◌≡◌, ℕ, zero, suc, ◌+◌, ◌==◌, ◌||◌, not, Bool, true, false, if◌then◌else◌, IsTrue, IfSome, List, [], ◌∷◌, map, slice_get, Option, Some, None, refl, ap, ◌∙◌}
use Rattle.std.proofs.lemmas.List.Sums.{fold-append}
use Rattle.apdu_core.specs.Command.{CommandData, command_of}
use Rattle.apdu_core.specs.Response.{ResponseData, response_of}
use Rattle.card_app.specs.Session.{Exchange, phase_after_exchange, after_said, next_phase, phase_of, phase_authenticated}
use Rattle.card_cryptogram.specs.Authentication.{told_by}
use Rattle.card_cryptogram.specs.declared.phase.First.{First}
use Rattle.card_cryptogram.specs.declared.phase.Phase.{Phase}
use Rattle.card_cryptogram.specs.declared.phase.Phase.TheVariants.{Idle, Online}
use Rattle.card_files.specs.Views.{AppData, ImageData}
use Rattle.card_state.specs.Decisions.{Decided}
use Rattle.card_state.specs.declared.decision.Auth.{Auth}
use Rattle.card_state.specs.declared.decision.Auth.TheVariants.{Absent}
use Rattle.card_state.specs.Totals.{app_totals, own_decisions, apps_totals, totals}
use Rattle.card_state.specs.declared.state.AppState.{AppState}
use Rattle.dialogue_laws.specs.Cards.{Now, says, goes}
use Rattle.dialogue_laws.specs.UncutPurchase.{moves_on, IsPlain}
use Rattle.dialogue_laws.proofs.Answers.{state_at, phase_at}

-- the state of an application at its place
pub record HasState (image : ImageData) (now : Now) (app : ℕ) : Type 0 where
  pub state : AppState
  pub there : slice_get (state_at image now).apps.items app ≡ Some state

pub among : (first : ℕ) (apps : List AppData) (ds : List Decided) (app : ℕ) (a : AppData) → slice_get apps app ≡ Some a
    → (s : AppState) × (slice_get (apps_totals first (map (λ a. a.opening) apps) ds) app ≡ Some s)
unfolding apps_totals
among first [] ds zero a is = absurd (cc is)
among first [] ds (suc app) a is = absurd (cc is)
among first (x ∷ apps) ds zero a is = (app_totals x.opening (own_decisions first ds), refl)
among first (x ∷ apps) ds (suc app) a is = among (first + 1) apps ds app a is

-- each application of the image has one, whatever the card decided
pub has_state : (image : ImageData) (now : Now) (app : ℕ) (a : AppData) → slice_get image.apps app ≡ Some a → HasState image now app
unfolding totals
has_state image now app a is = let found = among 0 image.apps now.kept app a is in record { state = found.0; there = found.1 }

-- a request to go online was made, and the second cryptogram was not
pub record IsOnline (image : ImageData) (app : ℕ) (now : Now) : Type 0 where
  pub first : First
  pub sent : Option Auth
  pub is : phase_at image now ≡ Online app first sent

-- the phase behind a command
phase_after : (image : ImageData) (now : Now) (command : List ℕ)
    → phase_at image (goes image now command) ≡ after_said image (phase_at image now) (command_of command) (response_of (says image now command))
unfolding phase_of
phase_after image now command =
    let x : Exchange = record { command = command; answer = says image now command } in
    fold-append (phase_after_exchange image) Idle now.session (x ∷ [])

none_of : (a b c : Bool) → IsTrue (not (a || (b || c))) → (a ≡ false) × (b ≡ false) × (c ≡ false)
none_of true b c is = absurd (cc is)
none_of false true c is = absurd (cc is)
none_of false false true is = absurd (cc is)
none_of false false false is = (refl, refl, refl)

-- a plain command leaves the second cryptogram to come
stays_said : (image : ImageData) (app : ℕ) (first : First) (sent : Option Auth) (c : CommandData) (body : List ℕ) (status : ℕ) → IsTrue (not (moves_on c.ins))
    → (now_sent : Option Auth) × (next_phase image (Online app first sent) c body status ≡ Online app first now_sent)
unfolding next_phase
stays_said image app first sent c body status plain =
    let tests = none_of (c.ins == 0xA4) (c.ins == 0xA8) (c.ins == 0xAE) plain in
    rw (tests.0, tests.1, tests.2) (by (c.ins == 0x82) (status == 0x9000) (status == 0x6300))
  where
    by : (authenticates right wrong : Bool) → (now_sent : Option Auth)
        × ((if authenticates then (if right then phase_authenticated (told_by c.body) (Online app first sent) else if wrong then phase_authenticated Absent (Online app first sent) else Online app first sent) else Online app first sent)
        ≡ Online app first now_sent)
    by true true wrong = (Some (told_by c.body), refl)
    by true false true = (Some Absent, refl)
    by true false false = (sent, refl)
    by false right wrong = (sent, refl)

stays_after : (image : ImageData) (app : ℕ) (first : First) (sent : Option Auth) (command : Option CommandData) (answer : Option ResponseData) → IfSome command (λ c. IsTrue (not (moves_on c.ins)))
    → (now_sent : Option Auth) × (after_said image (Online app first sent) command answer ≡ Online app first now_sent)
stays_after image app first sent None answer plain = (sent, refl)
stays_after image app first sent (Some c) None plain = (sent, refl)
stays_after image app first sent (Some c) (Some r) plain = stays_said image app first sent c r.body r.status plain

pub stays_online : (image : ImageData) (app : ℕ) (now : Now) (command : List ℕ) → IsPlain command → IsOnline image app now → IsOnline image app (goes image now command)
stays_online image app now command plain at =
    let next = stays_after image app at.first at.sent (command_of command) (response_of (says image now command)) plain in
    record {
      first = at.first;
      sent = next.0;
      is = phase_after image now command ∙ ap (λ (p : Phase). after_said image p (command_of command) (response_of (says image now command))) at.is ∙ next.1;
    }
