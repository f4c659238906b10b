-- The phase is what the last SELECT with file control information, and the exchanges behind it, make of it.
use Rattle.std.proofs.Common.{◌≡◌, ℕ, Bool, true, false, List, [], ◌∷◌, map, slice_get, Option, Some, None, refl, ap, ◌∙◌}
use Rattle.std.specs.Prelude.{◌==◌, if◌then◌else◌}
use Rattle.std.specs.List.{fold, list_any}
use Rattle.std.proofs.lemmas.List.Sums.{fold-append}
use Rattle.apdu_core.specs.Command.{CommandData, command_of}
use Rattle.apdu_core.specs.Response.{ResponseData, response_of}
use Rattle.card_app.specs.Selection.{app_found, directory_asked}
use Rattle.card_app.specs.Session.{Exchange, phase_after_exchange, after_said, after_select, phase_authenticated, phase_behind_first, first_in, is_online_asked, gives_fci, directory_selected, next_phase, phase_of, phase_selected, started, with_cryptogram}
use Rattle.card_cryptogram.specs.Authentication.{told_by}
use Rattle.card_cryptogram.specs.Bodies.{kind_in}
use Rattle.card_cryptogram.specs.declared.phase.First.{First}
use Rattle.card_cryptogram.specs.declared.phase.Phase.{Phase}
use Rattle.card_cryptogram.specs.declared.phase.Phase.TheVariants.{Idle, Directory, Selected, Started, Online, Closed, Done}
use Rattle.card_files.specs.Views.{AppData, ImageData}
use Rattle.card_state.specs.declared.decision.Auth.{Auth}
use Rattle.card_state.specs.declared.decision.Auth.TheVariants.{Absent}
use Rattle.card_sessions.specs.SessionPhase.{SessionTurn, Selects, Opens, Makes, Authenticates, Other, turn_said, turn_of, is_selection, behind_opening, Made, first_turn_made, sent_in, told_request, told_made, phase_told, BeginsIdle, TellsPhase, StaysInDirectory}

module _ (image : ImageData) where
  -- what a turn makes of a phase
  abbrev turned : Phase → SessionTurn → Phase
  turned phase (Selects p2 name) = directory_selected (directory_asked image p2 name) (phase_selected (app_found image.apps phase p2 name) phase)
  turned phase Opens = started phase
  turned phase (Makes filled body) = with_cryptogram image filled body phase
  turned phase (Authenticates auth) = phase_authenticated auth phase
  turned phase Other = phase

  by_tests : (phase : Phase) (c : CommandData) (body : List ℕ) (selects opens makes authenticates shown done failed : Bool)
      → (if selects then (if shown then after_select image phase c else phase)
      else if opens then (if done then started phase else phase)
      else if makes then (if done then with_cryptogram image c.body body phase else phase)
      else if authenticates then
      (if done then phase_authenticated (told_by c.body) phase else if failed then phase_authenticated Absent phase else phase)
      else phase)
      ≡ turned phase
      (if selects then (if shown then Selects c.p2 c.body else Other)
      else if opens then (if done then Opens else Other)
      else if makes then (if done then Makes c.body body else Other)
      else if authenticates then (if done then Authenticates (told_by c.body) else if failed then Authenticates Absent else Other)
      else Other)
  by_tests phase c body true opens makes authenticates true done failed = refl
  by_tests phase c body true opens makes authenticates false done failed = refl
  by_tests phase c body false true makes authenticates shown true failed = refl
  by_tests phase c body false true makes authenticates shown false failed = refl
  by_tests phase c body false false true authenticates shown true failed = refl
  by_tests phase c body false false true authenticates shown false failed = refl
  by_tests phase c body false false false true shown true failed = refl
  by_tests phase c body false false false true shown false true = refl
  by_tests phase c body false false false true shown false false = refl
  by_tests phase c body false false false false shown done failed = refl

  said_is : (phase : Phase) (c : Option CommandData) (r : Option ResponseData) → after_said image phase c r ≡ turned phase (turn_said c r)
  unfolding next_phase
  said_is phase (Some c) (Some r) =
      by_tests phase c r.body (c.ins == 0xA4) (c.ins == 0xA8) (c.ins == 0xAE) (c.ins == 0x82) (gives_fci r.status) (r.status == 0x9000) (r.status == 0x6300)
  said_is phase (Some c) None = refl
  said_is phase None r = refl

  -- the phase behind some turns
  after_turns : Phase → List SessionTurn → Phase
  after_turns phase [] = phase
  after_turns phase (t ∷ ts) = after_turns (turned phase t) ts

  folded : (phase : Phase) (session : List Exchange) → fold (phase_after_exchange image) phase session ≡ after_turns phase (map turn_of session)
  unfolding after_turns
  folded phase [] = refl
  folded phase (x ∷ xs) =
      folded (phase_after_exchange image phase x) xs
      ∙ ap (λ (p : Phase). after_turns p (map turn_of xs)) (said_is phase (command_of x.command) (response_of x.answer))

  idle_stays : (ts : List SessionTurn) → list_any is_selection ts ≡ false → after_turns Idle ts ≡ Idle
  unfolding after_turns
  idle_stays [] none = refl
  idle_stays (Selects p2 name ∷ ts) none = cc
  idle_stays (Opens ∷ ts) none = idle_stays ts none
  idle_stays (Makes filled body ∷ ts) none = idle_stays ts none
  idle_stays (Authenticates auth ∷ ts) none = idle_stays ts none
  idle_stays (Other ∷ ts) none = idle_stays ts none

  directory_stays : (ts : List SessionTurn) → list_any is_selection ts ≡ false → after_turns Directory ts ≡ Directory
  unfolding after_turns
  directory_stays [] none = refl
  directory_stays (Selects p2 name ∷ ts) none = cc
  directory_stays (Opens ∷ ts) none = directory_stays ts none
  directory_stays (Makes filled body ∷ ts) none = directory_stays ts none
  directory_stays (Authenticates auth ∷ ts) none = directory_stays ts none
  directory_stays (Other ∷ ts) none = directory_stays ts none

  closed_stays : (app : ℕ) (ts : List SessionTurn) → list_any is_selection ts ≡ false → after_turns (Closed app) ts ≡ Closed app
  unfolding after_turns
  closed_stays app [] none = refl
  closed_stays app (Selects p2 name ∷ ts) none = cc
  closed_stays app (Opens ∷ ts) none = closed_stays app ts none
  closed_stays app (Makes filled body ∷ ts) none = closed_stays app ts none
  closed_stays app (Authenticates auth ∷ ts) none = closed_stays app ts none
  closed_stays app (Other ∷ ts) none = closed_stays app ts none

  done_stays : (app : ℕ) (first : First) (ts : List SessionTurn) → list_any is_selection ts ≡ false → after_turns (Done app first) ts ≡ Done app first
  unfolding after_turns
  done_stays app first [] none = refl
  done_stays app first (Selects p2 name ∷ ts) none = cc
  done_stays app first (Opens ∷ ts) none = done_stays app first ts none
  done_stays app first (Makes filled body ∷ ts) none = done_stays app first ts none
  done_stays app first (Authenticates auth ∷ ts) none = done_stays app first ts none
  done_stays app first (Other ∷ ts) none = done_stays app first ts none

  online_goes : (app : ℕ) (first : First) (sent : Option Auth) (ts : List SessionTurn) → list_any is_selection ts ≡ false
      → after_turns (Online app first sent) ts ≡ told_request app first sent ts (first_turn_made ts)
  unfolding first_turn_made sent_in after_turns
  online_goes app first sent [] none = refl
  online_goes app first sent (Selects p2 name ∷ ts) none = cc
  online_goes app first sent (Opens ∷ ts) none = online_goes app first sent ts none ∙ same_sent (first_turn_made ts)
    where
      same_sent : (m : Option Made) → told_request app first sent ts m ≡ told_request app first sent (Opens ∷ ts) m
      same_sent None = refl
      same_sent (Some made) = refl
  online_goes app first sent (Makes filled body ∷ ts) none = done_stays app first ts none
  online_goes app first sent (Authenticates auth ∷ ts) none = online_goes app first (Some auth) ts none ∙ same_sent (first_turn_made ts)
    where
      same_sent : (m : Option Made) → told_request app first (Some auth) ts m ≡ told_request app first sent (Authenticates auth ∷ ts) m
      same_sent None = refl
      same_sent (Some made) = refl
  online_goes app first sent (Other ∷ ts) none = online_goes app first sent ts none ∙ same_sent (first_turn_made ts)
    where
      same_sent : (m : Option Made) → told_request app first sent ts m ≡ told_request app first sent (Other ∷ ts) m
      same_sent None = refl
      same_sent (Some made) = refl

  module _ (app : ℕ) (a : AppData) (here : slice_get image.apps app ≡ Some a) where
    begun_is : (filled body : List ℕ) → with_cryptogram image filled body (Started app) ≡ phase_behind_first app a filled body
    begun_is filled body = rw here refl

    begun_goes : (filled body : List ℕ) (request : Bool) (ts : List SessionTurn) → list_any is_selection ts ≡ false
        → after_turns (if request then Online app (first_in a filled body) None else Closed app) ts
        ≡ (if request then told_request app (first_in a filled body) None ts (first_turn_made ts) else Closed app)
    begun_goes filled body true ts none = online_goes app (first_in a filled body) None ts none
    begun_goes filled body false ts none = closed_stays app ts none

    started_goes : (ts : List SessionTurn) → list_any is_selection ts ≡ false → after_turns (Started app) ts ≡ told_made a app (first_turn_made ts)
    unfolding first_turn_made after_turns
    started_goes [] none = refl
    started_goes (Selects p2 name ∷ ts) none = cc
    started_goes (Opens ∷ ts) none = started_goes ts none
    started_goes (Makes filled body ∷ ts) none =
        ap (λ (p : Phase). after_turns p ts) (begun_is filled body)
        ∙ begun_goes filled body (is_online_asked (kind_in a.ac_format body)) ts none
    started_goes (Authenticates auth ∷ ts) none = started_goes ts none
    started_goes (Other ∷ ts) none = started_goes ts none

    selected_goes : (ts : List SessionTurn) → list_any is_selection ts ≡ false → after_turns (Selected app) ts ≡ phase_told a app ts
    unfolding behind_opening after_turns
    selected_goes [] none = refl
    selected_goes (Selects p2 name ∷ ts) none = cc
    selected_goes (Opens ∷ ts) none = started_goes ts none
    selected_goes (Makes filled body ∷ ts) none = selected_goes ts none
    selected_goes (Authenticates auth ∷ ts) none = selected_goes ts none
    selected_goes (Other ∷ ts) none = selected_goes ts none

  pub begins_idle : BeginsIdle image
  unfolding phase_of
  begins_idle session none = folded Idle session ∙ idle_stays (map turn_of session) none

  pub is_told : TellsPhase image
  unfolding phase_of
  is_told before x behind app a (p2, name, turn, other, finds) here none =
      let at : Phase = phase_of image before in
      let chosen : phase_after_exchange image at x ≡ Selected app =
      said_is at (command_of x.command) (response_of x.answer)
      ∙ ap (λ (t : SessionTurn). turned at t) turn
      ∙ ap (λ (o : Option ℕ). directory_selected o (phase_selected (app_found image.apps at p2 name) at)) other
      ∙ ap (λ (o : Option ℕ). phase_selected o at) finds in
      fold-append (phase_after_exchange image) Idle before (x ∷ behind)
      ∙ ap (λ (p : Phase). fold (phase_after_exchange image) p behind) chosen
      ∙ folded (Selected app) behind
      ∙ selected_goes app a here (map turn_of behind) none

  pub in_directory : StaysInDirectory image
  unfolding phase_of
  in_directory before x behind (p2, name, sfi, turn, asked) none =
      let at : Phase = phase_of image before in
      let chosen : phase_after_exchange image at x ≡ Directory =
      said_is at (command_of x.command) (response_of x.answer)
      ∙ ap (λ (t : SessionTurn). turned at t) turn
      ∙ ap (λ (o : Option ℕ). directory_selected o (phase_selected (app_found image.apps at p2 name) at)) asked in
      fold-append (phase_after_exchange image) Idle before (x ∷ behind)
      ∙ ap (λ (p : Phase). fold (phase_after_exchange image) p behind) chosen
      ∙ folded Directory behind
      ∙ directory_stays (map turn_of behind) none
