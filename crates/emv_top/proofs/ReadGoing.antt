-- The turns of a reading, one by one.
use Rattle.std.proofs.Common.{◌≡◌, ℕ, ◌<◌, ◌≤◌, Bool, true, false, List, [], ◌∷◌, ◌++◌, length, Option, refl, sym, ◌∙◌, subst}
use Rattle.std.specs.Prelude.{IfSome, if◌then◌else◌}
use Rattle.std.specs.Io.KnownBytes.{Appends}
use Rattle.std.specs.List.{All}
use Rattle.std.proofs.lemmas.List.Elements.{All-append, All-cons, All-head, All-nil, All-tail}
use Rattle.emv_ports.specs.Growth.{AppendsFront}
use Rattle.emv_top.specs.Answers.{Completes}
use Rattle.emv_top.specs.RunsSoFar.{IsRunSoFar, ReadOfBytes, RunWasStopped, Makes, MakesNone, ReadsLane, read_tail, shown_lines}
use Rattle.emv_top.specs.Input.{first_purchases}
use Rattle.emv_top.specs.Short.{HasShortObjects}
use Rattle.emv_top.specs.Texts.{text_of_lines}
use Rattle.emv_top.proofs.Going.{more, halts, completes, stops_behind}
use Rattle.emv_top.proofs.ReadRuns.{others_rest, goes_on}
use Rattle.emv_top.proofs.ReadShort.{read_short}
use Rattle.emv_top.proofs.Untorn.{none_ended_yet}
use Rattle.report_text.specs.Told.{HasLineBytes}
use Rattle.report_text.specs.declared.line.Line.{Line}
use Rattle.report_text.specs.declared.line.Line.TheVariants.{End, EndLost}
use Rattle.scenario_plan.specs.Plan.{ScenarioData, IsScenario}
use Rattle.txn_replay.specs.Reading.{ReadReached, turned, is_read, data_at, ending_at, read_lines, without_end, to_read}
use Rattle.txn_replay.specs.Sound.{IsWorldSound, IsIdle}
use Rattle.txn_replay.specs.World.{World, lane_at}
use Rattle.txn_replay.specs.declared.event.Event.TheVariants.{Turn}
use Rattle.txn_replay.specs.Seen.{WorldSeen, WorldStands, turns_left}

-- the lines that a reading shows are some of those that were made
kept_bytes : (line : Line) → HasLineBytes line → All HasLineBytes (without_end line)
kept_bytes (End lane number parts) is = All-nil HasLineBytes
kept_bytes (EndLost lane number) is = All-nil HasLineBytes
kept_bytes other is = All-cons HasLineBytes other [] is (All-nil HasLineBytes)

shown_bytes : (lines : List Line) → All HasLineBytes lines → All HasLineBytes (shown_lines lines)
shown_bytes [] bytes = All-nil HasLineBytes
shown_bytes (line ∷ lines) bytes =
    All-append HasLineBytes (without_end line) (shown_lines lines) (kept_bytes line (All-head HasLineBytes line lines bytes))
    (shown_bytes lines (All-tail HasLineBytes line lines bytes))

abbrev pub ReadFar : ScenarioData → WorldSeen → Option (List ℕ) → Option (List ℕ) → Type 0
ReadFar s v first held = IsRunSoFar (ReadReached s) (WorldStands v) first held

module _ (s : ScenarioData) (v after : WorldSeen) (told : v.scenario ≡ s) (same : after.scenario ≡ v.scenario) (first old new : Option (List ℕ))
    (unread : (w : World) → WorldStands v w → false ≡ is_read v.scenario w) (far : ReadFar s v first old) where
  still_unread : (w : World) → WorldStands v w → is_read s w ≡ false
  still_unread w stands = sym (subst (λ (t : ScenarioData). false ≡ is_read t w) told (unread w stands))

  pub read_more : ((w : World) → WorldStands v w → Makes after w (Turn 0) shown_lines old new) → ReadFar s after first new
  read_more makes =
      more s (Turn 0) shown_lines shown_bytes v after (same ∙ told) (ReadReached s) (ReadReached s) first old new
      (λ n cs c ls made w next reached stands there step. turned reached (still_unread w stands) step) (λ w stands. tt) (λ n cs ls w reached. makes w) far

  pub read_cut : ((w : World) → WorldStands v w → MakesNone v.scenario after w (Turn 0) shown_lines old new) → RunWasStopped s shown_lines (ReadsLane s) (WorldStands after) first new
  read_cut fails =
      halts s (Turn 0) shown_lines shown_bytes v after (same ∙ told) (ReadReached s) (ReadsLane s) first old new (λ n cs ls w reached. (read_tail s w, (reached, refl)))
      (λ n cs c ls made w next reached stands there step. (read_tail s next, (turned reached (still_unread w stands) step, refl))) far
      (λ n cs ls w reached. subst (λ (t : ScenarioData). (w : World) → WorldStands v w → MakesNone t after w (Turn 0) shown_lines old new) told fails w)

  -- the lane goes on, so fewer turns are left
  pub read_nearer : (whole : ScenarioData) → s ≡ to_read whole → IsScenario s → 1 ≤ length (first_purchases s.lanes) → (went : Bool)
      → (went ≡ true → turns_left after < turns_left v) → (went ≡ false → (w : World) → WorldStands v w → IsIdle v.scenario w 0)
      → turns_left after < turns_left v
  read_nearer whole same_read is some true nearer idle = nearer refl
  read_nearer whole same_read is some false nearer idle =
      let sound : IsWorldSound s far.world = subst (λ (t : ScenarioData). IsWorldSound t far.world) told far.stands.sound in
      let waits : IsIdle s far.world 0 = subst (λ (t : ScenarioData). IsIdle t far.world 0) told (idle refl far.world far.stands) in
      let none : (lane_at far.world 0).ended ≡ [] =
      none_ended_yet whole far.count far.choices far.lines far.world
      (subst (λ (t : ScenarioData). ReadReached t far.count far.choices far.lines far.world) same_read far.reached)
      (subst (λ (t : ScenarioData). is_read t far.world ≡ false) same_read (still_unread far.world far.stands)) in
      absurd (goes_on s far.world sound (others_rest s far.count far.choices far.lines far.world far.reached) is some none waits)

module _ (s : ScenarioData) (v : WorldSeen) (told : v.scenario ≡ s) (first old new : Option (List ℕ)) (far : ReadFar s v first old) where
  pub short_now : (w : World) × WorldStands v w × IfSome (data_at v.scenario w 0) HasShortObjects
  short_now = (
    far.world,
    far.stands,
    subst (λ (t : ScenarioData). IfSome (data_at t far.world 0) HasShortObjects) (sym told) (read_short s far.count far.choices far.lines far.world far.reached),
  )

  module _ (read : (w : World) → WorldStands v w → true ≡ is_read v.scenario w) where
    is_read_now : (w : World) → WorldStands v w → is_read s w ≡ true
    is_read_now w stands = sym (subst (λ (t : ScenarioData). true ≡ is_read t w) told (read w stands))

    tail_now : (w : World) → WorldStands v w → read_lines (data_at s w 0) (ending_at w 0) ≡ read_tail s w
    tail_now w stands = by (is_read s w) (is_read_now w stands)
      where
        by : (b : Bool) → b ≡ true → read_lines (data_at s w 0) (ending_at w 0) ≡ (if b then read_lines (data_at s w 0) (ending_at w 0) else [])
        by true is = refl
        by false is = cc

    pub read_whole : (whole : ScenarioData) → s ≡ to_read whole
        → ((w : World) → WorldStands v w → All HasLineBytes (read_lines (data_at v.scenario w 0) (ending_at w 0)))
        → ((w : World) → WorldStands v w → Appends old new (text_of_lines (read_lines (data_at v.scenario w 0) (ending_at w 0))))
        → Completes (ReadOfBytes whole) (WorldStands v) first new
    read_whole whole same tail_bytes behind =
        completes (ReadReached s) (λ w. read_lines (data_at s w 0) (ending_at w 0)) (WorldStands v) first old new far (ReadOfBytes whole)
        (λ n cs ls w reached stands bytes. (
          record {
            count = n;
            choices = cs;
            reported = ls;
            reached = subst (λ (t : ScenarioData). ReadReached t n cs ls w) same reached;
            read = subst (λ (t : ScenarioData). is_read t w ≡ true) same (is_read_now w stands);
            whole = subst (λ (t : ScenarioData). ls ++ read_lines (data_at s w 0) (ending_at w 0) ≡ ls ++ read_lines (data_at t w 0) (ending_at w 0)) same refl;
          },
          All-append HasLineBytes ls (read_lines (data_at s w 0) (ending_at w 0)) bytes
              (subst (λ (t : ScenarioData). All HasLineBytes (read_lines (data_at t w 0) (ending_at w 0))) told (tail_bytes w stands)),
        ))
        (subst (λ (t : ScenarioData). (w : World) → WorldStands v w → Appends old new (text_of_lines (read_lines (data_at t w 0) (ending_at w 0)))) told behind)

    pub read_stops : ((w : World) → WorldStands v w → AppendsFront old new (text_of_lines (read_lines (data_at v.scenario w 0) (ending_at w 0))))
        → RunWasStopped s shown_lines (ReadsLane s) (WorldStands v) first new
    read_stops behind =
        stops_behind (ReadReached s) (λ w. read_lines (data_at s w 0) (ending_at w 0)) (WorldStands v) first old new far s shown_lines (ReadsLane s)
        (λ n cs ls w reached stands. (reached, tail_now w stands))
        (subst (λ (t : ScenarioData). (w : World) → WorldStands v w → AppendsFront old new (text_of_lines (read_lines (data_at t w 0) (ending_at w 0)))) told behind)
