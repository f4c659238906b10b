-- A run that goes on, event by event, and one that stops.
use Rattle.std.proofs.Common.{◌≡◌, ℕ, ◌+◌, Bool, List, [], ◌++◌, length, refl, sym, ap, ◌∙◌, subst, inl, inr, append_assoc}
use Rattle.std.proofs.lemmas.List.{append-nil}
use Rattle.std.specs.List.{All}
use Rattle.std.proofs.lemmas.List.Elements.{All-append, All-nil, All-take}
use Rattle.std.proofs.Math.Seq.{take-append_seam}
use Rattle.std.specs.declared.option.Option.{Option}
use Rattle.std.specs.Io.KnownBytes.{Appends}
use Rattle.emv_ports.specs.Growth.{AppendsFront}
use Rattle.emv_ports.proofs.Growth.{Appends-none, Appends-more}
use Rattle.emv_top.specs.Answers.{Completes}
use Rattle.emv_top.specs.RunsSoFar.{RunDefinition, Ends, IsRunSoFar, IsOneLess, RunWasStopped, Makes, IsThere, Breaks, MakesNone}
use Rattle.emv_top.specs.Texts.{text_of_lines}
use Rattle.emv_top.proofs.Writing.{text_of_lines-append}
use Rattle.report_text.specs.Told.{HasLineBytes}
use Rattle.report_text.specs.declared.line.Line.{Line}
use Rattle.scenario_plan.specs.Plan.{ScenarioData}
use Rattle.txn_replay.specs.Steps.{Step}
use Rattle.txn_replay.specs.World.{World}
use Rattle.txn_replay.specs.declared.event.Event.{Event}
use Rattle.txn_replay.specs.Seen.{WorldSeen, WorldStands, EventHasLed}

-- the start of a run
pub begins : (course : RunDefinition) (holds : World → Type 0) (w : World) (held : Option (List ℕ)) → course 0 [] [] w → holds w → IsRunSoFar course holds held held
begins course holds w held reached stands = record {
  count = 0;
  choices = [];
  lines = [];
  world = w;
  reached = reached;
  stands = stands;
  bytes = All-nil HasLineBytes;
  written = Appends-none held;
}

-- on to another place, without an event
pub passes : (here there : RunDefinition) (holds : World → Type 0) (first held : Option (List ℕ))
    → ((n : ℕ) (cs : List Bool) (ls : List Line) (w : World) → here n cs ls w → holds w → there n cs ls w)
    → IsRunSoFar here holds first held → IsRunSoFar there holds first held
passes here there holds first held on far = record {
  count = far.count;
  choices = far.choices;
  lines = far.lines;
  world = far.world;
  reached = on far.count far.choices far.lines far.world far.reached far.stands;
  stands = far.stands;
  bytes = far.bytes;
  written = far.written;
}

module _ (s : ScenarioData) (e : Event) (shown : List Line → List Line) (keeps_bytes : (lines : List Line) → All HasLineBytes lines → All HasLineBytes (shown lines))
    (v after : WorldSeen) (told : after.scenario ≡ s) where
  step_of : (w : World) (lines : List Line) (goes : EventHasLed after w e lines) → Step s w e goes.choices lines goes.after
  step_of w lines goes = subst (λ (t : ScenarioData). Step t w e goes.choices lines goes.after) told goes.step

  -- one event more
  pub more : (here there : RunDefinition) (first old new : Option (List ℕ))
      → ((n : ℕ) (cs c : List Bool) (ls made : List Line) (w w' : World) → here n cs ls w → WorldStands v w → IsThere s w e → Step s w e c made w'
      → there (n + 1) (cs ++ c) (ls ++ shown made) w')
      → ((w : World) → WorldStands v w → IsThere s w e)
      → ((n : ℕ) (cs : List Bool) (ls : List Line) (w : World) → here n cs ls w → WorldStands v w → Makes after w e shown old new)
      → IsRunSoFar here (WorldStands v) first old → IsRunSoFar there (WorldStands after) first new
  more here there first old new grows is_there makes far =
      let made : Makes after far.world e shown old new = makes far.count far.choices far.lines far.world far.reached far.stands in
      record {
        count = far.count + 1;
        choices = far.choices ++ made.goes.choices;
        lines = far.lines ++ shown made.lines;
        world = made.goes.after;
        reached = grows far.count far.choices made.goes.choices far.lines made.lines far.world made.goes.after far.reached far.stands
            (is_there far.world far.stands) (step_of far.world made.lines made.goes);
        stands = made.goes.stands;
        bytes = All-append HasLineBytes far.lines (shown made.lines) far.bytes (keeps_bytes made.lines made.bytes);
        written = subst (λ (t : List ℕ). Appends first new t) (sym (text_of_lines-append far.lines (shown made.lines)))
            (Appends-more first old new (text_of_lines far.lines) (text_of_lines (shown made.lines)) far.written made.written);
      }

  -- an event of which a front of the lines was written, or none that was made
  module _ (here : RunDefinition) (ends : Ends) (first old new : Option (List ℕ))
      (stays : (n : ℕ) (cs : List Bool) (ls : List Line) (w : World) → here n cs ls w → (tail : List Line) × ends n cs ls w tail)
      (grows : (n : ℕ) (cs c : List Bool) (ls made : List Line) (w w' : World) → here n cs ls w → WorldStands v w → IsThere s w e → Step s w e c made w'
      → (tail : List Line) × ends (n + 1) (cs ++ c) (ls ++ shown made) w' tail)
      (far : IsRunSoFar here (WorldStands v) first old) where
    now : (tail : List Line) × ends far.count far.choices far.lines far.world tail
    now = stays far.count far.choices far.lines far.world far.reached

    breaks : Breaks s after far.world e shown old new → RunWasStopped s shown ends (WorldStands after) first new
    breaks made =
        let next : (tail : List Line) × ends (far.count + 1) (far.choices ++ made.goes.choices) (far.lines ++ shown made.lines) made.goes.after tail =
        grows far.count far.choices made.goes.choices far.lines made.lines far.world made.goes.after far.reached far.stands
        made.there (step_of far.world made.lines made.goes) in
        record {
          count = far.count + 1;
          choices = far.choices ++ made.goes.choices;
          before = far.lines;
          last = shown made.lines;
          tail = next.0;
          world = made.goes.after;
          reached = next.1;
          stands = made.goes.stands;
          bytes = All-append HasLineBytes far.lines (shown made.lines) far.bytes (keeps_bytes made.lines made.bytes);
          one_less = inr (record {
            number = far.count;
            earlier = far.choices;
            world = far.world;
            tail = now.0;
            reached = now.1;
            event = e;
            taken = made.goes.choices;
            made = made.lines;
            step = step_of far.world made.lines made.goes;
            next = refl;
            joined = refl;
            told = refl;
          });
          front = made.front.so_far.done;
          rest = made.front.rest ++ text_of_lines next.0;
          splits = sym (append_assoc made.front.so_far.done made.front.rest (text_of_lines next.0))
              ∙ ap (λ (t : List ℕ). t ++ text_of_lines next.0) made.front.so_far.splits;
          written = Appends-more first old new (text_of_lines far.lines) made.front.so_far.done far.written made.front.so_far.written;
        }

    keeps : WorldStands after far.world × (new ≡ old) → RunWasStopped s shown ends (WorldStands after) first new
    keeps kept = record {
      count = far.count;
      choices = far.choices;
      before = far.lines;
      last = [];
      tail = now.0;
      world = far.world;
      reached = subst (λ (ls : List Line). ends far.count far.choices ls far.world now.0) (sym (append-nil far.lines)) now.1;
      stands = kept.0;
      bytes = subst (λ (ls : List Line). All HasLineBytes ls) (sym (append-nil far.lines)) far.bytes;
      one_less = inl refl;
      front = [];
      rest = text_of_lines now.0;
      splits = refl;
      written = subst (λ (t : List ℕ). Appends first new t) (sym (append-nil (text_of_lines far.lines)))
          (subst (λ (o : Option (List ℕ)). Appends first o (text_of_lines far.lines)) (sym kept.1) far.written);
    }

    fails_by : MakesNone s after far.world e shown old new → RunWasStopped s shown ends (WorldStands after) first new
    fails_by (inl made) = breaks made
    fails_by (inr kept) = keeps kept

    pub halts : ((n : ℕ) (cs : List Bool) (ls : List Line) (w : World) → here n cs ls w → WorldStands v w → MakesNone s after w e shown old new)
        → RunWasStopped s shown ends (WorldStands after) first new
    halts fails = fails_by (fails far.count far.choices far.lines far.world far.reached far.stands)

-- the lines behind the events
module _ (here : RunDefinition) (tail : World → List Line) (holds : World → Type 0) (first old new : Option (List ℕ)) (far : IsRunSoFar here holds first old) where
  pub completes : (runs : List Line → World → Type 0)
      → ((n : ℕ) (cs : List Bool) (ls : List Line) (w : World) → here n cs ls w → holds w → All HasLineBytes ls → runs (ls ++ tail w) w)
      → ((w : World) → holds w → Appends old new (text_of_lines (tail w))) → Completes runs holds first new
  completes runs whole behind = record {
    lines = far.lines ++ tail far.world;
    world = far.world;
    run = whole far.count far.choices far.lines far.world far.reached far.stands far.bytes;
    stands = far.stands;
    written = subst (λ (t : List ℕ). Appends first new t) (sym (text_of_lines-append far.lines (tail far.world)))
        (Appends-more first old new (text_of_lines far.lines) (text_of_lines (tail far.world)) far.written (behind far.world far.stands));
  }

  pub stops_behind : (s : ScenarioData) (shown : List Line → List Line) (ends : Ends)
      → ((n : ℕ) (cs : List Bool) (ls : List Line) (w : World) → here n cs ls w → holds w → ends n cs ls w (tail w))
      → ((w : World) → holds w → AppendsFront old new (text_of_lines (tail w))) → RunWasStopped s shown ends holds first new
  stops_behind s shown ends all behind =
      let front : AppendsFront old new (text_of_lines (tail far.world)) = behind far.world far.stands in
      record {
        count = far.count;
        choices = far.choices;
        before = far.lines;
        last = [];
        tail = tail far.world;
        world = far.world;
        reached = subst (λ (ls : List Line). ends far.count far.choices ls far.world (tail far.world)) (sym (append-nil far.lines))
            (all far.count far.choices far.lines far.world far.reached far.stands);
        stands = far.stands;
        bytes = subst (λ (ls : List Line). All HasLineBytes ls) (sym (append-nil far.lines)) far.bytes;
        one_less = inl refl;
        front = front.so_far.done;
        rest = front.rest;
        splits = front.so_far.splits;
        written = Appends-more first old new (text_of_lines far.lines) front.so_far.done far.written front.so_far.written;
      }

-- of earlier lines
first_bytes : (xs ys : List Line) → All HasLineBytes (xs ++ ys) → All HasLineBytes xs
first_bytes xs ys all = subst (λ (zs : List Line). All HasLineBytes zs) (take-append_seam xs ys) (All-take HasLineBytes (length xs) (xs ++ ys) all)

-- the run without its last event, told in other words
one_less_with : (s : ScenarioData) (shown : List Line → List Line) (ends others : Ends) (count : ℕ) (choices : List Bool) (before last : List Line) (w : World)
    → ((n : ℕ) (cs : List Bool) (ls : List Line) (v : World) (tail : List Line) → All HasLineBytes ls → ends n cs ls v tail → others n cs ls v tail)
    → All HasLineBytes before → IsOneLess s shown ends count choices before last w → IsOneLess s shown others count choices before last w
one_less_with s shown ends others count choices before last w tells bytes one = record {
  number = one.number;
  earlier = one.earlier;
  world = one.world;
  tail = one.tail;
  reached = tells one.number one.earlier before one.world one.tail bytes one.reached;
  event = one.event;
  taken = one.taken;
  made = one.made;
  step = one.step;
  next = one.next;
  joined = one.joined;
  told = one.told;
}

-- what holds of the world, and how it was reached, in other words
pub stopped_with : (s : ScenarioData) (shown : List Line → List Line) (ends others : Ends) (P Q : World → Type 0) (first held : Option (List ℕ))
    → ((n : ℕ) (cs : List Bool) (ls : List Line) (w : World) (tail : List Line) → All HasLineBytes ls → ends n cs ls w tail → others n cs ls w tail)
    → ((n : ℕ) (cs : List Bool) (ls : List Line) (w : World) (tail : List Line) → ends n cs ls w tail → P w → Q w)
    → RunWasStopped s shown ends P first held → RunWasStopped s shown others Q first held
stopped_with s shown ends others P Q first held tells gives stopped = record {
  count = stopped.count;
  choices = stopped.choices;
  before = stopped.before;
  last = stopped.last;
  tail = stopped.tail;
  world = stopped.world;
  reached = tells stopped.count stopped.choices (stopped.before ++ stopped.last) stopped.world stopped.tail stopped.bytes stopped.reached;
  stands = gives stopped.count stopped.choices (stopped.before ++ stopped.last) stopped.world stopped.tail stopped.reached stopped.stands;
  bytes = stopped.bytes;
  one_less = elim stopped.one_less [
    | inl none ↦ inl none
    | inr one ↦
        inr (one_less_with s shown ends others stopped.count stopped.choices stopped.before stopped.last stopped.world tells
        (first_bytes stopped.before stopped.last stopped.bytes) one)
  ];
  front = stopped.front;
  rest = stopped.rest;
  splits = stopped.splits;
  written = stopped.written;
}

pub completes_with : (runs : List Line → World → Type 0) (P Q : World → Type 0) (old new : Option (List ℕ))
    → ((ls : List Line) (w : World) → runs ls w → P w → Q w) → Completes runs P old new → Completes runs Q old new
completes_with runs P Q old new gives whole = record {
  lines = whole.lines;
  world = whole.world;
  run = whole.run;
  stands = gives whole.lines whole.world whole.run whole.stands;
  written = whole.written;
}
