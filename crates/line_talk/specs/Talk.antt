-- A talk, by the status that it ends with: which lines were read, and how far their answers were written.
use Rattle.std.specs.Prelude.{◌≡◌, ◌⊎◌, ◌-◌, ◌^◌, ℕ, true, false, List, [], ◌∷◌, ◌++◌, length, codes, Option, Some}
use Rattle.std.specs.Io.KnownBytes.{Appends, Consumes}
use Rattle.emv_ports.specs.Causes.{Rose}
use Rattle.emv_ports.specs.Growth.{AppendsFront}
use Rattle.line_talk.specs.Coming.{Comes, IsUnbroken, OfFirstLine}
use Rattle.line_talk.specs.Preamble.{IsDocument, NoDocument}
use Rattle.line_talk.specs.Turns.{Opening, Turn, answers_of, lines_spoken, may_end, onward_behind}
use Rattle.line_talk.specs.declared.line.Came.TheVariants as came
use Rattle.line_talk.specs.declared.party.Onward.{Onward}
use Rattle.line_talk.specs.declared.party.Onward.TheVariants.{Awaits, Rests, Over, Stuck}
use Rattle.line_talk.specs.declared.status.Status.{Status}
use Rattle.line_talk.specs.declared.status.Status.TheVariants.{Done, Refused, Unserved, SourceFailed, SinkFailed, OutOfMemory}

-- the answer to what is no line of a talk
abbrev pub other_line : List ℕ
other_line = codes "?" ++ 10 ∷ []

-- what a source had first and has left, and what a sink held first and holds
pub record Sides : Type 0 where
  pub first : Option (List ℕ)
  pub left : Option (List ℕ)
  pub before : Option (List ℕ)
  pub held : Option (List ℕ)

-- a last text was written, which is this status; or the sink failed in it
abbrev pub WritesLast : Status → Status → Option (List ℕ) → Option (List ℕ) → List ℕ → Type 0
WritesLast wanted status before held text = ((status ≡ wanted) × Appends before held text) ⊎ ((status ≡ SinkFailed) × AppendsFront before held text)

-- these lines were read, and the opening and the answer to each were written
pub record HasTalked (Talks : List Turn → Type 0) (opening : Opening) (first between before written : Option (List ℕ)) (turns : List Turn) : Type 0 where
  pub talks : Talks turns
  pub taken : Consumes first between (lines_spoken turns)
  pub told : Appends before written (opening.text ++ answers_of turns)

-- a talk that is over by what was answered last
abbrev pub EndsWith : Onward → Status → Type 0
EndsWith Awaits status = ⊥
EndsWith Rests status = ⊥
EndsWith Over status = status ≡ Done
EndsWith Stuck status = status ≡ Unserved

-- no line follows where one has to: more bytes than a line has, or the end while a line is awaited; or as many lines were
-- answered as are counted
pub data LacksLine (onward : Onward) (turns : List Turn) (between : Option (List ℕ)) : Type 0 where
  TooLong : (later : Option (List ℕ)) (text : List ℕ) → Comes came.Long between later text → LacksLine onward turns between
  NoneAwaited : (later : Option (List ℕ)) (text : List ℕ) → Comes came.End between later text → may_end onward ≡ false → LacksLine onward turns between
  TooMany : length turns ≡ 2 ^ 64 - 1 → LacksLine onward turns between

-- how a talk ends with each status
pub data TalkEnds (Talks : List Turn → Type 0) (opening : Opening) (s : Sides) (status : Status) : Type 0 where
  -- the sink failed in what is said first
  OpeningCut : status ≡ SinkFailed → s.left ≡ s.first → AppendsFront s.before s.held opening.text → TalkEnds Talks opening s status
  -- the party said that it is over, or that it doesn't go on behind such a line
  IsOver : (turns : List Turn) → HasTalked Talks opening s.first s.left s.before s.held turns → EndsWith (onward_behind opening.onward turns) status
      → TalkEnds Talks opening s status
  -- the lines are at their end; what stands behind the last newline isn't answered
  AtEnd : (turns : List Turn) (between : Option (List ℕ)) (rest : List ℕ) → HasTalked Talks opening s.first between s.before s.held turns
      → Comes came.End between s.left rest → may_end (onward_behind opening.onward turns) ≡ true → status ≡ Done → TalkEnds Talks opening s status
  -- what came is no line of a talk, and is answered so
  NoLine : (turns : List Turn) (between written : Option (List ℕ)) → HasTalked Talks opening s.first between s.before written turns
      → LacksLine (onward_behind opening.onward turns) turns between → WritesLast Unserved status written s.held other_line → TalkEnds Talks opening s status
  -- the source failed within a line; of what it has left nothing is known
  SourceGone : (turns : List Turn) (between later : Option (List ℕ)) (begun : List ℕ) → HasTalked Talks opening s.first between s.before s.held turns
      → Consumes between later begun → IsUnbroken begun → status ≡ SourceFailed → TalkEnds Talks opening s status
  -- the sink failed in the answer to the last line that was read
  AnswerCut : (turns : List Turn) (turn : Turn) (written : Option (List ℕ)) → Talks (turns ++ turn ∷ []) → Consumes s.first s.left (lines_spoken (turns ++ turn ∷ []))
      → Appends s.before written (opening.text ++ answers_of turns) → AppendsFront written s.held turn.answer → status ≡ SinkFailed → TalkEnds Talks opening s status
  -- there was no memory to answer the last line that was read
  Unanswered : (turns : List Turn) (between : Option (List ℕ)) (line : List ℕ) → HasTalked Talks opening s.first between s.before s.held turns
      → Comes came.Line between s.left line → status ≡ OutOfMemory → TalkEnds Talks opening s status

-- what a program at lines does: its words ask for nobody; and with a document, the fault's line that refuses it, that no party in it
-- is asked for, and whose talk follows
pub record Programme : Type 1 where
  pub Unasked : Type 0
  pub Refuses : List ℕ → Option (List ℕ) → Type 0
  pub Lacks : List ℕ → Type 0
  pub Talks : List ℕ → Opening → List Turn → Type 0

-- the line of a fault, where it has one, was written; or there was no memory for it
pub data WritesFault (fault : Option (List ℕ)) (status : Status) (before held : Option (List ℕ)) : Type 0 where
  Told : (line : List ℕ) → fault ≡ Some line → WritesLast Refused status before held line → WritesFault fault status before held
  Untold : status ≡ OutOfMemory → held ≡ before → WritesFault fault status before held

-- how a program at lines ends behind its document
pub data EndsDocument (programme : Programme) (bytes : List ℕ) (s : Sides) (status : Status) : Type 0 where
  -- the document is refused, and nothing more is read
  IsRefused : (fault : Option (List ℕ)) → programme.Refuses bytes fault → s.left ≡ s.first → WritesFault fault status s.before s.held
      → EndsDocument programme bytes s status
  -- no party in it is asked for, and nothing more is read
  IsLacking : programme.Lacks bytes → s.left ≡ s.first → WritesLast Unserved status s.before s.held other_line → EndsDocument programme bytes s status
  -- its party talks
  HasServed : (opening : Opening) → TalkEnds (programme.Talks bytes opening) opening s status → EndsDocument programme bytes s status

-- how a program at lines ends with each status
pub data Served (programme : Programme) (s : Sides) (status : Status) : Type 0 where
  -- its words ask for nobody, and nothing is read
  NotAsked : programme.Unasked → s.left ≡ s.first → WritesLast Unserved status s.before s.held other_line → Served programme s status
  -- the source failed before the document was whole, or there was no memory for it
  Unread : (status ≡ SourceFailed) ⊎ (status ≡ OutOfMemory) → s.held ≡ s.before → Served programme s status
  -- no document stands first
  NoneFirst : OfFirstLine NoDocument s.first → WritesLast Unserved status s.before s.held other_line → Served programme s status
  -- a document was read
  HasDocument : (bytes : List ℕ) (between : Option (List ℕ)) → IsDocument s.first between bytes
      → EndsDocument programme bytes (record { first = between; left = s.left; before = s.before; held = s.held }) status → Served programme s status

-- the count of a source's faults over one call, by its status: it rises for SourceFailed alone
abbrev pub TalkSourceCount : ℕ → ℕ → Status → Type 0
TalkSourceCount before now Done = now ≡ before
TalkSourceCount before now Refused = now ≡ before
TalkSourceCount before now Unserved = now ≡ before
TalkSourceCount before now SourceFailed = Rose before now
TalkSourceCount before now SinkFailed = now ≡ before
TalkSourceCount before now OutOfMemory = now ≡ before

-- the count of a sink's faults: it rises for SinkFailed alone
abbrev pub TalkSinkCount : ℕ → ℕ → Status → Type 0
TalkSinkCount before now Done = now ≡ before
TalkSinkCount before now Refused = now ≡ before
TalkSinkCount before now Unserved = now ≡ before
TalkSinkCount before now SourceFailed = now ≡ before
TalkSinkCount before now SinkFailed = Rose before now
TalkSinkCount before now OutOfMemory = now ≡ before

-- the words of a program that is asked for nobody
abbrev pub no_programme : Programme
no_programme = record { Unasked = Unit {0}; Refuses = λ bytes line. ⊥; Lacks = λ bytes. ⊥; Talks = λ bytes opening turns. ⊥ }
