-- The lines of a reading are told by their texts: they name the scenario's cards, and their bytes are bytes.
use Rattle.std.proofs.Common.{◌≡◌, ℕ, ◌<◌, Bool, List, [], ◌∷◌, map, Option, Some, None, sym, subst}
use Rattle.std.specs.Prelude.{IfSome}
use Rattle.std.specs.List.{All, flat_map}
use Rattle.std.proofs.lemmas.List.Elements.{All-append, All-cons, All-head, All-nil, All-tail}
use Rattle.ber_tlv.specs.Item.{AreBytes}
use Rattle.emv_dict.specs.declared.ending.Ending.{Ending}
use Rattle.emv_top.proofs.Objects.{all_entries}
use Rattle.env_map.specs.Entries.{Entries, entries_after}
use Rattle.object_lists.specs.CardRead.{ReadCard}
use Rattle.report_text.specs.Told.{card_named, HasLineBytes, IsCardName, IsEndingTold}
use Rattle.report_text.specs.declared.line.Line.{Line}
use Rattle.report_text.specs.declared.line.Line.TheVariants.{End, EndLost, ReadOk, ReadEnded}
use Rattle.scenario_plan.specs.Plan.{ScenarioData, IsScenario}
use Rattle.txn_replay.specs.Named.{AreNamed}
use Rattle.txn_replay.specs.Reading.{ReadReached, start, turned, object_line, read_lines, without_end}
use Rattle.txn_replay.specs.World.{World}
use Rattle.txn_replay.specs.declared.event.Event.TheVariants.{Turn}
use Rattle.txn_replay.proofs.LineLaws.NamesTold.{event_named}

abbrev Named : Line → Type 0
Named line = IsCardName (card_named line)

none : IsCardName []
none = All-nil (λ (c : ℕ). 32 < c)

-- what is shown of lines names what they name
named_shown : (line : Line) → Named line → AreNamed (without_end line)
named_shown (End lane number parts) is = All-nil Named
named_shown (EndLost lane number) is = All-nil Named
named_shown other is = All-cons Named other [] is (All-nil Named)

all_shown : (lines : List Line) → AreNamed lines → AreNamed (flat_map without_end lines)
all_shown [] named = All-nil Named
all_shown (line ∷ lines) named =
    All-append Named (without_end line) (flat_map without_end lines) (named_shown line (All-head Named line lines named))
    (all_shown lines (All-tail Named line lines named))

pub read_named : (s : ScenarioData) → IsScenario s → (n : ℕ) (cs : List Bool) (ls : List Line) (w : World) → ReadReached s n cs ls w → AreNamed ls
read_named s fits _ _ _ _ start = All-nil Named
read_named s fits _ _ _ _ (turned {n} {cs} {c} {ls} {new} {w} {w' = after} before unread step) =
    All-append Named ls (flat_map without_end new) (read_named s fits n cs ls w before)
    (all_shown new (subst AreNamed (sym step.made) (event_named s fits w c (Turn 0))))

-- the lines behind the events name no card
objects_named : (entries : Entries) → AreNamed (map object_line entries)
objects_named [] = All-nil Named
objects_named (entry ∷ entries) = All-cons Named (object_line entry) (map object_line entries) none (objects_named entries)

pub reading_named : (card : Option ReadCard) (ending : Option Ending) → AreNamed (read_lines card ending)
reading_named (Some card) ending =
    All-append Named (map object_line card.entries) (ReadOk ∷ []) (objects_named card.entries) (All-cons Named ReadOk [] none (All-nil Named))
reading_named None None = All-nil Named
reading_named None (Some ending) = All-cons Named (ReadEnded ending) [] none (All-nil Named)

-- a data object's value is of bytes
abbrev pub HasValueBytes : ℕ × List ℕ → Type 0
HasValueBytes entry = AreBytes entry.1

-- as far as they were looked at
abbrev pub FitsSoFar : Entries → Entries → Type 0
FitsSoFar left entries = All HasValueBytes left → All HasValueBytes entries

objects_bytes : (entries : Entries) → All HasValueBytes entries → All HasLineBytes (map object_line entries)
objects_bytes [] all = All-nil HasLineBytes
objects_bytes (entry ∷ entries) all =
    All-cons HasLineBytes (object_line entry) (map object_line entries) (All-head HasValueBytes entry entries all)
    (objects_bytes entries (All-tail HasValueBytes entry entries all))

pub card_bytes : (card : ReadCard) (given : Entries) → given ≡ card.entries → All HasValueBytes given → (o : Option ReadCard) → Some card ≡ o → (ending : Option Ending)
    → All HasLineBytes (read_lines o ending)
card_bytes card given same bytes o is ending =
    subst (λ (x : Option ReadCard). All HasLineBytes (read_lines x ending)) is
    (All-append HasLineBytes (map object_line card.entries) (ReadOk ∷ [])
    (objects_bytes card.entries (subst (λ (es : Entries). All HasValueBytes es) same bytes)) (All-cons HasLineBytes ReadOk [] tt (All-nil HasLineBytes)))

pub ending_bytes : (given : Option Ending) → IfSome given IsEndingTold → (o : Option ReadCard) → None ≡ o → (ending : Option Ending) → given ≡ ending
    → All HasLineBytes (read_lines o ending)
ending_bytes None told o is ending same =
    subst (λ (x : Option ReadCard). All HasLineBytes (read_lines x ending)) is
    (subst (λ (e : Option Ending). All HasLineBytes (read_lines None e)) same (All-nil HasLineBytes))
ending_bytes (Some given) told o is ending same =
    subst (λ (x : Option ReadCard). All HasLineBytes (read_lines x ending)) is
    (subst (λ (e : Option Ending). All HasLineBytes (read_lines None e)) same (All-cons HasLineBytes (ReadEnded given) [] told (All-nil HasLineBytes)))

-- none yet
pub fits_start : (entries : Entries) → FitsSoFar (entries_after None entries) entries
fits_start entries all = subst (λ (es : Entries). All HasValueBytes es) (all_entries entries) all

-- one object more was looked at
pub fits_more : (left rest entries : Entries) (entry : ℕ × List ℕ) → left ≡ entry ∷ rest → HasValueBytes entry → FitsSoFar left entries → FitsSoFar rest entries
fits_more left rest entries entry is bytes so_far later =
    so_far (subst (λ (es : Entries). All HasValueBytes es) (sym is) (All-cons HasValueBytes entry rest bytes later))

-- none is left
pub fits_whole : (left entries : Entries) → left ≡ [] → FitsSoFar left entries → All HasValueBytes entries
fits_whole left entries is so_far = so_far (subst (λ (es : Entries). All HasValueBytes es) (sym is) (All-nil HasValueBytes))
