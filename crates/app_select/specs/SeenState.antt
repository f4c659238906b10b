-- The parts of a state of selection as a contract sees them.
use Rattle.std.specs.Prelude.{⊤, ◌<◌, ◌∷◌}
use Rattle.app_select.specs.Leading.{SearchData, Listed, Final}
use Rattle.app_select.specs.Listed.{most_occurrences}
use Rattle.app_select.specs.SeenCandidate.{seen_candidate}
use Rattle.app_select.specs.declared.search.Asked.{Asked}
use Rattle.app_select.specs.declared.search.Asked.TheVariants as asked
use Rattle.app_select.specs.declared.course.ListTurn.{ListTurn}

abbrev pub seen_course : ListTurn → SearchData
seen_course course = Listed (course.row.row.now ∷ course.later.now) course.turn course.confirm

abbrev pub seen_asked : Asked → SearchData
seen_asked (asked.Listed course) = seen_course course
seen_asked (asked.Final candidate) = Final (seen_candidate candidate)

-- the number of an occurrence is below their most
abbrev pub IsOccurrenceInRange : Asked → Type 0
IsOccurrenceInRange (asked.Listed course) = course.turn < most_occurrences
IsOccurrenceInRange (asked.Final candidate) = ⊤
