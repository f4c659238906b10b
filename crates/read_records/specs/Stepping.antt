-- What comes next in the place of a course.
use Rattle.std.specs.Prelude.{List}
use Rattle.read_records.specs.Afl.{RecordPlace}
use Rattle.read_records.specs.declared.reading.RecordsNext.{RecordsNext}
use Rattle.read_records.specs.declared.reading.RecordsNext.TheVariants as course
use Rattle.read_records.specs.declared.reading.CourseStep.{CourseStep}
use Rattle.read_records.specs.declared.reading.CourseStep.TheVariants as step

-- with the records that are left
abbrev pub next_with : CourseStep → List RecordPlace → RecordsNext
next_with step.Ask left = course.Ask left
next_with step.Done left = course.Done
next_with (step.Ended cause) left = course.Ended cause
