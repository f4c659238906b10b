-- Reading where its course stands.
use Rattle.std.specs.Prelude.{⊤}
use Rattle.emv_dict.specs.declared.ending.Ending.TheVariants.{Terminated}
use Rattle.emv_dict.specs.declared.ending.Step.TheVariants as step
use Rattle.read_records.specs.declared.reading.CourseStep.{CourseStep}
use Rattle.read_records.specs.declared.reading.CourseStep.TheVariants as course
use Rattle.kernel.specs.declared.stage.OpeningNext.{OpeningNext}
use Rattle.kernel.specs.declared.stage.OpeningNext.TheVariants as next
use Rattle.kernel.specs.declared.stage.AtRead.{AtRead}
use Rattle.kernel.specs.declared.stage.Opening.{Opening}
use Rattle.kernel.specs.declared.stage.Opening.TheVariants as opening

-- application selection, or GET PROCESSING OPTIONS
abbrev pub IsBeforeReading : Opening → Type 0
IsBeforeReading (opening.Directory s) = ⊤
IsBeforeReading (opening.Select s) = ⊤
IsBeforeReading (opening.Initiate s) = ⊤
IsBeforeReading (opening.Read s) = ⊥
IsBeforeReading (opening.Over ending) = ⊥

-- what follows a record, with the course as it is left
abbrev pub next_at : CourseStep → AtRead → OpeningNext
next_at course.Ask at = next.On (opening.Read at)
next_at course.Done at = next.Read at.row
next_at (course.Ended cause) at = next.On (opening.Over (Terminated step.Read cause))
