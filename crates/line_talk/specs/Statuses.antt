-- The exit statuses of a program at lines.
use Rattle.std.specs.Prelude.{ℕ}
use Rattle.line_talk.specs.declared.status.Status.{Status}
use Rattle.line_talk.specs.declared.status.Status.TheVariants.{Done, Refused, Unserved, SourceFailed, SinkFailed, OutOfMemory}

-- the exit status
abbrev pub code_of_status : Status → ℕ
code_of_status Done = 0
code_of_status Refused = 1
code_of_status Unserved = 2
code_of_status SourceFailed = 3
code_of_status SinkFailed = 4
code_of_status OutOfMemory = 5
