-- Lemmas on a lane that shares no card and no account: it runs as if it were alone.
pub mod OwnPieces
pub mod OwnLines
pub mod LaneAlone
pub mod OwnTurns
pub mod OwnSettlements
pub mod OwnAudits
pub mod OwnRuns
pub mod OwnReports
pub mod OwnEvents
pub mod LaneRuns
