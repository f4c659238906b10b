pub mod LaneLoop
