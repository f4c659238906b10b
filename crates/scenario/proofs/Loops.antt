pub use Rattle.scenario_fields.proofs.Loops.{front_moved}
