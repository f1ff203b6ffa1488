pub use Rattle.cpt_edits.proofs.Takes.{revised_at, not_there}
