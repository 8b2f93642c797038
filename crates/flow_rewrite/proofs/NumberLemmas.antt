-- Numbered calls are found by their places.
pub use Rattle.flow_rewrite.proofs.CallIsNumbered.{place_found}
