pub mod AloneLemmas
pub mod CallIsNumbered
mod ExitLemmas
pub mod FitLemmas
pub mod FlatNumbers
mod GuardLemmas
pub mod NumberLemmas
pub mod NumberingLemmas
pub mod PieceLemmas
pub mod PutLemmas
pub mod RaiseLemmas
pub mod StmtLemmas
pub mod StmtWeights
pub mod UnitLemmas
mod WrittenUnits
