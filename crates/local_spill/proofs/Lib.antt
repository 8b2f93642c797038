pub mod Bodies
pub mod Counts
pub mod Grown
pub mod LayLemmas
pub mod PutLemmas
