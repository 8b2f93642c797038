pub mod Changes
pub mod Named
pub mod NotedPlaces
pub mod Orderly
