pub mod JoinedOriginals
