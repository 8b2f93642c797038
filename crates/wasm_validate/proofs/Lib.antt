pub mod ExpressionLemmas
pub mod FuncLemmas
pub mod NameLemmas
pub mod OrderedNames
pub mod OutsideLemmas
pub mod WalkUses
pub mod Walks
