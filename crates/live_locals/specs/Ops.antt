-- What is asked of the instructions of statements.
use Rattle.wa_types.specs.Syntax.{basic, local_get, local_set, local_tee, Code, done, plain}
use Rattle.run_theory.specs.Flat.{Stmts, no_more, computes, copies, calls, leaps, leaps_if, leaps_by, nests, decides, halts}
use Rattle.run_theory.specs.FlatFits.{IsCallCode}

-- the instruction of a computation is neither a call nor control
abbrev pub IsComputation : Code → Type 0
IsComputation (plain (basic b) done) = Unit {0}
IsComputation (plain (local_get x) done) = Unit {0}
IsComputation (plain (local_set x) done) = Unit {0}
IsComputation (plain (local_tee x) done) = Unit {0}
IsComputation _ = ⊥

-- each instruction is of the kind that its statement has
abbrev pub OpsFit : Stmts → Type 0
OpsFit no_more = Unit {0}
OpsFit (computes op args to rest) = IsComputation op × OpsFit rest
OpsFit (copies to from rest) = OpsFit rest
OpsFit (calls op stack args to rest) = IsCallCode op × OpsFit rest
OpsFit (leaps label rest) = OpsFit rest
OpsFit (leaps_if condition label rest) = OpsFit rest
OpsFit (leaps_by index targets last rest) = OpsFit rest
OpsFit (nests shape body rest) = OpsFit body × OpsFit rest
OpsFit (decides condition a b rest) = OpsFit a × OpsFit b × OpsFit rest
OpsFit (halts rest) = OpsFit rest

-- the first of them holds no others
abbrev pub HoldsNone : Stmts → Type 0
HoldsNone (nests shape body rest) = ⊥
HoldsNone (decides condition a b rest) = ⊥
HoldsNone _ = Unit {0}
