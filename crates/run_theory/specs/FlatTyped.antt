-- Statements between which no operand stands: each takes no operands to none.
use Rattle.std.specs.Prelude.{List, [], ◌∷◌, Option, None}
use Rattle.wa_types.specs.declared.values.ValType.{ValType}
use Rattle.wa_types.specs.declared.values.ValType.TheVariants.{I32}
use Rattle.wa_types.specs.Syntax.{local_set, br, br_if, br_table, done, plain}
use Rattle.wa_types.specs.Typing.{Around, Types}
use Rattle.run_theory.specs.Flat.{Stmts, no_more, computes, copies, calls, leaps, leaps_if, leaps_by, nests, decides, halts, followed_by, got, all_got, set_to, slots_got, last_of}

-- each statement takes no operands to none
abbrev pub StmtsTyped : Around → List (Option ValType) → Stmts → Type 0
StmtsTyped c ls no_more = Unit {0}
StmtsTyped c ls (computes op args to rest) = Types c ls (all_got args (followed_by op (set_to to done))) [] [] × StmtsTyped c ls rest
StmtsTyped c ls (copies to from rest) = Types c ls (got from (plain (local_set to) done)) [] [] × StmtsTyped c ls rest
StmtsTyped c ls (calls op stack args to rest) = Types c ls (slots_got (last_of args stack) (followed_by op (set_to to done))) [] [] × StmtsTyped c ls rest
StmtsTyped c ls (leaps l rest) = Types c ls (plain (br l) done) [] [] × StmtsTyped c ls rest
StmtsTyped c ls (leaps_if o l rest) = Types c ls (got o (plain (br_if l) done)) [] [] × StmtsTyped c ls rest
StmtsTyped c ls (leaps_by o labels last rest) = Types c ls (got o (plain (br_table labels last) done)) [] [] × StmtsTyped c ls rest
StmtsTyped c ls (nests s body rest) = StmtsTyped c (None ∷ ls) body × StmtsTyped c ls rest
StmtsTyped c ls (decides o a b rest) = Types c ls (got o done) (I32 ∷ []) [] × StmtsTyped c (None ∷ ls) a × StmtsTyped c (None ∷ ls) b × StmtsTyped c ls rest
StmtsTyped c ls (halts rest) = StmtsTyped c ls rest
