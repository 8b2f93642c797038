-- Single statements: the code of one, and where the calls behind it stand.
use Rattle.std.specs.Prelude.{◌+◌, ◌||◌, ℕ, suc, List, None, Bool, false}
use Rattle.std.specs.Option.{is_some}
use Rattle.wa_types.specs.Syntax.{local_set, br, br_if, br_table, unreachable, Code, plain, nest, branch}
use Rattle.run_theory.specs.Flat.{Stmts, no_more, computes, copies, calls, leaps, leaps_if, leaps_by, nests, decides, halts, followed_by, got, all_got, set_to, slots_got, last_of, code_of}
use Rattle.guard_form.specs.Pieces.{call_total, numbered, holds_call}

-- the first statement, in front of others
abbrev pub with_rest : Stmts → Stmts → Stmts
with_rest no_more s = s
with_rest (computes op args to rest) s = computes op args to s
with_rest (copies to from rest) s = copies to from s
with_rest (calls op stack args to rest) s = calls op stack args to s
with_rest (leaps l rest) s = leaps l s
with_rest (leaps_if c l rest) s = leaps_if c l s
with_rest (leaps_by index labels last rest) s = leaps_by index labels last s
with_rest (nests shape body rest) s = nests shape body s
with_rest (decides c a b rest) s = decides c a b s
with_rest (halts rest) s = halts s

-- the code of the first statement, in front of code
abbrev pub one_code : Stmts → Code → Code
one_code no_more c = c
one_code (computes op args to rest) c = all_got args (followed_by op (set_to to c))
one_code (copies to from rest) c = got from (plain (local_set to) c)
one_code (calls op stack args to rest) c = slots_got (last_of args stack) (followed_by op (set_to to c))
one_code (leaps l rest) c = plain (br l) c
one_code (leaps_if o l rest) c = got o (plain (br_if l) c)
one_code (leaps_by o labels last rest) c = got o (plain (br_table labels last) c)
one_code (nests shape body rest) c = nest shape None (code_of body) c
one_code (decides o a b rest) c = got o (branch None (code_of a) (code_of b) c)
one_code (halts rest) c = plain unreachable c

-- the place of the first call behind the first statement
abbrev pub one_place : ℕ → Stmts → ℕ
one_place n (calls op stack args to rest) = suc n
one_place n (nests shape body rest) = n + call_total body
one_place n (decides o a b rest) = n + call_total a + call_total b
one_place n _ = n

-- a call is numbered in the first statement
abbrev pub one_holds : List ℕ → ℕ → Stmts → Bool
one_holds ps n (calls op stack args to rest) = is_some (numbered ps n op)
one_holds ps n (nests shape body rest) = holds_call ps n body
one_holds ps n (decides o a b rest) = holds_call ps n a || holds_call ps (n + call_total a) b
one_holds ps n _ = false
