-- What the calls that take a flat function ask of it; and a module with flat functions in place of its own.
use Rattle.std.specs.Prelude.{◌≡◌, ◌≤◌, ◌<◌, ◌^◌, ℕ, zero, suc, List, [], ◌∷◌, length, take, drop, map, Option, Some, None, All, nat_eq, if◌then◌else◌}
use Rattle.wa_types.specs.declared.values.ValType.{ValType}
use Rattle.wa_types.specs.declared.syntax.Run.{Run}
use Rattle.wa_types.specs.Syntax.{basic, local_get, local_set, local_tee, call, call_indirect, Code, done, plain, Func, Module}
use Rattle.wa_types.specs.Counts.{depth_of}
use Rattle.wa_types.specs.Sizes.{BodySizes}
use Rattle.wa_types.specs.Pausing.{calls_of}
use Rattle.wa_types.specs.Modules.{func_imports, type_at, func_type_at, locals_of}
use Rattle.wa_model.specs.declared.flat.Operand.{Operand}
use Rattle.wa_model.specs.declared.flat.Operand.TheVariants.{Local, Const}
use Rattle.wa_model.specs.Store.{gives}
use Rattle.run_theory.specs.Flat.{Stmts, no_more, computes, copies, calls, leaps, leaps_if, leaps_by, nests, decides, halts, FlatFunc, FlatModule, code_of, body_of}

-- ---- what is asked of statements

-- one of so many locals
abbrev pub OperandFits : (locals : ℕ) → Operand → Type 0
OperandFits locals (Local x) = x < locals
OperandFits locals (Const v) = Unit {0}

-- a local that is told is one of so many
abbrev pub ToFits : (locals : ℕ) → Option ℕ → Type 0
ToFits locals None = Unit {0}
ToFits locals (Some x) = x < locals

-- a local is told exactly where there is a result
abbrev pub TellsResult : (results : ℕ) → Option ℕ → Type 0
TellsResult zero to = to ≡ None
TellsResult (suc n) None = ⊥
TellsResult (suc n) (Some x) = Unit {0}

-- The instruction of a computation is neither a call nor control, and its local is told exactly where it has a result.
abbrev pub ComputesFit : (locals : ℕ) → Code → Option ℕ → Type 0
ComputesFit locals (plain (basic b) done) to = TellsResult (gives b) to
ComputesFit locals (plain (local_get x) done) to = (x < locals) × TellsResult 1 to
ComputesFit locals (plain (local_set x) done) to = (x < locals) × TellsResult 0 to
ComputesFit locals (plain (local_tee x) done) to = (x < locals) × TellsResult 1 to
ComputesFit locals _ to = ⊥

-- the instruction of a call is one
abbrev pub IsCallCode : Code → Type 0
IsCallCode (plain (call x) done) = Unit {0}
IsCallCode (plain (call_indirect sort) done) = Unit {0}
IsCallCode _ = ⊥

-- Statements among so many locals and labels, the block around the body being the last label: each local and label that they
-- name is there, each instruction is of the kind that its statement has, a call takes no more slots than its stack has, and a
-- u32 numbers the items of each list.
abbrev pub StmtsFit : (locals labels : ℕ) → Stmts → Type 0
StmtsFit locals labels no_more = Unit {0}
StmtsFit locals labels (computes op args to rest) = ComputesFit locals op to × All (OperandFits locals) args × (length args < 2 ^ 32) × ToFits locals to × StmtsFit locals labels rest
StmtsFit locals labels (copies to from rest) = (to < locals) × OperandFits locals from × StmtsFit locals labels rest
StmtsFit locals labels (calls op stack args to rest) = IsCallCode op × All (λ x. x < locals) stack × (length stack < 2 ^ 32) × (args ≤ length stack) × ToFits locals to × StmtsFit locals labels rest
StmtsFit locals labels (leaps label rest) = (label < labels) × StmtsFit locals labels rest
StmtsFit locals labels (leaps_if condition label rest) = OperandFits locals condition × (label < labels) × StmtsFit locals labels rest
StmtsFit locals labels (leaps_by index targets last rest) = OperandFits locals index × All (λ l. l < labels) targets × (last < labels) × StmtsFit locals labels rest
StmtsFit locals labels (nests shape body rest) = StmtsFit locals (suc labels) body × StmtsFit locals labels rest
StmtsFit locals labels (decides condition a b rest) = OperandFits locals condition × StmtsFit locals (suc labels) a × StmtsFit locals (suc labels) b × StmtsFit locals labels rest
StmtsFit locals labels (halts rest) = StmtsFit locals labels rest

-- A flat function that can be rewritten: it has at most 50,000 locals and nests less than 2^30 deep, its body keeps the size
-- rule, a u32 numbers its calls, and its statements and its result are in range.
pub record FlatFits (f : FlatFunc) : Type 0 where
  pub few : length f.locals ≤ 50000
  pub shallow : depth_of (code_of f.body) < 2 ^ 30
  pub sizes : BodySizes (2 ^ 32) (2 ^ 56) (body_of f)
  pub few_calls : length (calls_of (code_of f.body)) < 2 ^ 32
  pub result : ToFits (length f.locals) f.result
  pub statements : StmtsFit (length f.locals) 1 f.body

-- the function that the instruction of a call names is one of so many
abbrev pub NamesFit : (funcs : ℕ) → Code → Type 0
NamesFit funcs (plain (call x) done) = x < funcs
NamesFit funcs _ = Unit {0}

-- Each function that statements name is one of so many.
abbrev pub CalleesInRange : (funcs : ℕ) → Stmts → Type 0
CalleesInRange funcs no_more = Unit {0}
CalleesInRange funcs (computes op args to rest) = CalleesInRange funcs rest
CalleesInRange funcs (copies to from rest) = CalleesInRange funcs rest
CalleesInRange funcs (calls op stack args to rest) = NamesFit funcs op × CalleesInRange funcs rest
CalleesInRange funcs (leaps label rest) = CalleesInRange funcs rest
CalleesInRange funcs (leaps_if condition label rest) = CalleesInRange funcs rest
CalleesInRange funcs (leaps_by index targets last rest) = CalleesInRange funcs rest
CalleesInRange funcs (nests shape body rest) = CalleesInRange funcs body × CalleesInRange funcs rest
CalleesInRange funcs (decides condition a b rest) = CalleesInRange funcs a × CalleesInRange funcs b × CalleesInRange funcs rest
CalleesInRange funcs (halts rest) = CalleesInRange funcs rest

-- ---- flat functions as functions of a module

-- the local of a call's result is told exactly where the callee has one
abbrev pub CallTells : Module → Code → Option ℕ → Type 0
CallTells m (plain (call x) done) to = TellsResult (length (func_type_at m x).results) to
CallTells m (plain (call_indirect sort) done) to = TellsResult (length (type_at m sort).results) to
CallTells m _ to = Unit {0}

-- Each call tells it so.
abbrev pub ResultsTold : Module → Stmts → Type 0
ResultsTold m no_more = Unit {0}
ResultsTold m (computes op args to rest) = ResultsTold m rest
ResultsTold m (copies to from rest) = ResultsTold m rest
ResultsTold m (calls op stack args to rest) = CallTells m op to × ResultsTold m rest
ResultsTold m (leaps label rest) = ResultsTold m rest
ResultsTold m (leaps_if condition label rest) = ResultsTold m rest
ResultsTold m (leaps_by index targets last rest) = ResultsTold m rest
ResultsTold m (nests shape body rest) = ResultsTold m body × ResultsTold m rest
ResultsTold m (decides condition a b rest) = ResultsTold m a × ResultsTold m b × ResultsTold m rest
ResultsTold m (halts rest) = ResultsTold m rest

-- A flat function that stands for the function of this index: it has the same type, its locals begin with the parameters and
-- locals of that one, and locals of results are told exactly where there is a result.
pub record FlatOf (m : Module) (x : ℕ) (f : Func) (g : FlatFunc) : Type 0 where
  pub index : g.func ≡ x
  pub sort : g.sort ≡ f.sort
  pub own_first : take (length (locals_of m f)) g.locals ≡ locals_of m f
  pub result : TellsResult (length (type_at m g.sort).results) g.result
  pub calls : ResultsTold m g.body

-- one local of a type
abbrev pub one_run : ValType → Run
one_run t = record { count = 1; ty = t }

-- The function that a flat one stands for. Its first locals are the parameters; those behind them are declared one by one.
abbrev pub func_of_flat : Module → FlatFunc → Func
func_of_flat m f = record { sort = f.sort; locals = map one_run (drop (length (type_at m f.sort).params) f.locals); body = body_of f }

-- the first of flat functions that has this index, else the function as it is
abbrev pub flat_or : Module → List FlatFunc → ℕ → Func → Func
flat_or m [] x f = f
flat_or m (g ∷ gs) x f = if nat_eq g.func x then func_of_flat m g else flat_or m gs x f

-- functions, the first of which has this index, with the flat ones in place
abbrev pub funcs_with_flat : Module → List FlatFunc → ℕ → List Func → List Func
funcs_with_flat m gs x [] = []
funcs_with_flat m gs x (f ∷ fs) = flat_or m gs x f ∷ funcs_with_flat m gs (suc x) fs

-- The module in which the functions of these indices are the flat ones. Every other function stays, and so does all else.
abbrev pub with_flat : Module → FlatModule → Module
with_flat m flat = record m { funcs = funcs_with_flat m flat.funcs (func_imports m) m.funcs }
