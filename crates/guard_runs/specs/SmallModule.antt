-- A whole module: one import that may pause, and one function that sets a local to 5, calls it, and adds the local to its answer. The
-- function keeps the local in its frame, and leaves a gap for the slot of the answer.
use Rattle.std.specs.Prelude.{ℕ, suc, zero, ◌+◌, List, [], ◌∷◌, Some, None, Bool, true, false, replicate, codes}
use Rattle.wa_types.specs.declared.operators.NumOp.TheVariants.{I32Add}
use Rattle.wa_types.specs.declared.syntax.ImportKind.TheVariants as K
use Rattle.wa_types.specs.declared.values.ValType.TheVariants.{I32, I64}
use Rattle.wa_types.specs.declared.values.Value.TheVariants as V
use Rattle.wa_types.specs.Pausing.{Callee, direct}
use Rattle.wa_types.specs.Runtime.{with_runtime}
use Rattle.wa_types.specs.Syntax.{num, basic, call, done, plain, Func, Module}
use Rattle.wa_model.specs.declared.answers.Said.TheVariants as S
use Rattle.wa_model.specs.Blocking.{Left}
use Rattle.run_theory.specs.Flat.{Stmts, no_more, computes, copies, calls, result_got}
use Rattle.wa_model.specs.Outside.{Answer}
use Rattle.wa_model.specs.Plan.{Entry, Plan}
use Rattle.wa_model.specs.Protocol.{exports_of}
use Rattle.wa_model.specs.Store.{Store}
use Rattle.wa_model.specs.declared.flat.Operand.TheVariants.{Local, Const}
use Rattle.guard_form.specs.Bounds.{passing}
use Rattle.guard_form.specs.Functions.{GuardedFunc, Role, as_is, with_guards, flat_code, written_code}
use Rattle.guard_form.specs.Guarded.{block_unit}
use Rattle.guard_form.specs.Pieces.{no_unit, first_piece, units}
use Rattle.guard_form.specs.Places.{Enclosing, in_a_block}
use Rattle.guard_runs.specs.Alike.{Setting}
use Rattle.frame_laws.specs.Function.{value_code}
use Rattle.frame_laws.specs.Layout.{Layout, kept, gap, save_code, restore_code}
use Rattle.frame_laws.specs.Stack.{Level}
use Rattle.guard_runs.specs.Pause.{AnswersAt, PausesAt}
use Rattle.guard_runs.specs.Joined.{one_frame, written_of, site_of}

-- ---- the function

-- the call's result is added to what was kept
abbrev pub after_call : Stmts
after_call = computes (plain (basic (num I32Add)) done) (Local 0 ∷ Local 1 ∷ []) (Some 1) no_more

-- 5 is kept in local 0, and the import is called
abbrev pub statements : Stmts
statements = copies 0 (Const (V.I32 5)) (calls (plain (call 0) done) [] 0 (Some 1) after_call)

-- its one call is numbered
abbrev pub numbered_places : List ℕ
numbered_places = 0 ∷ []

-- the address in global 1, the call index in local 2, the frame's address in local 3
abbrev pub layout : Layout
layout = record { address = 1; index = 2; scratch = 3; fields = kept 0 I32 ∷ gap I32 ∷ [] }

-- the function with its guards and its one frame
abbrev pub guarded : GuardedFunc
guarded = record {
  size = 2;
  exits = true;
  restoring = restore_code layout done;
  saving = save_code layout (value_code (Some I32));
  first = done;
  body = block_unit (first_piece numbered_places 0 statements) (units numbered_places 0 statements) (Some 1);
}

-- its call stands in the function's own block
abbrev pub around_call : List Enclosing
around_call = in_a_block 0 1 done done (result_got (Some 1)) no_unit ∷ []

-- its flat form
abbrev pub flat_function : Func
flat_function = record { sort = 0; locals = record { count = 2; ty = I32 } ∷ []; body = flat_code (with_guards guarded) }

-- its written form
abbrev pub written_function : Func
written_function = record { sort = 0; locals = record { count = 2; ty = I32 } ∷ record { count = 2; ty = I32 } ∷ record { count = 1; ty = I64 } ∷ []; body = written_code 0 (with_guards guarded) }

-- ---- both modules

-- a module with an import and this function
abbrev pub with_function : Func → Module
with_function f = record {
  types = record { params = []; results = I32 ∷ [] } ∷ [];
  imports = record { «module» = codes "env"; base = codes "sleep"; kind = K.Func 0 } ∷ [];
  funcs = f ∷ [];
  tables = [];
  memories = record { min = 1; max = Some 1 } ∷ [];
  globals = [];
  exports = [];
  start = None;
  elems = [];
  segments = [];
  customs = [];
}

-- what each function is: the one of index 1 is written, any other stays
abbrev pub role : ℕ → Role
role (suc zero) = with_guards guarded
role _ = as_is 0 done

-- the callee is the import
abbrev pub is_sleep : Callee → Bool
is_sleep (direct zero) = true
is_sleep _ = false

-- both modules, with what they have in common
abbrev pub setting : Setting
setting = record {
  flat = with_runtime (with_function flat_function);
  written = with_runtime (with_function written_function);
  globals = 0;
  funcs = 2;
  sorts = 1;
  role = role;
  numbered = is_sleep;
  table = [];
  area = record { at = 16; len = 40 };
  top = 1;
}

-- ---- at the call

-- the store at the call
abbrev pub store : Store
store = record { globals = V.I32 0 ∷ V.I32 0 ∷ []; memory = replicate 80 7; table = [] }

-- a plan with this area
abbrev pub plan : Plan
plan = record { globals = []; entries = []; area = setting.area; others = []; listed = None }

-- the entry is the function
abbrev pub entry : Entry
entry = record { func = 1; args = [] }

-- 37, after a pause of 3 ticks
abbrev pub answer : Answer
answer = record { said = S.Value (Some (V.I32 37)); pokes = []; ticks = 3 }

-- nothing is left behind it
abbrev pub left : Left
left = record { number = 0; entries = []; outcomes = [] }

-- the function waits with 5 in its first local
abbrev pub level : Level
level = record {
  func = 1;
  fn = written_of 0 guarded (one_frame layout (Some I32));
  site = site_of 0 guarded 0 0 [] (direct 0) (Some 1) (first_piece numbered_places 1 after_call) no_unit around_call;
  locals = V.I32 5 ∷ V.I32 0 ∷ V.I32 0 ∷ V.I32 0 ∷ V.I64 0 ∷ [];
  ops = [];
  taken = [];
  out = 4;
  seek = passing guarded.first guarded.body + 3;
}

-- From any pause that the law gives, the import's answer brings it back.
abbrev pub ComesBack : Type 0
ComesBack = (p : PausesAt 0 0 1 setting.written (exports_of setting.written) plan entry 0 answer left store level [])
    → AnswersAt 0 0 1 setting.written (exports_of setting.written) plan entry 0 answer left p.store level []
