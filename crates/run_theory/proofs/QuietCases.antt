-- Small runs of modules of which nothing may pause, as the definitions compute them.
use Rattle.std.proofs.Common.{◌≡◌, ℕ, List, [], ◌∷◌, Some, None, true, false, refl}
use Rattle.std.specs.Prelude.{codes}
use Rattle.wa_types.specs.declared.values.ValType.TheVariants.{I32}
use Rattle.wa_types.specs.declared.values.Value.{Value}
use Rattle.wa_types.specs.declared.values.Value.TheVariants as V
use Rattle.wa_types.specs.declared.values.Trap.TheVariants.{Unreachable}
use Rattle.wa_types.specs.declared.operators.NumOp.TheVariants.{I32Add}
use Rattle.wa_types.specs.declared.syntax.ImportKind.TheVariants as K
use Rattle.wa_types.specs.declared.syntax.Space.TheVariants as Sp
use Rattle.wa_types.specs.Syntax.{const, num, global_get, global_set, unreachable, basic, local_get, call, done, plain, Module}
use Rattle.wa_types.specs.Base.{Base}
use Rattle.wa_types.specs.Runtime.{with_runtime}
use Rattle.wa_model.specs.declared.answers.Said.TheVariants as S
use Rattle.wa_model.specs.declared.events.End.TheVariants.{Trapped, UnlistedPause}
use Rattle.wa_model.specs.Outside.{Event, called, answered, returned, ended}
use Rattle.wa_model.specs.Plan.{Entry, Plan, Outcome, given}
use Rattle.wa_model.specs.Blocking.{events_of, Blocking}
use Rattle.wa_model.specs.Protocol.{Protocol}

abbrev i32 : ℕ → Value
i32 n = V.I32 n

-- an import, and behind it a function that keeps its parameter in a global and adds what the import answers to it; and one
-- that traps
abbrev asks : Module
asks = record {
  types = (record { params = I32 ∷ []; results = I32 ∷ [] }) ∷ [];
  imports = (record { «module» = codes "env"; base = codes "ask"; kind = K.Func 0 }) ∷ [];
  funcs =
      (record {
        sort = 0;
        locals = [];
        body = plain (local_get 0) (plain (basic (global_set 0)) (plain (local_get 0) (plain (call 0) (plain (basic (global_get 0)) (plain (basic (num I32Add)) done)))));
      })
      ∷ (record { sort = 0; locals = []; body = plain unreachable done })
      ∷ [];
  tables = [];
  memories = [];
  globals = (record { ty = I32; mutable = true; init = plain (basic (const (i32 0))) done }) ∷ [];
  exports = (record { name = codes "run"; space = Sp.Func; index = 1 }) ∷ (record { name = codes "trap"; space = Sp.Func; index = 2 }) ∷ [];
  start = None;
  elems = [];
  segments = [];
  customs = [];
}

-- no import is listed
abbrev plan : List Entry → Plan
plan entries = record { globals = []; entries = entries; area = record { at = 0; len = 64 }; others = []; listed = Some (false ∷ []) }

abbrev answer : ℕ → ℕ → Outcome
answer n ticks = given (record { said = S.Value (Some (i32 n)); pokes = []; ticks = ticks })

abbrev entry : ℕ → ℕ → Entry
entry x n = record { func = x; args = i32 n ∷ [] }

abbrev asked : ℕ → Event
asked n = called (record { import = 0; args = i32 n ∷ [] })

abbrev both : List Event
both = asked 3 ∷ answered (S.Value (Some (i32 4))) ∷ returned 0 (Some (i32 7)) ∷ ended (Trapped Unreachable) ∷ []

alone : events_of (Blocking asks (plan (entry 1 3 ∷ entry 2 5 ∷ [])) (answer 4 0 ∷ []) 40).events ≡ both
unfolding Base
alone = refl

under_the_protocol : events_of (Protocol (with_runtime asks) (plan (entry 1 3 ∷ entry 2 5 ∷ [])) (answer 4 0 ∷ []) 40).events ≡ both
unfolding with_runtime
under_the_protocol = refl

-- an answer that would pause ends the program
unlisted : events_of (Protocol (with_runtime asks) (plan (entry 1 3 ∷ [])) (answer 4 1 ∷ []) 40).events ≡ asked 3 ∷ ended (UnlistedPause 0) ∷ []
unfolding with_runtime
unlisted = refl
