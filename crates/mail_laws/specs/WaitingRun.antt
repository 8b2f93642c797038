-- A program that receives at a mailbox to which nobody sends: it waits there for good.
use Rattle.std.specs.Prelude.{ℕ, List, [], ◌∷◌, Some, None, true, false, codes}
use Rattle.wa_types.specs.declared.values.ValType.TheVariants.{I32}
use Rattle.wa_types.specs.declared.operators.NumOp.TheVariants.{I32Add}
use Rattle.wa_types.specs.declared.syntax.ImportKind.TheVariants as K
use Rattle.wa_types.specs.declared.syntax.Space.TheVariants as Sp
use Rattle.wa_types.specs.Syntax.{FuncType, Module, basic, call, done, num, plain}
use Rattle.wa_types.specs.Pausing.{Settings, every, save_all}
use Rattle.wa_model.specs.declared.events.End.TheVariants.{Stalled}
use Rattle.wa_model.specs.Outside.{Event, Line, called, ended, parked}
use Rattle.world_model.specs.World.{Program, at_start}
use Rattle.mail_laws.specs.MailWorld.{BlockingWorld}

-- [] -> [i32]
abbrev pub to_i32 : FuncType
to_i32 = record { params = []; results = I32 ∷ [] }

-- the sum of two values of the import `mail.get`, exported as `run`
abbrev pub getter : Module
getter = record {
  types = to_i32 ∷ [];
  imports = record { «module» = codes "mail"; base = codes "get"; kind = K.Func 0 } ∷ [];
  funcs = record { sort = 0; locals = []; body = plain (call 0) (plain (call 0) (plain (basic (num I32Add)) done)) } ∷ [];
  tables = [];
  memories = [];
  globals = [];
  exports = record { name = codes "run"; space = Sp.Func; index = 1 } ∷ [];
  start = None;
  elems = [];
  segments = [];
  customs = [];
}

-- the name of the mailbox
abbrev pub box : List ℕ
box = codes "box"

-- the program, whose import is bound to it
abbrev pub waiter : Program
waiter = record {
  source = getter;
  plan = record { globals = []; entries = record { func = 1; args = [] } ∷ []; area = record { at = 0; len = 64 }; others = []; listed = Some (true ∷ []) };
  steps = 100;
  answers = [];
  binds = Some box ∷ [];
  looks = [];
  origin = at_start;
}

-- every import may pause it
abbrev pub all : Settings
all = record { choice = every; ignore_indirect = false; policy = save_all }

-- an event of the only program, at the first tick
abbrev pub line : Event → Line
line e = record { tick = 0; program = 0; event = e }

-- what it tells: it calls the import, waits there, and stalls
abbrev pub waiting_lines : List Line
waiting_lines = line (called (record { import = 0; args = [] })) ∷ line (parked 20) ∷ line (ended (Stalled 0)) ∷ []

-- There is such a run of the blocking world.
abbrev pub WaitsForGood : Type 0
WaitsForGood = BlockingWorld (record { program = waiter; settings = all } ∷ []) [] (box ∷ []) [] waiting_lines []
