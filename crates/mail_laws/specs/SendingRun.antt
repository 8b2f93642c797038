-- A program that receives two values and adds them, and one that sends them: the first value is for the program that waits, and the
-- second is queued.
use Rattle.std.specs.Prelude.{List, [], ◌∷◌, Some, None, true, codes}
use Rattle.wa_types.specs.declared.values.ValType.TheVariants.{I32}
use Rattle.wa_types.specs.declared.values.Value.TheVariants as V
use Rattle.wa_types.specs.declared.syntax.ImportKind.TheVariants as K
use Rattle.wa_types.specs.declared.syntax.Space.TheVariants as Sp
use Rattle.wa_types.specs.Syntax.{FuncType, Module, basic, call, const, done, plain}
use Rattle.wa_model.specs.declared.answers.Said.TheVariants as S
use Rattle.wa_model.specs.declared.events.End.TheVariants.{Done}
use Rattle.wa_model.specs.Outside.{Line, answered, called, ended, parked, returned}
use Rattle.world_model.specs.World.{Original, Program, at_start, line_at}
use Rattle.mail_laws.specs.MailWorld.{BlockingWorld}
use Rattle.mail_laws.specs.WaitingRun.{all, box, waiter}

-- [i32] -> []
abbrev pub from_i32 : FuncType
from_i32 = record { params = I32 ∷ []; results = [] }

-- [] -> []
abbrev pub to_none : FuncType
to_none = record { params = []; results = [] }

-- 5 and then 6 are handed to the import `mail.put`; exported as `run`
abbrev pub putter : Module
putter = record {
  types = from_i32 ∷ to_none ∷ [];
  imports = record { «module» = codes "mail"; base = codes "put"; kind = K.Func 0 } ∷ [];
  funcs = record { sort = 1; locals = []; body = plain (basic (const (V.I32 5))) (plain (call 0) (plain (basic (const (V.I32 6))) (plain (call 0) done))) } ∷ [];
  tables = [];
  memories = [];
  globals = [];
  exports = record { name = codes "run"; space = Sp.Func; index = 1 } ∷ [];
  start = None;
  elems = [];
  segments = [];
  customs = [];
}

-- the program, whose import is bound to the mailbox
abbrev pub sender : Program
sender = record {
  source = putter;
  plan = record { globals = []; entries = record { func = 1; args = [] } ∷ []; area = record { at = 0; len = 64 }; others = []; listed = Some (true ∷ []) };
  steps = 100;
  answers = [];
  binds = Some box ∷ [];
  looks = [];
  origin = at_start;
}

-- the one that receives stands first
abbrev pub both : List Original
both = record { program = waiter; settings = all } ∷ record { program = sender; settings = all } ∷ []

-- what they tell: the first parks; the second sends both values and ends; the first is due at the next tick, and receives the second value
-- at once
abbrev pub sending_lines : List Line
sending_lines =
    line_at 0 0 (called (record { import = 0; args = [] })) ∷ line_at 0 0 (parked 20)
    ∷ line_at 0 1 (called (record { import = 0; args = V.I32 5 ∷ [] })) ∷ line_at 0 1 (answered (S.Value None))
    ∷ line_at 0 1 (called (record { import = 0; args = V.I32 6 ∷ [] })) ∷ line_at 0 1 (answered (S.Value None))
    ∷ line_at 0 1 (returned 0 None) ∷ line_at 0 1 (ended Done)
    ∷ line_at 1 0 (answered (S.Value (Some (V.I32 5))))
    ∷ line_at 1 0 (called (record { import = 0; args = [] })) ∷ line_at 1 0 (answered (S.Value (Some (V.I32 6))))
    ∷ line_at 1 0 (returned 0 (Some (V.I32 11))) ∷ line_at 1 0 (ended Done) ∷ []

-- There is such a run of the blocking world.
abbrev pub SendsAndReceives : Type 0
SendsAndReceives = BlockingWorld both [] (box ∷ []) [] sending_lines []
