-- What a program is given: a plan, and the outcomes that its calls of imports meet.
use Rattle.std.specs.Prelude.{◌≡◌, ℕ, ◌+◌, ◌*◌, ◌%◌, ◌^◌, ◌<◌, ◌≤◌, List, map, Option, Some, None, Bool, true, All, Contains}
use Rattle.wa_types.specs.declared.values.ValType.{ValType}
use Rattle.wa_types.specs.declared.values.Value.{Value}
use Rattle.wa_types.specs.declared.syntax.Export.{Export}
use Rattle.wa_types.specs.declared.syntax.Space.TheVariants.{Func as a_func}
use Rattle.wa_types.specs.Syntax.{Func, Module}
use Rattle.wa_types.specs.Memory.{page_size}
use Rattle.wa_types.specs.Modules.{imported, imported_global, all_memories, func_type_at, defined_at}
use Rattle.wa_types.specs.Base.{Base}
use Rattle.wa_types.specs.Sizes.{value_fits}
use Rattle.wa_types.specs.Runtime.{runtime_names}
use Rattle.wa_types.specs.Typing.{GlobalType}
use Rattle.wa_ops.specs.Operate.{are_of}
use Rattle.wa_model.specs.declared.answers.Area.{Area}
use Rattle.wa_model.specs.declared.answers.Said.{Said}
use Rattle.wa_model.specs.declared.answers.Said.TheVariants as S
use Rattle.wa_model.specs.declared.events.End.{End}
use Rattle.wa_model.specs.declared.events.End.TheVariants.{NoAnswer, OtherImport, DeviceFault, NoDevice}
use Rattle.wa_model.specs.Outside.{Poke, Answer}
use Rattle.wa_model.specs.Instantiation.{least_of}

-- An entry: the function that the host calls, and its arguments in order.
pub record Entry : Type 0 where
  pub func : ℕ
  pub args : List Value

-- A plan: the values of imported globals, the entries, the range kept for suspended stacks, further ranges that answers leave alone, and, where told, which imports are listed.
pub record Plan : Type 0 where
  pub globals : List Value
  pub entries : List Entry
  pub area : Area
  pub others : List Area
  pub listed : Option (List Bool)

-- What a new call of an import meets: an answer, or the end of the program.
pub data Outcome : Type 0 where
  given : (answer : Answer) → Outcome
  refused : (how : End) → Outcome

-- values have these types and lie in their ranges
pub record AreLawful (types : List ValType) (values : List Value) : Type 0 where
  pub typed : are_of types values ≡ true
  pub ranges : All value_fits values

-- ---- plans

-- the area of a plan is lawful: aligned to 4, of at least 8 bytes, and inside the declared minimum of the memory
pub record AreaFits (m : Module) (area : Area) : Type 0 where
  pub aligned : area.at % 4 ≡ 0
  pub least : 8 ≤ area.len
  pub inside : area.at + area.len ≤ least_of (all_memories m) * page_size

-- an export of this function, under another name than the five of the runtime
pub record ExportsFunc (x : ℕ) (e : Export) : Type 0 where
  pub space : e.space ≡ a_func
  pub index : e.index ≡ x
  pub name : Contains runtime_names e.name → ⊥

-- an entry is an exported defined function, with arguments of its types
pub record EntryFits (m : Module) (e : Entry) : Type 0 where
  pub defined : (f : Func) × (defined_at m e.func ≡ Some f)
  pub exported : (x : Export) × Contains m.exports x × ExportsFunc e.func x
  pub args : AreLawful (func_type_at m e.func).params e.args

-- The plan fits the module.
pub record Fits (m : Module) (plan : Plan) : Type 0 where
  pub globals : AreLawful (map (λ (g : GlobalType). g.ty) (imported imported_global m)) plan.globals
  pub entries : All (EntryFits m) plan.entries
  pub area : AreaFits (Base m) plan.area

-- ---- outcomes

-- the numbers of a poke lie in the ranges of their types
pub record PokeFits (p : Poke) : Type 0 where
  pub at : p.at < 2 ^ 32
  pub bytes : All (λ b. b < 256) p.bytes

-- so does a value, where there is one
abbrev pub ValueFits : Option Value → Type 0
ValueFits None = Unit {0}
ValueFits (Some v) = value_fits v

-- so does what a call is told
abbrev pub SaidFits : Said → Type 0
SaidFits (S.Value v) = ValueFits v
SaidFits S.Trap = Unit {0}

-- so do all numbers of an answer
pub record AnswerFits (a : Answer) : Type 0 where
  pub said : SaidFits a.said
  pub pokes : All PokeFits a.pokes
  pub ticks : a.ticks < 2 ^ 32

-- the ends with which a call may be refused
abbrev pub IsRefusal : End → Type 0
IsRefusal (NoAnswer import) = Unit {0}
IsRefusal (OtherImport called named) = Unit {0}
IsRefusal (DeviceFault import) = Unit {0}
IsRefusal (NoDevice import) = Unit {0}
IsRefusal _ = ⊥

-- numbers of an outcome lie in the ranges of their types
abbrev pub OutcomeFits : Outcome → Type 0
OutcomeFits (given a) = AnswerFits a
OutcomeFits (refused e) = IsRefusal e
