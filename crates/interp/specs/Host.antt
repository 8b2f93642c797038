-- What a host sees of an instance.
use Rattle.std.specs.Prelude.{◌≡◌, ℕ, nat_lt, if◌then◌else◌, List, [], length, Option, Some, None, Bool, true, false}
use Rattle.std.specs.Option.{unwrap_or}
use Rattle.wa_types.specs.declared.values.Value.{Value}
use Rattle.wa_types.specs.Syntax.{Module}
use Rattle.wa_types.specs.Memory.{with_piece}
use Rattle.wa_types.specs.Modules.{all_memories}
use Rattle.wa_types.specs.View.{module_of}
use Rattle.wa_model.specs.Store.{Store, with_memory}
use Rattle.interp.specs.declared.instance.Instance.{Instance}
use Rattle.interp.specs.declared.turns.Turn.{Turn}
use Rattle.interp_state.specs.View.{store_of}
use Rattle.interp.specs.Instance.{Waits, waits_of, Calls}

-- its module
abbrev pub code_in : Instance → Module
code_in i = module_of i.program

-- its store
abbrev pub store_in : Instance → Store
store_in i = store_of i.store

-- what waits in it
abbrev pub waits_in : Instance → Waits
waits_in i = waits_of i.wait

-- the bytes of the memory, where the module has one
abbrev pub memory_of : Module → Store → Option (List ℕ)
memory_of m s = if nat_lt 0 (length (all_memories m)) then Some s.memory else None

-- the bytes of an instance's memory; none where its module has none
abbrev pub memory_in : Instance → List ℕ
memory_in i = unwrap_or (memory_of (code_in i) (store_in i)) []

-- the bytes of a memory that is there, with some written at a place, where they lie inside
abbrev pub poked_in : Option (List ℕ) → (at : ℕ) → (bytes : List ℕ) → Option (List ℕ)
poked_in None at bytes = None
poked_in (Some memory) at bytes = with_piece memory at bytes

-- whether they were written, with the store behind it
abbrev pub PokesTo : Option (List ℕ) → Store → Bool → Store → Type 0
PokesTo (Some memory) s done s' = (done ≡ true) × (s' ≡ with_memory s memory)
PokesTo None s done s' = (done ≡ false) × (s' ≡ s)

-- whether bytes were written at a place, with the store behind it
abbrev pub Pokes : Module → Store → (at : ℕ) → (bytes : List ℕ) → Bool → Store → Type 0
Pokes m s at bytes done s' = PokesTo (poked_in (memory_of m s) at bytes) s done s'

-- a call after which nothing of its own is kept but the store
abbrev pub CallsAside : Module → Store → (func : ℕ) → (args : List Value) → (left used : ℕ) → Turn → Store → Type 0
CallsAside m s x args left used turn s' = (w : Waits) × Calls m s x args left used turn s' w
