-- What the builder gives for a file that comes in pieces.
use Rattle.std.specs.Prelude.{◌≡◌, ℕ, ◌+◌, ◌<◌, List, [], ◌++◌, map, length, drop, Option, Some, None, Result, Ok, Err, nat_lt, if◌then◌else◌}
use Rattle.wa_types.specs.Encoding.{preamble}
use Rattle.wa_types.specs.Syntax.{Func, Module}
use Rattle.wa_types.specs.Spells.{◌▸◌, Exactly, Items}
use Rattle.wa_types.specs.Reading.{SpellsModule}
use Rattle.wasm_build.specs.declared.build_types.BuildFault.{BuildFault}
use Rattle.wasm_build.specs.declared.build_types.BuildFault.TheVariants.{Memory}
use Rattle.wasm_build.specs.declared.builder.Builder.{Builder}
use Rattle.wasm_build.specs.declared.builder.Stage.{Stage}
use Rattle.wasm_build.specs.declared.builder.Stage.TheVariants.{Preamble, Section, Entry, Body}
use Rattle.wasm_build.specs.declared.sections.Entries.{Entries}
use Rattle.wasm_build.specs.BuildsSections.{SpelledFunc}
use Rattle.wasm_build.specs.BuildsEntries.{Item, SpelledItem, with_items}
use Rattle.wasm_build.specs.BuildsModule.{State, state_of, SpelledSections}

-- with these functions too
abbrev pub with_funcs : State → List Func → State
with_funcs p fs = record p { held = record p.held { funcs = p.held.funcs ++ fs } }

-- the bodies of the types from this index on, and the sections behind them
abbrev pub SpelledBodies : ℕ → (before after : State) → ℕ → List ℕ → Type 0
SpelledBodies k p q at bytes =
    (fs : List Func) × (k < length p.sorts) × (map (λ (f : Func). f.sort) fs ≡ drop k p.sorts) × (Items SpelledFunc fs ▸ SpelledSections (with_funcs p fs) q) at bytes

-- so many entries of a section, at least one, and the sections behind them
abbrev pub SpelledEntries : (k : Entries) → ℕ → (before after : State) → ℕ → List ℕ → Type 0
SpelledEntries k n p q at bytes =
    (xs : List (Item k)) × (0 < n) × (length xs ≡ n) × (Items (SpelledItem k) xs ▸ SpelledSections (with_items k p xs) q) at bytes

-- the rest of a file, by what comes next
abbrev pub AheadOf : Stage → (before after : State) → ℕ → List ℕ → Type 0
AheadOf Preamble p q = Exactly preamble ▸ SpelledSections p q
AheadOf Section p q = SpelledSections p q
AheadOf (Entry k n) p q = SpelledEntries k n p q
AheadOf (Body k) p q = SpelledBodies k p q

-- what comes behind so many bodies of functions of these types
abbrev pub stage_behind : ℕ → List ℕ → Stage
stage_behind read sorts = if nat_lt read (length sorts) then Body read else Section

-- what comes where so many entries of a section are left
abbrev pub stage_before : Entries → ℕ → Stage
stage_before k left = if nat_lt 0 left then Entry k left else Section

-- At this place these bytes are the rest of a file of this module.
pub record Comes (b : Builder) (m : Module) (at : ℕ) (bytes : List ℕ) : Type 0 where
  pub sum : State
  pub is : sum.held ≡ m
  pub ahead : AheadOf b.stage (state_of b.sections) sum at bytes

-- the whole file comes
abbrev pub Coming : Builder → Type 0
Coming b = (bytes : List ℕ) (m : Module) → SpellsModule bytes m → Comes b m 0 bytes

-- this is the module so far
abbrev pub Holds : Builder → Module → Type 0
Holds b m = (state_of b.sections).held ≡ m

-- one step: the rest of the file comes behind what was built; where nothing was, these bytes aren't the rest of the file, or there are none
abbrev pub Stepped : Result (Option ℕ) BuildFault → (new : Builder) → (at : ℕ) → (bytes more : List ℕ) → Module → Type 0
Stepped (Ok (Some n)) new at bytes more m = Comes new m (at + n) (drop n bytes ++ more)
Stepped (Ok None) new at bytes more m = Comes new m at (bytes ++ more) × (more ≡ [] → (bytes ≡ []) × Holds new m)
Stepped (Err e) new at bytes more m = e ≡ Memory

pub record Steps (result : Result (Option ℕ) BuildFault) (old new : Builder) (at : ℕ) (bytes : List ℕ) : Type 0 where
  pub steps : (more : List ℕ) (m : Module) → Comes old m at (bytes ++ more) → Stepped result new at bytes more m

-- all steps: the rest of the file comes behind what was built; where these bytes are the rest, all is built
abbrev pub Taken : Result ℕ BuildFault → (new : Builder) → (at : ℕ) → (bytes more : List ℕ) → Module → Type 0
Taken (Ok n) new at bytes more m = Comes new m (at + n) (drop n bytes ++ more) × (more ≡ [] → (drop n bytes ≡ []) × Holds new m)
Taken (Err e) new at bytes more m = e ≡ Memory

pub record Takes (result : Result ℕ BuildFault) (old new : Builder) (at : ℕ) (bytes : List ℕ) : Type 0 where
  pub takes : (more : List ℕ) (m : Module) → Comes old m at (bytes ++ more) → Taken result new at bytes more m
