-- What the builder gives for bytes that spell entries of sections, and sections.
use Rattle.std.specs.Prelude.{◌≡◌, ℕ, List}
use Rattle.std.specs.List.{AllZip}
use Rattle.wa_types.specs.declared.syntax.Run.{Run}
use Rattle.wa_types.specs.Binary.{RawBody}
use Rattle.wa_types.specs.Syntax.{Code, done, Func, Custom}
use Rattle.wa_types.specs.View.{code}
use Rattle.wa_types.specs.Spells.{◌▸◌, Exactly, Sized, Text, BodyOf}
use Rattle.wa_types.specs.Reading.{IsRun, IsCode, IsBody}
use Rattle.wasm_build.specs.declared.entries.Body.{Body}
use Rattle.wasm_build.specs.Builds.{SpelledAs}

-- A function without its type.
pub record PlainBody : Type 0 where
  pub locals : List Run
  pub code : Code

-- the same of a value of the program
abbrev pub body_of : Body → PlainBody
body_of b = record { locals = b.locals.items; code = code b.code.items }

-- it is what an entry of the code section holds (5.5.13)
pub record IsPlainBody (raw : RawBody) (b : PlainBody) : Type 0 where
  pub locals : AllZip IsRun raw.locals b.locals
  pub code : IsCode raw.code b.code done

-- an entry of the code section
abbrev pub SpelledBody : PlainBody → ℕ → List ℕ → Type 0
SpelledBody = SpelledAs BodyOf IsPlainBody

-- a custom section behind the sections of ids up to this one, from its size on
abbrev pub SpelledCustom : (after : ℕ) → Custom → ℕ → List ℕ → Type 0
SpelledCustom after c at bytes = (c.after ≡ after) × Sized (Text c.name ▸ Exactly c.bytes) at bytes

-- an entry of the code section, as a function whose type is known from elsewhere
abbrev pub SpelledFunc : Func → ℕ → List ℕ → Type 0
SpelledFunc = SpelledAs BodyOf IsBody
