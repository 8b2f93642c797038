-- Functions from their types and bodies.
use Rattle.std.proofs.Common.{ℕ, List}
use Rattle.wa_types.specs.Syntax.{Func}
use Rattle.wasm_build.specs.BuildsSections.{PlainBody, SpelledBody, SpelledFunc}

abbrev pub plain_body : Func → PlainBody
plain_body f = record { locals = f.locals; code = f.body }

pub as_body : (f : Func) (at : ℕ) (bytes : List ℕ) → SpelledFunc f at bytes → SpelledBody (plain_body f) at bytes
as_body f at bytes (raw, is, h) = (raw, record { locals = is.locals; code = is.body }, h)
