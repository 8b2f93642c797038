-- Laws of typing and of first faults; functions with an empty body carry them.
use Rattle.std.specs.Prelude.{◌≡◌, ◌↔◌, ℕ, suc, List, [], Option, Some, slice_get}
use Rattle.wa_types.specs.declared.values.ValType.{ValType}
use Rattle.wa_types.specs.Syntax.{Code, Func, Module}
use Rattle.wa_types.specs.Pruned.{pruned}
use Rattle.wa_types.specs.Typing.{Around, Types, Typed}
use Rattle.wa_types.specs.Rules.{above_all}
use Rattle.wa_types.specs.Modules.{around}
use Rattle.wa_types.specs.Validity.{Valid, broken_outside}
use Rattle.wa_types.specs.FirstFault.{UpTo, BodyFault, FirstFault, cut}

-- The pruned body of a typed body has the same type, and so has pruned code of any type.
abbrev pub PrunedTypes : Type 0
PrunedTypes =
    (c : Around) → (ls : List (Option ValType)) → (k : Code) → (outs ins : List ValType) → Types c ls k outs ins → Types c ls (pruned k) outs ins

-- Code has a type up to its first n items, all rules being asked of each, exactly
-- where these items, followed by `unreachable` and the ends that are owed, are typed.
abbrev pub UpToIsCut : Type 0
UpToIsCut =
    (c : Around) → (ls : List (Option ValType)) → (k : Code) → (outs ins : List ValType) → (n : ℕ) → UpTo above_all c ls k outs ins n ↔ Types c ls (cut n k) outs ins

-- The place of a body's fault is the first such that the body up to there has no type.
abbrev pub FaultIsFirst : Type 0
FaultIsFirst =
    (c : Around) → (body : Code) → (rule at : ℕ) → BodyFault c body rule at → Typed c (cut at body) × (Typed c (cut (suc at) body) → ⊥)

-- A module has one first fault at most.
abbrev pub OneFirstFault : Type 0
OneFirstFault =
    (m : Module) → (f g : Option ℕ) → (r s at to : ℕ) → FirstFault m f r at → FirstFault m g s to → (f ≡ g) × (r ≡ s) × (at ≡ to)

-- A valid module has no first fault.
abbrev pub ValidHasNoFault : Type 0
ValidHasNoFault = (m : Module) → (f : Option ℕ) → (rule at : ℕ) → Valid m → FirstFault m f rule at → ⊥

-- A module is valid exactly where it breaks no rule outside its bodies and each body has its type.
abbrev pub ValidIsAllHold : Type 0
ValidIsAllHold =
    (m : Module) → Valid m ↔ ((broken_outside m ≡ []) × ((i : ℕ) → (f : Func) → slice_get m.funcs i ≡ Some f → Typed (around m f) f.body))
