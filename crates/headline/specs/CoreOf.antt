-- An emitted module as a rewriting by way of flat code.
use Rattle.std.specs.Prelude.{ℕ, suc, ◌+◌, ◌-◌, List, length, Option, Some, None, Bool, slice_get}
use Rattle.wa_types.specs.Base.{Base}
use Rattle.wa_types.specs.Modules.{defined_at}
use Rattle.wa_types.specs.Pausing.{Settings, calls_in, calls_of, has_number, is_told}
use Rattle.wa_types.specs.Syntax.{Func, Module}
use Rattle.wa_model.specs.Configuration.{Activation, Configuration}
use Rattle.wa_model.specs.Plan.{Plan}
use Rattle.flat_laws.specs.FlatModule.{flat_module}
use Rattle.headline.specs.Core.{Core}
use Rattle.headline.specs.SlimBeside.{SlimAsked, SlimBeside}
use Rattle.headline.specs.EmittedModule.{Framing, role_at, slim_of, terms_of}
use Rattle.guard_form.specs.Numbers.{calls_behind}

-- The place of the call at which a flat activation waits: flattening keeps all calls of the original's pruned body, in their order.
abbrev pub call_place : Option Func → Activation → ℕ
call_place None a = 0
call_place (Some f) a = length (calls_in f) - suc (length (calls_of a.code) + calls_behind a.labels)

-- the module with slim pieces, and all that the headline asks beside it
abbrev pub core_of : Module → Settings → List Bool → (frames : (index : ℕ) → Framing) → Plan → (written : Module) → Core
core_of m s which frames plan p = record {
  original = m;
  settings = s;
  which = which;
  plan = plan;
  flat = slim_of m s which frames;
  written = p;
  role = λ x. role_at m s which frames (is_told (slice_get which x)) x (defined_at m x);
  numbered = has_number m s which;
  lay = λ (a : Activation). (frames a.func).frame_at (call_place (defined_at m a.func) a);
}

-- the same with the flat module itself
abbrev pub flat_core : Module → Settings → List Bool → (frames : (index : ℕ) → Framing) → Plan → (written : Module) → Core
flat_core m s which frames plan p = record (core_of m s which frames plan p) { flat = flat_module (Base m) which }

-- The original beside the module with slim pieces: both run, with so much to spare, or both wait.
abbrev pub RunsBeside : Module → Settings → List Bool → (frames : (index : ℕ) → Framing) → Plan → (written : Module) → (spare : ℕ) → Configuration → Configuration → Type 0
RunsBeside m s which frames plan p = SlimBeside (flat_core m s which frames plan p) (slim_of m s which frames) (terms_of m s which frames)

-- both wait for an import
abbrev pub WaitsBeside : Module → Settings → List Bool → (frames : (index : ℕ) → Framing) → Plan → (written : Module) → (import : ℕ) → Configuration → Configuration → Type 0
WaitsBeside m s which frames plan p = SlimAsked (flat_core m s which frames plan p) (slim_of m s which frames) (terms_of m s which frames)
