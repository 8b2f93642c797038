-- Which source modules are accepted, what OUT holds of one that is rewritten, and why others are refused.
use Rattle.std.specs.Prelude.{◌≡◌, ◌<◌, ◌≤◌, ◌^◌, ℕ, List, All, [], ◌∷◌, ◌++◌, length, count_by, drop, slice_get, Option, Some, None, Bool, true, false}
use Rattle.vault_port.specs.Files.{Files, bytes_of, ChangesOnly}
use Rattle.wa_types.specs.declared.bounds.LimitKind.{LimitKind}
use Rattle.wa_types.specs.declared.bounds.LimitKind.TheVariants.{Locals, Output}
use Rattle.wa_types.specs.declared.syntax.Import.{Import}
use Rattle.wa_types.specs.declared.syntax.Export.{Export}
use Rattle.wa_types.specs.Encoding.{Enc}
use Rattle.wa_types.specs.FirstFault.{FirstFault}
use Rattle.wa_types.specs.Frames.{Count}
use Rattle.wa_types.specs.Marks.{first_above}
use Rattle.wa_types.specs.ModuleBounds.{source_bounds, prepared_bounds}
use Rattle.wa_types.specs.Modules.{func_imports}
use Rattle.wa_types.specs.Norm.{Norm}
use Rattle.wa_types.specs.Pausing.{Settings, TellsMayPause}
use Rattle.wa_types.specs.Sizes.{WellFormed}
use Rattle.wa_types.specs.Syntax.{Func, Module}
use Rattle.wa_types.specs.Validity.{Valid}
use Rattle.script_model.specs.Command.{Manner}
use Rattle.script_model.specs.Transcript as T
use Rattle.script_model.specs.Transcript.{Refusal}
use Rattle.wasm_reader.specs.declared.read_fault.ReadFault.TheVariants.{Malformed, Float, Deep, Limit}
use Rattle.wasm_reader.specs.Answers.{IsAccepted, IsRefused}
use Rattle.wasm_reader.specs.Held.{Holds}
use Rattle.local_spill.specs.declared.reserving.ReservedAt.{ReservedAt}
use Rattle.local_spill.specs.declared.reserving.ReservedAt.TheVariants.{Import as at_import, Export as at_export}
use Rattle.local_spill.specs.Reserved.{reserved_at}
use Rattle.transform_command.specs.Manners.{RewritesAs, plainly}

-- The bytes spell this module, without a float and within the limits of a source module, under no reserved name.
pub record IsFree (bytes : List ℕ) (m : Module) : Type 0 where
  pub read : IsAccepted source_bounds bytes m
  pub free : reserved_at m ≡ None

-- .. and it is valid
pub record IsValidSource (bytes : List ℕ) (m : Module) : Type 0 where
  pub unreserved : IsFree bytes m
  pub valid : Valid m

-- The file holds bytes that are a valid source.
pub record HoldsValidSource (files : Option Files) (name : List ℕ) (m : Module) : Type 0 where
  pub bytes : List ℕ
  pub holds : Holds files name bytes
  pub are_bytes : All (λ x. x < 2 ^ 8) bytes
  pub source : IsValidSource bytes m

-- the parameters and locals, as they are rewritten, of the functions that are told
abbrev pub told_counts : Module → List Bool → List Func → List ℕ
told_counts m [] fs = []
told_counts m (w ∷ ws) [] = []
told_counts m (true ∷ ws) (f ∷ fs) = Count m f ∷ told_counts m ws fs
told_counts m (false ∷ ws) (f ∷ fs) = told_counts m ws fs

-- .. of all, where `which` tells imported functions first
abbrev pub rewritten_counts : Module → (which : List Bool) → List ℕ
rewritten_counts m which = told_counts m (drop (func_imports m) which) m.funcs

-- .. and none of its functions that may pause, as `which` tells them, has too many locals when it is rewritten
pub record IsRewritable (s : Settings) (bytes : List ℕ) (m : Module) (which : List Bool) : Type 0 where
  pub accepted : IsValidSource bytes m
  pub tells : TellsMayPause m s which
  pub few : first_above 50000 (rewritten_counts m which) ≡ None

-- .. its numbers are in their ranges; and what is written, the bytes of the other module, which is it, rewritten, isn't too long
pub record IsSource (how : Manner) (bytes : List ℕ) (m : Module) (which : List Bool) (p : Module) : Type 0 where
  pub rewritable : IsRewritable how.settings bytes m which
  pub well_formed : WellFormed m
  pub rewrites : RewritesAs how m p
  pub short : length (Enc p) ≤ 67108864

-- OUT holds the bytes of a module that is that of IN, rewritten in this manner. They spell a valid module without a float, which passes
-- no bound of a prepared module, and under the host's protocol behaves like the original. The other files are as before.
pub record IsTransformed (how : Manner) (input output : List ℕ) (old new : Files) : Type 0 where
  pub «module» : Module
  pub which : List Bool
  pub emitted : Module
  pub source : IsSource how (bytes_of old input) «module» which emitted
  pub written : ChangesOnly output (Enc emitted) old new
  pub prepared : IsAccepted prepared_bounds (Enc emitted) (Norm emitted)
  pub rewritten : RewritesAs how «module» (Norm emitted)

-- the joined name of an import
abbrev pub joined_name : Option Import → List ℕ
joined_name None = []
joined_name (Some i) = i.«module» ++ 46 ∷ i.base

-- the name of an export that is there
abbrev pub exported_name : Option Export → List ℕ
exported_name None = []
exported_name (Some e) = e.name

-- the name at which a module is reserved
abbrev pub reserved_name : Module → ReservedAt → List ℕ
reserved_name m (at_import i) = joined_name (slice_get m.imports i)
reserved_name m (at_export i) = exported_name (slice_get m.exports i)

-- why a source is refused; two limits are looked at only once it is rewritten
pub data Cause : Type 0 where
  malformed float deep : (at : ℕ) → Cause
  limit : (what : LimitKind) → (found : ℕ) → Cause
  reserved : (name : List ℕ) → Cause
  invalid : (func : Option ℕ) → (rule at : ℕ) → Cause
  rewritten_locals long_output : (found : ℕ) → Cause

-- The bytes are refused for this, each cause behind those before it: what reading refuses; a reserved name; what isn't
-- valid; the first function that may pause whose locals are too many when it is rewritten; what would be written is too long.
abbrev pub IsRefusedIn : Manner → List ℕ → Cause → Type 0
IsRefusedIn how bytes (malformed at) = IsRefused source_bounds bytes (Malformed at)
IsRefusedIn how bytes (float at) = IsRefused source_bounds bytes (Float at)
IsRefusedIn how bytes (deep at) = IsRefused source_bounds bytes (Deep at)
IsRefusedIn how bytes (limit what found) = IsRefused source_bounds bytes (Limit what found)
IsRefusedIn how bytes (reserved name) = (m : Module) × (at : ReservedAt) × IsAccepted source_bounds bytes m × (reserved_at m ≡ Some at) × (name ≡ reserved_name m at)
IsRefusedIn how bytes (invalid func rule at) = (m : Module) × IsFree bytes m × FirstFault m func rule at
IsRefusedIn how bytes (rewritten_locals found) =
    (m : Module) × (which : List Bool) × IsValidSource bytes m × TellsMayPause m how.settings which × (first_above 50000 (rewritten_counts m which) ≡ Some found)
IsRefusedIn how bytes (long_output found) =
    (m : Module) × (which : List Bool) × (p : Module) × IsRewritable how.settings bytes m which × (found ≡ length (Enc p)) × (67108864 < found) × RewritesAs how m p

-- .. where it is rewritten by these settings without asserts
abbrev pub IsRefusedFor : Settings → List ℕ → Cause → Type 0
IsRefusedFor s bytes cause = IsRefusedIn (plainly s) bytes cause

-- nothing is written yet, so that no length is refused
abbrev pub IsUnwritten : Cause → Type 0
IsUnwritten (long_output found) = ⊥
IsUnwritten _ = Unit {0}

-- the refusal that is told
abbrev pub refusal_for : Cause → Refusal
refusal_for (malformed at) = T.malformed at
refusal_for (float at) = T.float at
refusal_for (deep at) = T.nesting at
refusal_for (limit what found) = T.limit what found
refusal_for (reserved name) = T.reserved name
refusal_for (invalid func rule at) = T.invalid func rule at
refusal_for (rewritten_locals found) = T.limit Locals found
refusal_for (long_output found) = T.limit Output found

-- The bytes are an accepted source of so many functions, so many of which may pause; the text is that of the rewritten module, and
-- spells one that is within the bounds of a prepared module, and is the source's, rewritten.
abbrev pub IsRewritten : Manner → List ℕ → (functions instrumented : ℕ) → List ℕ → Type 0
IsRewritten how bytes functions instrumented text =
    (m : Module) × (which : List Bool) × (p : Module) × IsSource how bytes m which p × (functions ≡ length m.funcs) × (instrumented ≡ count_by (λ b. b) which)
    × (text ≡ Enc p) × IsAccepted prepared_bounds (Enc p) (Norm p) × RewritesAs how m (Norm p)
