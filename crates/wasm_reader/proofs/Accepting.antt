-- What is accepted keeps the size rule.
use Rattle.std.proofs.Common.{◌≡◌, ℕ, ◌+◌, ◌*◌, ◌<◌, ◌≤◌, ◌^◌, ◌⊎◌, inl, inr, List, [], ◌∷◌, length, map, flat_map, refl, ap, sym, ◌∙◌, subst, arith, All, Some, None}
use Rattle.std.proofs.lemmas.List.Elements.{All-head, All-tail, All-cons}
use Rattle.wa_types.specs.declared.syntax.Module.{Module as ModuleValue}
use Rattle.wa_types.specs.declared.syntax.Func.{Func as FuncValue}
use Rattle.wa_types.specs.View.{func_of, module_of}
use Rattle.file_laws.proofs.FileReads.{whole_spelled}
use Rattle.wa_types.specs.Begun.{IsWhole}
use Rattle.wa_types.specs.Binary.{RawType, RawBody, Section}
use Rattle.wa_types.specs.Marks.{parameter_counts, local_counts, first_above}
use Rattle.wa_types.specs.ModuleBounds.{ModuleBounds, source_bounds, prepared_bounds}
use Rattle.wa_types.specs.Reading.{types_in, IsModule, SpellsModule}
use Rattle.wa_types.specs.Spells.{bodies_in}
use Rattle.wa_types.specs.Sizes.{MeetsSizes, SizeRule, StrictSizeRule}
use Rattle.wa_types.specs.Syntax.{Func, Module}
use Rattle.wasm_reader.specs.Answers.{IsFile, IsShallow, IsAccepted}
use Rattle.wasm_reader.specs.Locals.{func_locals, module_locals}
use Rattle.wasm_reader.proofs.ModulesMade.{module_made}
use Rattle.wasm_reader.proofs.SpelledSizes.{none_above, spelled_locals, spelled_runs, spelled_sizes}

-- what is accepted is spelled
pub accepted_spelled : (b : ModuleBounds) (bytes : List ℕ) (m : Module) → IsAccepted b bytes m → SpellsModule bytes m
accepted_spelled b bytes m a = record { sections = a.sections; spells = a.within.before.before.before.before.before.file.spells; is_module = a.is_module }

-- a whole file is spelled
pub file_of : (b : ModuleBounds) (bytes : List ℕ) → length bytes ≤ b.file → IsWhole bytes → (ss : List Section) × IsFile b bytes ss
file_of b bytes few whole = let s = whole_spelled bytes whole in (s.0, record { few = few; spells = s.1 })

-- a file that is shallow is a module
pub module_in : (b : ModuleBounds) (bytes : List ℕ) (ss : List Section) → IsShallow b bytes ss → (m : Module) × IsModule ss m
module_in b bytes ss s = module_made bytes ss s.before.before.before.before.file.spells s.before.before.before.before.whole_numbers

pub spelled_in : (b : ModuleBounds) (bytes : List ℕ) (ss : List Section) (m : Module) → IsShallow b bytes ss → IsModule ss m → SpellsModule bytes m
spelled_in b bytes ss m s i = record { sections = ss; spells = s.before.before.before.before.file.spells; is_module = i }

-- What stands where a file was judged, and a module built.
pub record Stands (b : ModuleBounds) (bytes : List ℕ) (m : Module) : Type 0 where
  pub sections : List Section
  pub shallow : IsShallow b bytes sections
  pub is_module : IsModule sections m

pub stands : (b : ModuleBounds) (bytes : List ℕ) (m : Module) → length bytes ≤ b.file → IsWhole bytes
    → ((ss : List Section) → IsFile b bytes ss → IsShallow b bytes ss) → ((ss : List Section) → IsShallow b bytes ss → (n : Module) → IsModule ss n → m ≡ n) → Stands b bytes m
stands b bytes m few whole judged built =
    let f = file_of b bytes few whole in
    let shallow = judged f.0 f.1 in
    let n = module_in b bytes f.0 shallow in
    record { sections = f.0; shallow = shallow; is_module = subst (IsModule f.0) (sym (built f.0 shallow n.0 n.1)) n.1 }

-- the bodies' runs are few
pub few_runs : (b : ModuleBounds) (bytes : List ℕ) (r : ModuleValue) → Stands b bytes (module_of r) → length bytes < 2 ^ 31 → All (λ (f : FuncValue). length f.locals.items < 2 ^ 31) r.funcs.items
few_runs b bytes r s l = back r.funcs.items (spelled_runs bytes (module_of r) (spelled_in b bytes s.sections (module_of r) s.shallow s.is_module))
  where
    back : (fs : List FuncValue) → All (λ (f : Func). length f.locals ≤ length bytes) (map func_of fs) → All (λ (f : FuncValue). length f.locals.items < 2 ^ 31) fs
    back [] h = λ k d z. absurd (omega (arith, z))
    back (f ∷ fs) h =
        All-cons (λ (f : FuncValue). length f.locals.items < 2 ^ 31) f fs (omega (arith, l, All-head (λ (f : Func). length f.locals ≤ length bytes) (func_of f) (map func_of fs) h))
        (back fs (All-tail (λ (f : Func). length f.locals ≤ length bytes) (func_of f) (map func_of fs) h))

-- the locals of the module are those of the sections
pub same_above : (bound : ℕ) (ss : List Section) (m : Module) → IsModule ss m → first_above bound (local_counts ss) ≡ first_above bound (module_locals m)
unfolding module_locals
same_above bound ss m i = ap (first_above bound) (spelled_locals ss m i)

sizes : (lists items : ℕ) (b : ModuleBounds) (bytes : List ℕ) (m : Module) → IsAccepted b bytes m
    → 2 * b.file < lists → 1001 * b.body + 50000 < items → b.parameters ≡ 1000 → b.locals ≡ 50000 → MeetsSizes lists items m
unfolding accepted_spelled
sizes lists items b bytes m a l k p q =
    let few = a.within.before.before.before.before.before.file.few in
    let s = accepted_spelled b bytes m a in
    let params = subst (λ n. first_above n (parameter_counts a.sections) ≡ None) p a.within.before.before.before.parameters in
    let locals = subst (λ n. first_above n (local_counts a.sections) ≡ None) q a.within.locals in
    spelled_sizes lists items b.body bytes m s (omega (arith, few, l)) k
    (none_above (λ (t : RawType). length t.params) 1000 (flat_map types_in a.sections) params)
    (none_above (λ (x : RawBody). x.size) b.body (flat_map bodies_in a.sections) a.within.before.before.bodies)
    (none_above (func_locals m.types) 50000 m.funcs (subst (λ ns. first_above 50000 ns ≡ None) (spelled_locals a.sections m a.is_module) locals))

pub accepted_sizes : (b : ModuleBounds) (bytes : List ℕ) (m : Module) → (b ≡ source_bounds) ⊎ (b ≡ prepared_bounds) → IsAccepted b bytes m → SizeRule m
accepted_sizes b bytes m (inl e) a =
    sizes (2 ^ 32) (2 ^ 56) source_bounds bytes m (subst (λ z. IsAccepted z bytes m) e a) (omega arith) (omega arith) refl refl
accepted_sizes b bytes m (inr e) a =
    sizes (2 ^ 32) (2 ^ 56) prepared_bounds bytes m (subst (λ z. IsAccepted z bytes m) e a) (omega arith) (omega arith) refl refl

pub accepted_strictly : (b : ModuleBounds) (bytes : List ℕ) (m : Module) → b ≡ source_bounds → IsAccepted b bytes m → StrictSizeRule m
accepted_strictly b bytes m e a =
    sizes (2 ^ 31) (2 ^ 31) source_bounds bytes m (subst (λ z. IsAccepted z bytes m) e a) (omega arith) (omega arith) refl refl

-- what stands is accepted, where no function has too many locals
pub accepted : (b : ModuleBounds) (bytes : List ℕ) (m : Module) (n : ℕ) → Stands b bytes m → n ≡ b.locals → None ≡ first_above n (module_locals m) → IsAccepted b bytes m
accepted b bytes m n s l e =
    record {
      sections = s.sections;
      within = record {
        before = s.shallow;
        locals = same_above b.locals s.sections m s.is_module ∙ ap (λ k. first_above k (module_locals m)) (sym l)
            ∙ sym e;
      };
      is_module = s.is_module;
    }

pub too_many : (b : ModuleBounds) (bytes : List ℕ) (m : Module) (n found : ℕ) (s : Stands b bytes m) → n ≡ b.locals → Some found ≡ first_above n (module_locals m)
    → first_above b.locals (local_counts s.sections) ≡ Some found
too_many b bytes m n found s l e = same_above b.locals s.sections m s.is_module ∙ ap (λ k. first_above k (module_locals m)) (sym l) ∙ sym e

-- a file within either bounds is short
pub few_bytes : (b : ModuleBounds) (bytes : List ℕ) → (b ≡ source_bounds) ⊎ (b ≡ prepared_bounds) → length bytes ≤ b.file → length bytes < 2 ^ 31
few_bytes b bytes (inl e) l = omega (arith, l, ap (λ (z : ModuleBounds). z.file) e)
few_bytes b bytes (inr e) l = omega (arith, l, ap (λ (z : ModuleBounds). z.file) e)

pub short_file : (b : ModuleBounds) (bytes : List ℕ) → (b ≡ source_bounds) ⊎ (b ≡ prepared_bounds) → length bytes ≤ b.file → length bytes < 2 ^ 32
short_file b bytes columns few = omega (arith, few_bytes b bytes columns few)
