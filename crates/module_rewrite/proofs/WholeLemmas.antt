-- What is known of a module that is rewritten.
use Rattle.std.proofs.Common.{◌≡◌, ◌∙◌, ℕ, zero, suc, ◌+◌, ◌-◌, ◌<◌, ◌≤◌, ◌^◌, List, [], ◌∷◌, length, length-append, map, drop, Option, Some, None, Bool, true, false, Err, refl, sym, ap, subst, arith}
use Rattle.std.specs.Prelude.{slice_get, nat_lt, if◌then◌else◌}
use Rattle.std.proofs.lemmas.Bool.{ltb-false}
use Rattle.std.proofs.lemmas.List.{length-map}
use Rattle.wa_types.specs.Frames.{Count}
use Rattle.wa_types.specs.Modules.{imported, imported_func, func_imports}
use Rattle.wa_types.specs.Pausing.{Settings, is_told, TellsMayPause}
use Rattle.wa_types.specs.Runtime.{func_space, global_space}
use Rattle.wa_types.specs.Sizes.{StrictSizeRule}
use Rattle.wa_types.specs.Syntax.{Func, Module}
use Rattle.flat_laws.proofs.FlatModules.{dropped_at}
use Rattle.flatten.specs.Whole.{NonePasses}
use Rattle.emitted_form.specs.Sizes.{FewWritten}
use Rattle.emitted_form.proofs.EmittedBy.{sort_of}
use Rattle.emitted_form.specs.EmittedAs.{AreEmitted}
use Rattle.local_spill.specs.Reserved.{reserved_at}
use Rattle.flatten.specs.declared.fault.FlatFault.{FlatFault}
use Rattle.flatten.specs.declared.fault.FlatFault.TheVariants.{Memory, Locals}
use Rattle.module_rewrite.specs.ByteFaults as B
use Rattle.module_rewrite.specs.Faults.{of_flat}
use Rattle.module_rewrite.specs.Taking.{IsRefused}
use Rattle.module_rewrite.specs.Whole.{Refuses}
use Rattle.module_rewrite.specs.WholeBytes.{EmitsModule}
use Rattle.module_rewrite.proofs.Spaces.{funcs_counted, globals_counted}

pub passes_at : (m : Module) (ws : List Bool) (fs : List Func) (i : ℕ) (f : Func) → NonePasses m ws fs → slice_get fs i ≡ Some f → is_told (slice_get ws i) ≡ true → Count m f ≤ 50000
passes_at m [] fs i f h e t = cc
passes_at m (w ∷ ws) [] i f h e t = cc
passes_at m (true ∷ ws) (g ∷ fs) zero f h e t = let z : g ≡ f = cc in subst (λ k. Count m k ≤ 50000) z h.0
passes_at m (false ∷ ws) (g ∷ fs) zero f h e t = cc
passes_at m (true ∷ ws) (g ∷ fs) (suc i) f h e t = passes_at m ws fs i f h.1 e t
passes_at m (false ∷ ws) (g ∷ fs) (suc i) f h e t = passes_at m ws fs i f h e t

-- where none passes, all that are written have few locals
pub few_written : (m : Module) (which : List Bool) → NonePasses m (drop (func_imports m) which) m.funcs → FewWritten m which
few_written m which h x f = by (nat_lt x (func_imports m)) refl
  where
    by : (b : Bool) → nat_lt x (func_imports m) ≡ b → (if b then None else slice_get m.funcs (x - func_imports m)) ≡ Some f → is_told (slice_get which x) ≡ true → Count m f ≤ 50000
    by true e is t = cc
    by false e is t =
        let le = ltb-false x (func_imports m) e in
        let z : x ≡ func_imports m + (x - func_imports m) = omega arith in
        passes_at m (drop (func_imports m) which) m.funcs (x - func_imports m) f h is (ap is_told (dropped_at (func_imports m) (x - func_imports m) which)
        ∙ ap (λ k. is_told (slice_get which k)) (sym z) ∙ t)

-- one answer a function
pub which_long : (m : Module) (s : Settings) (which : List Bool) → TellsMayPause m s which → length which ≡ func_imports m + length m.funcs
which_long m s which t =
    let a = t.len in
    let b = length-append (imported imported_func m) (map sort_of m.funcs) in
    let c = length-map m.funcs sort_of in omega arith

pub space_small : (m : Module) → StrictSizeRule m → func_space m < 2 ^ 31
space_small m h = let a = funcs_counted m in let b = h.funcs in omega arith

pub globals_small : (m : Module) → StrictSizeRule m → global_space m < 2 ^ 31
globals_small m h = let a = globals_counted m in let b = h.globals in omega arith

emitted_count : (m : Module) (s : Settings) (which : List Bool) (x : ℕ) (fs gs : List Func) → AreEmitted m s which x fs gs → length gs ≡ length fs
emitted_count m s which x [] [] h = refl
emitted_count m s which x [] (g ∷ gs) h = absurd h
emitted_count m s which x (f ∷ fs) [] h = absurd h
emitted_count m s which x (f ∷ fs) (g ∷ gs) h = ap suc (emitted_count m s which (suc x) fs gs h.1)

-- as many functions as before
pub made_space : (m : Module) (s : Settings) (which : List Bool) (gs : List Func) → AreEmitted m s which (func_imports m) m.funcs gs → StrictSizeRule m → func_space (record m { funcs = gs }) < 2 ^ 31
made_space m s which gs h strict =
    let n = emitted_count m s which (func_imports m) m.funcs gs h in
    let a = length-append (imported imported_func m) (map sort_of gs) in
    let b = length-append (imported imported_func m) (map sort_of m.funcs) in
    let c = length-map gs sort_of in
    let d = length-map m.funcs sort_of in
    let k = space_small m strict in omega (arith, n, a, b, c, d, k)

pub none_is : {X : Type 0} (o : Option X) → ((x : X) → o ≡ Some x → ⊥) → o ≡ None
none_is None h = refl
none_is (Some x) h = absurd (h x refl)

-- a function with too many locals is a fault of rewriting
pub taking_fault : (m : Module) (s : Settings) (which : List Bool) (e : FlatFault) → reserved_at m ≡ None → TellsMayPause m s which → IsRefused m which e → Refuses m s (of_flat e)
taking_fault m s which Memory free tells h = tt
taking_fault m s which (Locals func count) free tells h = record { free = free; which = which; tells = tells; first = h }

-- .. and of writing its bytes
pub bytes_fault : (m : Module) (s : Settings) (which : List Bool) (e : FlatFault) → reserved_at m ≡ None → TellsMayPause m s which → IsRefused m which e → EmitsModule m s (Err (B.of_flat e))
bytes_fault m s which Memory free tells h = tt
bytes_fault m s which (Locals func count) free tells h = record { free = free; which = which; tells = tells; first = h }
