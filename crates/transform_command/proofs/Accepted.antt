-- What an accepted source is: few functions and bytes, and what is refused of it when it is rewritten.
use Rattle.std.proofs.Common.{◌≡◌, ℕ, zero, suc, ◌+◌, ◌-◌, ◌≤◌, ◌<◌, ◌^◌, inl, inr, List, [], ◌∷◌, drop, length, Bool, true, false, Option, Some, None, refl, sym, ap, ◌∙◌, subst, arith}
use Rattle.std.specs.Prelude.{All, Err, Ok, slice_get, nat_lt, if◌then◌else◌}
use Rattle.std.proofs.lemmas.Bool.{le-ltb, lt-ltb, ltb-false}
use Rattle.wa_types.specs.declared.syntax.Module.{Module as ModuleValue}
use Rattle.wa_types.specs.Encoding.{Enc}
use Rattle.wa_types.specs.Frames.{Count}
use Rattle.wa_types.specs.Marks.{first_above}
use Rattle.wa_types.specs.ModuleBounds.{source_bounds, prepared_bounds}
use Rattle.wa_types.specs.Modules.{func_imports}
use Rattle.wa_types.specs.Norm.{Norm}
use Rattle.wa_types.specs.Pausing.{Settings, TellsMayPause, is_told}
use Rattle.wa_types.specs.Sizes.{StrictSizeRule, WellFormed}
use Rattle.wa_types.specs.Syntax.{Func, Module}
use Rattle.wa_types.specs.Validity.{Valid}
use Rattle.wa_types.specs.View.{module_of}
use Rattle.file_laws.proofs.SpelledFits.{spelled_fits}
use Rattle.wasm_reader.specs.Answers.{IsAccepted}
use Rattle.wasm_reader.proofs.Accepting.{accepted_spelled, accepted_strictly}
use Rattle.wasm_reader.proofs.ShortFile.{written_short}
use Rattle.flatten.specs.Whole.{NonePasses, FirstPasses}
use Rattle.emitted_form.specs.Sizes.{FewWritten}
use Rattle.emitted_form.proofs.BytesByPolicy.{prepared_as, spelled_as}
use Rattle.emitted_form.specs.EmittedAs.{EmittedAs}
use Rattle.emitted_form.specs.PolicyLaws.{CanBeEmitted}
use Rattle.emitted_form.proofs.Numbers.{functions_counted}
use Rattle.local_spill.specs.Reserved.{reserved_at}
use Rattle.module_rewrite.specs.declared.fault.RewriteFault.{RewriteFault}
use Rattle.module_rewrite.specs.declared.fault.RewriteFault.TheVariants.{Memory as rewrite_memory, Locals as rewrite_locals, Reserved as rewrite_reserved}
use Rattle.module_rewrite.specs.Whole.{Asyncifies}
use Rattle.module_rewrite.specs.declared.byte_fault.EmitFault.{EmitFault}
use Rattle.module_rewrite.specs.declared.byte_fault.EmitFault.TheVariants.{Memory as emit_memory, Locals as emit_locals, TooLong as emit_too_long}
use Rattle.module_rewrite.specs.WholeBytes.{CanBeWritten}
use Rattle.module_rewrite.specs.declared.bytes_whole.Emitted.{Emitted}
use Rattle.norm_laws.proofs.Norms.{norm_rewritten}
use Rattle.script_model.specs.Command.{Manner}
use Rattle.assert_laws.specs.EmittedWithAsserts.{EmittedWithAsserts}
use Rattle.assert_laws.proofs.BytesWithAsserts.{prepared_law, spelled_law}
use Rattle.transform_command.specs.Manners.{EmitsBy, RewritesAs, plainly}
use Rattle.transform_command.proofs.NormWithAsserts.{norm_rewritten_with}
use Rattle.module_files.specs.declared.fault.FileFault.{FileFault}
use Rattle.module_files.specs.Faults.{IsFaultOf, IsInvalid, IsUnread}
use Rattle.script_model.specs.Transcript as T
use Rattle.script_model.specs.Transcript.{Refusal}
use Rattle.transform_command.specs.Sources.{IsFree, IsValidSource, told_counts, rewritten_counts, malformed, float, deep, limit, invalid, rewritten_locals, long_output}
use Rattle.transform_command.specs.SourceRefusals.{IsOfEmit, IsOfRewrite, IsRefusedAs, IsRefusedUnwritten, IsUnreserved}

-- ---- locals

-- none passes
pub none_passes : (m : Module) (ws : List Bool) (fs : List Func) → NonePasses m ws fs → first_above 50000 (told_counts m ws fs) ≡ None
none_passes m [] fs h = refl
none_passes m (w ∷ ws) [] h = refl
none_passes m (true ∷ ws) (f ∷ fs) h = by (nat_lt 50000 (Count m f)) (le-ltb 50000 (Count m f) h.0) (none_passes m ws fs h.1)
  where
    by : (b : Bool) → b ≡ false → first_above 50000 (told_counts m ws fs) ≡ None → (if b then Some (Count m f) else first_above 50000 (told_counts m ws fs)) ≡ None
    by true e n = cc
    by false e n = n
none_passes m (false ∷ ws) (f ∷ fs) h = none_passes m ws fs h

-- the first that passes
pub first_passes : (m : Module) (func count x : ℕ) (ws : List Bool) (fs : List Func) → FirstPasses m func count x ws fs → first_above 50000 (told_counts m ws fs) ≡ Some count
first_passes m func count x [] fs h = absurd h
first_passes m func count x (w ∷ ws) [] h = absurd h
first_passes m func count x (true ∷ ws) (f ∷ fs) h = elim h [
  | inl here ↦ by (nat_lt 50000 (Count m f)) (lt-ltb 50000 (Count m f) here.2) here.1
  | inr later ↦ past (nat_lt 50000 (Count m f)) (le-ltb 50000 (Count m f) later.0) (first_passes m func count (suc x) ws fs later.1)
]
  where
    by : (b : Bool) → b ≡ true → count ≡ Count m f → (if b then Some (Count m f) else first_above 50000 (told_counts m ws fs)) ≡ Some count
    by true e same = ap (λ n. Some n) (sym same)
    by false e same = cc

    past : (b : Bool) → b ≡ false → first_above 50000 (told_counts m ws fs) ≡ Some count → (if b then Some (Count m f) else first_above 50000 (told_counts m ws fs)) ≡ Some count
    past true e n = cc
    past false e n = n
first_passes m func count x (false ∷ ws) (f ∷ fs) h = first_passes m func count (suc x) ws fs h

-- a number that isn't found is low, and none is found behind it
low_first : (c : ℕ) (o : Option ℕ) (b : Bool) → nat_lt 50000 c ≡ b → (if b then Some c else o) ≡ None → c ≤ 50000
low_first c o true e n = cc
low_first c o false e n = ltb-false 50000 c e

none_behind : (c : ℕ) (o : Option ℕ) (b : Bool) → (if b then Some c else o) ≡ None → o ≡ None
none_behind c o true n = cc
none_behind c o false n = n

-- where none is above the bound
few_told : (m : Module) (ws : List Bool) (fs : List Func) (i : ℕ) (f : Func) → first_above 50000 (told_counts m ws fs) ≡ None → slice_get fs i ≡ Some f → is_told (slice_get ws i) ≡ true
    → Count m f ≤ 50000
few_told m [] fs i f n e t = cc
few_told m (w ∷ ws) [] i f n e t = cc
few_told m (true ∷ ws) (g ∷ fs) zero f n e t =
    let same : g ≡ f = cc in
    let c = ap (Count m) same in
    let l = low_first (Count m g) (first_above 50000 (told_counts m ws fs)) (nat_lt 50000 (Count m g)) refl n in omega (arith, l, c)
few_told m (true ∷ ws) (g ∷ fs) (suc i) f n e t =
    few_told m ws fs i f (none_behind (Count m g) (first_above 50000 (told_counts m ws fs)) (nat_lt 50000 (Count m g)) n) e t
few_told m (false ∷ ws) (g ∷ fs) zero f n e t = cc
few_told m (false ∷ ws) (g ∷ fs) (suc i) f n e t = few_told m ws fs i f n e t

dropped_at : {X : Type 0} (n i : ℕ) (xs : List X) → slice_get (drop n xs) i ≡ slice_get xs (n + i)
dropped_at zero i xs = let k : 0 + i ≡ i = omega arith in ap (slice_get xs) (sym k)
dropped_at (suc n) i [] = refl
dropped_at (suc n) i (x ∷ xs) = let k : suc (n + i) ≡ suc n + i = omega arith in dropped_at n i xs ∙ ap (slice_get (x ∷ xs)) k

pub few_written : (m : Module) (which : List Bool) → first_above 50000 (rewritten_counts m which) ≡ None → FewWritten m which
few_written m which n x f e t = by (nat_lt x (func_imports m)) refl e
  where
    by : (b : Bool) → nat_lt x (func_imports m) ≡ b → (if b then None else slice_get m.funcs (x - func_imports m)) ≡ Some f → Count m f ≤ 50000
    by true b e = cc
    by false b e =
        let le = ltb-false x (func_imports m) b in
        let sum : func_imports m + (x - func_imports m) ≡ x = omega (arith, le) in
        few_told m (drop (func_imports m) which) m.funcs (x - func_imports m) f n e
        (ap is_told (dropped_at (func_imports m) (x - func_imports m) which ∙ ap (slice_get which) sum) ∙ t)

-- ---- a valid source

module _ (bytes : List ℕ) (m : Module) (src : IsValidSource bytes m) where
  read : IsAccepted source_bounds bytes m
  read = src.unreserved.read

  pub strict : StrictSizeRule m
  strict = accepted_strictly source_bounds bytes m refl read

  pub well : All (λ x. x < 2 ^ 8) bytes → WellFormed m
  well are_bytes = spelled_fits bytes m are_bytes (accepted_spelled source_bounds bytes m read)

  pub few_functions : length m.funcs ≤ 100000
  few_functions =
      let n = functions_counted read.sections m read.is_module in omega (arith, n, read.within.before.before.before.before.functions)

  pub few_bytes : length (Enc m) ≤ 2 ^ 36
  few_bytes =
      let l = written_short bytes m (accepted_spelled source_bounds bytes m read) in
      omega (arith, l, read.within.before.before.before.before.before.file.few)

  module _ (s : Settings) (which : List Bool) (few : first_above 50000 (rewritten_counts m which) ≡ None) (tells : TellsMayPause m s which) where
    pub can : CanBeEmitted m s which
    can = record { valid = src.valid; sizes = strict; few = few_written m which few; tells = tells }

    -- what is written, where it isn't long, is a prepared module
    pub source_prepared : (p : Module) → EmittedAs m s which p → All (λ x. x < 2 ^ 8) bytes → length (Enc p) ≤ 67108864 → IsAccepted prepared_bounds (Enc p) (Norm p)
    source_prepared p e are_bytes short = prepared_as m s which p bytes can e read short (spelled_as m s which p can e (well are_bytes) short)

    -- .. with asserts too
    pub asserted_prepared : (p : Module) → EmittedWithAsserts m s which p → All (λ x. x < 2 ^ 8) bytes → length (Enc p) ≤ 67108864 → IsAccepted prepared_bounds (Enc p) (Norm p)
    asserted_prepared p e are_bytes short = prepared_law m s which p bytes can e read short (spelled_law m s which p can e (well are_bytes) short)

-- the parts of a valid source
pub made_source : (bytes : List ℕ) (m v : ModuleValue) → v ≡ m → IsAccepted source_bounds bytes (module_of m) → reserved_at (module_of m) ≡ None → Valid (module_of v)
    → IsValidSource bytes (module_of v)
made_source bytes m v e a r d = record { unreserved = subst (λ (z : ModuleValue). IsFree bytes (module_of z)) (sym e) (record { read = a; free = r }); valid = d }

-- ---- refusals

-- what reading refuses, or validity
pub unread_refused : (how : Manner) (bytes : List ℕ) (r : Refusal) → IsUnread source_bounds bytes r → IsRefusedUnwritten how bytes r
unread_refused how bytes (T.malformed at) h = (malformed at, h, tt, refl)
unread_refused how bytes (T.float at) h = (float at, h, tt, refl)
unread_refused how bytes (T.nesting at) h = (deep at, h, tt, refl)
unread_refused how bytes (T.limit what found) h = (limit what found, h, tt, refl)
unread_refused how bytes _ h = absurd h

pub invalid_refused : (how : Manner) (bytes : List ℕ) (m : Module) → IsFree bytes m → (r : Refusal) → IsInvalid m r → IsRefusedUnwritten how bytes r
invalid_refused how bytes m free (T.invalid func rule at) h = (invalid func rule at, (m, free, h), tt, refl)
invalid_refused how bytes m free _ h = absurd h

-- what is refused before it is written is refused
pub refused_as : (how : Manner) (bytes : List ℕ) (r : Refusal) → IsRefusedUnwritten how bytes r → IsRefusedAs how bytes r
refused_as how bytes r h = (h.0, h.1, h.3)

-- what rewriting refuses
pub rewrite_refused : (s : Settings) (bytes : List ℕ) (m : Module) (fault : RewriteFault) (r : FileFault) → IsValidSource bytes m → Asyncifies m s (Err fault) → IsOfRewrite fault r
    → IsFaultOf (IsRefusedUnwritten (plainly s) bytes) r
rewrite_refused s bytes m rewrite_memory r src h e = subst (IsFaultOf (IsRefusedUnwritten (plainly s) bytes)) (sym e) tt
rewrite_refused s bytes m (rewrite_locals func count) r src h e =
    subst (IsFaultOf (IsRefusedUnwritten (plainly s) bytes)) (sym e)
    (rewritten_locals count, (m, h.which, src, h.tells, first_passes m func count (func_imports m) (drop (func_imports m) h.which) m.funcs h.first), tt, refl)
rewrite_refused s bytes m (rewrite_reserved at) r src h e = absurd e

pub none_reserved : (s : Settings) (bytes : List ℕ) (m : Module) (fault : RewriteFault) → IsValidSource bytes m → Asyncifies m s (Err fault) → IsUnreserved fault
none_reserved s bytes m rewrite_memory src h = tt
none_reserved s bytes m (rewrite_locals func count) src h = tt
none_reserved s bytes m (rewrite_reserved at) src h = let bad = sym src.unreserved.free ∙ h in cc

-- what writing it refuses
emit_refused_by : (b : Bool) (s : Settings) (bytes : List ℕ) (m : Module) (fault : EmitFault) (r : FileFault) → IsValidSource bytes m → EmitsBy b m s (Err fault) → IsOfEmit fault r
    → IsFaultOf (IsRefusedAs (record { settings = s; asserts = b }) bytes) r
emit_refused_by b s bytes m emit_memory r src h e = subst (IsFaultOf (IsRefusedAs (record { settings = s; asserts = b }) bytes)) (sym e) tt
emit_refused_by false s bytes m (emit_locals func count) r src h e =
    subst (IsFaultOf (IsRefusedAs (record { settings = s; asserts = false }) bytes)) (sym e)
    (rewritten_locals count, (m, h.which, src, h.tells, first_passes m func count (func_imports m) (drop (func_imports m) h.which) m.funcs h.first), refl)
emit_refused_by true s bytes m (emit_locals func count) r src h e =
    subst (IsFaultOf (IsRefusedAs (record { settings = s; asserts = true }) bytes)) (sym e)
    (rewritten_locals count, (m, h.which, src, h.tells, first_passes m func count (func_imports m) (drop (func_imports m) h.which) m.funcs h.first), refl)
emit_refused_by false s bytes m (emit_too_long len) r src h e =
    let few = none_passes m (drop (func_imports m) h.which) m.funcs h.can.few in
    subst (IsFaultOf (IsRefusedAs (record { settings = s; asserts = false }) bytes)) (sym e)
    (long_output len, (m, h.which, h.written, record { accepted = src; tells = h.can.tells; few = few }, h.is, h.over, h.rewrites), refl)
emit_refused_by true s bytes m (emit_too_long len) r src h e =
    let few = none_passes m (drop (func_imports m) h.which) m.funcs h.can.few in
    subst (IsFaultOf (IsRefusedAs (record { settings = s; asserts = true }) bytes)) (sym e)
    (long_output len, (m, h.which, h.written, record { accepted = src; tells = h.can.tells; few = few }, h.is, h.over, h.rewrites), refl)

pub emit_refused : (how : Manner) (bytes : List ℕ) (m : Module) (fault : EmitFault) (r : FileFault) → IsValidSource bytes m → EmitsBy how.asserts m how.settings (Err fault) → IsOfEmit fault r
    → IsFaultOf (IsRefusedAs how bytes) r
emit_refused how bytes m fault r src h e = emit_refused_by how.asserts how.settings bytes m fault r src h e

-- ---- what is written of a source

-- A source is written: by which functions may pause, the module, and what its bytes spell.
pub record Written (how : Manner) (bytes : List ℕ) (m : Module) (r : Emitted) : Type 0 where
  pub can : CanBeWritten m how.settings r.instrumented.items
  pub written : Module
  pub rewrites : RewritesAs how m written
  pub text : r.text.items ≡ Enc written
  pub short : length (Enc written) ≤ 67108864
  pub prepared : IsAccepted prepared_bounds (Enc written) (Norm written)
  pub normed : RewritesAs how m (Norm written)

written_by : (b : Bool) (s : Settings) (bytes : List ℕ) (m : Module) (r : Emitted) → IsValidSource bytes m → All (λ x. x < 2 ^ 8) bytes → EmitsBy b m s (Ok r)
    → Written (record { settings = s; asserts = b }) bytes m r
written_by false s bytes m r src are_bytes e =
    let which = r.instrumented.items in
    let few = none_passes m (drop (func_imports m) which) m.funcs e.can.few in
    record {
      can = e.can;
      written = e.written;
      rewrites = e.rewrites;
      text = e.text;
      short = e.short;
      prepared = source_prepared bytes m src s which few e.can.tells e.written e.emitted are_bytes e.short;
      normed = norm_rewritten m s e.written e.rewrites;
    }
written_by true s bytes m r src are_bytes e =
    let which = r.instrumented.items in
    let few = none_passes m (drop (func_imports m) which) m.funcs e.can.few in
    record {
      can = e.can;
      written = e.written;
      rewrites = e.rewrites;
      text = e.text;
      short = e.short;
      prepared = asserted_prepared bytes m src s which few e.can.tells e.written e.emitted are_bytes e.short;
      normed = norm_rewritten_with m s e.written e.rewrites;
    }

pub written_so : (how : Manner) (bytes : List ℕ) (m : Module) (r : Emitted) → IsValidSource bytes m → All (λ x. x < 2 ^ 8) bytes → EmitsBy how.asserts m how.settings (Ok r)
    → Written how bytes m r
written_so how bytes m r src are_bytes e = written_by how.asserts how.settings bytes m r src are_bytes e
