-- What is written is read back, and what is read can be written.
use Rattle.std.proofs.Common.{◌≡◌, ℕ, ◌≤◌, ◌<◌, ◌^◌, List, map, refl, sym, subst, length, arith, None, Err, slice_index_or}
use Rattle.std.specs.declared.result.Result.{Result}
use Rattle.std.specs.Result.{IfErr}
use Rattle.std.proofs.lemmas.List.Elements.{All-weaker, All-from_get_or}
use Rattle.wa_types.specs.Encoding.{Enc}
use Rattle.wa_types.specs.Marks.{first_above}
use Rattle.wa_types.specs.ModuleBounds.{prepared_bounds}
use Rattle.wa_types.specs.Norm.{Norm}
use Rattle.wa_types.specs.Reading.{SpellsModule}
use Rattle.wa_types.specs.Sizes.{WellFormed}
use Rattle.wa_types.specs.Syntax.{Func, Module}
use Rattle.file_laws.proofs.FileWriting.{written_spells}
use Rattle.file_laws.proofs.OneFault.{fault_spells_none}
use Rattle.file_laws.proofs.OneModule.{one_spelled}
use Rattle.file_laws.proofs.SpelledFits.{spelled_fits}
use Rattle.wasm_encode.specs.declared.EncodeFault.{EncodeFault}
use Rattle.wasm_encode.specs.declared.EncodeFault.TheVariants.{Memory as unwritten, TooLong as too_long}
use Rattle.wasm_encode.specs.Locals.{local_count}
use Rattle.wasm_encode.specs.Modules.{FewLocals}
use Rattle.wasm_reader.specs.Answers.{IsAccepted, IsRefused}
use Rattle.wasm_reader.specs.Locals.{func_locals}
use Rattle.wasm_reader.specs.declared.read_fault.ReadFault.{ReadFault}
use Rattle.wasm_reader.specs.declared.read_fault.ReadFault.TheVariants.{Memory as unread, Malformed, Float, Deep, Limit}
use Rattle.wasm_reader.proofs.Accepting.{accepted_spelled}
use Rattle.wasm_reader.proofs.ShortFile.{written_short}
use Rattle.wasm_reader.proofs.SpelledSizes.{none_above, spelled_locals}
use Rattle.checks.specs.declared.round_trip.AgainFault.{AgainFault}
use Rattle.checks.specs.declared.round_trip.AgainFault.TheVariants.{Refused}
use Rattle.checks.specs.Again.{of_read, of_encode, IsRewritten, IsOfSource, IsOfWritten}

-- what is written spells the module in its written form
spells : (m : Module) (bytes : List ℕ) → WellFormed m → FewLocals m → bytes ≡ Enc m → length (Enc m) ≤ 67108864 → SpellsModule bytes (Norm m)
spells m bytes w f e l = subst (λ b. SpellsModule b (Norm m)) (sym e) (written_spells m w f (omega (arith, l)))

-- so that is what is read
pub read_back : (m r : Module) (bytes : List ℕ) → WellFormed m → FewLocals m → bytes ≡ Enc m → length (Enc m) ≤ 67108864 → IsAccepted prepared_bounds bytes r → r ≡ Norm m
read_back m r bytes w f e l a = one_spelled bytes r (Norm m) (accepted_spelled prepared_bounds bytes r a) (spells m bytes w f e l)

-- and it isn't malformed
pub not_malformed : (m : Module) (bytes : List ℕ) (at : ℕ) → WellFormed m → FewLocals m → bytes ≡ Enc m → length (Enc m) ≤ 67108864 → IsRefused prepared_bounds bytes (Malformed at) → ⊥
not_malformed m bytes at w f e l h = let s = spells m bytes w f e l in fault_spells_none bytes at s.sections h.1 s.spells

-- what is accepted declares few locals
pub few_locals : (bytes : List ℕ) (m : Module) → IsAccepted prepared_bounds bytes m → FewLocals m
few_locals bytes m a =
    let e : first_above 50000 (map (func_locals m.types) m.funcs) ≡ None = subst (λ ns. first_above 50000 ns ≡ None) (spelled_locals a.sections m a.is_module) a.within.locals in
    All-weaker (λ (f : Func). func_locals m.types f ≤ 50000) (λ (f : Func). local_count f.locals < 2 ^ 32) (λ f h. omega (arith, h)) m.funcs (none_above (func_locals m.types) 50000 m.funcs e)

-- and is written in few bytes
pub few_bytes : (bytes : List ℕ) (m : Module) → IsAccepted prepared_bounds bytes m → length (Enc m) ≤ 67108864
few_bytes bytes m a =
    omega (arith, written_short bytes m (accepted_spelled prepared_bounds bytes m a), a.within.before.before.before.before.before.file.few)

-- and is well formed
pub well_formed : (bytes : List ℕ) (m : Module) → ((i : ℕ) → slice_index_or bytes i 0 < 2 ^ 8) → IsAccepted prepared_bounds bytes m → WellFormed m
well_formed bytes m h a = spelled_fits bytes m (All-from_get_or (λ b. b < 2 ^ 8) bytes 0 (λ i l. h i)) (accepted_spelled prepared_bounds bytes m a)

-- so it is rewritten
pub rewritten : (source written : List ℕ) (m : Module) → ((i : ℕ) → slice_index_or source i 0 < 2 ^ 8) → IsAccepted prepared_bounds source m → written ≡ Enc m → IsRewritten source written
rewritten source written m h a e =
    record { spelled = m; accepted = a; is_written = e; spells = spells m written (well_formed source m h a) (few_locals source m a) e (few_bytes source m a) }

-- what is told as malformed is malformed
malformed_alone : (fault : ReadFault) (at : ℕ) → of_read fault ≡ Refused (Malformed at) → fault ≡ Malformed at
malformed_alone unread at e = absurd (cc)
malformed_alone (Malformed k) at e = cc
malformed_alone (Float k) at e = absurd (cc)
malformed_alone (Deep k) at e = absurd (cc)
malformed_alone (Limit what n) at e = absurd (cc)

-- no answer says that what was written is malformed
pub told_whole : {X : Type 0} (m : Module) (bytes : List ℕ) (q : Result X AgainFault) (fault : ReadFault) (told : AgainFault) → WellFormed m → FewLocals m → bytes ≡ Enc m → length (Enc m) ≤ 67108864
    → IsRefused prepared_bounds bytes fault → q ≡ Err told → told ≡ of_read fault → (at : ℕ) → q ≡ Err (Refused (Malformed at)) → ⊥
told_whole m bytes q fault told w f e l h i j at k =
    let d : of_read fault ≡ Refused (Malformed at) = cc in
    not_malformed m bytes at w f e l (subst (IsRefused prepared_bounds bytes) (malformed_alone fault at d) h)

-- why nothing was written of a module
pub told_of_written : {X : Type 0} (bytes : List ℕ) (q : Result X AgainFault) (fault : EncodeFault) (told : AgainFault)
    → ((len : ℕ) → fault ≡ too_long len → (67108864 < length bytes) × (len ≡ length bytes)) → q ≡ Err told → told ≡ of_encode fault → IfErr q (λ t. IsOfWritten bytes t)
told_of_written bytes q unwritten told h i j = subst (λ q. IfErr q (λ t. IsOfWritten bytes t)) (sym i) (subst (λ t. IsOfWritten bytes t) (sym j) tt)
told_of_written bytes q (too_long len) told h i j = subst (λ q. IfErr q (λ t. IsOfWritten bytes t)) (sym i) (subst (λ t. IsOfWritten bytes t) (sym j) (h len refl))

-- why nothing was written of a source
pub told_of_source : {X : Type 0} (bytes : List ℕ) (q : Result X AgainFault) (fault : EncodeFault) (told : AgainFault)
    → ((len : ℕ) → fault ≡ too_long len → ⊥) → q ≡ Err told → told ≡ of_encode fault → IfErr q (λ t. IsOfSource bytes t)
told_of_source bytes q unwritten told h i j = subst (λ q. IfErr q (λ t. IsOfSource bytes t)) (sym i) (subst (λ t. IsOfSource bytes t) (sym j) tt)
told_of_source bytes q (too_long len) told h i j = absurd (h len refl)
