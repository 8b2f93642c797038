-- The functions that are told, one after the other.
use Rattle.std.proofs.Common.{◌≡◌, inl, inr, ℕ, zero, suc, ◌+◌, ◌<◌, ◌≤◌, ◌++◌, List, [], ◌∷◌, length, drop, get_or, Bool, true, false, add-one, drop-cons, Err, Some, slice_get, length-drop}
use Rattle.std.proofs.Common.{get_or-drop, refl, subst, arith, ap, sym, ◌∙◌}
use Rattle.std.proofs.lemmas.List.{append-nil, append_assoc, drop_all, get_or_default}
use Rattle.std.proofs.lemmas.Option.{slice_get-get_or}
use Rattle.wa_types.specs.Syntax.{Func, Module}
use Rattle.wa_types.specs.Frames.{Count}
use Rattle.run_theory.specs.Flat.{FlatFunc}
use Rattle.flat_laws.specs.Flatten.{flattened}
use Rattle.flat_laws.specs.FlatModule.{flat_told}
use Rattle.flatten.specs.Whole.{NonePasses, FirstPasses, FlatAnswer, Flattens}
use Rattle.flatten.specs.declared.fault.FlatFault.{FlatFault}
use Rattle.flatten.specs.declared.fault.FlatFault.TheVariants.{Memory, Locals}
use Rattle.wa_types.specs.Modules.{func_imports}

-- What is known where so many functions are done.
pub record Sofar (m : Module) (ws : List Bool) (fs : List Func) (x i : ℕ) (out : List FlatFunc) : Type 0 where
  pub puts : out ++ flat_told m (x + i) (drop i ws) (drop i fs) ≡ flat_told m x ws fs
  pub none : NonePasses m (drop i ws) (drop i fs) → NonePasses m ws fs
  pub first : (func count : ℕ) → FirstPasses m func count (x + i) (drop i ws) (drop i fs) → FirstPasses m func count x ws fs

pub sofar_first : (m : Module) (ws : List Bool) (fs : List Func) (x : ℕ) (out : List FlatFunc) → out ≡ [] → Sofar m ws fs x 0 out
sofar_first m ws fs x out e =
    let z : x + 0 ≡ x = omega arith in
    record {
      puts = ap (λ o. o ++ flat_told m (x + 0) ws fs) e ∙ ap (λ y. flat_told m y ws fs) z;
      none = λ h. h;
      first = λ func count h. subst (λ y. FirstPasses m func count y ws fs) z h;
    }

module _ (m : Module) (ws : List Bool) (fs : List Func) (x i : ℕ) (out : List FlatFunc) (s : Sofar m ws fs x i out) (w : Bool) (f : Func) (lw : i < length ws) (lf : i < length fs)
    (ew : w ≡ get_or ws i w) (ef : f ≡ get_or fs i f) where
  here_w : drop i ws ≡ w ∷ drop (i + 1) ws
  here_w = drop-cons ws i w lw ∙ ap (λ z. z ∷ drop (suc i) ws) (sym ew) ∙ ap (λ k. w ∷ drop k ws) (sym (add-one i))

  here_f : drop i fs ≡ f ∷ drop (i + 1) fs
  here_f = drop-cons fs i f lf ∙ ap (λ z. z ∷ drop (suc i) fs) (sym ef) ∙ ap (λ k. f ∷ drop k fs) (sym (add-one i))

  next_x : suc (x + i) ≡ x + (i + 1)
  next_x = omega arith

  pub sofar_skip : w ≡ false → Sofar m ws fs x (i + 1) out
  sofar_skip e = record {
    puts = ap (λ y. out ++ flat_told m y (drop (i + 1) ws) (drop (i + 1) fs)) (sym next_x) ∙ ap (λ b. out ++ flat_told m (x + i) (b ∷ drop (i + 1) ws) (f ∷ drop (i + 1) fs)) (sym e)
        ∙ ap (λ z. out ++ flat_told m (x + i) z (f ∷ drop (i + 1) fs)) (sym here_w) ∙ ap (λ z. out ++ flat_told m (x + i) (drop i ws) z) (sym here_f) ∙ s.puts;
    none = λ h. s.none (subst (λ z. NonePasses m z (drop i fs)) (sym here_w) (subst (NonePasses m (w ∷ drop (i + 1) ws)) (sym here_f)
        (subst (λ b. NonePasses m (b ∷ drop (i + 1) ws) (f ∷ drop (i + 1) fs)) (sym e) h)));
    first = λ func count h. s.first func count
        (subst (λ z. FirstPasses m func count (x + i) z (drop i fs)) (sym here_w) (subst (FirstPasses m func count (x + i) (w ∷ drop (i + 1) ws)) (sym here_f)
        (subst (λ b. FirstPasses m func count (x + i) (b ∷ drop (i + 1) ws) (f ∷ drop (i + 1) fs)) (sym e)
        (subst (λ y. FirstPasses m func count y (drop (i + 1) ws) (drop (i + 1) fs)) (sym next_x) h))));
  }

  pub sofar_put : (new : List FlatFunc) → w ≡ true → Count m f ≤ 50000 → new ≡ out ++ flattened m (x + i) f ∷ [] → Sofar m ws fs x (i + 1) new
  sofar_put new e few en = record {
    puts = ap (λ o. o ++ flat_told m (x + (i + 1)) (drop (i + 1) ws) (drop (i + 1) fs)) en
        ∙ append_assoc out (flattened m (x + i) f ∷ []) (flat_told m (x + (i + 1)) (drop (i + 1) ws) (drop (i + 1) fs))
        ∙ ap (λ y. out ++ flattened m (x + i) f ∷ flat_told m y (drop (i + 1) ws) (drop (i + 1) fs)) (sym next_x)
        ∙ ap (λ b. out ++ flat_told m (x + i) (b ∷ drop (i + 1) ws) (f ∷ drop (i + 1) fs)) (sym e)
        ∙ ap (λ z. out ++ flat_told m (x + i) z (f ∷ drop (i + 1) fs)) (sym here_w) ∙ ap (λ z. out ++ flat_told m (x + i) (drop i ws) z) (sym here_f) ∙ s.puts;
    none = λ h. s.none (subst (λ z. NonePasses m z (drop i fs)) (sym here_w) (subst (NonePasses m (w ∷ drop (i + 1) ws)) (sym here_f)
        (subst (λ b. NonePasses m (b ∷ drop (i + 1) ws) (f ∷ drop (i + 1) fs)) (sym e) (few, h))));
    first = λ func count h. s.first func count
        (subst (λ z. FirstPasses m func count (x + i) z (drop i fs)) (sym here_w) (subst (FirstPasses m func count (x + i) (w ∷ drop (i + 1) ws)) (sym here_f)
        (subst (λ b. FirstPasses m func count (x + i) (b ∷ drop (i + 1) ws) (f ∷ drop (i + 1) fs)) (sym e)
        (inr (few, subst (λ y. FirstPasses m func count y (drop (i + 1) ws) (drop (i + 1) fs)) (sym next_x) h)))));
  }

  pub sofar_stop : (func count : ℕ) → w ≡ true → func ≡ x + i → count ≡ Count m f → 50000 < Count m f → FirstPasses m func count x ws fs
  sofar_stop func count e ex ec gt =
      s.first func count
      (subst (λ z. FirstPasses m func count (x + i) z (drop i fs)) (sym here_w) (subst (FirstPasses m func count (x + i) (w ∷ drop (i + 1) ws)) (sym here_f)
      (subst (λ b. FirstPasses m func count (x + i) (b ∷ drop (i + 1) ws) (f ∷ drop (i + 1) fs)) (sym e) (inl (ex, ec, gt)))))

no_more_told : (m : Module) (y : ℕ) (ws : List Bool) → flat_told m y ws [] ≡ []
no_more_told m y [] = refl
no_more_told m y (w ∷ ws) = refl

no_more_passes : (m : Module) (ws : List Bool) → NonePasses m ws []
no_more_passes m [] = tt
no_more_passes m (w ∷ ws) = tt

pub sofar_done : (m : Module) (ws : List Bool) (fs : List Func) (x i : ℕ) (out : List FlatFunc) → Sofar m ws fs x i out → length fs ≤ i → (out ≡ flat_told m x ws fs) × NonePasses m ws fs
sofar_done m ws fs x i out s le =
    let e : drop i fs ≡ [] = drop_all i fs le in (
      sym (append-nil out) ∙ ap (λ z. out ++ z) (sym (ap (flat_told m (x + i) (drop i ws)) e ∙ no_more_told m (x + i) (drop i ws))) ∙ s.puts,
      s.none (subst (NonePasses m (drop i ws)) (sym e) (no_more_passes m (drop i ws))),
    )

-- ---- with what the program knows

some_at : (fs : List Func) (i : ℕ) → i < length fs → (f : Func) × (f ≡ get_or fs i f)
some_at [] i lt = absurd (omega arith)
some_at (f ∷ fs) zero lt = (f, refl)
some_at (f ∷ fs) (suc i) lt = some_at fs i (omega arith)

module _ (m : Module) (which : List Bool) (x i at : ℕ) (out : List FlatFunc) (s : Sofar m (drop x which) m.funcs x i out) (many : length which ≡ x + length m.funcs)
    (lt : i < length m.funcs) (ea : at ≡ x + i) where
  long : i < length (drop x which)
  long = omega (arith, length-drop x which, many, lt)

  told : (b : Bool) → get_or which at false ≡ b → b ≡ get_or (drop x which) i b
  told b e = sym e ∙ ap (λ k. get_or which k false) ea ∙ get_or_default which (x + i) false b (omega (arith, many, lt)) ∙ sym (get_or-drop x which i b)

  pub go_skip : get_or which at false ≡ false → Sofar m (drop x which) m.funcs x (i + 1) out
  go_skip e = let f = some_at m.funcs i lt in sofar_skip m (drop x which) m.funcs x i out s false f.0 long lt (told false e) f.1 refl

  pub go_put : (new : List FlatFunc) (flat : FlatFunc) (y : ℕ) → get_or which at false ≡ true → y ≡ x + i → new ≡ out ++ flat ∷ []
      → ((f : Func) → slice_get m.funcs i ≡ Some f → (flat ≡ flattened m y f) × (Count m f ≤ 50000)) → Sofar m (drop x which) m.funcs x (i + 1) new
  go_put new flat y e ey en h =
      let f = some_at m.funcs i lt in
      let given = h f.0 (slice_get-get_or m.funcs i f.0 lt ∙ ap (λ z. Some z) (sym f.1)) in
      sofar_put m (drop x which) m.funcs x i out s true f.0 long lt (told true e) f.1 new refl given.1 (en ∙ ap (λ z. out ++ z ∷ []) (given.0 ∙ ap (λ z. flattened m z f.0) ey))

  pub go_stop : (func count y : ℕ) → get_or which at false ≡ true → y ≡ x + i
      → ((f : Func) → slice_get m.funcs i ≡ Some f → (func ≡ y) × (count ≡ Count m f) × (50000 < Count m f)) → FirstPasses m func count x (drop x which) m.funcs
  go_stop func count y e ey h =
      let f = some_at m.funcs i lt in
      let given = h f.0 (slice_get-get_or m.funcs i f.0 lt ∙ ap (λ z. Some z) (sym f.1)) in
      sofar_stop m (drop x which) m.funcs x i out s true f.0 long lt (told true e) f.1 func count refl (given.0 ∙ ey) given.1 given.2

pub stops : (m : Module) (which : List Bool) (i at y : ℕ) (out : List FlatFunc) → Sofar m (drop (func_imports m) which) m.funcs (func_imports m) i out
    → length which ≡ func_imports m + length m.funcs → i < length m.funcs → at ≡ func_imports m + i
    → get_or which at false ≡ true → y ≡ func_imports m + i → (fault : FlatFault) → ((f : Func) → slice_get m.funcs i ≡ Some f → FlatAnswer m y f (Err fault)) → Flattens m which (Err fault)
stops m which i at y out s many lt ea e ey Memory h = tt
stops m which i at y out s many lt ea e ey (Locals func count) h = go_stop m which (func_imports m) i at out s many lt ea func count y e ey h
