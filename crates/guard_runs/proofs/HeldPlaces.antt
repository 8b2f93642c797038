-- Places that a run stands at: what is known of the index goes from each to the next.
use Rattle.std.proofs.Common.{◌≡◌, ℕ, zero, suc, ◌+◌, ◌<◌, ◌≤◌, ◌⊎◌, inl, inr, List, [], ◌∷◌, length, Option, true, refl, ap, ◌∙◌, subst, arith}
use Rattle.std.specs.Prelude.{slice_set}
use Rattle.std.proofs.lemmas.List.{get_or-set_same}
use Rattle.wa_types.specs.Pausing.{Callee}
use Rattle.wa_types.specs.Syntax.{a_block, a_loop, Code, done}
use Rattle.wa_types.specs.declared.values.Value.{Value}
use Rattle.wa_types.specs.declared.values.Value.TheVariants as V
use Rattle.wa_model.specs.declared.flat.Operand.{Operand}
use Rattle.wa_model.specs.Store.{value_at}
use Rattle.run_theory.specs.Flat.{followed_by}
use Rattle.guard_form.specs.Functions.{GuardedFunc, indices_of}
use Rattle.guard_form.specs.Guarded.{arm, exit_inside, front, leaves_first}
use Rattle.guard_form.specs.Pieces.{Units, any_unit, call_unit, nest_unit, if_unit, flat_units, numbers_in}
use Rattle.guard_form.specs.Places.{Enclosing, in_a_block, in_a_loop, InFirstLoop, MayComeFirst, exit_at, BodyPlace, past_call, in_block, in_loop, in_then, in_else}
use Rattle.guard_form.proofs.PlacesBelow.{first_again}
use Rattle.guard_runs.specs.Beside.{FirstHeld, HeldPlace}

module _ (st : ℕ) (f : GuardedFunc) where
  less_first : (k j : ℕ) (xs xs2 : List Enclosing) → j ≤ k → (InFirstLoop xs2 → InFirstLoop xs) → MayComeFirst k xs2 → MayComeFirst j xs
  less_first k j xs xs2 le in_loops (inl z) = inl (omega (arith, le, z))
  less_first k j xs xs2 le in_loops (inr h) = inr (in_loops h)

  pub less_held : (extra : List Value) (n k : ℕ) (xs : List Enclosing) → FirstHeld f extra n xs → n ≤ k → FirstHeld f extra k xs
  less_held extra n k xs held le e c = held e (less_first k n xs xs le (λ z. z) c)

  -- behind a call that was noted
  pub held_past_call : {extra : List Value} {k : ℕ} {behind : Code} {rest : Units} {xs : List Enclosing} (slots : List ℕ) (x : Callee) (to : Option ℕ) → 0 < length extra
      → HeldPlace st f extra k (call_unit slots x to behind rest) xs → HeldPlace st f (slice_set extra 0 (V.I32 k)) (suc k) rest xs
  held_past_call {extra = extra} {k = k} {behind = behind} {rest = rest} {xs = xs} slots x to long pl = record { place = past_call slots x to pl.place; first_held = by }
    where
      by : FirstHeld f (slice_set extra 0 (V.I32 k)) (suc k) xs
      by e (inl z) = absurd (omega (arith, z))
      by e (inr h) = get_or-set_same extra 0 (V.I32 k) (V.I32 0) long ∙ ap V.I32 (first_again st f k slots x to behind rest xs pl.place e h)

  -- behind call 0, which isn't noted
  pub held_past_first : {extra : List Value} {k : ℕ} {behind : Code} {rest : Units} {xs : List Enclosing} (slots : List ℕ) (x : Callee) (to : Option ℕ) → k ≡ 0
      → HeldPlace st f extra k (call_unit slots x to behind rest) xs → HeldPlace st f extra (suc k) rest xs
  held_past_first slots x to z pl = record { place = past_call slots x to pl.place; first_held = λ e c. pl.first_held e (inl z) }

  pub held_in_block : {extra : List Value} {k : ℕ} {first : Code} {body : Units} {behind : Code} {rest : Units} {xs : List Enclosing} (h : ℕ)
      → HeldPlace st f extra k (nest_unit a_block first body behind rest) xs → HeldPlace st f extra k body (in_a_block h (k + numbers_in body) done done behind rest ∷ xs)
  held_in_block h pl = record { place = in_block h pl.place; first_held = pl.first_held }

  pub held_in_loop : {extra : List Value} {k : ℕ} {first : Code} {body : Units} {behind : Code} {rest : Units} {xs : List Enclosing} (h : ℕ)
      → HeldPlace st f extra k (nest_unit a_loop first body behind rest) xs → HeldPlace st f extra k body (in_a_loop h k first body (k + numbers_in body) behind rest ∷ xs)
  held_in_loop {k = k} {xs = xs} h pl = record { place = in_loop h pl.place; first_held = λ e c. pl.first_held e (by c) }
    where
      by : (k ≡ 0) ⊎ ((k ≡ 0) ⊎ InFirstLoop xs) → MayComeFirst k xs
      by (inl z) = inl z
      by (inr c) = c

  pub held_in_then : {extra : List Value} {k : ℕ} {c : Option Operand} {fa : Code} {a : Units} {fb : Code} {b : Units} {behind : Code} {rest : Units} {xs : List Enclosing} (h : ℕ)
      → HeldPlace st f extra k (if_unit c fa a fb b behind rest) xs
      → HeldPlace st f extra k a (in_a_block h (k + numbers_in a + numbers_in b) (followed_by fb (flat_units b))
      (arm b fb (front (indices_of st f) (exit_inside (exit_at f xs) a_block (any_unit rest)) (suc (length xs)) (k + numbers_in a) fb b)) behind rest ∷ xs)
  held_in_then h pl = record { place = in_then h pl.place; first_held = pl.first_held }

  pub held_in_else : {extra : List Value} {k : ℕ} {c : Option Operand} {fa : Code} {a : Units} {fb : Code} {b : Units} {behind : Code} {rest : Units} {xs : List Enclosing} (h : ℕ)
      → HeldPlace st f extra k (if_unit c fa a fb b behind rest) xs
      → HeldPlace st f extra (k + numbers_in a) b (in_a_block h (k + numbers_in a + numbers_in b) done done behind rest ∷ xs)
  held_in_else {k = k} {a = a} {xs = xs} h pl = record { place = in_else h pl.place; first_held = λ e c. pl.first_held e (less_first (k + numbers_in a) k xs xs (omega arith) (λ z. z) c) }

  -- call 0 is the one that may come where it does, if it isn't noted
  pub first_comes : {k : ℕ} {slots : List ℕ} {x : Callee} {to : Option ℕ} {behind : Code} {rest : Units} {xs : List Enclosing} → BodyPlace st f k (call_unit slots x to behind rest) xs
      → leaves_first f.exits f.body ≡ true → MayComeFirst k xs → k ≡ 0
  first_comes pl e (inl z) = z
  first_comes {k = k} {slots = slots} {x = x} {to = to} {behind = behind} {rest = rest} {xs = xs} pl e (inr h) = first_again st f k slots x to behind rest xs pl e h
