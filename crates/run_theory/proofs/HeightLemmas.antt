-- How high operands stand, by the types that instructions take and give.
use Rattle.std.proofs.Common.{arith, ◌≡◌, ℕ, suc, ◌+◌, ◌-◌, ◌≤◌, max, if◌then◌else◌, List, [], ◌∷◌, ◌++◌, reverse, Option, Some, None, Bool, true, false, refl, sym, ap, ◌∙◌, subst, length}
use Rattle.std.proofs.Common.{length-append}
use Rattle.std.specs.Prelude.{slice_get}
use Rattle.std.proofs.lemmas.List.{length-reverse}
use Rattle.wa_types.specs.declared.values.ValType.{ValType}
use Rattle.wa_types.specs.declared.values.ValType.TheVariants.{I32}
use Rattle.wa_types.specs.Accesses.{load_row, store_row}
use Rattle.wa_types.specs.Counts.{depth_of}
use Rattle.wa_types.specs.Operators.{operand_types, result_type}
use Rattle.wa_types.specs.Pruned.{is_last}
use Rattle.wa_types.specs.Syntax.{Basic, nop, drop, select, const, num, global_get, global_set, load, store, memory_size, memory_grow, memory_copy, memory_fill, Plain, Shape, Code, done, plain, nest, branch, FuncType, Module}
use Rattle.wa_types.specs.Typing.{Around, moves, listed, type_of, may_jump, calls, calls_at, gets, sets, tees, basic_sig, Takes}
use Rattle.wa_model.specs.Store.{takes, gives}
use Rattle.wa_model.specs.Step.{arity_of}
use Rattle.run_theory.specs.Heights.{behind_call, behind_plain, most_operands, Within}
use Rattle.run_theory.proofs.FittingActs.{got_moves, set_moves, load_moves, store_moves, memory_moves}

-- no code has less operands at most than it begins with
pub most_least : (m : Module) (k : Code) (h : ℕ) → h ≤ most_operands m k h
unfolding most_operands
most_least m done h = omega arith
most_least m (plain p rest) h = by_last (is_last p)
  where
    by_last : (b : Bool) → h ≤ (if b then h else max h (most_operands m rest (behind_plain m p h)))
    by_last true = omega arith
    by_last false = omega arith
most_least m (nest s r body rest) h = omega (arith, most_least m body h)
most_least m (branch r a b rest) h = omega arith

-- ---- counts of operands

-- so many are taken off, and so many put on
pub moved_height : (ps rs ins outs below : List ValType) → Takes (moves ps rs) ins outs → length (ins ++ below) - length ps + length rs ≡ length (outs ++ below)
moved_height ps rs ins outs below h =
    let i : length ins ≡ length ps + length h.0 = ap length h.1 ∙ length-append ps h.0 in
    let o : length outs ≡ length rs + length h.0 = ap length h.2 ∙ length-append rs h.0 in
    omega (arith, length-append ins below, length-append outs below)

-- a result in front of operands
pub listed_height : (r : Option ValType) (own below : List ValType) → length ((listed r ++ own) ++ below) ≡ length (own ++ below) + arity_of r
listed_height None own below = omega arith
listed_height (Some t) own below = omega arith

-- by what the instruction takes and gives
pub basic_height : (c : Around) (b : Basic) (ins outs below : List ValType) → Takes (basic_sig c b) ins outs → length (ins ++ below) - takes b + gives b ≡ length (outs ++ below)
basic_height c nop ins outs below h = moved_height [] [] ins outs below h
basic_height c drop ins outs below h = let i : length ins ≡ suc (length outs) = ap length h.1 in omega (arith, length-append ins below, length-append outs below)
basic_height c select ins outs below h =
    let i : length ins ≡ suc (suc (suc (length h.1))) = ap length h.2 in
    let o : length outs ≡ suc (length h.1) = ap length h.3 in omega (arith, length-append ins below, length-append outs below)
basic_height c (const v) ins outs below h = moved_height [] (type_of v ∷ []) ins outs below h
basic_height c (num op) ins outs below h = moved_height (operand_types op) (result_type op ∷ []) ins outs below h
basic_height c (global_get x) ins outs below h = let r = got_moves (slice_get c.globals x) ins outs h in moved_height [] (r.0.ty ∷ []) ins outs below r.2
basic_height c (global_set x) ins outs below h = let r = set_moves (slice_get c.globals x) ins outs h in moved_height (r.0.ty ∷ []) [] ins outs below r.2
basic_height c (load op align offset) ins outs below h = let r = load_moves c.memory align (load_row op) ins outs h in moved_height (I32 ∷ []) (r.0.ty ∷ []) ins outs below r.2
basic_height c (store op align offset) ins outs below h = let r = store_moves c.memory align (store_row op) ins outs h in moved_height (r.0.ty ∷ I32 ∷ []) [] ins outs below r.2
basic_height c memory_size ins outs below h = moved_height [] (I32 ∷ []) ins outs below (memory_moves c.memory [] (I32 ∷ []) ins outs h)
basic_height c memory_grow ins outs below h = moved_height (I32 ∷ []) (I32 ∷ []) ins outs below (memory_moves c.memory (I32 ∷ []) (I32 ∷ []) ins outs h)
basic_height c memory_copy ins outs below h = moved_height (I32 ∷ I32 ∷ I32 ∷ []) [] ins outs below (memory_moves c.memory (I32 ∷ I32 ∷ I32 ∷ []) [] ins outs h)
basic_height c memory_fill ins outs below h = moved_height (I32 ∷ I32 ∷ I32 ∷ []) [] ins outs below (memory_moves c.memory (I32 ∷ I32 ∷ I32 ∷ []) [] ins outs h)

-- locals
pub gets_height : (o : Option ValType) (ins outs below : List ValType) → Takes (gets o) ins outs → length (ins ++ below) + 1 ≡ length (outs ++ below)
gets_height None ins outs below h = absurd h
gets_height (Some t) ins outs below h = omega (arith, moved_height [] (t ∷ []) ins outs below h)

pub sets_height : (o : Option ValType) (ins outs below : List ValType) → Takes (sets o) ins outs → length (ins ++ below) - 1 ≡ length (outs ++ below)
sets_height None ins outs below h = absurd h
sets_height (Some t) ins outs below h = omega (arith, moved_height (t ∷ []) [] ins outs below h)

pub tees_height : (o : Option ValType) (ins outs below : List ValType) → Takes (tees o) ins outs → length (ins ++ below) ≡ length (outs ++ below)
tees_height None ins outs below h = absurd h
tees_height (Some t) ins outs below h =
    let i : length ins ≡ suc (length h.0) = ap length h.1 in
    let o : length outs ≡ suc (length h.0) = ap length h.2 in omega (arith, length-append ins below, length-append outs below)

-- a branch that may be taken
pub may_jump_height : (o : Option (Option ValType)) (ins outs below : List ValType) → Takes (may_jump o) ins outs → length (ins ++ below) - 1 ≡ length (outs ++ below)
may_jump_height None ins outs below h = absurd h
may_jump_height (Some r) ins outs below h =
    let i : length ins ≡ suc (length (listed r ++ h.0)) = ap length h.1 in
    let o : length outs ≡ length (listed r ++ h.0) = ap length h.2 in omega (arith, length-append ins below, length-append outs below)

-- calls
called_height : (t : FuncType) (own : List ValType) (ins outs below : List ValType) → length t.results ≤ 1 → Takes (moves (own ++ reverse t.params) (reverse t.results)) ins outs
    → behind_call t (length (ins ++ below) - length own) ≡ length (outs ++ below)
called_height t own ins outs below few h =
    let p : length (own ++ reverse t.params) ≡ length own + length t.params = length-append own (reverse t.params) ∙ ap (λ k. length own + k) (length-reverse t.params) in
    let r : length (reverse t.results) ≡ length t.results = length-reverse t.results in
    let k : length (ins ++ below) - length (own ++ reverse t.params) + length (reverse t.results)
    ≡ length (outs ++ below) = moved_height (own ++ reverse t.params) (reverse t.results) ins outs below h in
    omega arith

pub calls_height : (o : Option FuncType) (u : FuncType) (ins outs below : List ValType) → ((t : FuncType) → o ≡ Some t → u ≡ t) → length u.results ≤ 1 → Takes (calls o) ins outs
    → behind_call u (length (ins ++ below)) ≡ length (outs ++ below)
calls_height None u ins outs below is few h = absurd h
calls_height (Some t) u ins outs below is few h =
    let e : u ≡ t = is t refl in
    let k = called_height u [] ins outs below few (subst (λ (w : FuncType). Takes (moves (reverse w.params) (reverse w.results)) ins outs) (sym e) h) in
    omega (arith, k)

pub calls_at_height : (table : Bool) (o : Option FuncType) (u : FuncType) (ins outs below : List ValType) → ((t : FuncType) → o ≡ Some t → u ≡ t) → length u.results ≤ 1
    → Takes (calls_at table o) ins outs → behind_call u (length (ins ++ below) - 1) ≡ length (outs ++ below)
calls_at_height table None u ins outs below is few h = absurd h
calls_at_height false (Some t) u ins outs below is few h = absurd h
calls_at_height true (Some t) u ins outs below is few h =
    let e : u ≡ t = is t refl in
    called_height u (I32 ∷ []) ins outs below few (subst (λ (w : FuncType). Takes (moves (I32 ∷ reverse w.params) (reverse w.results)) ins outs) (sym e) h)

-- ---- code within bounds

module _ (m : Module) (top deep : ℕ) where
  -- it begins within them
  pub begins_within : (code : Code) (h d : ℕ) → Within m top deep code h d → (h ≤ top) × (d ≤ deep)
  begins_within code h d w = let o = w.operands in let l = w.labels in (omega (arith, most_least m code h), omega arith)

  -- behind an instruction, where control goes on
  pub rest_within : (p : Plain) (rest : Code) (h k d : ℕ) → is_last p ≡ false → behind_plain m p h ≡ k → Within m top deep (plain p rest) h d → Within m top deep rest k d
  unfolding most_operands depth_of
  rest_within p rest h k d goes e w =
      let o : max h (most_operands m rest (behind_plain m p h)) ≤ top = subst (λ b. (if b then h else max h (most_operands m rest (behind_plain m p h))) ≤ top) goes w.operands in
      let n : most_operands m rest (behind_plain m p h) ≤ top = omega arith in
      record { operands = subst (λ j. most_operands m rest j ≤ top) e n; labels = w.labels }

  -- inside a construct, and behind it
  pub nest_within : (s : Shape) (r : Option ValType) (body rest : Code) (h d : ℕ) → Within m top deep (nest s r body rest) h d
      → Within m top deep body h (suc d) × Within m top deep rest (h + arity_of r) d
  unfolding most_operands depth_of
  nest_within s r body rest h d w =
      let o = w.operands in let l = w.labels in
      (record { operands = omega arith; labels = omega arith }, record { operands = omega arith; labels = omega arith })

  pub branch_within : (r : Option ValType) (a b rest : Code) (h d : ℕ) → Within m top deep (branch r a b rest) (suc h) d
      → Within m top deep a h (suc d) × Within m top deep b h (suc d) × Within m top deep rest (h + arity_of r) d
  unfolding most_operands depth_of
  branch_within r a b rest h d w =
      let o = w.operands in let l = w.labels in
      let e : suc h - 1 ≡ h = omega arith in
      let o' = subst (λ j. max (suc h) (max (max (most_operands m a j) (most_operands m b j)) (most_operands m rest (j + arity_of r))) ≤ top) e o in
      (record { operands = omega arith; labels = omega arith }, record { operands = omega arith; labels = omega arith }, record { operands = omega arith; labels = omega arith })
