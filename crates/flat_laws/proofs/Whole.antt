-- A flat function of a valid module.
use Rattle.std.proofs.Common.{◌≡◌, ◌∙◌, ℕ, zero, suc, ◌+◌, ◌-◌, ◌≤◌, List, [], ◌∷◌, ◌++◌, length, map, take, Option, Some, None, Bool, true, false, refl, sym, ap, subst, arith, length-append}
use Rattle.std.specs.Prelude.{slice_get, nat_lt, if◌then◌else◌, All, ◌^◌}
use Rattle.std.proofs.lemmas.List.{append_assoc, length-map}
use Rattle.std.proofs.lemmas.List.Elements.{All-head, All-tail}
use Rattle.std.proofs.Math.Seq.{take-append_seam}
use Rattle.wa_types.specs.declared.values.ValType.{ValType}
use Rattle.wa_types.specs.Syntax.{Func, Module}
use Rattle.wa_types.specs.Pruned.{pruned}
use Rattle.wa_types.specs.Sizes.{FuncSizes, StrictSizeRule}
use Rattle.wa_types.specs.Pausing.{calls_of, calls_in}
use Rattle.wa_types.specs.Frames.{Pair, Count, SlotPairs, ResultPairs}
use Rattle.wa_types.specs.Modules.{func_imports, type_at, defined_at, locals_of, around}
use Rattle.wa_types.specs.Validity.{Valid}
use Rattle.wa_types.proofs.SizeBounds.{weight_fits}
use Rattle.run_theory.specs.Flat.{code_of, body_of}
use Rattle.run_theory.specs.FlatFits.{ToFits, TellsResult, StmtsFit}
use Rattle.flat_laws.specs.Flatten.{names, result_of, flattened}
use Rattle.flat_laws.specs.Placed.{HasResult}
use Rattle.flat_laws.proofs.Depths.{flat_is_flat}
use Rattle.flat_laws.proofs.Sizes.{flat_is_small}
use Rattle.flat_laws.proofs.ValidModules.{good_func, own_result}
use Rattle.flat_laws.specs.FlatMeets.{Meets}
use Rattle.flat_laws.proofs.Calls.{calls_stay}
use Rattle.flat_laws.proofs.Items.{items_weigh, depth_few, calls_few, body_lists, lists_wider}
use Rattle.flat_laws.proofs.Statements.{code_fits}

one_of_all : {X : Type 0} (P : X → Type 0) (xs : List X) (i : ℕ) (x : X) → All P xs → slice_get xs i ≡ Some x → P x
one_of_all P [] i x h e = cc
one_of_all P (y ∷ ys) zero x h e = let z : y ≡ x = cc in subst P z (All-head P y ys h)
one_of_all P (y ∷ ys) (suc i) x h e = one_of_all P ys i x (All-tail P y ys h) e

-- the size rule of a defined function
func_sizes : (m : Module) (x : ℕ) (f : Func) → StrictSizeRule m → defined_at m x ≡ Some f → FuncSizes (2 ^ 31) (2 ^ 31) m f
func_sizes m x f s = by (nat_lt x (func_imports m))
  where
    by : (b : Bool) → (if b then None else slice_get m.funcs (x - func_imports m)) ≡ Some f → FuncSizes (2 ^ 31) (2 ^ 31) m f
    by true e = cc
    by false e = one_of_all (FuncSizes (2 ^ 31) (2 ^ 31) m) m.funcs (x - func_imports m) f s.each_func e

-- ---- locals

module _ (m : Module) (x : ℕ) (f : Func) where
  abbrev own : ℕ
  own = length (locals_of m f)

  abbrev extra : ℕ
  extra = length (SlotPairs m f) + length (ResultPairs m f)

  locals_long : length (flattened m x f).locals ≡ own + extra
  locals_long =
      let a : List ValType = map (λ (p : Pair). p.ty) (SlotPairs m f) in
      let b : List ValType = map (λ (p : Pair). p.ty) (ResultPairs m f) in
      let l = length-append (locals_of m f ++ a) b in
      let k = length-append (locals_of m f) a in
      let la = length-map (SlotPairs m f) (λ (p : Pair). p.ty) in
      let lb = length-map (ResultPairs m f) (λ (p : Pair). p.ty) in
      omega arith

  pub counted : length (flattened m x f).locals + 3 ≡ Count m f
  counted = let l = locals_long in omega arith

  own_first : take own (flattened m x f).locals ≡ locals_of m f
  own_first =
      let a : List ValType = map (λ (p : Pair). p.ty) (SlotPairs m f) in
      let b : List ValType = map (λ (p : Pair). p.ty) (ResultPairs m f) in
      ap (take own) (append_assoc (locals_of m f) a b) ∙ take-append_seam (locals_of m f) (a ++ b)

  result_fits : HasResult (names m f) 0 (around m f).result → ToFits (own + extra) (flattened m x f).result
  result_fits = by (around m f).result
    where
      by : (r : Option ValType) → HasResult (names m f) 0 r → ToFits (own + extra) (result_of (names m f) r)
      by None h = tt
      by (Some t) h = omega arith

  result_told : TellsResult (length (type_at m f.sort).results) (flattened m x f).result
  result_told = by (type_at m f.sort).results
    where
      by : (rs : List ValType) → TellsResult (length rs) (result_of (names m f) (slice_get rs 0))
      by [] = refl
      by (t ∷ ts) = tt

  -- ---- all of it

  pub meets : Valid m → StrictSizeRule m → defined_at m x ≡ Some f → length (flattened m x f).locals ≤ 50000 → Meets m x f
  meets v sizes is few =
      let fs = func_sizes m x f sizes is in
      let l = locals_long in
      let total = fs.total in
      let weight = weight_fits (2 ^ 31) (2 ^ 31) m f fs in
      let small = flat_is_small m x f in
      let items = items_weigh m (body_of (flattened m x f)) in
      let flat_depth = flat_is_flat m x f in
      let depth = depth_few f.body in
      let calls = calls_few m (pruned f.body) in
      let same : length (calls_of (code_of (flattened m x f).body)) ≡ length (calls_in f) = ap length (calls_stay m x f) in
      let good = good_func m f v x is in
      let has = own_result m f in
      let st = code_fits m f (omega arith) ((around m f).result ∷ []) f.body _ [] [] (omega arith) (has, tt) good in
      record {
        fits = record {
          few = few;
          shallow = omega arith;
          sizes = record { labels = lists_wider (2 ^ 31) (2 ^ 32) (body_of (flattened m x f)) (omega arith) (body_lists (2 ^ 31) m x f fs.labels); total = omega arith };
          few_calls = omega arith;
          result = subst (λ k. ToFits k (flattened m x f).result) (sym l) (result_fits has);
          statements = subst (λ k. StmtsFit k 1 (flattened m x f).body) (sym l) st.0;
        };
        stands_for = record { index = refl; sort = refl; own_first = own_first; result = result_told; calls = st.2 };
        callees = st.1;
      }
