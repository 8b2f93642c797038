-- How large the sets of a function's calls are, and how many.
use Rattle.std.proofs.Common.{◌≡◌, ℕ, suc, ◌^◌, ◌<◌, ◌≤◌, List, [], ◌∷◌, length, get_or, Bool, All, sym, ap, subst, arith}
use Rattle.std.specs.Prelude.{Vec}
use Rattle.std.specs.declared.alloc.Global.{Global}
use Rattle.std.proofs.lemmas.List.{length-map}
use Rattle.std.proofs.lemmas.List.Elements.{All-nil, All-cons}
use Rattle.wa_types.specs.declared.values.ValType.{ValType}
use Rattle.wa_types.specs.Pausing.{Listed, Numbered, Settings, calls_in, has_number}
use Rattle.wa_types.specs.Sizes.{StrictSizeRule}
use Rattle.wa_types.specs.Syntax.{Func, Module}
use Rattle.wa_types.specs.Validity.{Valid}
use Rattle.run_theory.specs.FlatView.{flat_func_of}
use Rattle.flatten.specs.declared.whole.Flattened.{Flattened}
use Rattle.flow_rewrite.specs.Numbering.{callees, gets_number}
use Rattle.flow_rewrite.proofs.NumberingLemmas.{callees_count}
use Rattle.flow_rewrite.specs.Emitting.{Rises}
use Rattle.call_frames.specs.Classes.{AreKept}
use Rattle.live_locals.specs.LiveAt.{LiveAtCalls, lists_of}
use Rattle.func_rewrite.specs.Frames.{IsFlattened}
use Rattle.func_rewrite.proofs.CallNumbers.{places_few, places_rise}
use Rattle.func_rewrite.proofs.WrittenFuncs.{few_calls, fits, numbers}

abbrev pub SetsSized : (locals : ℕ) → List (Vec Bool Global) → Type 0
SetsSized n sets = All (λ (set : Vec Bool Global). length set.items ≡ n) sets

all_sized : (n : ℕ) (sets : List (Vec Bool Global)) → ((k : ℕ) → k < length sets → length (get_or (lists_of sets) k []) ≡ n) → SetsSized n sets
all_sized n [] h = All-nil (λ (set : Vec Bool Global). length set.items ≡ n)
all_sized n (set ∷ sets) h = All-cons (λ (set : Vec Bool Global). length set.items ≡ n) set sets (h 0 (omega arith)) (all_sized n sets (λ k lt. h (suc k) (omega (arith, lt))))

module _ (m : Module) (s : Settings) (which : List Bool) (f : Func) (v : Flattened) (valid : Valid m) (sizes : StrictSizeRule m) (h : IsFlattened m f v) where
  pub types_few : length v.func.locals.items ≤ 50000
  types_few = (fits m s which f v valid sizes h).few

  module _ (ns : List ℕ) (en : ns ≡ Numbered m s which f) where
    pub numbers_few : length ns < 2 ^ 32
    numbers_few =
        let body = (flat_func_of v.func).body in
        let a = places_few (gets_number which (Listed m s) s.ignore_indirect) 0 (callees body) in
        let b = ap length (numbers m s which f v valid sizes h) in
        let c = callees_count body in
        let d = few_calls m s which f v valid sizes h in
        let e = ap length en in omega (arith, a, b, c, d, e)

    pub numbers_rise : Rises ns
    numbers_rise = subst Rises (sym en) (places_rise (has_number m s which) 0 (calls_in f))

    module _ (sets : List (Vec Bool Global)) (live : LiveAtCalls (flat_func_of v.func) ns (lists_of sets)) where
      many : length sets ≡ length ns
      many = let a = length-map sets (λ (set : Vec Bool Global). set.items) in let b = live.calls in omega (arith, a, b)

      pub set_sizes : SetsSized (length v.func.locals.items) sets
      set_sizes = all_sized (length v.func.locals.items) sets (λ k lt. live.locals k (let e = many in omega (arith, lt, e)))

      pub sets_few : length sets < 2 ^ 32
      sets_few = let e = many in let l = numbers_few in omega (arith, e, l)

-- what is known of calls, of the lists that are lent
pub kept_lent : (types types2 : List ValType) (ns : List ℕ) (count : ℕ) (sets : List (List Bool)) (rows rows2 : List (List ℕ)) → types2 ≡ types → count ≡ length ns → rows2 ≡ rows
    → AreKept (length types) (length ns) sets rows → AreKept (length types2) count sets rows2
kept_lent types types2 ns count sets rows rows2 et ec er h =
    subst (λ ts. AreKept (length ts) count sets rows2) (sym et) (subst (λ rs. AreKept (length types) count sets rs) (sym er) (subst (λ n. AreKept (length types) n sets rows) (sym ec) h))
