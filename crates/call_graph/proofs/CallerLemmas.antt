-- The calls of functions, as the program has them.
use Rattle.std.proofs.Common.{arith, ◌≡◌, ℕ, ◌+◌, ◌<◌, List, [], ◌∷◌, ◌++◌, map, length, take, get_or, Some, Bool, false, replicate, ◌≤◌, slice_get, sym, ap, ◌∙◌, subst}
use Rattle.std.specs.Prelude.{Contains, All}
use Rattle.std.specs.List.{list_any}
use Rattle.std.specs.Option.{option_map}
use Rattle.std.proofs.lemmas.Option.{slice_get-get_or, slice_get-map}
use Rattle.std.proofs.lemmas.List.{length-map, length-append, length-replicate, length-take, map-append, take_more}
use Rattle.std.specs.declared.vec.Vec.{Vec}
use Rattle.std.specs.declared.alloc.Global.{Global}
use Rattle.wa_types.specs.Syntax.{Func, Module}
use Rattle.wa_types.specs.Modules.{func_imports}
use Rattle.wa_types.specs.Validity.{Valid}
use Rattle.wa_types.specs.Pausing.{Callee as PlainCallee, calls_in}
use Rattle.call_graph.specs.declared.calls.Callee.{Callee}
use Rattle.call_graph.specs.Calls.{callee_of, IsThere, pauses, pauses_alone}
use Rattle.call_graph.specs.Callers.{Puts, GatheredBelow}
use Rattle.call_graph.proofs.GraphLemmas.{calls_there, has, gather_more}
use Rattle.call_graph.proofs.ListLemmas.{any_of_map}

-- the calls of a function are there
pub all_there : (m : Module) (i n : ℕ) (f : Func) (callers : List (Vec ℕ Global)) (calls : List Callee) → Valid m → slice_get m.funcs i ≡ Some f → GatheredBelow m n callers
    → map callee_of calls ≡ calls_in f → All (λ (call : Callee). IsThere (length callers) (callee_of call)) calls
all_there m i n f callers calls v is g e = λ k d lt.
    let c : Contains (map callee_of calls) (callee_of (get_or calls k d)) = has (map callee_of calls) k (callee_of (get_or calls k d)) (slice_get-map callee_of calls k
    ∙ ap (option_map callee_of) (slice_get-get_or calls k d lt)) in
    subst (λ len. IsThere len (callee_of (get_or calls k d))) (sym g.len) (calls_there m i f v is (callee_of (get_or calls k d)) (subst (λ l. Contains l (callee_of (get_or calls k d))) e c))

-- one call more
pub taken_at : (calls : List Callee) (i : ℕ) (d x : Callee) → i < length calls → get_or calls i d ≡ x → map callee_of (take (i + 1) calls) ≡ map callee_of (take i calls) ++ callee_of x ∷ []
taken_at calls i d x lt e =
    ap (map callee_of) (take_more calls i d lt) ∙ map-append callee_of (take i calls) (get_or calls i d ∷ []) ∙ ap (λ (y : Callee). map callee_of (take i calls) ++ callee_of y ∷ []) e

-- one function more
pub callers_more : (m : Module) (i : ℕ) (f : Func) (calls : List Callee) (caller : ℕ) (callers new : List (Vec ℕ Global)) → slice_get m.funcs i ≡ Some f → map callee_of calls ≡ calls_in f
    → caller ≡ func_imports m + i → GatheredBelow m (func_imports m + i) callers → Puts (map callee_of calls) caller callers new → GatheredBelow m (func_imports m + (i + 1)) new
callers_more m i f calls caller callers new is e at g p =
    gather_more m i f callers new is g (subst (λ c. Puts (calls_in f) c callers new) at (subst (λ (l : List PlainCallee). Puts l caller callers new) e p))

pub own_is : (listed : List Bool) (ignore : Bool) (f : Func) (calls : List Callee) (b : Bool) → map callee_of calls ≡ calls_in f
    → b ≡ list_any (λ (call : Callee). pauses_alone listed ignore (callee_of call)) calls → b ≡ pauses listed ignore f
own_is listed ignore f calls b e is =
    is ∙ sym (any_of_map (pauses_alone listed ignore) callee_of calls) ∙ ap (list_any (pauses_alone listed ignore)) e

pub pauses_len : {X : Type 0} (n i : ℕ) (xs : List X) (test : X → Bool) (ys : List Bool) → i ≤ length xs → ys ≡ replicate n false ++ map test (take i xs) → length ys ≡ n + i
pauses_len n i xs test ys le e =
    omega (arith, le, ap length e, length-append (replicate n false) (map test (take i xs)), length-replicate n false, length-map (take i xs) test, length-take i xs)
