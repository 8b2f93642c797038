-- The types of functions and locals, found by index.
use Rattle.std.proofs.Common.{arith, ◌≡◌, ℕ, zero, suc, ◌+◌, ◌-◌, ◌<◌, ◌≤◌, List, [], ◌∷◌, ◌++◌, All, length, take, drop, get_or, map, replicate, add-one, drop-cons, slice_get, Option, Some, None, refl, ap, sym, ◌∙◌, subst, true, nat_lt, ltb-true}
use Rattle.std.proofs.lemmas.List.{length-replicate, take_all, drop_all, length-append, length-map, get_or-map, get_or-append-add}
use Rattle.std.proofs.lemmas.List.Elements.{All-get_or}
use Rattle.std.proofs.lemmas.List.Sums.{sum_by-cons, AllPass-from_list_all}
use Rattle.std.proofs.lemmas.Option.{slice_get-map, slice_get-get_or}
use Rattle.wa_types.specs.declared.values.ValType.{ValType}
use Rattle.wa_types.specs.declared.syntax.Run.{Run}
use Rattle.std.specs.declared.vec.Vec.{Vec}
use Rattle.std.specs.declared.alloc.Global.{Global}
use Rattle.wa_types.specs.declared.syntax.Func.{Func as FuncValue}
use Rattle.wa_types.specs.declared.syntax.FuncType.{FuncType as TypeValue}
use Rattle.wa_types.specs.declared.syntax.Module.{Module as ModuleValue}
use Rattle.wa_types.specs.Syntax.{Func, FuncType, Module}
use Rattle.wa_types.specs.Typing.{Around, GlobalType}
use Rattle.wa_types.specs.Validity.{types_there}
use Rattle.wa_types.specs.View.{func_of, func_type_of, module_of}
use Rattle.wa_types.specs.Modules.{declared_locals, imported, imported_func, func_sorts, func_types, type_at, or_empty, all_tables, all_memories, around}
use Rattle.validate_bodies.specs.declared.spaces.GlobalType.{GlobalType as GlobalValue}
use Rattle.validate_bodies.specs.declared.spaces.Spaces.{Spaces}
use Rattle.validate_bodies.specs.Spaces.{total, ends_from, ends_of, global_type_of, SpacesOf}

pub ends_length : (n : ℕ) (rs : List Run) → length (ends_from n rs) ≡ length rs
unfolding ends_from
ends_length n [] = refl
ends_length n (r ∷ rs) = ap suc (ends_length (n + r.count) rs)

total_step : (i : ℕ) (r : Run) (rs : List Run) → total (take (suc i) (r ∷ rs)) ≡ r.count + total (take i rs)
total_step i r rs = sum_by-cons (λ (q : Run). q.count) r (take i rs)

total_none : (rs : List Run) → total (take 0 rs) ≡ 0
total_none [] = refl
total_none (r ∷ rs) = refl

-- where run i ends
pub ends_at : (n : ℕ) (rs : List Run) (i d : ℕ) → i < length rs → get_or (ends_from n rs) i d ≡ n + total (take (suc i) rs)
unfolding ends_from
ends_at n [] i d h = absurd (omega arith)
ends_at n (r ∷ rs) zero d h = omega (arith, total_step 0 r rs, total_none rs)
ends_at n (r ∷ rs) (suc i) d h = let m : i < length rs = omega arith in ends_at (n + r.count) rs i d m ∙ omega (arith, total_step (suc i) r rs)

get_front : {X : Type 0} (xs ys : List X) (i : ℕ) → i < length xs → slice_get (xs ++ ys) i ≡ slice_get xs i
get_front [] ys i h = absurd (omega arith)
get_front (x ∷ xs) ys zero h = refl
get_front (x ∷ xs) ys (suc i) h = get_front xs ys i (omega arith)

get_same : (t : ValType) (n i : ℕ) → i < n → slice_get (replicate n t) i ≡ Some t
get_same t zero i h = absurd (omega arith)
get_same t (suc n) zero h = refl
get_same t (suc n) (suc i) h = get_same t n i (omega arith)

get_on : {X : Type 0} (xs ys : List X) (i j : ℕ) → i ≡ length xs + j → slice_get (xs ++ ys) i ≡ slice_get ys j
get_on [] ys i j e = let f : i ≡ j = omega arith in ap (slice_get ys) f
get_on (x ∷ xs) ys zero j e = absurd (omega arith)
get_on (x ∷ xs) ys (suc i) j e = get_on xs ys i j (omega arith)

next_run : (rs : List Run) (i : ℕ) (r d : Run) → i < length rs → r ≡ get_or rs i d → drop i rs ≡ r ∷ drop (i + 1) rs
next_run rs i r d h e = rw (add-one, drop-cons rs i d) (ap (λ (q : Run). q ∷ drop (suc i) rs) (sym e))

-- the local x lies in run i
in_run : (rs : List Run) (i x : ℕ) (r : Run) → slice_get rs i ≡ Some r → total (take i rs) ≤ x → x < total (take (suc i) rs) → slice_get (declared_locals rs) x ≡ Some r.ty
in_run [] i x r e low high = cc
in_run (q ∷ rs) zero x r e low high =
    let m : x < q.count = omega (arith, total_step 0 q rs, total_none rs) in
    let f : q ≡ r = cc in
    get_front (replicate q.count q.ty) (declared_locals rs) x (omega (arith, length-replicate q.count q.ty)) ∙ get_same q.ty q.count x m ∙ ap (λ (z : Run). Some z.ty) f
in_run (q ∷ rs) (suc i) x r e low high =
    let n : q.count + total (take i rs) ≤ x = omega (arith, total_step i q rs) in
    let m : x < q.count + total (take (suc i) rs) = omega (arith, total_step (suc i) q rs) in
    let at : x ≡ length (replicate q.count q.ty) + (x - q.count) = omega (arith, length-replicate q.count q.ty) in
    let n' : total (take i rs) ≤ x - q.count = omega arith in
    let m' : x - q.count < total (take (suc i) rs) = omega arith in
    get_on (replicate q.count q.ty) (declared_locals rs) x (x - q.count) at ∙ in_run rs i (x - q.count) r e n' m'

total_cons : (r : Run) (rs : List Run) → total (r ∷ rs) ≡ r.count + total rs
total_cons r rs = sum_by-cons (λ (q : Run). q.count) r rs

-- it lies behind all of them
past_runs : (rs : List Run) (x : ℕ) → total rs ≤ x → slice_get (declared_locals rs) x ≡ None
past_runs [] x h = refl
past_runs (q ∷ rs) x h =
    let n : q.count + total rs ≤ x = omega (arith, total_cons q rs) in
    let at : x ≡ length (replicate q.count q.ty) + (x - q.count) = omega (arith, length-replicate q.count q.ty) in
    get_on (replicate q.count q.ty) (declared_locals rs) x (x - q.count) at ∙ past_runs rs (x - q.count) (omega arith)

-- the search has closed
pub found_run : (rs : List Run) (low high x : ℕ) (d : Run) → low ≤ high → high ≤ low → low < length rs → total (take low rs) ≤ x → (high < length rs → x < total (take (suc high) rs))
    → Some (get_or rs low d).ty ≡ slice_get (declared_locals rs) x
found_run rs low high x d le ge lt before behind =
    let same : high ≡ low = omega arith in
    let within : high < length rs = omega arith in
    sym (in_run rs low x (get_or rs low d) (slice_get-get_or rs low d lt) before (subst (λ n. x < total (take (suc n) rs)) same (behind within)))

pub no_run : (rs : List Run) (low x : ℕ) → total (take low rs) ≤ x → length rs ≤ low → None ≡ slice_get (declared_locals rs) x
no_run rs low x before past = sym (past_runs rs x (subst (λ (ys : List Run). total ys ≤ x) (take_all low rs past) before))

-- a local of the next run
pub walk_in : (rs : List Run) (i x : ℕ) (r d : Run) → i < length rs → r ≡ get_or rs i d → x < r.count → slice_get (declared_locals (drop i rs)) x ≡ Some r.ty
walk_in rs i x r d h e low =
    ap (λ z. slice_get (declared_locals z) x) (next_run rs i r d h e)
    ∙ get_front (replicate r.count r.ty) (declared_locals (drop (i + 1) rs)) x (omega (arith, length-replicate r.count r.ty)) ∙ get_same r.ty r.count x low

-- one behind it
pub walk_on : (rs : List Run) (i x y : ℕ) (r d : Run) → i < length rs → r ≡ get_or rs i d → r.count ≤ x → y ≡ x - r.count
    → slice_get (declared_locals (drop i rs)) x ≡ slice_get (declared_locals (drop (i + 1) rs)) y
walk_on rs i x y r d h e high f =
    ap (λ z. slice_get (declared_locals z) x) (next_run rs i r d h e)
    ∙ get_on (replicate r.count r.ty) (declared_locals (drop (i + 1) rs)) x y (omega (arith, length-replicate r.count r.ty))

pub walk_end : (rs : List Run) (i x : ℕ) → length rs ≤ i → slice_get (declared_locals (drop i rs)) x ≡ None
walk_end rs i x h = ap (λ z. slice_get (declared_locals z) x) (drop_all i rs h)

pub ruleset walking = (walk_end, walk_end)

pub ruleset halving = (ends_length, ends_at, found_run, no_run)

pub local_front : (ps ls : List ValType) (i : ℕ) (d : ValType) → i < length ps → slice_get (ps ++ ls) i ≡ Some (get_or ps i d)
local_front ps ls i d h = get_front ps ls i h ∙ slice_get-get_or ps i d h

pub local_back : (ps ls : List ValType) (i : ℕ) → length ps ≤ i → slice_get (ps ++ ls) i ≡ slice_get ls (i - length ps)
local_back ps ls i h = get_on ps ls i (i - length ps) (omega arith)

pub ruleset locals = (local_front, local_back)

pub ruleset looking = (slice_get-map, slice_get-map)

pub ruleset finding = (slice_get-map, All-get_or)

-- the types of all functions are there
pub sorts_there : (m : Module) → types_there m ≡ true → All (λ s. s < length m.types) (func_sorts m)
sorts_there m h =
    let all = AllPass-from_list_all (λ x. nat_lt x (length m.types)) (func_sorts m) h in
    λ k d lt. ltb-true _ _ (all k d lt)

pub sorts_in : (m : Module) (sorts : List ℕ) → sorts ≡ func_sorts m → types_there m ≡ true → All (λ s. s < length m.types) sorts
sorts_in m sorts e h = subst (All (λ s. s < length m.types)) (sym e) (sorts_there m h)

pub sort_there : (m : ModuleValue) (i : ℕ) (f : FuncValue) → types_there (module_of m) ≡ true → i < length m.funcs.items → f ≡ get_or m.funcs.items i f → f.sort < length m.types.items
sort_there m i f h lt e =
    let front = imported imported_func (module_of m) in
    let sorts = map (λ (g : Func). g.sort) (map func_of m.funcs.items) in
    let at : length front + i < length (front ++ sorts) = omega (arith, length-append front sorts, length-map (map func_of m.funcs.items) (λ (g : Func). g.sort), length-map m.funcs.items func_of) in
    let is : get_or (front ++ sorts) (length front + i) f.sort ≡ f.sort = get_or-append-add front sorts i f.sort
    ∙ get_or-map (λ (g : Func). g.sort) (map func_of m.funcs.items) i (func_of f) f.sort (omega (arith, length-map m.funcs.items func_of))
    ∙ ap (λ (g : Func). g.sort) (get_or-map func_of m.funcs.items i f (func_of f) lt ∙ ap func_of (sym e)) in
    omega (arith, subst (λ n. n < length (module_of m).types) is (sorts_there (module_of m) h (length front + i) f.sort at), length-map m.types.items func_type_of)

pub ends_are : (fs : List FuncValue) (es : List (Vec ℕ Global)) (i : ℕ) (f : FuncValue) (v : Vec ℕ Global)
    → map (λ (w : Vec ℕ Global). w.items) es ≡ map (λ (g : Func). ends_of g.locals) (map func_of fs) → i < length fs → f ≡ get_or fs i f → v ≡ get_or es i v
    → v.items ≡ ends_of f.locals.items
ends_are fs es i f v h lt e g =
    let n : i < length es = omega (arith, ap length h, length-map es (λ (w : Vec ℕ Global). w.items), length-map (map func_of fs) (λ (g : Func). ends_of g.locals), length-map fs func_of) in
    ap (λ (w : Vec ℕ Global). w.items) g ∙ sym (get_or-map (λ (w : Vec ℕ Global). w.items) es i v v.items n)
    ∙ ap (λ z. get_or z i v.items) h
    ∙ get_or-map (λ (g : Func). ends_of g.locals) (map func_of fs) i (func_of f) v.items (omega (arith, length-map fs func_of))
    ∙ ap (λ (q : Func). ends_of q.locals) (get_or-map func_of fs i f (func_of f) lt ∙ ap func_of (sym e))

-- the context that such fields stand for
abbrev pub made : List TypeValue → List ℕ → (tables memories : ℕ) → List GlobalValue → List ValType → List Run → Option ValType → Around
made types sorts tables memories globals params runs r = record {
  types = map func_type_of types;
  funcs = map (λ s. or_empty (slice_get (map func_type_of types) s)) sorts;
  table = nat_lt 0 tables;
  memory = nat_lt 0 memories;
  globals = map global_type_of globals;
  locals = params ++ declared_locals runs;
  result = r;
}

module _ (m : ModuleValue) (s : Spaces) (spaces : SpacesOf (module_of m) s) (i : ℕ) (f : Func) (g : FuncValue) (ty : TypeValue)
    (found : slice_get (map func_of m.funcs.items) i ≡ Some f) (lt : i < length m.funcs.items) (is : g ≡ get_or m.funcs.items i g) (small : g.sort < length m.types.items)
    (of : ty ≡ get_or m.types.items g.sort ty) where
  same_func : f ≡ func_of g
  same_func =
      let h : slice_get (map func_of m.funcs.items) i ≡ Some (func_of g) = slice_get-get_or (map func_of m.funcs.items) i (func_of g) (omega (arith, length-map m.funcs.items func_of))
      ∙ ap Some (get_or-map func_of m.funcs.items i g (func_of g) lt ∙ ap func_of (sym is)) in
      let z : Some f ≡ Some (func_of g) = sym found ∙ h in
      cc

  its_type : type_at (module_of m) g.sort ≡ func_type_of ty
  its_type =
      ap or_empty (slice_get-get_or (map func_type_of m.types.items) g.sort (func_type_of ty) (omega (arith, length-map m.types.items func_type_of))
      ∙ ap Some (get_or-map func_type_of m.types.items g.sort ty (func_type_of ty) small ∙ ap func_type_of (sym of)))

  abbrev with_globals : List GlobalType → FuncType → Around
  with_globals gs t = record {
    types = map func_type_of m.types.items;
    funcs = func_types (module_of m);
    table = nat_lt 0 (length (all_tables (module_of m)));
    memory = nat_lt 0 (length (all_memories (module_of m)));
    globals = gs;
    locals = t.params ++ declared_locals g.locals.items;
    result = slice_get t.results 0;
  }

  pub around_is : (types : List TypeValue) (sorts : List ℕ) (globals : List GlobalValue) (params : List ValType) (runs : List Run) (r : Option ValType) → types ≡ m.types.items
      → sorts ≡ s.sorts.items → globals ≡ s.globals.items → params ≡ ty.params.items → runs ≡ g.locals.items → r ≡ slice_get ty.results.items 0
      → made types sorts s.tables s.memories globals params runs r ≡ around (module_of m) f
  around_is types sorts globals params runs r e1 e2 e3 e4 e5 e6 =
      (λ j. made (e1 j) ((e2 ∙ spaces.sorts) j) (spaces.tables j) (spaces.memories j) (e3 j) (e4 j) (e5 j) (e6 j))
      ∙ (λ j. with_globals (spaces.globals j) ((sym its_type) j))
      ∙ ap (around (module_of m)) (sym same_func)
