-- Who calls each function of a module, which of them pause by a call of their own, and which may pause then.
use Rattle.std.proofs.Common.{arith, ◌≡◌, ℕ, zero, suc, ◌+◌, ◌-◌, ◌<◌, ◌≤◌, List, [], ◌∷◌, ◌++◌, map, replicate, length, get_or, set, Option, Some, None, Bool, true, false, not, slice_get}
use Rattle.std.proofs.Common.{refl, sym, ap, ◌∙◌, subst, length-set, length-append, ⊎_elim, inl, inr, if◌then◌else◌, nat_lt}
use Rattle.std.specs.Prelude.{◌↔◌, ◌⊎◌, Contains}
use Rattle.std.specs.List.{filter_map, cons_option}
use Rattle.std.specs.Option.{option_map}
use Rattle.std.proofs.lemmas.Bool.{lt-ltb, le-ltb, cases_lt}
use Rattle.std.proofs.lemmas.Option.{slice_get-get_or, slice_get_within, slice_get-map, get_or_from_slice_get}
use Rattle.std.proofs.lemmas.List.{length-map, length-replicate}
use Rattle.std.proofs.lemmas.List.Folds.{list_any_at, Any-from_list_any}
use Rattle.std.proofs.lemmas.List.Elements.{Contains-append_left, Contains-push, Contains-push_cases, Contains-append_cases}
use Rattle.std.specs.declared.vec.Vec.{Vec}
use Rattle.std.specs.declared.alloc.Global.{Global}
use Rattle.wa_types.specs.declared.values.ValType.{ValType}
use Rattle.wa_types.specs.declared.syntax.Import.{Import}
use Rattle.wa_types.specs.Syntax.{Plain, basic, local_get, local_set, local_tee, br, br_if, br_table, return, unreachable, call, call_indirect, Code, done, plain, nest, branch, FuncType, Func, Module}
use Rattle.wa_types.specs.Typing.{Around, Takes, calls, sig, label, listed as listed_type, Types}
use Rattle.wa_types.specs.Modules.{imported_func, imported, func_imports, func_sorts, func_types, type_at, around, defined_at}
use Rattle.wa_types.specs.Pruned.{pruned}
use Rattle.wa_types.specs.Validity.{Valid}
use Rattle.wa_types.specs.Pausing.{Settings, Choice, Callee, direct, indirect, callee, callee_onto, calls_of, calls_in, is_told, listed_import, Listed, MayPause, calls_listed}
use Rattle.wa_types.specs.Pausing.{calls_indirectly, calls_pausing, TellsMayPause}
use Rattle.wa_types.proofs.TypingLemmas.{pruned_types}
use Rattle.call_graph.specs.Calls.{pauses_alone, pauses, calls_or_none, calls_at, IsThere}
use Rattle.call_graph.specs.Graph.{items_or_none, callers_at, Reached, at_start, by_caller}
use Rattle.call_graph.specs.Callers.{Puts, GatheredBelow, CallsGathered}

none_contained : {X : Type 0} (x : X) → Contains [] x → ⊥
none_contained x c = omega (arith, c.1)

got : {X : Type 0} (xs : List X) (x : X) → Contains xs x → (k : ℕ) × (slice_get xs k ≡ Some x)
got xs x c = (c.0, slice_get-get_or xs c.0 x c.1 ∙ ap Some c.2)

pub has : {X : Type 0} (xs : List X) (k : ℕ) (x : X) → slice_get xs k ≡ Some x → Contains xs x
has xs k x e = (k, slice_get_within xs k x e, get_or_from_slice_get xs k x x e)

-- ---- calls of typed code are there

called_there : (c : Around) (x : ℕ) (o : Option FuncType) (ins outs : List ValType) → slice_get c.funcs x ≡ o → Takes (calls o) ins outs → x < length c.funcs
called_there c x None ins outs e t = absurd t
called_there c x (Some f) ins outs e t = slice_get_within c.funcs x f e

abbrev AllThere : ℕ → List Callee → Type 0
AllThere count cs = (k : Callee) → Contains cs k → IsThere count k

onto_there : (c : Around) (ls : List (Option ValType)) (p : Plain) (ins outs : List ValType) (cs : List Callee) → Takes (sig c ls p) ins outs → AllThere (length c.funcs) cs
    → AllThere (length c.funcs) (callee_onto (callee p) cs)
onto_there c ls (basic b) ins outs cs t h = h
onto_there c ls (local_get x) ins outs cs t h = h
onto_there c ls (local_set x) ins outs cs t h = h
onto_there c ls (local_tee x) ins outs cs t h = h
onto_there c ls (br l) ins outs cs t h = h
onto_there c ls (br_if l) ins outs cs t h = h
onto_there c ls (br_table labels l) ins outs cs t h = h
onto_there c ls return ins outs cs t h = h
onto_there c ls unreachable ins outs cs t h = h
onto_there c ls (call x) ins outs cs t h = λ k d. in_front k (Contains-append_cases (direct x ∷ []) cs k d)
  where
    in_front : (k : Callee) → Contains (direct x ∷ []) k ⊎ Contains cs k → IsThere (length c.funcs) k
    in_front k (inl one) = subst (IsThere (length c.funcs)) (the_one k one) (called_there c x (slice_get c.funcs x) ins outs refl t)
      where
        the_one : (k : Callee) → Contains (direct x ∷ []) k → direct x ≡ k
        the_one k (zero, lt, e) = e
        the_one k (suc n, lt, e) = absurd (omega (arith, lt))
    in_front k (inr more) = h k more
onto_there c ls (call_indirect x) ins outs cs t h = λ k d. in_front k (Contains-append_cases (indirect x ∷ []) cs k d)
  where
    in_front : (k : Callee) → Contains (indirect x ∷ []) k ⊎ Contains cs k → IsThere (length c.funcs) k
    in_front k (inl one) = subst (IsThere (length c.funcs)) (the_one k one) tt
      where
        the_one : (k : Callee) → Contains (indirect x ∷ []) k → indirect x ≡ k
        the_one k (zero, lt, e) = e
        the_one k (suc n, lt, e) = absurd (omega (arith, lt))
    in_front k (inr more) = h k more

both_there : (count : ℕ) (cs ds : List Callee) → AllThere count cs → AllThere count ds → AllThere count (cs ++ ds)
both_there count cs ds h g = λ k c. ⊎_elim (h k) (g k) (Contains-append_cases cs ds k c)

typed_there : (c : Around) (ls : List (Option ValType)) (k : Code) (outs ins : List ValType) → Types c ls k outs ins → AllThere (length c.funcs) (calls_of k)
unfolding Types calls_of
typed_there c ls done outs ins h = λ k d. absurd (none_contained k d)
typed_there c ls (plain p rest) outs ins h = onto_there c ls p ins h.0 (calls_of rest) h.1 (typed_there c ls rest outs h.0 h.2)
typed_there c ls (nest s r body rest) outs ins h =
    both_there (length c.funcs) (calls_of body) (calls_of rest) (typed_there c (label s r ∷ ls) body (listed_type r) [] h.0) (typed_there c ls rest outs (listed_type r ++ ins) h.1)
typed_there c ls (branch r a b rest) outs ins h =
    both_there (length c.funcs) (calls_of a ++ calls_of b) (calls_of rest) (both_there (length c.funcs) (calls_of a) (calls_of b) (typed_there c (r ∷ ls) a (listed_type r) [] h.2)
    (typed_there c (r ∷ ls) b (listed_type r) [] h.3)) (typed_there c ls rest outs (listed_type r ++ h.0) h.4)

types_count : (m : Module) → length (func_types m) ≡ length (func_sorts m)
types_count m = length-map (func_sorts m) (type_at m)

-- the functions that are called by a valid module's function are there
pub calls_there : (m : Module) (i : ℕ) (f : Func) → Valid m → slice_get m.funcs i ≡ Some f → (k : Callee) → Contains (calls_in f) k → IsThere (length (func_sorts m)) k
calls_there m i f v e k c =
    subst (λ n. IsThere n k) (types_count m)
    (typed_there (around m f) ((around m f).result ∷ []) (pruned f.body) (listed_type (around m f).result) []
    (pruned_types (around m f) ((around m f).result ∷ []) f.body (listed_type (around m f).result) [] (v.bodies i f e)) k c)

-- ---- a caller is put

pub puts_none : (caller : ℕ) (callers : List (Vec ℕ Global)) → Puts [] caller callers callers
puts_none caller callers = record {
  len = refl;
  each = λ y x. (inl, λ s. ⊎_elim (λ c. c) (λ p. absurd (none_contained (direct y) p.1)) s);
}

set_other : (vs : List (Vec ℕ Global)) (i y : ℕ) (v : Vec ℕ Global) → (y ≡ i → ⊥) → slice_get (set vs i v) y ≡ slice_get vs y
set_other [] i y v ne = refl
set_other (w ∷ vs) zero zero v ne = absurd (ne refl)
set_other (w ∷ vs) zero (suc y) v ne = refl
set_other (w ∷ vs) (suc i) zero v ne = refl
set_other (w ∷ vs) (suc i) (suc y) v ne = set_other vs i y v (λ e. ne (ap suc e))

set_same : (vs : List (Vec ℕ Global)) (i : ℕ) (v : Vec ℕ Global) → i < length vs → slice_get (set vs i v) i ≡ Some v
set_same [] i v h = absurd (omega (arith, h))
set_same (w ∷ vs) zero v h = refl
set_same (w ∷ vs) (suc i) v h = set_same vs i v (omega (arith, h))

same_direct : (x y : ℕ) → direct x ≡ direct y → x ≡ y
same_direct x y e = cc

module _ (calls : List Callee) (caller : ℕ) (old mid : List (Vec ℕ Global)) (before : Puts calls caller old mid) where
  -- a call through the table puts nothing
  pub puts_indirect : (sort : ℕ) → Puts (calls ++ indirect sort ∷ []) caller old mid
  puts_indirect sort = record {
    len = before.len;
    each = λ y x. (
      λ c. ⊎_elim inl (λ p. inr (p.0, Contains-append_left calls (indirect sort ∷ []) (direct y) p.1)) ((before.each y x).0 c),
      λ s. (before.each y x).1 (⊎_elim inl (λ p. inr (p.0, ⊎_elim (λ d. d) (λ e. let bad : ⊥ = cc in absurd bad) (Contains-push_cases calls (indirect sort) (direct y) p.1))) s),
    );
  }

  -- a direct one puts the caller to its callee's
  pub puts_direct : (func : ℕ) (v : List ℕ) (w : Vec ℕ Global) → func < length mid → callers_at mid func ≡ v → w.items ≡ v ++ caller ∷ [] → Puts (calls ++ direct func ∷ []) caller old (set mid func w)
  puts_direct func v w within is more = record {
    len = length-set mid func w ∙ before.len;
    each = λ y x. ⊎_elim (at_other y x) (at_func y x) (same_or y func);
  }
    where
      same_or : (y z : ℕ) → (y ≡ z → ⊥) ⊎ (y ≡ z)
      same_or y z = ⊎_elim (λ lt. inl (λ e. omega (arith, lt, e))) (λ ge. ⊎_elim (λ lt. inl (λ e. omega (arith, lt, e))) (λ le. inr (omega (arith, ge, le))) (cases_lt z y)) (cases_lt y z)

      at_other : (y x : ℕ) → (y ≡ func → ⊥) → Contains (callers_at (set mid func w) y) x ↔ (Contains (callers_at old y) x ⊎ ((x ≡ caller) × Contains (calls ++ direct func ∷ []) (direct y)))
      at_other y x ne =
          let e : callers_at (set mid func w) y ≡ callers_at mid y = ap items_or_none (set_other mid func y w ne) in (
            λ c. ⊎_elim inl (λ p. inr (p.0, Contains-append_left calls (direct func ∷ []) (direct y) p.1)) ((before.each y x).0 (subst (λ l. Contains l x) e c)),
            λ s. subst (λ l. Contains l x) (sym e)
                ((before.each y x).1 (⊎_elim inl (λ p. inr (p.0, ⊎_elim (λ d. d) (λ f. absurd (ne (sym (same_direct func y f)))) (Contains-push_cases calls (direct func) (direct y) p.1)))
                s)),
          )

      at_func : (y x : ℕ) → y ≡ func → Contains (callers_at (set mid func w) y) x ↔ (Contains (callers_at old y) x ⊎ ((x ≡ caller) × Contains (calls ++ direct func ∷ []) (direct y)))
      at_func y x same =
          let here : callers_at (set mid func w) y ≡ v ++ caller ∷ [] = ap (callers_at (set mid func w)) same ∙ ap items_or_none (set_same mid func w within) ∙ more in
          let there : callers_at mid y ≡ v = ap (callers_at mid) same ∙ is in
          let ours : Contains (calls ++ direct func ∷ []) (direct y) = subst (λ z. Contains (calls ++ direct func ∷ []) (direct z)) (sym same) (Contains-push calls (direct func)) in (
            λ c. ⊎_elim (λ d. ⊎_elim inl (λ p. inr (p.0, ours)) ((before.each y x).0 (subst (λ l. Contains l x) (sym there) d))) (λ e. inr (sym e, ours))
                (Contains-push_cases v caller x (subst (λ l. Contains l x) here c)),
            λ s. subst (λ l. Contains l x) (sym here) (⊎_elim (λ c. Contains-append_left v (caller ∷ []) x (subst (λ l. Contains l x) there ((before.each y x).1 (inl c))))
                (λ p. subst (Contains (v ++ caller ∷ [])) (sym p.0) (Contains-push v caller)) s),
          )

-- ---- a module's calls are gathered

sorts_count : (m : Module) → length (func_sorts m) ≡ func_imports m + length m.funcs
sorts_count m =
    let l = length-append (imported imported_func m) (map (λ (f : Func). f.sort) m.funcs) in
    omega (arith, l, length-map m.funcs (λ (f : Func). f.sort))

defined_is : (m : Module) (i : ℕ) → defined_at m (func_imports m + i) ≡ slice_get m.funcs i
defined_is m i =
    let out : nat_lt (func_imports m + i) (func_imports m) ≡ false = le-ltb (func_imports m + i) (func_imports m) (omega arith) in
    let k : func_imports m + i - func_imports m ≡ i = omega arith in
    ap (λ b. if b then None else slice_get m.funcs (func_imports m + i - func_imports m)) out ∙ ap (slice_get m.funcs) k

defined_below : (m : Module) (x : ℕ) → x < func_imports m → defined_at m x ≡ None
defined_below m x lt = ap (λ b. if b then None else slice_get m.funcs (x - func_imports m)) (lt-ltb x (func_imports m) lt)

defined_within : (m : Module) (x : ℕ) (f : Func) → defined_at m x ≡ Some f → (func_imports m ≤ x) × (slice_get m.funcs (x - func_imports m) ≡ Some f)
defined_within m x f e = ⊎_elim (λ lt. let bad : None ≡ Some f = sym (defined_below m x lt) ∙ e in absurd (cc))
    (λ ge. (ge, sym (ap (λ b. if b then None else slice_get m.funcs (x - func_imports m)) (le-ltb x (func_imports m) ge)) ∙ e)) (cases_lt x (func_imports m))

pub gather_first : (m : Module) (callers : List (Vec ℕ Global)) → length callers ≡ func_imports m + length m.funcs → ((y : ℕ) → callers_at callers y ≡ []) → GatheredBelow m (func_imports m) callers
gather_first m callers len none = record {
  len = len ∙ sym (sorts_count m);
  each = λ y x. (
    λ c. absurd (none_contained x (subst (λ l. Contains l x) (none y) c)),
    λ p. absurd (none_contained (direct y) (subst (λ o. Contains (calls_or_none o) (direct y)) (defined_below m x p.0) p.1)),
  );
}

pub gather_more : (m : Module) (i : ℕ) (f : Func) (callers new : List (Vec ℕ Global)) → slice_get m.funcs i ≡ Some f → GatheredBelow m (func_imports m + i) callers
    → Puts (calls_in f) (func_imports m + i) callers new → GatheredBelow m (func_imports m + (i + 1)) new
gather_more m i f callers new is g p = record {
  len = p.len ∙ g.len;
  each = λ y x. (
    λ c. ⊎_elim (λ d. let q = (g.each y x).0 d in (omega (arith, q.0), q.1)) (λ q. (omega (arith, q.0), subst (λ l. Contains l (direct y)) (sym (ap (calls_at m) q.0 ∙ ours)) q.1)) ((p.each y x).0 c),
    λ q. (p.each y x).1 (⊎_elim (λ lt. inl ((g.each y x).1 (lt, q.1))) (λ ge. let e : x ≡ func_imports m
        + i = omega (arith, ge, q.0) in inr (e, subst (λ l. Contains l (direct y)) (ap (calls_at m) e ∙ ours) q.1)) (cases_lt x (func_imports m + i))),
  );
}
  where
    ours : calls_at m (func_imports m + i) ≡ calls_in f
    ours = ap calls_or_none (defined_is m i ∙ is)

pub gather_last : (m : Module) (n : ℕ) (callers : List (Vec ℕ Global)) → n ≡ length m.funcs → GatheredBelow m (func_imports m + n) callers → GatheredBelow m (length (func_sorts m)) callers
gather_last m n callers e g = subst (λ k. GatheredBelow m k callers) (ap (λ j. func_imports m + j) e ∙ sym (sorts_count m)) g

-- ---- which functions may pause

marks_count : (choice : Choice) (i : Import) (o : Option ℕ) (marks : List Bool) (sorts : List ℕ) → length marks ≡ length sorts
    → length (cons_option (listed_import choice i o) marks) ≡ length (cons_option o sorts)
marks_count choice i None marks sorts h = h
marks_count choice i (Some sort) marks sorts h = ap suc h

listed_each : (choice : Choice) (is : List Import) → length (filter_map (λ (i : Import). listed_import choice i (imported_func i.kind)) is)
    ≡ length (filter_map (λ (i : Import). imported_func i.kind) is)
listed_each choice [] = refl
listed_each choice (i ∷ is) =
    marks_count choice i (imported_func i.kind) (filter_map (λ (i : Import). listed_import choice i (imported_func i.kind)) is) (filter_map (λ (i : Import). imported_func i.kind) is)
    (listed_each choice is)

pub listed_count : (m : Module) (s : Settings) → length (Listed m s) ≡ func_imports m
listed_count m s = listed_each s.choice m.imports

on_front : {X : Type 0} (xs ys : List X) (i : ℕ) → i < length xs → slice_get (xs ++ ys) i ≡ slice_get xs i
on_front [] ys i h = absurd (omega (arith, h))
on_front (x ∷ xs) ys zero h = refl
on_front (x ∷ xs) ys (suc i) h = on_front xs ys i (omega (arith, h))

on_back : {X : Type 0} (xs ys : List X) (i k : ℕ) → i ≡ length xs + k → slice_get (xs ++ ys) i ≡ slice_get ys k
on_back [] ys i k h = let e : i ≡ k = omega (arith, h) in ap (slice_get ys) e
on_back (x ∷ xs) ys zero k h = absurd (omega (arith, h))
on_back (x ∷ xs) ys (suc i) k h = on_back xs ys i k (omega (arith, h))

none_true : (n x : ℕ) → slice_get (replicate n false) x ≡ Some true → ⊥
none_true zero x h = cc
none_true (suc n) zero h = cc
none_true (suc n) (suc x) h = none_true n x h

module _ (m : Module) (listed : List Bool) (ignore : Bool) where
  abbrev alone : List Bool
  alone = replicate (func_imports m) false ++ map (pauses listed ignore) m.funcs

  alone_back : (x : ℕ) → func_imports m ≤ x → slice_get alone x ≡ option_map (pauses listed ignore) (slice_get m.funcs (x - func_imports m))
  alone_back x ge =
      let e : x ≡ length (replicate (func_imports m) false) + (x - func_imports m) = omega (arith, ge, length-replicate (func_imports m) false) in
      on_back (replicate (func_imports m) false) (map (pauses listed ignore) m.funcs) x (x - func_imports m) e
      ∙ slice_get-map (pauses listed ignore) m.funcs (x - func_imports m)

  alone_func : (x : ℕ) → slice_get alone x ≡ Some true → (f : Func) × (defined_at m x ≡ Some f) × (pauses listed ignore f ≡ true)
  alone_func x h = ⊎_elim in_front behind (cases_lt x (func_imports m))
    where
      in_front : x < func_imports m → (f : Func) × (defined_at m x ≡ Some f) × (pauses listed ignore f ≡ true)
      in_front lt =
          let l : x < length (replicate (func_imports m) false) = omega (arith, lt, length-replicate (func_imports m) false) in
          absurd (none_true (func_imports m) x (sym (on_front (replicate (func_imports m) false) (map (pauses listed ignore) m.funcs) x l) ∙ h))

      by_func : (o : Option Func) → defined_at m x ≡ o → option_map (pauses listed ignore) o ≡ Some true → (f : Func) × (defined_at m x ≡ Some f) × (pauses listed ignore f ≡ true)
      by_func None d e = absurd (cc)
      by_func (Some f) d e = (f, d, cc)

      behind : func_imports m ≤ x → (f : Func) × (defined_at m x ≡ Some f) × (pauses listed ignore f ≡ true)
      behind ge =
          let d : defined_at m x ≡ slice_get m.funcs (x - func_imports m) = ap (λ b. if b then None else slice_get m.funcs (x - func_imports m)) (le-ltb x (func_imports m) ge) in
          by_func (slice_get m.funcs (x - func_imports m)) d (sym (alone_back x ge) ∙ h)

  func_alone : (x : ℕ) (f : Func) → defined_at m x ≡ Some f → pauses listed ignore f ≡ true → slice_get alone x ≡ Some true
  func_alone x f d p =
      let w = defined_within m x f d in
      alone_back x w.0 ∙ ap (option_map (pauses listed ignore)) w.1 ∙ ap Some p

told_some : (o : Option Bool) → is_told o ≡ true → o ≡ Some true
told_some None h = cc
told_some (Some b) h = ap Some h

not_so : (b : Bool) → not b ≡ true → b ≡ false
not_so true h = cc
not_so false h = refl

module _ (m : Module) (s : Settings) (callers : List (Vec ℕ Global)) (gathered : GatheredBelow m (length (func_sorts m)) callers) where
  abbrev starts : List Bool
  starts = alone m (Listed m s) s.ignore_indirect

  by_call : (x y : ℕ) (o : Option Func) → defined_at m x ≡ o → Contains (calls_or_none o) (direct y) → MayPause m s y → MayPause m s x
  by_call x y None d c r = absurd (none_contained (direct y) c)
  by_call x y (Some f) d c r = let g = got (calls_in f) (direct y) c in calls_pausing x f g.0 y d g.1 r

  by_own : (x : ℕ) (f : Func) → defined_at m x ≡ Some f → (k : ℕ) (c : Callee) → slice_get (calls_in f) k ≡ Some c → pauses_alone (Listed m s) s.ignore_indirect c ≡ true → MayPause m s x
  by_own x f d k (direct i) e p = calls_listed x f k i d e (told_some (slice_get (Listed m s) i) p)
  by_own x f d k (indirect sort) e p = calls_indirectly x f k sort d e (not_so s.ignore_indirect p)

  may : (x : ℕ) → Reached callers starts x → MayPause m s x
  may x (at_start y h) =
      let a = alone_func m (Listed m s) s.ignore_indirect y h in
      let c = Any-from_list_any (pauses_alone (Listed m s) s.ignore_indirect) (calls_in a.0) a.2 in
      by_own y a.0 a.1 c.0 c.1 (slice_get-get_or (calls_in a.0) c.0 c.1 c.2 ∙ ap Some c.3) c.4
  may x (by_caller y z c r) = let g = (gathered.each z y).0 c in by_call y z (defined_at m y) refl g.1 (may z r)

  own : (x : ℕ) (f : Func) (k : ℕ) (c : Callee) → defined_at m x ≡ Some f → slice_get (calls_in f) k ≡ Some c → pauses_alone (Listed m s) s.ignore_indirect c ≡ true → Reached callers starts x
  own x f k c d e p =
      let at : pauses_alone (Listed m s) s.ignore_indirect (get_or (calls_in f) k c) ≡ true = ap (pauses_alone (Listed m s) s.ignore_indirect) (get_or_from_slice_get (calls_in f) k c c e) ∙ p in
      at_start x (func_alone m (Listed m s) s.ignore_indirect x f d (list_any_at (pauses_alone (Listed m s) s.ignore_indirect) (calls_in f) k c (slice_get_within (calls_in f) k c e) at))

  reached : (x : ℕ) → MayPause m s x → Reached callers starts x
  reached x (calls_listed y f place i d e l) = own y f place (direct i) d e (ap is_told l)
  reached x (calls_indirectly y f place sort d e i) = own y f place (indirect sort) d e (ap not i)
  reached x (calls_pausing y f place z d e r) =
      let w = defined_within m y f d in
      let lt : y < length (func_sorts m) = omega (arith, w.0, slice_get_within m.funcs (y - func_imports m) f w.1, sorts_count m) in
      by_caller y z ((gathered.each z y).1 (lt, subst (λ o. Contains (calls_or_none o) (direct z)) (sym d) (has (calls_in f) place (direct z) e))) (reached z r)

  tells : (result : List Bool) → length result ≡ length starts → ((x : ℕ) → (slice_get result x ≡ Some true) ↔ Reached callers starts x) → TellsMayPause m s result
  tells result len each = record {
    len = omega (
      arith,
      len,
      sorts_count m,
      length-append (replicate (func_imports m) false) (map (pauses (Listed m s) s.ignore_indirect) m.funcs),
      length-replicate (func_imports m) false,
      length-map m.funcs (pauses (Listed m s) s.ignore_indirect),
    );
    each = λ x. (λ t. may x ((each x).0 t), λ p. (each x).1 (reached x p));
  }

-- What is reached from the functions that pause by themselves is what may pause.
pub reached_may_pause : (m : Module) (s : Settings) (listed : List Bool) (callers : List (Vec ℕ Global)) (start result : List Bool) → listed ≡ Listed m s
    → CallsGathered m listed s.ignore_indirect callers start → length result ≡ length start → ((x : ℕ) → (slice_get result x ≡ Some true) ↔ Reached callers start x)
    → TellsMayPause m s result
reached_may_pause m s listed callers start result e g len each =
    let is : start ≡ starts m s callers g.calls = g.own ∙ ap (λ l. replicate (func_imports m) false ++ map (pauses l s.ignore_indirect) m.funcs) e in
    tells m s callers g.calls result (len ∙ ap length is) (subst (λ st. (x : ℕ) → (slice_get result x ≡ Some true) ↔ Reached callers st x) is each)

-- a caller that is gathered is a function
pub caller_within : (m : Module) (callers : List (Vec ℕ Global)) → GatheredBelow m (length (func_sorts m)) callers → (y x : ℕ) → Contains (callers_at callers y) x → x < length callers
caller_within m callers g y x c = omega (arith, ((g.each y x).0 c).0, g.len)

-- each function has its place in both lists
pub graph_len : (m : Module) (listed : List Bool) (ignore : Bool) (callers : List (Vec ℕ Global)) (start : List Bool) → CallsGathered m listed ignore callers start → length start ≡ length callers
graph_len m listed ignore callers start g =
    omega (
      arith,
      ap length g.own,
      (g.calls).len,
      sorts_count m,
      length-append (replicate (func_imports m) false) (map (pauses listed ignore) m.funcs),
      length-replicate (func_imports m) false,
      length-map m.funcs (pauses listed ignore),
    )
