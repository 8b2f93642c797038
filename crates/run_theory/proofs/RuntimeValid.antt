-- A valid module is valid with the runtime's parts behind its own.
use Rattle.std.proofs.Common.{◌≡◌, ℕ, zero, suc, ◌+◌, ◌-◌, ◌<◌, ◌++◌, List, [], ◌∷◌, map, Option, Some, None, Bool, true, false, not, ◌&&◌, refl, sym, ap, ◌∙◌, subst, ⊎_elim, length, arith}
use Rattle.std.proofs.Common.{append_assoc, length-append, eqb-true, All, Contains}
use Rattle.std.specs.Prelude.{slice_get, nat_lt, nat_le, ◌==◌, if◌then◌else◌}
use Rattle.std.specs.List.{filter_map, flat_map, list_all, list_any}
use Rattle.std.specs.Option.{option_map}
use Rattle.std.proofs.lemmas.Bool.{false_from_ne_true, lt-ltb, and_parts, and_from, or_from, not_from_false, not-true, cases_lt}
use Rattle.std.proofs.lemmas.List.{append-nil, map-append, length-map}
use Rattle.std.proofs.lemmas.List.Concat.{flat_map-append}
use Rattle.std.proofs.lemmas.List.Elements.{All-head, All-tail, filter_map-append}
use Rattle.std.proofs.lemmas.List.Folds.{list_all-append, list_any-append}
use Rattle.std.proofs.lemmas.Option.{slice_get-map, slice_get_within}
use Rattle.std.specs.Option.{option_to_list}
use Rattle.wa_types.specs.declared.values.ValType.{ValType}
use Rattle.wa_types.specs.declared.values.ValType.TheVariants.{I32}
use Rattle.wa_types.specs.declared.syntax.Space.{Space}
use Rattle.wa_types.specs.declared.syntax.Space.TheVariants.{Func as a_func, Table as a_table, Memory as a_memory, Global as a_global}
use Rattle.wa_types.specs.declared.syntax.Export.{Export}
use Rattle.wa_types.specs.Syntax.{const, global_get, basic, Code, done, plain, FuncType, Func, GlobalDef, Elem, Segment, Module}
use Rattle.wa_types.specs.Typing.{GlobalType, listed, Types, Typed}
use Rattle.wa_types.specs.Base.{Base}
use Rattle.wa_types.specs.Modules.{imported, imported_func, imported_global, global_type, func_sorts, func_types, func_imports, type_at, or_empty, all_tables, all_memories, all_globals}
use Rattle.wa_types.specs.Modules.{declared_locals, around}
use Rattle.wa_types.specs.Validity.{all_below, same_space, exported, got_global, types_there, funcs_there, tables_there, memories_there, expressions, globals_there}
use Rattle.wa_types.specs.Validity.{constant_of, is_constant, all_constant, same_name, all_differ, names_differ, is_empty_type, start_fits, start_lawful, Valid}
use Rattle.wa_types.specs.Runtime.{func_space, global_space, runtime_types, runtime_globals, start_code, stop_code, state_code, runtime_func, runtime_funcs, runtime_exports, runtime_names}
use Rattle.wa_types.specs.Runtime.{with_runtime}
use Rattle.run_theory.specs.Growth.{grown_module, Spaces, spaces_of, Each}
use Rattle.run_theory.specs.Quiet.{FreeOfNames}
use Rattle.run_theory.proofs.GrownSteps.{ModuleNamed, front, sorts_are, sort_stays, type_stays}
use Rattle.run_theory.proofs.NamedModules.{valid_named, valid_instance}
use Rattle.run_theory.proofs.BaseValid.{below_more, base_valid, base_has_memory}
use Rattle.run_theory.proofs.WiderTyping.{Wider, types_wider, state_type, start_typed, stop_typed, state_typed}

-- ---- lists and tests

pub behind : {X : Type 0} (xs ys : List X) (i j : ℕ) → i ≡ length xs + j → slice_get (xs ++ ys) i ≡ slice_get ys j
behind [] ys i j e = ap (slice_get ys) (let z : i ≡ j = omega arith in z)
behind (x ∷ xs) ys zero j e = absurd (omega arith)
behind (x ∷ xs) ys (suc i) j e = behind xs ys i j (omega arith)

below_each : (n : ℕ) (xs : List ℕ) → Each (λ x. x < n) xs → all_below n xs ≡ true
below_each n [] h = refl
below_each n (x ∷ xs) h = and_from (nat_lt x n) (all_below n xs) (lt-ltb x n h.0) (below_each n xs h.1)

all_joined : {X : Type 0} (p : X → Bool) (xs ys : List X) → list_all p xs ≡ true → list_all p ys ≡ true → list_all p (xs ++ ys) ≡ true
all_joined p xs ys g h = list_all-append p xs ys ∙ and_from (list_all p xs) (list_all p ys) g h

all_parts : {X : Type 0} (p : X → Bool) (xs ys : List X) → list_all p (xs ++ ys) ≡ true → (list_all p xs ≡ true) × (list_all p ys ≡ true)
all_parts p xs ys h = and_parts (list_all p xs) (list_all p ys) (sym (list_all-append p xs ys) ∙ h)

all_weaker : {X : Type 0} (p q : X → Bool) (xs : List X) → ((x : X) → p x ≡ true → q x ≡ true) → list_all p xs ≡ true → list_all q xs ≡ true
all_weaker p q [] f h = refl
all_weaker p q (x ∷ xs) f h = let b = and_parts (p x) (list_all p xs) h in and_from (q x) (list_all q xs) (f x b.0) (all_weaker p q xs f b.1)

-- names that differ, and others that differ from them and each other
differ_joined : (xs ys : List (List ℕ)) → all_differ xs ≡ true → Each (λ x. list_any (same_name x) ys ≡ false) xs → all_differ ys ≡ true → all_differ (xs ++ ys) ≡ true
differ_joined [] ys d f h = h
differ_joined (x ∷ xs) ys d f h =
    let b = and_parts (not (list_any (same_name x) xs)) (all_differ xs) d in
    let none : list_any (same_name x) (xs ++ ys) ≡ false = list_any-append (same_name x) xs ys
    ∙ or_from (list_any (same_name x) xs) (list_any (same_name x) ys) (not-true (list_any (same_name x) xs) b.0) f.0 in
    and_from (not (list_any (same_name x) (xs ++ ys))) (all_differ (xs ++ ys)) (not_from_false (list_any (same_name x) (xs ++ ys)) none) (differ_joined xs ys b.1 f.1 h)

same_is : (xs ys : List ℕ) → same_name xs ys ≡ true → xs ≡ ys
same_is [] [] h = refl
same_is [] (y ∷ ys) h = cc
same_is (x ∷ xs) [] h = cc
same_is (x ∷ xs) (y ∷ ys) h =
    let b = and_parts (x == y) (same_name xs ys) h in ap (λ z. z ∷ xs) (eqb-true x y b.0) ∙ ap (λ zs. y ∷ zs) (same_is xs ys b.1)

-- a name that isn't in a list is like none of it
none_same : (x : List ℕ) (ys : List (List ℕ)) → (Contains ys x → ⊥) → list_any (same_name x) ys ≡ false
none_same x [] h = refl
none_same x (y ∷ ys) h =
    or_from (same_name x y) (list_any (same_name x) ys)
    (false_from_ne_true (same_name x y) (λ e. h (0, omega arith, sym (same_is x y e))))
    (none_same x ys (λ c. let lt = c.1 in h (suc c.0, omega arith, c.2)))

names_each : (es : List Export) → All (λ (e : Export). Contains runtime_names e.name → ⊥) es → Each (λ x. list_any (same_name x) runtime_names ≡ false) (map (λ (e : Export). e.name) es)
names_each [] h = tt
names_each (e ∷ es) h =
    let P : Export → Type 0 = λ (x : Export). Contains runtime_names x.name → ⊥ in
    (none_same e.name runtime_names (All-head P e es h), names_each es (All-tail P e es h))

constant_more : (gs more : List GlobalType) (t : ValType) (code : Code) → is_constant gs t code ≡ true → is_constant (gs ++ more) t code ≡ true
constant_more gs more t (plain (basic (const v)) done) h = h
constant_more gs more t (plain (basic (global_get x)) done) h = found (slice_get gs x) refl h
  where
    found : (o : Option GlobalType) → slice_get gs x ≡ o → constant_of o t ≡ true → constant_of (slice_get (gs ++ more) x) t ≡ true
    found None e k = cc
    found (Some g) e k = ap (λ o. constant_of o t) (front gs more x (slice_get_within gs x g e) ∙ e) ∙ k
constant_more gs more t _ h = cc

-- a module with a memory
module _ (m : Module) (v : Valid m) (has_memory : nat_lt 0 (length (all_memories m)) ≡ true) where
  abbrev first : ℕ
  first = length m.types

  abbrev state : ℕ
  state = global_space m

  abbrev fs : List Func
  fs = runtime_funcs first state (state + 1)

  abbrev es : List Export
  es = runtime_exports (func_space m)

  abbrev p : Module
  p = grown_module m runtime_types fs runtime_globals es

  abbrev n : Spaces
  n = spaces_of m

  named : ModuleNamed m
  named = valid_named m v

  -- ---- types and functions

  types_length : length p.types ≡ first + 3
  types_length = length-append m.types runtime_types

  sorts_parts : func_sorts p ≡ func_sorts m ++ map (λ (f : Func). f.sort) fs
  sorts_parts = sorts_are m runtime_types fs runtime_globals es

  sorts_length : length (func_sorts p) ≡ n.funcs + 5
  sorts_length = ap length sorts_parts ∙ length-append (func_sorts m) (map (λ (f : Func). f.sort) fs)

  sorts_hold : types_there p ≡ true
  sorts_hold =
      let len = types_length in
      ap (all_below (length p.types)) sorts_parts
      ∙ all_joined (λ x. nat_lt x (length p.types)) (func_sorts m) (map (λ (f : Func). f.sort) fs) (below_more first (length p.types) (func_sorts m) (omega arith) v.sorts)
      (below_each (length p.types) (map (λ (f : Func). f.sort) fs) (omega arith, (omega arith, (omega arith, (omega arith, (omega arith, tt))))))

  found_stays : (x : ℕ) → x < n.funcs → slice_get (func_types p) x ≡ slice_get (func_types m) x
  found_stays x h =
      slice_get-map (type_at p) (func_sorts p) x
      ∙ ap (option_map (type_at p)) (sort_stays m runtime_types fs runtime_globals es x h)
      ∙ by_sort (slice_get (func_sorts m) x) refl
      ∙ sym (slice_get-map (type_at m) (func_sorts m) x)
    where
      by_sort : (o : Option ℕ) → slice_get (func_sorts m) x ≡ o → option_map (type_at p) o ≡ option_map (type_at m) o
      by_sort None e = refl
      by_sort (Some sort) e = ap Some (type_stays m runtime_types fs runtime_globals es sort (named.sorts x sort e))

  -- ---- the globals

  globals_are : all_globals p ≡ all_globals m ++ map global_type runtime_globals
  globals_are =
      ap (λ gs. imported imported_global m ++ gs) (map-append global_type m.globals runtime_globals)
      ∙ sym (append_assoc (imported imported_global m) (map global_type m.globals) (map global_type runtime_globals))

  global_stays : (x : ℕ) → x < state → slice_get (all_globals p) x ≡ slice_get (all_globals m) x
  global_stays x h = ap (λ gs. slice_get gs x) globals_are ∙ front (all_globals m) (map global_type runtime_globals) x h

  state_there : slice_get (all_globals p) state ≡ Some state_type
  state_there = ap (λ gs. slice_get gs state) globals_are ∙ behind (all_globals m) (map global_type runtime_globals) state 0 (omega arith)

  address_there : slice_get (all_globals p) (state + 1) ≡ Some state_type
  address_there = ap (λ gs. slice_get gs (state + 1)) globals_are ∙ behind (all_globals m) (map global_type runtime_globals) (state + 1) 1 (omega arith)

  -- ---- bodies

  wider : (f : Func) → f.sort < first → Wider (around m f) (around p f)
  wider f h =
      let same : type_at p f.sort ≡ type_at m f.sort = type_stays m runtime_types fs runtime_globals es f.sort h in
      record {
        types = λ x t e. front m.types runtime_types x (slice_get_within m.types x t e) ∙ e;
        funcs = λ x t e. let l = slice_get_within (func_types m) x t e in let c = length-map (func_sorts m) (type_at m) in found_stays x (omega arith) ∙ e;
        globals = λ x g e. global_stays x (slice_get_within (all_globals m) x g e) ∙ e;
        table = refl;
        memory = λ e. has_memory;
        locals = ap (λ (t : FuncType). t.params ++ declared_locals f.locals) same;
        result = ap (λ (t : FuncType). slice_get t.results 0) same;
      }

  typed_by : (f : Func) (r : Option ValType) → (around p f).result ≡ r → Types (around p f) (r ∷ []) f.body (listed r) [] → Typed (around p f) f.body
  typed_by f r e h = subst (λ x. Types (around p f) (x ∷ []) f.body (listed x) []) (sym e) h

  type_behind : (j : ℕ) → type_at p (first + j) ≡ or_empty (slice_get runtime_types j)
  type_behind j = ap or_empty (behind m.types runtime_types (first + j) j refl)

  start_of : (number : ℕ) → Typed (around p (runtime_func first (start_code number state (state + 1)))) (start_code number state (state + 1))
  start_of number =
      let f : Func = runtime_func first (start_code number state (state + 1)) in
      let zero_more : first ≡ first + 0 = omega arith in
      let t = ap (type_at p) zero_more ∙ type_behind 0 in
      typed_by f None (ap (λ (x : FuncType). slice_get x.results 0) t)
      (start_typed (around p f) (None ∷ []) number state (state + 1) state_there address_there has_memory (ap (λ (x : FuncType). slice_get (x.params ++ []) 0) t))

  stop_of : Typed (around p (runtime_func (first + 1) (stop_code state (state + 1)))) (stop_code state (state + 1))
  stop_of =
      let f : Func = runtime_func (first + 1) (stop_code state (state + 1)) in
      typed_by f None (ap (λ (x : FuncType). slice_get x.results 0) (type_behind 1)) (stop_typed (around p f) (None ∷ []) state (state + 1) state_there address_there has_memory)

  state_of : Typed (around p (runtime_func (first + 2) (state_code state))) (state_code state)
  state_of =
      let f : Func = runtime_func (first + 2) (state_code state) in
      typed_by f (Some I32) (ap (λ (x : FuncType). slice_get x.results 0) (type_behind 2)) (state_typed (around p f) (Some I32 ∷ []) state state_there)

  appended : (j : ℕ) (f : Func) → slice_get fs j ≡ Some f → Typed (around p f) f.body
  appended zero f e = let z : runtime_func first (start_code 1 state (state + 1)) ≡ f = cc in subst (λ (g : Func). Typed (around p g) g.body) z (start_of 1)
  appended (suc zero) f e = let z : runtime_func (first + 1) (stop_code state (state + 1)) ≡ f = cc in subst (λ (g : Func). Typed (around p g) g.body) z stop_of
  appended (suc (suc zero)) f e = let z : runtime_func first (start_code 2 state (state + 1)) ≡ f = cc in subst (λ (g : Func). Typed (around p g) g.body) z (start_of 2)
  appended (suc (suc (suc zero))) f e = let z : runtime_func (first + 1) (stop_code state (state + 1)) ≡ f = cc in subst (λ (g : Func). Typed (around p g) g.body) z stop_of
  appended (suc (suc (suc (suc zero)))) f e = let z : runtime_func (first + 2) (state_code state) ≡ f = cc in subst (λ (g : Func). Typed (around p g) g.body) z state_of
  appended (suc (suc (suc (suc (suc j))))) f e = cc

  sort_known : (i : ℕ) (f : Func) → slice_get m.funcs i ≡ Some f → f.sort < first
  sort_known i f e =
      named.sorts (func_imports m + i) f.sort
      (behind (imported imported_func m) (map (λ (g : Func). g.sort) m.funcs) (func_imports m + i) i refl ∙ slice_get-map (λ (g : Func). g.sort) m.funcs i ∙ ap (option_map (λ (g : Func). g.sort)) e)

  bodies_hold : (i : ℕ) (f : Func) → slice_get p.funcs i ≡ Some f → Typed (around p f) f.body
  bodies_hold i f e =
      ⊎_elim
      (λ lt.
      let here : slice_get m.funcs i ≡ Some f = sym (front m.funcs fs i lt) ∙ e in
      let same : type_at p f.sort ≡ type_at m f.sort = type_stays m runtime_types fs runtime_globals es f.sort (sort_known i f here) in
      typed_by f (around m f).result (ap (λ (t : FuncType). slice_get t.results 0) same)
      (types_wider (around m f) (around p f) (wider f (sort_known i f here)) ((around m f).result ∷ []) f.body (listed (around m f).result) [] (v.bodies i f here)))
      (λ le.
      let sum : i ≡ length m.funcs + (i - length m.funcs) = omega arith in
      appended (i - length m.funcs) f (sym (behind m.funcs fs i (i - length m.funcs) sum) ∙ e))
      (cases_lt i (length m.funcs))

  -- ---- outside the bodies

  still_constant : (code : Code) → is_constant (all_globals m) I32 code ≡ true → is_constant (all_globals p) I32 code ≡ true
  still_constant code h = ap (λ gs. is_constant gs I32 code) globals_are ∙ constant_more (all_globals m) (map global_type runtime_globals) I32 code h

  constants_hold : all_constant p ≡ true
  constants_hold =
      let inits : GlobalDef → Bool = λ (g : GlobalDef). is_constant (imported imported_global m) g.ty g.init in
      let elem : Elem → Bool = λ (e : Elem). is_constant (all_globals m) I32 e.offset in
      let elem' : Elem → Bool = λ (e : Elem). is_constant (all_globals p) I32 e.offset in
      let segment : Segment → Bool = λ (s : Segment). is_constant (all_globals m) I32 s.offset in
      let segment' : Segment → Bool = λ (s : Segment). is_constant (all_globals p) I32 s.offset in
      let parts = and_parts (list_all inits m.globals && list_all elem m.elems) (list_all segment m.segments) v.constants in
      let two = and_parts (list_all inits m.globals) (list_all elem m.elems) parts.0 in
      and_from (list_all inits p.globals && list_all elem' m.elems) (list_all segment' m.segments)
      (and_from (list_all inits p.globals) (list_all elem' m.elems) (all_joined inits m.globals runtime_globals two.0 refl) (all_weaker elem elem' m.elems (λ e h. still_constant e.offset h) two.1))
      (all_weaker segment segment' m.segments (λ s h. still_constant s.offset h) parts.1)

  exported_are : (space : Space) → exported space p ≡ exported space m ++ filter_map (λ (e : Export). if same_space e.space space then Some e.index else None) es
  exported_are space = filter_map-append (λ (e : Export). if same_space e.space space then Some e.index else None) m.exports es

  no_more : (space : Space) → same_space a_func space ≡ false → exported space p ≡ exported space m
  no_more a_func h = cc
  no_more a_table h = exported_are a_table ∙ append-nil (exported a_table m)
  no_more a_memory h = exported_are a_memory ∙ append-nil (exported a_memory m)
  no_more a_global h = exported_are a_global ∙ append-nil (exported a_global m)

  got_same : flat_map got_global (expressions p) ≡ flat_map got_global (expressions m)
  got_same =
      let rest : List Code = map (λ (e : Elem). e.offset) m.elems in
      let last : List Code = map (λ (s : Segment). s.offset) m.segments in
      let init : GlobalDef → Code = λ (g : GlobalDef). g.init in
      let split : (xs : List Code) → flat_map got_global ((xs ++ rest) ++ last) ≡ (flat_map got_global xs ++ flat_map got_global rest) ++ flat_map got_global last =
      λ xs. flat_map-append got_global (xs ++ rest) last ∙ ap (λ ys. ys ++ flat_map got_global last) (flat_map-append got_global xs rest) in
      let inits : flat_map got_global (map init p.globals) ≡ flat_map got_global (map init m.globals) =
      ap (flat_map got_global) (map-append init m.globals runtime_globals) ∙ flat_map-append got_global (map init m.globals) (map init runtime_globals)
      ∙ append-nil (flat_map got_global (map init m.globals)) in
      split (map init p.globals) ∙ ap (λ ys. (ys ++ flat_map got_global rest) ++ flat_map got_global last) inits ∙ sym (split (map init m.globals))

  globals_count : length (all_globals p) ≡ state + 2
  globals_count = ap length globals_are ∙ length-append (all_globals m) (map global_type runtime_globals)

  globals_hold : globals_there p ≡ true
  globals_hold =
      let c = globals_count in
      ap (λ xs. all_below (length (all_globals p)) (xs ++ flat_map got_global (expressions p))) (no_more a_global refl)
      ∙ ap (λ xs. all_below (length (all_globals p)) (exported a_global m ++ xs)) got_same
      ∙ below_more state (length (all_globals p)) (exported a_global m ++ flat_map got_global (expressions m)) (omega arith) v.globals

  tables_hold : tables_there p ≡ true
  tables_hold = ap (λ xs. all_below (length (all_tables m)) (xs ++ map (λ (e : Elem). e.table) m.elems)) (no_more a_table refl) ∙ v.tables

  memories_hold : memories_there p ≡ true
  memories_hold = ap (λ xs. all_below (length (all_memories m)) (xs ++ map (λ (s : Segment). s.memory) m.segments)) (no_more a_memory refl) ∙ v.memories

  funcs_hold : funcs_there p ≡ true
  funcs_hold =
      let k : ℕ = length (func_sorts p) in
      let c = sorts_length in
      let elems : List ℕ = flat_map (λ (e : Elem). e.funcs) m.elems in
      let start : List ℕ = option_to_list m.start in
      let below : ℕ → Bool = λ x. nat_lt x k in
      let old = below_more n.funcs k ((exported a_func m ++ start) ++ elems) (omega arith) v.funcs in
      let parts = all_parts below (exported a_func m ++ start) elems old in
      let two = all_parts below (exported a_func m) start parts.0 in
      let more : List ℕ = func_space m ∷ (func_space m + 1) ∷ (func_space m + 2) ∷ (func_space m + 3) ∷ (func_space m + 4) ∷ [] in
      let new : all_below k more ≡ true = below_each k more (omega arith, (omega arith, (omega arith, (omega arith, (omega arith, tt))))) in
      ap (λ xs. all_below k ((xs ++ start) ++ elems)) (exported_are a_func)
      ∙ all_joined below ((exported a_func m ++ more) ++ start) elems (all_joined below (exported a_func m ++ more) start (all_joined below (exported a_func m) more two.0 new) two.1) parts.1

  start_holds : start_lawful p ≡ true
  start_holds = by_start m.start v.start (valid_instance m v).start
    where
      by_start : (o : Option ℕ) → start_fits o (func_types m) ≡ true → Each (λ x. x < n.funcs) (option_to_list o) → start_fits o (func_types p) ≡ true
      by_start None h i = refl
      by_start (Some x) h i = ap is_empty_type (found_stays x i.0) ∙ h

  names_hold : FreeOfNames m → names_differ p ≡ true
  names_hold free =
      ap all_differ (map-append (λ (e : Export). e.name) m.exports es)
      ∙ differ_joined (map (λ (e : Export). e.name) m.exports) runtime_names v.names (names_each m.exports free) refl

  pub grown_valid : FreeOfNames m → Valid p
  grown_valid free = record {
    types = all_joined (λ (t : FuncType). nat_le (length t.results) 1) m.types runtime_types v.types refl;
    sorts = sorts_hold;
    bodies = bodies_hold;
    limits = v.limits;
    single = v.single;
    constants = constants_hold;
    globals = globals_hold;
    tables = tables_hold;
    memories = memories_hold;
    funcs = funcs_hold;
    start = start_holds;
    names = names_hold free;
  }

pub runtime_valid : (m : Module) → Valid m → FreeOfNames m → Valid (with_runtime m)
unfolding Base with_runtime
runtime_valid m v free = grown_valid (Base m) (base_valid m v) (base_has_memory m) free
