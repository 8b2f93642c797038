-- Functions checked one by one.
use Rattle.std.specs.Option.{MatchOption}
use Rattle.std.proofs.Common.{arith, zero, ◌≡◌, ℕ, suc, ◌+◌, ◌<◌, ◌≤◌, ◌^◌, List, [], ◌∷◌, map, length, get_or, drop, slice_get, Option, Some, None, refl, ap, sym, ◌∙◌, subst, Result, Ok, Err, IsErrAnd, add-one, drop-cons, cond, count_by}
use Rattle.std.specs.List.{filter_map}
use Rattle.std.proofs.lemmas.List.{length-map, get_or-map, drop_all}
use Rattle.std.proofs.lemmas.List.Recursion.{is_count_by}
use Rattle.std.proofs.lemmas.Option.{slice_get-get_or}
use Rattle.wa_types.specs.declared.syntax.Import.{Import}
use Rattle.wa_types.specs.declared.syntax.ImportKind.{ImportKind}
use Rattle.wa_types.specs.declared.syntax.ImportKind.TheVariants.{Func as a_func_import, Table as a_table_import, Memory as a_memory_import, Global as a_global_import}
use Rattle.wa_types.specs.declared.syntax.Func.{Func as FuncValue}
use Rattle.wa_types.specs.declared.syntax.Module.{Module as ModuleValue}
use Rattle.wa_types.specs.Syntax.{Code, done, plain, nest, branch, Func, Module}
use Rattle.wa_types.specs.Sizes.{SizeRule, is_func, code_items, else_count}
use Rattle.wa_types.specs.Modules.{imported_func, func_imports, around}
use Rattle.wa_types.specs.View.{func_of, module_of, code}
use Rattle.wa_types.specs.FirstFault.{size, mid}
use Rattle.wasm_validate.specs.declared.valid.ValidateFault.{ValidateFault}
use Rattle.wasm_validate.specs.declared.valid.ValidateFault.TheVariants.{Memory, Invalid}
use Rattle.validate_bodies.specs.Running.{Verdict, body_verdict, Answer, valid, invalid, func_answer, funcs_answer, outside_answer}
use Rattle.wa_types.specs.Typing.{Around}
use Rattle.wa_types.specs.Validity.{Valid, broken_outside}
use Rattle.validate_bodies.specs.BodyVerdicts.{Says}
use Rattle.wasm_validate.specs.Validated.{Tells, Answers, Validates}
use Rattle.validate_bodies.proofs.Decided.{module_decided}

count_step : (x : Import) (ys : List Import) (k : ImportKind) → x.kind ≡ k → length (filter_map (λ (i : Import). imported_func i.kind) (x ∷ ys))
    ≡ cond (is_func k) (1 + length (filter_map (λ (i : Import). imported_func i.kind) ys)) (length (filter_map (λ (i : Import). imported_func i.kind) ys))
count_step x ys (a_func_import sort) e = rw e (omega arith)
count_step x ys (a_table_import l) e = rw e refl
count_step x ys (a_memory_import l) e = rw e refl
count_step x ys (a_global_import t mutable) e = rw e refl

count_funcs : (is : List Import) → length (filter_map (λ (i : Import). imported_func i.kind) is) ≡ count_by (λ (i : Import). is_func i.kind) is
count_funcs is = is_count_by (λ ys. length (filter_map (λ (i : Import). imported_func i.kind) ys)) (λ (i : Import). is_func i.kind) refl (λ x ys. count_step x ys x.kind refl) is

-- the number of a function fits
pub number_fits : (m : Module) (i : ℕ) → SizeRule m → i < length m.funcs → func_imports m + i < 2 ^ 32
number_fits m i h lt = omega (arith, h.funcs, count_funcs m.imports)

mid_items : (k : Code) → mid k ≡ else_count k
mid_items done = refl
mid_items (plain p rest) = refl
mid_items (nest s r body rest) = refl
mid_items (branch r a b rest) = refl

pub size_items : (k : Code) → size k ≤ code_items k
unfolding size code_items
size_items done = omega arith
size_items (plain p rest) = omega (arith, size_items rest)
size_items (nest s r body rest) = omega (arith, size_items body, size_items rest)
size_items (branch r a b rest) = omega (arith, mid_items b, size_items a, size_items b, size_items rest)

-- the size of a body fits
pub size_fits : (m : Module) (f : Func) (i : ℕ) → SizeRule m → i < length m.funcs → slice_get m.funcs i ≡ Some f → size f.body < 2 ^ 64
size_fits m f i h lt e =
    let s = h.each_func i f lt in
    let same : get_or m.funcs i f ≡ f = get_some m.funcs i f lt e in
    let t : code_items (get_or m.funcs i f).body < 2 ^ 56 = omega (arith, s.total) in
    subst (λ (g : Func). size g.body < 2 ^ 64) same (omega (arith, size_items (get_or m.funcs i f).body))
  where
    get_some : (fs : List Func) (i : ℕ) (f : Func) → i < length fs → slice_get fs i ≡ Some f → get_or fs i f ≡ f
    get_some fs i f lt e = let g : Some (get_or fs i f) ≡ Some f = sym (slice_get-get_or fs i f lt) ∙ e in cc

pub func_at : (fs : List FuncValue) (i : ℕ) (f : FuncValue) → i < length fs → f ≡ get_or fs i f → slice_get (map func_of fs) i ≡ Some (func_of f)
func_at fs i f lt e =
    slice_get-get_or (map func_of fs) i (func_of f) (omega (arith, length-map fs func_of)) ∙ ap Some (get_or-map func_of fs i f (func_of f) lt ∙ ap func_of (sym e))

module _ (m : Module) (x : ℕ) (fs : List FuncValue) (i : ℕ) (f : FuncValue) (lt : i < length fs) (e : f ≡ get_or fs i f) where
  pub funcs_step : (v : Verdict) → body_verdict (around m (func_of f)) (code f.body.items) ≡ v
      → funcs_answer m x (map func_of (drop i fs)) ≡ func_answer x v (funcs_answer m (suc x) (map func_of (drop (i + 1) fs)))
  funcs_step v is =
      rw (add-one, drop-cons fs i f) (ap (λ (g : FuncValue). func_answer x (body_verdict (around m (func_of g)) (code g.body.items)) (funcs_answer m (suc x) (map func_of (drop (suc i) fs)))) (sym e)
      ∙ ap (λ z. func_answer x z (funcs_answer m (suc x) (map func_of (drop (suc i) fs)))) is)

pub funcs_end : (m : Module) (x : ℕ) (fs : List FuncValue) (i : ℕ) → length fs ≤ i → funcs_answer m x (map func_of (drop i fs)) ≡ valid
funcs_end m x fs i h = ap (λ z. funcs_answer m x (map func_of z)) (drop_all i fs h)

blamed : (e : ValidateFault) (x : ℕ) (v : Verdict) (a rest : Answer) → Tells {A = Unit {0}} (Err e) x v → a ≡ func_answer x v rest → Answers {A = Unit {0}} (Err e) a
blamed Memory x v a rest h s = tt
blamed (Invalid func rule at) x v a rest h s = s ∙ ap (λ z. func_answer x z rest) h.1 ∙ ap (λ z. invalid z rule at) (sym h.0)

pub told_on : (res : Result (Unit {0}) ValidateFault) (e : ValidateFault) (x : ℕ) (v : Verdict) (a rest : Answer) → IsErrAnd res (λ f. f ≡ e) → Tells {A = Unit {0}} (Err e) x v
    → a ≡ func_answer x v rest → Answers res a
told_on (Ok u) e x v a rest i h s = absurd i
told_on (Err f) e x v a rest i h s = subst (λ (g : ValidateFault). Answers {A = Unit {0}} (Err g) a) (sym i) (blamed e x v a rest h s)

pub some_at : (fs : List FuncValue) (i : ℕ) → i < length fs → (f : FuncValue) × (f ≡ get_or fs i f)
some_at [] i h = absurd (omega arith)
some_at (f ∷ fs) zero h = (f, refl)
some_at (f ∷ fs) (suc i) h = some_at fs i (omega arith)

pub verdict_of : (m : Module) (fs : List Func) (i : ℕ) (f h : Func) (c : Around) (k : Code) (v : Verdict) → slice_get fs i ≡ Some h → slice_get fs i ≡ Some f → c ≡ around m h → k ≡ h.body
    → body_verdict c k ≡ v → body_verdict (around m f) f.body ≡ v
verdict_of m fs i f h c k v e g is body said =
    let same : h ≡ f = (let z : Some h ≡ Some f = sym e ∙ g in cc) in
    subst (λ (q : Func). body_verdict (around m q) q.body ≡ v) same (sym (ap (λ z. body_verdict z k) is ∙ ap (body_verdict (around m h)) body) ∙ said)

-- what was said of all functions is said of the module
decided_by : (m : Module) (a : Answer) → broken_outside m ≡ [] → funcs_answer m (func_imports m) m.funcs ≡ a → Says m a
decided_by m a e f =
    subst (Says m) (ap (λ z. outside_answer z (funcs_answer m (func_imports m) m.funcs)) e ∙ f) (module_decided m)

pub is_valid : (m : Module) → broken_outside m ≡ [] → funcs_answer m (func_imports m) m.funcs ≡ valid → Valid m
is_valid m e f = decided_by m valid e f

fault_said : (m : ModuleValue) (e : ValidateFault) → broken_outside (module_of m) ≡ []
    → Answers {A = Unit {0}} (Err e) (funcs_answer (module_of m) (func_imports (module_of m)) (module_of m).funcs) → Validates m (Err e)
fault_said m Memory b h = tt
fault_said m (Invalid func rule at) b h = decided_by (module_of m) (invalid func rule at) b h

pub fault_of : (m : ModuleValue) (res : Result ModuleValue ValidateFault) (e : ValidateFault) → IsErrAnd res (λ f. f ≡ e) → broken_outside (module_of m) ≡ []
    → Answers {A = Unit {0}} (Err e) (funcs_answer (module_of m) (func_imports (module_of m)) (module_of m).funcs) → Validates m res
fault_of m (Ok u) e i b h = absurd i
fault_of m (Err f) e i b h = subst (λ (g : ValidateFault). Validates m (Err g)) (sym i) (fault_said m e b h)

pub if_none : {P A : Type 0} (Q : A → Type 0) (o : Option A) → MatchOption o P Q → ((n : A) → o ≡ Some n → ⊥) → P
if_none Q None h none = h
if_none Q (Some n) h none = absurd (none n refl)

pub ruleset checking = (number_fits, size_fits)
