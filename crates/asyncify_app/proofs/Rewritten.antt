-- A valid module that is rewritten with each import listed.
use Rattle.std.proofs.Common.{arith, ℕ, suc, ◌^◌, ◌≤◌, List, [], ◌∷◌, All, Bool, true, false, inl, inr, drop}
use Rattle.std.proofs.lemmas.List.Elements.{All-nil, All-cons, All-head, All-tail}
use Rattle.wa_types.specs.Frames.{Count}
use Rattle.wa_types.specs.Modules.{func_imports}
use Rattle.wa_types.specs.Sizes.{ElemSizes, FuncSizes, SegmentSizes, SizeRule, StrictSizeRule, TypeSizes, code_lists, plain_lists}
use Rattle.wa_types.specs.Syntax.{Code, Func, GlobalDef, Module, Plain, basic, br, br_if, br_table, branch, call, call_indirect, done, local_get, local_set, local_tee, nest, plain, return, unreachable}
use Rattle.flatten.specs.Whole.{FirstPasses}
use Rattle.module_rewrite.specs.Whole.{FirstTooMany}
use Rattle.gen_module.specs.GeneratedRuns.{all_listed}

-- lists of fewer items are of fewer than more
lists_wider : (a b : ℕ) (code : Code) → a ≤ b → code_lists a code → code_lists b code
lists_wider a b done le h = tt
lists_wider a b (plain i rest) le h = (by i h.0, lists_wider a b rest le h.1)
  where
    by : (i : Plain) → plain_lists a i → plain_lists b i
    by (br_table ts l) p = omega arith
    by (basic z) p = tt
    by (local_get x) p = tt
    by (local_set x) p = tt
    by (local_tee x) p = tt
    by (br l) p = tt
    by (br_if l) p = tt
    by return p = tt
    by unreachable p = tt
    by (call x) p = tt
    by (call_indirect t) p = tt
lists_wider a b (nest s r body rest) le h = (lists_wider a b body le h.0, lists_wider a b rest le h.1)
lists_wider a b (branch r x y rest) le h = (lists_wider a b x le h.0, lists_wider a b y le h.1, lists_wider a b rest le h.2)

all_wider : {X : Type 0} (P Q : X → Type 0) → ((x : X) → P x → Q x) → (xs : List X) → All P xs → All Q xs
all_wider P Q h [] a = All-nil Q
all_wider P Q h (x ∷ xs) a = All-cons Q x xs (h x (All-head P x xs a)) (all_wider P Q h xs (All-tail P x xs a))

-- the stricter size rule is one
pub strict_is_wide : (m : Module) → StrictSizeRule m → SizeRule m
strict_is_wide m s = record {
  types = omega (arith, s.types);
  each_type = all_wider (TypeSizes (2 ^ 31)) (TypeSizes (2 ^ 32)) (λ t h. record { params = omega (arith, h.params); results = omega (arith, h.results) }) m.types s.each_type;
  imports = omega (arith, s.imports);
  funcs = omega (arith, s.funcs);
  tables = omega (arith, s.tables);
  memories = omega (arith, s.memories);
  globals = omega (arith, s.globals);
  exports = omega (arith, s.exports);
  elems = omega (arith, s.elems);
  segments = omega (arith, s.segments);
  each_func = all_wider (FuncSizes (2 ^ 31) (2 ^ 31) m) (FuncSizes (2 ^ 32) (2 ^ 56) m)
      (λ f h. record { runs = omega (arith, h.runs); labels = lists_wider (2 ^ 31) (2 ^ 32) f.body (omega arith) h.labels; total = omega (arith, h.total) }) m.funcs s.each_func;
  each_global = all_wider (λ (g : GlobalDef). code_lists (2 ^ 31) g.init) (λ (g : GlobalDef). code_lists (2 ^ 32) g.init)
      (λ g h. lists_wider (2 ^ 31) (2 ^ 32) g.init (omega arith) h) m.globals s.each_global;
  each_elem = all_wider (ElemSizes (2 ^ 31)) (ElemSizes (2 ^ 32))
      (λ e h. record { funcs = omega (arith, h.funcs); offset = lists_wider (2 ^ 31) (2 ^ 32) e.offset (omega arith) h.offset }) m.elems s.each_elem;
  each_segment = all_wider (SegmentSizes (2 ^ 31)) (SegmentSizes (2 ^ 32))
      (λ e h. record { bytes = omega (arith, h.bytes); offset = lists_wider (2 ^ 31) (2 ^ 32) e.offset (omega arith) h.offset }) m.segments s.each_segment;
}

-- where no function has too many locals, none is the first that has
none_first : (m : Module) (func count x : ℕ) (which : List Bool) (fs : List Func) → All (λ (f : Func). Count m f ≤ 50000) fs → FirstPasses m func count x which fs → ⊥
none_first m func count x [] fs few h = h
none_first m func count x (w ∷ which) [] few h = h
none_first m func count x (false ∷ which) (f ∷ fs) few h = none_first m func count (suc x) which fs (All-tail (λ (g : Func). Count m g ≤ 50000) f fs few) h
none_first m func count x (true ∷ which) (f ∷ fs) few h = elim h [
  | inl here ↦ let low = All-head (λ (g : Func). Count m g ≤ 50000) f fs few in omega (arith, low, here.2)
  | inr later ↦ none_first m func count (suc x) which fs (All-tail (λ (g : Func). Count m g ≤ 50000) f fs few) later.1
]

pub none_too_many : (m : Module) (func count : ℕ) → All (λ (f : Func). Count m f ≤ 50000) m.funcs → FirstTooMany m all_listed func count → ⊥
none_too_many m func count few h = none_first m func count (func_imports m) (drop (func_imports m) h.which) m.funcs few h.first
