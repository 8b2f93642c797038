-- Two modules side by side, one with slim code, and which configurations belong together.
use Rattle.std.specs.Prelude.{◌≡◌, ℕ, suc, ◌+◌, ◌≤◌, List, [], ◌∷◌, ◌++◌, length, Option, Some, None, Bool, true, false, if◌then◌else◌}
use Rattle.wa_types.specs.declared.values.Value.{Value}
use Rattle.wa_types.specs.declared.values.Trap.{Trap}
use Rattle.wa_types.specs.Syntax.{Plain, local_get, local_set, local_tee, call, call_indirect, Code, done, plain, nest, branch, Func, Module}
use Rattle.wa_types.specs.Modules.{func_imports, type_at, func_type_at, declared_locals, defined_at}
use Rattle.wa_types.specs.Pausing.{calls_of}
use Rattle.wa_model.specs.Store.{Store, value_at}
use Rattle.wa_model.specs.Configuration.{Label, block_label, loop_label, Activation, Configuration, running, waiting}
use Rattle.wa_model.specs.Step.{Next, steps, asks, returns, traps, stuck, entered, param_count, memory_max, step}
use Rattle.wa_model.specs.Untouched.{next_ranges}
use Rattle.run_theory.specs.Alone.{Goes}
use Rattle.slim_laws.specs.Slim.{Held, Free, CoversBut, Lacks, StackShape, kept, Terms, Slims}

-- the module with flat code, the slim one, and what is asked of each function
pub record Sides : Type 0 where
  pub flat : Module
  pub slim : Module
  pub terms : ℕ → Terms

-- one function on both sides; which locals are free at its start doesn't matter, since they are the same there
pub data Twin (w : Sides) (x : ℕ) : Type 0 where
  both_import : defined_at w.flat x ≡ None → defined_at w.slim x ≡ None → Twin w x
  both_defined : (g g' : Func) → defined_at w.flat x ≡ Some g → defined_at w.slim x ≡ Some g' → declared_locals g'.locals ≡ declared_locals g.locals
      → param_count (func_type_at w.flat x) + length (declared_locals g.locals) ≡ (w.terms x).size
      → (out f : Free) → Slims (w.terms x) 0 [] out f [] g.body g'.body → Twin w x

-- Both modules, function by function.
pub record Together (w : Sides) : Type 0 where
  pub imports : func_imports w.slim ≡ func_imports w.flat
  pub func_type : (x : ℕ) → func_type_at w.slim x ≡ func_type_at w.flat x
  pub sort : (s : ℕ) → type_at w.slim s ≡ type_at w.flat s
  pub most : memory_max w.slim ≡ memory_max w.flat
  pub twin : (x : ℕ) → Twin w x

-- the locals of both sides
pub record Agree (free : Free) (ls ls' : List Value) : Type 0 where
  pub long : length ls' ≡ length ls
  pub same : (x : ℕ) → free x ≡ false → value_at ls' x ≡ value_at ls x

-- the operands of both sides, the topmost first
pub data Woven (ls : List Value) : StackShape → (ops ops' : List Value) → Type 0 where
  woven : {ops : List Value} → Woven ls [] ops ops
  woven_both : {sh : StackShape} {ops ops' : List Value} → (v : Value) → Woven ls sh ops ops' → Woven ls (None ∷ sh) (v ∷ ops) (v ∷ ops')
  woven_kept : {sh : StackShape} {ops ops' : List Value} → (x : ℕ) → (v : Value) → v ≡ value_at ls x → Woven ls sh ops ops' → Woven ls (Some x ∷ sh) ops (v ∷ ops')

-- The labels of both sides, with the number of calls behind, and what is free at their targets and behind the innermost
-- construct.
pub data Around (t : Terms) : (n : ℕ) → (ts : List Free) → (out : Free) → List Label → List Label → Type 0 where
  in_body : {out : Free} → Around t 0 [] out [] []
  in_block : {n m : ℕ} {ts : List Free} {out g : Free} {rest rest' : Code} {labels labels' : List Label} → (h arity : ℕ) → (skipped skipped' : Code)
      → m ≡ length (calls_of skipped) + (length (calls_of rest) + n) → length (calls_of skipped') ≡ length (calls_of skipped)
      → Slims t n ts out g [] rest rest' → Around t n ts out labels labels' → Around t m (g ∷ ts) g (block_label h arity rest skipped ∷ labels) (block_label h arity rest' skipped' ∷ labels')
  in_loop : {n m : ℕ} {ts : List Free} {out head g : Free} {body body' rest rest' : Code} {labels labels' : List Label} → (h : ℕ) → m ≡ length (calls_of rest) + n
      → Slims t m (head ∷ ts) g head [] body body' → Slims t n ts out g [] rest rest' → Around t n ts out labels labels'
      → Around t m (head ∷ ts) g (loop_label h body rest ∷ labels) (loop_label h body' rest' ∷ labels')

-- how many calls stand behind, past the ends of the constructs around
abbrev pub calls_behind : List Label → ℕ
calls_behind [] = 0
calls_behind (block_label h arity rest skipped ∷ labels) = length (calls_of skipped) + (length (calls_of rest) + calls_behind labels)
calls_behind (loop_label h body rest ∷ labels) = length (calls_of rest) + calls_behind labels

-- An activation that waits, on both sides: with the same operands, and with locals that differ where they may at its call.
pub data Waits (w : Sides) : Activation → Activation → Type 0 where
  waits : {n : ℕ} {ts : List Free} {out : Free} {rest rest' : Code} {labels labels' : List Label} → (fn : ℕ) → (f : Free) → Held f ((w.terms fn).fixed (length (calls_of rest) + n))
      → (ls ls' ops taken : List Value) → length ls ≡ (w.terms fn).size → Agree f ls ls'
      → Slims (w.terms fn) n ts out f [] rest rest' → Around (w.terms fn) n ts out labels labels' → Waits w (waiting fn ls ops taken rest labels) (waiting fn ls' ops taken rest' labels')

-- Activations that wait, on both sides.
pub data Unders (w : Sides) : List Activation → List Activation → Type 0 where
  bottom : Unders w [] []
  above : {a a' : Activation} {under under' : List Activation} → Waits w a a' → Unders w under under' → Unders w (a ∷ under) (a' ∷ under')

-- Both sides, in the same store; the slim one has so many slots' values on its operand stack.
pub data Beside (w : Sides) : ℕ → Configuration → Configuration → Type 0 where
  beside : {n : ℕ} {ts : List Free} {out : Free} {sh : StackShape} {code code' : Code} {labels labels' : List Label} {ls ls' ops ops' : List Value} {under under' : List Activation}
      {spare : ℕ} → (s : Store) → (fn : ℕ) → (f : Free)
      → kept sh ≡ spare → length ls ≡ (w.terms fn).size → Agree f ls ls' → Woven ls sh ops ops' → Slims (w.terms fn) n ts out f sh code code'
      → Around (w.terms fn) n ts out labels labels' → Unders w under under'
      → Beside w spare (running s fn under ls ops code labels) (running s fn under' ls' ops' code' labels')
  -- a slot is copied, and the flat side has got it
  copying : {n : ℕ} {ts : List Free} {out : Free} {sh : StackShape} {rest rest' : Code} {labels labels' : List Label} {ls ls' ops ops' : List Value} {under under' : List Activation}
      {spare : ℕ} → (s : Store) → (fn : ℕ) → (f g : Free) → (x y : ℕ)
      → suc (kept sh) ≡ spare → length ls ≡ (w.terms fn).size → Agree f ls ls' → Woven ls (Some x ∷ sh) ops ops' → CoversBut y f g → Lacks y (Some x ∷ sh)
      → Slims (w.terms fn) n ts out g (Some x ∷ sh) rest rest' → Around (w.terms fn) n ts out labels labels' → Unders w under under'
      → Beside w spare (running s fn under ls (value_at ls x ∷ ops) (plain (local_set y) rest) labels) (running s fn under' ls' ops' (plain (local_tee y) rest') labels')

-- both sides wait for the answer of an import
pub record Asked (w : Sides) (d d' : Configuration) : Type 0 where
  pub store : d'.store ≡ d.store
  pub stack : Unders w (d.here ∷ d.under) (d'.here ∷ d'.under)

-- a call has its operands
abbrev pub ProperPlain : Module → (ops : List Value) → Plain → Type 0
ProperPlain m ops (call x) = param_count (func_type_at m x) ≤ length ops
ProperPlain m ops (call_indirect s) = suc (param_count (type_at m s)) ≤ length ops
ProperPlain m ops _ = Unit {0}

-- so has the instruction that stands next
abbrev pub ProperCode : Module → (ops : List Value) → Code → Type 0
ProperCode m ops (plain p rest) = ProperPlain m ops p
ProperCode m ops _ = Unit {0}

-- so has a configuration
abbrev pub Proper : Module → Configuration → Type 0
Proper m c = ProperCode m c.here.operands c.here.code

-- ---- costs

-- the lean cost of a reduction that costs so much: none where a slot is got or set
abbrev pub lean_plain : Terms → Plain → ℕ → ℕ
lean_plain t (local_get x) k = if t.slot x then 0 else k
lean_plain t (local_set x) k = if t.slot x then 0 else k
lean_plain t p k = k

-- the same of the instruction that stands next
abbrev pub lean_code : Terms → Code → ℕ → ℕ
lean_code t (plain p rest) k = lean_plain t p k
lean_code t done k = k
lean_code t (nest s r body rest) k = k
lean_code t (branch r a b rest) k = k

-- the same of a configuration's next reduction
abbrev pub lean : Sides → Configuration → ℕ → ℕ
lean w c k = lean_code (w.terms c.here.func) c.here.code k

-- the instruction that stands next
abbrev pub head_of : Code → Option Plain
head_of (plain p rest) = Some p
head_of _ = None

-- a local is set by the instruction that stands next
abbrev pub sets_local : Code → Bool
sets_local (plain (local_set x) rest) = true
sets_local (plain (local_tee x) rest) = true
sets_local _ = false

-- the same instruction stands next on both sides, and reaches the same bytes
pub record SameNext (c c' : Configuration) : Type 0 where
  pub store : c'.store ≡ c.store
  pub head : head_of c'.here.code ≡ head_of c.here.code
  pub reach : next_ranges c' ≡ next_ranges c

-- The slim side's way while the flat side makes one reduction: locals are set, and then comes that reduction, or none.
pub data Way (w : Sides) (c : Configuration) : Configuration → ℕ → Configuration → Type 0 where
  way_ends : {c' : Configuration} → Way w c c' 0 c'
  way_same : {k : ℕ} {c' d : Configuration} → SameNext c c' → step w.slim c' ≡ steps k d → Way w c c' (suc k) d
  way_sets : {n m : ℕ} {c' c2 d : Configuration} → sets_local c'.here.code ≡ true → step w.slim c' ≡ steps 0 c2 → Way w c c2 n d → m ≡ 1 + n → Way w c c' m d

-- The slim side sets locals alone.
pub data Saving (w : Sides) : Configuration → ℕ → Configuration → Type 0 where
  saves_none : {c : Configuration} → Saving w c 0 c
  saves_one : {n m : ℕ} {c c2 d : Configuration} → sets_local c.here.code ≡ true → step w.slim c ≡ steps 0 c2 → Saving w c2 n d → m ≡ 1 + n → Saving w c m d

-- What the slim side does where the flat side, with so much to spare, does this next at such a lean cost: the same, at least
-- at the lean cost, and at most at the whole one and what is to spare; what is left of it is to spare behind.
pub data ComesToo (w : Sides) (c c' : Configuration) (spare : ℕ) (least : ℕ → ℕ) : Next → Type 0 where
  it_steps : {k : ℕ} {d : Configuration} → (cost left : ℕ) → (to : Configuration) → Way w c c' cost to → least (suc k) ≤ cost → cost + left ≤ suc k + spare → Beside w left d to
      → ComesToo w c c' spare least (steps k d)
  it_asks : {k x : ℕ} {args : List Value} {d : Configuration} → (cost : ℕ) → (at to : Configuration) → Saving w c' cost at → cost ≤ spare → SameNext c at
      → step w.slim at ≡ asks k x args to → Asked w d to → ComesToo w c c' spare least (asks k x args d)
  it_returns : {k : ℕ} {vs : List Value} {s : Store} → (cost : ℕ) → (at : Configuration) → Saving w c' cost at → cost ≤ spare → SameNext c at → step w.slim at ≡ returns k vs s
      → ComesToo w c c' spare least (returns k vs s)
  it_traps : {k : ℕ} {u : Trap} {s : Store} → (cost : ℕ) → (at : Configuration) → Saving w c' cost at → cost ≤ spare → SameNext c at → step w.slim at ≡ traps k u s
      → ComesToo w c c' spare least (traps k u s)
  it_is_stuck : ComesToo w c c' spare least stuck

-- Each proper reduction of the flat side is matched.
abbrev pub EachStep : Type 0
EachStep = (w : Sides) (spare : ℕ) (c c' : Configuration) → Together w → Beside w spare c c' → Proper w.flat c → ComesToo w c c' spare (lean w c) (step w.flat c)

-- A stretch of the flat side from proper configurations, with its cost and its lean cost.
pub data ProperGoes (w : Sides) : Configuration → (cost least : ℕ) → Configuration → Type 0 where
  stays : {c : Configuration} → ProperGoes w c 0 0 c
  moves : {c d e : Configuration} {k n l m j : ℕ} → Proper w.flat c → step w.flat c ≡ steps k d → ProperGoes w d n l e → m ≡ suc k + n → j ≡ lean w c (suc k) + l → ProperGoes w c m j e

-- What the slim side does meanwhile.
pub record Follows (w : Sides) (c' : Configuration) (spare cost least : ℕ) (d : Configuration) : Type 0 where
  pub took : ℕ
  pub left : ℕ
  pub to : Configuration
  pub goes : Goes w.slim c' took to
  pub enough : least ≤ took
  pub no_more : took + left ≤ cost + spare
  pub near : Beside w left d to

-- Reductions in a row are matched, at no greater cost, and at no less than their lean cost.
abbrev pub EachStretch : Type 0
EachStretch = (w : Sides) (spare cost least : ℕ) (c c' d : Configuration) → Together w → Beside w spare c c' → ProperGoes w c cost least d → Follows w c' spare cost least d

-- A call of the host begins on both sides.
abbrev pub CallsBegin : Type 0
CallsBegin =
    (w : Sides) (s : Store) (args : List Value) (x : ℕ) (g g' : Func) → Together w → defined_at w.flat x ≡ Some g → defined_at w.slim x ≡ Some g' → length args ≡ param_count (func_type_at w.flat x)
    → Beside w 0 (entered s [] args x g) (entered s [] args x g')

-- An import's answer goes on on both sides.
abbrev pub AnswersGoOn : Type 0
AnswersGoOn =
    (w : Sides) (s : Store) (a a' : Activation) (under under' : List Activation) (vs : List Value) → Unders w (a ∷ under) (a' ∷ under')
    → Beside w 0 (running s a.func under a.locals (vs ++ a.operands) a.code a.labels) (running s a'.func under' a'.locals (vs ++ a'.operands) a'.code a'.labels)

-- ---- stacks that wait

-- The activation as the slim side has it, with the flat side's code: with the locals of the slim side.
abbrev pub moved : Activation → List Value → Activation
moved a ls = waiting a.func ls a.operands a.taken a.code a.labels

-- Where activations wait, the slim side's locals may stand on the flat side too, and any others that are as many.
abbrev pub WaitsWithAny : Type 0
WaitsWithAny = (w : Sides) (a a' : Activation) (ls : List Value) → Waits w a a' → length ls ≡ length a.locals → Waits w (moved a ls) (moved a' ls)

-- At a waiting call the operands are the same, and locals agree, those that the call's terms name among them.
pub record Agreeing (w : Sides) (a a' : Activation) : Type 0 where
  pub func : a'.func ≡ a.func
  pub operands : a'.operands ≡ a.operands
  pub taken : a'.taken ≡ a.taken
  pub free : Free
  pub held : Held free ((w.terms a.func).fixed (length (calls_of a.code) + calls_behind a.labels))
  pub locals : Agree free a.locals a'.locals

-- So it is wherever both wait.
abbrev pub WaitingAgrees : Type 0
WaitingAgrees = (w : Sides) (a a' : Activation) → Waits w a a' → Agreeing w a a'
