-- The code of slim units is slim.
use Rattle.std.proofs.Common.{◌≡◌, ℕ, ◌+◌, length, List, [], ◌∷◌, Option, Some, None, true, refl, sym, ap, ◌∙◌, subst}
use Rattle.wa_types.specs.Pausing.{Callee, direct, indirect, calls_of}
use Rattle.wa_types.specs.Syntax.{basic, br, br_if, br_table, call, call_indirect, const, local_get, local_set, local_tee, return, unreachable, Code, done, plain, nest, branch}
use Rattle.wa_model.specs.declared.flat.Operand.{Operand}
use Rattle.wa_model.specs.declared.flat.Operand.TheVariants.{Local, Const}
use Rattle.run_theory.specs.Flat.{followed_by, got, result_got, set_to, slots_got}
use Rattle.guard_form.specs.Pieces.{Units, call_unit, call_to, flat_units}
use Rattle.guard_form.proofs.CodeLemmas.{then_done}
use Rattle.guard_form.proofs.Grouped.{then_got, then_then}
use Rattle.slim_laws.specs.Parts.{goes_on}
use Rattle.slim_laws.specs.Slim as S
use Rattle.slim_laws.specs.Slim.{Free, Covers, Held, StackShape, Slims, Terms, does, ends, forgets, keeps, lacks_all, narrows, Plainly, plainly, plainly_held, takes_none, takes_same}
use Rattle.slim_laws.proofs.EmittedCode.{same_slim}
use Rattle.slim_laws.proofs.SlimPieces.{then_slim}
use Rattle.slim_laws.specs.SlimUnits.{OperandHeld, ResultSlim, has_none, is_set, is_kept, SlimUnits, untouched, alone, before_call, before_block, before_loop, before_if, before_kept_if}
use Rattle.slim_laws.specs.SlimUnitLaws.{BodyIsSlim, ToHeld, UnitsAreSlim}

module _ (t : Terms) where
  -- behind a call, with its result
  result_slim : (n : ℕ) (ts : List Free) (out g h : Free) (sh : StackShape) (to to' : Option ℕ) (c c' : Code) → ResultSlim t g to to' h sh → Slims t n ts out h sh c c'
      → Slims t n ts out g [] (set_to to c) (set_to to' c')
  result_slim n ts out g h _ _ _ c c' (has_none co) sl = narrows h co sl
  result_slim n ts out g h _ _ _ c c' (is_set x co) sl = S.sets x h co takes_same lacks_all sl
  result_slim n ts out g h _ _ _ c c' (is_kept x is lt co hx) sl = keeps x h is lt co hx takes_same lacks_all sl

  -- a numbered call, its arguments got from slots
  call_slim : (n : ℕ) (ts : List Free) (out g : Free) (slots : List ℕ) (x : Callee) (sh : StackShape) (c c' : Code) → Plainly sh → Held g slots → Held g (t.fixed (length (calls_of c) + n))
      → Slims t n ts out g [] c c' → Slims t n ts out g sh (slots_got slots (plain (call_to x) c)) (slots_got slots (plain (call_to x) c'))
  call_slim n ts out g [] (direct y) sh c c' pl hs hf sl = S.calls y pl hf sl
  call_slim n ts out g [] (indirect s) sh c c' pl hs hf sl = S.calls_by s pl hf sl
  call_slim n ts out g (y ∷ slots) x sh c c' pl hs hf sl = S.gets y hs.0 (call_slim n ts out g slots x (None ∷ sh) c c' (plainly_held pl) hs.1 hf sl)

  -- an `if` with its condition
  if_slim : (n : ℕ) (ts : List Free) (out g k h : Free) (c : Operand) (a a' b b' r r' : Code) → OperandHeld g c → Covers g k
      → Slims t (length (calls_of b) + (length (calls_of r) + n)) (h ∷ ts) h k [] a a' → Slims t (length (calls_of r) + n) (h ∷ ts) h k [] b b' → Slims t n ts out h [] r r'
      → Slims t n ts out g [] (got c (branch None a b r)) (got c (branch None a' b' r'))
  if_slim n ts out g k h (Local x) a a' b b' r r' hc co sa sb sr = S.gets x hc (narrows k co (S.decides None h (plainly_held plainly) sa sb sr))
  if_slim n ts out g k h (Const v) a a' b b' r r' hc co sa sb sr = does (const v) takes_none (narrows k co (S.decides None h (plainly_held plainly) sa sb sr))

  -- a piece in front of a unit
  in_front : (n : ℕ) (ts : List Free) (out g f : Free) (sh : StackShape) (first first' k k' : Code) → goes_on first ≡ true
      → Slims t (length (calls_of k) + n) ts g f sh first first' → Slims t n ts out g [] k k' → Slims t n ts out f sh (followed_by first k) (followed_by first' k')
  in_front n ts out g f sh first first' k k' go sl behind = then_slim t n ts out g k k' behind (length (calls_of k) + n) f sh first first' refl go sl

  -- a condition that the slim piece leaves
  calls_condition : (c : Operand) (a b r : Code) → calls_of (got c (branch None a b r)) ≡ calls_of (branch None a b r)
  unfolding calls_of
  calls_condition (Local x) a b r = refl
  calls_condition (Const v) a b r = refl

  goes_condition : (c : Code) (o : Operand) → goes_on (followed_by c (got o done)) ≡ goes_on c
  unfolding followed_by
  goes_condition done (Local x) = refl
  goes_condition done (Const v) = refl
  goes_condition (plain (basic b) r) o = goes_condition r o
  goes_condition (plain (local_get x) r) o = goes_condition r o
  goes_condition (plain (local_set x) r) o = goes_condition r o
  goes_condition (plain (local_tee x) r) o = goes_condition r o
  goes_condition (plain (br l) r) o = refl
  goes_condition (plain (br_if l) r) o = goes_condition r o
  goes_condition (plain (br_table ls l) r) o = refl
  goes_condition (plain return r) o = refl
  goes_condition (plain unreachable r) o = refl
  goes_condition (plain (call x) r) o = goes_condition r o
  goes_condition (plain (call_indirect x) r) o = goes_condition r o
  goes_condition (nest s r body k) o = goes_condition k o
  goes_condition (branch r a b k) o = goes_condition k o

  none_then : (tail : Code) → followed_by done tail ≡ tail
  unfolding followed_by
  none_then tail = refl

  kept_if_slim : (n : ℕ) (ts : List Free) (out g f h : Free) (sh : StackShape) (c : Operand) (first first' a a' b b' r r' : Code) → goes_on first ≡ true
      → Slims t (length (calls_of (got c (branch None a b r))) + n) ts g f sh (followed_by first (got c done)) first'
      → Slims t (length (calls_of b) + (length (calls_of r) + n)) (h ∷ ts) h g [] a a' → Slims t (length (calls_of r) + n) (h ∷ ts) h g [] b b' → Slims t n ts out h [] r r'
      → Slims t n ts out f sh (followed_by first (got c (branch None a b r))) (followed_by first' (branch None a' b' r'))
  kept_if_slim n ts out g f h sh c first first' a a' b b' r r' go sl sa sb sr =
      let k : Code = branch None a b r in
      let joined : followed_by (followed_by first (got c done)) k ≡ followed_by first (got c k) =
      then_then first (got c done) k ∙ ap (followed_by first) (then_got c done k ∙ ap (got c) (none_then k)) in
      subst (λ z. Slims t n ts out f sh z (followed_by first' (branch None a' b' r'))) joined
      (in_front n ts out g f sh (followed_by first (got c done)) first' k (branch None a' b' r') (goes_condition first c ∙ go)
      (subst (λ cs. Slims t (length cs + n) ts g f sh (followed_by first (got c done)) first') (calls_condition c a b r) sl) (S.decides None h plainly sa sb sr))

  pub units_slim : (n : ℕ) (ts : List Free) (out f : Free) (sh : StackShape) (first first' : Code) (us us' : Units) → SlimUnits t n ts out f sh first us first' us'
      → Slims t n ts out f sh (followed_by first (flat_units us)) (followed_by first' (flat_units us'))
  units_slim n ts out _ _ first _ us _ untouched = same_slim t n ts out (followed_by first (flat_units us))
  units_slim n ts out f sh first first' _ _ (alone sl) =
      subst (λ c. Slims t n ts out f sh c (followed_by first' done)) (sym (then_done first)) (subst (λ c. Slims t n ts out f sh first c) (sym (then_done first')) sl)
  units_slim n ts out f sh first first' _ _ (before_call {sh2 = sh2} {behind = behind} {behind' = behind'} {rest = rest} {rest' = rest'} {to = to} {to' = to'} slots x g h go sl hs hf re sg on) =
      in_front n ts out g f sh first first' (flat_units (call_unit slots x to behind rest)) (flat_units (call_unit slots x to' behind' rest')) go sl
      (call_slim n ts out g slots x [] (set_to to (followed_by behind (flat_units rest))) (set_to to' (followed_by behind' (flat_units rest'))) plainly hs hf
      (result_slim n ts out g h sh2 to to' (followed_by behind (flat_units rest)) (followed_by behind' (flat_units rest')) re (units_slim n ts out h sh2 behind behind' rest rest' on)))
  units_slim n ts out f sh first first' _ _ (before_block {inner = inner} {inner' = inner'} {behind = behind} {behind' = behind'} {body = body} {body' = body'} {rest = rest} {rest' =
      rest'} g h go sl ib on) =
      in_front n ts out g f sh first first' _ _ go sl
      (S.blocks None h plainly (units_slim (length (calls_of (followed_by behind (flat_units rest))) + n) (h ∷ ts) h g [] inner inner' body body' ib)
      (units_slim n ts out h [] behind behind' rest rest' on))
  units_slim n ts out f sh first first' _ _ (before_loop {inner = inner} {inner' = inner'} {behind = behind} {behind' = behind'} {body = body} {body' = body'} {rest = rest} {rest' =
      rest'} g head h go sl co ib on) =
      in_front n ts out g f sh first first' _ _ go sl
      (S.loops None head h plainly co (units_slim (length (calls_of (followed_by behind (flat_units rest))) + n) (head ∷ ts) h head [] inner inner' body body' ib)
      (units_slim n ts out h [] behind behind' rest rest' on))
  units_slim n ts out f sh first first' _ _ (before_if {fa = fa} {fa' = fa'} {fb = fb} {fb' = fb'} {behind = behind} {behind' = behind'} {a = a} {a' = a'} {b = b} {b' = b'} {rest =
      rest} {rest' = rest'} c g k h go sl hc co ia ib on) =
      in_front n ts out g f sh first first' _ _ go sl
      (if_slim n ts out g k h c (followed_by fa (flat_units a)) (followed_by fa' (flat_units a')) (followed_by fb (flat_units b)) (followed_by fb' (flat_units b'))
      (followed_by behind (flat_units rest)) (followed_by behind' (flat_units rest')) hc co
      (units_slim (length (calls_of (followed_by fb (flat_units b))) + (length (calls_of (followed_by behind (flat_units rest))) + n)) (h ∷ ts) h k [] fa fa' a a' ia)
      (units_slim (length (calls_of (followed_by behind (flat_units rest))) + n) (h ∷ ts) h k [] fb fb' b b' ib) (units_slim n ts out h [] behind behind' rest rest' on))
  units_slim n ts out f sh first first' _ _ (before_kept_if {fa = fa} {fa' = fa'} {fb = fb} {fb' = fb'} {behind = behind} {behind' = behind'} {a = a} {a' = a'} {b = b} {b' = b'}
      {rest = rest} {rest' = rest'} c g h go sl ia ib on) =
      kept_if_slim n ts out g f h sh c first first' (followed_by fa (flat_units a)) (followed_by fa' (flat_units a')) (followed_by fb (flat_units b)) (followed_by fb' (flat_units b'))
      (followed_by behind (flat_units rest)) (followed_by behind' (flat_units rest')) go sl
      (units_slim (length (calls_of (followed_by fb (flat_units b))) + (length (calls_of (followed_by behind (flat_units rest))) + n)) (h ∷ ts) h g [] fa fa' a a' ia)
      (units_slim (length (calls_of (followed_by behind (flat_units rest))) + n) (h ∷ ts) h g [] fb fb' b b' ib) (units_slim n ts out h [] behind behind' rest rest' on)

pub units_law : UnitsAreSlim
units_law t n ts out f sh first first' us us' su = units_slim t n ts out f sh first first' us us' su

no_calls_in : (r : Option ℕ) → length (calls_of (result_got r)) + 0 ≡ 0
unfolding calls_of
no_calls_in None = refl
no_calls_in (Some x) = refl

pub body_law : BodyIsSlim
body_law t f out first first' us us' result su held =
    S.blocks None out plainly
    (subst (λ n. Slims t n (out ∷ []) out f [] (followed_by first (flat_units us)) (followed_by first' (flat_units us'))) (sym (no_calls_in result))
    (units_slim t 0 (out ∷ []) out f [] first first' us us' su))
    (by result held)
  where
    by : (r : Option ℕ) → ToHeld out r → Slims t 0 [] (λ y. true) out [] (result_got r) (result_got r)
    by None h = ends (λ y e. cc) plainly
    by (Some x) h = S.gets x h (ends (λ y e. cc) (plainly_held plainly))
