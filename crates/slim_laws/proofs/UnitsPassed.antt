-- Passing slim units costs no more.
use Rattle.std.proofs.Common.{◌≡◌, ◌≤◌, ℕ, suc, ◌+◌, List, [], ◌∷◌, Some, refl, arith}
use Rattle.wa_types.specs.Syntax.{branch, Code, done, nest, plain}
use Rattle.guard_form.specs.Bounds.{over, passing}
use Rattle.guard_form.specs.Pieces.{Units, no_unit, call_unit, nest_unit, if_unit}
use Rattle.slim_laws.specs.Slim.{Free, StackShape, Slims, Terms, ends, forgets, narrows, saves}
use Rattle.slim_laws.specs.SlimUnits.{SlimUnits, untouched, alone, before_call, before_block, before_loop, before_if, before_kept_if}
use Rattle.slim_laws.specs.SlimUnitLaws.{PassingIsLess}

over_few : (c : Code) → over c ≤ 3
over_few done = omega arith
over_few (plain p rest) = omega arith
over_few (nest s r body rest) = omega arith
over_few (branch r a b rest) = omega arith

module _ (t : Terms) where
  -- no code stays none, where no operand is kept
  none_stays : (n : ℕ) (ts : List Free) (out f : Free) (sh : StackShape) (code' : Code) → Slims t n ts out f sh done code' → sh ≡ [] → code' ≡ done
  none_stays n ts out f sh _ (ends co pl) e = refl
  none_stays n ts out f _ _ (saves {sh = sh} x g lt co sl) e = cc
  none_stays n ts out f sh code' (narrows g co sl) e = none_stays n ts out g sh code' sl e
  none_stays n ts out f sh code' (forgets pl sl) e = none_stays n ts out f [] code' sl refl

  over_less : (n : ℕ) (ts : List Free) (out f : Free) (code code' : Code) → Slims t n ts out f [] code code' → over code' ≤ over code
  over_less n ts out f done code' sl = let e = Rattle.std.proofs.Common.ap over (none_stays n ts out f [] code' sl refl) in omega arith
  over_less n ts out f (plain p rest) code' sl = over_few code'
  over_less n ts out f (nest s r body rest) code' sl = over_few code'
  over_less n ts out f (branch r a b rest) code' sl = over_few code'

  -- where what is passed tells of the piece in front, the slim one is passed at no higher cost
  abbrev Less : Units → (a a' : Code) → Type 0
  Less no_unit a a' = over a' ≤ over a
  Less (nest_unit s first body behind rest) a a' = over a' ≤ over a
  Less _ a a' = Unit {0}

  same_less : (us : Units) (a : Code) → Less us a a
  same_less no_unit a = omega arith
  same_less (call_unit slots x to behind rest) a = tt
  same_less (nest_unit s first body behind rest) a = omega arith
  same_less (if_unit c fa x fb y behind rest) a = tt

  first_less : (n : ℕ) (ts : List Free) (out f : Free) (first first' : Code) (us us' : Units) → SlimUnits t n ts out f [] first us first' us' → Less us first first'
  first_less n ts out _ first _ us _ untouched = same_less us first
  first_less n ts out f first first' _ _ (alone sl) = over_less n ts out f first first' sl
  first_less n ts out f first first' _ _ (before_call slots x g h go sl hs hf re sg on) = tt
  first_less n ts out f first first' _ _ (before_block g h go sl ib on) = over_less _ ts g f first first' sl
  first_less n ts out f first first' _ _ (before_loop g head h go sl co ib on) = over_less _ ts g f first first' sl
  first_less n ts out f first first' _ _ (before_if c g k h go sl hc co ia ib on) = tt
  first_less n ts out f first first' _ _ (before_kept_if c g h go sl ia ib on) = tt

  -- with another piece in front
  with_first : (a a' : Code) (us : Units) → Less us a a' → passing a' us ≤ passing a us
  with_first a a' no_unit le = le
  with_first a a' (call_unit slots x to behind rest) le = omega arith
  with_first a a' (nest_unit s first body behind rest) le = omega arith
  with_first a a' (if_unit c fa x fb y behind rest) le = omega arith

  passing_less : (a a' : Code) (n : ℕ) (ts : List Free) (out f : Free) (sh : StackShape) (first first' : Code) (us us' : Units) → SlimUnits t n ts out f sh first us first' us' → Less us a a'
      → passing a' us' ≤ passing a us
  passing_less a a' n ts out _ _ first _ us _ untouched le = with_first a a' us le
  passing_less a a' n ts out f sh first first' _ _ (alone sl) le = le
  passing_less a a' n ts out f sh first first' _ _ (before_call {sh2 = sh2} {behind = behind} {behind' = behind'} {rest = rest} {rest' = rest'} slots x g h go sl hs hf re sg on) le =
      let e = passing_less done done n ts out h sh2 behind behind' rest rest' on (same_less rest done) in
      omega arith
  passing_less a a' n ts out f sh first first' _ _ (before_block {inner = inner} {inner' = inner'} {behind = behind} {behind' = behind'} {body = body} {body' = body'} {rest = rest} {rest' =
      rest'} g h go sl ib on) le =
      let i = passing_less inner inner' _ (h ∷ ts) h g [] inner inner' body body' ib (first_less _ (h ∷ ts) h g inner inner' body body' ib) in
      let e = passing_less behind behind' n ts out h [] behind behind' rest rest' on (first_less n ts out h behind behind' rest rest' on) in
      omega arith
  passing_less a a' n ts out f sh first first' _ _ (before_loop {inner = inner} {inner' = inner'} {behind = behind} {behind' = behind'} {body = body} {body' = body'} {rest = rest} {rest' =
      rest'} g head h go sl co ib on) le =
      let i = passing_less inner inner' _ (head ∷ ts) h head [] inner inner' body body' ib (first_less _ (head ∷ ts) h head inner inner' body body' ib) in
      let e = passing_less behind behind' n ts out h [] behind behind' rest rest' on (first_less n ts out h behind behind' rest rest' on) in
      omega arith
  passing_less a a' n ts out f sh first first' _ _ (before_if {fa = fa} {fa' = fa'} {fb = fb} {fb' = fb'} {behind = behind} {behind' = behind'} {a = x} {a' = x'} {b = y} {b' = y'} {rest =
      rest} {rest' = rest'} c g k h go sl hc co ia ib on) le =
      let i = passing_less fa fa' _ (h ∷ ts) h k [] fa fa' x x' ia (first_less _ (h ∷ ts) h k fa fa' x x' ia) in
      let j = passing_less fb fb' _ (h ∷ ts) h k [] fb fb' y y' ib (first_less _ (h ∷ ts) h k fb fb' y y' ib) in
      let e = passing_less behind behind' n ts out h [] behind behind' rest rest' on (first_less n ts out h behind behind' rest rest' on) in
      omega arith
  passing_less a a' n ts out f sh first first' _ _ (before_kept_if {fa = fa} {fa' = fa'} {fb = fb} {fb' = fb'} {behind = behind} {behind' = behind'} {a = x} {a' = x'} {b = y} {b' = y'}
      {rest = rest} {rest' = rest'} c g h go sl ia ib on) le =
      let i = passing_less fa fa' _ (h ∷ ts) h g [] fa fa' x x' ia (first_less _ (h ∷ ts) h g fa fa' x x' ia) in
      let j = passing_less fb fb' _ (h ∷ ts) h g [] fb fb' y y' ib (first_less _ (h ∷ ts) h g fb fb' y y' ib) in
      let e = passing_less behind behind' n ts out h [] behind behind' rest rest' on (first_less n ts out h behind behind' rest rest' on) in
      omega arith

pub passing_law : PassingIsLess
passing_law t n ts out f first first' us us' su = passing_less t first first' n ts out f [] first first' us us' su (first_less t n ts out f first first' us us' su)
