-- Slim units have the same calls and numbers, and call nothing else.
use Rattle.std.proofs.Common.{◌≡◌, ℕ, suc, ◌+◌, List, [], ◌∷◌, Some, None, false, refl, ap, arith, ◌⊎◌, inl, inr, ⊎_elim}
use Rattle.wa_types.specs.Pausing.{Callee}
use Rattle.wa_types.specs.Syntax.{Code, done}
use Rattle.run_theory.specs.Flat.{followed_by, got}
use Rattle.wa_model.specs.Store.{gives}
use Rattle.guard_form.specs.Functions.{Calls, HasUnit, PiecesCall}
use Rattle.guard_form.specs.Pieces.{Units, no_unit, call_unit, nest_unit, if_unit}
use Rattle.guard_form.proofs.Grouped.{calls_got, calls_then}
use Rattle.guard_form.proofs.UnitLemmas.{any_is, any_some, Some_unit}
use Rattle.slim_laws.specs.Slim as S
use Rattle.slim_laws.specs.Slim.{Free, StackShape, Slims, Terms, more, ends, does, keeps, uses, saves, narrows, forgets}
use Rattle.slim_laws.specs.SlimUnits.{SlimUnits, untouched, alone, before_call, before_block, before_loop, before_if, before_kept_if}
use Rattle.slim_laws.specs.SlimUnitLaws.{AlikeUnits, PiecesCallAlike, UnitsAreAlike}

-- ---- code

module _ (t : Terms) (P : Callee → Type 0) where
  pub code_calls : (n : ℕ) (ts : List Free) (out f : Free) (sh : StackShape) (code code' : Code) → Slims t n ts out f sh code code' → Calls P code → Calls P code'
  code_calls n ts out f sh _ _ (ends co pl) h = tt
  code_calls n ts out f sh _ _ (does {sh2 = sh2} {rest = rest} {rest' = rest'} b ta sl) h = (h.0, code_calls n ts out f (more (gives b) sh2) rest rest' sl h.1)
  code_calls n ts out f sh _ _ (S.gets {rest = rest} {rest' = rest'} x fr sl) h = (h.0, code_calls n ts out f (None ∷ sh) rest rest' sl h.1)
  code_calls n ts out f sh _ _ (S.sets {sh2 = sh2} {rest = rest} {rest' = rest'} x g co ta la sl) h = (h.0, code_calls n ts out g sh2 rest rest' sl h.1)
  code_calls n ts out f sh _ _ (S.tees {sh2 = sh2} {rest = rest} {rest' = rest'} x g co ta la sl) h = (h.0, code_calls n ts out g (None ∷ sh2) rest rest' sl h.1)
  code_calls n ts out f sh _ code' (keeps {sh2 = sh2} {rest = rest} x g is lt co gx ta la sl) h = code_calls n ts out g (Some x ∷ sh2) rest code' sl h.1
  code_calls n ts out f sh _ code' (uses {sh2 = sh2} {rest = rest} x is ri sl) h = code_calls n ts out f sh2 rest code' sl h.1
  code_calls n ts out f _ _ _ (S.copies {sh = sh} {rest = rest} {rest' = rest'} x y g is co la sl) h = (tt, code_calls n ts out g (Some x ∷ sh) rest rest' sl (h.1).1)
  code_calls n ts out f _ code _ (saves {sh = sh} {code' = code'} x g lt co sl) h = (tt, code_calls n ts out g sh code code' sl h)
  code_calls n ts out f sh code code' (narrows g co sl) h = code_calls n ts out g sh code code' sl h
  code_calls n ts out f sh code code' (forgets pl sl) h = code_calls n ts out f [] code code' sl h
  code_calls n ts out f sh _ _ (S.leaps l pl re) h = h
  code_calls n ts out f sh _ _ (S.leaps_if {rest = rest} {rest' = rest'} l pl re sl) h = (h.0, code_calls n ts out f [] rest rest' sl h.1)
  code_calls n ts out f sh _ _ (S.leaps_by es l pl re) h = h
  code_calls n ts out f sh _ _ (S.returns_here pl) h = h
  code_calls n ts out f sh _ _ S.halts h = h
  code_calls n ts out f sh _ _ (S.calls {rest = rest} {rest' = rest'} x pl ac sl) h = (h.0, code_calls n ts out f [] rest rest' sl h.1)
  code_calls n ts out f sh _ _ (S.calls_by {rest = rest} {rest' = rest'} x pl ac sl) h = (h.0, code_calls n ts out f [] rest rest' sl h.1)
  code_calls n ts out f sh _ _ (S.blocks {body = body} {body' = body'} {rest = rest} {rest' = rest'} r g pl sb sl) h =
      (code_calls _ (g ∷ ts) g f [] body body' sb h.0, code_calls n ts out g [] rest rest' sl h.1)
  code_calls n ts out f sh _ _ (S.loops {body = body} {body' = body'} {rest = rest} {rest' = rest'} r head g pl co sb sl) h =
      (code_calls _ (head ∷ ts) g head [] body body' sb h.0, code_calls n ts out g [] rest rest' sl h.1)
  code_calls n ts out f sh _ _ (S.decides {a = a} {a' = a'} {b = b} {b' = b'} {rest = rest} {rest' = rest'} r g pl sa sb sl) h =
      (code_calls _ (g ∷ ts) g f [] a a' sa h.0, code_calls _ (g ∷ ts) g f [] b b' sb h.1, code_calls n ts out g [] rest rest' sl h.2)

-- ---- units

-- one of two arms has a unit
one_of : (a b : Units) → HasUnit a b → Some_unit a ⊎ Some_unit b
one_of no_unit no_unit h = absurd h
one_of no_unit (call_unit _ _ _ _ _) h = inr tt
one_of no_unit (nest_unit _ _ _ _ _) h = inr tt
one_of no_unit (if_unit _ _ _ _ _ _ _) h = inr tt
one_of (call_unit _ _ _ _ _) b h = inl tt
one_of (nest_unit _ _ _ _ _) b h = inl tt
one_of (if_unit _ _ _ _ _ _ _) b h = inl tt

then_has : (a b : Units) → Some_unit a → HasUnit a b
then_has no_unit b h = absurd h
then_has (call_unit _ _ _ _ _) b h = tt
then_has (nest_unit _ _ _ _ _) b h = tt
then_has (if_unit _ _ _ _ _ _ _) b h = tt

else_has : (a b : Units) → Some_unit b → HasUnit a b
else_has a no_unit h = absurd h
else_has no_unit (call_unit _ _ _ _ _) h = tt
else_has no_unit (nest_unit _ _ _ _ _) h = tt
else_has no_unit (if_unit _ _ _ _ _ _ _) h = tt
else_has (call_unit _ _ _ _ _) b h = tt
else_has (nest_unit _ _ _ _ _) b h = tt
else_has (if_unit _ _ _ _ _ _ _) b h = tt

module _ (t : Terms) where
  some_stays : (n : ℕ) (ts : List Free) (out f : Free) (sh : StackShape) (first first' : Code) (us us' : Units) → SlimUnits t n ts out f sh first us first' us' → Some_unit us → Some_unit us'
  some_stays n ts out _ _ first _ us _ untouched h = h
  some_stays n ts out f sh first first' _ _ (alone sl) h = h
  some_stays n ts out f sh first first' _ _ (before_call _ _ _ _ _ _ _ _ _ _ _) h = tt
  some_stays n ts out f sh first first' _ _ (before_block _ _ _ _ _ _) h = tt
  some_stays n ts out f sh first first' _ _ (before_loop _ _ _ _ _ _ _ _) h = tt
  some_stays n ts out f sh first first' _ _ (before_if _ _ _ _ _ _ _ _ _ _ _) h = tt
  some_stays n ts out f sh first first' _ _ (before_kept_if _ _ _ _ _ _ _ _) h = tt

  pub units_alike : (n : ℕ) (ts : List Free) (out f : Free) (sh : StackShape) (first first' : Code) (us us' : Units) → SlimUnits t n ts out f sh first us first' us' → AlikeUnits first first' us us'
  units_alike n ts out _ _ first _ us _ untouched = record { numbers = refl; count = refl; numbered = λ test h. h; arms = λ h. h }
  units_alike n ts out f sh first first' _ _ (alone sl) = record { numbers = refl; count = refl; numbered = λ test h. h; arms = λ h. h }
  units_alike n ts out f sh first first' _ _ (before_call {sh2 = sh2} {behind = behind} {behind' = behind'} {rest = rest} {rest' = rest'} {to = to} {to' = to'} slots x g h2 go sl hs hf re sg on) =
      let e = units_alike n ts out h2 sh2 behind behind' rest rest' on in
      record { numbers = ap suc e.numbers; count = ap (λ i. 1 + i) e.count; numbered = λ test h. (h.0, e.numbered test h.1); arms = e.arms }
  units_alike n ts out f sh first first' _ _ (before_block {inner = inner} {inner' = inner'} {behind = behind} {behind' = behind'} {body = body} {body' = body'} {rest = rest} {rest' =
      rest'} g h2 go sl ib on) =
      let e = units_alike n ts out h2 [] behind behind' rest rest' on in
      let i = units_alike _ (h2 ∷ ts) h2 g [] inner inner' body body' ib in
      let e1 = e.numbers in let e2 = e.count in let i1 = i.numbers in let i2 = i.count in
      record {
        numbers = omega arith;
        count = omega arith;
        numbered = λ test h. (i.numbered test h.0, e.numbered test h.1);
        arms = λ h.
            (any_is body' (some_stays _ (h2 ∷ ts) h2 g [] inner inner' body body' ib (any_some body h.0)), i.arms h.1, e.arms h.2);
      }
  units_alike n ts out f sh first first' _ _ (before_loop {inner = inner} {inner' = inner'} {behind = behind} {behind' = behind'} {body = body} {body' = body'} {rest = rest} {rest' =
      rest'} g head h2 go sl co ib on) =
      let e = units_alike n ts out h2 [] behind behind' rest rest' on in
      let i = units_alike _ (head ∷ ts) h2 head [] inner inner' body body' ib in
      let e1 = e.numbers in let e2 = e.count in let i1 = i.numbers in let i2 = i.count in
      record {
        numbers = omega arith;
        count = omega arith;
        numbered = λ test h. (i.numbered test h.0, e.numbered test h.1);
        arms = λ h.
            (any_is body' (some_stays _ (head ∷ ts) h2 head [] inner inner' body body' ib (any_some body h.0)), i.arms h.1, e.arms h.2);
      }
  units_alike n ts out f sh first first' _ _ (before_if {fa = fa} {fa' = fa'} {fb = fb} {fb' = fb'} {behind = behind} {behind' = behind'} {a = a} {a' = a'} {b = b} {b' = b'} {rest =
      rest} {rest' = rest'} o g k h2 go sl hc co ia ib on) =
      let e = units_alike n ts out h2 [] behind behind' rest rest' on in
      let i = units_alike _ (h2 ∷ ts) h2 k [] fa fa' a a' ia in
      let j = units_alike _ (h2 ∷ ts) h2 k [] fb fb' b b' ib in
      let e1 = e.numbers in let e2 = e.count in let i1 = i.numbers in let i2 = i.count in let j1 = j.numbers in let j2 = j.count in
      record {
        numbers = omega arith;
        count = omega arith;
        numbered = λ test h. (i.numbered test h.0, j.numbered test h.1, e.numbered test h.2);
        arms = λ h. (
          ⊎_elim (λ s. then_has a' b' (some_stays _ (h2 ∷ ts) h2 k [] fa fa' a a' ia s)) (λ s. else_has a' b' (some_stays _ (h2 ∷ ts) h2 k [] fb fb' b b' ib s)) (one_of a b h.0),
          i.arms h.1,
          j.arms h.2,
          e.arms h.3,
        );
      }
  units_alike n ts out f sh first first' _ _ (before_kept_if {fa = fa} {fa' = fa'} {fb = fb} {fb' = fb'} {behind = behind} {behind' = behind'} {a = a} {a' = a'} {b = b} {b' = b'}
      {rest = rest} {rest' = rest'} o g h2 go sl ia ib on) =
      let e = units_alike n ts out h2 [] behind behind' rest rest' on in
      let i = units_alike _ (h2 ∷ ts) h2 g [] fa fa' a a' ia in
      let j = units_alike _ (h2 ∷ ts) h2 g [] fb fb' b b' ib in
      let e1 = e.numbers in let e2 = e.count in let i1 = i.numbers in let i2 = i.count in let j1 = j.numbers in let j2 = j.count in
      record {
        numbers = omega arith;
        count = omega arith;
        numbered = λ test h. (i.numbered test h.0, j.numbered test h.1, e.numbered test h.2);
        arms = λ h. (
          ⊎_elim (λ s. then_has a' b' (some_stays _ (h2 ∷ ts) h2 g [] fa fa' a a' ia s)) (λ s. else_has a' b' (some_stays _ (h2 ∷ ts) h2 g [] fb fb' b b' ib s)) (one_of a b h.0),
          i.arms h.1,
          j.arms h.2,
          e.arms h.3,
        );
      }

  module _ (P : Callee → Type 0) where
    pub pieces_call : (n : ℕ) (ts : List Free) (out f : Free) (sh : StackShape) (first first' : Code) (us us' : Units) → SlimUnits t n ts out f sh first us first' us' → Calls P first → PiecesCall P us
        → Calls P first' × PiecesCall P us'
    pieces_call n ts out _ _ first _ us _ untouched h k = (h, k)
    pieces_call n ts out f sh first first' _ _ (alone sl) h k = (code_calls t P n ts out f sh first first' sl h, tt)
    pieces_call n ts out f sh first first' _ _ (before_call {sh2 = sh2} {behind = behind} {behind' = behind'} {rest = rest} {rest' = rest'} {to = to} {to' = to'} slots x g h2 go sl hs hf re
        sg on) h k =
        let e = pieces_call n ts out h2 sh2 behind behind' rest rest' on k.0 k.1 in
        (code_calls t P _ ts g f sh first first' sl h, (e.0, e.1))
    pieces_call n ts out f sh first first' _ _ (before_block {inner = inner} {inner' = inner'} {behind = behind} {behind' = behind'} {body = body} {body' = body'} {rest = rest} {rest' =
        rest'} g h2 go sl ib on) h k =
        let i = pieces_call _ (h2 ∷ ts) h2 g [] inner inner' body body' ib k.0 k.1 in
        let e = pieces_call n ts out h2 [] behind behind' rest rest' on k.2 k.3 in
        (code_calls t P _ ts g f sh first first' sl h, (i.0, i.1, e.0, e.1))
    pieces_call n ts out f sh first first' _ _ (before_loop {inner = inner} {inner' = inner'} {behind = behind} {behind' = behind'} {body = body} {body' = body'} {rest = rest} {rest' =
        rest'} g head h2 go sl co ib on) h k =
        let i = pieces_call _ (head ∷ ts) h2 head [] inner inner' body body' ib k.0 k.1 in
        let e = pieces_call n ts out h2 [] behind behind' rest rest' on k.2 k.3 in
        (code_calls t P _ ts g f sh first first' sl h, (i.0, i.1, e.0, e.1))
    pieces_call n ts out f sh first first' _ _ (before_if {fa = fa} {fa' = fa'} {fb = fb} {fb' = fb'} {behind = behind} {behind' = behind'} {a = a} {a' = a'} {b = b} {b' = b'} {rest =
        rest} {rest' = rest'} o g l h2 go sl hc co ia ib on) h k =
        let i = pieces_call _ (h2 ∷ ts) h2 l [] fa fa' a a' ia k.0 k.1 in
        let j = pieces_call _ (h2 ∷ ts) h2 l [] fb fb' b b' ib k.2 k.3 in
        let e = pieces_call n ts out h2 [] behind behind' rest rest' on k.4 k.5 in
        (code_calls t P _ ts g f sh first first' sl h, (i.0, i.1, j.0, j.1, e.0, e.1))
    pieces_call n ts out f sh first first' _ _ (before_kept_if {fa = fa} {fa' = fa'} {fb = fb} {fb' = fb'} {behind = behind} {behind' = behind'} {a = a} {a' = a'} {b = b} {b' = b'}
        {rest = rest} {rest' = rest'} o g h2 go sl ia ib on) h k =
        let i = pieces_call _ (h2 ∷ ts) h2 g [] fa fa' a a' ia k.0 k.1 in
        let j = pieces_call _ (h2 ∷ ts) h2 g [] fb fb' b b' ib k.2 k.3 in
        let e = pieces_call n ts out h2 [] behind behind' rest rest' on k.4 k.5 in
        (code_calls t P _ ts g f sh (followed_by first (got o done)) first' sl (calls_then P first (got o done) h (calls_got P o done tt)), (i.0, i.1, j.0, j.1, e.0, e.1))

pub alike_law : UnitsAreAlike
alike_law t n ts out f sh first first' us us' su = units_alike t n ts out f sh first first' us us' su

pub calls_law : PiecesCallAlike
calls_law t n ts out f sh first first' us us' test su h k = pieces_call t (λ c. test c ≡ false) n ts out f sh first first' us us' su h k
