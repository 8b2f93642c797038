-- What guarded code asks of pieces.
use Rattle.std.proofs.Common.{◌≡◌, ℕ, suc, ◌+◌, ◌<◌, ◌≤◌, ◌^◌, List, [], ◌∷◌, length, Option, Some, None, Bool, true, false, refl, sym, ap, ◌∙◌, subst, arith}
use Rattle.std.specs.Prelude.{◌||◌, if◌then◌else◌}
use Rattle.wa_types.specs.Pausing.{Callee}
use Rattle.wa_types.specs.Counts.{depth_of}
use Rattle.wa_types.specs.declared.instrs.Instr.{Instr}
use Rattle.wa_types.specs.Syntax.{Code, done}
use Rattle.wa_types.specs.View.{code}
use Rattle.wa_types.proofs.ViewLemmas.{code_none}
use Rattle.run_theory.specs.Flat.{FlatFunc, Stmts, no_more, computes, copies, calls, leaps, leaps_if, leaps_by, nests, decides, halts, code_of, followed_by, last_of, result_got}
use Rattle.run_theory.specs.FlatFits.{FlatFits}
use Rattle.guard_form.specs.Guarded.{block_unit, guarded_body, guarded_code}
use Rattle.guard_form.specs.Pieces.{Units, call_total, first_piece, flat_units, holds_call, if_unit, nest_unit, numbered, numbers_in, unit_call, units}
use Rattle.guard_form.proofs.Grouped.{joins}
use Rattle.flow_rewrite.specs.Raising.{LabelsBelow, Raisable}
use Rattle.flow_rewrite.proofs.FitLemmas.{whole_raisable}
use Rattle.slim_laws.specs.Emit.{free_by}
use Rattle.slim_laws.specs.Slim as S
use Rattle.slim_laws.specs.Slim.{Free, StackShape, Slims, Terms}
use Rattle.slim_laws.specs.SlimUnits.{SlimUnits}
use Rattle.slim_laws.proofs.UnitSizes.{slimmer_law}
use Rattle.slim_laws.proofs.UnitsAlike.{alike_law}
use Rattle.slim_laws.proofs.UnitsSlim.{units_law}
use Rattle.flow_rewrite.specs.declared.pieces.Pieces.{Pieces}
use Rattle.slim_rewrite.specs.Functions.{is_between, are_plain, are_slim, AreSlim, ArePlain, SlimOrPlain}
use Rattle.slim_rewrite.specs.Inside.{first_code, units_in}
use Rattle.slim_rewrite.proofs.InsideLemmas.{nothing_fixed}

-- ---- labels

pub labels_kept : (m : ℕ) (t : Terms) (n : ℕ) (ts : List Free) (out f : Free) (sh : StackShape) (c c' : Code) → Slims t n ts out f sh c c' → LabelsBelow m c → LabelsBelow m c'
labels_kept m t n ts out f sh _ _ (S.ends co pl) h = tt
labels_kept m t n ts out f sh _ _ (S.does b ta sl) h = (h.0, labels_kept m t n ts out f _ _ _ sl h.1)
labels_kept m t n ts out f sh _ _ (S.gets x e sl) h = (h.0, labels_kept m t n ts out f _ _ _ sl h.1)
labels_kept m t n ts out f sh _ _ (S.sets x g co ta la sl) h = (h.0, labels_kept m t n ts out g _ _ _ sl h.1)
labels_kept m t n ts out f sh _ _ (S.tees x g co ta la sl) h = (h.0, labels_kept m t n ts out g _ _ _ sl h.1)
labels_kept m t n ts out f sh _ _ (S.keeps x g is lt co fr ta la sl) h = labels_kept m t n ts out g _ _ _ sl h.1
labels_kept m t n ts out f sh _ _ (S.uses x is ri sl) h = labels_kept m t n ts out f _ _ _ sl h.1
labels_kept m t n ts out f _ _ _ (S.copies x y g is co la sl) h = (tt, labels_kept m t n ts out g _ _ _ sl (h.1).1)
labels_kept m t n ts out f sh _ _ (S.saves x g lt co sl) h = (tt, labels_kept m t n ts out g _ _ _ sl h)
labels_kept m t n ts out f sh _ _ (S.narrows g co sl) h = labels_kept m t n ts out g sh _ _ sl h
labels_kept m t n ts out f sh _ _ (S.forgets pl sl) h = labels_kept m t n ts out f [] _ _ sl h
labels_kept m t n ts out f sh _ _ (S.leaps l pl re) h = h
labels_kept m t n ts out f sh _ _ (S.leaps_if l pl re sl) h = (h.0, labels_kept m t n ts out f [] _ _ sl h.1)
labels_kept m t n ts out f sh _ _ (S.leaps_by ls l pl re) h = h
labels_kept m t n ts out f sh _ _ (S.returns_here pl) h = h
labels_kept m t n ts out f sh _ _ S.halts h = h
labels_kept m t n ts out f sh _ _ (S.calls x pl he sl) h = (h.0, labels_kept m t n ts out f [] _ _ sl h.1)
labels_kept m t n ts out f sh _ _ (S.calls_by x pl he sl) h = (h.0, labels_kept m t n ts out f [] _ _ sl h.1)
labels_kept m t n ts out f sh _ _ (S.blocks r g pl sb sr) h = (labels_kept m t _ (g ∷ ts) g f [] _ _ sb h.0, labels_kept m t n ts out g [] _ _ sr h.1)
labels_kept m t n ts out f sh _ _ (S.loops r k g pl co sb sr) h = (labels_kept m t _ (k ∷ ts) g k [] _ _ sb h.0, labels_kept m t n ts out g [] _ _ sr h.1)
labels_kept m t n ts out f sh _ _ (S.decides r g pl sa sb sr) h =
    (labels_kept m t _ (g ∷ ts) g f [] _ _ sa h.0, labels_kept m t _ (g ∷ ts) g f [] _ _ sb h.1, labels_kept m t n ts out g [] _ _ sr h.2)

-- ---- flat code

numbers_few : (ps : List ℕ) (n : ℕ) (s : Stmts) → numbers_in (units ps n s) ≤ call_total s
numbers_few ps n no_more = omega arith
numbers_few ps n (computes op args to rest) = numbers_few ps n rest
numbers_few ps n (copies to from rest) = numbers_few ps n rest
numbers_few ps n (calls op stack args to rest) = by (numbered ps n op) (numbers_few ps (suc n) rest)
  where
    by : (o : Option Callee) → numbers_in (units ps (suc n) rest) ≤ call_total rest
        → numbers_in (unit_call o (last_of args stack) to (first_piece ps (suc n) rest) (units ps (suc n) rest)) ≤ suc (call_total rest)
    by None ih = omega arith
    by (Some x) ih = omega arith
numbers_few ps n (leaps l rest) = numbers_few ps n rest
numbers_few ps n (leaps_if c l rest) = numbers_few ps n rest
numbers_few ps n (leaps_by o ls l rest) = numbers_few ps n rest
numbers_few ps n (nests y body rest) = by (holds_call ps n body) (numbers_few ps n body) (numbers_few ps (n + call_total body) rest)
  where
    by : (b : Bool) → numbers_in (units ps n body) ≤ call_total body → numbers_in (units ps (n + call_total body) rest) ≤ call_total rest
        → numbers_in (if b then nest_unit y (first_piece ps n body) (units ps n body) (first_piece ps (n + call_total body) rest) (units ps (n + call_total body) rest) else units ps
        (n + call_total body) rest) ≤ call_total body + call_total rest
    by true ib ih = omega arith
    by false ib ih = omega arith
numbers_few ps n (decides c a b rest) = by (holds_call ps n a || holds_call ps (n + call_total a) b) (numbers_few ps n a) (numbers_few ps (n + call_total a) b)
    (numbers_few ps (n + call_total a + call_total b) rest)
  where
    by : (z : Bool) → numbers_in (units ps n a) ≤ call_total a → numbers_in (units ps (n + call_total a) b) ≤ call_total b
        → numbers_in (units ps (n + call_total a + call_total b) rest) ≤ call_total rest
        → numbers_in (if z then if_unit (Some c) (first_piece ps n a) (units ps n a) (first_piece ps (n + call_total a) b) (units ps (n + call_total a) b)
        (first_piece ps (n + call_total a + call_total b) rest) (units ps (n + call_total a + call_total b) rest) else units ps (n + call_total a + call_total b) rest) ≤ call_total
        a + call_total b + call_total rest
    by true ia ib ih = omega arith
    by false ia ib ih = omega arith
numbers_few ps n (halts rest) = numbers_few ps n rest

flat_raised : (g : FlatFunc) → FlatFits g → Raisable 1 2 (code_of g.body)
flat_raised g fits = let s = fits.shallow in let q = whole_raisable (length g.locals) 1 g.body fits.statements (omega (arith, s)) in record { few = q.few; labels = q.labels; shallow = omega (arith, s) }

-- ---- slim pieces

module _ (ps : List ℕ) (low count : ℕ) (g : FlatFunc) (p : Pieces) (fits : FlatFits g) (few : call_total g.body < 2 ^ 32) (h : AreSlim ps low count g p) where
  abbrev t : Terms
  t = record { slot = is_between low count; size = low + count; fixed = λ k. [] }

  slim : SlimUnits t 0 (free_by t.slot [] ∷ []) (free_by t.slot []) (free_by t.slot []) [] (first_piece ps 0 g.body) (units ps 0 g.body) (first_code p) (units_in p)
  slim = h t (λ x. refl) (omega arith) (nothing_fixed t (λ k. refl) ps 0 0 g.body)

  abbrev whole : Code
  whole = followed_by (first_code p) (flat_units (units_in p))

  whole_slim : Slims t 0 (free_by t.slot [] ∷ []) (free_by t.slot []) (free_by t.slot []) [] (code_of g.body) whole
  whole_slim = subst (λ c. Slims t 0 (free_by t.slot [] ∷ []) (free_by t.slot []) (free_by t.slot []) [] c whole) (joins ps 0 g.body)
      (units_law t 0 (free_by t.slot [] ∷ []) (free_by t.slot []) (free_by t.slot []) [] (first_piece ps 0 g.body) (first_code p) (units ps 0 g.body) (units_in p) slim)

  slim_raised : Raisable 1 2 whole
  slim_raised =
      let flat = flat_raised g fits in
      let d = (slimmer_law t 0 (free_by t.slot [] ∷ []) (free_by t.slot []) (free_by t.slot []) [] (first_piece ps 0 g.body) (first_code p) (units ps 0 g.body) (units_in p) 0 slim).depth in
      let e = ap depth_of (joins ps 0 g.body) in
      let q = flat.shallow in
      record { few = omega arith; labels = labels_kept (2 ^ 31) t 0 _ _ _ [] (code_of g.body) whole whole_slim flat.labels; shallow = omega arith }

  slim_few : numbers_in (units_in p) < 2 ^ 32
  slim_few =
      let lt = numbers_few ps 0 g.body in
      let e = (alike_law t 0 (free_by t.slot [] ∷ []) (free_by t.slot []) (free_by t.slot []) [] (first_piece ps 0 g.body) (first_code p) (units ps 0 g.body) (units_in p) slim).numbers in omega (arith, lt, e, few)

-- ---- plain pieces

plain_raised : (ps : List ℕ) (g : FlatFunc) (p : Pieces) → FlatFits g → ArePlain ps g p → Raisable 1 2 (followed_by (first_code p) (flat_units (units_in p)))
plain_raised ps g p fits h = subst (Raisable 1 2) (sym ((λ j. followed_by (h.first j) (flat_units (h.units j))) ∙ joins ps 0 g.body)) (flat_raised g fits)

plain_few : (ps : List ℕ) (g : FlatFunc) (p : Pieces) → call_total g.body < 2 ^ 32 → ArePlain ps g p → numbers_in (units_in p) < 2 ^ 32
plain_few ps g p few h = let lt = numbers_few ps 0 g.body in let e = ap numbers_in h.units in omega (arith, lt, e, few)

-- ---- either

either_raised : (ps : List ℕ) (low count : ℕ) (g : FlatFunc) (p : Pieces) → FlatFits g → call_total g.body < 2 ^ 32 → SlimOrPlain ps low count g p
    → Raisable 1 2 (followed_by (first_code p) (flat_units (units_in p)))
either_raised ps low count g p fits few (are_slim h) = slim_raised ps low count g p fits few h
either_raised ps low count g p fits few (are_plain h) = plain_raised ps g p fits h

either_few : (ps : List ℕ) (low count : ℕ) (g : FlatFunc) (p : Pieces) → FlatFits g → call_total g.body < 2 ^ 32 → SlimOrPlain ps low count g p → numbers_in (units_in p) < 2 ^ 32
either_few ps low count g p fits few (are_slim h) = slim_few ps low count g p fits few h
either_few ps low count g p fits few (are_plain h) = plain_few ps g p few h

-- ---- in a block of their own

got_labels : (o : Option ℕ) → LabelsBelow (2 ^ 31) (followed_by (result_got o) done)
unfolding followed_by
got_labels None = tt
got_labels (Some x) = (tt, tt)

got_depth : (o : Option ℕ) → depth_of (followed_by (result_got o) done) ≡ 0
unfolding depth_of followed_by
got_depth None = refl
got_depth (Some x) = refl

block_raised : (first : Code) (us : Units) (o : Option ℕ) → Raisable 1 2 (followed_by first (flat_units us)) → Raisable 0 2 (followed_by done (flat_units (block_unit first us o)))
unfolding depth_of followed_by
block_raised first us o h = let s = h.shallow in let d = got_depth o in record { few = h.few; labels = (h.labels, got_labels o); shallow = omega (arith, s, d) }

-- The pieces of a function, in a block of their own.
pub record InBlock (p w : Pieces) (result : Option ℕ) : Type 0 where
  pub first : first_code w ≡ done
  pub units : units_in w ≡ block_unit (first_code p) (units_in p) result

pub in_block_is : (p w : Pieces) (result : Option ℕ) → w.first.items ≡ [] → units_in w ≡ block_unit (first_code p) (units_in p) result → InBlock p w result
in_block_is p w result none us = record { first = ap code none ∙ code_none; units = us }

module _ (ps : List ℕ) (low count : ℕ) (g : FlatFunc) (p w : Pieces) (result : Option ℕ) (fits : FlatFits g) (few : call_total g.body < 2 ^ 32) (h : SlimOrPlain ps low count g p)
    (inside : InBlock p w result) where
  pub pieces_raised : Raisable 0 2 (followed_by (first_code w) (flat_units (units_in w)))
  pieces_raised = subst (Raisable 0 2) (sym (λ j. followed_by (inside.first j) (flat_units (inside.units j)))) (block_raised (first_code p) (units_in p) result (either_raised ps low count g p fits few h))

  pub pieces_few : numbers_in (units_in w) < 2 ^ 32
  pieces_few = let lt = either_few ps low count g p fits few h in let e = ap numbers_in inside.units in omega (arith, lt, e)

pub plain_code : (ps : List ℕ) (state index : ℕ) (none : List Instr) (g : FlatFunc) (p w : Pieces) (c : Code) → ArePlain ps g p → InBlock p w g.result → index ≡ length g.locals → none ≡ []
    → c ≡ guarded_body (record { state = state; index = index; first_unnoted = false }) (followed_by (code none)) (first_code w) (units_in w) → c ≡ guarded_code state ps g
unfolding followed_by
plain_code ps state index none g p w c h inside e empty is =
    is ∙ (λ j. guarded_body (record { state = state; index = e j; first_unnoted = false }) (followed_by ((ap code empty ∙ code_none) j)) (inside.first j) (inside.units j))
    ∙ (λ j. guarded_body (record { state = state; index = length g.locals; first_unnoted = false }) (λ c. c) done (block_unit (h.first j) (h.units j) g.result))
