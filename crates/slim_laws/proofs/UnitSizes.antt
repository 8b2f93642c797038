-- Slim units are no larger, nest no deeper, and read a global as often.
use Rattle.std.proofs.Common.{◌≡◌, ◌≤◌, ℕ, ◌+◌, List, [], ◌∷◌, Some, None, refl, ap, arith}
use Rattle.wa_types.specs.Syntax.{basic, Code}
use Rattle.run_theory.specs.Flat.{followed_by}
use Rattle.wa_model.specs.Rewrites.{instructions_and_labels}
use Rattle.wa_model.specs.Store.{takes, gives}
use Rattle.guard_form.specs.Bounds.{plain_reads, reads}
use Rattle.guard_form.specs.Pieces.{flat_units}
use Rattle.slim_laws.specs.Slim as S
use Rattle.slim_laws.specs.Slim.{Free, StackShape, more, kept, Terms, Slims, ends, does, keeps, uses, saves, narrows, forgets}
use Rattle.slim_laws.proofs.KeptSizes.{deeper}
use Rattle.slim_laws.proofs.Shapes.{plainly_none, taken_kept, more_kept, risen_kept}
use Rattle.slim_laws.specs.SlimUnitLaws.{UnitsAreSlimmer}
use Rattle.slim_laws.proofs.UnitsSlim.{units_law}

-- no larger, with the labels of branch tables
pub labelled : (t : Terms) (n : ℕ) (ts : List Free) (out f : Free) (sh : StackShape) (code code' : Code) → Slims t n ts out f sh code code'
    → instructions_and_labels code' ≤ instructions_and_labels code + kept sh
unfolding instructions_and_labels
labelled t n ts out f sh _ _ (ends co pl) = omega arith
labelled t n ts out f sh _ _ (does {sh2 = sh2} {rest = rest} {rest' = rest'} b ta sl) =
    let h = labelled t n ts out f (more (gives b) sh2) rest rest' sl in
    let k = more_kept (gives b) sh2 in
    let k2 = taken_kept (takes b) sh sh2 ta in
    omega arith
labelled t n ts out f sh _ _ (S.gets {rest = rest} {rest' = rest'} x fr sl) =
    let h = labelled t n ts out f (None ∷ sh) rest rest' sl in
    omega arith
labelled t n ts out f sh _ _ (S.sets {sh2 = sh2} {rest = rest} {rest' = rest'} x g co ta la sl) =
    let h = labelled t n ts out g sh2 rest rest' sl in
    let k = taken_kept 1 sh sh2 ta in
    omega arith
labelled t n ts out f sh _ _ (S.tees {sh2 = sh2} {rest = rest} {rest' = rest'} x g co ta la sl) =
    let h = labelled t n ts out g (None ∷ sh2) rest rest' sl in
    let k = taken_kept 1 sh sh2 ta in
    omega arith
labelled t n ts out f sh _ code' (keeps {sh2 = sh2} {rest = rest} x g is lt co gx ta la sl) =
    let h = labelled t n ts out g (Some x ∷ sh2) rest code' sl in
    let k = taken_kept 1 sh sh2 ta in
    omega arith
labelled t n ts out f sh _ code' (uses {sh2 = sh2} {rest = rest} x is ri sl) =
    let h = labelled t n ts out f sh2 rest code' sl in
    let k = risen_kept x sh sh2 ri in
    omega arith
labelled t n ts out f _ _ _ (S.copies {sh = sh} {rest = rest} {rest' = rest'} x y g is co la sl) =
    let h = labelled t n ts out g (Some x ∷ sh) rest rest' sl in
    omega arith
labelled t n ts out f _ code _ (saves {sh = sh} {code' = code'} x g lt co sl) =
    let h = labelled t n ts out g sh code code' sl in
    omega arith
labelled t n ts out f sh code code' (narrows g co sl) = labelled t n ts out g sh code code' sl
labelled t n ts out f sh code code' (forgets pl sl) =
    let h = labelled t n ts out f [] code code' sl in
    let k = plainly_none sh pl in
    omega arith
labelled t n ts out f sh _ _ (S.leaps l pl re) = omega arith
labelled t n ts out f sh _ _ (S.leaps_if {rest = rest} {rest' = rest'} l pl re sl) =
    let h = labelled t n ts out f [] rest rest' sl in
    omega arith
labelled t n ts out f sh _ _ (S.leaps_by es l pl re) = omega arith
labelled t n ts out f sh _ _ (S.returns_here pl) = omega arith
labelled t n ts out f sh _ _ S.halts = omega arith
labelled t n ts out f sh _ _ (S.calls {rest = rest} {rest' = rest'} x pl ac sl) =
    let h = labelled t n ts out f [] rest rest' sl in
    omega arith
labelled t n ts out f sh _ _ (S.calls_by {rest = rest} {rest' = rest'} x pl ac sl) =
    let h = labelled t n ts out f [] rest rest' sl in
    omega arith
labelled t n ts out f sh _ _ (S.blocks {body = body} {body' = body'} {rest = rest} {rest' = rest'} r g pl sb sl) =
    let h = labelled t n ts out g [] rest rest' sl in
    let h2 = labelled t _ (g ∷ ts) g f [] body body' sb in
    omega arith
labelled t n ts out f sh _ _ (S.loops {body = body} {body' = body'} {rest = rest} {rest' = rest'} r head g pl co sb sl) =
    let h = labelled t n ts out g [] rest rest' sl in
    let h2 = labelled t _ (head ∷ ts) g head [] body body' sb in
    omega arith
labelled t n ts out f sh _ _ (S.decides {a = a} {a' = a'} {b = b} {b' = b'} {rest = rest} {rest' = rest'} r g pl sa sb sl) =
    let h = labelled t n ts out g [] rest rest' sl in
    let h2 = labelled t _ (g ∷ ts) g f [] a a' sa in
    let h3 = labelled t _ (g ∷ ts) g f [] b b' sb in
    omega arith

-- a global is read as often
pub as_often : (st : ℕ) (t : Terms) (n : ℕ) (ts : List Free) (out f : Free) (sh : StackShape) (code code' : Code) → Slims t n ts out f sh code code' → reads st code' ≡ reads st code
as_often st t n ts out f sh _ _ (ends co pl) = refl
as_often st t n ts out f sh _ _ (does {sh2 = sh2} {rest = rest} {rest' = rest'} b ta sl) = ap (λ i. plain_reads st (basic b) + i) (as_often st t n ts out f (more (gives b) sh2) rest rest' sl)
as_often st t n ts out f sh _ _ (S.gets {rest = rest} {rest' = rest'} x fr sl) = let e = as_often st t n ts out f (None ∷ sh) rest rest' sl in omega arith
as_often st t n ts out f sh _ _ (S.sets {sh2 = sh2} {rest = rest} {rest' = rest'} x g co ta la sl) = let e = as_often st t n ts out g sh2 rest rest' sl in omega arith
as_often st t n ts out f sh _ _ (S.tees {sh2 = sh2} {rest = rest} {rest' = rest'} x g co ta la sl) = let e = as_often st t n ts out g (None ∷ sh2) rest rest' sl in omega arith
as_often st t n ts out f sh _ code' (keeps {sh2 = sh2} {rest = rest} x g is lt co gx ta la sl) = let e = as_often st t n ts out g (Some x ∷ sh2) rest code' sl in omega arith
as_often st t n ts out f sh _ code' (uses {sh2 = sh2} {rest = rest} x is ri sl) = let e = as_often st t n ts out f sh2 rest code' sl in omega arith
as_often st t n ts out f _ _ _ (S.copies {sh = sh} {rest = rest} {rest' = rest'} x y g is co la sl) = let e = as_often st t n ts out g (Some x ∷ sh) rest rest' sl in omega arith
as_often st t n ts out f _ code _ (saves {sh = sh} {code' = code'} x g lt co sl) = let e = as_often st t n ts out g sh code code' sl in omega arith
as_often st t n ts out f sh code code' (narrows g co sl) = as_often st t n ts out g sh code code' sl
as_often st t n ts out f sh code code' (forgets pl sl) = as_often st t n ts out f [] code code' sl
as_often st t n ts out f sh _ _ (S.leaps l pl re) = refl
as_often st t n ts out f sh _ _ (S.leaps_if {rest = rest} {rest' = rest'} l pl re sl) = let e = as_often st t n ts out f [] rest rest' sl in omega arith
as_often st t n ts out f sh _ _ (S.leaps_by es l pl re) = refl
as_often st t n ts out f sh _ _ (S.returns_here pl) = refl
as_often st t n ts out f sh _ _ S.halts = refl
as_often st t n ts out f sh _ _ (S.calls {rest = rest} {rest' = rest'} x pl ac sl) = let e = as_often st t n ts out f [] rest rest' sl in omega arith
as_often st t n ts out f sh _ _ (S.calls_by {rest = rest} {rest' = rest'} x pl ac sl) = let e = as_often st t n ts out f [] rest rest' sl in omega arith
as_often st t n ts out f sh _ _ (S.blocks {body = body} {body' = body'} {rest = rest} {rest' = rest'} r g pl sb sl) =
    let a = as_often st t _ (g ∷ ts) g f [] body body' sb in
    let e = as_often st t n ts out g [] rest rest' sl in
    omega arith
as_often st t n ts out f sh _ _ (S.loops {body = body} {body' = body'} {rest = rest} {rest' = rest'} r head g pl co sb sl) =
    let a = as_often st t _ (head ∷ ts) g head [] body body' sb in
    let e = as_often st t n ts out g [] rest rest' sl in
    omega arith
as_often st t n ts out f sh _ _ (S.decides {a = a} {a' = a'} {b = b} {b' = b'} {rest = rest} {rest' = rest'} r g pl sa sb sl) =
    let i = as_often st t _ (g ∷ ts) g f [] a a' sa in
    let j = as_often st t _ (g ∷ ts) g f [] b b' sb in
    let e = as_often st t n ts out g [] rest rest' sl in
    omega arith

pub slimmer_law : UnitsAreSlimmer
slimmer_law t n ts out f sh first first' us us' state su =
    let sl = units_law t n ts out f sh first first' us us' su in
    record {
      size = labelled t n ts out f sh (followed_by first (flat_units us)) (followed_by first' (flat_units us')) sl;
      depth = deeper t n ts out f sh (followed_by first (flat_units us)) (followed_by first' (flat_units us')) sl;
      reading = as_often state t n ts out f sh (followed_by first (flat_units us)) (followed_by first' (flat_units us')) sl;
    }
