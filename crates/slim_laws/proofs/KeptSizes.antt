-- Slim code is no larger and nests no deeper.
use Rattle.std.proofs.Common.{refl, ap, [], ◌∷◌, Some, None, arith}
use Rattle.wa_types.specs.Pausing.{direct, indirect, calls_of}
use Rattle.wa_types.specs.Counts.{count_of, depth_of}
use Rattle.wa_model.specs.Store.{takes, gives}
use Rattle.slim_laws.specs.Slim as S
use Rattle.slim_laws.specs.Slim.{Free, more, kept, Terms, Slims, ends, does, keeps, uses, saves, narrows, forgets}
use Rattle.slim_laws.specs.Sizes.{SameCalls, NoOthers, NoLarger, NoDeeper}
use Rattle.slim_laws.proofs.Shapes.{plainly_none, taken_kept, more_kept, risen_kept}

pub larger : NoLarger
unfolding count_of
larger t n ts out f sh _ _ (ends co pl) = omega arith
larger t n ts out f sh _ _ (does {sh2 = sh2} {rest = rest} {rest' = rest'} b ta sl) =
    let h = larger t n ts out f (more (gives b) sh2) rest rest' sl in
    let k = more_kept (gives b) sh2 in
    let k2 = taken_kept (takes b) sh sh2 ta in
    omega arith
larger t n ts out f sh _ _ (S.gets {rest = rest} {rest' = rest'} x fr sl) =
    let h = larger t n ts out f (None ∷ sh) rest rest' sl in
    omega arith
larger t n ts out f sh _ _ (S.sets {sh2 = sh2} {rest = rest} {rest' = rest'} x g co ta la sl) =
    let h = larger t n ts out g sh2 rest rest' sl in
    let k = taken_kept 1 sh sh2 ta in
    omega arith
larger t n ts out f sh _ _ (S.tees {sh2 = sh2} {rest = rest} {rest' = rest'} x g co ta la sl) =
    let h = larger t n ts out g (None ∷ sh2) rest rest' sl in
    let k = taken_kept 1 sh sh2 ta in
    omega arith
larger t n ts out f sh _ code' (keeps {sh2 = sh2} {rest = rest} x g is lt co gx ta la sl) =
    let h = larger t n ts out g (Some x ∷ sh2) rest code' sl in
    let k = taken_kept 1 sh sh2 ta in
    omega arith
larger t n ts out f sh _ code' (uses {sh2 = sh2} {rest = rest} x is ri sl) =
    let h = larger t n ts out f sh2 rest code' sl in
    let k = risen_kept x sh sh2 ri in
    omega arith
larger t n ts out f _ _ _ (S.copies {sh = sh} {rest = rest} {rest' = rest'} x y g is co la sl) =
    let h = larger t n ts out g (Some x ∷ sh) rest rest' sl in
    omega arith
larger t n ts out f _ code _ (saves {sh = sh} {code' = code'} x g lt co sl) =
    let h = larger t n ts out g sh code code' sl in
    omega arith
larger t n ts out f sh code code' (narrows g co sl) = larger t n ts out g sh code code' sl
larger t n ts out f sh code code' (forgets pl sl) =
    let h = larger t n ts out f [] code code' sl in
    let k = plainly_none sh pl in
    omega arith
larger t n ts out f sh _ _ (S.leaps l pl re) = omega arith
larger t n ts out f sh _ _ (S.leaps_if {rest = rest} {rest' = rest'} l pl re sl) =
    let h = larger t n ts out f [] rest rest' sl in
    omega arith
larger t n ts out f sh _ _ (S.leaps_by es l pl re) = omega arith
larger t n ts out f sh _ _ (S.returns_here pl) = omega arith
larger t n ts out f sh _ _ S.halts = omega arith
larger t n ts out f sh _ _ (S.calls {rest = rest} {rest' = rest'} x pl ac sl) =
    let h = larger t n ts out f [] rest rest' sl in
    omega arith
larger t n ts out f sh _ _ (S.calls_by {rest = rest} {rest' = rest'} x pl ac sl) =
    let h = larger t n ts out f [] rest rest' sl in
    omega arith
larger t n ts out f sh _ _ (S.blocks {body = body} {body' = body'} {rest = rest} {rest' = rest'} r g pl sb sl) =
    let h = larger t n ts out g [] rest rest' sl in
    let h2 = larger t _ (g ∷ ts) g f [] body body' sb in
    omega arith
larger t n ts out f sh _ _ (S.loops {body = body} {body' = body'} {rest = rest} {rest' = rest'} r head g pl co sb sl) =
    let h = larger t n ts out g [] rest rest' sl in
    let h2 = larger t _ (head ∷ ts) g head [] body body' sb in
    omega arith
larger t n ts out f sh _ _ (S.decides {a = a} {a' = a'} {b = b} {b' = b'} {rest = rest} {rest' = rest'} r g pl sa sb sl) =
    let h = larger t n ts out g [] rest rest' sl in
    let h2 = larger t _ (g ∷ ts) g f [] a a' sa in
    let h3 = larger t _ (g ∷ ts) g f [] b b' sb in
    omega arith

pub deeper : NoDeeper
unfolding depth_of
deeper t n ts out f sh _ _ (ends co pl) = omega arith
deeper t n ts out f sh _ _ (does {sh2 = sh2} {rest = rest} {rest' = rest'} b ta sl) =
    let h = deeper t n ts out f (more (gives b) sh2) rest rest' sl in
    omega arith
deeper t n ts out f sh _ _ (S.gets {rest = rest} {rest' = rest'} x fr sl) =
    let h = deeper t n ts out f (None ∷ sh) rest rest' sl in
    omega arith
deeper t n ts out f sh _ _ (S.sets {sh2 = sh2} {rest = rest} {rest' = rest'} x g co ta la sl) =
    let h = deeper t n ts out g sh2 rest rest' sl in
    omega arith
deeper t n ts out f sh _ _ (S.tees {sh2 = sh2} {rest = rest} {rest' = rest'} x g co ta la sl) =
    let h = deeper t n ts out g (None ∷ sh2) rest rest' sl in
    omega arith
deeper t n ts out f sh _ code' (keeps {sh2 = sh2} {rest = rest} x g is lt co gx ta la sl) =
    let h = deeper t n ts out g (Some x ∷ sh2) rest code' sl in
    omega arith
deeper t n ts out f sh _ code' (uses {sh2 = sh2} {rest = rest} x is ri sl) =
    let h = deeper t n ts out f sh2 rest code' sl in
    omega arith
deeper t n ts out f _ _ _ (S.copies {sh = sh} {rest = rest} {rest' = rest'} x y g is co la sl) =
    let h = deeper t n ts out g (Some x ∷ sh) rest rest' sl in
    omega arith
deeper t n ts out f _ code _ (saves {sh = sh} {code' = code'} x g lt co sl) =
    let h = deeper t n ts out g sh code code' sl in
    omega arith
deeper t n ts out f sh code code' (narrows g co sl) = deeper t n ts out g sh code code' sl
deeper t n ts out f sh code code' (forgets pl sl) =
    let h = deeper t n ts out f [] code code' sl in
    omega arith
deeper t n ts out f sh _ _ (S.leaps l pl re) = omega arith
deeper t n ts out f sh _ _ (S.leaps_if {rest = rest} {rest' = rest'} l pl re sl) =
    let h = deeper t n ts out f [] rest rest' sl in
    omega arith
deeper t n ts out f sh _ _ (S.leaps_by es l pl re) = omega arith
deeper t n ts out f sh _ _ (S.returns_here pl) = omega arith
deeper t n ts out f sh _ _ S.halts = omega arith
deeper t n ts out f sh _ _ (S.calls {rest = rest} {rest' = rest'} x pl ac sl) =
    let h = deeper t n ts out f [] rest rest' sl in
    omega arith
deeper t n ts out f sh _ _ (S.calls_by {rest = rest} {rest' = rest'} x pl ac sl) =
    let h = deeper t n ts out f [] rest rest' sl in
    omega arith
deeper t n ts out f sh _ _ (S.blocks {body = body} {body' = body'} {rest = rest} {rest' = rest'} r g pl sb sl) =
    let h = deeper t n ts out g [] rest rest' sl in
    let h2 = deeper t _ (g ∷ ts) g f [] body body' sb in
    omega arith
deeper t n ts out f sh _ _ (S.loops {body = body} {body' = body'} {rest = rest} {rest' = rest'} r head g pl co sb sl) =
    let h = deeper t n ts out g [] rest rest' sl in
    let h2 = deeper t _ (head ∷ ts) g head [] body body' sb in
    omega arith
deeper t n ts out f sh _ _ (S.decides {a = a} {a' = a'} {b = b} {b' = b'} {rest = rest} {rest' = rest'} r g pl sa sb sl) =
    let h = deeper t n ts out g [] rest rest' sl in
    let h2 = deeper t _ (g ∷ ts) g f [] a a' sa in
    let h3 = deeper t _ (g ∷ ts) g f [] b b' sb in
    omega arith

pub others : NoOthers
others P t n ts out f sh _ _ w v (ends co pl) h = tt
others P t n ts out f sh _ _ w v (does {sh2 = sh2} {rest = rest} {rest' = rest'} b ta sl) h = (h.0, others P t n ts out f _ rest rest' w v sl h.1)
others P t n ts out f sh _ _ w v (S.gets {rest = rest} {rest' = rest'} x fr sl) h = (h.0, others P t n ts out f _ rest rest' w v sl h.1)
others P t n ts out f sh _ _ w v (S.sets {sh2 = sh2} {rest = rest} {rest' = rest'} x g co ta la sl) h = (h.0, others P t n ts out g sh2 rest rest' w v sl h.1)
others P t n ts out f sh _ _ w v (S.tees {sh2 = sh2} {rest = rest} {rest' = rest'} x g co ta la sl) h = (h.0, others P t n ts out g _ rest rest' w v sl h.1)
others P t n ts out f sh _ code' w v (keeps {sh2 = sh2} {rest = rest} x g is lt co gx ta la sl) h = others P t n ts out g (Some x ∷ sh2) rest code' w v sl h.1
others P t n ts out f sh _ code' w v (uses {sh2 = sh2} {rest = rest} x is ri sl) h = others P t n ts out f sh2 rest code' w v sl h.1
others P t n ts out f _ _ _ w v (S.copies {sh = sh} {rest = rest} {rest' = rest'} x y g is co la sl) h = (v y (h.1).0, others P t n ts out g (Some x ∷ sh) rest rest' w v sl (h.1).1)
others P t n ts out f _ code _ w v (saves {sh = sh} {code' = code'} x g lt co sl) h = (w x lt, others P t n ts out g sh code code' w v sl h)
others P t n ts out f sh code code' w v (narrows g co sl) h = others P t n ts out g sh code code' w v sl h
others P t n ts out f sh code code' w v (forgets pl sl) h = others P t n ts out f [] code code' w v sl h
others P t n ts out f sh _ _ w v (S.leaps l pl re) h = h
others P t n ts out f sh _ _ w v (S.leaps_if {rest = rest} {rest' = rest'} l pl re sl) h = (h.0, others P t n ts out f [] rest rest' w v sl h.1)
others P t n ts out f sh _ _ w v (S.leaps_by es l pl re) h = h
others P t n ts out f sh _ _ w v (S.returns_here pl) h = h
others P t n ts out f sh _ _ w v S.halts h = h
others P t n ts out f sh _ _ w v (S.calls {rest = rest} {rest' = rest'} x pl ac sl) h = (h.0, others P t n ts out f [] rest rest' w v sl h.1)
others P t n ts out f sh _ _ w v (S.calls_by {rest = rest} {rest' = rest'} x pl ac sl) h = (h.0, others P t n ts out f [] rest rest' w v sl h.1)
others P t n ts out f sh _ _ w v (S.blocks {body = body} {body' = body'} {rest = rest} {rest' = rest'} r g pl sb sl) h =
    (others P t _ (g ∷ ts) g f [] body body' w v sb h.0, others P t n ts out g [] rest rest' w v sl h.1)
others P t n ts out f sh _ _ w v (S.loops {body = body} {body' = body'} {rest = rest} {rest' = rest'} r head g pl co sb sl) h =
    (others P t _ (head ∷ ts) g head [] body body' w v sb h.0, others P t n ts out g [] rest rest' w v sl h.1)
others P t n ts out f sh _ _ w v (S.decides {a = a} {a' = a'} {b = b} {b' = b'} {rest = rest} {rest' = rest'} r g pl sa sb sl) h =
    (others P t _ (g ∷ ts) g f [] a a' w v sa h.0, others P t _ (g ∷ ts) g f [] b b' w v sb h.1, others P t n ts out g [] rest rest' w v sl h.2)

pub same_calls : SameCalls
unfolding calls_of
same_calls t n ts out f sh _ _ (ends co pl) = refl
same_calls t n ts out f sh _ _ (does {sh2 = sh2} {rest = rest} {rest' = rest'} b ta sl) = same_calls t n ts out f _ rest rest' sl
same_calls t n ts out f sh _ _ (S.gets {rest = rest} {rest' = rest'} x fr sl) = same_calls t n ts out f _ rest rest' sl
same_calls t n ts out f sh _ _ (S.sets {sh2 = sh2} {rest = rest} {rest' = rest'} x g co ta la sl) = same_calls t n ts out g sh2 rest rest' sl
same_calls t n ts out f sh _ _ (S.tees {sh2 = sh2} {rest = rest} {rest' = rest'} x g co ta la sl) = same_calls t n ts out g _ rest rest' sl
same_calls t n ts out f sh _ code' (keeps {sh2 = sh2} {rest = rest} x g is lt co gx ta la sl) = same_calls t n ts out g (Some x ∷ sh2) rest code' sl
same_calls t n ts out f sh _ code' (uses {sh2 = sh2} {rest = rest} x is ri sl) = same_calls t n ts out f sh2 rest code' sl
same_calls t n ts out f _ _ _ (S.copies {sh = sh} {rest = rest} {rest' = rest'} x y g is co la sl) = same_calls t n ts out g (Some x ∷ sh) rest rest' sl
same_calls t n ts out f _ code _ (saves {sh = sh} {code' = code'} x g lt co sl) = same_calls t n ts out g sh code code' sl
same_calls t n ts out f sh code code' (narrows g co sl) = same_calls t n ts out g sh code code' sl
same_calls t n ts out f sh code code' (forgets pl sl) = same_calls t n ts out f [] code code' sl
same_calls t n ts out f sh _ _ (S.leaps l pl re) = refl
same_calls t n ts out f sh _ _ (S.leaps_if {rest = rest} {rest' = rest'} l pl re sl) = same_calls t n ts out f [] rest rest' sl
same_calls t n ts out f sh _ _ (S.leaps_by es l pl re) = refl
same_calls t n ts out f sh _ _ (S.returns_here pl) = refl
same_calls t n ts out f sh _ _ S.halts = refl
same_calls t n ts out f sh _ _ (S.calls {rest = rest} {rest' = rest'} x pl ac sl) = ap (λ cs. direct x ∷ cs) (same_calls t n ts out f [] rest rest' sl)
same_calls t n ts out f sh _ _ (S.calls_by {rest = rest} {rest' = rest'} x pl ac sl) = ap (λ cs. indirect x ∷ cs) (same_calls t n ts out f [] rest rest' sl)
same_calls t n ts out f sh _ _ (S.blocks {body = body} {body' = body'} {rest = rest} {rest' = rest'} r g pl sb sl) =
    let e = same_calls t _ (g ∷ ts) g f [] body body' sb in
    let e2 = same_calls t n ts out g [] rest rest' sl in cc
same_calls t n ts out f sh _ _ (S.loops {body = body} {body' = body'} {rest = rest} {rest' = rest'} r head g pl co sb sl) =
    let e = same_calls t _ (head ∷ ts) g head [] body body' sb in
    let e2 = same_calls t n ts out g [] rest rest' sl in cc
same_calls t n ts out f sh _ _ (S.decides {a = a} {a' = a'} {b = b} {b' = b'} {rest = rest} {rest' = rest'} r g pl sa sb sl) =
    let e = same_calls t _ (g ∷ ts) g f [] a a' sa in
    let e1 = same_calls t _ (g ∷ ts) g f [] b b' sb in
    let e2 = same_calls t n ts out g [] rest rest' sl in cc
