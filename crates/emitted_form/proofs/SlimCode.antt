-- What slim code and slim units have of the numbers of flat ones.
use Rattle.std.proofs.Common.{List, [], ◌∷◌, Some, None, ℕ}
use Rattle.wa_types.specs.Syntax.{Code, done}
use Rattle.run_theory.specs.Flat.{followed_by, got}
use Rattle.wa_model.specs.Store.{gives}
use Rattle.guard_form.specs.Pieces.{Units}
use Rattle.slim_laws.specs.Slim as S
use Rattle.slim_laws.specs.Slim.{Free, StackShape, Slims, Terms, more, ends, does, keeps, uses, saves, narrows, forgets}
use Rattle.slim_laws.specs.SlimUnits.{SlimUnits, untouched, alone, before_call, before_block, before_loop, before_if, before_kept_if}
use Rattle.emitted_form.proofs.BasicCode.{followed_fits, got_fits, BasicsFit, UnitsBasic}

module _ (t : Terms) where
  pub code_slim : (n : ℕ) (ts : List Free) (out f : Free) (sh : StackShape) (code code' : Code) → Slims t n ts out f sh code code' → BasicsFit code → BasicsFit code'
  code_slim n ts out f sh _ _ (ends co pl) h = tt
  code_slim n ts out f sh _ _ (does {sh2 = sh2} {rest = rest} {rest' = rest'} b ta sl) h = (h.0, code_slim n ts out f (more (gives b) sh2) rest rest' sl h.1)
  code_slim n ts out f sh _ _ (S.gets {rest = rest} {rest' = rest'} x fr sl) h = (h.0, code_slim n ts out f (None ∷ sh) rest rest' sl h.1)
  code_slim n ts out f sh _ _ (S.sets {sh2 = sh2} {rest = rest} {rest' = rest'} x g co ta la sl) h = (h.0, code_slim n ts out g sh2 rest rest' sl h.1)
  code_slim n ts out f sh _ _ (S.tees {sh2 = sh2} {rest = rest} {rest' = rest'} x g co ta la sl) h = (h.0, code_slim n ts out g (None ∷ sh2) rest rest' sl h.1)
  code_slim n ts out f sh _ code' (keeps {sh2 = sh2} {rest = rest} x g is lt co gx ta la sl) h = code_slim n ts out g (Some x ∷ sh2) rest code' sl h.1
  code_slim n ts out f sh _ code' (uses {sh2 = sh2} {rest = rest} x is ri sl) h = code_slim n ts out f sh2 rest code' sl h.1
  code_slim n ts out f _ _ _ (S.copies {sh = sh} {rest = rest} {rest' = rest'} x y g is co la sl) h = (tt, code_slim n ts out g (Some x ∷ sh) rest rest' sl (h.1).1)
  code_slim n ts out f _ code _ (saves {sh = sh} {code' = code'} x g lt co sl) h = (tt, code_slim n ts out g sh code code' sl h)
  code_slim n ts out f sh code code' (narrows g co sl) h = code_slim n ts out g sh code code' sl h
  code_slim n ts out f sh code code' (forgets pl sl) h = code_slim n ts out f [] code code' sl h
  code_slim n ts out f sh _ _ (S.leaps l pl re) h = h
  code_slim n ts out f sh _ _ (S.leaps_if {rest = rest} {rest' = rest'} l pl re sl) h = (h.0, code_slim n ts out f [] rest rest' sl h.1)
  code_slim n ts out f sh _ _ (S.leaps_by es l pl re) h = h
  code_slim n ts out f sh _ _ (S.returns_here pl) h = h
  code_slim n ts out f sh _ _ S.halts h = h
  code_slim n ts out f sh _ _ (S.calls {rest = rest} {rest' = rest'} x pl ac sl) h = (h.0, code_slim n ts out f [] rest rest' sl h.1)
  code_slim n ts out f sh _ _ (S.calls_by {rest = rest} {rest' = rest'} x pl ac sl) h = (h.0, code_slim n ts out f [] rest rest' sl h.1)
  code_slim n ts out f sh _ _ (S.blocks {body = body} {body' = body'} {rest = rest} {rest' = rest'} r g pl sb sl) h =
      (code_slim _ (g ∷ ts) g f [] body body' sb h.0, code_slim n ts out g [] rest rest' sl h.1)
  code_slim n ts out f sh _ _ (S.loops {body = body} {body' = body'} {rest = rest} {rest' = rest'} r head g pl co sb sl) h =
      (code_slim _ (head ∷ ts) g head [] body body' sb h.0, code_slim n ts out g [] rest rest' sl h.1)
  code_slim n ts out f sh _ _ (S.decides {a = a} {a' = a'} {b = b} {b' = b'} {rest = rest} {rest' = rest'} r g pl sa sb sl) h =
      (code_slim _ (g ∷ ts) g f [] a a' sa h.0, code_slim _ (g ∷ ts) g f [] b b' sb h.1, code_slim n ts out g [] rest rest' sl h.2)

  pub units_basic : (n : ℕ) (ts : List Free) (out f : Free) (sh : StackShape) (first first' : Code) (us us' : Units) → SlimUnits t n ts out f sh first us first' us' → BasicsFit first → UnitsBasic us
      → BasicsFit first' × UnitsBasic us'
  units_basic n ts out _ _ first _ us _ untouched h k = (h, k)
  units_basic n ts out f sh first first' _ _ (alone sl) h k = (code_slim n ts out f sh first first' sl h, tt)
  units_basic n ts out f sh first first' _ _ (before_call {sh2 = sh2} {behind = behind} {behind' = behind'} {rest = rest} {rest' = rest'} {to = to} {to' = to'} slots x g h2 go sl hs hf re sg on) h k =
      let e = units_basic n ts out h2 sh2 behind behind' rest rest' on k.0 k.1 in
      (code_slim _ ts g f sh first first' sl h, (e.0, e.1))
  units_basic n ts out f sh first first' _ _ (before_block {inner = inner} {inner' = inner'} {behind = behind} {behind' = behind'} {body = body} {body' = body'}
      {rest = rest} {rest' = rest'} g h2 go sl ib on) h k =
      let i = units_basic _ (h2 ∷ ts) h2 g [] inner inner' body body' ib k.0 k.1 in
      let e = units_basic n ts out h2 [] behind behind' rest rest' on k.2 k.3 in
      (code_slim _ ts g f sh first first' sl h, (i.0, i.1, e.0, e.1))
  units_basic n ts out f sh first first' _ _ (before_loop {inner = inner} {inner' = inner'} {behind = behind} {behind' = behind'} {body = body} {body' = body'}
      {rest = rest} {rest' = rest'} g head h2 go sl co ib on) h k =
      let i = units_basic _ (head ∷ ts) h2 head [] inner inner' body body' ib k.0 k.1 in
      let e = units_basic n ts out h2 [] behind behind' rest rest' on k.2 k.3 in
      (code_slim _ ts g f sh first first' sl h, (i.0, i.1, e.0, e.1))
  units_basic n ts out f sh first first' _ _ (before_if {fa = fa} {fa' = fa'} {fb = fb} {fb' = fb'} {behind = behind} {behind' = behind'} {a = a} {a' = a'} {b = b} {b' = b'}
      {rest = rest} {rest' = rest'} o g l h2 go sl hc co ia ib on) h k =
      let i = units_basic _ (h2 ∷ ts) h2 l [] fa fa' a a' ia k.1 k.2 in
      let j = units_basic _ (h2 ∷ ts) h2 l [] fb fb' b b' ib k.3 k.4 in
      let e = units_basic n ts out h2 [] behind behind' rest rest' on k.5 k.6 in
      (code_slim _ ts g f sh first first' sl h, (k.0, i.0, i.1, j.0, j.1, e.0, e.1))
  units_basic n ts out f sh first first' _ _ (before_kept_if {fa = fa} {fa' = fa'} {fb = fb} {fb' = fb'} {behind = behind} {behind' = behind'} {a = a} {a' = a'} {b = b} {b' = b'}
      {rest = rest} {rest' = rest'} o g h2 go sl ia ib on) h k =
      let i = units_basic _ (h2 ∷ ts) h2 g [] fa fa' a a' ia k.1 k.2 in
      let j = units_basic _ (h2 ∷ ts) h2 g [] fb fb' b b' ib k.3 k.4 in
      let e = units_basic n ts out h2 [] behind behind' rest rest' on k.5 k.6 in
      (code_slim _ ts g f sh (followed_by first (got o done)) first' sl (followed_fits first (got o done) h (got_fits o done k.0 tt)), (tt, i.0, i.1, j.0, j.1, e.0, e.1))
