-- The branches of a flat function stay inside its own block, and those of slim pieces beside it too.
use Rattle.std.proofs.Common.{◌≡◌, ℕ, suc, ◌+◌, ◌-◌, ◌≤◌, ◌<◌, List, [], ◌∷◌, ◌++◌, length, drop, Option, Some, None, Bool, true, false, refl, arith}
use Rattle.std.specs.Prelude.{slice_get, if◌then◌else◌, ◌||◌}
use Rattle.std.proofs.lemmas.Option.{slice_get_within}
use Rattle.wa_types.specs.declared.values.ValType.{ValType}
use Rattle.wa_types.specs.Modules.{around, defined_at}
use Rattle.wa_types.specs.Pausing.{Callee}
use Rattle.wa_types.specs.Points.{after}
use Rattle.wa_types.specs.Syntax.{basic, local_get, local_set, local_tee, br, br_if, br_table, return, unreachable, call, call_indirect, Code, done, plain, nest, branch, Func, Module}
use Rattle.wa_types.specs.Typing.{Around, listed, sig, label, jump, may_jump, jumps, Takes}
use Rattle.wa_types.specs.Validity.{Valid}
use Rattle.wa_model.specs.declared.flat.Operand.{Operand}
use Rattle.wa_model.specs.Store.{gives}
use Rattle.run_theory.specs.Flat.{Stmts, no_more, computes, copies, calls, leaps, leaps_if, leaps_by, nests, decides, halts, followed_by, got, all_got, set_to, slots_got, last_of, code_of}
use Rattle.flat_laws.specs.Flatten.{Names, names, carry_to, carry_all, arrive, flat, flattened}
use Rattle.flat_laws.specs.Placed.{Good}
use Rattle.flat_laws.proofs.TableLabels.{AllLabels, table_typed}
use Rattle.flat_laws.proofs.ValidModules.{good_func}
use Rattle.guard_form.specs.Functions.{Calls, CallsIn, LabelsIn, PiecesCall, PiecesIn, Room, deeper}
use Rattle.guard_form.proofs.PiecesInside.{LeapsIn, both, both_pieces, pieces_inside}
use Rattle.guard_form.specs.Pieces.{Units, no_unit, call_unit, nest_unit, if_unit, call_total, first_piece, holds_call, numbered, piece_call, unit_call, units}
use Rattle.guard_form.proofs.Insides.{in_any, ins_then}
use Rattle.slim_laws.specs.Slim as S
use Rattle.slim_laws.specs.Slim.{Free, StackShape, Slims, Terms, more, ends, does, keeps, uses, saves, narrows, forgets}
use Rattle.slim_laws.specs.SlimModule.{Pieces, SlimPieces, flat_terms}
use Rattle.slim_laws.specs.SlimUnits.{SlimUnits, untouched, alone, before_call, before_block, before_loop, before_if, before_kept_if}

-- ---- statements

leaps_carry : (k : ℕ) (n : Names) (d : ℕ) (o : Option (Option ValType)) (ops : List ValType) (rest : Stmts) → LeapsIn k rest → LeapsIn k (carry_to n d o ops rest)
leaps_carry k n d None ops rest h = h
leaps_carry k n d (Some None) ops rest h = h
leaps_carry k n d (Some (Some t)) ops rest h = h

leaps_carries : (k : ℕ) (n : Names) (ls : List (Option ValType)) (ops : List ValType) (js : List ℕ) (rest : Stmts) → LeapsIn k rest → LeapsIn k (carry_all n ls ops js rest)
leaps_carries k n ls ops [] rest h = h
leaps_carries k n ls ops (j ∷ js) rest h = leaps_carry k n (length ls - suc j) (slice_get ls j) ops (carry_all n ls ops js rest) (leaps_carries k n ls ops js rest h)

leaps_arrive : (k : ℕ) (n : Names) (d : ℕ) (r : Option ValType) (ops : List ValType) (rest : Stmts) → LeapsIn k rest → LeapsIn k (arrive n d r ops rest)
leaps_arrive k n d None ops rest h = h
leaps_arrive k n d (Some t) ops rest h = h

-- the labels that types ask for are there
leap_there : (ls : List (Option ValType)) (l : ℕ) (own mids : List ValType) → Takes (jump (slice_get ls l)) own mids → l < length ls
leap_there ls l own mids = by (slice_get ls l) refl
  where
    by : (o : Option (Option ValType)) → slice_get ls l ≡ o → Takes (jump o) own mids → l < length ls
    by None e t = absurd t
    by (Some r) e t = slice_get_within ls l r e

leap_if_there : (ls : List (Option ValType)) (l : ℕ) (own mids : List ValType) → Takes (may_jump (slice_get ls l)) own mids → l < length ls
leap_if_there ls l own mids = by (slice_get ls l) refl
  where
    by : (o : Option (Option ValType)) → slice_get ls l ≡ o → Takes (may_jump o) own mids → l < length ls
    by None e t = absurd t
    by (Some r) e t = slice_get_within ls l r e

leap_by_there : (ls : List (Option ValType)) (js : List ℕ) (l : ℕ) (own mids : List ValType) → Takes (jumps ls js (slice_get ls l)) own mids → LabelsIn (Some (length ls)) js × (l < length ls)
leap_by_there ls js l own mids = by (slice_get ls l) refl
  where
    each : (r : Option ValType) (js : List ℕ) → AllLabels ls r js → LabelsIn (Some (length ls)) js
    each r [] h = tt
    each r (j ∷ js) h = (slice_get_within ls j r h.0, each r js h.1)

    by : (o : Option (Option ValType)) → slice_get ls l ≡ o → Takes (jumps ls js o) own mids → LabelsIn (Some (length ls)) js × (l < length ls)
    by None e t = absurd t
    by (Some r) e t = (each r js (table_typed ls js r own mids t).0, slice_get_within ls l r e)

module _ (n : Names) (c : Around) where
  -- flat statements, with whatever operands they begin
  leaps_flat : (ls : List (Option ValType)) (code : Code) (outs own low ops : List ValType) → 1 ≤ length ls → Good n c ls code outs own low → LeapsIn (length ls) (flat n c ls code ops)
  unfolding flat Good
  leaps_flat ls done outs own low ops one g = leaps_carry (length ls) n (length ls - 1) (slice_get ls 0) ops no_more tt
  leaps_flat ls (plain (basic b) rest) outs own low ops one g = (((tt, tt), tt), leaps_flat ls rest outs g.1 low (after (sig c ls (basic b)) ops) one g.3)
  leaps_flat ls (plain (local_get x) rest) outs own low ops one g = leaps_flat ls rest outs g.1 low (after (sig c ls (local_get x)) ops) one g.3
  leaps_flat ls (plain (local_set x) rest) outs own low ops one g = leaps_flat ls rest outs g.1 low (after (sig c ls (local_set x)) ops) one g.3
  leaps_flat ls (plain (local_tee x) rest) outs own low ops one g = leaps_flat ls rest outs g.1 low (after (sig c ls (local_tee x)) ops) one g.3
  leaps_flat ls (plain (br l) rest) outs own low ops one g =
      leaps_carry (length ls) n (length ls - suc l) (slice_get ls l) ops (leaps l no_more) (leap_there ls l own g.1 g.2, tt)
  leaps_flat ls (plain (br_if l) rest) outs own low ops one g =
      leaps_carry (length ls) n (length ls - suc l) (slice_get ls l) (drop 1 ops) _ (leap_if_there ls l own g.1 g.2, leaps_flat ls rest outs g.1 low (after (sig c ls (br_if l)) ops) one g.3)
  leaps_flat ls (plain (br_table js l) rest) outs own low ops one g =
      leaps_carries (length ls) n ls (drop 1 ops) js _ (leaps_carry (length ls) n (length ls - suc l) (slice_get ls l) (drop 1 ops) _ (leap_by_there ls js l own g.1 g.2, tt))
  leaps_flat ls (plain return rest) outs own low ops one g =
      leaps_carry (length ls) n (length ls - suc (length ls - 1)) (slice_get ls (length ls - 1)) ops (leaps (length ls - 1) no_more) (omega arith, tt)
  leaps_flat ls (plain unreachable rest) outs own low ops one g = tt
  leaps_flat ls (plain (call x) rest) outs own low ops one g = (((tt, tt), tt), leaps_flat ls rest outs g.1 low (after (sig c ls (call x)) ops) one g.3)
  leaps_flat ls (plain (call_indirect x) rest) outs own low ops one g = (((tt, tt), tt), leaps_flat ls rest outs g.1 low (after (sig c ls (call_indirect x)) ops) one g.3)
  leaps_flat ls (nest s r body rest) outs own low ops one g = (
    leaps_flat (label s r ∷ ls) body (listed r) [] (own ++ low) ops (omega arith) g.2,
    leaps_arrive (length ls) n (length ls) (label s r) ops (flat n c ls rest (listed r ++ ops)) (leaps_flat ls rest outs (listed r ++ own) low (listed r ++ ops) one g.3),
  )
  leaps_flat ls (branch r a b rest) outs own low ops one g = (
    leaps_flat (r ∷ ls) a (listed r) [] (g.2 ++ low) (drop 1 ops) (omega arith) g.4,
    leaps_flat (r ∷ ls) b (listed r) [] (g.2 ++ low) (drop 1 ops) (omega arith) g.5,
    leaps_arrive (length ls) n (length ls) r (drop 1 ops) (flat n c ls rest (listed r ++ drop 1 ops)) (leaps_flat ls rest outs (listed r ++ g.2) low (listed r ++ drop 1 ops) one g.6),
  )

-- ---- slim code beside

module _ (t : Terms) (P : Callee → Type 0) where
  slim_in : (r : Room) (n : ℕ) (ts : List Free) (out f : Free) (sh : StackShape) (code code' : Code) → Slims t n ts out f sh code code' → CallsIn P r code → CallsIn P r code'
  slim_in r n ts out f sh _ _ (ends co pl) h = tt
  slim_in r n ts out f sh _ _ (does {sh2 = sh2} {rest = rest} {rest' = rest'} b ta sl) h = (h.0, slim_in r n ts out f (more (gives b) sh2) rest rest' sl h.1)
  slim_in r n ts out f sh _ _ (S.gets {rest = rest} {rest' = rest'} x fr sl) h = (h.0, slim_in r n ts out f (None ∷ sh) rest rest' sl h.1)
  slim_in r n ts out f sh _ _ (S.sets {sh2 = sh2} {rest = rest} {rest' = rest'} x g co ta la sl) h = (h.0, slim_in r n ts out g sh2 rest rest' sl h.1)
  slim_in r n ts out f sh _ _ (S.tees {sh2 = sh2} {rest = rest} {rest' = rest'} x g co ta la sl) h = (h.0, slim_in r n ts out g (None ∷ sh2) rest rest' sl h.1)
  slim_in r n ts out f sh _ code' (keeps {sh2 = sh2} {rest = rest} x g is lt co gx ta la sl) h = slim_in r n ts out g (Some x ∷ sh2) rest code' sl h.1
  slim_in r n ts out f sh _ code' (uses {sh2 = sh2} {rest = rest} x is ri sl) h = slim_in r n ts out f sh2 rest code' sl h.1
  slim_in r n ts out f _ _ _ (S.copies {sh = sh} {rest = rest} {rest' = rest'} x y g is co la sl) h = ((tt, tt), slim_in r n ts out g (Some x ∷ sh) rest rest' sl (h.1).1)
  slim_in r n ts out f _ code _ (saves {sh = sh} {code' = code'} x g lt co sl) h = ((tt, tt), slim_in r n ts out g sh code code' sl h)
  slim_in r n ts out f sh code code' (narrows g co sl) h = slim_in r n ts out g sh code code' sl h
  slim_in r n ts out f sh code code' (forgets pl sl) h = slim_in r n ts out f [] code code' sl h
  slim_in r n ts out f sh _ _ (S.leaps l pl re) h = h
  slim_in r n ts out f sh _ _ (S.leaps_if {rest = rest} {rest' = rest'} l pl re sl) h = (h.0, slim_in r n ts out f [] rest rest' sl h.1)
  slim_in r n ts out f sh _ _ (S.leaps_by es l pl re) h = h
  slim_in r n ts out f sh _ _ (S.returns_here pl) h = h
  slim_in r n ts out f sh _ _ S.halts h = h
  slim_in r n ts out f sh _ _ (S.calls {rest = rest} {rest' = rest'} x pl ac sl) h = (h.0, slim_in r n ts out f [] rest rest' sl h.1)
  slim_in r n ts out f sh _ _ (S.calls_by {rest = rest} {rest' = rest'} x pl ac sl) h = (h.0, slim_in r n ts out f [] rest rest' sl h.1)
  slim_in r n ts out f sh _ _ (S.blocks {body = body} {body' = body'} {rest = rest} {rest' = rest'} q g pl sb sl) h =
      (slim_in (deeper r) _ (g ∷ ts) g f [] body body' sb h.0, slim_in r n ts out g [] rest rest' sl h.1)
  slim_in r n ts out f sh _ _ (S.loops {body = body} {body' = body'} {rest = rest} {rest' = rest'} q head g pl co sb sl) h =
      (slim_in (deeper r) _ (head ∷ ts) g head [] body body' sb h.0, slim_in r n ts out g [] rest rest' sl h.1)
  slim_in r n ts out f sh _ _ (S.decides {a = a} {a' = a'} {b = b} {b' = b'} {rest = rest} {rest' = rest'} q g pl sa sb sl) h =
      (slim_in (deeper r) _ (g ∷ ts) g f [] a a' sa h.0, slim_in (deeper r) _ (g ∷ ts) g f [] b b' sb h.1, slim_in r n ts out g [] rest rest' sl h.2)

  pub slim_pieces_in : (r : Room) (n : ℕ) (ts : List Free) (out f : Free) (sh : StackShape) (first first' : Code) (us us' : Units) → SlimUnits t n ts out f sh first us first' us'
      → CallsIn P r first → PiecesIn P r us
      → CallsIn P r first' × PiecesIn P r us'
  slim_pieces_in r n ts out _ _ first _ us _ untouched h k = (h, k)
  slim_pieces_in r n ts out f sh first first' _ _ (alone sl) h k = (slim_in r n ts out f sh first first' sl h, tt)
  slim_pieces_in r n ts out f sh first first' _ _ (before_call {sh2 = sh2} {behind = behind} {behind' = behind'} {rest = rest} {rest' = rest'} {to = to} {to' = to'} slots x g h2 go sl hs hf re
      sg on) h k =
      let e = slim_pieces_in r n ts out h2 sh2 behind behind' rest rest' on k.0 k.1 in
      (slim_in r _ ts g f sh first first' sl h, (e.0, e.1))
  slim_pieces_in r n ts out f sh first first' _ _ (before_block {inner = inner} {inner' = inner'} {behind = behind} {behind' = behind'} {body = body} {body' = body'} {rest = rest} {rest' =
      rest'} g h2 go sl ib on) h k =
      let i = slim_pieces_in (deeper r) _ (h2 ∷ ts) h2 g [] inner inner' body body' ib k.0 k.1 in
      let e = slim_pieces_in r n ts out h2 [] behind behind' rest rest' on k.2 k.3 in
      (slim_in r _ ts g f sh first first' sl h, (i.0, i.1, e.0, e.1))
  slim_pieces_in r n ts out f sh first first' _ _ (before_loop {inner = inner} {inner' = inner'} {behind = behind} {behind' = behind'} {body = body} {body' = body'} {rest = rest} {rest' =
      rest'} g head h2 go sl co ib on) h k =
      let i = slim_pieces_in (deeper r) _ (head ∷ ts) h2 head [] inner inner' body body' ib k.0 k.1 in
      let e = slim_pieces_in r n ts out h2 [] behind behind' rest rest' on k.2 k.3 in
      (slim_in r _ ts g f sh first first' sl h, (i.0, i.1, e.0, e.1))
  slim_pieces_in r n ts out f sh first first' _ _ (before_if {fa = fa} {fa' = fa'} {fb = fb} {fb' = fb'} {behind = behind} {behind' = behind'} {a = a} {a' = a'} {b = b} {b' = b'} {rest =
      rest} {rest' = rest'} o g l h2 go sl hc co ia ib on) h k =
      let i = slim_pieces_in (deeper r) _ (h2 ∷ ts) h2 l [] fa fa' a a' ia k.0 k.1 in
      let j = slim_pieces_in (deeper r) _ (h2 ∷ ts) h2 l [] fb fb' b b' ib k.2 k.3 in
      let e = slim_pieces_in r n ts out h2 [] behind behind' rest rest' on k.4 k.5 in
      (slim_in r _ ts g f sh first first' sl h, (i.0, i.1, j.0, j.1, e.0, e.1))
  slim_pieces_in r n ts out f sh first first' _ _ (before_kept_if {fa = fa} {fa' = fa'} {fb = fb} {fb' = fb'} {behind = behind} {behind' = behind'} {a = a} {a' = a'} {b = b} {b' = b'}
      {rest = rest} {rest' = rest'} o g h2 go sl ia ib on) h k =
      let i = slim_pieces_in (deeper r) _ (h2 ∷ ts) h2 g [] fa fa' a a' ia k.0 k.1 in
      let j = slim_pieces_in (deeper r) _ (h2 ∷ ts) h2 g [] fb fb' b b' ib k.2 k.3 in
      let e = slim_pieces_in r n ts out h2 [] behind behind' rest rest' on k.4 k.5 in
      (slim_in r _ ts g f sh (followed_by first (got o done)) first' sl (ins_then P r first (got o done) h (in_any P r (Some o) done tt)), (i.0, i.1, j.0, j.1, e.0, e.1))

-- ---- a function

-- THE SLIM PIECES of a flat function: where those of its statements call nothing else, they don't, and no branch leads out of the function's own block.
pub pieces_stay : (m : Module) (places : List ℕ) (x : ℕ) (f : Func) (p : Pieces) (P : Callee → Type 0) → Valid m → defined_at m x ≡ Some f → SlimPieces m places x f p
    → Calls P (first_piece places 0 (flattened m x f).body) → PiecesCall P (units places 0 (flattened m x f).body)
    → CallsIn P (Some 1) p.first × PiecesIn P (Some 1) p.units
pieces_stay m ps x f p P valid is sp first rest =
    let body = (flattened m x f).body in
    let leap = leaps_flat (names m f) (around m f) ((around m f).result ∷ []) f.body (listed (around m f).result) [] [] [] (omega arith) (good_func m f valid x is) in
    let stay = pieces_inside ps 1 0 body leap in
    slim_pieces_in (flat_terms m ps x f) P (Some 1) 0 (sp.out ∷ []) sp.out sp.here [] (first_piece ps 0 body) p.first (units ps 0 body) p.units sp.slim
    (both P (Some 1) (first_piece ps 0 body) first stay.0) (both_pieces P (Some 1) (units ps 0 body) rest stay.1)
