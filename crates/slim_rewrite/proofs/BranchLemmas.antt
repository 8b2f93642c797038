-- Branches and calls in slim code.
use Rattle.std.proofs.Common.{◌≡◌, ℕ, zero, suc, ◌+◌, ◌<◌, List, [], ◌∷◌, ◌++◌, length, get_or, map, take, drop, Option, Some, None, Bool, true, false, not, refl, sym, ap, ◌∙◌, subst, arith}
use Rattle.std.proofs.lemmas.List.{drop_all, take_more, drop-append-le, take-append-le}
use Rattle.std.proofs.Math.Seq.{take-length}
use Rattle.std.specs.Prelude.{◌&&◌}
use Rattle.std.specs.declared.vec.Vec.{Vec}
use Rattle.std.specs.declared.alloc.Global.{Global}
use Rattle.wa_types.specs.declared.instrs.Instr.{Instr}
use Rattle.wa_types.specs.Pausing.{calls_of}
use Rattle.wa_types.specs.Syntax.{br, br_if, br_table, unreachable, call, call_indirect, local_get, Code, done, plain}
use Rattle.wa_types.specs.View.{onto}
use Rattle.wa_model.specs.declared.flat.Operand.{Operand}
use Rattle.wa_model.specs.declared.flat.Operand.TheVariants.{Local}
use Rattle.run_theory.specs.Flat.{all_got, followed_by, got, set_to, slots_got}
use Rattle.run_theory.specs.FlatFits.{IsCallCode}
use Rattle.flow_rewrite.specs.Putting.{Puts}
use Rattle.slim_laws.specs.Emit.{elem, free_by}
use Rattle.slim_laws.specs.Slim as S
use Rattle.slim_laws.specs.Slim.{Free, Covers, Held, more, keeps, takes_same, lacks_all, Plainly, plainly, plainly_held, Reaches, Terms, Slims}
use Rattle.slim_laws.proofs.EmittedCode as E
use Rattle.slim_rewrite.specs.declared.stack.Walk.{Walk}
use Rattle.slim_rewrite.specs.Walking.{kept_onto, unstacked, free_at, shape_at, Alike, Among, Ended, Flushed, Good, KeptTold, Stepped, Taken, TakenBy, from_stack, from_slots}
use Rattle.slim_rewrite.proofs.StackLemmas.{cut_below, slot_same}
use Rattle.slim_rewrite.proofs.StepLemmas.{Way, in_place, put_back, elem_take, false_by, flushed_slim, taken_slim, slots_of, small_of, alike_piece, alike_same, alike_then, with_piece}

-- ---- arguments

map_join : (xs ys : List ℕ) → map Local (xs ++ ys) ≡ map Local xs ++ map Local ys
map_join [] ys = refl
map_join (x ∷ xs) ys = ap (◌∷◌ (Local x)) (map_join xs ys)

pub operands_next : (xs : List ℕ) (i d : ℕ) (out new : List Operand) → i < length xs → out ≡ map Local (take i xs) → new ≡ out ++ Local (get_or xs i d) ∷ [] → new ≡ map Local (take (i + 1) xs)
operands_next xs i d out new lt h e =
    e ∙ ap (λ ys. ys ++ Local (get_or xs i d) ∷ []) h ∙ sym (ap (map Local) (take_more xs i d lt) ∙ map_join (take i xs) (get_or xs i d ∷ []))

-- ---- labels

pub reaches_by : (f g : Free) (ts : List Free) (l : ℕ) → Covers g f → Reaches f ts l → Reaches g ts l
reaches_by f g [] l co re = re
reaches_by f g (h ∷ ts) zero co re = λ y e. co y (re y e)
reaches_by f g (h ∷ ts) (suc l) co re = reaches_by f g ts l co re

-- from where all of the construct's is set
pub reaches_at : (t : Terms) (a b : Walk) (ts : List Free) (l : ℕ) → Good b → Alike a b → Reaches (free_by t.slot (take a.floor a.stack.items)) ts l → Reaches (free_at t b) ts l
reaches_at t a b ts l good alike re =
    let e : take a.floor (take b.set b.stack.items) ≡ take a.floor a.stack.items =
    cut_below b.stack.items a.floor b.set (let q = alike.floor in let h = good.floor in omega arith) ∙ alike.below in
    reaches_by (free_by t.slot (take a.floor a.stack.items)) (free_at t b) ts l
    (E.covers_by t (take b.set b.stack.items) (take a.floor a.stack.items) (λ y q. elem_take y a.floor (take b.set b.stack.items) (subst (λ ys. elem y ys ≡ true) (sym e) q))) re

-- ---- jumps

pub flushed_full : (t : Terms) (a b : Walk) → Flushed a b → free_at t b ≡ free_by t.slot a.stack.items
flushed_full t a b fl = ap (free_by t.slot) (ap (λ k. take k b.stack.items) fl.set ∙ take-length b.stack.items ∙ fl.stack)

pub br_ended : (a b : Walk) (v : Vec Instr Global) (l : ℕ) → Good a → Flushed a b → Puts b.piece.items v.items (plain (br l)) → Ended a (record b { piece = v }) (plain (br l) done)
br_ended a b v l good fl puts = record {
  good = with_piece b v fl.good;
  alike = alike_piece a b v fl.alike;
  slim = unstacked (drop a.set a.stack.items) (plain (br l) done);
  puts = puts done ∙ fl.puts (plain (br l) done);
  step = λ t among n ts out reach.
      flushed_slim t (small_of t a among) n ts out a (plain (br l) done) (plain (br l) done) (slots_of t a good among.slots)
      (S.leaps l plainly (subst (λ f. Reaches f ts l) (flushed_full t a b fl) (reaches_at t a b ts l fl.good fl.alike (reach l))));
}

pub halt_ended : (a : Walk) (v : Vec Instr Global) → Good a → Puts a.piece.items v.items (plain unreachable) → Ended a (record a { piece = v }) (plain unreachable done)
halt_ended a v good puts = record {
  good = with_piece a v good;
  alike = alike_piece a a v (alike_same a);
  slim = plain unreachable done;
  puts = puts done;
  step = λ t among n ts out reach. S.halts;
}

-- ---- with one operand

plainly_all : (k : ℕ) → Plainly (more k [])
plainly_all zero = plainly
plainly_all (suc k) = plainly_held (plainly_all k)

pub bare_shape : (b : Walk) → b.set ≡ length b.stack.items → shape_at b ≡ []
bare_shape b e = ap (λ ys. kept_onto ys []) (drop_all b.set b.stack.items (omega arith))

one_got : (o : Operand) (c : Code) → all_got (o ∷ []) c ≡ got o c
one_got o c = refl

pub got_slots : (xs : List ℕ) (c : Code) → all_got (map Local xs) c ≡ slots_got xs c
got_slots [] c = refl
got_slots (x ∷ xs) c = ap (plain (local_get x)) (got_slots xs c)

module _ (a b d : Walk) (args : List Operand) (good : Good a) (taken : Taken a b args true) where
  abbrev Ways : Type 0
  Ways = (put : Code → Code) × Way a b args put

  slim_on : (t : Terms) → Among t a → (n : ℕ) (ts : List Free) (out : Free) (put : Code → Code) → Way a b args put → (c c' : Code)
      → Slims t n ts out (free_at t b) (more (length args) []) c c' → Slims t n ts out (free_at t a) (shape_at a) (all_got args c) (put c')
  slim_on t among n ts out put way c c' sl =
      taken_slim t (small_of t a among) n ts out a b args true put c c' good taken (slots_of t a good among.slots) way
      (subst (λ sh. Slims t n ts out (free_at t b) (more (length args) sh) c c') (sym (bare_shape b (taken.bare refl))) sl)

  -- how operands were taken, as code
  record Put : Type 0 where
    pub code : Code → Code
    pub way : Way a b args code
    pub puts : Puts a.piece.items b.piece.items code

  put_of : TakenBy a b args → Put
  put_of (from_stack above same piece) = record { code = λ c. c; way = in_place above same (λ c. refl); puts = λ c. ap (λ ys. onto ys c) piece }
  put_of (from_slots full puts) = record { code = λ c. unstacked (drop a.set a.stack.items) (all_got args c); way = put_back full (λ c. refl); puts = puts }

  pub br_if_stepped : (v : Vec Instr Global) (o : Operand) (l : ℕ) → args ≡ o ∷ [] → Puts b.piece.items v.items (plain (br_if l))
      → Stepped a (record b { piece = v }) false (λ c. got o (plain (br_if l) c))
  br_if_stepped v o l e puts =
      let p = put_of taken.way in
      record {
        good = with_piece b v taken.good;
        alike = alike_piece a b v taken.alike;
        slim = λ c'. p.code (plain (br_if l) c');
        puts = λ c'. puts c' ∙ p.puts (plain (br_if l) c');
        step = λ t among n ts out c c' reach told sl.
            let s2 : Slims t n ts out (free_at t b) [] c c' = subst (λ sh. Slims t n ts out (free_at t b) sh c c') (bare_shape b (taken.bare refl)) sl in
            subst (λ xs. Slims t n ts out (free_at t a) (shape_at a) (all_got xs (plain (br_if l) c)) (p.code (plain (br_if l) c'))) e
            (slim_on t among n ts out p.code p.way (plain (br_if l) c) (plain (br_if l) c')
            (S.leaps_if l (plainly_all (length args)) (reaches_at t a b ts l taken.good taken.alike (reach l)) s2));
      }

  pub table_ended : (v : Vec Instr Global) (o : Operand) (ls : List ℕ) (l : ℕ) → args ≡ o ∷ [] → Puts b.piece.items v.items (plain (br_table ls l))
      → Ended a (record b { piece = v }) (got o (plain (br_table ls l) done))
  table_ended v o ls l e puts =
      let p = put_of taken.way in
      record {
        good = with_piece b v taken.good;
        alike = alike_piece a b v taken.alike;
        slim = p.code (plain (br_table ls l) done);
        puts = puts done ∙ p.puts (plain (br_table ls l) done);
        step = λ t among n ts out reach.
            subst (λ xs. Slims t n ts out (free_at t a) (shape_at a) (all_got xs (plain (br_table ls l) done)) (p.code (plain (br_table ls l) done))) e
            (slim_on t among n ts out p.code p.way (plain (br_table ls l) done) (plain (br_table ls l) done)
            (S.leaps_by ls l (plainly_all (length args)) (λ j. reaches_at t a b ts j taken.good taken.alike (reach j))));
      }

  -- ---- a call

  sole_slim : (t : Terms) (n : ℕ) (ts : List Free) (out : Free) (op : Code) (f : Free) (k : ℕ) (c c' : Code) → IsCallCode op → Held f (t.fixed (length (calls_of c) + n))
      → Slims t n ts out f [] c c' → Slims t n ts out f (more k []) (followed_by op c) (followed_by op c')
  unfolding followed_by
  sole_slim t n ts out (plain (call x) done) f k c c' e h sl = S.calls x (plainly_all k) h sl
  sole_slim t n ts out (plain (call_indirect s) done) f k c c' e h sl = S.calls_by s (plainly_all k) h sl
  sole_slim t n ts out _ f k c c' e h sl = absurd e

  pub calls_to : (to : Option ℕ) (c : Code) → calls_of (set_to to c) ≡ calls_of c
  unfolding calls_of
  calls_to None c = refl
  calls_to (Some x) c = refl

  call_result : (v : Vec Instr Global) (t : Terms) → Among t a → (n : ℕ) (ts : List Free) (out : Free) (to : Option ℕ) → KeptTold (record b { piece = v }) d to → (c c' : Code)
      → Slims t n ts out (free_at t d) (shape_at d) c c' → Slims t n ts out (free_at t b) [] (set_to to c) c'
  call_result v t among n ts out None e c c' sl =
      subst (λ sh. Slims t n ts out (free_at t b) sh c c') (bare_shape b (taken.bare refl)) (subst (λ w. Slims t n ts out (free_at t w) (shape_at w) c c') e sl)
  call_result v t among n ts out (Some x) k c c' sl =
      let xs = b.stack.items in
      let set = taken.good.set in
      let e : take d.set d.stack.items ≡ take b.set xs = (λ j. take (k.set j) (k.stack j)) ∙ take-append-le b.set xs (x ∷ []) set in
      let full : drop b.set xs ≡ [] = drop_all b.set xs (let q = taken.bare refl in omega arith) in
      let f : drop d.set d.stack.items ≡ x ∷ [] = (λ j. drop (k.set j) (k.stack j)) ∙ drop-append-le b.set xs (x ∷ []) set ∙ ap (λ ys. ys ++ x ∷ []) full in
      let slot : t.slot x ≡ true = among.slots x ∙ sym (slot_same a b x taken.alike.low taken.alike.places) ∙ k.slot in
      let absent : elem x (take b.set xs) ≡ false = false_by (elem x (take b.set xs)) (elem x xs) (elem_take x b.set xs) k.new in
      keeps x (free_at t b) slot (small_of t a among x slot) (λ y q. q) (free (t.slot x) (elem x (take b.set xs)) slot absent) takes_same lacks_all
      (subst (λ ys. Slims t n ts out (free_at t b) (kept_onto ys []) c c') f (subst (λ ys. Slims t n ts out (free_by t.slot ys) (shape_at d) c c') e sl))
    where
      free : (s e : Bool) → s ≡ true → e ≡ false → (s && not e) ≡ true
      free true e p q = ap not q
      free false e p q = cc

  told_after : (v : Vec Instr Global) (to : Option ℕ) → KeptTold (record b { piece = v }) d to → Good d × Alike (record b { piece = v }) d × (d.piece.items ≡ v.items)
  told_after v None e = subst (λ w. Good w × Alike (record b { piece = v }) w × (w.piece.items ≡ v.items)) (sym e)
      (with_piece b v taken.good, alike_same (record b { piece = v }), refl)
  told_after v (Some x) k = (k.good, k.alike, k.piece)

  pub call_stepped : (v : Vec Instr Global) (op : Code) (xs : List ℕ) (to : Option ℕ) → args ≡ map Local xs → IsCallCode op → Puts b.piece.items v.items (followed_by op)
      → KeptTold (record b { piece = v }) d to → Stepped a d true (λ c. slots_got xs (followed_by op (set_to to c)))
  call_stepped v op xs to e is copied kept =
      let p = put_of taken.way in
      let k = told_after v to kept in
      record {
        good = k.0;
        alike = alike_then a (record b { piece = v }) d (alike_piece a b v taken.alike) k.1;
        slim = λ c'. p.code (followed_by op c');
        puts = λ c'. ap (λ ys. onto ys c') k.2 ∙ copied c' ∙ p.puts (followed_by op c');
        step = λ t among n ts out c c' reach told sl.
            let none : t.fixed (length (calls_of (set_to to c)) + n) ≡ [] = ap (λ ys. t.fixed (length ys + n)) (calls_to to c) ∙ told in
            let s2 = slim_on t among n ts out p.code p.way (followed_by op (set_to to c)) (followed_by op c')
            (sole_slim t n ts out op (free_at t b) (length args) (set_to to c) c' is (subst (Held (free_at t b)) (sym none) tt) (call_result v t among n ts out to kept c c' sl)) in
            subst (λ z. Slims t n ts out (free_at t a) (shape_at a) z (p.code (followed_by op c')))
            (ap (λ ys. all_got ys (followed_by op (set_to to c))) e ∙ got_slots xs (followed_by op (set_to to c))) s2;
      }
