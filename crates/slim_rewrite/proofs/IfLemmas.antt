-- Ifs in slim pieces.
use Rattle.std.proofs.Common.{◌≡◌, ℕ, ◌+◌, ◌-◌, ◌<◌, List, [], ◌∷◌, length, take, drop, Some, None, Bool, true, false, refl, sym, ap, ◌∙◌, subst, arith, length-drop}
use Rattle.std.specs.Prelude.{◌||◌}
use Rattle.std.specs.declared.vec.Vec.{Vec}
use Rattle.std.specs.declared.alloc.Global.{Global}
use Rattle.std.proofs.lemmas.List.{length-take-le}
use Rattle.std.proofs.Math.Seq.{take-length}
use Rattle.wa_types.specs.declared.instrs.Instr.{Instr}
use Rattle.wa_types.specs.Pausing.{calls_of}
use Rattle.wa_types.specs.Syntax.{local_get, local_set, Code, done, plain, branch}
use Rattle.wa_types.specs.View.{onto}
use Rattle.wa_model.specs.declared.flat.Operand.TheVariants.{Local}
use Rattle.run_theory.specs.Flat.{Stmts, no_more, decides, code_of, followed_by, slots_got}
use Rattle.guard_form.specs.Bounds.{unit_count}
use Rattle.guard_form.specs.Pieces.{Units, no_unit, if_unit, call_total, holds_call, first_piece, flat_units, units, StartsGot}
use Rattle.flow_rewrite.specs.Putting.{Puts}
use Rattle.flow_rewrite.proofs.StmtLemmas.{if_true}
use Rattle.slim_laws.specs.Emit.{elem, free_by}
use Rattle.slim_laws.specs.Slim as S
use Rattle.slim_laws.specs.Slim.{Free, Covers, gets, more, narrows, plainly, plainly_held, Slims, Terms}
use Rattle.slim_laws.proofs.EmittedCode as E
use Rattle.slim_laws.specs.SlimUnits.{SlimUnits, before_if, before_kept_if}
use Rattle.slim_rewrite.specs.declared.stack.Walk.{Walk}
use Rattle.slim_rewrite.specs.Walking.{free_at, shape_at, unstacked, Alike, Among, Flushed, Good, IsTop, Taken, from_stack}
use Rattle.slim_rewrite.proofs.BranchLemmas.{bare_shape}
use Rattle.slim_rewrite.proofs.MoveLemmas.{held_by}
use Rattle.slim_rewrite.proofs.StackLemmas.{elem_here, good_by}
use Rattle.slim_rewrite.proofs.StepLemmas.{in_place, alike_then, among_next, elem_drop, elem_take, flushed_slim, slots_of, small_of, taken_slim}
use Rattle.slim_rewrite.specs.declared.sequence.Head.{Head}
use Rattle.slim_rewrite.specs.declared.sequence.Sequence.{Sequence}
use Rattle.slim_rewrite.specs.declared.sequence.Written.{Written}
use Rattle.slim_rewrite.specs.Coming.{calls_in, left_by, with_left, Around, Behind, CallsFixed, Comes}
use Rattle.slim_rewrite.specs.Inside.{condition_got, condition_set, first_code, units_in, in_piece, as_kept, as_unit, Conditioned, Decided, IsInside, Same}
use Rattle.slim_rewrite.specs.SequenceView.{call_open, head_in_front}
use Rattle.slim_rewrite.specs.Steps.{Opened, Put}
use Rattle.slim_rewrite.proofs.ComingLemmas.{flush_comes, from_slim, piece_put}
use Rattle.slim_rewrite.proofs.ConstructLemmas.{around_next, body_slim, full_free}
use Rattle.slim_rewrite.proofs.InsideLemmas.{inside_count}
use Rattle.slim_rewrite.proofs.PieceLemmas.{calls_left, free_by_count, joined_calls, left_done, or_none, some_held}
use Rattle.slim_rewrite.proofs.UnitLemmas.{unit_comes, unit_comes_by}

-- ---- the condition

abbrev code_name : Code → ℕ
code_name (plain (local_get x) c) = x
code_name _ = 0

one_name : (x : ℕ) (ys : List ℕ) → length ys ≡ 1 → plain (local_get x) done ≡ slots_got ys done → ys ≡ x ∷ []
one_name x [] n e = absurd (omega arith)
one_name x (y ∷ []) n e = ap (λ z. z ∷ []) (sym (ap code_name e))
one_name x (y ∷ z ∷ ys) n e = absurd (omega arith)

pub top_one : (xs : List ℕ) (x : ℕ) → IsTop xs (Local x ∷ []) → drop (length xs - 1) xs ≡ x ∷ []
top_one xs x h = let f = h.fits in let n = length-drop (length xs - 1) xs in one_name x (drop (length xs - 1) xs) (omega arith) (h.same done)

-- what is put before a condition stands on both sides
abbrev pub condition_put : (direct : Bool) → Walk → ℕ → Code → Code
condition_put true a x c = c
condition_put false a x c = unstacked (drop a.set a.stack.items) (plain (local_get x) c)

module _ (a m : Walk) (x : ℕ) (direct : Bool) (good : Good a) (h : Conditioned a m x direct) where
  on_stack : elem x a.stack.items ≡ true
  on_stack = elem_drop x (length a.stack.items - 1) a.stack.items (subst (λ ys. elem x ys ≡ true) (sym (top_one a.stack.items x h.top)) (elem_here x []))

  -- more is free without the condition
  pub covers : (t : Terms) → Covers (free_by t.slot a.stack.items) (free_at t m)
  covers t = E.covers_by t a.stack.items (take m.set m.stack.items)
      (λ y q. elem_take y (length a.stack.items - 1) a.stack.items (subst (λ ys. elem y ys ≡ true) h.stack (elem_take y m.set m.stack.items q)))

  straight : direct ≡ true → length m.stack.items ≡ a.set
  straight z =
      let s0 = (h.alone z).0 in let n = ap length h.stack in let q = length-take-le (length a.stack.items - 1) a.stack.items (omega arith) in omega arith

  taken_straight : direct ≡ true → Taken a m (Local x ∷ []) true
  taken_straight z =
      let s = h.alone z in let s0 = s.0 in let b = h.bare in let n = ap length h.stack in
      record {
        good = h.good;
        alike = h.alike;
        top = h.top;
        stack = h.stack;
        bare = λ e. h.bare;
        way = from_stack (omega (arith, straight z)) (omega (arith, straight z, b)) s.1;
      }

  pub condition_slim : (t : Terms) → Among t a → (n : ℕ) (ts : List Free) (out : Free) (c c' : Code) → Slims t n ts out (free_at t m) (more 1 []) c c'
      → Slims t n ts out (free_at t a) (shape_at a) (plain (local_get x) c) (condition_put direct a x c')
  condition_slim t among n ts out c c' sl = by direct refl
    where
      bare : Slims t n ts out (free_at t m) (more 1 (shape_at m)) c c'
      bare = subst (λ sh. Slims t n ts out (free_at t m) (more 1 sh) c c') (sym (bare_shape m h.bare)) sl

      by : (z : Bool) → direct ≡ z → Slims t n ts out (free_at t a) (shape_at a) (plain (local_get x) c) (condition_put z a x c')
      by true e =
          taken_slim t (small_of t a among) n ts out a m (Local x ∷ []) true (λ k. k) c c' good (taken_straight e) (slots_of t a good among.slots)
          (in_place (omega (arith, straight e)) (omega (arith, straight e, h.bare)) (λ k. refl)) bare
      by false e =
          flushed_slim t (small_of t a among) n ts out a (plain (local_get x) c) (plain (local_get x) c') (slots_of t a good among.slots)
          (gets x (held_by t x a.stack.items on_stack) (narrows (free_at t m) (covers t) sl))

  -- where the condition goes to its slot again all slots are set
  abbrev set_again : Vec Instr Global → Walk
  set_again v = record a { set = length a.stack.items; piece = v }

  pub flushed_again : (v : Vec Instr Global) → Puts m.piece.items v.items (condition_set direct (Local x)) → Flushed a (set_again v)
  flushed_again v puts = record {
    good = good_by a (set_again v) (length a.stack.items) good refl refl (sym (take-length a.stack.items)) (omega arith) (omega arith) (let f = good.floor in let s = good.set in omega arith);
    alike = record { alloc = refl; low = refl; places = refl; floor = refl; below = refl };
    stack = refl;
    set = refl;
    puts = by direct refl puts;
  }
    where
      by : (z : Bool) → direct ≡ z → Puts m.piece.items v.items (condition_set z (Local x)) → Puts a.piece.items v.items (unstacked (drop a.set a.stack.items))
      by true e p = λ c.
          let s = h.alone e in let s0 = s.0 in
          let z : length a.stack.items - 1 ≡ a.set = omega arith in
          p c ∙ ap (λ ys. onto ys (plain (local_set x) c)) s.1 ∙ ap (λ ys. onto a.piece.items (unstacked ys c)) (sym (ap (λ k. drop k a.stack.items) (sym z) ∙ top_one a.stack.items x h.top))
      by false e p = λ c. p c ∙ h.flushed e c

-- ---- the whole

never : {P : Type 0} (z : Bool) → z ≡ true → z ≡ false → P
never true e f = cc
never false e f = cc

module _ (ps : List ℕ) (a m d1 d2 b : Walk) (p q : Sequence) (x : ℕ) (direct : Bool) (sa sb : Stmts) (v w : Written) (good : Good a) (goes : p.ended ≡ false) (c0 : Conditioned a m x direct)
    (i1 : IsInside ps m p.place sa false d1 v) (i2 : IsInside ps d1 v.place sb false d2 w) where
  abbrev n1 : ℕ
  n1 = p.place + call_total sa

  second : IsInside ps d1 n1 sb false d2 w
  second = subst (λ k. IsInside ps d1 k sb false d2 w) i1.place i2

  place_is : w.place ≡ n1 + call_total sb
  place_is = second.place

  pieces_same : d2.piece.items ≡ m.piece.items
  pieces_same = i2.piece ∙ i1.piece

  d1_bare : d1.set ≡ length d1.stack.items
  d1_bare = i1.bare

  free1 : (t : Terms) → free_at t d1 ≡ free_at t m
  free1 t = full_free t d1 i1.bare ∙ ap (free_by t.slot) (i1.same refl) ∙ sym (full_free t m c0.bare)

  free2 : (t : Terms) → free_at t d2 ≡ free_at t m
  free2 t = full_free t d2 i2.bare ∙ ap (free_by t.slot) (i2.same refl) ∙ sym (full_free t d1 i1.bare) ∙ free1 t

  free_b : (t : Terms) → b.stack.items ≡ d2.stack.items → b.set ≡ d2.set → free_at t b ≡ free_at t m
  free_b t stack set = (λ j. free_by t.slot (take (set j) (stack j))) ∙ free2 t

  b_bare : b.stack.items ≡ d2.stack.items → b.set ≡ d2.set → b.set ≡ length b.stack.items
  b_bare stack set = set ∙ i2.bare ∙ ap length (sym stack)

  alike2 : Alike a d2
  alike2 = alike_then a d1 d2 (alike_then a m d1 c0.alike i1.alike) i2.alike

  -- the arms, with what is free behind the condition free at their ends
  module _ (t : Terms) (among : Among t a) (ts : List Free) (around : Around t a ts) where
    abbrev h : Free
    h = free_at t m

    then_slim : (k : ℕ) → CallsFixed t ps p.place k sa → SlimUnits t k (h ∷ ts) h h [] (first_piece ps p.place sa) (units ps p.place sa) (first_code v.pieces) (units_in v.pieces)
    then_slim k fixed =
        subst (λ f. SlimUnits t k (h ∷ ts) f h [] (first_piece ps p.place sa) (units ps p.place sa) (first_code v.pieces) (units_in v.pieces)) (free1 t)
        (i1.slim t (among_next t a m c0.alike among) k ts (around_next t a m ts c0.alike around) h (λ y e. e) fixed (free_at t d1) (λ z y e. e))

    else_slim : (k : ℕ) → CallsFixed t ps n1 k sb → SlimUnits t k (h ∷ ts) h h [] (first_piece ps n1 sb) (units ps n1 sb) (first_code w.pieces) (units_in w.pieces)
    else_slim k fixed =
        let am = among_next t m d1 i1.alike (among_next t a m c0.alike among) in
        let ar = around_next t m d1 ts i1.alike (around_next t a m ts c0.alike around) in
        subst (λ f. SlimUnits t k (h ∷ ts) h f [] (first_piece ps n1 sb) (units ps n1 sb) (first_code w.pieces) (units_in w.pieces)) (free1 t)
        (subst (λ f. SlimUnits t k (h ∷ ts) f (free_at t d1) [] (first_piece ps n1 sb) (units ps n1 sb) (first_code w.pieces) (units_in w.pieces)) (free2 t)
        (second.slim t am k ts ar h (subst (λ f. Covers f h) (sym (free1 t)) (λ y e. e)) fixed (free_at t d2) (λ z y e. e)))

  arms_count : unit_count (units_in v.pieces) ≡ unit_count (units ps p.place sa)
  arms_count = inside_count ps m p.place sa false d1 v i1

  else_count : unit_count (units_in w.pieces) ≡ unit_count (units ps n1 sb)
  else_count = inside_count ps d1 n1 sb false d2 w second

  puts_all : Puts d2.piece.items b.piece.items (λ c. condition_got direct (Local x) (branch None (first_code v.pieces) (first_code w.pieces) c))
      → Puts a.piece.items b.piece.items (λ c. condition_put direct a x (branch None (first_code v.pieces) (first_code w.pieces) c))
  puts_all puts c = puts c ∙ ap (λ ys. onto ys (condition_got direct (Local x) (branch None (first_code v.pieces) (first_code w.pieces) c))) pieces_same ∙ by direct refl
    where
      arm : Code
      arm = branch None (first_code v.pieces) (first_code w.pieces) c

      by : (z : Bool) → direct ≡ z → onto m.piece.items (condition_got z (Local x) arm) ≡ onto a.piece.items (condition_put z a x arm)
      by true e = ap (λ ys. onto ys arm) (c0.alone e).1
      by false e = c0.flushed e (plain (local_get x) arm)

  free_put : units_in v.pieces ≡ no_unit → units_in w.pieces ≡ no_unit → Same d2 b
      → Puts d2.piece.items b.piece.items (λ c. condition_got direct (Local x) (branch None (first_code v.pieces) (first_code w.pieces) c))
      → Put ps a p b (record p { place = w.place }) (decides (Local x) sa sb)
  free_put none1 none2 same puts =
      let h1 = free_by_count ps p.place sa (sym arms_count ∙ ap unit_count none1) in
      let h2 = free_by_count ps n1 sb (sym else_count ∙ ap unit_count none2) in
      piece_put ps a b p (decides (Local x) sa sb no_more) w.place goes place_is (or_none (holds_call ps p.place sa) (holds_call ps n1 sb) h1 h2) (λ c. refl)
      (λ c. condition_put direct a x (branch None (first_code v.pieces) (first_code w.pieces) c)) same.good (alike_then a d2 b alike2 same.alike) (puts_all puts)
      (λ t among n ts out around s fixed g c c' same2 sl.
      let k = length (calls_of (flat_units (units ps (n1 + call_total sb) s))) + n in
      let left : calls_in s + n ≡ length (calls_of c) + k = sym (ap (λ i. i + k) same2 ∙ calls_left ps (n1 + call_total sb) n s) in
      let f1 : CallsFixed t ps p.place (calls_in sb + (length (calls_of c) + k)) sa = subst (λ i. CallsFixed t ps p.place (calls_in sb + i) sa) left fixed.0 in
      let f2 : CallsFixed t ps n1 (length (calls_of c) + k) sb = subst (λ i. CallsFixed t ps n1 i sb) left fixed.1 in
      let top = free_at t m in
      let x1 = body_slim t ps p.place (calls_in sb + (length (calls_of c) + k)) sa (top ∷ ts) top top v none1 (then_slim t among ts around (calls_in sb + (length (calls_of c) + k)) f1) in
      let x2 = body_slim t ps n1 (length (calls_of c) + k) sb (top ∷ ts) top top w none2 (else_slim t among ts around (length (calls_of c) + k) f2) in
      let sl2 : Slims t k ts g top [] c c' = subst (λ sh. Slims t k ts g top sh c c') (bare_shape b (b_bare same.stack same.set))
      (subst (λ f. Slims t k ts g f (shape_at b) c c') (free_b t same.stack same.set) sl) in
      condition_slim a m x direct good c0 t among k ts g (branch None (code_of sa) (code_of sb) c) (branch None (first_code v.pieces) (first_code w.pieces) c')
      (S.decides None top (plainly_held plainly) x1 x2 sl2))

  either : 0 < unit_count (units_in v.pieces) + unit_count (units_in w.pieces) → (holds_call ps p.place sa || holds_call ps n1 sb) ≡ true
  either some = some_held ps p.place n1 sa sb (let y = arms_count in let z = else_count in omega (arith, y, z, some))

  unit_put : (head : Head) → (piece : Vec Instr Global) → 0 < unit_count (units_in v.pieces) + unit_count (units_in w.pieces) → Puts d2.piece.items piece.items (condition_set direct (Local x))
      → ((c : Code) (us : Units) → head_in_front head c us ≡ if_unit (Some (Local x)) (first_code v.pieces) (units_in v.pieces) (first_code w.pieces) (units_in w.pieces) c us)
      → Opened (record d2 { piece = piece }) (record p { place = w.place }) b q head → Put ps a p b q (decides (Local x) sa sb)
  unit_put head piece some puts is opened =
      let fl : Flushed a (set_again a m x direct good c0 piece) = flushed_again a m x direct good c0 piece (subst (λ ys. Puts ys piece.items (condition_set direct (Local x))) pieces_same puts) in
      let f = set_again a m x direct good c0 piece in
      let fa = first_piece ps p.place sa in
      let ua = units ps p.place sa in
      let fb = first_piece ps n1 sb in
      let ub = units ps n1 sb in
      let make = λ (c : Code) (us : Units). if_unit (Some (Local x)) fa ua fb ub c us in
      let held : (holds_call ps p.place sa || holds_call ps n1 sb) ≡ true = either some in
      record {
        good = opened.good;
        alike = alike_then a d2 b alike2 (record { alloc = opened.alike.alloc; low = opened.alike.low; places = opened.alike.places; floor = opened.alike.floor; below = opened.alike.below });
        place = opened.place ∙ place_is;
        step = λ t among n ts out around s fixed first us h.
            let h1 : Comes t n ts out ps b (record q { place = w.place }) s first us = subst (λ j. Comes t n ts out ps b (record q { place = j }) s first us) opened.place h in
            let fs = first_piece ps w.place s in
            let us0 = units ps w.place s in
            let behind : calls_in s + n ≡ length (calls_of (followed_by fs (flat_units us0))) + n = sym (joined_calls ps w.place n s) in
            let top = free_at t m in
            flush_comes t n ts out ps a f p (decides (Local x) sa sb s) first us goes among good fl
            (unit_comes t n ts out ps f (record d2 { piece = piece }) b b p q w.place w.place head (decides (Local x) sa sb s) s make goes (bare_shape f refl) refl opened opened.piece
            (if_true (holds_call ps p.place sa || holds_call ps n1 sb) _ _ held)
            (if_true (holds_call ps p.place sa || holds_call ps n1 sb) _ _ held ∙ (λ j. make (first_piece ps (sym place_is j) s) (units ps (sym place_is j) s)))
            (λ c us. ap (left_by (make fs us0)) (is c us)) (λ c us. subst StartsGot (sym (is c us)) tt)
            (λ c' us' clear fr.
            let sl0 : SlimUnits t n ts out top [] fs us0 c' us' =
            subst (λ sh. SlimUnits t n ts out top sh fs us0 c' us') (bare_shape b (b_bare opened.stack opened.set))
            (subst (λ g. SlimUnits t n ts out g (shape_at b) fs us0 c' us') (free_b t opened.stack opened.set) (from_slim t n ts out b fs us0 c' us' fr)) in
            subst (λ z. Behind t n ts out (free_at t f) (make fs us0) z) (sym (is c' us'))
            (λ g sh c c2 go sl.
            before_if (Local x) (free_at t f) top top go sl (subst (λ z. z x ≡ false) (sym (full_free t f refl)) (held_by t x a.stack.items (on_stack a m x direct good c0)))
            (subst (λ z. Covers z top) (sym (full_free t f refl)) (covers a m x direct good c0 t))
            (subst (λ i. SlimUnits t i (top ∷ ts) top top [] fa ua (first_code v.pieces) (units_in v.pieces))
            ((λ j. calls_in sb + behind j) ∙ sym (joined_calls ps n1 (length (calls_of (followed_by fs (flat_units us0))) + n) sb))
            (then_slim t among ts around (calls_in sb + (calls_in s + n)) fixed.0))
            (subst (λ i. SlimUnits t i (top ∷ ts) top top [] fb ub (first_code w.pieces) (units_in w.pieces)) behind (else_slim t among ts around (calls_in s + n) fixed.1)) sl0)) first us h1);
      }

  -- the condition stays where it is
  kept_put : (head : Head) → direct ≡ true → call_open p.open ≡ false → 0 < unit_count (units_in v.pieces) + unit_count (units_in w.pieces)
      → ((c : Code) (us : Units) → head_in_front head c us ≡ if_unit None (first_code v.pieces) (units_in v.pieces) (first_code w.pieces) (units_in w.pieces) c us)
      → Opened d2 (record p { place = w.place }) b q head → Put ps a p b q (decides (Local x) sa sb)
  kept_put head alone free some is opened =
      let fa = first_piece ps p.place sa in
      let ua = units ps p.place sa in
      let fb = first_piece ps n1 sb in
      let ub = units ps n1 sb in
      let make = λ (c : Code) (us : Units). if_unit (Some (Local x)) fa ua fb ub c us in
      let held : (holds_call ps p.place sa || holds_call ps n1 sb) ≡ true = either some in
      record {
        good = opened.good;
        alike = alike_then a d2 b alike2 opened.alike;
        place = opened.place ∙ place_is;
        step = λ t among n ts out around s fixed first us h.
            let h1 : Comes t n ts out ps b (record q { place = w.place }) s first us = subst (λ j. Comes t n ts out ps b (record q { place = j }) s first us) opened.place h in
            let fs = first_piece ps w.place s in
            let us0 = units ps w.place s in
            let behind : calls_in s + n ≡ length (calls_of (followed_by fs (flat_units us0))) + n = sym (joined_calls ps w.place n s) in
            let top = free_at t m in
            let k = length (calls_of (flat_units (make fs us0))) + n in
            let left : Slims t k ts top (free_at t a) (shape_at a) (plain (local_get x) done) done =
            subst (λ z. Slims t k ts top (free_at t a) (shape_at a) (plain (local_get x) done) (condition_put z a x done)) alone
            (condition_slim a m x direct good c0 t among k ts top done done (S.ends (λ y e. e) (plainly_held plainly))) in
            unit_comes_by t n ts out ps a d2 b b p q w.place w.place head (decides (Local x) sa sb s) s make top goes (pieces_same ∙ (c0.alone alone).1) opened opened.piece
            (if_true (holds_call ps p.place sa || holds_call ps n1 sb) _ _ held)
            (if_true (holds_call ps p.place sa || holds_call ps n1 sb) _ _ held ∙ (λ j. make (first_piece ps (sym place_is j) s) (units ps (sym place_is j) s)))
            (λ c us. subst (λ z. Slims t k ts top (free_at t a) (shape_at a) (with_left (left_by (make fs us0) z) done) done) (sym (is c us))
            (subst (λ z. Slims t k ts top (free_at t a) (shape_at a) z done) (sym (left_done (Local x))) left))
            (λ c us e. never (call_open p.open) e free)
            (λ c' us' clear fr.
            let sl0 : SlimUnits t n ts out top [] fs us0 c' us' =
            subst (λ sh. SlimUnits t n ts out top sh fs us0 c' us') (bare_shape b (b_bare opened.stack opened.set))
            (subst (λ g. SlimUnits t n ts out g (shape_at b) fs us0 c' us') (free_b t opened.stack opened.set) (from_slim t n ts out b fs us0 c' us' fr)) in
            subst (λ z. Behind t n ts out top (make fs us0) z) (sym (is c' us'))
            (λ g sh c c2 go sl.
            before_kept_if (Local x) top top go sl
            (subst (λ i. SlimUnits t i (top ∷ ts) top top [] fa ua (first_code v.pieces) (units_in v.pieces))
            ((λ j. calls_in sb + behind j) ∙ sym (joined_calls ps n1 (length (calls_of (followed_by fs (flat_units us0))) + n) sb))
            (then_slim t among ts around (calls_in sb + (calls_in s + n)) fixed.0))
            (subst (λ i. SlimUnits t i (top ∷ ts) top top [] fb ub (first_code w.pieces) (units_in w.pieces)) behind (else_slim t among ts around (calls_in s + n) fixed.1)) sl0)) first us h1;
      }

  pub if_put : Decided (Local x) direct d2 p b q v w → Put ps a p b q (decides (Local x) sa sb)
  if_put (in_piece none1 none2 same q_is puts) = subst (λ z. Put ps a p b z (decides (Local x) sa sb)) (sym q_is) (free_put none1 none2 same puts)
  if_put (as_unit head piece some puts is opened) = unit_put head piece some puts is opened
  if_put (as_kept head alone free some is opened) = kept_put head alone free some is opened
