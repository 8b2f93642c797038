-- Blocks and loops in slim pieces.
use Rattle.std.proofs.Common.{◌≡◌, ℕ, ◌+◌, ◌<◌, List, [], ◌∷◌, length, take, None, Bool, true, false, refl, sym, ap, ◌∙◌, subst, arith}
use Rattle.std.proofs.Math.Seq.{take-length}
use Rattle.wa_types.specs.Pausing.{calls_of}
use Rattle.wa_types.specs.Syntax.{a_block, a_loop, Shape as Nesting, Code, nest}
use Rattle.wa_types.specs.View.{onto}
use Rattle.run_theory.specs.Flat.{Stmts, no_more, nests, code_of, followed_by}
use Rattle.guard_form.specs.Bounds.{unit_count}
use Rattle.guard_form.specs.Pieces.{Units, no_unit, nest_unit, call_total, holds_call, first_piece, flat_units, units, StartsGot}
use Rattle.guard_form.proofs.CodeLemmas.{then_done}
use Rattle.guard_form.proofs.Grouped.{joins}
use Rattle.flow_rewrite.specs.Putting.{Puts}
use Rattle.flow_rewrite.proofs.StmtLemmas.{if_true}
use Rattle.slim_laws.specs.Emit.{free_by}
use Rattle.slim_laws.specs.Slim as S
use Rattle.slim_laws.specs.Slim.{Free, Covers, plainly, Slims, Terms}
use Rattle.slim_laws.specs.SlimUnits.{SlimUnits, before_block, before_loop}
use Rattle.slim_laws.proofs.UnitsSlim.{units_law}
use Rattle.slim_rewrite.specs.declared.stack.Walk.{Walk}
use Rattle.slim_rewrite.specs.Walking.{free_at, shape_at, Alike, Among, Flushed, Good}
use Rattle.slim_rewrite.proofs.BranchLemmas.{bare_shape}
use Rattle.slim_rewrite.proofs.StepLemmas.{alike_then, among_next}
use Rattle.slim_rewrite.specs.declared.sequence.Head.{Head}
use Rattle.slim_rewrite.specs.declared.sequence.Sequence.{Sequence}
use Rattle.slim_rewrite.specs.declared.sequence.Written.{Written}
use Rattle.slim_rewrite.specs.Coming.{calls_in, left_by, Around, Behind, CallsFixed, Comes}
use Rattle.slim_rewrite.specs.Inside.{first_code, units_in, in_piece, as_unit, IsInside, Nested, Same}
use Rattle.slim_rewrite.specs.SequenceView.{head_in_front}
use Rattle.slim_rewrite.specs.Steps.{Opened, Put}
use Rattle.slim_rewrite.proofs.ComingLemmas.{flush_comes, from_slim, piece_put}
use Rattle.slim_rewrite.proofs.InsideLemmas.{inside_count}
use Rattle.slim_rewrite.proofs.PieceLemmas.{calls_left, free_by_count, held_by, joined_calls}
use Rattle.slim_rewrite.proofs.UnitLemmas.{unit_comes}

-- ---- in front of constructs

pub around_next : (t : Terms) (a m : Walk) (ts : List Free) → Alike a m → Around t a ts → Around t m ts
around_next t a m ts alike around l = subst (λ f. S.Reaches f ts l) (sym (ap (free_by t.slot) (ap (λ n. take n m.stack.items) alike.floor ∙ alike.below))) (around l)

pub flushed_put : (ps : List ℕ) (a m b : Walk) (p q : Sequence) (x : Stmts → Stmts) → p.ended ≡ false → Good a → Flushed a m → Put ps m p b q x → Put ps a p b q x
flushed_put ps a m b p q x goes good fl h = record {
  good = h.good;
  alike = alike_then a m b fl.alike h.alike;
  place = h.place;
  step = λ t among n ts out around s fixed first us c.
      flush_comes t n ts out ps a m p (x s) first us goes among good fl
      (h.step t (among_next t a m fl.alike among) n ts out (around_next t a m ts fl.alike around) s fixed first us c);
}

pub full_free : (t : Terms) (w : Walk) → w.set ≡ length w.stack.items → free_at t w ≡ free_by t.slot w.stack.items
full_free t w e = ap (free_by t.slot) (ap (λ k. take k w.stack.items) e ∙ take-length w.stack.items)

-- the body of a construct without units
pub body_slim : (t : Terms) (ps : List ℕ) (n k : ℕ) (s : Stmts) (ts : List Free) (out here : Free) (w : Written) → units_in w.pieces ≡ no_unit
    → SlimUnits t k ts out here [] (first_piece ps n s) (units ps n s) (first_code w.pieces) (units_in w.pieces) → Slims t k ts out here [] (code_of s) (first_code w.pieces)
body_slim t ps n k s ts out here w none sl =
    let c = first_code w.pieces in
    subst (λ z. Slims t k ts out here [] (code_of s) z) (ap (λ us. followed_by c (flat_units us)) none ∙ then_done c)
    (subst (λ z. Slims t k ts out here [] z (followed_by c (flat_units (units_in w.pieces)))) (joins ps n s)
    (units_law t k ts out here [] (first_piece ps n s) c (units ps n s) (units_in w.pieces) sl))

-- without units nothing is held, with some something is
pub not_held : (ps : List ℕ) (n : ℕ) (s : Stmts) (w : Written) → unit_count (units_in w.pieces) ≡ unit_count (units ps n s) → units_in w.pieces ≡ no_unit → holds_call ps n s ≡ false
not_held ps n s w e none = free_by_count ps n s (sym e ∙ ap unit_count none)

pub is_held : (ps : List ℕ) (n : ℕ) (s : Stmts) (w : Written) → unit_count (units_in w.pieces) ≡ unit_count (units ps n s) → 0 < unit_count (units_in w.pieces) → holds_call ps n s ≡ true
is_held ps n s w e lt = held_by ps n s (omega arith)

-- ---- blocks and loops, where all slots are set

module _ (ps : List ℕ) (m d b : Walk) (p q : Sequence) (body : Stmts) (kept : Bool) (w : Written) (goes : p.ended ≡ false) (bare : m.set ≡ length m.stack.items)
    (inside : IsInside ps m p.place body kept d w) where
  place_is : w.place ≡ p.place + call_total body
  place_is = inside.place

  -- what is free behind
  free_same : (t : Terms) → b.stack.items ≡ d.stack.items → b.set ≡ d.set → free_at t b ≡ free_at t d
  free_same t stack set = λ j. free_by t.slot (take (set j) (stack j))

  b_bare : b.stack.items ≡ d.stack.items → b.set ≡ d.set → b.set ≡ length b.stack.items
  b_bare stack set = set ∙ inside.bare ∙ ap length (sym stack)

  free_before : (t : Terms) → kept ≡ false → free_at t d ≡ free_at t m
  free_before t z = full_free t d inside.bare ∙ ap (free_by t.slot) (inside.same z) ∙ sym (full_free t m bare)

  in_piece_put : (y : Nesting) → units_in w.pieces ≡ no_unit → Same d b → Puts d.piece.items b.piece.items (nest y None (first_code w.pieces))
      → ((t : Terms) → Among t m → (n : ℕ) (ts : List Free) (out : Free) → Around t m ts → (c c' : Code) → CallsFixed t ps p.place (length (calls_of c) + n) body
      → Slims t n ts out (free_at t d) [] c c' → Slims t n ts out (free_at t m) [] (nest y None (code_of body) c) (nest y None (first_code w.pieces) c'))
      → Put ps m p b (record p { place = w.place }) (nests y body)
  in_piece_put y none same puts step =
      let held = not_held ps p.place body w (inside_count ps m p.place body kept d w inside) none in
      piece_put ps m b p (nests y body no_more) w.place goes place_is held (λ c. refl) (nest y None (first_code w.pieces)) same.good (alike_then m d b inside.alike same.alike)
      (λ c. puts c ∙ ap (λ ys. onto ys (nest y None (first_code w.pieces) c)) inside.piece)
      (λ t among n ts out around s fixed g c c' same2 sl.
      let k = length (calls_of (flat_units (units ps (p.place + call_total body) s))) + n in
      let left = ap (λ i. i + k) same2 ∙ calls_left ps (p.place + call_total body) n s in
      let fixed2 : CallsFixed t ps p.place (length (calls_of c) + k) body = subst (λ i. CallsFixed t ps p.place i body) (sym left) fixed.0 in
      let sl2 : Slims t k ts g (free_at t d) [] c c' = subst (λ sh. Slims t k ts g (free_at t d) sh c c') (bare_shape b (b_bare same.stack same.set))
      (subst (λ f. Slims t k ts g f (shape_at b) c c') (free_same t same.stack same.set) sl) in
      subst (λ sh. Slims t k ts g (free_at t m) sh (nest y None (code_of body) c) (nest y None (first_code w.pieces) c')) (sym (bare_shape m bare))
      (step t among k ts g around c c' fixed2 sl2))

  as_unit_put : (y : Nesting) (head : Head) → 0 < unit_count (units_in w.pieces)
      → ((c : Code) (us : Units) → head_in_front head c us ≡ nest_unit y (first_code w.pieces) (units_in w.pieces) c us) → Opened d (record p { place = w.place }) b q head
      → ((t : Terms) → Among t m → (n : ℕ) (ts : List Free) (out : Free) → Around t m ts → (s : Stmts) → CallsFixed t ps p.place (calls_in s + n) body → (c' : Code) (us' : Units)
      → SlimUnits t n ts out (free_at t d) [] (first_piece ps w.place s) (units ps w.place s) c' us'
      → Behind t n ts out (free_at t m) (nest_unit y (first_piece ps p.place body) (units ps p.place body) (first_piece ps w.place s) (units ps w.place s))
      (nest_unit y (first_code w.pieces) (units_in w.pieces) c' us'))
      → Put ps m p b q (nests y body)
  as_unit_put y head some is opened step =
      let held = is_held ps p.place body w (inside_count ps m p.place body kept d w inside) some in
      record {
        good = opened.good;
        alike = alike_then m d b inside.alike opened.alike;
        place = opened.place ∙ place_is;
        step = λ t among n ts out around s fixed first us h.
            let h1 : Comes t n ts out ps b (record q { place = w.place }) s first us = subst (λ j. Comes t n ts out ps b (record q { place = j }) s first us) opened.place h in
            let make = λ (c : Code) (us : Units). nest_unit y (first_piece ps p.place body) (units ps p.place body) c us in
            unit_comes t n ts out ps m d b b p q w.place w.place head (nests y body s) s make goes (bare_shape m bare) inside.piece opened opened.piece
            (if_true (holds_call ps p.place body) _ _ held)
            (if_true (holds_call ps p.place body) _ _ held ∙ (λ j. make (first_piece ps (sym place_is j) s) (units ps (sym place_is j) s)))
            (λ c us. ap (left_by (make (first_piece ps w.place s) (units ps w.place s))) (is c us)) (λ c us. subst StartsGot (sym (is c us)) tt)
            (λ c' us' clear f.
            let sl : SlimUnits t n ts out (free_at t d) [] (first_piece ps w.place s) (units ps w.place s) c' us' =
            subst (λ sh. SlimUnits t n ts out (free_at t d) sh (first_piece ps w.place s) (units ps w.place s) c' us') (bare_shape b (b_bare opened.stack opened.set))
            (subst (λ g. SlimUnits t n ts out g (shape_at b) (first_piece ps w.place s) (units ps w.place s) c' us') (free_same t opened.stack opened.set)
            (from_slim t n ts out b (first_piece ps w.place s) (units ps w.place s) c' us' f)) in
            subst (λ z. Behind t n ts out (free_at t m) (make (first_piece ps w.place s) (units ps w.place s)) z) (sym (is c' us'))
            (step t among n ts out around s fixed.0 c' us' sl)) first us h1;
      }

-- the number of calls behind a unit
calls_behind : (ps : List ℕ) (j n : ℕ) (s : Stmts) → calls_in s + n ≡ length (calls_of (followed_by (first_piece ps j s) (flat_units (units ps j s)))) + n
calls_behind ps j n s = sym (joined_calls ps j n s)

pub block_put : (ps : List ℕ) (m d b : Walk) (p q : Sequence) (body : Stmts) (w : Written) → p.ended ≡ false → m.set ≡ length m.stack.items → IsInside ps m p.place body false d w
    → Nested a_block d p b q w → Put ps m p b q (nests a_block body)
block_put ps m d b p q body w goes bare inside (in_piece none same q_is puts) =
    subst (λ z. Put ps m p b z (nests a_block body)) (sym q_is)
    (in_piece_put ps m d b p q body false w goes bare inside a_block none same puts (λ t among n ts out around c c' fixed sl.
    let covers : Covers (free_at t m) (free_at t d) = subst (λ f. Covers (free_at t m) f) (sym (free_before ps m d b p q body false w goes bare inside t refl)) (λ y e. e) in
    S.blocks None (free_at t d) plainly (body_slim t ps p.place (length (calls_of c) + n) body (free_at t d ∷ ts) (free_at t d) (free_at t m) w none
    (inside.slim t among (length (calls_of c) + n) ts around (free_at t d) covers fixed (free_at t d) (λ z y e. e))) sl))
block_put ps m d b p q body w goes bare inside (as_unit head some is opened) =
    as_unit_put ps m d b p q body false w goes bare inside a_block head some is opened (λ t among n ts out around s fixed c' us' rest.
    λ f sh c c2 go sl.
    let covers : Covers (free_at t m) (free_at t d) = subst (λ f. Covers (free_at t m) f) (sym (free_before ps m d b p q body false w goes bare inside t refl)) (λ y e. e) in
    let inner = inside.slim t among (calls_in s + n) ts around (free_at t d) covers fixed (free_at t d) (λ z y e. e) in
    before_block (free_at t m) (free_at t d) go sl
    (subst (λ i. SlimUnits t i (free_at t d ∷ ts) (free_at t d) (free_at t m) [] (first_piece ps p.place body) (units ps p.place body) (first_code w.pieces) (units_in w.pieces))
    (calls_behind ps w.place n s) inner) rest)

pub loop_put : (ps : List ℕ) (m d b : Walk) (p q : Sequence) (body : Stmts) (w : Written) → p.ended ≡ false → m.set ≡ length m.stack.items → IsInside ps m p.place body true d w
    → Nested a_loop d p b q w → Put ps m p b q (nests a_loop body)
loop_put ps m d b p q body w goes bare inside (in_piece none same q_is puts) =
    subst (λ z. Put ps m p b z (nests a_loop body)) (sym q_is)
    (in_piece_put ps m d b p q body true w goes bare inside a_loop none same puts (λ t among n ts out around c c' fixed sl.
    S.loops None (free_at t m) (free_at t d) plainly (λ y e. e)
    (body_slim t ps p.place (length (calls_of c) + n) body (free_at t m ∷ ts) (free_at t d) (free_at t m) w none
    (inside.slim t among (length (calls_of c) + n) ts around (free_at t m) (λ y e. e) fixed (free_at t d) (λ z y e. e))) sl))
loop_put ps m d b p q body w goes bare inside (as_unit head some is opened) =
    as_unit_put ps m d b p q body true w goes bare inside a_loop head some is opened (λ t among n ts out around s fixed c' us' rest.
    λ f sh c c2 go sl.
    let inner = inside.slim t among (calls_in s + n) ts around (free_at t m) (λ y e. e) fixed (free_at t d) (λ z y e. e) in
    before_loop (free_at t m) (free_at t m) (free_at t d) go sl (λ y e. e)
    (subst (λ i. SlimUnits t i (free_at t m ∷ ts) (free_at t d) (free_at t m) [] (first_piece ps p.place body) (units ps p.place body) (first_code w.pieces) (units_in w.pieces))
    (calls_behind ps w.place n s) inner) rest)
