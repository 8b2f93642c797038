-- The code of slim pieces with the same units is slim.
use Rattle.std.proofs.Common.{◌≡◌, ℕ, ◌+◌, ◌<◌, List, [], ◌∷◌, ◌++◌, length, map, Option, Some, None, Bool, true, false, not, refl, sym, ap, subst, arith, length-append}
use Rattle.std.specs.Prelude.{◌&&◌}
use Rattle.wa_types.specs.Syntax.{Plain, Basic, basic, local_get, local_set, local_tee, br, br_if, br_table, return, unreachable, call, call_indirect, Code, done, plain, nest, branch, a_block, a_loop}
use Rattle.wa_types.specs.Syntax as Y
use Rattle.wa_types.specs.Pausing.{Callee, direct, indirect, callee, callee_onto, calls_of}
use Rattle.run_theory.specs.Flat.{Stmts, followed_by, set_to, slots_got, code_of, result_got}
use Rattle.slim_laws.specs.Slim as S
use Rattle.slim_laws.specs.Slim.{Held, Free, Covers, more, takes_same, lacks_all, Plainly, plainly, plainly_held, Terms, Slims, ends, does, keeps, uses, saves, narrows, forgets}
use Rattle.slim_laws.specs.Emit.{elem, all_in, without, free_by, free_behind, can_keep, end_of, Told, emit}
use Rattle.slim_laws.specs.Parts.{Units, no_unit, call_unit, nest_unit, if_unit, call_to, flat_units, codes, whole, behind_units, Pieces, when, lone_piece, with_rest, with_two, with_three, result_pends, emit_units, goes_on, PiecesTold, PiecesAreSlim, IsNoSlot, BodiesAreSlim}
use Rattle.slim_laws.proofs.EmittedCode as E

-- ---- code behind code

followed_done : (c : Code) → followed_by c done ≡ c
unfolding followed_by
followed_done done = refl
followed_done (plain p rest) = ap (plain p) (followed_done rest)
followed_done (nest s r body rest) = ap (nest s r body) (followed_done rest)
followed_done (branch r a b rest) = ap (branch r a b) (followed_done rest)

calls_join : (a b : Code) → length (calls_of (followed_by a b)) ≡ length (calls_of a) + length (calls_of b)
unfolding followed_by calls_of
calls_join done b = omega arith
calls_join (plain p rest) b = by (callee p) (calls_join rest b)
  where
    by : (o : Option Callee) → length (calls_of (followed_by rest b)) ≡ length (calls_of rest) + length (calls_of b)
        → length (callee_onto o (calls_of (followed_by rest b))) ≡ length (callee_onto o (calls_of rest)) + length (calls_of b)
    by None e = e
    by (Some x) e = omega arith
calls_join (nest s r body rest) b = let e = calls_join rest b in omega (arith, length-append (calls_of body) (calls_of (followed_by rest b)), length-append (calls_of body) (calls_of rest))
calls_join (branch r a c rest) b =
    let e = calls_join rest b in
    omega (arith, length-append (calls_of a ++ calls_of c) (calls_of (followed_by rest b)), length-append (calls_of a ++ calls_of c) (calls_of rest))

module _ (t : Terms) (n : ℕ) (ts : List Free) (out g : Free) (k k' : Code) (behind : Slims t n ts out g [] k k') where
  -- the number of calls behind
  left : (m : ℕ) (rest : Code) → m ≡ length (calls_of k) + n → length (calls_of rest) + m ≡ length (calls_of (followed_by rest k)) + n
  left m rest em = let e = calls_join rest k in omega arith

  pub then_slim : (m : ℕ) (f : Free) (sh : S.StackShape) (c c' : Code) → m ≡ length (calls_of k) + n → goes_on c ≡ true → Slims t m ts g f sh c c'
      → Slims t n ts out f sh (followed_by c k) (followed_by c' k')
  unfolding followed_by
  then_slim m f sh _ _ em go (ends co pl) = forgets pl (narrows g co behind)
  then_slim m f sh _ _ em go (does {sh2 = sh2} {rest = rest} {rest' = rest'} b ta sl) = does b ta (then_slim m f (more _ sh2) rest rest' em go sl)
  then_slim m f sh _ _ em go (S.gets {rest = rest} {rest' = rest'} x fr sl) = S.gets x fr (then_slim m f (None ∷ sh) rest rest' em go sl)
  then_slim m f sh _ _ em go (S.sets {sh2 = sh2} {rest = rest} {rest' = rest'} x h co ta la sl) = S.sets x h co ta la (then_slim m h sh2 rest rest' em go sl)
  then_slim m f sh _ _ em go (S.tees {sh2 = sh2} {rest = rest} {rest' = rest'} x h co ta la sl) = S.tees x h co ta la (then_slim m h (None ∷ sh2) rest rest' em go sl)
  then_slim m f sh _ c' em go (keeps {sh2 = sh2} {rest = rest} x h is lt co hx ta la sl) = keeps x h is lt co hx ta la (then_slim m h (Some x ∷ sh2) rest c' em go sl)
  then_slim m f sh _ c' em go (uses {sh2 = sh2} {rest = rest} x is ri sl) = uses x is ri (then_slim m f sh2 rest c' em go sl)
  then_slim m f _ _ _ em go (S.copies {sh = sh} {rest = rest} {rest' = rest'} x y h is co la sl) = S.copies x y h is co la (then_slim m h (Some x ∷ sh) rest rest' em go sl)
  then_slim m f _ c _ em go (saves {sh = sh} {code' = c'} x h lt co sl) = saves x h lt co (then_slim m h sh c c' em go sl)
  then_slim m f sh c c' em go (narrows h co sl) = narrows h co (then_slim m h sh c c' em go sl)
  then_slim m f sh c c' em go (forgets pl sl) = forgets pl (then_slim m f [] c c' em go sl)
  then_slim m f sh _ _ em go (S.leaps l pl re) = cc
  then_slim m f sh _ _ em go (S.leaps_if {rest = rest} {rest' = rest'} l pl re sl) = S.leaps_if l pl re (then_slim m f [] rest rest' em go sl)
  then_slim m f sh _ _ em go (S.leaps_by es l pl re) = cc
  then_slim m f sh _ _ em go (S.returns_here pl) = cc
  then_slim m f sh _ _ em go S.halts = cc
  then_slim m f sh _ _ em go (S.calls {rest = rest} {rest' = rest'} x pl ac sl) = S.calls x pl (subst (λ j. Held f (t.fixed j)) (left m rest em) ac) (then_slim m f [] rest rest' em go sl)
  then_slim m f sh _ _ em go (S.calls_by {rest = rest} {rest' = rest'} x pl ac sl) = S.calls_by x pl (subst (λ j. Held f (t.fixed j)) (left m rest em) ac) (then_slim m f [] rest rest' em go sl)
  then_slim m f sh _ _ em go (S.blocks {body = body} {body' = body'} {rest = rest} {rest' = rest'} r h pl sb sl) =
      S.blocks r h pl (subst (λ j. Slims t j (h ∷ ts) h f [] body body') (left m rest em) sb) (then_slim m h [] rest rest' em go sl)
  then_slim m f sh _ _ em go (S.loops {body = body} {body' = body'} {rest = rest} {rest' = rest'} r head h pl co sb sl) =
      S.loops r head h pl co (subst (λ j. Slims t j (head ∷ ts) h head [] body body') (left m rest em) sb) (then_slim m h [] rest rest' em go sl)
  then_slim m f sh _ _ em go (S.decides {a = a} {a' = a'} {b = b} {b' = b'} {rest = rest} {rest' = rest'} r h pl sa sb sl) =
      S.decides r h pl (subst (λ j. Slims t (length (calls_of b) + j) (h ∷ ts) h f [] a a') (left m rest em) sa) (subst (λ j. Slims t j (h ∷ ts) h f [] b b') (left m rest em) sb)
      (then_slim m h [] rest rest' em go sl)

-- ---- what answers are made of

when_so : (b : Bool) (o : Option Pieces) (p : Pieces) → when b o ≡ Some p → (b ≡ true) × (o ≡ Some p)
when_so true o p e = (refl, e)
when_so false o p e = cc

module _ (t : Terms) (small : (x : ℕ) → t.slot x ≡ true → x < t.size) where
  abbrev fr : List ℕ → Free
  fr base = free_by t.slot base

  abbrev fb : Option (List ℕ) → Free
  fb out = free_behind t.slot out

  abbrev joined : Pieces → Code
  joined p = followed_by p.first (flat_units p.units)

  -- what is shown of a piece and units
  abbrev Shown : (n : ℕ) (targets : List (List ℕ)) (out : Option (List ℕ)) (first : Stmts) (us : Units Stmts) → Type 0
  Shown n targets out first us = (pend base : List ℕ) (p : Pieces) → E.Slots t pend → emit_units t n targets out first us pend base ≡ Some p
      → Slims t n (map fr targets) (fb out) (fr base) (E.shape t pend) (whole first us) (joined p)

  call_shown : (n : ℕ) (targets : List (List ℕ)) (out : Option (List ℕ)) (slots : List ℕ) (x : Callee) (to : Option ℕ) (behind : Stmts) (rest : Units Stmts) (e : List ℕ)
      (p : Pieces) → Shown n targets out behind rest
      → all_in (t.fixed (length (calls_of (set_to to (whole behind rest))) + n)) e ≡ true → all_in slots e ≡ true
      → result_pends t to (without slots e) (emit_units t n targets out behind rest) ≡ Some p
      → Slims t n (map fr targets) (fb out) (fr e) [] (slots_got slots (plain (call_to x) (set_to to (whole behind rest)))) (slots_got slots (plain (call_to x) (joined p)))
  call_shown n targets out slots x to behind rest e p ih held got made =
      let z : length slots ≡ 0 + length slots = omega arith in
      E.gets_ok t small n (map fr targets) (fb out) slots 0 e [] (plain (call_to x) (set_to to (whole behind rest))) (plain (call_to x) (joined p)) got
      (subst (λ j. Slims t n (map fr targets) (fb out) (fr e) (more j []) (plain (call_to x) (set_to to (whole behind rest))) (plain (call_to x) (joined p))) z (by_callee x))
    where
      by_result : (to : Option ℕ) → result_pends t to (without slots e) (emit_units t n targets out behind rest) ≡ Some p
          → Slims t n (map fr targets) (fb out) (fr (without slots e)) [] (set_to to (whole behind rest)) (joined p)
      by_result None m = ih [] (without slots e) p tt m
      by_result (Some y) m =
          let h = when_so (can_keep t y []) (emit_units t n targets out behind rest (y ∷ []) (without (y ∷ []) (without slots e))) p m in
          let k = E.both_true (t.slot y) true h.0 in
          E.kept_by t small n (map fr targets) (fb out) y [] (without slots e) [] [] (whole behind rest) (joined p) k.0 takes_same lacks_all
          (ih (y ∷ []) (without (y ∷ []) (without slots e)) p (k.0, tt) h.1)

      after : Slims t n (map fr targets) (fb out) (fr e) [] (set_to to (whole behind rest)) (joined p)
      after = narrows (fr (without slots e)) (E.covers_by t e (without slots e) (λ y m. E.elem_without y slots e m)) (by_result to made)

      kept_here : Held (fr e) (t.fixed (length (calls_of (set_to to (whole behind rest))) + n))
      kept_here = E.held_all t small n (map fr targets) (fb out) (t.fixed (length (calls_of (set_to to (whole behind rest))) + n)) e held

      by_callee : (x : Callee) → Slims t n (map fr targets) (fb out) (fr e) (more (length slots) []) (plain (call_to x) (set_to to (whole behind rest))) (plain (call_to x) (joined p))
      by_callee (direct f) = S.calls f (E.plainly_all t (length slots)) kept_here after
      by_callee (indirect f) = S.calls_by f (E.plainly_all t (length slots)) kept_here after

  -- a piece in front of a unit
  front_ok : (n : ℕ) (targets : List (List ℕ)) (out : Option (List ℕ)) (first : Stmts) (e pend base : List ℕ) (c k k' : Code) → goes_on (code_of first) ≡ true
      → Told t (length (calls_of k) + n) first → E.Slots t pend
      → emit t targets (Some e) first pend base ≡ Some c → Slims t n (map fr targets) (fb out) (fr e) [] k k'
      → Slims t n (map fr targets) (fb out) (fr base) (E.shape t pend) (followed_by (code_of first) k) (followed_by c k')
  front_ok n targets out first e pend base c k k' go told so is behind =
      then_slim t n (map fr targets) (fb out) (fr e) k k' behind (length (calls_of k) + n) (fr base) (E.shape t pend) (code_of first) c refl go
      (E.emit_ok t small (length (calls_of k) + n) targets (Some e) first pend base c told so is)

  call_parts : (n : ℕ) (targets : List (List ℕ)) (out : Option (List ℕ)) (first : Stmts) (slots : List ℕ) (x : Callee) (to : Option ℕ) (behind : Stmts) (rest : Units Stmts)
      → goes_on (code_of first) ≡ true
      → Told t (length (calls_of (flat_units (codes (call_unit slots x to behind rest)))) + n) first → Shown n targets out behind rest → Shown n targets out first (call_unit slots x to behind rest)
  call_parts n targets out first slots x to behind rest go told ih pend base p so e =
      let h = when_so (all_in (t.fixed (length (calls_of (set_to to (whole behind rest))) + n)) e1 && all_in slots e1)
      (with_rest (λ r. call_unit slots x None r.first r.units) (emit t targets (Some e1) first pend base) (result_pends t to (without slots e1) (emit_units t n targets out behind rest))) p e in
      let g = E.both_true (all_in (t.fixed (length (calls_of (set_to to (whole behind rest))) + n)) e1) (all_in slots e1) h.0 in
      by g (emit t targets (Some e1) first pend base) (result_pends t to (without slots e1) (emit_units t n targets out behind rest)) refl refl h.1
    where
      e1 : List ℕ
      e1 = end_of t first (pend ++ base)

      by : (all_in (t.fixed (length (calls_of (set_to to (whole behind rest))) + n)) (end_of t first (pend ++ base)) ≡ true) × (all_in slots (end_of t first (pend ++ base)) ≡ true)
          → (o : Option Code) (r : Option Pieces) → emit t targets (Some (end_of t first (pend ++ base))) first pend base ≡ o
          → result_pends t to (without slots (end_of t first (pend ++ base))) (emit_units t n targets out behind rest) ≡ r
          → with_rest (λ r. call_unit slots x None r.first r.units) o r ≡ Some p
          → Slims t n (map fr targets) (fb out) (fr base) (E.shape t pend) (whole first (call_unit slots x to behind rest)) (joined p)
      by g None r qo qr m = cc
      by g (Some c) None qo qr m = cc
      by g (Some c) (Some r) qo qr m =
          let a : record { first = c; units = call_unit slots x None r.first r.units } ≡ p = cc in
          subst (λ z. Slims t n (map fr targets) (fb out) (fr base) (E.shape t pend) (whole first (call_unit slots x to behind rest)) (joined z)) a
          (front_ok n targets out first (end_of t first (pend ++ base)) pend base c _ _ go told so qo
          (call_shown n targets out slots x to behind rest (end_of t first (pend ++ base)) r ih g.0 g.1 qr))

  nest_parts : (n : ℕ) (targets : List (List ℕ)) (out : Option (List ℕ)) (first : Stmts) (s : Y.Shape) (inner : Stmts) (body : Units Stmts) (behind : Stmts) (rest : Units Stmts)
      → goes_on (code_of first) ≡ true
      → Told t (length (calls_of (flat_units (codes (nest_unit s inner body behind rest)))) + n) first
      → ((e : List ℕ) → Shown (length (calls_of (whole behind rest)) + n) (e ∷ targets) (Some (behind_units t s inner body e)) inner body) → Shown n targets out behind rest
      → Shown n targets out first (nest_unit s inner body behind rest)
  nest_parts n targets out first s inner body behind rest go told ib ih pend base p so e =
      by (emit t targets (Some (end_of t first (pend ++ base))) first pend base)
      (emit_units t (length (calls_of (whole behind rest)) + n) (end_of t first (pend ++ base) ∷ targets)
      (Some (behind_units t s inner body (end_of t first (pend ++ base)))) inner body [] (end_of t first (pend ++ base)))
      (emit_units t n targets out behind rest [] (behind_units t s inner body (end_of t first (pend ++ base)))) refl refl refl e
    where
      nested : (s : Y.Shape) (e1 : List ℕ) (r r2 : Pieces) → Slims t (length (calls_of (whole behind rest)) + n) (fr e1 ∷ map fr targets) (fr (behind_units t s inner body e1))
          (fr e1) [] (whole inner body) (joined r)
          → Slims t n (map fr targets) (fb out) (fr (behind_units t s inner body e1)) [] (whole behind rest) (joined r2)
          → Slims t n (map fr targets) (fb out) (fr e1) [] (nest s None (whole inner body) (whole behind rest)) (nest s None (joined r) (joined r2))
      nested a_block e1 r r2 sb sl = S.blocks None (fr e1) plainly sb sl
      nested a_loop e1 r r2 sb sl = S.loops None (fr e1) (fr (behind_units t a_loop inner body e1)) plainly (λ y h. h) sb sl

      by : (o : Option Code) (r r2 : Option Pieces) → emit t targets (Some (end_of t first (pend ++ base))) first pend base ≡ o
          → emit_units t (length (calls_of (whole behind rest)) + n) (end_of t first (pend ++ base) ∷ targets)
          (Some (behind_units t s inner body (end_of t first (pend ++ base)))) inner body [] (end_of t first (pend ++ base)) ≡ r
          → emit_units t n targets out behind rest [] (behind_units t s inner body (end_of t first (pend ++ base))) ≡ r2
          → with_two (λ u v. nest_unit s u.first u.units v.first v.units) o r r2 ≡ Some p
          → Slims t n (map fr targets) (fb out) (fr base) (E.shape t pend) (whole first (nest_unit s inner body behind rest)) (joined p)
      by None r r2 qo qr q2 m = cc
      by (Some c) None r2 qo qr q2 m = cc
      by (Some c) (Some r) None qo qr q2 m = cc
      by (Some c) (Some r) (Some r2) qo qr q2 m =
          let a : record { first = c; units = nest_unit s r.first r.units r2.first r2.units } ≡ p = cc in
          let e1 = end_of t first (pend ++ base) in
          subst (λ z. Slims t n (map fr targets) (fb out) (fr base) (E.shape t pend) (whole first (nest_unit s inner body behind rest)) (joined z)) a
          (front_ok n targets out first e1 pend base c _ _ go told so qo (nested s e1 r r2 (ib e1 [] e1 r tt qr) (ih [] (behind_units t s inner body e1) r2 tt q2)))

  if_parts : (n : ℕ) (targets : List (List ℕ)) (out : Option (List ℕ)) (first : Stmts) (x : ℕ) (fa : Stmts) (a : Units Stmts) (fb2 : Stmts) (b : Units Stmts) (behind : Stmts)
      (rest : Units Stmts) → goes_on (code_of first) ≡ true
      → Told t (length (calls_of (flat_units (codes (if_unit x fa a fb2 b behind rest)))) + n) first
      → ((e : List ℕ) → Shown (length (calls_of (whole fb2 b)) + (length (calls_of (whole behind rest)) + n)) (e ∷ targets) (Some e) fa a)
      → ((e : List ℕ) → Shown (length (calls_of (whole behind rest)) + n) (e ∷ targets) (Some e) fb2 b)
      → Shown n targets out behind rest → Shown n targets out first (if_unit x fa a fb2 b behind rest)
  if_parts n targets out first x fa a fb2 b behind rest go told ia ib ih pend base p so e =
      let e1 = end_of t first (pend ++ base) in
      let k = without (x ∷ []) e1 in
      let h = when_so (elem x e1) (with_three (λ u v r. if_unit x u.first u.units v.first v.units r.first r.units) (emit t targets (Some e1) first pend base)
      (emit_units t (length (calls_of (whole fb2 b)) + (length (calls_of (whole behind rest)) + n)) (k ∷ targets) (Some k) fa a [] k)
      (emit_units t (length (calls_of (whole behind rest)) + n) (k ∷ targets) (Some k) fb2 b [] k) (emit_units t n targets out behind rest [] k)) p e in
      by e1 h.0 (emit t targets (Some e1) first pend base) (emit_units t (length (calls_of (whole fb2 b)) + (length (calls_of (whole behind rest)) + n)) (k ∷ targets) (Some k) fa a [] k)
      (emit_units t (length (calls_of (whole behind rest)) + n) (k ∷ targets) (Some k) fb2 b [] k) (emit_units t n targets out behind rest [] k) refl refl refl refl h.1
    where
      by : (e1 : List ℕ) → elem x e1 ≡ true → (o : Option Code) (r r2 r3 : Option Pieces) → emit t targets (Some e1) first pend base ≡ o
          → emit_units t (length (calls_of (whole fb2 b)) + (length (calls_of (whole behind rest)) + n)) (without (x ∷ []) e1 ∷ targets) (Some (without (x ∷ []) e1)) fa a [] (without (x ∷ []) e1) ≡ r
          → emit_units t (length (calls_of (whole behind rest)) + n) (without (x ∷ []) e1 ∷ targets) (Some (without (x ∷ []) e1)) fb2 b [] (without (x ∷ []) e1) ≡ r2
          → emit_units t n targets out behind rest [] (without (x ∷ []) e1) ≡ r3 → with_three (λ u v w. if_unit x u.first u.units v.first v.units w.first w.units) o r r2 r3 ≡ Some p
          → Slims t n (map fr targets) (fb out) (fr base) (E.shape t pend) (whole first (if_unit x fa a fb2 b behind rest)) (joined p)
      by e1 m None r r2 r3 qo qr q2 q3 w = cc
      by e1 m (Some c) None r2 r3 qo qr q2 q3 w = cc
      by e1 m (Some c) (Some r) None r3 qo qr q2 q3 w = cc
      by e1 m (Some c) (Some r) (Some r2) None qo qr q2 q3 w = cc
      by e1 m (Some c) (Some r) (Some r2) (Some r3) qo qr q2 q3 w =
          let z : record { first = c; units = if_unit x r.first r.units r2.first r2.units r3.first r3.units } ≡ p = cc in
          let k = without (x ∷ []) e1 in
          subst (λ y. Slims t n (map fr targets) (fb out) (fr base) (E.shape t pend) (whole first (if_unit x fa a fb2 b behind rest)) (joined y)) z
          (front_ok n targets out first e1 pend base c _ _ go told so qo
          (S.gets x (E.held_by t x e1 m) (narrows (fr k) (E.covers_by t e1 k (λ y h. E.elem_without y (x ∷ []) e1 h))
          (S.decides None (fr k) (plainly_held plainly) (ia k [] k r tt qr) (ib k [] k r2 tt q2) (ih [] k r3 tt q3)))))

  pub parts_ok : (n : ℕ) (targets : List (List ℕ)) (out : Option (List ℕ)) (first : Stmts) (us : Units Stmts) → PiecesTold t n first us → Shown n targets out first us
  parts_ok n targets out first no_unit told pend base p so e = by (emit t targets out first pend base) refl e
    where
      by : (o : Option Code) → emit t targets out first pend base ≡ o → lone_piece o ≡ Some p
          → Slims t n (map fr targets) (fb out) (fr base) (E.shape t pend) (followed_by (code_of first) done) (joined p)
      by None q e = cc
      by (Some c) q e =
          let a : record { first = c; units = no_unit } ≡ p = cc in
          subst (λ r. Slims t n (map fr targets) (fb out) (fr base) (E.shape t pend) (followed_by (code_of first) done) (joined r)) a
          (subst (λ k. Slims t n (map fr targets) (fb out) (fr base) (E.shape t pend) k (followed_by c done)) (sym (followed_done (code_of first)))
          (subst (λ k. Slims t n (map fr targets) (fb out) (fr base) (E.shape t pend) (code_of first) k) (sym (followed_done c)) (E.emit_ok t small n targets out first pend base c told so q)))
  parts_ok n targets out first (call_unit slots x to behind rest) told pend base p so e =
      call_parts n targets out first slots x to behind rest told.0 told.1 (parts_ok n targets out behind rest told.2) pend base p so e
  parts_ok n targets out first (nest_unit s inner body behind rest) told pend base p so e =
      nest_parts n targets out first s inner body behind rest told.0 told.1
      (λ e. parts_ok (length (calls_of (whole behind rest)) + n) (e ∷ targets) (Some (behind_units t s inner body e)) inner body told.2) (parts_ok n targets out behind rest told.3) pend base p so e
  parts_ok n targets out first (if_unit x fa a fb2 b behind rest) told pend base p so e =
      if_parts n targets out first x fa a fb2 b behind rest told.0 told.1
      (λ e. parts_ok (length (calls_of (whole fb2 b)) + (length (calls_of (whole behind rest)) + n)) (e ∷ targets) (Some e) fa a told.2)
      (λ e. parts_ok (length (calls_of (whole behind rest)) + n) (e ∷ targets) (Some e) fb2 b told.3)
      (parts_ok n targets out behind rest told.4) pend base p so e

pub pieces_are_slim : PiecesAreSlim
pieces_are_slim t n targets out first us base p small told e = parts_ok t small n targets out first us told [] base p tt e

no_calls_in : (r : Option ℕ) → length (calls_of (result_got r)) + 0 ≡ 0
unfolding calls_of
no_calls_in None = refl
no_calls_in (Some x) = refl

pub bodies_are_slim : BodiesAreSlim
bodies_are_slim t f first us p small join told off e =
    S.blocks None (fr t small []) plainly
    (subst (λ n. Slims t n (fr t small [] ∷ []) (fr t small []) (fr t small []) [] (code_of f.body) (joined t small p)) (sym (no_calls_in f.result))
    (subst (λ c. Slims t 0 (fr t small [] ∷ []) (fr t small []) (fr t small []) [] c (joined t small p)) (sym join) (parts_ok t small 0 ([] ∷ []) (Some []) first us told [] [] p tt e)))
    (by f.result off)
  where
    by : (r : Option ℕ) → IsNoSlot t r → Slims t 0 [] (λ y. true) (free_by t.slot []) [] (result_got r) (result_got r)
    by None h = ends (λ y e. cc) plainly
    by (Some x) h = S.gets x (E.no_slot t x [] (ap not h)) (ends (λ y e. cc) (plainly_held plainly))
