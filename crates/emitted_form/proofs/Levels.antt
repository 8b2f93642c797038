-- How deep the constructs of sections nest, and of the module that they are.
use Rattle.std.proofs.Common.{◌≡◌, ℕ, ◌+◌, ◌≤◌, List, [], ◌∷◌, ◌++◌, Bool, true, false, All, refl, ap, arith}
use Rattle.std.specs.Prelude.{max, nat_le}
use Rattle.std.specs.List.{AllZip, flat_map}
use Rattle.std.proofs.lemmas.Bool.{leb-false, lt-leb}
use Rattle.std.proofs.lemmas.List.Elements.{All-nil, All-cons, All-head, All-tail, All-append}
use Rattle.wa_types.specs.Binary.{RawCode, ended, otherwise, instr, nested, branched, RawGlobal, RawElem, RawBody, RawSegment, Section, custom, types, imports, functions, tables, memories, globals, exports, start, elements, bodies, segments}
use Rattle.wa_types.specs.Counts.{depth_of}
use Rattle.wa_types.specs.Marks.{place_if, code_opens, section_opens, opens}
use Rattle.wa_types.specs.Reading.{IsCode, IsGlobal, IsElem, IsBody, IsSegment, globals_in, elements_in, segments_in, IsModule}
use Rattle.wa_types.specs.Spells.{bodies_in}
use Rattle.wa_types.specs.Syntax.{Code, done, plain, nest, branch, Func, GlobalDef, Elem, Segment, Module}
use Rattle.wasm_reader.proofs.ModulesMade.{join_clear}
use Rattle.emitted_form.proofs.Floats.{each_all, all_clear, front_all, back_all}

-- a list that is empty has empty parts
pub both_empty : {X : Type 0} (xs ys : List X) → xs ++ ys ≡ [] → (xs ≡ []) × (ys ≡ [])
both_empty [] ys e = (refl, e)
both_empty (x ∷ xs) ys e = cc

not_deep : (b : Bool) (k : ℕ) → place_if b k ≡ [] → b ≡ false
not_deep true k e = cc
not_deep false k e = refl

no_depth : (e : Code) → e ≡ done → depth_of e ≡ 0
unfolding depth_of
no_depth e h = ap depth_of h

-- code that opens no level past the bound isn't deeper
code_depth : (bound level : ℕ) (raw : RawCode) (c e : Code) → IsCode raw c e → code_opens bound level raw ≡ [] → level ≤ bound → (level + depth_of c ≤ bound) × (level + depth_of e ≤ bound)
unfolding depth_of
code_depth bound level (ended k) done e h z l = let d = no_depth e h in (omega (arith, l), omega (arith, l, d))
code_depth bound level (ended k) (plain p more) e h z l = absurd h
code_depth bound level (ended k) (nest s r body more) e h z l = absurd h
code_depth bound level (ended k) (branch r a b more) e h z l = absurd h
code_depth bound level (otherwise k arm) done e h z l = (omega (arith, l), (code_depth bound level arm e done h z l).0)
code_depth bound level (otherwise k arm) (plain p more) e h z l = absurd h
code_depth bound level (otherwise k arm) (nest s r body more) e h z l = absurd h
code_depth bound level (otherwise k arm) (branch r a b more) e h z l = absurd h
code_depth bound level (instr op operands rest) (plain p more) e h z l = code_depth bound level rest more e h.1 z l
code_depth bound level (instr op operands rest) done e h z l = absurd h
code_depth bound level (instr op operands rest) (nest s r body more) e h z l = absurd h
code_depth bound level (instr op operands rest) (branch r a b more) e h z l = absurd h
code_depth bound level (nested op result body rest) (nest s r inner more) e h z l =
    let p = both_empty (place_if (nat_le bound level) op.place ++ code_opens bound (level + 1) body) (code_opens bound level rest) z in
    let q = both_empty (place_if (nat_le bound level) op.place) (code_opens bound (level + 1) body) p.0 in
    let low = leb-false bound level (not_deep (nat_le bound level) op.place q.0) in
    let a = code_depth bound (level + 1) body inner done h.2 q.1 (omega (arith, low)) in
    let b = code_depth bound level rest more e h.3 p.1 l in
    (deeper level bound (depth_of inner) (depth_of more) a.0 b.0, b.1)
  where
    deeper : (level bound x y : ℕ) → level + 1 + x ≤ bound → level + y ≤ bound → level + max (1 + x) y ≤ bound
    deeper level bound x y h k = grind (arith, h, k)
code_depth bound level (nested op result body rest) done e h z l = absurd h
code_depth bound level (nested op result body rest) (plain p more) e h z l = absurd h
code_depth bound level (nested op result body rest) (branch r a b more) e h z l = absurd h
code_depth bound level (branched op result arms rest) (branch r x y more) e h z l =
    let p = both_empty (place_if (nat_le bound level) op.place ++ code_opens bound (level + 1) arms) (code_opens bound level rest) z in
    let q = both_empty (place_if (nat_le bound level) op.place) (code_opens bound (level + 1) arms) p.0 in
    let low = leb-false bound level (not_deep (nat_le bound level) op.place q.0) in
    let a = code_depth bound (level + 1) arms x y h.1 q.1 (omega (arith, low)) in
    let b = code_depth bound level rest more e h.2 p.1 l in
    (deeper level bound (depth_of x) (depth_of y) (depth_of more) a.0 a.1 b.0, b.1)
  where
    deeper : (level bound x y w : ℕ) → level + 1 + x ≤ bound → level + 1 + y ≤ bound → level + w ≤ bound → level + max (1 + max x y) w ≤ bound
    deeper level bound x y w h k j = grind (arith, h, k, j)
code_depth bound level (branched op result arms rest) done e h z l = absurd h
code_depth bound level (branched op result arms rest) (plain p more) e h z l = absurd h
code_depth bound level (branched op result arms rest) (nest s r inner more) e h z l = absurd h

-- and the other way round
code_shallow : (bound level : ℕ) (raw : RawCode) (c e : Code) → IsCode raw c e → level + depth_of c ≤ bound → level + depth_of e ≤ bound → code_opens bound level raw ≡ []
unfolding depth_of
code_shallow bound level (ended k) c e h l n = refl
code_shallow bound level (otherwise k arm) done e h l n = code_shallow bound level arm e done h n l
code_shallow bound level (otherwise k arm) (plain p more) e h l n = absurd h
code_shallow bound level (otherwise k arm) (nest s r body more) e h l n = absurd h
code_shallow bound level (otherwise k arm) (branch r a b more) e h l n = absurd h
code_shallow bound level (instr op operands rest) (plain p more) e h l n = code_shallow bound level rest more e h.1 l n
code_shallow bound level (instr op operands rest) done e h l n = absurd h
code_shallow bound level (instr op operands rest) (nest s r body more) e h l n = absurd h
code_shallow bound level (instr op operands rest) (branch r a b more) e h l n = absurd h
code_shallow bound level (nested op result body rest) (nest s r inner more) e h l n =
    let k = parts level bound (depth_of inner) (depth_of more) l in
    let low : nat_le bound level ≡ false = lt-leb bound level (omega (arith, k.0)) in
    join_clear (place_if (nat_le bound level) op.place ++ code_opens bound (level + 1) body) (code_opens bound level rest)
    (join_clear (place_if (nat_le bound level) op.place) (code_opens bound (level + 1) body) (ap (λ b. place_if b op.place) low)
    (code_shallow bound (level + 1) body inner done h.2 k.0 (omega (arith, k.0))))
    (code_shallow bound level rest more e h.3 k.1 n)
  where
    parts : (level bound x y : ℕ) → level + max (1 + x) y ≤ bound → (level + 1 + x ≤ bound) × (level + y ≤ bound)
    parts level bound x y h = (grind (arith, h), grind (arith, h))
code_shallow bound level (nested op result body rest) done e h l n = absurd h
code_shallow bound level (nested op result body rest) (plain p more) e h l n = absurd h
code_shallow bound level (nested op result body rest) (branch r a b more) e h l n = absurd h
code_shallow bound level (branched op result arms rest) (branch r x y more) e h l n =
    let k = parts level bound (depth_of x) (depth_of y) (depth_of more) l in
    let low : nat_le bound level ≡ false = lt-leb bound level (omega (arith, k.0)) in
    join_clear (place_if (nat_le bound level) op.place ++ code_opens bound (level + 1) arms) (code_opens bound level rest)
    (join_clear (place_if (nat_le bound level) op.place) (code_opens bound (level + 1) arms) (ap (λ b. place_if b op.place) low)
    (code_shallow bound (level + 1) arms x y h.1 k.0 k.1))
    (code_shallow bound level rest more e h.2 k.2 n)
  where
    parts : (level bound x y w : ℕ) → level + max (1 + max x y) w ≤ bound → (level + 1 + x ≤ bound) × (level + 1 + y ≤ bound) × (level + w ≤ bound)
    parts level bound x y w h = (grind (arith, h), grind (arith, h), grind (arith, h))
code_shallow bound level (branched op result arms rest) done e h l n = absurd h
code_shallow bound level (branched op result arms rest) (plain p more) e h l n = absurd h
code_shallow bound level (branched op result arms rest) (nest s r inner more) e h l n = absurd h

-- ---- whole modules

-- No code of a module nests deeper.
pub record Levels (bound : ℕ) (m : Module) : Type 0 where
  pub funcs : All (λ (f : Func). depth_of f.body ≤ bound) m.funcs
  pub globals : All (λ (g : GlobalDef). depth_of g.init ≤ bound) m.globals
  pub elems : All (λ (e : Elem). depth_of e.offset ≤ bound) m.elems
  pub segments : All (λ (s : Segment). depth_of s.offset ≤ bound) m.segments

-- The parts of sections open no level past the bound.
record Shallow (bound : ℕ) (ss : List Section) : Type 0 where
  globals : All (λ (g : RawGlobal). code_opens bound 0 g.init ≡ []) (flat_map globals_in ss)
  elems : All (λ (e : RawElem). code_opens bound 0 e.offset ≡ []) (flat_map elements_in ss)
  bodies : All (λ (b : RawBody). code_opens bound 0 b.code ≡ []) (flat_map bodies_in ss)
  segments : All (λ (s : RawSegment). code_opens bound 0 s.offset ≡ []) (flat_map segments_in ss)

clear_all : {X : Type 0} (h : X → List ℕ) (xs : List X) → flat_map h xs ≡ [] → All (λ x. h x ≡ []) xs
clear_all h [] e = All-nil (λ x. h x ≡ [])
clear_all h (x ∷ xs) e = let p = both_empty (h x) (flat_map h xs) e in All-cons (λ x. h x ≡ []) x xs p.0 (clear_all h xs p.1)

-- the parts of one kind
held : {X : Type 0} (bound : ℕ) (g : Section → List X) (h : X → List ℕ) → ((s : Section) → section_opens bound s ≡ [] → flat_map h (g s) ≡ []) → (ss : List Section) → opens bound ss ≡ []
    → All (λ x. h x ≡ []) (flat_map g ss)
held bound g h w [] e = All-nil (λ x. h x ≡ [])
held bound g h w (s ∷ ss) e =
    let p = both_empty (section_opens bound s) (opens bound ss) e in
    All-append (λ x. h x ≡ []) (g s) (flat_map g ss) (clear_all h (g s) (w s p.0)) (held bound g h w ss p.1)

shallow_parts : (bound : ℕ) (ss : List Section) → opens bound ss ≡ [] → Shallow bound ss
shallow_parts bound ss e = record {
  globals = held bound globals_in (λ (g : RawGlobal). code_opens bound 0 g.init) of_globals ss e;
  elems = held bound elements_in (λ (e : RawElem). code_opens bound 0 e.offset) of_elems ss e;
  bodies = held bound bodies_in (λ (b : RawBody). code_opens bound 0 b.code) of_bodies ss e;
  segments = held bound segments_in (λ (s : RawSegment). code_opens bound 0 s.offset) of_segments ss e;
}
  where
    of_globals : (s : Section) → section_opens bound s ≡ [] → flat_map (λ (g : RawGlobal). code_opens bound 0 g.init) (globals_in s) ≡ []
    of_globals (globals gs) e = e
    of_globals _ e = refl

    of_elems : (s : Section) → section_opens bound s ≡ [] → flat_map (λ (e : RawElem). code_opens bound 0 e.offset) (elements_in s) ≡ []
    of_elems (elements es) e = e
    of_elems _ e = refl

    of_bodies : (s : Section) → section_opens bound s ≡ [] → flat_map (λ (b : RawBody). code_opens bound 0 b.code) (bodies_in s) ≡ []
    of_bodies (bodies bs) e = e
    of_bodies _ e = refl

    of_segments : (s : Section) → section_opens bound s ≡ [] → flat_map (λ (s : RawSegment). code_opens bound 0 s.offset) (segments_in s) ≡ []
    of_segments (segments ds) e = e
    of_segments _ e = refl

section_shallow : (bound : ℕ) (s : Section) (ss : List Section) → Shallow bound (s ∷ ss) → section_opens bound s ≡ []
section_shallow bound (globals gs) ss c = all_clear (λ (g : RawGlobal). code_opens bound 0 g.init) gs
    (front_all (λ (g : RawGlobal). code_opens bound 0 g.init ≡ []) gs (flat_map globals_in ss) c.globals)
section_shallow bound (elements es) ss c = all_clear (λ (e : RawElem). code_opens bound 0 e.offset) es
    (front_all (λ (e : RawElem). code_opens bound 0 e.offset ≡ []) es (flat_map elements_in ss) c.elems)
section_shallow bound (bodies bs) ss c = all_clear (λ (b : RawBody). code_opens bound 0 b.code) bs (front_all (λ (b : RawBody). code_opens bound 0 b.code ≡ []) bs (flat_map bodies_in ss) c.bodies)
section_shallow bound (segments ds) ss c = all_clear (λ (s : RawSegment). code_opens bound 0 s.offset) ds
    (front_all (λ (s : RawSegment). code_opens bound 0 s.offset ≡ []) ds (flat_map segments_in ss) c.segments)
section_shallow bound (custom name bytes) ss c = refl
section_shallow bound (types ts) ss c = refl
section_shallow bound (imports is) ss c = refl
section_shallow bound (functions sorts) ss c = refl
section_shallow bound (tables ts) ss c = refl
section_shallow bound (memories ms) ss c = refl
section_shallow bound (exports es) ss c = refl
section_shallow bound (start x) ss c = refl

rest_shallow : (bound : ℕ) (s : Section) (ss : List Section) → Shallow bound (s ∷ ss) → Shallow bound ss
rest_shallow bound s ss c = record {
  globals = back_all (λ (g : RawGlobal). code_opens bound 0 g.init ≡ []) (globals_in s) (flat_map globals_in ss) c.globals;
  elems = back_all (λ (e : RawElem). code_opens bound 0 e.offset ≡ []) (elements_in s) (flat_map elements_in ss) c.elems;
  bodies = back_all (λ (b : RawBody). code_opens bound 0 b.code ≡ []) (bodies_in s) (flat_map bodies_in ss) c.bodies;
  segments = back_all (λ (s : RawSegment). code_opens bound 0 s.offset ≡ []) (segments_in s) (flat_map segments_in ss) c.segments;
}

opens_none : (bound : ℕ) (ss : List Section) → Shallow bound ss → opens bound ss ≡ []
opens_none bound [] c = refl
opens_none bound (s ∷ ss) c = join_clear (section_opens bound s) (opens bound ss) (section_shallow bound s ss c) (opens_none bound ss (rest_shallow bound s ss c))

pub each_back : {X Y : Type 0} (R : X → Y → Type 0) (P : X → Type 0) (Q : Y → Type 0) → ((x : X) (y : Y) → R x y → P x → Q y) → (xs : List X) (ys : List Y) → AllZip R xs ys → All P xs → All Q ys
each_back R P Q w [] [] h p = All-nil Q
each_back R P Q w [] (y ∷ ys) h p = absurd h
each_back R P Q w (x ∷ xs) [] h p = absurd h
each_back R P Q w (x ∷ xs) (y ∷ ys) h p = All-cons Q y ys (w x y h.0 (All-head P x xs p)) (each_back R P Q w xs ys h.1 (All-tail P x xs p))

module _ (bound : ℕ) (ss : List Section) (m : Module) (is : IsModule ss m) where
  low : 0 ≤ bound
  low = omega arith

  shallower : (n : ℕ) → 0 + n ≤ bound → n ≤ bound
  shallower n h = omega (arith, h)

  from_none : (n : ℕ) → n ≤ bound → 0 + n ≤ bound
  from_none n h = omega (arith, h)

  -- a module of sections that open no level past the bound
  pub levels_of : opens bound ss ≡ [] → Levels bound m
  levels_of e =
      let c = shallow_parts bound ss e in
      record {
        funcs = each_back IsBody (λ (b : RawBody). code_opens bound 0 b.code ≡ []) (λ (f : Func). depth_of f.body ≤ bound)
            (λ x y r o. shallower (depth_of y.body) (code_depth bound 0 x.code y.body done r.body o low).0)
            (flat_map bodies_in ss) m.funcs is.funcs c.bodies;
        globals = each_back IsGlobal (λ (g : RawGlobal). code_opens bound 0 g.init ≡ []) (λ (g : GlobalDef). depth_of g.init ≤ bound)
            (λ x y r o. shallower (depth_of y.init) (code_depth bound 0 x.init y.init done r.init o low).0)
            (flat_map globals_in ss) m.globals is.globals c.globals;
        elems = each_back IsElem (λ (e : RawElem). code_opens bound 0 e.offset ≡ []) (λ (e : Elem). depth_of e.offset ≤ bound)
            (λ x y r o. shallower (depth_of y.offset) (code_depth bound 0 x.offset y.offset done r.offset o low).0)
            (flat_map elements_in ss) m.elems is.elems c.elems;
        segments = each_back IsSegment (λ (s : RawSegment). code_opens bound 0 s.offset ≡ []) (λ (s : Segment). depth_of s.offset ≤ bound)
            (λ x y r o. shallower (depth_of y.offset) (code_depth bound 0 x.offset y.offset done r.offset o low).0)
            (flat_map segments_in ss) m.segments is.segments c.segments;
      }

  none_deep : 0 + depth_of done ≤ bound
  unfolding depth_of
  none_deep = omega arith

  -- and the sections of such a module
  pub opens_of : Levels bound m → opens bound ss ≡ []
  opens_of l =
      opens_none bound ss (record {
        globals = each_all IsGlobal (λ (g : RawGlobal). code_opens bound 0 g.init ≡ []) (λ (g : GlobalDef). depth_of g.init ≤ bound)
            (λ x y r d. code_shallow bound 0 x.init y.init done r.init (from_none (depth_of y.init) d) none_deep)
            (flat_map globals_in ss) m.globals is.globals l.globals;
        elems = each_all IsElem (λ (e : RawElem). code_opens bound 0 e.offset ≡ []) (λ (e : Elem). depth_of e.offset ≤ bound)
            (λ x y r d. code_shallow bound 0 x.offset y.offset done r.offset (from_none (depth_of y.offset) d) none_deep)
            (flat_map elements_in ss) m.elems is.elems l.elems;
        bodies = each_all IsBody (λ (b : RawBody). code_opens bound 0 b.code ≡ []) (λ (f : Func). depth_of f.body ≤ bound)
            (λ x y r d. code_shallow bound 0 x.code y.body done r.body (from_none (depth_of y.body) d) none_deep)
            (flat_map bodies_in ss) m.funcs is.funcs l.funcs;
        segments = each_all IsSegment (λ (s : RawSegment). code_opens bound 0 s.offset ≡ []) (λ (s : Segment). depth_of s.offset ≤ bound)
            (λ x y r d. code_shallow bound 0 x.offset y.offset done r.offset (from_none (depth_of y.offset) d) none_deep)
            (flat_map segments_in ss) m.segments is.segments l.segments;
      })
