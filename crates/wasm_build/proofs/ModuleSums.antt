-- The sections of a module add up to it.
use Rattle.std.proofs.Common.{◌≡◌, ℕ, ◌<◌, ◌≤◌, List, [], ◌∷◌, ◌++◌, map, Option, Some, None, option_to_list, refl, ap, sym, ◌∙◌, subst, arith, append-nil, append_assoc, length}
use Rattle.std.specs.List.{AllZip, flat_map}
use Rattle.wa_types.specs.Binary.{Section, custom, types, imports, functions, tables, memories, globals, exports, start, elements, bodies, segments}
use Rattle.wa_types.specs.Syntax.{Func, Custom, Module}
use Rattle.wa_types.specs.Spells.{Rising, sorts_in, bodies_in}
use Rattle.wa_types.specs.Reading.{IsFuncType, IsImport, IsGlobal, IsElem, IsBody, IsSegment, types_in, imports_in, tables_in, memories_in, globals_in, exports_in, starts_in}
use Rattle.wa_types.specs.Reading.{elements_in, segments_in, customs_of, IsModule}
use Rattle.wasm_build.specs.BuildsModule.{State, nothing_yet, AddsAll}

-- what the sections that are left hold of a module
record Rest (p : State) (ss : List Section) (n : Module) : Type 0 where
  types_are : AllZip IsFuncType (flat_map types_in ss) n.types
  imports_are : AllZip IsImport (flat_map imports_in ss) n.imports
  funcs_are : AllZip IsBody (flat_map bodies_in ss) n.funcs
  sorted : p.last < 10 → p.sorts ++ flat_map sorts_in ss ≡ map (λ (f : Func). f.sort) n.funcs
  tables_are : n.tables ≡ flat_map tables_in ss
  memories_are : n.memories ≡ flat_map memories_in ss
  globals_are : AllZip IsGlobal (flat_map globals_in ss) n.globals
  exports_are : n.exports ≡ flat_map exports_in ss
  started : option_to_list p.held.start ++ flat_map starts_in ss ≡ option_to_list n.start
  elems_are : AllZip IsElem (flat_map elements_in ss) n.elems
  segments_are : AllZip IsSegment (flat_map segments_in ss) n.segments
  customs_are : n.customs ≡ customs_of p.last ss

-- a state's module with that behind it
record Joined (p : Module) (n : Module) (q : Module) : Type 0 where
  types_join : q.types ≡ p.types ++ n.types
  imports_join : q.imports ≡ p.imports ++ n.imports
  funcs_join : q.funcs ≡ p.funcs ++ n.funcs
  tables_join : q.tables ≡ p.tables ++ n.tables
  memories_join : q.memories ≡ p.memories ++ n.memories
  globals_join : q.globals ≡ p.globals ++ n.globals
  exports_join : q.exports ≡ p.exports ++ n.exports
  elems_join : q.elems ≡ p.elems ++ n.elems
  segments_join : q.segments ≡ p.segments ++ n.segments
  customs_join : q.customs ≡ p.customs ++ n.customs
  start_is : q.start ≡ n.start

each_none : {X Y : Type 0} (R : X → Y → Type 0) (ys : List Y) → AllZip R [] ys → ys ≡ []
each_none R [] h = refl
each_none R (y ∷ ys) h = absurd h

-- two lists of entries, one behind another
record Split {X Y : Type 0} (R : X → Y → Type 0) (xs more : List X) (zs : List Y) : Type 0 where
  front : List Y
  back : List Y
  whole : zs ≡ front ++ back
  front_is : AllZip R xs front
  back_is : AllZip R more back

split_each : {X Y : Type 0} (R : X → Y → Type 0) (xs more : List X) (zs : List Y) → AllZip R (xs ++ more) zs → Split R xs more zs
split_each R [] more zs h = record { front = []; back = zs; whole = refl; front_is = tt; back_is = h }
split_each R (x ∷ xs) more [] h = absurd h
split_each R (x ∷ xs) more (z ∷ zs) h =
    let r = split_each R xs more zs h.1 in
    record { front = z ∷ r.front; back = r.back; whole = ap (λ s. z ∷ s) r.whole; front_is = (h.0, r.front_is); back_is = r.back_is }

nothing_more : {X : Type 0} (xs ys : List X) → ys ≡ [] → xs ≡ xs ++ ys
nothing_more xs ys e = sym (ap (λ z. xs ++ z) e ∙ append-nil xs)

joined_front : {X : Type 0} (q p a b n : List X) → q ≡ (p ++ a) ++ b → n ≡ a ++ b → q ≡ p ++ n
joined_front q p a b n e f = e ∙ append_assoc p a b ∙ ap (λ z. p ++ z) (sym f)

option_same : (a b : Option ℕ) → option_to_list a ≡ option_to_list b → a ≡ b
option_same None None e = refl
option_same None (Some y) e = absurd (omega (arith, ap length e))
option_same (Some x) None e = absurd (omega (arith, ap length e))
option_same (Some x) (Some y) e = let f : x ≡ y = cc in ap (λ z. Some z) f

start_step : (a b : Option ℕ) (x : ℕ) (xs : List ℕ) → option_to_list a ++ x ∷ xs ≡ option_to_list b → x ∷ xs ≡ option_to_list b
start_step None b x xs e = e
start_step (Some y) None x xs e = absurd (omega (arith, ap length e))
start_step (Some y) (Some z) x xs e = absurd (omega (arith, ap length e))

-- behind the function section there is no other, nor behind the code section
no_sorts : (last : ℕ) (ss : List Section) → 3 ≤ last → Rising last ss → flat_map sorts_in ss ≡ []
no_sorts last [] h r = refl
no_sorts last (custom name content ∷ ss) h r = no_sorts last ss h r
no_sorts last (types ts ∷ ss) h r = no_sorts 1 ss (let e = r.0 in omega (arith, h, e)) r.1
no_sorts last (imports is ∷ ss) h r = no_sorts 2 ss (let e = r.0 in omega (arith, h, e)) r.1
no_sorts last (functions xs ∷ ss) h r = absurd (let e = r.0 in omega (arith, h, e))
no_sorts last (tables xs ∷ ss) h r = no_sorts 4 ss (let e = r.0 in omega (arith, h, e)) r.1
no_sorts last (memories xs ∷ ss) h r = no_sorts 5 ss (let e = r.0 in omega (arith, h, e)) r.1
no_sorts last (globals gs ∷ ss) h r = no_sorts 6 ss (let e = r.0 in omega (arith, h, e)) r.1
no_sorts last (exports xs ∷ ss) h r = no_sorts 7 ss (let e = r.0 in omega (arith, h, e)) r.1
no_sorts last (start x ∷ ss) h r = no_sorts 8 ss (let e = r.0 in omega (arith, h, e)) r.1
no_sorts last (elements es ∷ ss) h r = no_sorts 9 ss (let e = r.0 in omega (arith, h, e)) r.1
no_sorts last (bodies bs ∷ ss) h r = no_sorts 10 ss (let e = r.0 in omega (arith, h, e)) r.1
no_sorts last (segments xs ∷ ss) h r = no_sorts 11 ss (let e = r.0 in omega (arith, h, e)) r.1

no_bodies : (last : ℕ) (ss : List Section) → 10 ≤ last → Rising last ss → flat_map bodies_in ss ≡ []
no_bodies last [] h r = refl
no_bodies last (custom name content ∷ ss) h r = no_bodies last ss h r
no_bodies last (types ts ∷ ss) h r = no_bodies 1 ss (let e = r.0 in omega (arith, h, e)) r.1
no_bodies last (imports is ∷ ss) h r = no_bodies 2 ss (let e = r.0 in omega (arith, h, e)) r.1
no_bodies last (functions xs ∷ ss) h r = no_bodies 3 ss (let e = r.0 in omega (arith, h, e)) r.1
no_bodies last (tables xs ∷ ss) h r = no_bodies 4 ss (let e = r.0 in omega (arith, h, e)) r.1
no_bodies last (memories xs ∷ ss) h r = no_bodies 5 ss (let e = r.0 in omega (arith, h, e)) r.1
no_bodies last (globals gs ∷ ss) h r = no_bodies 6 ss (let e = r.0 in omega (arith, h, e)) r.1
no_bodies last (exports xs ∷ ss) h r = no_bodies 7 ss (let e = r.0 in omega (arith, h, e)) r.1
no_bodies last (start x ∷ ss) h r = no_bodies 8 ss (let e = r.0 in omega (arith, h, e)) r.1
no_bodies last (elements es ∷ ss) h r = no_bodies 9 ss (let e = r.0 in omega (arith, h, e)) r.1
no_bodies last (bodies bs ∷ ss) h r = absurd (let e = r.0 in omega (arith, h, e))
no_bodies last (segments xs ∷ ss) h r = no_bodies 11 ss (let e = r.0 in omega (arith, h, e)) r.1

-- the sections that are left add what they hold
record Added (p : State) (ss : List Section) (n : Module) : Type 0 where
  after : State
  adds : AddsAll ss p after
  joined : Joined p.held n after.held

add_all : (ss : List Section) (p : State) (n : Module) → Rising p.last ss → Rest p ss n → Added p ss n
add_all [] p n r h = record {
  after = p;
  adds = refl;
  joined = record {
    types_join = nothing_more p.held.types n.types (each_none IsFuncType n.types h.types_are);
    imports_join = nothing_more p.held.imports n.imports (each_none IsImport n.imports h.imports_are);
    funcs_join = nothing_more p.held.funcs n.funcs (each_none IsBody n.funcs h.funcs_are);
    tables_join = nothing_more p.held.tables n.tables h.tables_are;
    memories_join = nothing_more p.held.memories n.memories h.memories_are;
    globals_join = nothing_more p.held.globals n.globals (each_none IsGlobal n.globals h.globals_are);
    exports_join = nothing_more p.held.exports n.exports h.exports_are;
    elems_join = nothing_more p.held.elems n.elems (each_none IsElem n.elems h.elems_are);
    segments_join = nothing_more p.held.segments n.segments (each_none IsSegment n.segments h.segments_are);
    customs_join = nothing_more p.held.customs n.customs h.customs_are;
    start_is = option_same p.held.start n.start (sym (append-nil (option_to_list p.held.start)) ∙ h.started);
  };
}
add_all (custom name content ∷ ss) p n r h =
    let one : Custom = record { after = p.last; name = name; bytes = content } in
    let mid : State = record p { held = record p.held { customs = p.held.customs ++ one ∷ [] } } in
    let g = add_all ss mid (record n { customs = customs_of p.last ss }) r (record {
      types_are = h.types_are;
      imports_are = h.imports_are;
      funcs_are = h.funcs_are;
      sorted = h.sorted;
      tables_are = h.tables_are;
      memories_are = h.memories_are;
      globals_are = h.globals_are;
      exports_are = h.exports_are;
      started = h.started;
      elems_are = h.elems_are;
      segments_are = h.segments_are;
      customs_are = refl;
    }) in
    record {
      after = g.after;
      adds = (mid, refl, g.adds);
      joined = record {
        types_join = g.joined.types_join;
        imports_join = g.joined.imports_join;
        funcs_join = g.joined.funcs_join;
        tables_join = g.joined.tables_join;
        memories_join = g.joined.memories_join;
        globals_join = g.joined.globals_join;
        exports_join = g.joined.exports_join;
        elems_join = g.joined.elems_join;
        segments_join = g.joined.segments_join;
        customs_join = joined_front g.after.held.customs p.held.customs (one ∷ []) (customs_of p.last ss) n.customs g.joined.customs_join h.customs_are;
        start_is = g.joined.start_is;
      };
    }
add_all (types ts ∷ ss) p n r h =
    let s = split_each IsFuncType ts (flat_map types_in ss) n.types h.types_are in
    let mid : State = record p { held = record p.held { types = p.held.types ++ s.front }; last = 1 } in
    let g = add_all ss mid (record n { types = s.back }) r.1 (record {
      types_are = s.back_is;
      imports_are = h.imports_are;
      funcs_are = h.funcs_are;
      sorted = λ l. let e = r.0 in h.sorted (omega (arith, e));
      tables_are = h.tables_are;
      memories_are = h.memories_are;
      globals_are = h.globals_are;
      exports_are = h.exports_are;
      started = h.started;
      elems_are = h.elems_are;
      segments_are = h.segments_are;
      customs_are = h.customs_are;
    }) in
    record {
      after = g.after;
      adds = (mid, (s.front, s.front_is, refl), g.adds);
      joined = record {
        types_join = joined_front g.after.held.types p.held.types s.front s.back n.types g.joined.types_join s.whole;
        imports_join = g.joined.imports_join;
        funcs_join = g.joined.funcs_join;
        tables_join = g.joined.tables_join;
        memories_join = g.joined.memories_join;
        globals_join = g.joined.globals_join;
        exports_join = g.joined.exports_join;
        elems_join = g.joined.elems_join;
        segments_join = g.joined.segments_join;
        customs_join = g.joined.customs_join;
        start_is = g.joined.start_is;
      };
    }
add_all (imports is ∷ ss) p n r h =
    let s = split_each IsImport is (flat_map imports_in ss) n.imports h.imports_are in
    let mid : State = record p { held = record p.held { imports = p.held.imports ++ s.front }; last = 2 } in
    let g = add_all ss mid (record n { imports = s.back }) r.1 (record {
      types_are = h.types_are;
      imports_are = s.back_is;
      funcs_are = h.funcs_are;
      sorted = λ l. let e = r.0 in h.sorted (omega (arith, e));
      tables_are = h.tables_are;
      memories_are = h.memories_are;
      globals_are = h.globals_are;
      exports_are = h.exports_are;
      started = h.started;
      elems_are = h.elems_are;
      segments_are = h.segments_are;
      customs_are = h.customs_are;
    }) in
    record {
      after = g.after;
      adds = (mid, (s.front, s.front_is, refl), g.adds);
      joined = record {
        types_join = g.joined.types_join;
        imports_join = joined_front g.after.held.imports p.held.imports s.front s.back n.imports g.joined.imports_join s.whole;
        funcs_join = g.joined.funcs_join;
        tables_join = g.joined.tables_join;
        memories_join = g.joined.memories_join;
        globals_join = g.joined.globals_join;
        exports_join = g.joined.exports_join;
        elems_join = g.joined.elems_join;
        segments_join = g.joined.segments_join;
        customs_join = g.joined.customs_join;
        start_is = g.joined.start_is;
      };
    }
add_all (functions xs ∷ ss) p n r h =
    let mid : State = record p { sorts = p.sorts ++ xs; last = 3 } in
    let g = add_all ss mid n r.1 (record {
      types_are = h.types_are;
      imports_are = h.imports_are;
      funcs_are = h.funcs_are;
      sorted = λ l. append_assoc p.sorts xs (flat_map sorts_in ss) ∙ (let e = r.0 in h.sorted (omega (arith, e)));
      tables_are = h.tables_are;
      memories_are = h.memories_are;
      globals_are = h.globals_are;
      exports_are = h.exports_are;
      started = h.started;
      elems_are = h.elems_are;
      segments_are = h.segments_are;
      customs_are = h.customs_are;
    }) in
    record {
      after = g.after;
      adds = (mid, refl, g.adds);
      joined = record {
        types_join = g.joined.types_join;
        imports_join = g.joined.imports_join;
        funcs_join = g.joined.funcs_join;
        tables_join = g.joined.tables_join;
        memories_join = g.joined.memories_join;
        globals_join = g.joined.globals_join;
        exports_join = g.joined.exports_join;
        elems_join = g.joined.elems_join;
        segments_join = g.joined.segments_join;
        customs_join = g.joined.customs_join;
        start_is = g.joined.start_is;
      };
    }
add_all (tables xs ∷ ss) p n r h =
    let mid : State = record p { held = record p.held { tables = p.held.tables ++ xs }; last = 4 } in
    let g = add_all ss mid (record n { tables = flat_map tables_in ss }) r.1 (record {
      types_are = h.types_are;
      imports_are = h.imports_are;
      funcs_are = h.funcs_are;
      sorted = λ l. let e = r.0 in h.sorted (omega (arith, e));
      tables_are = refl;
      memories_are = h.memories_are;
      globals_are = h.globals_are;
      exports_are = h.exports_are;
      started = h.started;
      elems_are = h.elems_are;
      segments_are = h.segments_are;
      customs_are = h.customs_are;
    }) in
    record {
      after = g.after;
      adds = (mid, refl, g.adds);
      joined = record {
        types_join = g.joined.types_join;
        imports_join = g.joined.imports_join;
        funcs_join = g.joined.funcs_join;
        tables_join = joined_front g.after.held.tables p.held.tables xs (flat_map tables_in ss) n.tables g.joined.tables_join h.tables_are;
        memories_join = g.joined.memories_join;
        globals_join = g.joined.globals_join;
        exports_join = g.joined.exports_join;
        elems_join = g.joined.elems_join;
        segments_join = g.joined.segments_join;
        customs_join = g.joined.customs_join;
        start_is = g.joined.start_is;
      };
    }
add_all (memories xs ∷ ss) p n r h =
    let mid : State = record p { held = record p.held { memories = p.held.memories ++ xs }; last = 5 } in
    let g = add_all ss mid (record n { memories = flat_map memories_in ss }) r.1 (record {
      types_are = h.types_are;
      imports_are = h.imports_are;
      funcs_are = h.funcs_are;
      sorted = λ l. let e = r.0 in h.sorted (omega (arith, e));
      tables_are = h.tables_are;
      memories_are = refl;
      globals_are = h.globals_are;
      exports_are = h.exports_are;
      started = h.started;
      elems_are = h.elems_are;
      segments_are = h.segments_are;
      customs_are = h.customs_are;
    }) in
    record {
      after = g.after;
      adds = (mid, refl, g.adds);
      joined = record {
        types_join = g.joined.types_join;
        imports_join = g.joined.imports_join;
        funcs_join = g.joined.funcs_join;
        tables_join = g.joined.tables_join;
        memories_join = joined_front g.after.held.memories p.held.memories xs (flat_map memories_in ss) n.memories g.joined.memories_join h.memories_are;
        globals_join = g.joined.globals_join;
        exports_join = g.joined.exports_join;
        elems_join = g.joined.elems_join;
        segments_join = g.joined.segments_join;
        customs_join = g.joined.customs_join;
        start_is = g.joined.start_is;
      };
    }
add_all (globals gs ∷ ss) p n r h =
    let s = split_each IsGlobal gs (flat_map globals_in ss) n.globals h.globals_are in
    let mid : State = record p { held = record p.held { globals = p.held.globals ++ s.front }; last = 6 } in
    let g = add_all ss mid (record n { globals = s.back }) r.1 (record {
      types_are = h.types_are;
      imports_are = h.imports_are;
      funcs_are = h.funcs_are;
      sorted = λ l. let e = r.0 in h.sorted (omega (arith, e));
      tables_are = h.tables_are;
      memories_are = h.memories_are;
      globals_are = s.back_is;
      exports_are = h.exports_are;
      started = h.started;
      elems_are = h.elems_are;
      segments_are = h.segments_are;
      customs_are = h.customs_are;
    }) in
    record {
      after = g.after;
      adds = (mid, (s.front, s.front_is, refl), g.adds);
      joined = record {
        types_join = g.joined.types_join;
        imports_join = g.joined.imports_join;
        funcs_join = g.joined.funcs_join;
        tables_join = g.joined.tables_join;
        memories_join = g.joined.memories_join;
        globals_join = joined_front g.after.held.globals p.held.globals s.front s.back n.globals g.joined.globals_join s.whole;
        exports_join = g.joined.exports_join;
        elems_join = g.joined.elems_join;
        segments_join = g.joined.segments_join;
        customs_join = g.joined.customs_join;
        start_is = g.joined.start_is;
      };
    }
add_all (exports xs ∷ ss) p n r h =
    let mid : State = record p { held = record p.held { exports = p.held.exports ++ xs }; last = 7 } in
    let g = add_all ss mid (record n { exports = flat_map exports_in ss }) r.1 (record {
      types_are = h.types_are;
      imports_are = h.imports_are;
      funcs_are = h.funcs_are;
      sorted = λ l. let e = r.0 in h.sorted (omega (arith, e));
      tables_are = h.tables_are;
      memories_are = h.memories_are;
      globals_are = h.globals_are;
      exports_are = refl;
      started = h.started;
      elems_are = h.elems_are;
      segments_are = h.segments_are;
      customs_are = h.customs_are;
    }) in
    record {
      after = g.after;
      adds = (mid, refl, g.adds);
      joined = record {
        types_join = g.joined.types_join;
        imports_join = g.joined.imports_join;
        funcs_join = g.joined.funcs_join;
        tables_join = g.joined.tables_join;
        memories_join = g.joined.memories_join;
        globals_join = g.joined.globals_join;
        exports_join = joined_front g.after.held.exports p.held.exports xs (flat_map exports_in ss) n.exports g.joined.exports_join h.exports_are;
        elems_join = g.joined.elems_join;
        segments_join = g.joined.segments_join;
        customs_join = g.joined.customs_join;
        start_is = g.joined.start_is;
      };
    }
add_all (start x ∷ ss) p n r h =
    let mid : State = record p { held = record p.held { start = Some x }; last = 8 } in
    let g = add_all ss mid n r.1 (record {
      types_are = h.types_are;
      imports_are = h.imports_are;
      funcs_are = h.funcs_are;
      sorted = λ l. let e = r.0 in h.sorted (omega (arith, e));
      tables_are = h.tables_are;
      memories_are = h.memories_are;
      globals_are = h.globals_are;
      exports_are = h.exports_are;
      started = start_step p.held.start n.start x (flat_map starts_in ss) h.started;
      elems_are = h.elems_are;
      segments_are = h.segments_are;
      customs_are = h.customs_are;
    }) in
    record {
      after = g.after;
      adds = (mid, refl, g.adds);
      joined = record {
        types_join = g.joined.types_join;
        imports_join = g.joined.imports_join;
        funcs_join = g.joined.funcs_join;
        tables_join = g.joined.tables_join;
        memories_join = g.joined.memories_join;
        globals_join = g.joined.globals_join;
        exports_join = g.joined.exports_join;
        elems_join = g.joined.elems_join;
        segments_join = g.joined.segments_join;
        customs_join = g.joined.customs_join;
        start_is = g.joined.start_is;
      };
    }
add_all (elements es ∷ ss) p n r h =
    let s = split_each IsElem es (flat_map elements_in ss) n.elems h.elems_are in
    let mid : State = record p { held = record p.held { elems = p.held.elems ++ s.front }; last = 9 } in
    let g = add_all ss mid (record n { elems = s.back }) r.1 (record {
      types_are = h.types_are;
      imports_are = h.imports_are;
      funcs_are = h.funcs_are;
      sorted = λ l. let e = r.0 in h.sorted (omega (arith, e));
      tables_are = h.tables_are;
      memories_are = h.memories_are;
      globals_are = h.globals_are;
      exports_are = h.exports_are;
      started = h.started;
      elems_are = s.back_is;
      segments_are = h.segments_are;
      customs_are = h.customs_are;
    }) in
    record {
      after = g.after;
      adds = (mid, (s.front, s.front_is, refl), g.adds);
      joined = record {
        types_join = g.joined.types_join;
        imports_join = g.joined.imports_join;
        funcs_join = g.joined.funcs_join;
        tables_join = g.joined.tables_join;
        memories_join = g.joined.memories_join;
        globals_join = g.joined.globals_join;
        exports_join = g.joined.exports_join;
        elems_join = joined_front g.after.held.elems p.held.elems s.front s.back n.elems g.joined.elems_join s.whole;
        segments_join = g.joined.segments_join;
        customs_join = g.joined.customs_join;
        start_is = g.joined.start_is;
      };
    }
add_all (bodies bs ∷ ss) p n r h =
    let s = split_each IsBody bs (flat_map bodies_in ss) n.funcs h.funcs_are in
    let none = each_none IsBody s.back (subst (λ z. AllZip IsBody z s.back) (no_bodies 10 ss (omega arith) r.1) s.back_is) in
    let all : n.funcs ≡ s.front = s.whole ∙ ap (λ z. s.front ++ z) none ∙ append-nil s.front in
    let sorted : map (λ (f : Func). f.sort) s.front ≡ p.sorts = ap (map (λ (f : Func). f.sort)) (sym all) ∙ sym (let e = r.0 in h.sorted e)
    ∙ ap (λ z. p.sorts ++ z) (no_sorts 10 ss (omega arith) r.1) ∙ append-nil p.sorts in
    let mid : State = record p { held = record p.held { funcs = p.held.funcs ++ s.front }; last = 10 } in
    let g = add_all ss mid (record n { funcs = s.back }) r.1 (record {
      types_are = h.types_are;
      imports_are = h.imports_are;
      funcs_are = s.back_is;
      sorted = λ l. absurd (omega (arith, l));
      tables_are = h.tables_are;
      memories_are = h.memories_are;
      globals_are = h.globals_are;
      exports_are = h.exports_are;
      started = h.started;
      elems_are = h.elems_are;
      segments_are = h.segments_are;
      customs_are = h.customs_are;
    }) in
    record {
      after = g.after;
      adds = (mid, (s.front, s.front_is, sorted, refl), g.adds);
      joined = record {
        types_join = g.joined.types_join;
        imports_join = g.joined.imports_join;
        funcs_join = joined_front g.after.held.funcs p.held.funcs s.front s.back n.funcs g.joined.funcs_join s.whole;
        tables_join = g.joined.tables_join;
        memories_join = g.joined.memories_join;
        globals_join = g.joined.globals_join;
        exports_join = g.joined.exports_join;
        elems_join = g.joined.elems_join;
        segments_join = g.joined.segments_join;
        customs_join = g.joined.customs_join;
        start_is = g.joined.start_is;
      };
    }
add_all (segments xs ∷ ss) p n r h =
    let s = split_each IsSegment xs (flat_map segments_in ss) n.segments h.segments_are in
    let mid : State = record p { held = record p.held { segments = p.held.segments ++ s.front }; last = 11 } in
    let g = add_all ss mid (record n { segments = s.back }) r.1 (record {
      types_are = h.types_are;
      imports_are = h.imports_are;
      funcs_are = h.funcs_are;
      sorted = λ l. absurd (omega (arith, l));
      tables_are = h.tables_are;
      memories_are = h.memories_are;
      globals_are = h.globals_are;
      exports_are = h.exports_are;
      started = h.started;
      elems_are = h.elems_are;
      segments_are = s.back_is;
      customs_are = h.customs_are;
    }) in
    record {
      after = g.after;
      adds = (mid, (s.front, s.front_is, refl), g.adds);
      joined = record {
        types_join = g.joined.types_join;
        imports_join = g.joined.imports_join;
        funcs_join = g.joined.funcs_join;
        tables_join = g.joined.tables_join;
        memories_join = g.joined.memories_join;
        globals_join = g.joined.globals_join;
        exports_join = g.joined.exports_join;
        elems_join = g.joined.elems_join;
        segments_join = joined_front g.after.held.segments p.held.segments s.front s.back n.segments g.joined.segments_join s.whole;
        customs_join = g.joined.customs_join;
        start_is = g.joined.start_is;
      };
    }

-- a module's sections lead from nothing to it
pub record Sum (ss : List Section) (m : Module) : Type 0 where
  pub after : State
  pub adds : AddsAll ss nothing_yet after
  pub is : after.held ≡ m

pub module_adds : (ss : List Section) (m : Module) → Rising 0 ss → IsModule ss m → Sum ss m
module_adds ss m r h =
    let g = add_all ss nothing_yet m r (record {
      types_are = h.types;
      imports_are = h.imports;
      funcs_are = h.funcs;
      sorted = λ l. sym h.sorts;
      tables_are = h.tables;
      memories_are = h.memories;
      globals_are = h.globals;
      exports_are = h.exports;
      started = sym h.start;
      elems_are = h.elems;
      segments_are = h.segments;
      customs_are = h.customs;
    }) in
    let j = g.joined in
    record {
      after = g.after;
      adds = g.adds;
      is = λ i. record {
        types = j.types_join i;
        imports = j.imports_join i;
        funcs = j.funcs_join i;
        tables = j.tables_join i;
        memories = j.memories_join i;
        globals = j.globals_join i;
        exports = j.exports_join i;
        start = j.start_is i;
        elems = j.elems_join i;
        segments = j.segments_join i;
        customs = j.customs_join i;
      };
    }
