-- Instantiation gives stores that belong together.
use Rattle.headline.specs.Emitted.{FirstStore, SameInstance}
use Rattle.headline.specs.World.{World, base}
use Rattle.headline.proofs.FromOpenings.{OpensTogether}
use Rattle.std.proofs.Common.{Bool, List, None, Option, Some, [], ap, arith, drop, false, length, length-drop, map, refl, subst, suc, sym, take, true, ℕ, ◌*◌, ◌++◌, ◌+◌, ◌∙◌, ◌∷◌, ◌≡◌, ◌≤◌}
use Rattle.std.proofs.lemmas.Bool.{leb-true}
use Rattle.std.proofs.lemmas.List.{drop-drop, length-replicate, length-take-le, take-append-drop}
use Rattle.std.specs.Prelude.{if◌then◌else◌, nat_le, nat_lt, replicate}
use Rattle.run_theory.proofs.GrownInstances.{OpeningStays, opening_stays}
use Rattle.run_theory.proofs.NamedModules.{InstanceNamed, valid_instance}
use Rattle.run_theory.proofs.QuietRuns.{is_grown}
use Rattle.run_theory.specs.Growth.{grown_store, spaces_of}
use Rattle.wa_model.specs.Instantiation.{Opening, Piece, all_values, byte_piece, bytes_checked, elem_piece, elems_checked, fails_as, filled, first_out, least_of, opened_by, opening, opens, put_piece, put_pieces}
use Rattle.wa_model.specs.Store.{Store}
use Rattle.wa_ops.specs.Operate.{are_of}
use Rattle.wa_types.proofs.MemoryLemmas.{length-overwritten}
use Rattle.wa_types.specs.Base.{Base}
use Rattle.wa_types.specs.Memory.{page_size}
use Rattle.wa_types.specs.Modules.{all_memories, all_tables, imported, imported_global}
use Rattle.wa_types.specs.Runtime.{func_space, global_space, runtime_exports, runtime_funcs, runtime_globals, runtime_types, with_runtime}
use Rattle.wa_types.specs.Syntax.{Module}
use Rattle.wa_types.specs.Typing.{GlobalType}
use Rattle.wa_types.specs.Validity.{Valid}
use Rattle.wa_types.specs.declared.values.Value.{Value}
use Rattle.wa_types.specs.declared.values.Value.TheVariants as V

pub same_opening : (p q : Module) (values : List Value) → SameInstance p q → opening p values ≡ opening q values
same_opening p q values h =
    ap (λ a. opening (record {
      types = p.types;
      imports = a;
      funcs = p.funcs;
      tables = p.tables;
      memories = p.memories;
      globals = p.globals;
      exports = p.exports;
      start = p.start;
      elems =
          p.elems;
      segments = p.segments;
      customs = p.customs;
    }) values) h.imports
    ∙ ap (λ a. opening (record {
      types = p.types;
      imports = q.imports;
      funcs = p.funcs;
      tables = a;
      memories = p.memories;
      globals = p.globals;
      exports = p.exports;
      start = p.start;
      elems =
          p.elems;
      segments = p.segments;
      customs = p.customs;
    }) values) h.tables
    ∙ ap (λ a. opening (record {
      types = p.types;
      imports = q.imports;
      funcs = p.funcs;
      tables = q.tables;
      memories = a;
      globals = p.globals;
      exports = p.exports;
      start = p.start;
      elems =
          p.elems;
      segments = p.segments;
      customs = p.customs;
    }) values) h.memories
    ∙ ap (λ a. opening (record {
      types = p.types;
      imports = q.imports;
      funcs = p.funcs;
      tables = q.tables;
      memories = q.memories;
      globals = a;
      exports = p.exports;
      start = p.start;
      elems =
          p.elems;
      segments = p.segments;
      customs = p.customs;
    }) values) h.globals
    ∙ ap (λ a. opening (record {
      types = p.types;
      imports = q.imports;
      funcs = p.funcs;
      tables = q.tables;
      memories = q.memories;
      globals = q.globals;
      exports = p.exports;
      start =
          p.start;
      elems = a;
      segments = p.segments;
      customs = p.customs;
    }) values) h.elems
    ∙ ap (λ a. opening (record {
      types = p.types;
      imports = q.imports;
      funcs = p.funcs;
      tables = q.tables;
      memories = q.memories;
      globals = q.globals;
      exports = p.exports;
      start =
          p.start;
      elems = q.elems;
      segments = a;
      customs = p.customs;
    }) values) h.segments

-- ---- the memory of a new instance has its declared size

all_in : (xs : List ℕ) (i : ℕ) (ps : List (Piece ℕ)) → first_out (length xs) i ps ≡ None → length (put_pieces xs ps) ≡ length xs
all_in xs i [] h = refl
all_in xs i (p ∷ ps) h = by (λ ys q. all_in ys (suc i) ps q) (nat_le (p.at + length p.items) (length xs)) refl h
  where
    by : ((ys : List ℕ) → first_out (length ys) (suc i) ps ≡ None → length (put_pieces ys ps) ≡ length ys) → (b : Bool) → nat_le (p.at + length p.items) (length xs) ≡ b
        → (if b then first_out (length xs) (suc i) ps else Some i) ≡ None → length (put_pieces (put_piece xs p) ps) ≡ length xs
    by ih true e q =
        let le = leb-true (p.at + length p.items) (length xs) e in
        let one : length (put_piece xs p) ≡ length xs = length-overwritten xs p.at p.items le in
        ih (put_piece xs p) (subst (λ n. first_out n (suc i) ps ≡ None) (sym one) q) ∙ one
    by ih false e q = cc

abbrev Sized : ℕ → Opening → Type 0
Sized n (fails_as e) = Unit {0}
Sized n (opens s) = length s.memory ≡ n

filled_sized : (globals : List Value) (memory : List ℕ) (table : List (Option ℕ)) (elems : List (Piece (Option ℕ))) (bytes : List (Piece ℕ))
    → Sized (length memory) (filled globals memory table elems bytes)
filled_sized globals memory table elems bytes = by_elems (first_out (length table) 0 elems)
  where
    by_bytes : (o : Option ℕ) → first_out (length memory) 0 bytes ≡ o → Sized (length memory) (bytes_checked globals memory table elems bytes o)
    by_bytes (Some i) e = tt
    by_bytes None e = all_in memory 0 bytes e

    by_elems : (o : Option ℕ) → Sized (length memory) (elems_checked globals memory table elems bytes o)
    by_elems (Some i) = tt
    by_elems None = by_bytes (first_out (length memory) 0 bytes) refl

opening_sized : (m : Module) (values : List Value) → Sized (least_of (all_memories m) * page_size) (opening m values)
opening_sized m values = by (nat_lt 1024 (least_of (all_memories m))) (nat_lt 100000 (least_of (all_tables m)))
  where
    by : (a b : Bool) → Sized (least_of (all_memories m) * page_size) (opened_by m (all_values values m) (least_of (all_memories m)) (least_of (all_tables m)) a b)
    by true b = tt
    by false true = tt
    by false false =
        let n : length (replicate (least_of (all_memories m) * page_size) 0) ≡ least_of (all_memories m) * page_size = length-replicate (least_of (all_memories m) * page_size) 0 in
        subst (λ k. Sized k (filled (all_values values m) (replicate (least_of (all_memories m) * page_size) 0) (replicate (least_of (all_tables m)) None)
        (map (elem_piece (all_values values m)) m.elems) (map (byte_piece (all_values values m)) m.segments))) n
        (filled_sized (all_values values m) (replicate (least_of (all_memories m) * page_size) 0) (replicate (least_of (all_tables m)) None) (map (elem_piece (all_values values m)) m.elems)
        (map (byte_piece (all_values values m)) m.segments))

-- ---- both open together

base_instance : (m : Module) → InstanceNamed m → InstanceNamed (Base m)
unfolding Base
base_instance m h = record { elem_offsets = h.elem_offsets; segment_offsets = h.segment_offsets; elem_funcs = h.elem_funcs; start = h.start }

base_globals : (m : Module) (values : List Value) → are_of (map (λ (g : GlobalType). g.ty) (imported imported_global m)) values ≡ true
    → are_of (map (λ (g : GlobalType). g.ty) (imported imported_global (Base m))) values ≡ true
unfolding Base
base_globals m values h = h

base_count : (m : Module) → (spaces_of (Base m)).globals ≡ global_space m
unfolding Base
base_count m = refl

module _ (w : World) (G : Store → Type 0) (valid : Valid w.original) (same : SameInstance w.written (with_runtime w.original))
    (typed : are_of (map (λ (g : GlobalType). g.ty) (imported imported_global w.original)) w.plan.globals ≡ true) (ins : w.plan.area.at + w.plan.area.len ≤ least_of (all_memories (base w)) * page_size)
    (first : FirstStore w G (opening (base w) w.plan.globals)) where
  pub opens_together : OpensTogether w G (opening (base w) w.plan.globals) (opening w.written w.plan.globals)
  opens_together =
      let m = w.original in
      let stays = opening_stays (Base m) runtime_types (runtime_funcs (length m.types) (global_space m) (global_space m + 1)) runtime_globals (runtime_exports (func_space m)) w.plan.globals
      (base_globals m w.plan.globals typed) (base_instance m (valid_instance m valid)) in
      let written_as = same_opening w.written (with_runtime m) w.plan.globals same ∙ ap (λ q. opening q w.plan.globals) (is_grown m) in
      subst (OpensTogether w G (opening (base w) w.plan.globals)) (sym written_as)
      (by (opening (base w) w.plan.globals) _ stays (opening_sized (base w) w.plan.globals) first)
    where
      by : (o o' : Opening) → OpeningStays (V.I32 0 ∷ V.I32 0 ∷ []) (spaces_of (Base w.original)) o o' → Sized (least_of (all_memories (base w)) * page_size) o → FirstStore w G o
          → OpensTogether w G o o'
      by (fails_as e) o' h sz f = h
      by (opens s) o' h sz f =
          let at = w.plan.area.at in let len = w.plan.area.len in
          let room : at + len ≤ length s.memory = omega (arith, sz, ins) in
          let named = h.1 in
          let own : length s.globals ≡ global_space w.original = named.globals ∙ base_count w.original in
          let ld = length-drop at s.memory in
          let split : take at s.memory ++ (take len (drop at s.memory) ++ drop (at + len) s.memory) ≡ s.memory =
          ap (λ z. take at s.memory ++ (take len (drop at s.memory) ++ z)) (sym (drop-drop_of len at s.memory)) ∙ ap (λ z. take at s.memory ++ z) (take-append-drop len (drop at s.memory))
          ∙ take-append-drop at s.memory in (
            grown_store (V.I32 0 ∷ V.I32 0 ∷ []) s,
            h.0,
            f.0,
            record {
              own = s.globals;
              more = [];
              quiet = refl;
              address = V.I32 0;
              low = take at s.memory;
              held = take len (drop at s.memory);
              held' = take len (drop at s.memory);
              high = drop (at + len) s.memory;
              own_size = own;
              globals = no_more s.globals;
              globals' = refl;
              low_size = length-take-le at s.memory (omega arith);
              held_size = length-take-le len (drop at s.memory) (omega arith);
              held_size' = length-take-le len (drop at s.memory) (omega arith);
              memory = sym split;
              memory' = sym split;
              table = f.1;
              table' = f.1;
            },
          )
        where
          no_more : (xs : List Value) → xs ≡ xs ++ []
          no_more [] = refl
          no_more (x ∷ xs) = ap (λ ys. x ∷ ys) (no_more xs)

          drop-drop_of : (len at : ℕ) (xs : List ℕ) → drop len (drop at xs) ≡ drop (at + len) xs
          drop-drop_of len at xs = drop-drop len at xs
