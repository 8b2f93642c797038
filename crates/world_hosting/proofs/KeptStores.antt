-- What a run of a valid module keeps of its store: the values of constant globals, and a number of pages within the memory's bounds.
use Rattle.std.proofs.Common.{◌≡◌, ◌≤◌, ℕ, zero, suc, ◌+◌, ◌*◌, ◌/◌, Bool, true, false, cond, leb, List, [], ◌∷◌, ◌++◌, length, map, replicate, Option, Some, None, All, refl, sym, ap, ◌∙◌, subst, arith, length-append}
use Rattle.std.specs.Prelude.{nat_lt, nat_le, slice_get, slice_set}
use Rattle.std.specs.List.{list_all}
use Rattle.std.specs.Option.{option_map}
use Rattle.std.proofs.lemmas.Bool.{and_parts, leb-true, ltb-false}
use Rattle.std.proofs.lemmas.List.{length-replicate}
use Rattle.std.proofs.lemmas.List.Elements.{All-head, All-tail}
use Rattle.std.proofs.lemmas.Option.{slice_get-map}
use Rattle.wa_types.specs.declared.syntax.Limits.{Limits}
use Rattle.wa_types.specs.declared.values.ValType.{ValType}
use Rattle.wa_types.specs.declared.values.Value.{Value}
use Rattle.wa_types.specs.Counts.{depth_of}
use Rattle.wa_types.specs.Memory.{page_size, pages_of, page_bound, overwritten, bytes_of}
use Rattle.wa_types.specs.Modules.{all_globals, all_memories, all_tables, around}
use Rattle.wa_types.specs.Syntax.{Code, plain, basic, global_set, Module}
use Rattle.wa_types.specs.Typing.{Around, GlobalType, Takes, Types, sets_global}
use Rattle.wa_types.specs.Validity.{Valid, limits_fit, max_fits}
use Rattle.wa_types.proofs.MemoryLemmas.{length-overwritten, length-bytes_of}
use Rattle.wa_model.specs.declared.answers.Area.{Area}
use Rattle.wa_model.specs.Configuration.{Configuration}
use Rattle.wa_model.specs.Instantiation.{opens, opening, opened_by, least_of, all_values, Piece, elem_piece, byte_piece, first_out, put_piece, put_pieces, bytes_checked, elems_checked, filled}
use Rattle.wa_model.specs.Blocking.{poked, poked_memory}
use Rattle.wa_model.specs.Outside.{Poke}
use Rattle.wa_model.specs.Protocol.{put_word, with_words}
use Rattle.wa_model.specs.Step.{Next, first_max, memory_max, step}
use Rattle.wa_model.specs.Store.{Store, with_memory}
use Rattle.run_theory.specs.Fitting.{Fits}
use Rattle.run_theory.specs.Heights.{most_operands}
use Rattle.run_theory.proofs.FittingSteps.{restands}
use Rattle.run_laws.specs.Ranges.{PokeInside}
use Rattle.interp.specs.Restoring.{PagesFit}
use Rattle.pause_host.specs.Thawing.{SameConstants, mutables_of}
use Rattle.world_hosting.proofs.ReducedStores.{NextKept, FrontKeeps, step_kept}

-- so many pages, within the bounds of the module's memory
pub record HasPages (m : Module) (memory : List ℕ) : Type 0 where
  pub pages : ℕ
  pub whole : length memory ≡ pages * page_size
  pub fit : PagesFit m pages

-- the constant globals have these values, and the memory such pages
pub record IsKept (m : Module) (opened : List Value) (s : Store) : Type 0 where
  pub constants : SameConstants (mutables_of m) opened s.globals
  pub memory : HasPages m s.memory

-- ---- a set of a global

-- a global that typed code sets is mutable
set_mutable : (c : Around) (ls : List (Option ValType)) (x : ℕ) (rest : Code) (outs ins : List ValType) → Types c ls (plain (basic (global_set x)) rest) outs ins
    → (g : GlobalType) × (slice_get c.globals x ≡ Some g) × (g.mutable ≡ true)
unfolding Types
set_mutable c ls x rest outs ins h = by_global (slice_get c.globals x) refl h.1
  where
    by_flag : (g : GlobalType) (b : Bool) → g.mutable ≡ b → slice_get c.globals x ≡ Some g → Takes (sets_global (Some (record { ty = g.ty; mutable = b }))) ins h.0
        → (y : GlobalType) × (slice_get c.globals x ≡ Some y) × (y.mutable ≡ true)
    by_flag g true e there t = (g, there, e)
    by_flag g false e there t = absurd t

    by_global : (o : Option GlobalType) → slice_get c.globals x ≡ o → Takes (sets_global o) ins h.0 → (y : GlobalType) × (slice_get c.globals x ≡ Some y) × (y.mutable ≡ true)
    by_global None e t = absurd t
    by_global (Some g) e t = by_flag g g.mutable refl e t

set_other : (vs : List Value) (x i : ℕ) (v : Value) → (i ≡ x → ⊥) → slice_get (slice_set vs x v) i ≡ slice_get vs i
set_other [] x i v other = refl
set_other (w ∷ vs) zero zero v other = absurd (other refl)
set_other (w ∷ vs) zero (suc i) v other = refl
set_other (w ∷ vs) (suc x) zero v other = refl
set_other (w ∷ vs) (suc x) (suc i) v other = set_other vs x i v (λ e. other (ap suc e))

-- .. so that no constant changes
set_keeps : (gs : List GlobalType) (opened values : List Value) (x : ℕ) (v : Value) (g : GlobalType) → slice_get gs x ≡ Some g → g.mutable ≡ true
    → SameConstants (map (λ (y : GlobalType). y.mutable) gs) opened values → SameConstants (map (λ (y : GlobalType). y.mutable) gs) opened (slice_set values x v)
set_keeps gs opened values x v g there mutable h i constant =
    set_other values x i v
    (λ e.
    let flag : Some g.mutable ≡ Some false =
    sym (ap (option_map (λ (y : GlobalType). y.mutable)) there) ∙ sym (slice_get-map (λ (y : GlobalType). y.mutable) gs x) ∙ ap (slice_get (map (λ (y : GlobalType). y.mutable) gs)) (sym e) ∙ constant in
    let both : Some true ≡ Some false = ap (λ b. Some b) (sym mutable) ∙ flag in
    cc)
    ∙ h i constant

-- ---- memory

same_pages : (m : Module) (before now : List ℕ) → length now ≡ length before → HasPages m before → HasPages m now
same_pages m before now e h = record { pages = h.pages; whole = e ∙ h.whole; fit = h.fit }

more_pages : (m : Module) (memory : List ℕ) (n : ℕ) → pages_of memory + n ≤ page_bound (memory_max m) → HasPages m memory → HasPages m (memory ++ replicate (n * page_size) 0)
more_pages m memory n most h =
    let filler : ℕ = 0 in
    let long : length (memory ++ replicate (n * 65536) filler) ≡ length memory + n * 65536 =
    length-append memory (replicate (n * 65536) filler) ∙ ap (λ (k : ℕ). length memory + k) (length-replicate (n * 65536) filler) in
    let whole : length memory ≡ h.pages * 65536 = h.whole in
    let least = h.fit.least in
    let few : length memory / 65536 + n ≤ page_bound (memory_max m) = most in
    record { pages = h.pages + n; whole = omega (arith, long, whole); fit = record { least = omega (arith, least); most = omega (arith, few, whole) } }

-- ---- one reduction

module _ (p : Module) (opened : List Value) where
  -- it is kept, and the memory is no shorter
  abbrev pub IsLonger : ℕ → Store → Type 0
  IsLonger low s = IsKept p opened s × (low ≤ length s.memory)

  pub wrote : (low : ℕ) (s : Store) (memory : List ℕ) → length memory ≡ length s.memory → IsLonger low s → IsLonger low (with_memory s memory)
  wrote low s memory e h = (record { constants = h.0.constants; memory = same_pages p s.memory memory e h.0.memory }, omega (arith, e, h.1))

  pub grew_on : (low : ℕ) (s : Store) (n : ℕ) → pages_of s.memory + n ≤ page_bound (memory_max p) → IsLonger low s → IsLonger low (with_memory s (s.memory ++ replicate (n * page_size) 0))
  grew_on low s n most h =
      (record { constants = h.0.constants; memory = more_pages p s.memory n most h.0.memory }, (let more = length-append s.memory (replicate (n * page_size) 0) in omega (arith, more, h.1)))

  abbrev pub NextLonger : ℕ → Next → Type 0
  NextLonger low = NextKept (memory_max p) (IsLonger low) (wrote low) (grew_on low)

  pub step_longer : (outs : List ValType) (c : Configuration) → Fits p outs c → IsKept p opened c.store → NextLonger (length c.store.memory) (step p c)
  step_longer outs c fits h = step_kept (memory_max p) (IsLonger low) (wrote low) (grew_on low) p refl c (h, omega arith) front
    where
      low : ℕ
      low = length c.store.memory

      front : FrontKeeps (memory_max p) (IsLonger low) (wrote low) (grew_on low) p refl c.store c.here.code
      front x v rest e =
          let a = fits.here in
          let k = restands p (most_operands p a.func.body 0) (depth_of a.func.body) (around p a.func) a.results c.here.labels c.here.code a.own a.below a.stands in
          let g = set_mutable (around p a.func) a.results x rest k.outs a.own (subst (λ (code : Code). Types (around p a.func) a.results code k.outs a.own) e k.typed) in
          (record { constants = set_keeps (all_globals p) opened c.store.globals x v g.0 g.1 g.2 h.constants; memory = h.memory }, omega arith)

-- ---- what the host writes

poked_same : (memory : List ℕ) (ps : List Poke) → All (PokeInside (length memory)) ps → length (poked_memory memory ps) ≡ length memory
poked_same memory [] h = refl
poked_same memory (p ∷ ps) h =
    let one : length (overwritten memory p.at p.bytes) ≡ length memory = length-overwritten memory p.at p.bytes (All-head (PokeInside (length memory)) p ps h) in
    poked_same (overwritten memory p.at p.bytes) ps (subst (λ (n : ℕ). All (PokeInside n) ps) (sym one) (All-tail (PokeInside (length memory)) p ps h)) ∙ one

pub poked_long : (s : Store) (ps : List Poke) → All (PokeInside (length s.memory)) ps → length (poked s ps).memory ≡ length s.memory
poked_long s ps h = poked_same s.memory ps h

pub poked_kept : (m : Module) (opened : List Value) (s : Store) (ps : List Poke) → All (PokeInside (length s.memory)) ps → IsKept m opened s → IsKept m opened (poked s ps)
poked_kept m opened s ps inside h = record { constants = h.constants; memory = same_pages m s.memory (poked_memory s.memory ps) (poked_same s.memory ps inside) h.memory }

word_same : (memory : List ℕ) (at n : ℕ) → at + 4 ≤ length memory → length (put_word memory at n) ≡ length memory
word_same memory at n h = let four = length-bytes_of 4 n in length-overwritten memory at (bytes_of 4 n) (omega (arith, four, h))

pub words_long : (s : Store) (area : Area) → 8 ≤ area.len → area.at + area.len ≤ length s.memory → length (with_words s area).memory ≡ length s.memory
words_long s area wide inside =
    let one = word_same s.memory area.at (area.at + 8) (omega (arith, wide, inside)) in
    word_same (put_word s.memory area.at (area.at + 8)) (area.at + 4) (area.at + area.len) (omega (arith, one, wide, inside)) ∙ one

pub words_kept : (m : Module) (opened : List Value) (s : Store) (area : Area) → 8 ≤ area.len → area.at + area.len ≤ length s.memory → IsKept m opened s → IsKept m opened (with_words s area)
words_kept m opened s area wide inside h =
    record { constants = h.constants; memory = same_pages m s.memory (with_words s area).memory (words_long s area wide inside) h.memory }

-- ---- instantiation

pieces_same : (bytes : List ℕ) (ps : List (Piece ℕ)) (size i : ℕ) → size ≡ length bytes → first_out size i ps ≡ None → length (put_pieces bytes ps) ≡ length bytes
pieces_same bytes [] size i e none = refl
pieces_same bytes (p ∷ ps) size i e none = by_place (leb (p.at + length p.items) size) refl none (λ z k. pieces_same (put_piece bytes p) ps size (suc i) z k)
  where
    by_place : (b : Bool) → leb (p.at + length p.items) size ≡ b → cond b (first_out size (suc i) ps) (Some i) ≡ None
        → (size ≡ length (put_piece bytes p) → first_out size (suc i) ps ≡ None → length (put_pieces (put_piece bytes p) ps) ≡ length (put_piece bytes p))
        → length (put_pieces (put_piece bytes p) ps) ≡ length bytes
    by_place true z k on =
        let le : p.at + length p.items ≤ size = leb-true _ _ z in
        let same : length (put_piece bytes p) ≡ length bytes = length-overwritten bytes p.at p.items (omega (arith, le, e)) in
        on (e ∙ sym same) k ∙ same
    by_place false z k on = cc

filled_same : (globals : List Value) (memory : List ℕ) (table : List (Option ℕ)) (elems : List (Piece (Option ℕ))) (bytes : List (Piece ℕ)) (s : Store)
    → filled globals memory table elems bytes ≡ opens s → length s.memory ≡ length memory
filled_same globals memory table elems bytes s = by_elems (first_out (length table) 0 elems)
  where
    by_bytes : (o : Option ℕ) → first_out (length memory) 0 bytes ≡ o → bytes_checked globals memory table elems bytes o ≡ opens s → length s.memory ≡ length memory
    by_bytes (Some i) f e = cc
    by_bytes None f e =
        let is : s.memory ≡ put_pieces memory bytes = cc in
        ap (λ (l : List ℕ). length l) is ∙ pieces_same memory bytes (length memory) 0 refl f

    by_elems : (o : Option ℕ) → elems_checked globals memory table elems bytes o ≡ opens s → length s.memory ≡ length memory
    by_elems (Some i) e = cc
    by_elems None e = by_bytes (first_out (length memory) 0 bytes) refl e

opened_same : (m : Module) (values : List Value) (pages entries : ℕ) (a b : Bool) (s : Store) → opened_by m values pages entries a b ≡ opens s → (a ≡ false) × (length s.memory ≡ pages * page_size)
opened_same m values pages entries true b s e = cc
opened_same m values pages entries false true s e = cc
opened_same m values pages entries false false s e =
    let filler : ℕ = 0 in (
      refl,
      filled_same values (replicate (pages * page_size) 0) (replicate entries None) (map (elem_piece values) m.elems) (map (byte_piece values) m.segments) s e
          ∙ length-replicate (pages * 65536) filler,
    )

least_most : (ls : List Limits) → list_all (limits_fit 65536) ls ≡ true → least_of ls ≤ 1024 → least_of ls ≤ page_bound (first_max ls)
least_most [] h few = omega arith
least_most (l ∷ ls) h few = by_max l.max (and_parts (nat_le l.min 65536) (max_fits 65536 l.min l.max) (and_parts (limits_fit 65536 l) (list_all (limits_fit 65536) ls) h).0).1
  where
    by_max : (o : Option ℕ) → max_fits 65536 l.min o ≡ true → l.min ≤ page_bound o
    by_max None e = few
    by_max (Some high) e =
        let le : l.min ≤ high = leb-true _ _ (and_parts (nat_le high 65536) (nat_le l.min high) e).1 in
        omega (arith, few, le)

pub opened_kept : (m : Module) (imports : List Value) (s : Store) → Valid m → opening m imports ≡ opens s → IsKept m s.globals s
opened_kept m imports s v e =
    let o = opened_same m (all_values imports m) (least_of (all_memories m)) (least_of (all_tables m)) (nat_lt 1024 (least_of (all_memories m))) (nat_lt 100000 (least_of (all_tables m))) s e in
    let limits = (and_parts (list_all (limits_fit 4294967296) (all_tables m)) (list_all (limits_fit 65536) (all_memories m)) v.limits).1 in
    record {
      constants = λ i constant. refl;
      memory = record {
        pages = least_of (all_memories m);
        whole = o.1;
        fit = record { least = omega arith; most = least_most (all_memories m) limits (ltb-false 1024 (least_of (all_memories m)) o.0) };
      };
    }
