-- The headline's world of each strand, side by side: what belongs to a strand that goes on, to one that waits, and to the stores; what a stretch of one keeps of the others.
use Rattle.headline.specs.FlatLaw.{FlatLaw}
use Rattle.image_laws.proofs.Restored.{over_store}
use Rattle.headline.proofs.Halting.{plain_halts}
use Rattle.headline.specs.Halts.{HaltLaw}
use Rattle.headline.specs.World.{World, WorldFits, setting}
use Rattle.headline.specs.WrittenRuns.{WrittenLaw}
use Rattle.headline.proofs.Reductions.{LeftFits, R, quiet_there}
use Rattle.headline.proofs.StoresTogether.{store_laws}
use Rattle.headline.proofs.ToldMoves.{dear_of}
use Rattle.guard_runs.specs.Alike.{Alike}
use Rattle.guard_form.specs.Functions.{Role}
use Rattle.guard_runs.specs.Joined.{CallFrame}
use Rattle.std.proofs.Common.{Bool, List, Option, Some, [], ap, arith, false, length, refl, subst, suc, sym, zero, ℕ, ⊎_elim, inl, inr, ◌⊎◌, ◌*◌, ◌+◌, ◌++◌, ◌<◌, ◌∙◌, ◌∷◌, ◌≡◌, ◌≤◌}
use Rattle.std.proofs.lemmas.Bool.{cases_lt}
use Rattle.std.specs.Prelude.{slice_get, take, drop}
use Rattle.run_theory.proofs.Follow.{Alike as AllAlike}
use Rattle.wa_model.specs.Behaves.{AreaKept, AtPaused, PauseNumbered, SameNote, AtCalls}
use Rattle.wa_model.specs.Blocking.{Left, Note, State, an_entry, between, store_of, overlap}
use Rattle.wa_model.specs.Configuration.{Activation, Configuration}
use Rattle.wa_model.specs.Expected.{SameEnd}
use Rattle.wa_model.specs.Instantiation.{least_of, opening, opens}
use Rattle.wa_model.specs.Machine.{goes}
use Rattle.wa_model.specs.Outside.{Answer, ended}
use Rattle.wa_model.specs.Plan.{Entry}
use Rattle.wa_model.specs.Protocol.{Held, Phase, Then, calling, exports_of, free, protocol, store_held}
use Rattle.wa_model.specs.Store.{Store, with_memory, value_at}
use Rattle.wa_model.specs.declared.events.End.{End}
use Rattle.wa_types.specs.Base.{Base}
use Rattle.wa_types.specs.Frames.{Image}
use Rattle.wa_types.specs.Memory.{bytes_at, page_size}
use Rattle.wa_types.specs.Modules.{all_memories}
use Rattle.wa_types.specs.Pausing.{Callee, Settings}
use Rattle.wa_types.specs.Runtime.{global_space}
use Rattle.wa_types.specs.Syntax.{Module}
use Rattle.wa_types.specs.declared.values.Value.{Value}
use Rattle.wa_types.specs.declared.values.Value.TheVariants as V
use Rattle.strand_laws.proofs.Apart.{Gap, off}
use Rattle.strand_laws.proofs.Between.{AreGaps, Chain, Chained, InsideAll, OutAll, Outside, area_at, chain_globals, chain_outside, chain_size, chain_table, chain_to, chains_hold, bytes_by_each}
use Rattle.strand_laws.proofs.Clear.{CalmAll, ClearPokes}
use Rattle.strand_laws.proofs.Hanging.{AreaSame}
use Rattle.strand_laws.proofs.Middle.{Middle}
use Rattle.strand_laws.proofs.Resumed.{Suspends, rewound_from, suspends_on}
use Rattle.strand_laws.specs.Strands.{Strand, StrandProgram, Strung, held_wakes, on, plan_of, strand_at, strung_loom, waits, with_source}
use Rattle.strand_laws.specs.Woven.{Loom, Told as ToldBy, last_event}

-- The stores agree outside all areas.
pub record SameAll (globals : ℕ) (ss : List Strand) (s s' : Store) : Type 0 where
  pub globals_same : (x : ℕ) → x < globals → slice_get s.globals x ≡ slice_get s'.globals x
  pub size : length s.memory ≡ length s'.memory
  pub outside : (x : ℕ) → OutAll ss x → slice_get s.memory x ≡ slice_get s'.memory x

pub out_at : (ss : List Strand) (i x : ℕ) → i < length ss → OutAll ss x → Outside (area_at ss i) x
out_at [] i x lt h = let no_way : ⊥ = omega arith in absurd no_way
out_at (s ∷ ss) zero x lt h = h.0
out_at (s ∷ ss) (suc i) x lt h = out_at ss i x (omega arith) h.1

pub inside_at : (ss : List Strand) (i n : ℕ) → i < length ss → InsideAll ss n → (area_at ss i).at + (area_at ss i).len ≤ n
inside_at [] i n lt h = let no_way : ⊥ = omega arith in absurd no_way
inside_at (s ∷ ss) zero n lt h = h.0
inside_at (s ∷ ss) (suc i) n lt h = inside_at ss i n (omega arith) h.1

pub inside_more : (ss : List Strand) (n k : ℕ) → n ≤ k → InsideAll ss n → InsideAll ss k
inside_more [] n k le h = tt
inside_more (s ∷ ss) n k le h = (let q = h.0 in omega arith, inside_more ss n k le h.1)

-- what a strand told, in its own area
pub record SameOne (m : Module) (st : Settings) (which : List Bool) (g : StrandProgram) (i : ℕ) (x y : Note) : Type 0 where
  pub event : x.event ≡ y.event
  pub ends : SameAll (global_space m) g.strands x.store y.store
  pub image : AtPaused y.event (Image m st which x.stack (strand_at g i).area.at (strand_at g i).area.len y.store.memory)
  pub kept : (turn_began : Store) → y.since ≡ Some turn_began → AreaKept (strand_at g i).area turn_began y.store
  pub state : AtCalls y.event (slice_get y.store.globals (global_space m) ≡ Some (V.I32 0))

-- The strands of a program, of its original, the flat and the written module, with what all have in common: how configurations are
-- linked for each strand, which stores are good, and what is known of a strand of the written module, and of a store.
pub record Family : Type 1 where
  pub original : Module
  pub settings : Settings
  pub which : List Bool
  pub flat : Module
  pub written : Module
  pub funcs : ℕ
  pub sorts : ℕ
  pub role : ℕ → ℕ → Role
  pub numbered : Callee → Bool
  pub table : List (Option ℕ)
  pub lay : ℕ → Activation → CallFrame
  pub program : StrandProgram
  pub links : ℕ → (top spare : ℕ) → Configuration → Configuration → Type 0
  pub waiting : ℕ → (top import : ℕ) → Configuration → Configuration → Type 0
  pub good : Store → Type 0
  pub known : ℕ → Held → Type 0
  pub store_known : Store → Type 0

-- the world of one strand
abbrev pub world_at : Family → ℕ → World
world_at family i = record {
  original = family.original;
  settings = family.settings;
  which = family.which;
  plan = plan_of family.program (strand_at family.program i);
  flat = family.flat;
  written = family.written;
  funcs = family.funcs;
  sorts = family.sorts;
  role = family.role i;
  numbered = family.numbered;
  table = family.table;
  lay = family.lay i;
  tests = 0;
  asserts = false;
}

-- WHAT IS GIVEN: the laws of each strand alone, and what a strand that wakes over another's store needs.
pub record FamilyLaws (family : Family) : Type 0 where
  pub fits : (i : ℕ) → i < length family.program.strands → WorldFits (world_at family i)
  pub flat : (i : ℕ) → i < length family.program.strands → FlatLaw (world_at family i) (λ c d. c ≡ d) (family.links i) (family.waiting i) family.good
  pub runs : (i : ℕ) → i < length family.program.strands → WrittenLaw (world_at family i) (family.known i)
  pub restored : (i : ℕ) → i < length family.program.strands → (top imp : ℕ) (d f : Configuration) (t : Store) → family.waiting i top imp d f → family.good t → t.table ≡ d.store.table
      → family.waiting i top imp (over_store d t) (over_store f t)
  pub known_store : (i : ℕ) (ph : Phase) (s : Store) (f : ℕ) (args : List Value) (th : Then) (l : Left) → family.known i (calling ph s f args th l) → family.store_known s
  pub known_ends : (i : ℕ) → i < length family.program.strands → (b to : Held) (k : ℕ) (es : List Note) (how : End) → family.known i b
      → protocol family.written (exports_of family.written) (plan_of family.program (strand_at family.program i)) b ≡ goes k es to → last_event es ≡ Some (ended how)
      → family.store_known (store_held to)
  pub opened_known : (s : Store) → opening family.written family.program.globals ≡ opens s → family.store_known s
  pub opened_size : (s : Store) → opening (Base family.original) family.program.globals ≡ opens s → least_of (all_memories (Base family.original)) * page_size ≤ length s.memory
  pub known_wakes : (i : ℕ) → i < length family.program.strands → (b : Held) (s : Store) → family.known i b → family.store_known s
      → length (store_held b).memory ≤ length s.memory → family.known i (held_wakes s b).last
  pub known_free : (i : ℕ) → i < length family.program.strands → (s : Store) (l : Left) → LeftFits (world_at family i) l → (e : Entry) (es : List Entry) → l.entries ≡ e ∷ es
      → family.store_known s → family.known i (free s l)
  pub good_over : (t s' : Store) → family.good t → family.store_known s' → length t.memory ≡ length s'.memory → family.good (with_memory t s'.memory)
  pub areas_apart : (i j : ℕ) → i < length family.program.strands → j < length family.program.strands → (j ≡ i → ⊥)
      → overlap (area_at family.program.strands i).at (area_at family.program.strands i).len (area_at family.program.strands j).at (area_at family.program.strands j).len ≡ false

module _ (family : Family) (laws : FamilyLaws family) where
  abbrev wd : ℕ → World
  wd = world_at family

  abbrev m : Module
  m = family.original

  abbrev st : Settings
  st = family.settings

  abbrev which : List Bool
  which = family.which

  abbrev written : Module
  written = family.written

  abbrev table : List (Option ℕ)
  table = family.table

  abbrev g : StrandProgram
  g = family.program

  abbrev count : ℕ
  count = length family.program.strands

  abbrev L : ℕ → (top spare : ℕ) → Configuration → Configuration → Type 0
  L = family.links

  abbrev W : ℕ → ℕ → ℕ → Configuration → Configuration → Type 0
  W = family.waiting

  abbrev G : Store → Type 0
  G = family.good

  abbrev Known : ℕ → Held → Type 0
  Known = family.known

  abbrev StoreKnown : Store → Type 0
  StoreKnown = family.store_known

  abbrev A : Loom Strung
  A = strung_loom family.settings (with_source family.program family.original)

  abbrev ft : (i : ℕ) → i < length family.program.strands → WorldFits (world_at family i)
  ft = laws.fits

  abbrev law : (i : ℕ) → i < length family.program.strands → FlatLaw (world_at family i) (λ c d. c ≡ d) (family.links i) (family.waiting i) family.good
  law = laws.flat

  -- where its frames don't fit, its unwind ends in the area
  pub halt_law : (i : ℕ) (li : i < count) → HaltLaw (wd i) (W i)
  halt_law i li = plain_halts (wd i) (ft i li) (L i) (W i) G (law i li) refl

  abbrev pub Rel : (i : ℕ) → i < count → (n spare : ℕ) → State → Held → Type 0
  Rel i li = R (wd i) (ft i li) (store_laws (wd i)) (L i) (W i) G (law i li)

  abbrev pub Sm : Store → Store → Type 0
  Sm = SameAll (global_space m) g.strands

  abbrev pub Kept : ℕ → Store → Store → Type 0
  Kept j = AreaSame (area_at g.strands j)

  -- stores that belong together, whichever strand goes on: the original's with the written one's memory is lawful
  pub record Near (s s' : Store) : Type 0 where
    pub own : List Value
    pub more : List Value
    pub address : Value
    pub own_size : length own ≡ global_space m
    pub globals : s.globals ≡ own ++ more
    pub globals' : s'.globals ≡ own ++ V.I32 0 ∷ address ∷ []
    pub quiet : value_at more 0 ≡ V.I32 0
    pub same_table : s.table ≡ table
    pub same_table' : s'.table ≡ table
    pub same : Sm s s'
    pub inside : InsideAll g.strands (length s'.memory)
    pub good : G (with_memory s s'.memory)
    pub known : StoreKnown s'

  -- A strand that goes on: its original over a store with the other one's bytes in all areas is in step.
  pub data Go (i spare : ℕ) : Strung → Held → Type 0 where
    going_on : (a a' : State) (b : Held) (ps : List Gap) (li : i < count) → AreGaps g.strands ps → Middle ps a a' → Rel i li 0 spare a' b → Known i b
        → InsideAll g.strands (length (store_of a).memory) → Go i spare (on a) b

  -- A strand that waits, over the store of the moment.
  pub data Hang (i c : ℕ) : Strung → Held → Store → Type 0 where
    fresh : (old old' s' : Store) (l : Left) (li : i < count) → LeftFits (wd i) l → Hang i c (on (between old l)) (free old' l) s'
    suspended : (top imp : ℕ) (e : Entry) (a : Answer) (lo : Left) (d d' : Configuration) (at s' : Store) (li : i < count)
        → Suspends (wd i) (ft i li) (store_laws (wd i)) (L i) (W i) G (law i li) top imp e a lo d' c s' → d'.here ≡ d.here → d'.under ≡ d.under
        → Known i (rewound_from (wd i) e imp a lo at) → length at.memory ≤ length s'.memory → ClearPokes g.strands a.pokes
        → Hang i c (waits (an_entry e) d a lo) (rewound_from (wd i) e imp a lo at) s'

  abbrev pub Q : ℕ → Note → Note → Type 0
  Q i = SameOne m st which g i

  abbrev pub Calm : ℕ → Strung → Type 0
  Calm i (on a) = CalmAll g.strands a
  Calm i (waits task c a l) = Unit {0}

  abbrev pub Ok : ToldBy → Type 0
  Ok t = PauseNumbered m st which t.note.stack t.note.pause

  abbrev pub dear : List Note → ℕ
  dear = dear_of m

  -- ---- stores

  -- by the strand's own comparison, over the chain
  pub see_up : (i : ℕ) → i < count → (ps : List Gap) (s t s' : Store) → AreGaps g.strands ps → Chain ps s t → SameEnd (global_space m) (strand_at g i).area t s' → Sm s s'
  see_up i li ps s t s' are h e = record {
    globals_same = λ x lt. ap (λ q. slice_get q x) (sym (chain_globals ps s t h)) ∙ e.globals_same x lt;
    size = chain_size ps s t h ∙ e.size;
    outside = λ x o. chain_outside g.strands ps s t are h x o ∙ ⊎_elim (λ lt. e.below x lt) (λ ge. e.above x ge) (out_at g.strands i x li o);
  }

  -- a store of both, for the strand of any number
  pub both_stores : (i : ℕ) → i < count → (top : ℕ) (s s' : Store) → Near s s' → Alike (setting (wd i) top) (with_memory s s'.memory) s'
  both_stores i li top s s' nr =
      let ar = (strand_at g i).area in
      let le = inside_at g.strands i (length s'.memory) li nr.inside in
      let l0 : length (take ar.at s'.memory) ≡ ar.at = Rattle.std.proofs.lemmas.List.length-take-le ar.at s'.memory (omega arith) in
      let l1 : length (bytes_at s'.memory ar.at ar.len) ≡ ar.len = Rattle.strand_laws.proofs.Between.length_bytes s'.memory ar.at ar.len le in
      record {
        own = nr.own;
        more = nr.more;
        address = nr.address;
        low = take ar.at s'.memory;
        held = bytes_at s'.memory ar.at ar.len;
        held' = bytes_at s'.memory ar.at ar.len;
        high = drop (ar.at + ar.len) s'.memory;
        own_size = nr.own_size;
        globals = nr.globals;
        globals' = nr.globals';
        quiet = nr.quiet;
        low_size = l0;
        held_size = l1;
        held_size' = l1;
        memory = Rattle.strand_laws.proofs.Between.split_three s'.memory ar.at ar.len le;
        memory' = Rattle.strand_laws.proofs.Between.split_three s'.memory ar.at ar.len le;
        table = nr.same_table;
        table' = nr.same_table';
      }

  -- there the state is 0
  pub state_zero : (i : ℕ) → i < count → (s s' : Store) → Near s s' → slice_get s'.globals (global_space m) ≡ Some (V.I32 0)
  state_zero i li s s' nr = quiet_there (wd i) 0 (with_memory s s'.memory) s' (both_stores i li 0 s s' nr)

  -- and the chain to it
  pub to_both : (s s' : Store) → Near s s' → Chained g.strands s s'.memory
  to_both s s' nr = let sm = nr.same in chain_to g.strands s s'.memory sm.size nr.inside sm.outside

  -- behind a stretch of one strand the stores belong together for all
  pub near_behind : (i : ℕ) → i < count → (top : ℕ) (ps : List Gap) (s t s' : Store) → AreGaps g.strands ps → Chain ps s t → Alike (setting (wd i) top) t s' → G t → StoreKnown s'
      → InsideAll g.strands (length s.memory) → Near s s'
  near_behind i li top ps s t s' are h like good known ins =
      let sz : length s.memory ≡ length t.memory = chain_size ps s t h in
      let e = (store_laws (wd i)).same_end top t s' like in
      let gs = chain_globals ps s t h in
      let tb = chain_table ps s t h in
      let over : Store = with_memory t s'.memory in
      let g1 : G over = laws.good_over t s' good known e.size in
      record {
        own = like.own;
        more = like.more;
        address = like.address;
        own_size = like.own_size;
        globals = sym gs ∙ like.globals;
        globals' = like.globals';
        quiet = like.quiet;
        same_table = sym tb ∙ like.table;
        same_table' = like.table';
        same = see_up i li ps s t s' are h e;
        inside = inside_more g.strands (length s.memory) (length s'.memory) (let q = e.size in omega arith) ins;
        good = subst G (ap (λ z. record { globals = z; memory = s'.memory; table = t.table }) gs ∙ ap (λ z. record { globals = s.globals; memory = s'.memory; table = z }) tb) g1;
        known = known;
      }

  -- bytes of another strand's area go from store to store
  own_bytes : (i j : ℕ) → i < count → j < count → (j ≡ i → ⊥) → (t s' : Store) → SameEnd (global_space m) (strand_at g i).area t s' → (a n : ℕ) → (area_at g.strands j).at ≤ a
      → a + n ≤ (area_at g.strands j).at + (area_at g.strands j).len → bytes_at s'.memory a n ≡ bytes_at t.memory a n
  own_bytes i j li lj ne t s' same a zero lo hi = refl
  own_bytes i j li lj ne t s' same a (suc n) lo hi =
      bytes_by_each s'.memory t.memory a (suc n)
      (λ x ge lt. sym (by_place x ge lt
      (off (area_at g.strands j).at (area_at g.strands j).len (strand_at g i).area.at (strand_at g i).area.len (omega arith) (laws.areas_apart j i lj li (λ e. ne (sym e))))))
    where
      by_place : (x : ℕ) → a ≤ x → x < a + suc n → ((strand_at g i).area.len ≡ 0)
          ⊎ (((area_at g.strands j).at + (area_at g.strands j).len ≤ (strand_at g i).area.at) ⊎ ((strand_at g i).area.at + (strand_at g i).area.len ≤ (area_at g.strands j).at))
          → slice_get t.memory x ≡ slice_get s'.memory x
      by_place x ge lt (inl z) = ⊎_elim (λ b. same.below x b) (λ b. same.above x (omega arith)) (cases_lt x (strand_at g i).area.at)
      by_place x ge lt (inr (inl b)) = same.below x (omega arith)
      by_place x ge lt (inr (inr b)) = same.above x (omega arith)

  -- nothing lies in the area of a strand that isn't there
  none_there : (j : ℕ) → count ≤ j → (area_at g.strands j).at + (area_at g.strands j).len ≡ 0
  none_there j ge = past g.strands j ge
    where
      past : (ss : List Strand) (j : ℕ) → length ss ≤ j → (area_at ss j).at + (area_at ss j).len ≡ 0
      past [] j le = refl
      past (s ∷ ss) zero le = let no_way : ⊥ = omega arith in absurd no_way
      past (s ∷ ss) (suc j) le = past ss j (omega arith)

  -- WHAT A STRETCH OF ONE STRAND KEEPS: the areas of all others
  pub keeps_others : (i : ℕ) → i < count → (ps : List Gap) (s t s2 t2 b b2 : Store) → AreGaps g.strands ps → Chain ps s t → Chain ps s2 t2 → SameEnd (global_space m) (strand_at g i).area t b
      → SameEnd (global_space m) (strand_at g i).area t2 b2 → length s.memory ≤ length s2.memory → (j : ℕ) → (j ≡ i → ⊥) → Kept j b b2
  keeps_others i li ps s t s2 t2 b b2 are h h2 z1 z2 le j ne = record {
    bytes = λ a n lo hi. by_there a n lo hi (cases_lt j count);
    grown =
        (let e1 = z1.size in
        let e2 = z2.size in
        let e3 = chain_size ps s t h in
        let e4 = chain_size ps s2 t2 h2 in
        omega arith);
  }
    where
      none : (m1 m2 : List ℕ) (a n : ℕ) → n ≡ 0 → bytes_at m1 a n ≡ bytes_at m2 a n
      none m1 m2 a n e = ap (λ k. bytes_at m1 a k) e ∙ sym (ap (λ k. bytes_at m2 a k) e)

      by_there : (a n : ℕ) → (area_at g.strands j).at ≤ a → a + n ≤ (area_at g.strands j).at + (area_at g.strands j).len → (j < count) ⊎ (count ≤ j) → bytes_at b2.memory a n ≡ bytes_at b.memory a n
      by_there a n lo hi (inl lj) =
          own_bytes i j li lj ne t2 b2 z2 a n lo hi
          ∙ chains_hold g.strands ps s t s2 t2 are h h2 j lj (λ k lk nk. laws.areas_apart j k lj lk nk) a n lo hi
          ∙ sym (own_bytes i j li lj ne t b z1 a n lo hi)
      by_there a n lo hi (inr ge) = let z = none_there j ge in none b2.memory b.memory a n (omega arith)

  -- ---- a strand that waits goes on waiting

  pub hangs_on : (i c : ℕ) (a : Strung) (b : Held) (s s' : Store) → Hang i c a b s → Kept i s s' → Hang i c a b s'
  hangs_on i c _ _ s s' (fresh old old' _ l li lf) kp = fresh old old' s' l li lf
  hangs_on i c _ _ s s' (suspended top imp e a lo d d' at _ li sp eh eu kn more cp) kp =
      suspended top imp e a lo d d' at s' li (suspends_on (wd i) (ft i li) (store_laws (wd i)) (L i) (W i) G (law i li) top imp e a lo d' c s s' sp kp) eh eu kn
      (let gr = kp.grown in omega arith) cp

  -- ---- notes

  -- a note of the original over the other store
  pub record NoteUp (ps : List Gap) (x x' : Note) : Type 0 where
    pub event : x'.event ≡ x.event
    pub stack : x'.stack ≡ x.stack
    pub pause : x'.pause ≡ x.pause
    pub chain : Chain ps x.store x'.store

  note_up : (i : ℕ) → i < count → (ps : List Gap) (x x' y : Note) → AreGaps g.strands ps → NoteUp ps x x' → SameNote m st which (strand_at g i).area x' y → Q i x y
  note_up i li ps x x' y are u h = record {
    event = sym u.event ∙ h.event;
    ends = see_up i li ps x.store x'.store y.store are u.chain h.ends;
    image = subst (λ z. AtPaused y.event (Image m st which z (strand_at g i).area.at (strand_at g i).area.len y.store.memory)) u.stack h.image;
    kept = h.kept;
    state = h.state;
  }

  pub alike_up : (i : ℕ) → i < count → (ps : List Gap) (es es' fs : List Note) → AreGaps g.strands ps → AllAlike (NoteUp ps) es es' → AllAlike (SameNote m st which (strand_at g i).area) es' fs
      → AllAlike (Q i) es fs
  alike_up i li ps [] [] [] are u h = tt
  alike_up i li ps [] [] (y ∷ fs) are u h = absurd h
  alike_up i li ps [] (x' ∷ es') fs are u h = absurd u
  alike_up i li ps (x ∷ es) [] fs are u h = absurd u
  alike_up i li ps (x ∷ es) (x' ∷ es') [] are u h = absurd h
  alike_up i li ps (x ∷ es) (x' ∷ es') (y ∷ fs) are u h = (note_up i li ps x x' y are u.0 h.0, alike_up i li ps es es' fs are u.1 h.1)

  pub record SplitUp (ps : List Gap) (es es1' : List Note) (x' : Note) (es2' : List Note) : Type 0 where
    pub es1 : List Note
    pub x : Note
    pub es2 : List Note
    pub es_are : es ≡ es1 ++ x ∷ es2
    pub first : AllAlike (NoteUp ps) es1 es1'
    pub here : NoteUp ps x x'
    pub rest : AllAlike (NoteUp ps) es2 es2'

  pub split_up : (ps : List Gap) (es es1' : List Note) (x' : Note) (es2' : List Note) → AllAlike (NoteUp ps) es (es1' ++ x' ∷ es2') → SplitUp ps es es1' x' es2'
  split_up ps [] [] x' es2' h = absurd h
  split_up ps [] (z' ∷ es1') x' es2' h = absurd h
  split_up ps (x ∷ es) [] x' es2' h = record { es1 = []; x = x; es2 = es; es_are = refl; first = tt; here = h.0; rest = h.1 }
  split_up ps (z ∷ es) (z' ∷ es1') x' es2' h =
      let r = split_up ps es es1' x' es2' h.1 in
      record { es1 = z ∷ r.es1; x = r.x; es2 = r.es2; es_are = ap (λ q. z ∷ q) r.es_are; first = (h.0, r.first); here = r.here; rest = r.rest }

  pub join_up : (ps : List Gap) (es es' : List Note) (x x' : Note) → AllAlike (NoteUp ps) es es' → NoteUp ps x x' → AllAlike (NoteUp ps) (es ++ x ∷ []) (es' ++ x' ∷ [])
  join_up ps [] [] x x' h u = (u, tt)
  join_up ps [] (z' ∷ es') x x' h u = absurd h
  join_up ps (z ∷ es) [] x x' h u = absurd h
  join_up ps (z ∷ es) (z' ∷ es') x x' h u = (h.0, join_up ps es es' x x' h.1 u)
