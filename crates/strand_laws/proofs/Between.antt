-- Stores that are the same outside some areas: from one to the other area by area; and what a move over one of them keeps.
use Rattle.std.proofs.Common.{◌≡◌, ℕ, zero, suc, ◌+◌, ◌-◌, ◌≤◌, ◌<◌, ◌⊎◌, inl, inr, ⊎_elim, List, [], ◌∷◌, ◌++◌, length, take, drop, Some, None, Bool, true, false, refl, sym, ap, ◌∙◌, subst, arith}
use Rattle.std.proofs.Common.{length-append, length-drop}
use Rattle.std.proofs.lemmas.Bool.{cases_lt, le-leb}
use Rattle.std.proofs.lemmas.List.{length-take-le, take-append-drop}
use Rattle.std.proofs.Math.Seq.{drop-append-add}
use Rattle.std.specs.Prelude.{slice_get, if◌then◌else◌, nat_lt, not, ◌&&◌, unwrap_or}
use Rattle.wa_types.specs.Memory.{bytes_at}
use Rattle.wa_types.specs.Syntax.{Module}
use Rattle.wa_types.proofs.MemoryLemmas.{bytes_at-append}
use Rattle.wa_model.specs.declared.answers.Area.{Area}
use Rattle.wa_model.specs.Blocking.{Note, State, bad_poke, blocking, overlap, store_of}
use Rattle.wa_model.specs.Machine.{goes}
use Rattle.wa_model.specs.Plan.{Plan}
use Rattle.wa_model.specs.declared.events.End.TheVariants.{BadPoke}
use Rattle.run_theory.proofs.TestedPokes.{first_fits, fits_inside}
use Rattle.wa_model.specs.Outside.{Poke}
use Rattle.wa_model.specs.Store.{Store, with_memory}
use Rattle.wa_model.specs.Untouched.{IsCalm, next_ranges}
use Rattle.wa_model.proofs.StayingOff.{each_off}
use Rattle.guard_runs.proofs.Stores.{long}
use Rattle.strand_laws.proofs.Apart.{Apart, Gap}
use Rattle.strand_laws.proofs.Middle.{Middle, StateApart, apart_goes, blocks_apart, size_apart, state_store, s_begins, s_between, s_halts, s_runs}
use Rattle.strand_laws.specs.Strands.{Strand, no_strand}

-- ---- lists

pub got_front : (xs ys : List ℕ) (x : ℕ) → x < length xs → slice_get (xs ++ ys) x ≡ slice_get xs x
got_front [] ys x lt = let no_way : ⊥ = omega arith in absurd no_way
got_front (z ∷ xs) ys zero lt = refl
got_front (z ∷ xs) ys (suc x) lt = got_front xs ys x (omega arith)

pub got_behind : (xs ys : List ℕ) (x : ℕ) → slice_get (xs ++ ys) (length xs + x) ≡ slice_get ys x
got_behind [] ys x = let z : 0 + x ≡ x = omega arith in ap (slice_get ys) z
got_behind (z ∷ xs) ys x = let e : suc (length xs) + x ≡ suc (length xs + x) = omega arith in ap (slice_get (z ∷ xs ++ ys)) e ∙ got_behind xs ys x

pub same_lists : (xs ys : List ℕ) → length xs ≡ length ys → ((x : ℕ) → slice_get xs x ≡ slice_get ys x) → xs ≡ ys
same_lists [] [] e h = refl
same_lists [] (y ∷ ys) e h = let no_way : ⊥ = omega arith in absurd no_way
same_lists (x ∷ xs) [] e h = let no_way : ⊥ = omega arith in absurd no_way
same_lists (x ∷ xs) (y ∷ ys) e h =
    let e0 : Some x ≡ Some y = h 0 in
    let e1 : x ≡ y = cc in
    ap (λ z. z ∷ xs) e1 ∙ ap (λ z. y ∷ z) (same_lists xs ys (omega arith) (λ k. h (suc k)))

-- a byte behind two pieces, by where it stands
in_three : (low mid high : List ℕ) (x : ℕ) → (x < length low) ⊎ (length low + length mid ≤ x) → (mid2 : List ℕ) → length mid2 ≡ length mid
    → slice_get (low ++ (mid ++ high)) x ≡ slice_get (low ++ (mid2 ++ high)) x
in_three low mid high x (inl lt) mid2 e = got_front low (mid ++ high) x lt ∙ sym (got_front low (mid2 ++ high) x lt)
in_three low mid high x (inr le) mid2 e =
    let y = x - length low - length mid in
    let z : x ≡ length low + (length mid + y) = omega arith in
    let z2 : length low + (length mid + y) ≡ length low + (length mid2 + y) = omega arith in
    ap (slice_get (low ++ (mid ++ high))) z ∙ got_behind low (mid ++ high) (length mid + y) ∙ got_behind mid high y
    ∙ sym (ap (slice_get (low ++ (mid2 ++ high))) (z ∙ z2) ∙ got_behind low (mid2 ++ high) (length mid2 + y) ∙ got_behind mid2 high y)

-- ---- areas

-- outside this area; outside all
abbrev pub Outside : Area → ℕ → Type 0
Outside a x = (x < a.at) ⊎ (a.at + a.len ≤ x)

abbrev pub OutAll : List Strand → ℕ → Type 0
OutAll [] x = Unit {0}
OutAll (s ∷ ss) x = Outside s.area x × OutAll ss x

-- the gaps of these strands' areas
abbrev pub AreGaps : List Strand → List Gap → Type 0
AreGaps [] [] = Unit {0}
AreGaps (s ∷ ss) (p ∷ ps) = (p.area ≡ s.area) × AreGaps ss ps
AreGaps [] (p ∷ ps) = ⊥
AreGaps (s ∷ ss) [] = ⊥

pub apart_outside : (p : Gap) (s t : Store) → Apart p s t → (x : ℕ) → Outside p.area x → slice_get s.memory x ≡ slice_get t.memory x
apart_outside p s t h x o =
    let e1 = h.low_size in
    let e2 = h.held_size in
    ap (λ m. slice_get m x) h.memory
    ∙ in_three h.low p.held h.high x (⊎_elim (λ a. inl (omega arith)) (λ a. inr (omega arith)) o) p.held' (h.held_size' ∙ sym h.held_size)
    ∙ sym (ap (λ m. slice_get m x) h.memory')

-- stores, one gap behind another
abbrev pub Chain : List Gap → Store → Store → Type 0
Chain [] s t = s ≡ t
Chain (p ∷ ps) s t = (u : Store) × Apart p s u × Chain ps u t

pub chain_size : (ps : List Gap) (s t : Store) → Chain ps s t → length s.memory ≡ length t.memory
chain_size [] s t h = ap (λ (z : Store). length z.memory) h
chain_size (p ∷ ps) s t h = sym (size_apart p s h.0 h.1) ∙ chain_size ps h.0 t h.2

pub chain_globals : (ps : List Gap) (s t : Store) → Chain ps s t → t.globals ≡ s.globals
chain_globals [] s t h = ap (λ (z : Store). z.globals) (sym h)
chain_globals (p ∷ ps) s t h = chain_globals ps h.0 t h.2 ∙ (h.1).globals

pub chain_table : (ps : List Gap) (s t : Store) → Chain ps s t → t.table ≡ s.table
chain_table [] s t h = ap (λ (z : Store). z.table) (sym h)
chain_table (p ∷ ps) s t h = chain_table ps h.0 t h.2 ∙ (h.1).table

pub chain_outside : (ss : List Strand) (ps : List Gap) (s t : Store) → AreGaps ss ps → Chain ps s t → (x : ℕ) → OutAll ss x → slice_get s.memory x ≡ slice_get t.memory x
chain_outside [] [] s t g h x o = ap (λ (z : Store). slice_get z.memory x) h
chain_outside [] (p ∷ ps) s t g h x o = absurd g
chain_outside (c ∷ ss) [] s t g h x o = absurd g
chain_outside (c ∷ ss) (p ∷ ps) s t g h x o =
    apart_outside p s h.0 h.1 x (subst (λ a. Outside a x) (sym g.0) o.0) ∙ chain_outside ss ps h.0 t g.1 h.2 x o.1

-- ---- from one store to the other

-- each area lies inside a memory of this size
abbrev pub InsideAll : List Strand → ℕ → Type 0
InsideAll [] n = Unit {0}
InsideAll (s ∷ ss) n = (s.area.at + s.area.len ≤ n) × InsideAll ss n

pub record Chained (ss : List Strand) (s : Store) (m : List ℕ) : Type 0 where
  pub gaps : List Gap
  pub are : AreGaps ss gaps
  pub chain : Chain gaps s (with_memory s m)

pub length_bytes : (m : List ℕ) (a n : ℕ) → a + n ≤ length m → length (bytes_at m a n) ≡ n
length_bytes m a n le = length-take-le n (drop a m) (omega (arith, length-drop a m))

pub split_three : (m : List ℕ) (a n : ℕ) → a + n ≤ length m → m ≡ take a m ++ (bytes_at m a n ++ drop (a + n) m)
split_three m a n le = sym (take-append-drop a m) ∙ ap (λ z. take a m ++ z) (sym (take-append-drop n (drop a m)) ∙ ap (λ z. take n (drop a m) ++ z) (Rattle.std.proofs.lemmas.List.drop-drop n a m))

pub chain_to : (ss : List Strand) (s : Store) (m : List ℕ) → length s.memory ≡ length m → InsideAll ss (length m) → ((x : ℕ) → OutAll ss x → slice_get s.memory x ≡ slice_get m x) → Chained ss s m
chain_to [] s m e ins h = record { gaps = []; are = tt; chain = ap (with_memory s) (same_lists s.memory m e (λ x. h x tt)) }
chain_to (c ∷ ss) s m e ins h =
    let a = c.area.at in
    let n = c.area.len in
    let le : a + n ≤ length s.memory = (let q = ins.0 in omega arith) in
    let low = take a s.memory in
    let mine = bytes_at s.memory a n in
    let theirs = bytes_at m a n in
    let high = drop (a + n) s.memory in
    let l0 : length low ≡ a = length-take-le a s.memory (omega arith) in
    let l1 : length mine ≡ n = length_bytes s.memory a n le in
    let l2 : length theirs ≡ n = length_bytes m a n ins.0 in
    let mem2 : List ℕ = low ++ (theirs ++ high) in
    let whole : s.memory ≡ low ++ (mine ++ high) = split_three s.memory a n le in
    let long2 : length mem2 ≡ length m = (long low mine theirs high (l2 ∙ sym l1) ∙ sym (ap length whole)) ∙ e in
    let p : Gap = record { area = c.area; held = mine; held' = theirs } in
    let u : Store = with_memory s mem2 in
    let step_ : Apart p s u = record { low = low; high = high; low_size = l0; held_size = l1; held_size' = l2; memory = whole; memory' = refl; globals = refl; table = refl } in
    let rest = chain_to ss u m long2 ins.1 (λ x o. by_place x o (cases_lt x a) (cases_lt x (a + n)) low mine theirs high l0 l1 l2 whole (split_three m a n ins.0)) in
    record { gaps = p ∷ rest.gaps; are = (refl, rest.are); chain = (u, step_, rest.chain) }
  where
    by_place : (x : ℕ) → OutAll ss x → (x < c.area.at) ⊎ (c.area.at ≤ x) → (x < c.area.at + c.area.len) ⊎ (c.area.at + c.area.len ≤ x) → (low mine theirs high : List ℕ) → length low ≡ c.area.at
        → length mine ≡ c.area.len
        → length theirs ≡ c.area.len → s.memory ≡ low ++ (mine ++ high) → m ≡ take c.area.at m ++ (theirs ++ drop (c.area.at + c.area.len) m) → slice_get (low ++ (theirs ++ high)) x ≡ slice_get m x
    by_place x o (inl lt) q low mine theirs high l0 l1 l2 whole wm =
        in_three low theirs high x (inl (omega arith)) mine (l1 ∙ sym l2) ∙ sym (ap (λ z. slice_get z x) whole) ∙ h x (inl lt, o)
    by_place x o (inr ge) (inr far) low mine theirs high l0 l1 l2 whole wm =
        in_three low theirs high x (inr (omega arith)) mine (l1 ∙ sym l2) ∙ sym (ap (λ z. slice_get z x) whole) ∙ h x (inr far, o)
    by_place x o (inr ge) (inl lt) low mine theirs high l0 l1 l2 whole wm =
        let y = x - c.area.at in
        let z : x ≡ length low + y = omega arith in
        let inside_ : c.area.at + c.area.len ≤ length m = ins.0 in
        let tl : length (take c.area.at m) ≡ c.area.at = length-take-le c.area.at m (omega arith) in
        let z2 : x ≡ length (take c.area.at m) + y = omega arith in
        ap (slice_get (low ++ (theirs ++ high))) z ∙ got_behind low (theirs ++ high) y ∙ got_front theirs high y (omega arith)
        ∙ sym (ap (λ q. slice_get q x) wm ∙ ap (slice_get (take c.area.at m ++ (theirs ++ drop (c.area.at + c.area.len) m))) z2 ∙ got_behind (take c.area.at m)
        (theirs ++ drop (c.area.at + c.area.len) m) y
        ∙ got_front theirs (drop (c.area.at + c.area.len) m) y (omega arith))

-- ---- memories only grow

-- the empty range at the end of a memory
abbrev end_gap : ℕ → Gap
end_gap n = record { area = record { at = n; len = 0 }; held = []; held' = [] }

self_apart : (s : Store) → Apart (end_gap (length s.memory)) s s
self_apart s = record {
  low = s.memory;
  high = [];
  low_size = refl;
  held_size = refl;
  held_size' = refl;
  memory = sym (Rattle.std.proofs.Common.append-nil s.memory);
  memory' = sym (Rattle.std.proofs.Common.append-nil s.memory);
  globals = refl;
  table = refl;
}

state_self : (a : State) → StateApart (end_gap (length (store_of a).memory)) a a
state_self (Rattle.wa_model.specs.Blocking.between s l) = s_between (self_apart s)
state_self (Rattle.wa_model.specs.Blocking.begins x s l) = s_begins (self_apart s)
state_self (Rattle.wa_model.specs.Blocking.runs task c l) = s_runs (record { store = self_apart c.store; here = refl; under = refl })
state_self (Rattle.wa_model.specs.Blocking.halts s) = s_halts (self_apart s)

ands : (x y z : Bool) → (x && false && y && z) ≡ false
ands true y z = refl
ands false y z = refl

no_overlap : (a w n : ℕ) → overlap a w n 0 ≡ false
no_overlap a w n = ands (nat_lt 0 w) (nat_lt a (n + 0)) (nat_lt n (a + w))

calm_there : (n : ℕ) (a : State) → IsCalm (record { at = n; len = 0 }) a
calm_there n (Rattle.wa_model.specs.Blocking.between s l) = tt
calm_there n (Rattle.wa_model.specs.Blocking.begins x s l) = tt
calm_there n (Rattle.wa_model.specs.Blocking.halts s) = tt
calm_there n (Rattle.wa_model.specs.Blocking.runs task c l) =
    each_off (record { at = n; len = 0 }) (length c.store.memory) (λ x. no_overlap x.at x.len n) (next_ranges c)

-- a test asks nothing more of an empty range
out_there : (plan : Plan) (n size : ℕ) (qs : List Poke) → bad_poke size (plan.area ∷ plan.others) qs ≡ None → bad_poke size (record { at = n; len = 0 } ∷ []) qs ≡ None
out_there plan n size [] e = refl
out_there plan n size (q ∷ qs) e =
    let areas = plan.area ∷ plan.others in
    let f = first_fits size areas q qs e in
    let le = le-leb (q.at + length q.bytes) size (fits_inside size areas q f.0) in
    (λ i. if le i && (not (no_overlap q.at (length q.bytes) n i) && true) then bad_poke size (record { at = n; len = 0 } ∷ []) qs else Some (BadPoke q.at (length q.bytes)))
    ∙ out_there plan n size qs f.1

pub memory_grows : (m : Module) (plan : Plan) (a t : State) (k : ℕ) (es : List Note) → blocking m plan a ≡ goes k es t → length (store_of a).memory ≤ length (store_of t).memory
memory_grows m plan a t k es e =
    let n = length (store_of a).memory in
    let g = apart_goes (end_gap n) (blocking m plan a) (blocking m plan a) k es t (blocks_apart (end_gap n) m plan a a (state_self a) (calm_there n a) (out_there plan n)) e in
    let h = state_store (end_gap n) t g.1 g.4 in
    let l0 = h.low_size in
    let lm : length (store_of t).memory ≡ length h.low + length h.high = ap length h.memory ∙ length-append h.low h.high in
    omega arith

-- ---- what is kept

-- the area of the strand of this number
abbrev pub area_at : List Strand → ℕ → Area
area_at ss j = (unwrap_or (slice_get ss j) no_strand).area

-- bytes of the gap are those held there
in_held : (p : Gap) (s t : Store) → Apart p s t → (a n : ℕ) → p.area.at ≤ a → a + n ≤ p.area.at + p.area.len → bytes_at t.memory a n ≡ bytes_at p.held' (a - p.area.at) n
in_held p s t h a n lo hi =
    let y = a - p.area.at in
    let l0 = h.low_size in
    let l1 = h.held_size' in
    let z : a ≡ length h.low + y = omega arith in
    ap (λ m. bytes_at m a n) h.memory' ∙ ap (λ k. bytes_at (h.low ++ (p.held' ++ h.high)) k n) z ∙ ap (take n) (drop-append-add h.low (p.held' ++ h.high) y)
    ∙ bytes_at-append p.held' h.high y n (omega arith)

-- bytes of another area, which shares none
off_other : (b : Area) (low held held' high : List ℕ) (at len : ℕ) → length low ≡ at → length held ≡ len → length held' ≡ len → overlap b.at b.len at len ≡ false → (a n : ℕ) → b.at ≤ a
    → a + n ≤ b.at + b.len
    → bytes_at (low ++ (held' ++ high)) a n ≡ bytes_at (low ++ (held ++ high)) a n
off_other b low held held' high at len e0 e1 e2 none_shared a zero lo hi = refl
off_other b low held held' high at len e0 e1 e2 none_shared a (suc n) lo hi =
    Rattle.strand_laws.proofs.Apart.bytes_too low held held' high (e2 ∙ sym e1) a (suc n)
    (⊎_elim (λ z. inl (e1 ∙ z)) (λ y. inr (⊎_elim (λ q. inl (omega arith)) (λ q. inr (omega arith)) y)) (Rattle.strand_laws.proofs.Apart.off b.at b.len at len (omega arith) none_shared))

apart_bytes : (b : Area) (p : Gap) (s t : Store) → Apart p s t → overlap b.at b.len p.area.at p.area.len ≡ false → (a n : ℕ) → b.at ≤ a → a + n ≤ b.at + b.len
    → bytes_at t.memory a n ≡ bytes_at s.memory a n
apart_bytes b p s t h none_shared a n lo hi =
    ap (λ m. bytes_at m a n) h.memory' ∙ off_other b h.low p.held p.held' h.high p.area.at p.area.len h.low_size h.held_size h.held_size' none_shared a n lo hi ∙ sym
    (ap (λ m. bytes_at m a n) h.memory)

chain_bytes : (b : Area) (ss : List Strand) (ps : List Gap) (s t : Store) → AreGaps ss ps → Chain ps s t → ((k : ℕ) → k < length ss → overlap b.at b.len (area_at ss k).at (area_at ss k).len ≡ false)
    → (a n : ℕ) → b.at ≤ a → a + n ≤ b.at + b.len → bytes_at t.memory a n ≡ bytes_at s.memory a n
chain_bytes b [] [] s t g h none_shared a n lo hi = ap (λ (z : Store). bytes_at z.memory a n) (sym h)
chain_bytes b [] (p ∷ ps) s t g h none_shared a n lo hi = absurd g
chain_bytes b (c ∷ ss) [] s t g h none_shared a n lo hi = absurd g
chain_bytes b (c ∷ ss) (p ∷ ps) s t g h none_shared a n lo hi =
    chain_bytes b ss ps h.0 t g.1 h.2 (λ k lt. none_shared (suc k) (omega arith)) a n lo hi
    ∙ apart_bytes b p s h.0 h.1 (subst (λ z. overlap b.at b.len z.at z.len ≡ false) (sym g.0) (none_shared 0 (omega arith))) a n lo hi

-- Over the same gaps the bytes of each area are the same behind the chain, wherever it begins.
pub chains_hold : (ss : List Strand) (ps : List Gap) (s t s2 t2 : Store) → AreGaps ss ps → Chain ps s t → Chain ps s2 t2 → (j : ℕ) → j < length ss
    → ((k : ℕ) → k < length ss → (k ≡ j → ⊥) → overlap (area_at ss j).at (area_at ss j).len (area_at ss k).at (area_at ss k).len ≡ false)
    → (a n : ℕ) → (area_at ss j).at ≤ a → a + n ≤ (area_at ss j).at + (area_at ss j).len → bytes_at t2.memory a n ≡ bytes_at t.memory a n
chains_hold [] ps s t s2 t2 g h h2 j lt none_shared a n lo hi = let no_way : ⊥ = omega arith in absurd no_way
chains_hold (c ∷ ss) [] s t s2 t2 g h h2 j lt none_shared a n lo hi = absurd g
chains_hold (c ∷ ss) (p ∷ ps) s t s2 t2 g h h2 zero lt none_shared a n lo hi =
    let far : (k : ℕ) → k < length ss → overlap c.area.at c.area.len (area_at ss k).at (area_at ss k).len ≡ false =
    λ k less. none_shared (suc k) (omega arith) (λ e. let no_way : ⊥ = omega arith in no_way) in
    let lo' : p.area.at ≤ a = subst (λ (z : Area). z.at ≤ a) (sym g.0) lo in
    let hi' : a + n ≤ p.area.at + p.area.len = subst (λ (z : Area). a + n ≤ z.at + z.len) (sym g.0) hi in
    chain_bytes c.area ss ps h2.0 t2 g.1 h2.2 far a n lo hi
    ∙ in_held p s2 h2.0 h2.1 a n lo' hi' ∙ sym (in_held p s h.0 h.1 a n lo' hi')
    ∙ sym (chain_bytes c.area ss ps h.0 t g.1 h.2 far a n lo hi)
chains_hold (c ∷ ss) (p ∷ ps) s t s2 t2 g h h2 (suc j) lt none_shared a n lo hi =
    chains_hold ss ps h.0 t h2.0 t2 g.1 h.2 h2.2 j (omega arith) (λ k less ne. none_shared (suc k) (omega arith) (λ e. ne (let z : k ≡ j = omega arith in z))) a n lo hi

pub middle_chain : (ps : List Gap) (a t : State) → Middle ps a t → Chain ps (store_of a) (store_of t)
middle_chain [] a t h = ap store_of h
middle_chain (p ∷ ps) a t h = (store_of h.0, state_store p a h.0 h.1, middle_chain ps h.0 t h.2)

-- ---- bytes, one by one

drop_get : (a k : ℕ) (m : List ℕ) → slice_get (drop a m) k ≡ slice_get m (a + k)
drop_get zero k m = let z : k ≡ 0 + k = omega arith in ap (slice_get m) z
drop_get (suc a) k [] = refl
drop_get (suc a) k (x ∷ m) = let z : suc a + k ≡ suc (a + k) = omega arith in drop_get a k m ∙ sym (ap (slice_get (x ∷ m)) z)

take_same : (n : ℕ) (xs ys : List ℕ) → ((k : ℕ) → k < n → slice_get xs k ≡ slice_get ys k) → take n xs ≡ take n ys
take_same zero xs ys h = refl
take_same (suc n) [] [] h = refl
take_same (suc n) [] (y ∷ ys) h = let e : None ≡ Some y = h 0 (omega arith) in cc
take_same (suc n) (x ∷ xs) [] h = let e : Some x ≡ None = h 0 (omega arith) in cc
take_same (suc n) (x ∷ xs) (y ∷ ys) h =
    let e : Some x ≡ Some y = h 0 (omega arith) in
    let e1 : x ≡ y = cc in
    ap (λ z. z ∷ take n xs) e1 ∙ ap (λ z. y ∷ z) (take_same n xs ys (λ k lt. h (suc k) (omega arith)))

pub bytes_by_each : (m1 m2 : List ℕ) (a n : ℕ) → ((x : ℕ) → a ≤ x → x < a + n → slice_get m1 x ≡ slice_get m2 x) → bytes_at m1 a n ≡ bytes_at m2 a n
bytes_by_each m1 m2 a n h = take_same n (drop a m1) (drop a m2) (λ k lt. drop_get a k m1 ∙ h (a + k) (omega arith) (omega arith) ∙ sym (drop_get a k m2))
