-- What is known of a state of the written module's run is known of it over another store, as its turn begins.
use Rattle.std.proofs.Common.{List, [], arith, length, ℕ, ◌∷◌, ◌≤◌}
use Rattle.wa_types.specs.Syntax.{Module}
use Rattle.wa_types.specs.declared.values.Value.{Value}
use Rattle.wa_model.specs.Blocking.{Left}
use Rattle.run_theory.specs.Fitting.{StoreFits}
use Rattle.wa_model.specs.Outside.{Answer}
use Rattle.wa_model.specs.Plan.{Entry}
use Rattle.wa_model.specs.Protocol.{Held, Phase, Then, aside, busy, call_again, calling, entering, free, give_answer, give_zero, held_on, is_running, over, pause_there, rewinds, starting, store_held, test_rewound, test_unwound, unwinds}
use Rattle.wa_model.specs.Store.{Store, with_memory}
use Rattle.run_laws.specs.FittingStates.{HeldFits, ThenFits}
use Rattle.run_laws.specs.Ranges.{StoreIn}
use Rattle.headline.proofs.WrittenKnown.{InRange}
use Rattle.headline.specs.Core.{Core}
use Rattle.headline.specs.Links.{GoodStore}
use Rattle.strand_laws.specs.Strands.{held_wakes}

then_fits : (p : Module) (e : Entry) (i : ℕ) (a : Answer) (s s' : Store) (th : Then) → ThenFits p (rewinds e i a s) th → ThenFits p (rewinds e i a s') th
then_fits p e i a s s' (give_zero c) h = absurd h
then_fits p e i a s s' test_unwound h = absurd h
then_fits p e i a s s' pause_there h = absurd h
then_fits p e i a s s' call_again h = tt
then_fits p e i a s s' (test_rewound c) h = h
then_fits p e i a s s' (give_answer c) h = h

pub fits_wakes : (p : Module) (b : Held) (s : Store) → HeldFits p b → StoreFits p s → HeldFits p (held_wakes s b).last
fits_wakes p (free old l) s h k = by_entries l.entries h.1
  where
    by_entries : (es : List Entry) → Rattle.run_laws.specs.FittingStates.SomeLeft es → HeldFits p (held_on s l es)
    by_entries [] g = absurd g
    by_entries (e ∷ es) g = (k, h.1, h.2)
fits_wakes p (calling (rewinds e i a at) old f args th l) s h k = (k, h.1, h.2, then_fits p e i a at s th h.3, h.4)
fits_wakes p (calling (is_running task) old f args th l) s h k = h
fits_wakes p (calling (unwinds e i a) old f args th l) s h k = h
fits_wakes p (starting f old l) s h k = h
fits_wakes p (busy ph c l) s h k = h
fits_wakes p (aside ph c th l) s h k = h
fits_wakes p (entering ph e old l) s h k = h
fits_wakes p (over old) s h k = h

store_more : (n m : ℕ) (s : Store) → StoreIn n s → m ≤ length s.memory → StoreIn m s
store_more n m s h le = let q = h.memory in record { globals = h.globals; memory = record { each = q.each; pages = q.pages; least = le } }

pub range_wakes : (low : ℕ) (b : Held) (s : Store) → InRange low b → StoreIn low s → length (store_held b).memory ≤ length s.memory → InRange low (held_wakes s b).last
range_wakes low (free old l) s h k le = by_entries l.entries
  where
    by_entries : (es : List Entry) → InRange low (held_on s l es)
    by_entries [] = tt
    by_entries (e ∷ es) = (low, omega arith, (k, h.2.1))
range_wakes low (calling (rewinds e i a at) old f args th l) s h k le =
    let q = h.2.1 in
    let least : h.0 ≤ length old.memory = q.memory.least in
    (h.0, h.1, ((h.2.0.0, store_more low 0 s k (omega arith)), store_more low h.0 s k (omega arith), h.2.2, h.2.3, h.2.4))
range_wakes low (calling (is_running task) old f args th l) s h k le = h
range_wakes low (calling (unwinds e i a) old f args th l) s h k le = h
range_wakes low (starting f old l) s h k le = h
range_wakes low (busy ph c l) s h k le = h
range_wakes low (aside ph c th l) s h k le = h
range_wakes low (entering ph e old l) s h k le = h
range_wakes low (over old) s h k le = h

pub store_known : (p : Module) (low : ℕ) (ph : Phase) (s : Store) (f : ℕ) (args : List Value) (th : Then) (l : Left) → HeldFits p (calling ph s f args th l) → InRange low (calling ph s f args th l)
    → StoreFits p s × StoreIn low s
store_known p low ph s f args th l h r = let q = r.2.1 in let least : r.0 ≤ length s.memory = q.memory.least in let lo = r.1 in (h.0, store_more r.0 low s q (omega arith))

-- a lawful store of the original with the memory of a known one
pub good_over : (k : Core) (low : ℕ) (t s' : Store) → GoodStore k t → StoreIn low s' → GoodStore k (with_memory t s'.memory)
good_over k low t s' h r =
    let f = h.fits in
    let a = h.ranges in
    let b = r.memory in
    record {
      fits = record { globals = f.globals; table = f.table };
      named = (let n = h.named in record { globals = n.globals; table = n.table });
      ranges = record { globals = a.globals; memory = record { each = b.each; pages = b.pages; least = omega arith } };
    }
