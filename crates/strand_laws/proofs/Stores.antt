-- Each move of the written module from a known state leaves a store that is known, also one behind which all is over.
use Rattle.std.proofs.Common.{List, None, Option, Some, [], Bool, arith, cond, eqb, false, ltb, subst, true, ℕ, ◌*◌, ◌∷◌, ◌≡◌, length}
use Rattle.wa_types.specs.Memory.{page_size}
use Rattle.wa_types.specs.Modules.{all_memories, defined_at, func_imports, func_type_at, imported, imported_global}
use Rattle.wa_types.specs.Syntax.{Func, Module}
use Rattle.wa_types.specs.Validity.{Valid}
use Rattle.wa_types.specs.declared.values.ValType.{ValType}
use Rattle.wa_types.specs.declared.values.Value.{Value}
use Rattle.wa_model.specs.Blocking.{Asker, Left, Note, Task, an_entry, call_note, fault_of, in_start, inside, next_entry, outermost, pause_of, poked, stack_at, store_at, the_start, with_outcomes}
use Rattle.run_theory.specs.Fitting.{NextFits, StoreFits, global_types, types_of}
use Rattle.wa_model.specs.Instantiation.{least_of, opening, opens}
use Rattle.wa_model.specs.Machine.{Turn, goes, stops}
use Rattle.wa_model.specs.Outside.{Answer}
use Rattle.wa_model.specs.Plan.{AreaFits, Entry, Outcome, Plan, given, refused}
use Rattle.wa_model.specs.Protocol.{Exports, Held, Phase, Then, aside, aside_back, aside_called, aside_step, broken, busy, busy_enters, busy_step, call_again, calling, entering, exports_of, free, give_answer, give_zero, held_asked, held_back, held_given, held_next, held_on, held_pauses, held_resumed, held_start, held_tested, is_running, is_state, over, pause_there, protocol, rewinds, starting, store_held, test_rewound, test_unwound, unwinds}
use Rattle.wa_model.specs.Step.{Next, asks, returns, step, steps, stuck, traps}
use Rattle.wa_model.specs.Store.{Store}
use Rattle.wa_model.specs.Configuration.{Configuration}
use Rattle.wa_model.specs.declared.answers.Said.{Said}
use Rattle.wa_model.specs.declared.answers.Said.TheVariants as S
use Rattle.wa_model.specs.declared.events.End.{End}
use Rattle.run_theory.proofs.FittingOpenings.{openings_fit}
use Rattle.run_theory.proofs.FittingSteps.{steps_fit}
use Rattle.run_theory.proofs.Invariants.{TurnKeeps}
use Rattle.run_laws.specs.Ranges.{CodesIn, HeldFrom, NoteIn, OpeningIn, StoreIn, ValuesIn}
use Rattle.run_laws.proofs.Host.{store_lower}
use Rattle.run_laws.proofs.Openings.{openings_in}
use Rattle.run_laws.proofs.ProtocolRuns.{turn_in}
use Rattle.run_laws.specs.FittingStates.{HeldFits}
use Rattle.headline.proofs.WrittenKnown.{InRange}

-- ---- stores that fit

module _ (p : Module) (v : Valid p) (plan : Plan) where
  abbrev x : Exports
  x = exports_of p

  -- the store that a move leaves fits
  abbrev pub Leaves : Turn Held Note → Type 0
  Leaves stops = Unit {0}
  Leaves (goes k es t) = StoreFits p (store_held t)

  on_leaves : (s : Store) (l : Left) (es : List Entry) → StoreFits p s → StoreFits p (store_held (held_on s l es))
  on_leaves s l [] h = h
  on_leaves s l (e ∷ es) h = h

  back_leaves : (k : ℕ) (task : Task) (results : List Value) (s : Store) (l : Left) → StoreFits p s → Leaves (held_back k task results s l)
  back_leaves k the_start results s l h = on_leaves s l l.entries h
  back_leaves k (an_entry e) results s l h = on_leaves s (next_entry l) l.entries h

  given_leaves : (k : ℕ) (called : Note) (said : Said) (s : Store) (l : Left) (who : Asker) → StoreFits p s → Leaves (held_given k called said s l who)
  given_leaves k called (S.Value v) s l (inside task c) h = h
  given_leaves k called (S.Value v) s l (outermost old) h = on_leaves s l l.entries h
  given_leaves k called S.Trap s l who h = h

  resumed_leaves : (k : ℕ) (e : Entry) (said : Said) (sp : Store) (c : Configuration) (l : Left) (s : Store) → StoreFits p s → Leaves (held_resumed k e said sp c l s)
  resumed_leaves k e (S.Value v) sp c l s h = h
  resumed_leaves k e S.Trap sp c l s h = h

  pauses_leaves : (k import : ℕ) (called : Note) (a : Answer) (l : Left) (who : Asker) → StoreFits p (store_at who) → Leaves (held_pauses x plan k called import a l who)
  pauses_leaves k import called a l (inside (an_entry e) c) h = record { globals = h.globals; table = h.table }
  pauses_leaves k import called a l (inside the_start c) h = tt
  pauses_leaves k import called a l (outermost s) h = tt

  tested_leaves : (k import : ℕ) (args : List Value) (who : Asker) (l : Left) (a : Answer) (o : Option End) (pause : Option ℕ) → StoreFits p (store_at who)
      → Leaves (held_tested p x plan k import args who l a o pause)
  tested_leaves k import args who l a (Some e) pause h = h
  tested_leaves k import args who l a None None h =
      given_leaves k (call_note import args (store_at who) (stack_at p who) None) a.said (poked (store_at who) a.pokes) l who (record { globals = h.globals; table = h.table })
  tested_leaves k import args who l a None (Some ticks) h = pauses_leaves k import (call_note import args (store_at who) (stack_at p who) (Some ticks)) a l who h

  asked_leaves : (k import : ℕ) (args : List Value) (who : Asker) (l : Left) (os : List Outcome) → StoreFits p (store_at who) → Leaves (held_asked p x plan k import args who l os)
  asked_leaves k import args who l [] h = h
  asked_leaves k import args who l (refused e ∷ os) h = h
  asked_leaves k import args who l (given a ∷ os) h =
      tested_leaves k import args who (with_outcomes l os) a (fault_of (func_type_at p import).results (length (store_at who).memory) plan (in_start who) import a) (pause_of a.ticks) h

  busy_leaves : (ph : Phase) (l : Left) (outs : List ValType) (o : Next) → NextFits p outs o → Leaves (busy_step p x plan ph l o)
  busy_leaves ph l outs (steps k d) n = n.store
  busy_leaves (is_running task) l outs (asks k import args d) n = asked_leaves k import args (inside task d) l l.outcomes n.2.store
  busy_leaves (unwinds e i a) l outs (asks k import args d) n = n.2.store
  busy_leaves (rewinds e i a sp) l outs (asks k import args d) n = by_import (eqb import i)
    where
      by_import : (b : Bool) → Leaves (cond b (goes k [] (calling (rewinds e i a sp) d.store x.get_state [] (test_rewound d) l)) (broken k 3 d.store))
      by_import true = n.2.store
      by_import false = n.2.store
  busy_leaves (is_running task) l outs (returns k results s) n = back_leaves k task results s l n.0
  busy_leaves (unwinds e i a) l outs (returns k results s) n = n.0
  busy_leaves (rewinds e i a sp) l outs (returns k results s) n = n.0
  busy_leaves ph l outs (traps k trap s) n = n
  busy_leaves ph l outs stuck n = absurd n

  aside_back_leaves : (k : ℕ) (ph : Phase) (th : Then) (l : Left) (results : List Value) (s : Store) → StoreFits p s → Leaves (aside_back p x plan k ph th l results s)
  aside_back_leaves k (unwinds e i a) (give_zero c) l results s h = h
  aside_back_leaves k (unwinds e i a) test_unwound l results s h = by_state (is_state 1 results)
    where
      by_state : (b : Bool) → Leaves (cond b (goes k [] (calling (unwinds e i a) s x.stop_unwind [] pause_there l)) (broken k 2 s))
      by_state true = h
      by_state false = h
  aside_back_leaves k (unwinds e i a) pause_there l results s h = h
  aside_back_leaves k (rewinds e i a sp) call_again l results s h = h
  aside_back_leaves k (rewinds e i a sp) (test_rewound c) l results s h = by_state (is_state 2 results)
    where
      by_state : (b : Bool) → Leaves (cond b (goes k [] (calling (rewinds e i a sp) s x.stop_rewind [] (give_answer c) l)) (broken k 4 s))
      by_state true = h
      by_state false = h
  aside_back_leaves k (rewinds e i a sp) (give_answer c) l results s h = resumed_leaves k e a.said sp c l (poked s a.pokes) (record { globals = h.globals; table = h.table })
  aside_back_leaves k _ _ l results s h = tt

  aside_leaves : (ph : Phase) (th : Then) (l : Left) (outs : List ValType) (o : Next) → NextFits p outs o → Leaves (aside_step p x plan ph th l o)
  aside_leaves ph th l outs (steps k d) n = n.store
  aside_leaves ph th l outs (asks k import args d) n = n.2.store
  aside_leaves ph th l outs (returns k results s) n = aside_back_leaves k ph th l results s n.0
  aside_leaves ph th l outs (traps k trap s) n = n
  aside_leaves ph th l outs stuck n = absurd n

  enters_leaves : (ph : Phase) (e : Entry) (s : Store) (l : Left) (o : Option Func) → StoreFits p s → Leaves (busy_enters ph e s l o)
  enters_leaves ph e s l None h = tt
  enters_leaves ph e s l (Some f) h = h

  next_leaves : (s : Store) (l : Left) (es : List Entry) → StoreFits p s → Leaves (held_next p s l es)
  next_leaves s l [] h = tt
  next_leaves s l (e ∷ es) h = enters_leaves (is_running (an_entry e)) e s (record { number = l.number; entries = es; outcomes = l.outcomes }) (defined_at p e.func) h

  called_leaves : (ph : Phase) (s : Store) (f : ℕ) (args : List Value) (th : Then) (l : Left) (o : Option Func) → StoreFits p s → Leaves (aside_called ph s f args th l o)
  called_leaves ph s f args th l None h = tt
  called_leaves ph s f args th l (Some g) h = h

  start_leaves : (f : ℕ) (s : Store) (l : Left) (o : Option Func) → StoreFits p s → Leaves (held_start p x plan f s l o)
  start_leaves f s l (Some g) h = h
  start_leaves f s l None h = by_import (ltb f (func_imports p))
    where
      by_import : (b : Bool) → Leaves (cond b (held_asked p x plan 0 f [] (outermost s) l l.outcomes) stops)
      by_import true = asked_leaves 0 f [] (outermost s) l l.outcomes h
      by_import false = tt

  pub turn_leaves : (t : Held) → HeldFits p t → Leaves (protocol p x plan t)
  turn_leaves (free s l) h = next_leaves s l l.entries h.0
  turn_leaves (starting f s l) h = start_leaves f s l (defined_at p f) h.0
  turn_leaves (busy ph c l) h = busy_leaves ph l h.0 (step p c) (steps_fit p h.0 c v h.1)
  turn_leaves (calling ph s f args th l) h = called_leaves ph s f args th l (defined_at p f) h.0
  turn_leaves (aside ph c th l) h = aside_leaves ph th l h.0 (step p c) (steps_fit p h.0 c v h.1)
  turn_leaves (entering ph e s l) h = enters_leaves ph e s l (defined_at p e.func) h.0
  turn_leaves (over s) h = tt

-- ---- stores in range

-- where a run stands its store is in range
store_from : (low : ℕ) (t : Held) → HeldFrom low t → StoreIn low (store_held t)
store_from low (free s l) h = store_lower low h.0 s h.1 h.2.0
store_from low (starting f s l) h = store_lower low h.0 s h.1 h.2.0
store_from low (busy ph c l) h = let q = h.2.1 in store_lower low h.0 c.store h.1 q.store
store_from low (calling ph s f args th l) h = store_lower low h.0 s h.1 h.2.1
store_from low (aside ph c th l) h = let q = h.2.1 in store_lower low h.0 c.store h.1 q.store
store_from low (entering ph e s l) h = store_lower low h.0 s h.1 h.2.2
store_from low (over s) h = store_lower low h.0 s h.1 h.2

-- of a state at which not all is over
from_in : (p : Module) (plan : Plan) (low : ℕ) (b t : Held) (k : ℕ) (es : List Note) → InRange low b → protocol p (exports_of p) plan b ≡ goes k es t → HeldFrom low b
from_in p plan low (over s) t k es h e = cc
from_in p plan low (free s l) t k es h e = h
from_in p plan low (starting f s l) t k es h e = h
from_in p plan low (busy ph c l) t k es h e = h
from_in p plan low (calling ph s f args th l) t k es h e = h
from_in p plan low (aside ph c th l) t k es h e = h
from_in p plan low (entering ph y s l) t k es h e = h

-- what is known of a store of this module
abbrev pub StoreKnown : Module → Store → Type 0
StoreKnown p s = StoreFits p s × StoreIn (least_of (all_memories p) * page_size) s

-- A MOVE FROM A KNOWN STATE leaves a known store, wherever it leads
pub leaves_known : (p : Module) (v : Valid p) (plan : Plan) (area : AreaFits p plan.area) (codes : CodesIn p) (b t : Held) (k : ℕ) (es : List Note) → HeldFits p b
    → InRange (least_of (all_memories p) * page_size) b → protocol p (exports_of p) plan b ≡ goes k es t → StoreKnown p (store_held t)
leaves_known p v plan area codes b t k es fits ranges e =
    let low : ℕ = least_of (all_memories p) * page_size in
    let from : HeldFrom low b = from_in p plan low b t k es ranges e in (
      subst (λ o. Leaves p v plan o) e (turn_leaves p v plan b fits),
      store_from low t
          (subst (TurnKeeps (protocol p (exports_of p) plan) (HeldFrom low) (NoteIn low)) e (turn_in p codes (exports_of p) plan low area.least area.inside low b (omega arith) from)).1,
    )

-- the store that instantiation makes
pub opened_known : (p : Module) (v : Valid p) (globals : List Value) (codes : CodesIn p) → types_of globals ≡ global_types (imported imported_global p) → ValuesIn globals → (s : Store)
    → opening p globals ≡ opens s → StoreKnown p s
opened_known p v globals codes typed ranges s e =
    (openings_fit p globals s v typed e, subst (OpeningIn (least_of (all_memories p) * page_size)) e (openings_in p globals codes ranges))
