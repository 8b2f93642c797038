-- What a run under the protocol has kept, told and met where it waits at a pause: the answer is that of the last call, and has passed its tests on a
-- memory that is no longer now.
use Rattle.std.proofs.Common.{◌≡◌, ◌≤◌, ℕ, zero, suc, ◌+◌, ◌*◌, Bool, true, false, cond, leb, List, [], ◌∷◌, ◌++◌, length, Option, Some, None, refl, sym, ap, ◌∙◌, subst, append-nil, length-append, arith}
use Rattle.std.proofs.lemmas.List.{append_assoc}
use Rattle.std.specs.Prelude.{◌&&◌, nat_eq, nat_le, nat_lt}
use Rattle.std.specs.List.{list_all}
use Rattle.std.proofs.lemmas.Bool.{le-leb, leb-true}
use Rattle.wa_types.specs.declared.values.ValType.{ValType}
use Rattle.wa_types.specs.declared.values.Value.{Value}
use Rattle.wa_types.specs.Memory.{page_size}
use Rattle.wa_types.specs.Modules.{all_memories, defined_at, func_imports, func_type_at}
use Rattle.wa_types.specs.Syntax.{Func, Module}
use Rattle.wa_types.specs.Validity.{Valid}
use Rattle.wa_model.specs.declared.answers.Area.{Area}
use Rattle.wa_model.specs.declared.answers.Said.{Said}
use Rattle.wa_model.specs.declared.answers.Said.TheVariants as SV
use Rattle.wa_model.specs.declared.events.End.{End}
use Rattle.wa_model.specs.declared.events.End.TheVariants.{BadPoke}
use Rattle.wa_model.specs.Outside.{Answer, Call, Event, Poke, answered, called, ended, parked, paused, returned, shown}
use Rattle.wa_model.specs.Machine.{Turn, stops, goes, Leads, stays, moves}
use Rattle.wa_model.specs.Store.{Store}
use Rattle.wa_model.specs.Configuration.{Configuration}
use Rattle.wa_model.specs.Step.{Next, steps, asks, returns, traps, stuck, step}
use Rattle.wa_model.specs.Plan.{Entry, Plan, Outcome, given, refused}
use Rattle.wa_model.specs.Instantiation.{Opening, fails_as, least_of, opens}
use Rattle.wa_model.specs.Blocking.{Note, bad_pause, bad_poke, bad_value, call_note, done_notes, fault_of, is_off, is_unlisted, or_else, pause_of, poked, Task, the_start, an_entry, Left, with_outcomes, Asker, inside, outermost, store_at, stack_at, in_start, next_entry, all_left}
use Rattle.wa_model.specs.Protocol.{Exports, exports_of, Phase, is_running, unwinds, rewinds, Then, give_zero, test_unwound, pause_there, call_again, test_rewound, give_answer, Held, free, starting, busy, calling, aside, entering, over, protocol, broken, with_words, held_on, held_back, held_given, held_resumed, held_pauses, held_tested, held_asked, busy_step, is_state, aside_back, aside_step, busy_enters, held_next, aside_called, held_start, held_begun}
use Rattle.run_laws.specs.FittingStates.{ExportsTyped, HeldFits}
use Rattle.run_laws.proofs.Host.{fault_pokes}
use Rattle.run_laws.proofs.ProtocolStopping.{protocol_states_stay}
use Rattle.world_hosting.proofs.KeptStores.{IsKept, IsLonger, NextLonger, poked_kept, step_longer, words_kept, words_long}

-- ---- an answer's tests on more memory

none_of : (a b : Option End) → or_else a b ≡ None → (a ≡ None) × (b ≡ None)
none_of None b e = (refl, e)
none_of (Some x) b e = cc

or_none : (a b : Option End) → a ≡ None → b ≡ None → or_else a b ≡ None
or_none None b e f = f
or_none (Some x) b e f = cc

pokes_grow : (size more : ℕ) (areas : List Area) (ps : List Poke) → size ≤ more → bad_poke size areas ps ≡ None → bad_poke more areas ps ≡ None
pokes_grow size more areas [] le e = refl
pokes_grow size more areas (p ∷ ps) le e = by_place (leb (p.at + length p.bytes) size) refl (list_all (is_off p) areas) refl e
    (pokes_grow size more areas ps le)
  where
    by_place : (b : Bool) → leb (p.at + length p.bytes) size ≡ b → (c : Bool) → list_all (is_off p) areas ≡ c
        → cond (b && c) (bad_poke size areas ps) (Some (BadPoke p.at (length p.bytes))) ≡ None → (bad_poke size areas ps ≡ None → bad_poke more areas ps ≡ None)
        → cond (nat_le (p.at + length p.bytes) more && list_all (is_off p) areas) (bad_poke more areas ps) (Some (BadPoke p.at (length p.bytes))) ≡ None
    by_place true z true y k on =
        let fits = leb-true (p.at + length p.bytes) size z in
        let there : nat_le (p.at + length p.bytes) more ≡ true = le-leb (p.at + length p.bytes) more (omega (arith, fits, le)) in
        (λ i. cond (there i && y i) (bad_poke more areas ps) (Some (BadPoke p.at (length p.bytes)))) ∙ on k
    by_place true z false y k on = cc
    by_place false z c y k on = cc

pub fault_grows : (results : List ValType) (size more : ℕ) (plan : Plan) (start : Bool) (import : ℕ) (a : Answer) → size ≤ more → fault_of results size plan start import a ≡ None
    → fault_of results more plan start import a ≡ None
fault_grows results size more plan start import a le e =
    let one = none_of (bad_value results import a.said) _ e in
    let two = none_of (bad_poke size (plan.area ∷ plan.others) a.pokes) _ one.1 in
    or_none (bad_value results import a.said) _ one.0
    (or_none (bad_poke more (plan.area ∷ plan.others) a.pokes) (bad_pause start (is_unlisted plan.listed import) import a.ticks) (pokes_grow size more (plan.area ∷ plan.others) a.pokes le two.0) two.1)

-- ---- what notes tell

-- The call that was told last, and the ticks of all pauses.
pub record Account : Type 0 where
  pub last : Option Call
  pub ticks : ℕ

abbrev pub nothing_told : Account
nothing_told = record { last = None; ticks = 0 }

-- with an event more
abbrev pub one_told : Event → Account → Account
one_told (called call) x = record { last = Some call; ticks = x.ticks }
one_told (paused ticks used) x = record { last = x.last; ticks = x.ticks + ticks }
one_told (answered said) x = x
one_told (parked used) x = x
one_told (returned entry value) x = x
one_told (ended how) x = x
one_told (shown at bytes) x = x

-- with these notes more
abbrev pub accounted : List Note → Account → Account
accounted [] x = x
accounted (y ∷ ys) x = accounted ys (one_told y.event x)

pub accounted_on : (xs ys : List Note) (a : Account) → accounted (xs ++ ys) a ≡ accounted ys (accounted xs a)
accounted_on [] ys a = refl
accounted_on (x ∷ xs) ys a = accounted_on xs ys (one_told x.event a)

-- the ticks of answers
abbrev pub ticks_met : List Outcome → ℕ
ticks_met [] = 0
ticks_met (given a ∷ os) = a.ticks + ticks_met os
ticks_met (refused e ∷ os) = ticks_met os

pub ticks_on : (xs ys : List Outcome) → ticks_met (xs ++ ys) ≡ ticks_met xs + ticks_met ys
ticks_on [] ys = let z : ticks_met ys ≡ 0 + ticks_met ys = omega arith in z
ticks_on (given a ∷ xs) ys = let rest = ticks_on xs ys in omega (arith, rest)
ticks_on (refused e ∷ xs) ys = ticks_on xs ys

-- ---- what holds wherever a run stands

module _ (p : Module) (plan : Plan) (opened : List Value) (all : List Outcome) where
  -- Of all outcomes these are left, no more were met than was paid, and pauses told no more ticks than answers had.
  pub record HasMet (n : ℕ) (told : Account) (left : List Outcome) : Type 0 where
    pub done : List Outcome
    pub is : all ≡ done ++ left
    pub few : length done ≤ n
    pub ticks : told.ticks ≤ ticks_met done

  -- The call of this import, told last, met this answer, which is a pause and passes its tests on so many bytes; of its ticks so many are told.
  pub record IsWaiting (size n : ℕ) (told : Account) (i : ℕ) (a : Answer) (ticks_told : ℕ) (left : List Outcome) : Type 0 where
    pub done : List Outcome
    pub is : all ≡ done ++ given a ∷ left
    pub few : suc (length done) ≤ n
    pub args : List Value
    pub last : told.last ≡ Some (record { import = i; args = args })
    pub ticks : told.ticks ≤ ticks_met done + ticks_told
    pub passes : fault_of (func_type_at p i).results size plan false i a ≡ None
    pub pauses : 1 ≤ a.ticks

  abbrev pub PhaseSo : (size n : ℕ) → Account → Phase → Left → Type 0
  PhaseSo size n told (is_running task) l = HasMet n told l.outcomes
  PhaseSo size n told (unwinds e i a) l = IsWaiting size n told i a 0 l.outcomes
  PhaseSo size n told (rewinds e i a since) l = IsWaiting size n told i a a.ticks l.outcomes

  abbrev pub HeldSo : ℕ → Account → Held → Type 0
  HeldSo n told (free s l) = IsKept p opened s × HasMet n told l.outcomes
  HeldSo n told (starting f s l) = IsKept p opened s × HasMet n told l.outcomes
  HeldSo n told (busy ph c l) = IsKept p opened c.store × PhaseSo (length c.store.memory) n told ph l
  HeldSo n told (calling ph s f args th l) = IsKept p opened s × PhaseSo (length s.memory) n told ph l
  HeldSo n told (aside ph c th l) = IsKept p opened c.store × PhaseSo (length c.store.memory) n told ph l
  HeldSo n told (entering ph e s l) = IsKept p opened s × PhaseSo (length s.memory) n told ph l
  HeldSo n told (over s) = Unit {0}

  abbrev TurnSo : ℕ → Account → Turn Held Note → Type 0
  TurnSo n told stops = Unit {0}
  TurnSo n told (goes k es t) = HeldSo (n + suc k) (accounted es told) t

  -- ---- once more is paid, on no less memory

  met_later : (n m : ℕ) (told : Account) (os : List Outcome) → n ≤ m → HasMet n told os → HasMet m told os
  met_later n m told os le h = record { done = h.done; is = h.is; few = let few = h.few in omega (arith, le, few); ticks = h.ticks }

  waits_later : (size more n m : ℕ) (told : Account) (i : ℕ) (a : Answer) (ticks : ℕ) (os : List Outcome) → size ≤ more → n ≤ m → IsWaiting size n told i a ticks os → IsWaiting more m told i a ticks os
  waits_later size more n m told i a ticks os le before h = record {
    done = h.done;
    is = h.is;
    few = let few = h.few in omega (arith, before, few);
    args = h.args;
    last = h.last;
    ticks = h.ticks;
    passes = fault_grows (func_type_at p i).results size more plan false i a le h.passes;
    pauses = h.pauses;
  }

  phase_later : (size more n m : ℕ) (told : Account) (ph : Phase) (l : Left) → size ≤ more → n ≤ m → PhaseSo size n told ph l → PhaseSo more m told ph l
  phase_later size more n m told (is_running task) l le before h = met_later n m told l.outcomes before h
  phase_later size more n m told (unwinds e i a) l le before h = waits_later size more n m told i a 0 l.outcomes le before h
  phase_later size more n m told (rewinds e i a since) l le before h = waits_later size more n m told i a a.ticks l.outcomes le before h

  paid : (n k : ℕ) → n ≤ n + suc k
  paid n k = omega arith

  same : (n : ℕ) → n ≤ n
  same n = omega arith

  phase_paid : (size n k : ℕ) (told : Account) (ph : Phase) (l : Left) → PhaseSo size n told ph l → PhaseSo size (n + suc k) told ph l
  phase_paid size n k told ph l h = phase_later size size n (n + suc k) told ph l (same size) (paid n k) h

  -- the answer of a pause was met
  waited : (size n k : ℕ) (told : Account) (i : ℕ) (a : Answer) (os : List Outcome) → IsWaiting size n told i a a.ticks os → HasMet (n + suc k) told os
  waited size n k told i a os h =
      let more = length-append h.done (given a ∷ []) in
      let sum = ticks_on h.done (given a ∷ []) in
      let few = h.few in
      let ticks = h.ticks in
      record { done = h.done ++ given a ∷ []; is = h.is ∙ sym (append_assoc h.done (given a ∷ []) os); few = omega (arith, more, few); ticks = omega (arith, sum, ticks) }

  module _ (wide : 8 ≤ plan.area.len) (room : plan.area.at + plan.area.len ≤ least_of (all_memories p) * page_size) where
    area_in : (s : Store) → IsKept p opened s → plan.area.at + plan.area.len ≤ length s.memory
    area_in s h =
        let whole : length s.memory ≡ h.memory.pages * 65536 = h.memory.whole in
        let least = h.memory.fit.least in
        let inside : plan.area.at + plan.area.len ≤ least_of (all_memories p) * 65536 = room in
        omega (arith, whole, least, inside)

    abbrev x : Exports
    x = exports_of p

    abbrev asker_kept : Asker → Type 0
    asker_kept w = IsKept p opened (store_at w)

    on_so : (n : ℕ) (told : Account) (s : Store) (l : Left) (es : List Entry) → IsKept p opened s → HasMet n told l.outcomes → HeldSo n (accounted (done_notes s es) told) (held_on s l es)
    on_so n told s l [] e t = tt
    on_so n told s l (y ∷ ys) e t = (e, t)

    back_so : (n : ℕ) (told : Account) (k : ℕ) (task : Task) (vs : List Value) (s : Store) (l : Left) → IsKept p opened s → HasMet n told l.outcomes → TurnSo n told (held_back k task vs s l)
    back_so n told k the_start vs s l e t = on_so (n + suc k) told s l l.entries e (met_later n (n + suc k) told l.outcomes (paid n k) t)
    back_so n told k (an_entry y) vs s l e t = on_so (n + suc k) told s (next_entry l) l.entries e (met_later n (n + suc k) told l.outcomes (paid n k) t)

    given_so : (n : ℕ) (told : Account) (k : ℕ) (y : Note) (said : Said) (s : Store) (l : Left) (w : Asker) → IsKept p opened s → HasMet (n + suc k) (one_told y.event told) l.outcomes
        → TurnSo n told (held_given k y said s l w)
    given_so n told k y (SV.Value v) s l (inside task c) e t = (e, t)
    given_so n told k y (SV.Value v) s l (outermost old) e t = on_so (n + suc k) (one_told y.event told) s l l.entries e t
    given_so n told k y SV.Trap s l w e t = tt

    resumed_so : (n : ℕ) (told : Account) (k : ℕ) (y : Entry) (said : Said) (since : Store) (c : Configuration) (l : Left) (s : Store) → IsKept p opened s → HasMet (n + suc k) told l.outcomes
        → TurnSo n told (held_resumed k y said since c l s)
    resumed_so n told k y (SV.Value v) since c l s e t = (e, t)
    resumed_so n told k y SV.Trap since c l s e t = tt

    -- a call that pauses
    pauses_so : (n : ℕ) (told : Account) (k import : ℕ) (args : List Value) (ticks : Option ℕ) (a : Answer) (l : Left) (w : Asker) → asker_kept w
        → (in_start w ≡ false → IsWaiting (length (store_at w).memory) (n + suc k) (record { last = Some (record { import = import; args = args }); ticks = told.ticks }) import a 0 l.outcomes)
        → TurnSo n told (held_pauses x plan k (call_note import args (store_at w) (stack_at p w) ticks) import a l w)
    pauses_so n told k import args ticks a l (inside (an_entry e) c) kept t =
        let in_area = area_in c.store kept in
        let long = words_long c.store plan.area wide in_area in (
          words_kept p opened c.store plan.area wide in_area kept,
          waits_later (length c.store.memory) (length (with_words c.store plan.area).memory) (n + suc k) (n + suc k) _ import a 0 l.outcomes (omega (arith, long)) (same (n + suc k)) (t refl),
        )
    pauses_so n told k import args ticks a l (inside the_start c) kept t = tt
    pauses_so n told k import args ticks a l (outermost s) kept t = tt

    ticks_some : (n t : ℕ) → pause_of n ≡ Some t → 1 ≤ n
    ticks_some zero t e = cc
    ticks_some (suc n) t e = omega arith

    tested_so : (n : ℕ) (told : Account) (k import : ℕ) (args : List Value) (w : Asker) (l : Left) (a : Answer) (o : Option End) (pause : Option ℕ)
        → fault_of (func_type_at p import).results (length (store_at w).memory) plan (in_start w) import a ≡ o → pause_of a.ticks ≡ pause
        → asker_kept w → (done : List Outcome) → all ≡ done ++ given a ∷ l.outcomes → length done ≤ n → told.ticks ≤ ticks_met done
        → TurnSo n told (held_tested p x plan k import args w l a o pause)
    tested_so n told k import args w l a (Some e) pause fault is_pause kept done is few ticks = tt
    tested_so n told k import args w l a None None fault is_pause kept done is few ticks =
        let more = length-append done (given a ∷ []) in
        let sum = ticks_on done (given a ∷ []) in
        given_so n told k (call_note import args (store_at w) (stack_at p w) None) a.said (poked (store_at w) a.pokes) l w
        (poked_kept p opened (store_at w) a.pokes (fault_pokes (func_type_at p import).results (length (store_at w).memory) plan (in_start w) import a fault) kept)
        (record { done = done ++ given a ∷ []; is = is ∙ sym (append_assoc done (given a ∷ []) l.outcomes); few = omega (arith, more, few); ticks = omega (arith, sum, ticks) })
    tested_so n told k import args w l a None (Some t) fault is_pause kept done is few ticks =
        pauses_so n told k import args (Some t) a l w kept
        (λ start. record {
          done = done;
          is = is;
          few = omega (arith, few);
          args = args;
          last = refl;
          ticks = omega (arith, ticks);
          passes = subst (λ (b : Bool). fault_of (func_type_at p import).results (length (store_at w).memory) plan b import a ≡ None) start fault;
          pauses = ticks_some a.ticks t is_pause;
        })

    asked_so : (n : ℕ) (told : Account) (k import : ℕ) (args : List Value) (w : Asker) (l : Left) (os : List Outcome) → asker_kept w → HasMet n told os
        → TurnSo n told (held_asked p x plan k import args w l os)
    asked_so n told k import args w l [] kept t = tt
    asked_so n told k import args w l (refused e ∷ os) kept t = tt
    asked_so n told k import args w l (given a ∷ os) kept t =
        tested_so n told k import args w (with_outcomes l os) a (fault_of (func_type_at p import).results (length (store_at w).memory) plan (in_start w) import a) (pause_of a.ticks) refl refl kept
        t.done t.is t.few t.ticks

    busy_so : (n : ℕ) (told : Account) (size : ℕ) (ph : Phase) (l : Left) (o : Next) → PhaseSo size n told ph l → NextLonger p opened size o → TurnSo n told (busy_step p x plan ph l o)
    busy_so n told size ph l (steps k d) h e = (e.0, phase_later size (length d.store.memory) n (n + suc k) told ph l e.1 (paid n k) h)
    busy_so n told size (is_running task) l (asks k import args d) h e = asked_so n told k import args (inside task d) l l.outcomes e.0 h
    busy_so n told size (unwinds y i a) l (asks k import args d) h e = tt
    busy_so n told size (rewinds y i a since) l (asks k import args d) h e = by_import (nat_eq import i)
      where
        by_import : (b : Bool) → TurnSo n told (cond b (goes k [] (calling (rewinds y i a since) d.store x.get_state [] (test_rewound d) l)) (broken k 3 d.store))
        by_import true = (e.0, phase_later size (length d.store.memory) n (n + suc k) told (rewinds y i a since) l e.1 (paid n k) h)
        by_import false = tt
    busy_so n told size (is_running task) l (returns k vs s) h e = back_so n told k task vs s l e.0 h
    busy_so n told size (unwinds y i a) l (returns k vs s) h e = (e.0, phase_later size (length s.memory) n (n + suc k) told (unwinds y i a) l e.1 (paid n k) h)
    busy_so n told size (rewinds y i a since) l (returns k vs s) h e = tt
    busy_so n told size ph l (traps k trap s) h e = tt
    busy_so n told size ph l stuck h e = tt

    -- the pause is told
    told_pause : (size n : ℕ) (told : Account) (i : ℕ) (a : Answer) (os : List Outcome) → IsWaiting size n told i a 0 os
        → IsWaiting size n (record { last = told.last; ticks = told.ticks + a.ticks }) i a a.ticks os
    told_pause size n told i a os h =
        let ticks = h.ticks in
        record { done = h.done; is = h.is; few = h.few; args = h.args; last = h.last; ticks = omega (arith, ticks); passes = h.passes; pauses = h.pauses }

    aside_back_so : (n : ℕ) (told : Account) (size k : ℕ) (ph : Phase) (th : Then) (l : Left) (vs : List Value) (s : Store) → PhaseSo size n told ph l → IsLonger p opened size s
        → TurnSo n told (aside_back p x plan k ph th l vs s)
    aside_back_so n told size k (unwinds y i a) (give_zero c) l vs s h e = (e.0, phase_later size (length s.memory) n (n + suc k) told (unwinds y i a) l e.1 (paid n k) h)
    aside_back_so n told size k (unwinds y i a) test_unwound l vs s h e = by_state (is_state 1 vs)
      where
        by_state : (b : Bool) → TurnSo n told (cond b (goes k [] (calling (unwinds y i a) s x.stop_unwind [] pause_there l)) (broken k 2 s))
        by_state true = (e.0, phase_later size (length s.memory) n (n + suc k) told (unwinds y i a) l e.1 (paid n k) h)
        by_state false = tt
    aside_back_so n told size k (unwinds y i a) pause_there l vs s h e =
        (e.0, told_pause (length s.memory) (n + suc k) told i a l.outcomes (waits_later size (length s.memory) n (n + suc k) told i a 0 l.outcomes e.1 (paid n k) h))
    aside_back_so n told size k (rewinds y i a since) call_again l vs s h e = (e.0, phase_later size (length s.memory) n (n + suc k) told (rewinds y i a since) l e.1 (paid n k) h)
    aside_back_so n told size k (rewinds y i a since) (test_rewound c) l vs s h e = by_state (is_state 2 vs)
      where
        by_state : (b : Bool) → TurnSo n told (cond b (goes k [] (calling (rewinds y i a since) s x.stop_rewind [] (give_answer c) l)) (broken k 4 s))
        by_state true = (e.0, phase_later size (length s.memory) n (n + suc k) told (rewinds y i a since) l e.1 (paid n k) h)
        by_state false = tt
    aside_back_so n told size k (rewinds y i a since) (give_answer c) l vs s h e =
        let passes = fault_grows (func_type_at p i).results size (length s.memory) plan false i a e.1 h.passes in
        resumed_so n told k y a.said since c l (poked s a.pokes) (poked_kept p opened s a.pokes (fault_pokes (func_type_at p i).results (length s.memory) plan false i a passes) e.0)
        (waited size n k told i a l.outcomes h)
    aside_back_so n told size k _ _ l vs s h e = tt

    aside_so : (n : ℕ) (told : Account) (size : ℕ) (ph : Phase) (th : Then) (l : Left) (o : Next) → PhaseSo size n told ph l → NextLonger p opened size o → TurnSo n told (aside_step p x plan ph th l o)
    aside_so n told size ph th l (steps k d) h e = (e.0, phase_later size (length d.store.memory) n (n + suc k) told ph l e.1 (paid n k) h)
    aside_so n told size ph th l (asks k import args d) h e = tt
    aside_so n told size ph th l (returns k vs s) h e = aside_back_so n told size k ph th l vs s h e
    aside_so n told size ph th l (traps k trap s) h e = tt
    aside_so n told size ph th l stuck h e = tt

    enters_so : (n : ℕ) (told : Account) (ph : Phase) (y : Entry) (s : Store) (l : Left) (o : Option Func) → IsKept p opened s → PhaseSo (length s.memory) n told ph l
        → TurnSo n told (busy_enters ph y s l o)
    enters_so n told ph y s l None e h = tt
    enters_so n told ph y s l (Some f) e h = (e, phase_paid (length s.memory) n (length y.args) told ph l h)

    next_so : (n : ℕ) (told : Account) (s : Store) (l : Left) (es : List Entry) → IsKept p opened s → HasMet n told l.outcomes → TurnSo n told (held_next p s l es)
    next_so n told s l [] e t = tt
    next_so n told s l (y ∷ ys) e t = enters_so n told (is_running (an_entry y)) y s (record { number = l.number; entries = ys; outcomes = l.outcomes }) (defined_at p y.func) e t

    called_so : (n : ℕ) (told : Account) (ph : Phase) (s : Store) (f : ℕ) (args : List Value) (th : Then) (l : Left) (o : Option Func) → IsKept p opened s → PhaseSo (length s.memory) n told ph l
        → TurnSo n told (aside_called ph s f args th l o)
    called_so n told ph s f args th l None e h = tt
    called_so n told ph s f args th l (Some g) e h = (e, phase_paid (length s.memory) n (length args) told ph l h)

    start_so : (n : ℕ) (told : Account) (f : ℕ) (s : Store) (l : Left) (o : Option Func) → IsKept p opened s → HasMet n told l.outcomes → TurnSo n told (held_start p x plan f s l o)
    start_so n told f s l (Some g) e t = (e, met_later n (n + suc 0) told l.outcomes (paid n 0) t)
    start_so n told f s l None e t = by_import (nat_lt f (func_imports p))
      where
        by_import : (b : Bool) → TurnSo n told (cond b (held_asked p x plan 0 f [] (outermost s) l l.outcomes) stops)
        by_import true = asked_so n told 0 f [] (outermost s) l l.outcomes e t
        by_import false = tt

    turn_so : (n : ℕ) (told : Account) (h : Held) → HeldFits p h → HeldSo n told h → TurnSo n told (protocol p x plan h)
    turn_so n told (free s l) f h = next_so n told s l l.entries h.0 h.1
    turn_so n told (starting g s l) f h = start_so n told g s l (defined_at p g) h.0 h.1
    turn_so n told (busy ph c l) f h = busy_so n told (length c.store.memory) ph l (step p c) h.1 (step_longer p opened f.0 c f.1 h.0)
    turn_so n told (calling ph s g args th l) f h = called_so n told ph s g args th l (defined_at p g) h.0 h.1
    turn_so n told (aside ph c th l) f h = aside_so n told (length c.store.memory) ph th l (step p c) h.1 (step_longer p opened f.0 c f.1 h.0)
    turn_so n told (entering ph y s l) f h = enters_so n told ph y s l (defined_at p y.func) h.0 h.1
    turn_so n told (over s) f h = tt

    -- along moves
    pub leads_so : Valid p → ExportsTyped p → (n m : ℕ) (told : Account) (s t : Held) (es : List Note) → HeldFits p s → HeldSo n told s → Leads (protocol p x plan) s m es t
        → HeldFits p t × HeldSo (n + m) (accounted es told) t
    leads_so v ex n _ told s t _ f h stays = let z : n ≡ n + 0 = omega arith in (f, subst (λ (k : ℕ). HeldSo k told t) z h)
    leads_so v ex n m told s u gs f h (moves {t = t} {k = k} {n = j} {es = es} {fs = fs} e rest em eg) =
        let z : n + suc k + j ≡ n + m = omega (arith, em) in
        let one : Leads (protocol p x plan) s (suc k) es t = moves e stays (omega arith) (sym (append-nil es)) in
        let there = protocol_states_stay p plan s t (suc k) es v ex f one in
        let more = leads_so v ex (n + suc k) j (accounted es told) t u fs there (subst (TurnSo n told) e (turn_so n told s f h)) rest in (
          more.0,
          subst (λ (i : ℕ). HeldSo i (accounted gs told) u) z
              (subst (λ (y : Account). HeldSo (n + suc k + j) y u) (sym (accounted_on es fs told) ∙ ap (λ (ys : List Note). accounted ys told) (sym eg)) more.1),
        )

  -- ---- where it begins

  pub begun_so : (start : Option ℕ) (o : Opening) → ((s : Store) → o ≡ opens s → IsKept p opened s)
      → HeldSo 0 (accounted (held_begun start (all_left plan all) o).events nothing_told) (held_begun start (all_left plan all) o).last
  begun_so start (fails_as e) same = tt
  begun_so None (opens s) same = by plan.entries
    where
      by : (es : List Entry) → HeldSo 0 (accounted (done_notes s es) nothing_told) (held_on s (all_left plan all) es)
      by [] = tt
      by (y ∷ ys) = (same s refl, record { done = []; is = refl; few = omega arith; ticks = omega arith })
  begun_so (Some f) (opens s) same = (same s refl, record { done = []; is = refl; few = omega arith; ticks = omega arith })
