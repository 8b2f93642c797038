-- Which moves end a strand, on both sides.
use Rattle.std.proofs.Common.{◌≡◌, ℕ, suc, ◌+◌, List, [], ◌∷◌, ◌++◌, length, Option, Some, None, Bool, true, false, refl, sym, ap, ◌∙◌, subst, arith, append-nil}
use Rattle.std.specs.Prelude.{if◌then◌else◌, nat_eq, nat_lt}
use Rattle.wa_types.specs.declared.values.Value.{Value}
use Rattle.wa_types.specs.Modules.{defined_at, func_imports, func_type_at}
use Rattle.wa_types.specs.Syntax.{Func, Module}
use Rattle.run_theory.proofs.Runs.{leads_stopped}
use Rattle.wa_model.specs.declared.answers.Said.{Said}
use Rattle.wa_model.specs.declared.answers.Said.TheVariants as S
use Rattle.wa_model.specs.declared.events.End.{End}
use Rattle.wa_model.specs.Outside.{Answer, answered, ended, paused}
use Rattle.wa_model.specs.Blocking.{Asker, Left, Note, Task, an_entry, call_note, done_notes, fault_of}
use Rattle.wa_model.specs.Blocking.{in_start, inside, next_entry, note, outermost, pause_of, poked, stack_at, store_at, the_start, value_of_results, with_outcomes}
use Rattle.wa_model.specs.Configuration.{Configuration}
use Rattle.wa_model.specs.Machine.{Leads, Turn, goes, moves, stays, still, stops}
use Rattle.wa_model.specs.Plan.{Entry, Outcome, Plan, given, refused}
use Rattle.wa_model.specs.Protocol.{Exports, Held, Phase, Then, aside, aside_back, aside_called, aside_step, broken}
use Rattle.wa_model.specs.Protocol.{busy, busy_enters, busy_step, call_again, calling, entering, free, give_answer, give_zero}
use Rattle.wa_model.specs.Protocol.{held_asked, held_back, held_given, held_next, held_on, held_resumed, held_start, held_tested, is_running, is_state}
use Rattle.wa_model.specs.Protocol.{over, pause_there, protocol, rewinds, starting, store_held, test_rewound, test_unwound, unwinds}
use Rattle.wa_model.specs.Step.{Next, asks, returns, step, steps, stuck, traps}
use Rattle.wa_model.specs.Store.{Store}
use Rattle.strand_laws.proofs.WovenRuns.{NoEnds, last_of}
use Rattle.strand_laws.specs.Strands.{held_wakes}
use Rattle.strand_laws.specs.Woven.{last_event}

-- ---- under the protocol an end leads to where all is over, and a pause to where the stack is rewound

abbrev pub OverAt : Held → Type 0
OverAt (over s) = Unit {0}
OverAt (free s l) = ⊥
OverAt (starting f s l) = ⊥
OverAt (busy ph c l) = ⊥
OverAt (calling ph s f args th l) = ⊥
OverAt (aside ph c th l) = ⊥
OverAt (entering ph e s l) = ⊥

-- a move's last note, if it is an end, leads to where all is over; if it is a pause, to where nothing changes as a turn begins
abbrev pub EndsSo : List Note → Held → Type 0
EndsSo es t =
    ((how : End) → last_event es ≡ Some (ended how) → OverAt t) × ((ticks used : ℕ) → last_event es ≡ Some (paused ticks used) → held_wakes (store_held t) t ≡ still t)

abbrev pub TurnEnds : Turn Held Note → Type 0
TurnEnds stops = Unit {0}
TurnEnds (goes k es t) = EndsSo es t

abbrev pub EndsOver : Turn Held Note → Type 0
EndsOver stops = Unit {0}
EndsOver (goes k es t) = (how : End) → last_event es ≡ Some (ended how) → OverAt t

module _ (p : Module) (x : Exports) (plan : Plan) where
  given_ends : (k : ℕ) (q : Note) (said : Said) (s : Store) (l : Left) (v : Asker) → TurnEnds (held_given k q said s l v)
  given_ends k q (S.Value x) s l (inside task c) = (λ how e. cc, λ ticks used e. cc)
  given_ends k q (S.Value x) s l (outermost old) = by_entries l.entries
    where
      by_entries : (es : List Entry) → TurnEnds (goes k (q ∷ note (answered (S.Value x)) s ∷ done_notes s es) (held_on s l es))
      by_entries [] = (λ how e. tt, λ ticks used e. cc)
      by_entries (e1 ∷ es) = (λ how e. cc, λ ticks used e. cc)
  given_ends k q S.Trap s l v = (λ how e. tt, λ ticks used e. cc)

  resumed_ends : (k : ℕ) (q : Entry) (said : Said) (sp : Store) (c : Configuration) (l : Left) (s : Store) → TurnEnds (held_resumed k q said sp c l s)
  resumed_ends k q (S.Value x) sp c l s = (λ how e. cc, λ ticks used e. cc)
  resumed_ends k q S.Trap sp c l s = (λ how e. tt, λ ticks used e. cc)

  tested_ends : (k i : ℕ) (args : List Value) (v : Asker) (l : Left) (a : Answer) (o : Option End) (pause : Option ℕ) → TurnEnds (held_tested p x plan k i args v l a o pause)
  tested_ends k i args v l a (Some e) pause = (λ how q. tt, λ ticks used q. cc)
  tested_ends k i args v l a None None = given_ends k (call_note i args (store_at v) (stack_at p v) None) a.said (poked (store_at v) a.pokes) l v
  tested_ends k i args (inside (an_entry e) c) l a None (Some ticks) = (λ how q. cc, λ ticks used q. cc)
  tested_ends k i args (inside the_start c) l a None (Some ticks) = tt
  tested_ends k i args (outermost s) l a None (Some ticks) = tt

  asked_ends : (k i : ℕ) (args : List Value) (v : Asker) (l : Left) (os : List Outcome) → TurnEnds (held_asked p x plan k i args v l os)
  asked_ends k i args v l [] = (λ how q. tt, λ ticks used q. cc)
  asked_ends k i args v l (refused e ∷ os) = (λ how q. tt, λ ticks used q. cc)
  asked_ends k i args v l (given a ∷ os) =
      tested_ends k i args v (with_outcomes l os) a (fault_of (func_type_at p i).results (length (store_at v).memory) plan (in_start v) i a) (pause_of a.ticks)

  back_ends : (k : ℕ) (task : Task) (vs : List Value) (s : Store) (l : Left) → TurnEnds (held_back k task vs s l)
  back_ends k the_start vs s l = by_entries l.entries
    where
      by_entries : (es : List Entry) → TurnEnds (goes k (done_notes s es) (held_on s l es))
      by_entries [] = (λ how e. tt, λ ticks used e. cc)
      by_entries (e1 ∷ es) = (λ how e. cc, λ ticks used e. cc)
  back_ends k (an_entry q) vs s l = by_entries l.entries
    where
      by_entries : (es : List Entry) → TurnEnds (goes k (note (Rattle.wa_model.specs.Outside.returned l.number (value_of_results vs)) s ∷ done_notes s es) (held_on s (next_entry l) es))
      by_entries [] = (λ how e. tt, λ ticks used e. cc)
      by_entries (e1 ∷ es) = (λ how e. cc, λ ticks used e. cc)

  busy_ends : (ph : Phase) (l : Left) (o : Next) → TurnEnds (busy_step p x plan ph l o)
  busy_ends ph l (steps k d) = (λ how e. cc, λ ticks used e. cc)
  busy_ends (is_running task) l (asks k i args d) = asked_ends k i args (inside task d) l l.outcomes
  busy_ends (unwinds q i a) l (asks k j args d) = (λ how e. tt, λ ticks used e. cc)
  busy_ends (rewinds q i a sp) l (asks k j args d) = by_same (nat_eq j i)
    where
      by_same : (t : Bool) → TurnEnds (if t then goes k [] (calling (rewinds q i a sp) d.store x.get_state [] (test_rewound d) l) else broken k 3 d.store)
      by_same true = (λ how e. cc, λ ticks used e. cc)
      by_same false = (λ how e. tt, λ ticks used e. cc)
  busy_ends (is_running task) l (returns k vs s) = back_ends k task vs s l
  busy_ends (unwinds q i a) l (returns k vs s) = (λ how e. cc, λ ticks used e. cc)
  busy_ends (rewinds q i a sp) l (returns k vs s) = (λ how e. tt, λ ticks used e. cc)
  busy_ends ph l (traps k t s) = (λ how e. tt, λ ticks used e. cc)
  busy_ends ph l stuck = tt

  if_ends : (t : Bool) (o : Turn Held Note) (k rule : ℕ) (s : Store) → TurnEnds o → TurnEnds (if t then o else broken k rule s)
  if_ends true o k rule s h = h
  if_ends false o k rule s h = (λ how e. tt, λ ticks used e. cc)

  aside_back_ends : (k : ℕ) (ph : Phase) (th : Then) (l : Left) (vs : List Value) (s : Store) → TurnEnds (aside_back p x plan k ph th l vs s)
  aside_back_ends k (unwinds q i a) (give_zero c) l vs s = (λ how e. cc, λ ticks used e. cc)
  aside_back_ends k (unwinds q i a) test_unwound l vs s = if_ends (is_state 1 vs) _ k 2 s (λ how e. cc, λ ticks used e. cc)
  aside_back_ends k (unwinds q i a) pause_there l vs s = (λ how e. cc, λ ticks used e. refl)
  aside_back_ends k (unwinds q i a) call_again l vs s = tt
  aside_back_ends k (unwinds q i a) (test_rewound c) l vs s = tt
  aside_back_ends k (unwinds q i a) (give_answer c) l vs s = tt
  aside_back_ends k (rewinds q i a sp) call_again l vs s = (λ how e. cc, λ ticks used e. cc)
  aside_back_ends k (rewinds q i a sp) (test_rewound c) l vs s = if_ends (is_state 2 vs) _ k 4 s (λ how e. cc, λ ticks used e. cc)
  aside_back_ends k (rewinds q i a sp) (give_answer c) l vs s = resumed_ends k q a.said sp c l (poked s a.pokes)
  aside_back_ends k (rewinds q i a sp) (give_zero c) l vs s = tt
  aside_back_ends k (rewinds q i a sp) test_unwound l vs s = tt
  aside_back_ends k (rewinds q i a sp) pause_there l vs s = tt
  aside_back_ends k (is_running task) th l vs s = tt

  aside_ends : (ph : Phase) (th : Then) (l : Left) (o : Next) → TurnEnds (aside_step p x plan ph th l o)
  aside_ends ph th l (steps k d) = (λ how e. cc, λ ticks used e. cc)
  aside_ends ph th l (asks k i args d) = (λ how e. tt, λ ticks used e. cc)
  aside_ends ph th l (returns k vs s) = aside_back_ends k ph th l vs s
  aside_ends ph th l (traps k t s) = (λ how e. tt, λ ticks used e. cc)
  aside_ends ph th l stuck = tt

  enters_ends : (ph : Phase) (e : Entry) (s : Store) (l : Left) (f : Option Func) → TurnEnds (busy_enters ph e s l f)
  enters_ends ph e s l None = tt
  enters_ends ph e s l (Some f) = (λ how q. cc, λ ticks used q. cc)

  next_ends : (s : Store) (l : Left) (es : List Entry) → TurnEnds (held_next p s l es)
  next_ends s l [] = tt
  next_ends s l (e ∷ es) = enters_ends (is_running (an_entry e)) e s (record { number = l.number; entries = es; outcomes = l.outcomes }) (defined_at p e.func)

  called_ends : (ph : Phase) (s : Store) (f : ℕ) (args : List Value) (th : Then) (l : Left) (o : Option Func) → TurnEnds (aside_called ph s f args th l o)
  called_ends ph s f args th l None = tt
  called_ends ph s f args th l (Some g) = (λ how e. cc, λ ticks used e. cc)

  start_ends : (f : ℕ) (s : Store) (l : Left) (o : Option Func) → TurnEnds (held_start p x plan f s l o)
  start_ends f s l (Some g) = (λ how e. cc, λ ticks used e. cc)
  start_ends f s l None = by_import (nat_lt f (func_imports p))
    where
      by_import : (t : Bool) → TurnEnds (if t then held_asked p x plan 0 f [] (outermost s) l l.outcomes else stops)
      by_import true = asked_ends 0 f [] (outermost s) l l.outcomes
      by_import false = tt

  pub turn_ends : (b : Held) → TurnEnds (protocol p x plan b)
  turn_ends (free s l) = next_ends s l l.entries
  turn_ends (starting f s l) = start_ends f s l (defined_at p f)
  turn_ends (busy ph c l) = busy_ends ph l (step p c)
  turn_ends (calling ph s f args th l) = called_ends ph s f args th l (defined_at p f)
  turn_ends (aside ph c th l) = aside_ends ph th l (step p c)
  turn_ends (entering ph e s l) = enters_ends ph e s l (defined_at p e.func)
  turn_ends (over s) = tt

  over_too : (o : Turn Held Note) → TurnEnds o → EndsOver o
  over_too stops h = tt
  over_too (goes k es t) h = h.0

  pub ends_over : (b : Held) → EndsOver (protocol p x plan b)
  ends_over b = over_too (protocol p x plan b) (turn_ends b)

  abbrev pr : Held → Turn Held Note
  pr = protocol p x plan

  over_stops : (t : Held) → OverAt t → pr t ≡ stops
  over_stops (over s) h = refl
  over_stops (free s l) h = absurd h
  over_stops (starting f s l) h = absurd h
  over_stops (busy ph c l) h = absurd h
  over_stops (calling ph s f args th l) h = absurd h
  over_stops (aside ph c th l) h = absurd h
  over_stops (entering ph e s l) h = absurd h

  -- ---- a stretch to an end has it at its last move

  pub record EndSplit (b to : Held) (n : ℕ) (fs : List Note) (how : End) : Type 0 where
    pub c1 : ℕ
    pub k1 : ℕ
    pub gs1 : List Note
    pub gs2 : List Note
    pub b1 : Held
    pub before : Leads pr b c1 gs1 b1
    pub quiet : NoEnds gs1
    pub last : pr b1 ≡ goes k1 gs2 to
    pub tells : last_event gs2 ≡ Some (ended how)
    pub cost_is : n ≡ c1 + suc k1
    pub fs_are : fs ≡ gs1 ++ gs2

  -- notes before the last
  record Front (es ys gs : List Note) (y : Note) : Type 0 where
    rest : List Note
    ys_are : ys ≡ rest ++ y ∷ []
    gs_are : gs ≡ es ++ rest

  not_snoc : (gs : List Note) (y : Note) → [] ≡ gs ++ y ∷ [] → ⊥
  not_snoc [] y e = cc
  not_snoc (g ∷ gs) y e = cc

  tail_is : (a b : Note) (xs ys : List Note) → a ∷ xs ≡ b ∷ ys → xs ≡ ys
  tail_is a b xs ys e = cc

  head_is : (a b : Note) (xs ys : List Note) → a ∷ xs ≡ b ∷ ys → a ≡ b
  head_is a b xs ys e = cc

  none_left : (es : List Note) (z : Note) (zs : List Note) → es ++ z ∷ zs ≡ [] → ⊥
  none_left [] z zs e = cc
  none_left (q ∷ es) z zs e = cc

  front : (es : List Note) (z : Note) (zs gs : List Note) (y : Note) → es ++ z ∷ zs ≡ gs ++ y ∷ [] → Front es (z ∷ zs) gs y
  front [] z zs gs y e = record { rest = gs; ys_are = e; gs_are = refl }
  front (q ∷ es) z zs [] y e = absurd (none_left es z zs (tail_is q y (es ++ z ∷ zs) [] e))
  front (q ∷ es) z zs (g ∷ gs) y e =
      let f = front es z zs gs y (tail_is q g (es ++ z ∷ zs) (gs ++ y ∷ []) e) in
      record { rest = f.rest; ys_are = f.ys_are; gs_are = ap (λ w. w ∷ gs) (sym (head_is q g (es ++ z ∷ zs) (gs ++ y ∷ []) e)) ∙ ap (λ w. q ∷ w) f.gs_are }

  left_quiet : (xs ys : List Note) → NoEnds (xs ++ ys) → NoEnds xs
  left_quiet [] ys h = tt
  left_quiet (q ∷ xs) ys h = (h.0, left_quiet xs ys h.1)

  right_quiet : (xs ys : List Note) → NoEnds (xs ++ ys) → NoEnds ys
  right_quiet [] ys h = h
  right_quiet (q ∷ xs) ys h = right_quiet xs ys h.1

  join_quiet : (xs ys : List Note) → NoEnds xs → NoEnds ys → NoEnds (xs ++ ys)
  join_quiet [] ys h g = g
  join_quiet (q ∷ xs) ys h g = (h.0, join_quiet xs ys h.1 g)

  pub end_split : (b to : Held) (n : ℕ) (fs gs : List Note) (y : Note) (how : End) → Leads pr b n fs to → fs ≡ gs ++ y ∷ [] → NoEnds gs → y.event ≡ ended how → EndSplit b to n fs how
  end_split b to n fs gs y how stays e q ey = absurd (not_snoc gs y e)
  end_split b to n fs gs y how (moves {t = v} {k = k} {n = m} {es = es} {fs = ys} e1 rest c eg) e q ey = by_rest (λ hs r1 r2 r3. end_split v to m ys hs y how rest r1 r2 r3) ys refl
    where
      by_rest : ((hs : List Note) → ys ≡ hs ++ y ∷ [] → NoEnds hs → y.event ≡ ended how → EndSplit v to m ys how) → (zs : List Note) → ys ≡ zs → EndSplit b to n fs how
      by_rest ih [] ez =
          let fs_es : fs ≡ es = eg ∙ ap (λ w. es ++ w) ez ∙ append-nil es in
          let tells : last_event es ≡ Some (ended how) = ap last_event (sym fs_es ∙ e) ∙ last_of gs y ∙ ap (λ w. Some w) ey in
          let done : OverAt v = subst EndsOver e1 (ends_over b) how tells in
          let st = leads_stopped Held Note pr v to m ys (over_stops v done) rest in
          record {
            c1 = 0;
            k1 = k;
            gs1 = [];
            gs2 = es;
            b1 = b;
            before = stays;
            quiet = tt;
            last = e1 ∙ ap (λ w. goes k es w) st.1;
            tells = tells;
            cost_is = (let z = st.0 in omega arith);
            fs_are = fs_es;
          }
      by_rest ih (z ∷ zs) ez =
          let f = front es z zs gs y (sym (ap (λ w. es ++ w) ez) ∙ sym eg ∙ e) in
          let r = ih f.rest (ez ∙ f.ys_are) (right_quiet es f.rest (subst NoEnds f.gs_are q)) ey in
          record {
            c1 = suc k + r.c1;
            k1 = r.k1;
            gs1 = es ++ r.gs1;
            gs2 = r.gs2;
            b1 = r.b1;
            before = moves e1 r.before refl refl;
            quiet = join_quiet es r.gs1 (left_quiet es f.rest (subst NoEnds f.gs_are q)) r.quiet;
            last = r.last;
            tells = r.tells;
            cost_is = (let z = r.cost_is in omega arith);
            fs_are = eg ∙ ap (λ w. es ++ w) r.fs_are ∙ sym (Rattle.std.proofs.Common.append_assoc es r.gs1 r.gs2);
          }
