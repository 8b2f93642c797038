-- The moves of a strand's original: a trap, a pause, or a plain move, whose last note alone may end it.
use Rattle.std.proofs.Common.{◌≡◌, ℕ, List, [], ◌∷◌, ◌++◌, length, Option, Some, None, Bool, true, false, refl, sym, ap, ◌∙◌, subst}
use Rattle.std.specs.Prelude.{if◌then◌else◌, nat_lt}
use Rattle.wa_types.specs.declared.values.Value.{Value}
use Rattle.wa_types.specs.declared.values.Trap.{Trap}
use Rattle.wa_types.specs.declared.values.Trap.TheVariants.{Import}
use Rattle.wa_types.specs.Modules.{defined_at, func_imports, func_type_at}
use Rattle.wa_types.specs.Syntax.{Func, Module}
use Rattle.wa_model.specs.declared.answers.Said.{Said}
use Rattle.wa_model.specs.declared.answers.Said.TheVariants as S
use Rattle.wa_model.specs.declared.events.End.{End}
use Rattle.wa_model.specs.declared.events.End.TheVariants.{Done, Trapped}
use Rattle.wa_model.specs.Outside.{Answer, answered, ended, returned}
use Rattle.wa_model.specs.Blocking.{Asker, Left, Note, State, Task, an_entry, asked, begins, between, blocking}
use Rattle.wa_model.specs.Blocking.{by_step, call_note, done_notes, ends_at_call, enter_next, enters, fault_of, go_on, halts}
use Rattle.wa_model.specs.Blocking.{inside, is_start, next_entry, note, on_to, outermost, pause_of, poked, runs}
use Rattle.wa_model.specs.Blocking.{stack_at, start_called, store_at, task_back, tested, the_start, value_of_results, with_outcomes}
use Rattle.wa_model.specs.Configuration.{Configuration}
use Rattle.wa_model.specs.Machine.{Turn, goes, stops}
use Rattle.wa_model.specs.Plan.{Entry, Outcome, Plan, given, refused}
use Rattle.wa_model.specs.Step.{Next, asks, returns, step, steps, stuck, traps}
use Rattle.wa_model.specs.Store.{Store}
use Rattle.headline.proofs.Asks.{no_pause_in_start}
use Rattle.strand_laws.proofs.WovenRuns.{NoEnds}
use Rattle.strand_laws.specs.Strands.{Space, lifted, on, strung, strung_asked, strung_next, strung_tested}

pub data Shape (es : List Note) (t : State) : Type 0 where
  quiet : NoEnds es → Shape es t
  ends_with : (es1 : List Note) → (x : Note) → (how : End) → es ≡ es1 ++ x ∷ [] → NoEnds es1 → x.event ≡ ended how → t ≡ halts x.store → Shape es t

abbrev pub FirstPlain : List Note → Type 0
FirstPlain [] = Unit {0}
FirstPlain (x ∷ xs) = x.pause ≡ None

abbrev pub PlainTurn : Turn State Note → Type 0
PlainTurn stops = Unit {0}
PlainTurn (goes k es t) = FirstPlain es × Shape es t

module _ (m : Module) (plan : Plan) where
  on_plain : (k : ℕ) (first : List Note) (s : Store) (l : Left) (es : List Entry) → FirstPlain (first ++ done_notes s es) → NoEnds first
      → PlainTurn (goes k (first ++ done_notes s es) (on_to s l es))
  on_plain k first s l [] h q = (h, ends_with first (note (ended Done) s) Done refl q refl refl)
  on_plain k first s l (e ∷ es) h q = (h, quiet (none_more first q))
    where
      none_more : (xs : List Note) → NoEnds xs → NoEnds (xs ++ [])
      none_more [] g = tt
      none_more (x ∷ xs) g = (g.0, none_more xs g.1)

  back_plain : (k : ℕ) (task : Task) (vs : List Value) (s : Store) (l : Left) → PlainTurn (task_back k task vs s l)
  back_plain k the_start vs s l = on_plain k [] s l l.entries (by_entries l.entries) tt
    where
      by_entries : (es : List Entry) → FirstPlain (done_notes s es)
      by_entries [] = refl
      by_entries (e ∷ es) = tt
  back_plain k (an_entry e) vs s l = on_plain k (note (returned l.number (value_of_results vs)) s ∷ []) s (next_entry l) l.entries refl (refl, tt)

  ends_plain : (k i : ℕ) (args : List Value) (v : Asker) (e : End) → PlainTurn (ends_at_call k (call_note i args (store_at v) (stack_at m v) None) e)
  ends_plain k i args v e = (refl, ends_with (call_note i args (store_at v) (stack_at m v) None ∷ []) (note (ended e) (store_at v)) e refl (refl, tt) refl refl)

  gives_plain : (k i : ℕ) (args : List Value) (v : Asker) (l : Left) (said : Said) (s : Store) (o : Option ℕ) → o ≡ None
      → PlainTurn (go_on k (call_note i args (store_at v) (stack_at m v) o) said s l v)
  gives_plain k i args (inside task d) l (S.Value x) s o e = (e, quiet (refl, (refl, tt)))
  gives_plain k i args (outermost old) l (S.Value x) s o e =
      on_plain k (call_note i args old [] o ∷ note (answered (S.Value x)) s ∷ []) s l l.entries e (refl, (refl, tt))
  gives_plain k i args v l S.Trap s o e =
      (e, ends_with (call_note i args (store_at v) (stack_at m v) o ∷ note (answered S.Trap) s ∷ []) (note (ended (Trapped Import)) s) (Trapped Import) refl (refl, (refl, tt)) refl refl)

  -- a call of an import whose answer doesn't pause
  given_plain : (k i : ℕ) (args : List Value) (v : Asker) (l : Left) (a : Answer) (o : Option End) → (o ≡ None → pause_of a.ticks ≡ None) → PlainTurn (tested m k i args v l a o)
  given_plain k i args v l a (Some e) h = ends_plain k i args v e
  given_plain k i args v l a None h = gives_plain k i args v l a.said (poked (store_at v) a.pokes) (pause_of a.ticks) (h refl)

  start_plain : (x : ℕ) (s : Store) (l : Left) (os : List Outcome) → PlainTurn (asked m plan 0 x [] (outermost s) l os)
  start_plain x s l [] = (refl, quiet (refl, tt))
  start_plain x s l (refused e ∷ os) = ends_plain 0 x [] (outermost s) e
  start_plain x s l (given a ∷ os) =
      given_plain 0 x [] (outermost s) (with_outcomes l os) a (fault_of (func_type_at m x).results (length s.memory) plan true x a)
      (λ ef. no_pause_in_start (func_type_at m x).results (length s.memory) plan x a ef)

  module _ (sp : Space) where
    pub data Kind : State → Type 0 where
      k_traps : {task : Task} {c : Configuration} {l : Left} → (k : ℕ) → (t : Trap) → (s : Store) → step m c ≡ traps k t s → Kind (runs task c l)
      k_pauses : {e : Entry} {c : Configuration} {l : Left} → (k i : ℕ) → (args : List Value) → (d : Configuration) → (a : Answer) → (os : List Outcome) → (ticks : ℕ) → step m c ≡ asks k i args d
          → l.outcomes ≡ given a ∷ os → fault_of (func_type_at m i).results (length d.store.memory) plan false i a ≡ None → pause_of a.ticks ≡ Some ticks → Kind (runs (an_entry e) c l)
      k_plain : {a : State} → PlainTurn (blocking m plan a) → strung m plan sp (on a) ≡ lifted (blocking m plan a) → Kind a

    kind_runs : (task : Task) (c : Configuration) (l : Left) → Kind (runs task c l)
    kind_runs task c l = by_next (step m c) refl
      where
        as_is : (o : Next) → step m c ≡ o → PlainTurn (by_step m plan task l o) → strung_next m plan sp (blocking m plan (runs task c l)) task l o ≡ lifted (blocking m plan (runs task c l))
            → Kind (runs task c l)
        as_is o e pl eq = k_plain (subst (λ z. PlainTurn (by_step m plan task l z)) (sym e) pl) (ap (strung_next m plan sp (blocking m plan (runs task c l)) task l) e ∙ eq)

        by_pause : (k i : ℕ) (args : List Value) (d : Configuration) (a : Answer) (os : List Outcome) → step m c ≡ asks k i args d → l.outcomes ≡ given a ∷ os → (tk : Task) → task ≡ tk
            → (o : Option End) → fault_of (func_type_at m i).results (length d.store.memory) plan (is_start tk) i a ≡ o → (pause : Option ℕ) → pause_of a.ticks ≡ pause → Kind (runs task c l)
        by_pause k i args d a os e eo tk et (Some q) ef pause ep =
            as_is (asks k i args d) e
            (subst (λ z. PlainTurn (asked m plan k i args (inside task d) l z)) (sym eo)
            (subst (λ z. PlainTurn (tested m k i args (inside task d) (with_outcomes l os) a z))
            (sym (ap (λ z. fault_of (func_type_at m i).results (length d.store.memory) plan (is_start z) i a) et ∙ ef))
            (ends_plain k i args (inside task d) q)))
            (ap (strung_asked m plan sp (blocking m plan (runs task c l)) k i args task d l) eo
            ∙ ap (λ z. strung_tested m sp (blocking m plan (runs task c l)) k i args task d (with_outcomes l os) a z (pause_of a.ticks))
            (ap (λ z. fault_of (func_type_at m i).results (length d.store.memory) plan (is_start z) i a) et ∙ ef))
        by_pause k i args d a os e eo tk et None ef None ep =
            as_is (asks k i args d) e
            (subst (λ z. PlainTurn (asked m plan k i args (inside task d) l z)) (sym eo)
            (subst (λ z. PlainTurn (tested m k i args (inside task d) (with_outcomes l os) a z))
            (sym (ap (λ z. fault_of (func_type_at m i).results (length d.store.memory) plan (is_start z) i a) et ∙ ef))
            (gives_plain k i args (inside task d) (with_outcomes l os) a.said (poked d.store a.pokes) (pause_of a.ticks) ep)))
            (ap (strung_asked m plan sp (blocking m plan (runs task c l)) k i args task d l) eo
            ∙ ap (λ z. strung_tested m sp (blocking m plan (runs task c l)) k i args task d (with_outcomes l os) a z (pause_of a.ticks))
            (ap (λ z. fault_of (func_type_at m i).results (length d.store.memory) plan (is_start z) i a) et ∙ ef)
            ∙ ap (strung_tested m sp (blocking m plan (runs task c l)) k i args task d (with_outcomes l os) a None) ep)
        by_pause k i args d a os e eo the_start et None ef (Some ticks) ep =
            let none = no_pause_in_start (func_type_at m i).results (length d.store.memory) plan i a ef in
            let z : None ≡ Some ticks = sym none ∙ ep in
            cc
        by_pause k i args d a os e eo (an_entry en) et None ef (Some ticks) ep = subst (λ z. Kind (runs z c l)) (sym et) (k_pauses k i args d a os ticks e eo ef ep)

        by_outcomes : (k i : ℕ) (args : List Value) (d : Configuration) → step m c ≡ asks k i args d → (os : List Outcome) → l.outcomes ≡ os → Kind (runs task c l)
        by_outcomes k i args d e [] eo =
            as_is (asks k i args d) e (subst (λ z. PlainTurn (asked m plan k i args (inside task d) l z)) (sym eo) (refl, quiet (refl, tt)))
            (ap (strung_asked m plan sp (blocking m plan (runs task c l)) k i args task d l) eo)
        by_outcomes k i args d e (refused q ∷ os) eo =
            as_is (asks k i args d) e
            (subst (λ z. PlainTurn (asked m plan k i args (inside task d) l z)) (sym eo) (ends_plain k i args (inside task d) q))
            (ap (strung_asked m plan sp (blocking m plan (runs task c l)) k i args task d l) eo)
        by_outcomes k i args d e (given a ∷ os) eo =
            by_pause k i args d a os e eo task refl (fault_of (func_type_at m i).results (length d.store.memory) plan (is_start task) i a) refl (pause_of a.ticks) refl

        by_next : (o : Next) → step m c ≡ o → Kind (runs task c l)
        by_next (steps k d) e = as_is (steps k d) e (tt, quiet tt) refl
        by_next (asks k i args d) e = by_outcomes k i args d e l.outcomes refl
        by_next (returns k vs s) e = as_is (returns k vs s) e (back_plain k task vs s l) refl
        by_next (traps k t s) e = k_traps k t s e
        by_next stuck e = as_is stuck e tt refl

    pub kind_of : (a : State) → Kind a
    kind_of (between s l) = k_plain (by_entries l.entries) refl
      where
        by_func : (e : Entry) (l2 : Left) (f : Option Func) → PlainTurn (enters e s l2 f)
        by_func e l2 None = tt
        by_func e l2 (Some f) = (tt, quiet tt)

        by_entries : (es : List Entry) → PlainTurn (enter_next m s l es)
        by_entries [] = tt
        by_entries (e ∷ es) = by_func e (record { number = l.number; entries = es; outcomes = l.outcomes }) (defined_at m e.func)
    kind_of (begins x s l) = k_plain (by_func (defined_at m x)) refl
      where
        by_import : (t : Bool) → PlainTurn (if t then asked m plan 0 x [] (outermost s) l l.outcomes else stops)
        by_import true = start_plain x s l l.outcomes
        by_import false = tt

        by_func : (f : Option Func) → PlainTurn (start_called m plan x s l f)
        by_func None = by_import (nat_lt x (func_imports m))
        by_func (Some f) = (tt, quiet tt)
    kind_of (runs task c l) = kind_runs task c l
    kind_of (halts s) = k_plain tt refl
