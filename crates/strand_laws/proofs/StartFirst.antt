-- Under the protocol no answer is told first by a move that is in the start function.
use Rattle.std.proofs.Common.{◌≡◌, ℕ, List, [], ◌∷◌, length, Option, Some, None, Bool, true, false, refl, subst}
use Rattle.std.specs.Prelude.{if◌then◌else◌, nat_lt}
use Rattle.wa_types.specs.declared.values.Value.{Value}
use Rattle.wa_types.specs.Modules.{defined_at, func_imports, func_type_at}
use Rattle.wa_types.specs.Syntax.{Func, Module}
use Rattle.wa_model.specs.declared.answers.Said.{Said}
use Rattle.wa_model.specs.declared.answers.Said.TheVariants as S
use Rattle.wa_model.specs.declared.events.End.{End}
use Rattle.wa_model.specs.Outside.{Call, answered, called, ended}
use Rattle.wa_model.specs.Blocking.{Asker, Left, Note, an_entry, call_note, done_notes, fault_of, in_start, inside, outermost, pause_of, poked, stack_at, store_at, the_start, with_outcomes}
use Rattle.wa_model.specs.Machine.{Turn, goes, stops}
use Rattle.wa_model.specs.Plan.{Entry, Outcome, Plan, given, refused}
use Rattle.wa_model.specs.Protocol.{Exports, Held, aside, busy, busy_step, calling, entering, free, held_asked, held_given, held_on, held_pauses, held_start, held_tested, is_running, over, protocol, rewinds}
use Rattle.wa_model.specs.Protocol.{starting, unwinds}
use Rattle.wa_model.specs.Step.{Next, asks, returns, step, steps, stuck, traps}
use Rattle.wa_model.specs.Store.{Store}
use Rattle.strand_laws.specs.Strands.{held_starts}

-- the first of its notes is no answer
abbrev NoAnswer : Turn Held Note → Type 0
NoAnswer stops = Unit {0}
NoAnswer (goes k [] t) = Unit {0}
NoAnswer (goes k (x ∷ es) t) = (said : Said) → x.event ≡ answered said → ⊥

call_is_none : (c : Call) (said : Said) → called c ≡ answered said → ⊥
call_is_none c said q = cc

end_is_none : (how : End) (said : Said) → ended how ≡ answered said → ⊥
end_is_none how said q = cc

not_both : false ≡ true → ⊥
not_both q = cc

module _ (p : Module) (x : Exports) (plan : Plan) where
  asked_first : (k i : ℕ) (args : List Value) (w : Asker) (l : Left) (os : List Outcome) → NoAnswer (held_asked p x plan k i args w l os)
  asked_first k i args w l [] = λ said q. call_is_none _ said q
  asked_first k i args w l (refused e ∷ os) = λ said q. call_is_none _ said q
  asked_first k i args w l (given a ∷ os) = by (fault_of (func_type_at p i).results (length (store_at w).memory) plan (in_start w) i a) (pause_of a.ticks)
    where
      given_first : (said0 : Said) (v : Asker) → NoAnswer (held_given k (call_note i args (store_at w) (stack_at p w) None) said0 (poked (store_at w) a.pokes) (with_outcomes l os) v)
      given_first (S.Value u) (inside task c) = λ said q. call_is_none _ said q
      given_first (S.Value u) (outermost old) = λ said q. call_is_none _ said q
      given_first S.Trap v = λ said q. call_is_none _ said q

      pauses_first : (ticks : ℕ) (v : Asker) → NoAnswer (held_pauses x plan k (call_note i args (store_at w) (stack_at p w) (Some ticks)) i a (with_outcomes l os) v)
      pauses_first ticks (inside (an_entry e) c) = λ said q. call_is_none _ said q
      pauses_first ticks (inside the_start c) = tt
      pauses_first ticks (outermost old) = tt

      by : (o : Option End) (t : Option ℕ) → NoAnswer (held_tested p x plan k i args w (with_outcomes l os) a o t)
      by (Some e) t = λ said q. call_is_none _ said q
      by None None = given_first a.said w
      by None (Some ticks) = pauses_first ticks w

  start_first : (b : Held) → held_starts b ≡ true → NoAnswer (protocol p x plan b)
  start_first (starting f s l) h = by_func (defined_at p f)
    where
      by_import : (t : Bool) → NoAnswer (if t then held_asked p x plan 0 f [] (outermost s) l l.outcomes else stops)
      by_import true = asked_first 0 f [] (outermost s) l l.outcomes
      by_import false = tt

      by_func : (o : Option Func) → NoAnswer (held_start p x plan f s l o)
      by_func (Some g) = tt
      by_func None = by_import (nat_lt f (func_imports p))
  start_first (busy (is_running the_start) c l) h = by_next (step p c)
    where
      by_entries : (k : ℕ) (s : Store) (es : List Entry) → NoAnswer (goes k (done_notes s es) (held_on s l es))
      by_entries k s [] = λ said q. end_is_none _ said q
      by_entries k s (e ∷ es) = tt

      by_next : (o : Next) → NoAnswer (busy_step p x plan (is_running the_start) l o)
      by_next (steps k d) = tt
      by_next (asks k i args d) = asked_first k i args (inside the_start d) l l.outcomes
      by_next (returns k vs s) = by_entries k s l.entries
      by_next (traps k t s) = λ said q. end_is_none _ said q
      by_next stuck = tt
  start_first (busy (is_running (an_entry e)) c l) h = absurd (not_both h)
  start_first (busy (unwinds e i a) c l) h = absurd (not_both h)
  start_first (busy (rewinds e i a sp) c l) h = absurd (not_both h)
  start_first (free s l) h = absurd (not_both h)
  start_first (calling ph s f args th l) h = absurd (not_both h)
  start_first (aside ph c th l) h = absurd (not_both h)
  start_first (entering ph e s l) h = absurd (not_both h)
  start_first (over s) h = absurd (not_both h)

  -- what tells an answer first isn't in the start function
  pub answers_later : (b to : Held) (k : ℕ) (y : Note) (ys : List Note) (said : Said) → protocol p x plan b ≡ goes k (y ∷ ys) to → y.event ≡ answered said → held_starts b ≡ false
  answers_later b to k y ys said e q = by (held_starts b) refl
    where
      by : (t : Bool) → held_starts b ≡ t → held_starts b ≡ false
      by false h = h
      by true h = absurd (subst NoAnswer e (start_first b h) said q)
