-- A program that is paused, as its record has it.
use Rattle.std.proofs.Common.{◌≡◌, ◌≤◌, ◌+◌, ◌-◌, ◌*◌, ℕ, suc, List, [], ◌∷◌, ◌++◌, length, drop, min, Option, Some, None, refl, sym, ap, ◌∙◌, subst, append-nil, length-append, arith}
use Rattle.std.specs.Prelude.{slice_get}
use Rattle.std.proofs.lemmas.List.{length-map}
use Rattle.std.proofs.lemmas.Option.{same_Some, slice_get_within}
use Rattle.std.proofs.Math.Nat.{min-eq_left}
use Rattle.wa_types.specs.declared.values.Value.TheVariants as V
use Rattle.wa_types.specs.Memory.{page_size, pages_of}
use Rattle.wa_model.specs.Machine.{Leads, Ran}
use Rattle.wa_model.specs.Store.{Store}
use Rattle.wa_model.specs.Outside.{Answer, AnswerLine}
use Rattle.wa_model.specs.Plan.{Entry, Outcome}
use Rattle.wa_model.specs.Instantiation.{Opening, fails_as, opening, opens}
use Rattle.wa_model.specs.Blocking.{Left, Note, all_left, with_outcomes}
use Rattle.wa_model.specs.Protocol.{Held, call_again, calling, exports_of, held_begun, held_on, protocol, rewinds}
use Rattle.wa_model.specs.View.{answer_line_of, answer_of}
use Rattle.world_model.specs.World as W
use Rattle.world_model.specs.World.{Actor, Halt, at_start, halted, halted_in}
use Rattle.interp.specs.declared.instance.Instance.{Instance}
use Rattle.interp.specs.Host.{code_in, store_in, waits_in}
use Rattle.host_laws.specs.Stories.{IsAt, Made, opened, opened_at, opened_from, steps_from}
use Rattle.host_laws.specs.Stretch.{meeting}
use Rattle.snapshot_store.specs.Snapshots.{PausedParts}
use Rattle.world_laws.specs.Snapshots.{ComesTo, IsPaused, answer_in, begun_from, halt_at, table_made, used_from}
use Rattle.pause_host.specs.Parting.{parts_at}
use Rattle.pause_host.specs.Programs.{FollowsAt, RunsCode, lines_left, memory_at, place_of}
use Rattle.pause_host.specs.Views.{entry_of, left_of}
use Rattle.pause_host.specs.declared.program.Program.{Program}
use Rattle.pause_host.specs.declared.program.State.{State}
use Rattle.pause_host.specs.declared.program.State.TheVariants.{Failed, Fresh, Live, Lost}
use Rattle.pause_host.specs.declared.stages.Pause.{Pause}
use Rattle.pause_host.specs.declared.stages.Stage.TheVariants.{Answering, Ended, Ending, Free, Giving, Paused, Pausing}
use Rattle.pause_host.proofs.Advancing.{memory_told, same_place}
use Rattle.many_host.proofs.MetLines.{LastTaken, LinesMet, last_taken}
use Rattle.many_host.proofs.PausePlaces.{HeldAt, begun_at, leads_at}

-- ---- what instantiation makes doesn't depend on the outcomes

on_last : (s : Store) (l : Left) (es : List Entry) (os : List Outcome) → held_on s (with_outcomes l os) es ≡ meeting os (held_on s l es)
on_last s l [] os = refl
on_last s l (e ∷ es) os = refl

begun_last : (start : Option ℕ) (l : Left) (o : Opening) (os : List Outcome) → (held_begun start (with_outcomes l os) o).last ≡ meeting os (held_begun start l o).last
begun_last start l (fails_as e) os = refl
begun_last None l (opens s) os = on_last s l l.entries os
begun_last (Some f) l (opens s) os = refl

begun_events : (start : Option ℕ) (l : Left) (o : Opening) (os : List Outcome) → (held_begun start (with_outcomes l os) o).events ≡ (held_begun start l o).events
begun_events start l (fails_as e) os = refl
begun_events None l (opens s) os = refl
begun_events (Some f) l (opens s) os = refl

table_is : (o : Opening) (s : Store) → o ≡ opens s → s.table ≡ table_made o
table_is o s e = sym (ap table_made e)

-- ---- lists

behind_front : (before : List AnswerLine) (l : AnswerLine) (rest : List AnswerLine) → drop (suc (length before)) (before ++ l ∷ rest) ≡ rest
behind_front [] l rest = refl
behind_front (b ∷ before) l rest = behind_front before l rest

got_behind : (before : List AnswerLine) (l : AnswerLine) (rest : List AnswerLine) → slice_get (before ++ l ∷ rest) (length before) ≡ Some l
got_behind [] l rest = refl
got_behind (b ∷ before) l rest = got_behind before l rest

-- ---- a program of a world, which began at its start, and what stands for it

module _ (w : W.Program) (at_first : w.origin ≡ at_start) (told : List Note) (met : List Outcome) (y : Program) (instance : Instance) (pause : Pause)
    (f : FollowsAt w told met y (place_of y (Live instance (Paused pause)))) (code : code_in instance ≡ w.source) (lines : LinesMet w.answers met (lines_left y)) where
  abbrev l : Left
  l = left_of y.left

  abbrev e : Entry
  e = entry_of pause.entry

  abbrev a : Answer
  a = answer_of pause.answer

  abbrev s : Store
  s = store_in instance

  -- where it stands, if these are the outcomes to come
  abbrev place : List Outcome → Held
  place os = calling (rewinds e pause.import a s) s (exports_of w.source).start_rewind (V.I32 w.plan.area.at ∷ []) call_again (with_outcomes l os)

  abbrev table : List (Option ℕ)
  table = table_made (opening w.source w.plan.globals)

  made : Made w told [] met y.steps_left (place [])
  made = subst (IsAt w told met y.steps_left) (same_place w y l s (waits_in instance) (Paused pause) f.setting) f.told

  abbrev first : Ran Held Note
  first = opened w.source w.plan

  first_is : opened_at w ≡ first
  first_is = ap (opened_from w.source w.plan) at_first

  abbrev used : ℕ
  used = made.used

  steps_are : used + y.steps_left ≡ w.steps
  steps_are = made.steps ∙ ap (steps_from w.steps) at_first

  -- .. for all that may come
  leads : (more : List Outcome) → Leads (protocol w.source (exports_of w.source) w.plan) (held_begun w.source.start (all_left w.plan (met ++ more)) (opening w.source w.plan.globals)).last used made.behind (place more)
  leads more =
      subst (λ (h : Held). Leads (protocol w.source (exports_of w.source) w.plan) h used made.behind (place more))
      (ap (λ (r : Ran Held Note). meeting (met ++ more) r.last) first_is ∙ sym (begun_last w.source.start (all_left w.plan []) (opening w.source w.plan.globals) (met ++ more)))
      (made.stretch more)

  -- the entry, the table and the last answer
  there : HeldAt w.plan table (met ++ []) (0 + used) (place [])
  there =
      leads_at w.plan table (met ++ []) w.source (exports_of w.source) 0 used (held_begun w.source.start (all_left w.plan (met ++ [])) (opening w.source w.plan.globals)).last (place []) made.behind
      (begun_at w.plan table (met ++ []) w.source.start (opening w.source w.plan.globals) (table_is (opening w.source w.plan.globals))) (leads [])

  abbrev done : List Outcome
  done = there.1.1.0

  last : LastTaken w.answers (lines_left y) a (length done)
  last = last_taken w.answers (lines_left y) done a (subst (λ (os : List Outcome). LinesMet w.answers os (lines_left y)) (sym (append-nil met) ∙ there.1.1.1) lines)

  abbrev taken : ℕ
  taken = suc (length last.before)

  -- its answer lines
  lines_many : length w.answers ≡ taken + length y.left.answers.items
  lines_many =
      let all = ap length last.is ∙ length-append last.before (last.line ∷ lines_left y) in
      let left : length (lines_left y) ≡ length y.left.answers.items = length-map y.left.answers.items answer_line_of in
      omega (arith, all, left)

  few_taken : taken ≤ 4294967295
  few_taken = omega (arith, last.few, there.1.1.2, steps_are, f.few_steps)

  taken_is : min (y.given - length y.left.answers.items) 4294967295 ≡ taken
  taken_is =
      let n : y.given - length y.left.answers.items ≡ taken = omega (arith, f.given, lines_many) in
      ap (λ (k : ℕ). min k 4294967295) n ∙ min-eq_left (omega (arith, few_taken))

  used_is : y.setting.steps - y.steps_left ≡ used
  used_is = omega (arith, steps_are, f.setting.steps)

  abbrev memory : List ℕ
  memory = memory_at (Live instance (Paused pause))

  memory_is : memory ≡ s.memory
  memory_is = memory_told w y instance (Paused pause) f.setting code

  -- the parts, by the world's numbers
  abbrev plain : PausedParts
  plain = record { steps_used = used; entry = l.number; answers = taken; import = pause.import; globals = s.globals; pages = pages_of memory }

  plain_is : parts_at y (Live instance (Paused pause)) ≡ Some plain
  plain_is = λ k. Some (record { steps_used = used_is k; entry = l.number; answers = taken_is k; import = pause.import; globals = s.globals; pages = pages_of memory })

  abbrev halt : ℕ → Halt
  halt due = halt_at w due plain memory

  line_there : slice_get w.answers (taken - 1) ≡ Some last.line
  line_there =
      let n : taken - 1 ≡ length last.before = omega arith in
      (λ k. slice_get (last.is k) (n k)) ∙ got_behind last.before last.line (lines_left y)

  answer_is : answer_in (slice_get w.answers (taken - 1)) ≡ a
  answer_is = ap answer_in line_there ∙ last.answer

  place_is : (due : ℕ) (more : List Outcome) → place more ≡ halted w.source w.plan (halt due) more
  place_is due more =
      (λ k. calling (rewinds e pause.import (sym answer_is k) (store k)) (store k) (exports_of w.source).start_rewind (V.I32 w.plan.area.at ∷ []) call_again
      (record { number = l.number; entries = there.1.0.1 k; outcomes = more }))
      ∙ sym (ap (halted_in w.source w.plan (halt due) more) there.1.0.0)
    where
      store : s ≡ record { globals = s.globals; memory = memory; table = table }
      store = λ k. record { globals = s.globals; memory = sym memory_is k; table = there.0 k }

  comes : (due : ℕ) → ComesTo w told met used (halted w.source w.plan (halt due))
  comes due = record {
    cost = used;
    steps = (let none : used ≡ 0 + used = omega arith in none ∙ ap (λ (o : W.Origin). used_from o + used) (sym at_first));
    way = λ more. (
      made.behind,
      sym (append-nil told) ∙ made.made
          ∙ ap (λ (r : Ran Held Note). r.events ++ made.behind) first_is
          ∙ ap (λ (es : List Note). es ++ made.behind) (sym (begun_events w.source.start (all_left w.plan []) (opening w.source w.plan.globals) (met ++ more)))
          ∙ ap (λ (o : W.Origin). (begun_from w (met ++ more) o).events ++ made.behind) (sym at_first),
      subst (λ (o : W.Origin). Leads (protocol w.source (exports_of w.source) w.plan) (begun_from w (met ++ more) o).last used made.behind (halted w.source w.plan (halt due) more)) (sym at_first)
          (subst (λ (h : Held). Leads (protocol w.source (exports_of w.source) w.plan) (held_begun w.source.start (all_left w.plan (met ++ more)) (opening w.source w.plan.globals)).last used made.behind h)
          (place_is due more) (leads more)),
    );
  }

  plain_paused : (now : Actor) → now.answers ≡ lines_left y → length memory ≡ plain.pages * page_size → IsPaused w told met now now.due plain memory
  plain_paused now answers whole = record {
    is_due = refl;
    within = omega (arith, steps_are);
    entry = slice_get_within w.plan.entries l.number e there.1.0.0;
    comes = comes now.due;
    some_taken = omega arith;
    taken = omega (arith, lines_many);
    answers = answers ∙ sym (ap (drop taken) last.is ∙ behind_front last.before last.line (lines_left y));
    pages = whole;
  }

  paused_so : (now : Actor) (parts : PausedParts) → now.answers ≡ lines_left y → parts_at y (Live instance (Paused pause)) ≡ Some parts → length memory ≡ parts.pages * page_size
      → IsPaused w told met now now.due parts memory
  paused_so now parts answers is whole =
      let same : plain ≡ parts = same_Some plain parts (sym plain_is ∙ is) in
      subst (λ (x : PausedParts). IsPaused w told met now now.due x memory) same (plain_paused now answers (whole ∙ ap (λ (x : PausedParts). x.pages * page_size) (sym same)))

-- .. by the state that has parts
pub saved_pause : (w : W.Program) (told : List Note) (met : List Outcome) (y : Program) (state : State) (now : Actor) (parts : PausedParts) → w.origin ≡ at_start
    → FollowsAt w told met y (place_of y state) → RunsCode w.source state → LinesMet w.answers met (lines_left y) → now.answers ≡ lines_left y → parts_at y state ≡ Some parts
    → length (memory_at state) ≡ parts.pages * page_size → IsPaused w told met now now.due parts (memory_at state)
saved_pause w told met y (Live instance (Paused pause)) now parts at_first f code lines answers is whole = paused_so w at_first told met y instance pause f code lines now parts answers is whole
saved_pause w told met y (Live instance Free) now parts at_first f code lines answers is whole = cc
saved_pause w told met y (Live instance (Answering task answer)) now parts at_first f code lines answers is whole = cc
saved_pause w told met y (Live instance (Giving task value)) now parts at_first f code lines answers is whole = cc
saved_pause w told met y (Live instance (Pausing pause)) now parts at_first f code lines answers is whole = cc
saved_pause w told met y (Live instance (Ending end)) now parts at_first f code lines answers is whole = cc
saved_pause w told met y (Live instance (Ended end)) now parts at_first f code lines answers is whole = cc
saved_pause w told met y Fresh now parts at_first f code lines answers is whole = cc
saved_pause w told met y (Failed how) now parts at_first f code lines answers is whole = cc
saved_pause w told met y Lost now parts at_first f code lines answers is whole = cc
