-- Runs under the protocol stay in range.
use Rattle.std.proofs.Common.{◌≡◌, ℕ, zero, suc, ◌+◌, ◌*◌, ◌^◌, ◌<◌, ◌≤◌, Bool, true, false, cond, ltb, eqb, List, [], ◌∷◌, ◌++◌, length, Option, Some, None, All, refl, sym, ap, ◌∙◌, subst, arith}
use Rattle.std.specs.Option.{option_to_list}
use Rattle.std.proofs.lemmas.Nat.{mod_below}
use Rattle.std.proofs.lemmas.List.Elements.{All-nil, All-cons, All-head, All-tail, All-append, All-weaker}
use Rattle.wa_types.specs.declared.values.Value.{Value}
use Rattle.wa_types.specs.declared.values.Value.TheVariants as V
use Rattle.wa_types.specs.declared.values.Trap.{Trap}
use Rattle.wa_types.specs.Sizes.{CodeFits}
use Rattle.wa_types.specs.Syntax.{Func, GlobalDef, Segment, Module}
use Rattle.std.specs.List.{filter_map}
use Rattle.wa_types.specs.declared.syntax.Limits.{Limits}
use Rattle.wa_types.specs.declared.syntax.Import.{Import}
use Rattle.wa_types.specs.Base.{Base, added_memories}
use Rattle.wa_types.specs.Runtime.{zero_global, runtime_globals, with_runtime}
use Rattle.wa_types.specs.Memory.{page_size, bytes_of}
use Rattle.wa_types.specs.Modules.{func_imports, func_type_at, defined_at, imported, imported_memory, all_memories}
use Rattle.wa_types.proofs.MemoryLemmas.{length-bytes_of}
use Rattle.wa_model.specs.declared.answers.Area.{Area}
use Rattle.wa_types.specs.declared.values.Trap.TheVariants.{Import as ByImport}
use Rattle.wa_model.specs.declared.answers.Said.{Said}
use Rattle.wa_model.specs.declared.answers.Said.TheVariants as S
use Rattle.wa_model.specs.declared.events.End.{End}
use Rattle.wa_model.specs.declared.events.End.TheVariants.{Broken, Trapped}
use Rattle.wa_model.specs.Outside.{Poke, Answer, answered, paused, returned, ended}
use Rattle.wa_model.specs.Machine.{Turn, stops, goes, Ran}
use Rattle.wa_model.specs.Store.{Store}
use Rattle.wa_model.specs.Configuration.{Configuration}
use Rattle.wa_model.specs.Step.{Next, steps, asks, returns, traps, stuck, step, entered}
use Rattle.wa_model.specs.Plan.{Entry, Plan, AreaFits, EntryFits, Outcome, given, refused, SaidFits, AnswerFits, OutcomeFits}
use Rattle.wa_model.specs.Instantiation.{Opening, fails_as, opens, opening, least_of}
use Rattle.wa_model.specs.Blocking.{Note, note, call_note, fault_of, pause_of, poked, resumed, done_notes, import_traps, value_of_results, Task, the_start, an_entry, Left, with_outcomes, Asker, inside, outermost, store_at, stack_at, in_start, next_entry, no_store, all_left}
use Rattle.wa_model.specs.Protocol.{Exports, exports_of, Phase, is_running, unwinds, rewinds, Then, give_zero, test_unwound, pause_there, call_again, test_rewound, give_answer, Held, free, starting, busy, calling, aside, entering, over, put_word, with_words, used_of, protocol, broken, held_on, held_back, held_given, held_ends, held_pauses, held_resumed, held_tested, held_asked, trap_end, busy_step, is_state, zeros_of, answer_note, aside_back, aside_step, busy_enters, held_next, aside_called, held_start, held_started, held_begun, held_continued, store_held}
use Rattle.run_theory.specs.LawfulStacks.{SuspendedIn}
use Rattle.run_laws.specs.Ranges.{byte_in, CodesIn, ValuesIn, MemoryIn, StoreIn, ActivationIn, NextIn, EndIn, TicksIn, NoteIn, EntryIn, LeftIn, AskerIn, PokeInside, PhaseIn, ThenIn, WaitsIn, HeldIn, HeldFrom, OpeningIn, ProtocolIn, ProtocolHoldsArea, ProtocolMemoryGrows, ProtocolLater, FitsIn, FitsAreas, ComparedIn}
use Rattle.run_laws.proofs.Acts.{none_in, more_in}
use Rattle.run_laws.proofs.Bytes.{bytes_of_in, overwritten_in}
use Rattle.run_laws.proofs.Steps.{func_in, entered_in, step_in, zeros_in}
use Rattle.run_laws.proofs.Openings.{openings_in}
use Rattle.run_laws.proofs.Host.{store_lower, store_whole, notes_lower, poked_store_in, FaultIn, fault_in, fault_pokes, refusal_in, note_in, call_note_in, one_note, two_notes, done_in, stack_in, asker_store, ticks_in, result_in, optional_in, resumed_in, waits_in}
use Rattle.run_theory.proofs.Invariants.{TurnKeeps, run_keeps, after_keeps, leads_keeps, later_keeps}
use Rattle.run_laws.proofs.BlockingRuns.{answered_in, import_traps_in, left_outcomes, left_entries, no_store_in, well_formed_in, blocking_in}

-- ---- the area

put_word_in : (low : ℕ) (memory : List ℕ) (at n : ℕ) → at + 4 ≤ low → MemoryIn low memory → MemoryIn low (put_word memory at n)
put_word_in low memory at n h ok =
    let least : low ≤ length memory = ok.least in
    overwritten_in low memory at (bytes_of 4 n) (omega (arith, length-bytes_of 4 n)) (bytes_of_in 4 n) ok

words_in : (low : ℕ) (s : Store) (area : Area) → 8 ≤ area.len → area.at + area.len ≤ low → StoreIn low s → StoreIn low (with_words s area)
words_in low s area least room ok = record {
  globals = ok.globals;
  memory = put_word_in low (put_word s.memory area.at (area.at + 8)) (area.at + 4) (area.at + area.len) (omega arith) (put_word_in low s.memory area.at (area.at + 8) (omega arith) ok.memory);
}

-- the area begins at a number of 32 bits
place_in : (low : ℕ) (s : Store) (area : Area) → area.at + area.len ≤ low → StoreIn low s → ValuesIn (V.I32 area.at ∷ [])
place_in low s area room ok =
    let least : low ≤ length s.memory = ok.memory.least in
    let most : length s.memory ≤ 1024 * 65536 = ok.memory.pages.bounded in
    more_in _ [] (let h : area.at < 2 ^ 32 = omega arith in h) none_in

used_in : (s : Store) (area : Area) → used_of s area < 2 ^ 32
used_in s area = mod_below _ (2 ^ 32) (omega arith)

module _ (p : Module) (w : CodesIn p) (x : Exports) (plan : Plan) (base : ℕ) (wide : 8 ≤ plan.area.len) (room : plan.area.at + plan.area.len ≤ base) where
  -- what a move from a memory of so many bytes leads to
  abbrev MoveIn : ℕ → Turn Held Note → Type 0
  MoveIn low t = TurnKeeps (protocol p x plan) (HeldFrom low) (NoteIn low) t

  same : (low : ℕ) (t : Held) → HeldIn low t → HeldFrom low t
  same low t h = (low, omega arith, h)

  quiet : (low : ℕ) → All (NoteIn low) []
  quiet low = All-nil (NoteIn low)

  module _ (low : ℕ) (above : base ≤ low) where
    on_in : (s : Store) (l : Left) (es : List Entry) → StoreIn low s → LeftIn l → HeldFrom low (held_on s l es)
    on_in s l [] ok h = same low (over s) ok
    on_in s l (e ∷ es) ok h = same low (free s l) (ok, h)

    broken_in : (k rule : ℕ) (s : Store) → StoreIn low s → MoveIn low (broken k rule s)
    broken_in k rule s ok = (one_note low _ (note_in low (ended (Broken rule)) s tt ok), same low (over s) ok)

    back_in : (k : ℕ) (task : Task) (results : List Value) (s : Store) (l : Left) → ValuesIn results → StoreIn low s → LeftIn l → MoveIn low (held_back k task results s l)
    back_in k the_start results s l vs ok h = (done_in low s l.entries ok, on_in s l l.entries ok h)
    back_in k (an_entry e) results s l vs ok h =
        let next : LeftIn (next_entry l) = record { entries = h.entries; outcomes = h.outcomes } in (
          All-cons (NoteIn low) _ _ (note_in low (returned l.number (value_of_results results)) s (result_in results vs) ok) (done_in low s l.entries ok),
          on_in s (next_entry l) l.entries ok next,
        )

    given_in : (k : ℕ) (n : Note) (said : Said) (s : Store) (l : Left) (who : Asker) → NoteIn low n → SaidFits said → StoreIn low s → LeftIn l → AskerIn low who → MoveIn low (held_given k n said s l who)
    given_in k n (S.Value v) s l (inside task c) nx f ok h wh = (
      two_notes low n _ nx (note_in low (answered (S.Value v)) s f ok),
      same low (busy (is_running task) (resumed c s (option_to_list v)) l) (wh.0, resumed_in low c s (option_to_list v) (waits_in low c wh.1) ok (optional_in v f), h),
    )
    given_in k n (S.Value v) s l (outermost old) nx f ok h wh = (
      All-append (NoteIn low) (n ∷ note (answered (S.Value v)) s ∷ []) (done_notes s l.entries) (two_notes low n _ nx (note_in low (answered (S.Value v)) s f ok)) (done_in low s l.entries ok),
      on_in s l l.entries ok h,
    )
    given_in k n S.Trap s l who nx f ok h wh = (All-cons (NoteIn low) n (import_traps s) nx (import_traps_in low s ok), same low (over s) ok)

    ends_in : (k : ℕ) (n : Note) (e : End) → NoteIn low n → EndIn e → MoveIn low (held_ends k n e)
    ends_in k n e nx h = (two_notes low n _ nx (note_in low (ended e) n.store h nx.store), same low (over n.store) nx.store)

    -- a pause: its pokes lie inside the memory as it is
    pauses_in : (k : ℕ) (n : Note) (import : ℕ) (a : Answer) (l : Left) (who : Asker) → NoteIn low n → AnswerFits a → LeftIn l → AskerIn low who
        → All (PokeInside (length (store_at who).memory)) a.pokes → MoveIn low (held_pauses x plan k n import a l who)
    pauses_in k n import a l (inside (an_entry e) c) nx f h wh pokes =
        let size = length c.store.memory in
        let ok : StoreIn low c.store = wh.1.store in
        let least : low ≤ size = ok.memory.least in
        let whole : StoreIn size c.store = store_whole low c.store ok in
        let room_there : plan.area.at + plan.area.len ≤ size = omega arith in (
          one_note low n nx,
          (
            size,
            least,
            (
              record { entry = wh.0; fits = f; inside = pokes },
              words_in size c.store plan.area wide room_there whole,
              place_in size c.store plan.area room_there whole,
              waits_in low c wh.1,
              h,
            ),
          ),
        )
    pauses_in k n import a l (inside the_start c) nx f h wh pokes = tt
    pauses_in k n import a l (outermost s) nx f h wh pokes = tt

    tested_in : (k import : ℕ) (args : List Value) (who : Asker) (l : Left) (a : Answer) (o : Option End) (pause : Option ℕ) → ValuesIn args
        → AskerIn low who → LeftIn l → AnswerFits a → FaultIn o → (pause ≡ pause_of a.ticks)
        → (o ≡ None → All (PokeInside (length (store_at who).memory)) a.pokes) → MoveIn low (held_tested p x plan k import args who l a o pause)
    tested_in k import args who l a (Some e) pause va wh h f bad z on =
        ends_in k (call_note import args (store_at who) (stack_at p who) None) e
        (call_note_in low import args (store_at who) (stack_at p who) None va (asker_store low who wh) (stack_in low p who wh) tt) bad
    tested_in k import args who l a None None va wh h f bad z on =
        let ok = asker_store low who wh in
        given_in k (call_note import args (store_at who) (stack_at p who) None) a.said (poked (store_at who) a.pokes) l who
        (call_note_in low import args (store_at who) (stack_at p who) None va ok (stack_in low p who wh) tt) f.said (answered_in low (store_at who) a f (on refl) ok) h wh
    tested_in k import args who l a None (Some ticks) va wh h f bad z on =
        let ok = asker_store low who wh in
        pauses_in k (call_note import args (store_at who) (stack_at p who) (Some ticks)) import a l who
        (call_note_in low import args (store_at who) (stack_at p who) (Some ticks) va ok (stack_in low p who wh) (subst TicksIn (sym z) (ticks_in a.ticks f.ticks))) f h wh (on refl)

    asked_in : (k import : ℕ) (args : List Value) (who : Asker) (l : Left) (os : List Outcome) → ValuesIn args → AskerIn low who
        → All EntryIn l.entries → All OutcomeFits os → MoveIn low (held_asked p x plan k import args who l os)
    asked_in k import args who l [] va wh h fs =
        let ok = asker_store low who wh in
        (one_note low _ (call_note_in low import args (store_at who) (stack_at p who) None va ok (stack_in low p who wh) tt), same low (over (store_at who)) ok)
    asked_in k import args who l (refused e ∷ os) va wh h fs =
        ends_in k (call_note import args (store_at who) (stack_at p who) None) e
        (call_note_in low import args (store_at who) (stack_at p who) None va (asker_store low who wh) (stack_in low p who wh) tt) (refusal_in e (All-head OutcomeFits (refused e) os fs))
    asked_in k import args who l (given a ∷ os) va wh h fs =
        let f : AnswerFits a = All-head OutcomeFits (given a) os fs in
        let results = (func_type_at p import).results in
        let size = length (store_at who).memory in
        tested_in k import args who (with_outcomes l os) a (fault_of results size plan (in_start who) import a) (pause_of a.ticks) va wh (left_outcomes l (given a) os h fs) f
        (fault_in results size plan (in_start who) import a f) refl (fault_pokes results size plan (in_start who) import a)

    trap_in : (area : Area) (ph : Phase) (trap : Trap) (s : Store) → EndIn (trap_end area ph trap s)
    trap_in area (is_running task) trap s = tt
    trap_in area (unwinds e i a) trap s = used_in s area
    trap_in area (rewinds e i a at_pause) trap s = tt

    trapped_in : (k : ℕ) (ph : Phase) (trap : Trap) (s : Store) → StoreIn low s → MoveIn low (goes k (note (ended (trap_end plan.area ph trap s)) s ∷ []) (over s))
    trapped_in k ph trap s ok = (one_note low _ (note_in low (ended (trap_end plan.area ph trap s)) s (trap_in plan.area ph trap s) ok), same low (over s) ok)

    busy_in : (ph : Phase) (l : Left) (o : Next) → PhaseIn low ph → LeftIn l → NextIn low o → MoveIn low (busy_step p x plan ph l o)
    busy_in ph l (steps k d) th h ok = (quiet low, same low (busy ph d l) (th, ok, h))
    busy_in (is_running task) l (asks k import args d) th h ok = asked_in k import args (inside task d) l l.outcomes ok.0 (th, ok.1) h.entries h.outcomes
    busy_in (unwinds e i a) l (asks k import args d) th h ok = broken_in k 1 d.store ok.1.store
    busy_in (rewinds e i a at_pause) l (asks k import args d) th h ok = by_import (eqb import i)
      where
        by_import : (b : Bool) → MoveIn low (cond b (goes k [] (calling (rewinds e i a at_pause) d.store x.get_state [] (test_rewound d) l)) (broken k 3 d.store))
        by_import true = (quiet low, same low (calling (rewinds e i a at_pause) d.store x.get_state [] (test_rewound d) l) (th, ok.1.store, none_in, waits_in low d ok.1, h))
        by_import false = broken_in k 3 d.store ok.1.store
    busy_in (is_running task) l (returns k results s) th h ok = back_in k task results s l ok.0 ok.1 h
    busy_in (unwinds e i a) l (returns k results s) th h ok = (quiet low, same low (calling (unwinds e i a) s x.get_state [] test_unwound l) (th, ok.1, none_in, tt, h))
    busy_in (rewinds e i a at_pause) l (returns k results s) th h ok = broken_in k 5 s ok.1
    busy_in ph l (traps k trap s) th h ok = trapped_in k ph trap s ok
    busy_in ph l stuck th h ok = tt

    answer_in : (said : Said) (s at_pause : Store) → SaidFits said → StoreIn low s → StoreIn 0 at_pause → NoteIn low (answer_note said s at_pause)
    answer_in said s at_pause f ok since = record { event = f; store = ok; stack = All-nil SuspendedIn; pause = tt; since = since }

    resuming_in : (k : ℕ) (e : Entry) (said : Said) (at_pause : Store) (c : Configuration) (l : Left) (s : Store) → EntryIn e → SaidFits said → StoreIn 0 at_pause → WaitsIn c → LeftIn l
        → StoreIn low s → MoveIn low (held_resumed k e said at_pause c l s)
    resuming_in k e (S.Value v) at_pause c l s eh f since wh h ok = (
      one_note low _ (answer_in (S.Value v) s at_pause f ok since),
      same low (busy (is_running (an_entry e)) (resumed c s (option_to_list v)) l) (eh, resumed_in low c s (option_to_list v) wh ok (optional_in v f), h),
    )
    resuming_in k e S.Trap at_pause c l s eh f since wh h ok =
        (two_notes low _ _ (answer_in S.Trap s at_pause f ok since) (note_in low (ended (Trapped ByImport)) s tt ok), same low (over s) ok)

    aside_back_in : (k : ℕ) (ph : Phase) (th : Then) (l : Left) (results : List Value) (s : Store) → PhaseIn low ph → ThenIn th
        → LeftIn l → StoreIn low s → MoveIn low (aside_back p x plan k ph th l results s)
    aside_back_in k (unwinds e i a) (give_zero c) l results s ph th h ok =
        (quiet low, same low (busy (unwinds e i a) (resumed c s (zeros_of p i)) l) (ph, resumed_in low c s (zeros_of p i) th ok (zeros_in (func_type_at p i).results), h))
    aside_back_in k (unwinds e i a) test_unwound l results s ph th h ok = by_state (is_state 1 results)
      where
        by_state : (b : Bool) → MoveIn low (cond b (goes k [] (calling (unwinds e i a) s x.stop_unwind [] pause_there l)) (broken k 2 s))
        by_state true = (quiet low, same low (calling (unwinds e i a) s x.stop_unwind [] pause_there l) (ph, ok, none_in, tt, h))
        by_state false = broken_in k 2 s ok
    aside_back_in k (unwinds e i a) pause_there l results s ph th h ok =
        let room_there : plan.area.at + plan.area.len ≤ low = omega arith in (
          one_note low _ (note_in low (paused a.ticks (used_of s plan.area)) s (ph.fits.ticks, used_in s plan.area) ok),
          same low (calling (rewinds e i a s) s x.start_rewind (V.I32 plan.area.at ∷ []) call_again l) ((ph, store_lower 0 low s (omega arith) ok), ok, place_in low s plan.area room_there ok, tt, h),
        )
    aside_back_in k (rewinds e i a at_pause) call_again l results s ph th h ok =
        (quiet low, same low (entering (rewinds e i a at_pause) e s l) (ph, ph.0.entry, ok, h))
    aside_back_in k (rewinds e i a at_pause) (test_rewound c) l results s ph th h ok = by_state (is_state 2 results)
      where
        by_state : (b : Bool) → MoveIn low (cond b (goes k [] (calling (rewinds e i a at_pause) s x.stop_rewind [] (give_answer c) l)) (broken k 4 s))
        by_state true = (quiet low, same low (calling (rewinds e i a at_pause) s x.stop_rewind [] (give_answer c) l) (ph, ok, none_in, th, h))
        by_state false = broken_in k 4 s ok
    aside_back_in k (rewinds e i a at_pause) (give_answer c) l results s ph th h ok =
        let f : AnswerFits a = ph.0.fits in
        resuming_in k e a.said at_pause c l (poked s a.pokes) ph.0.entry f.said ph.1 th h (poked_store_in low s a f ph.0.inside ok)
    aside_back_in k _ _ l results s ph th h ok = tt

    aside_in : (ph : Phase) (th : Then) (l : Left) (o : Next) → PhaseIn low ph → ThenIn th → LeftIn l → NextIn low o → MoveIn low (aside_step p x plan ph th l o)
    aside_in ph th l (steps k d) a b h ok = (quiet low, same low (aside ph d th l) (a, ok, b, h))
    aside_in ph th l (asks k import args d) a b h ok = broken_in k 6 d.store ok.1.store
    aside_in ph th l (returns k results s) a b h ok = aside_back_in k ph th l results s a b h ok.1
    aside_in ph th l (traps k trap s) a b h ok = trapped_in k ph trap s ok
    aside_in ph th l stuck a b h ok = tt

    enters_in : (ph : Phase) (e : Entry) (s : Store) (l : Left) (o : Option Func) → PhaseIn low ph → EntryIn e → StoreIn low s → LeftIn l
        → ((f : Func) → o ≡ Some f → CodeFits f.body) → MoveIn low (busy_enters ph e s l o)
    enters_in ph e s l None a eh ok h ff = tt
    enters_in ph e s l (Some f) a eh ok h ff = (quiet low, same low (busy ph (entered s [] e.args e.func f) l) (a, entered_in low s [] e.args e.func f ok (All-nil ActivationIn) eh (ff f refl), h))

    next_in : (s : Store) (l : Left) (es : List Entry) → StoreIn low s → All EntryIn es → All OutcomeFits l.outcomes → MoveIn low (held_next p s l es)
    next_in s l [] ok h k = tt
    next_in s l (e ∷ es) ok h k =
        let eh = All-head EntryIn e es h in
        enters_in (is_running (an_entry e)) e s (record { number = l.number; entries = es; outcomes = l.outcomes }) (defined_at p e.func) eh eh ok (left_entries l e es h k) (func_in p w e.func)

    called_in : (ph : Phase) (s : Store) (f : ℕ) (args : List Value) (th : Then) (l : Left) (o : Option Func) → PhaseIn low ph → StoreIn low s → ValuesIn args → ThenIn th
        → LeftIn l → ((g : Func) → o ≡ Some g → CodeFits g.body) → MoveIn low (aside_called ph s f args th l o)
    called_in ph s f args th l None a ok va b h ff = tt
    called_in ph s f args th l (Some g) a ok va b h ff = (quiet low, same low (aside ph (entered s [] args f g) th l) (a, entered_in low s [] args f g ok (All-nil ActivationIn) va (ff g refl), b, h))

    start_in : (f : ℕ) (s : Store) (l : Left) (o : Option Func) → StoreIn low s → LeftIn l → ((g : Func) → o ≡ Some g → CodeFits g.body) → MoveIn low (held_start p x plan f s l o)
    start_in f s l (Some g) ok h ff = (quiet low, same low (busy (is_running the_start) (entered s [] [] f g) l) (tt, entered_in low s [] [] f g ok (All-nil ActivationIn) none_in (ff g refl), h))
    start_in f s l None ok h ff = by_import (ltb f (func_imports p))
      where
        by_import : (b : Bool) → MoveIn low (cond b (held_asked p x plan 0 f [] (outermost s) l l.outcomes) stops)
        by_import true = asked_in 0 f [] (outermost s) l l.outcomes none_in ok h.entries h.outcomes
        by_import false = tt

    -- one move of the machine
    move_in : (t : Held) → HeldIn low t → MoveIn low (protocol p x plan t)
    move_in (free s l) h = next_in s l l.entries h.0 h.1.entries h.1.outcomes
    move_in (starting f s l) h = start_in f s l (defined_at p f) h.0 h.1 (func_in p w f)
    move_in (busy ph c l) h = busy_in ph l (step p c) h.0 h.2 (step_in low p w c h.1)
    move_in (calling ph s f args th l) h = called_in ph s f args th l (defined_at p f) h.0 h.1 h.2 h.3 h.4 (func_in p w f)
    move_in (aside ph c th l) h = aside_in ph th l (step p c) h.0 h.2 h.3 (step_in low p w c h.1)
    move_in (entering ph e s l) h = enters_in ph e s l (defined_at p e.func) h.0 h.1 h.2 h.3 (func_in p w e.func)
    move_in (over s) h = tt

  -- moves from a memory of at least so many bytes
  pub turn_in : (low : ℕ) (t : Held) → base ≤ low → HeldFrom low t → MoveIn low (protocol p x plan t)
  turn_in low t above h = lower (protocol p x plan t) (move_in h.0 (let le : low ≤ h.0 = h.1 in omega arith) t h.2)
    where
      lower : (o : Turn Held Note) → MoveIn h.0 o → MoveIn low o
      lower stops k = tt
      lower (goes j es u) k =
          let le : low ≤ h.0 = h.1 in
          let more : h.0 ≤ (k.1).0 = (k.1).1 in
          (notes_lower low h.0 es h.1 k.0, ((k.1).0, omega arith, (k.1).2))

-- ---- whole runs

held_store : (low : ℕ) (t : Held) → HeldIn low t → StoreIn low (store_held t)
held_store low (free s l) h = h.0
held_store low (starting f s l) h = h.0
held_store low (busy ph c l) h = h.1.store
held_store low (calling ph s f args th l) h = h.1
held_store low (aside ph c th l) h = h.1.store
held_store low (entering ph e s l) h = h.2
held_store low (over s) h = h

-- a bound of what pokes reach may be raised
inside_raise : (low size : ℕ) (ps : List Poke) → low ≤ size → All (PokeInside low) ps → All (PokeInside size) ps
inside_raise low size ps le h = All-weaker (PokeInside low) (PokeInside size) (λ (p : Poke) (k : p.at + length p.bytes ≤ low). omega arith) ps h

phase_raise : (low size : ℕ) (ph : Phase) → low ≤ size → PhaseIn low ph → PhaseIn size ph
phase_raise low size (is_running task) le h = h
phase_raise low size (unwinds e i a) le h = record { entry = h.entry; fits = h.fits; inside = inside_raise low size a.pokes le h.inside }
phase_raise low size (rewinds e i a at_pause) le h = (record { entry = h.0.entry; fits = h.0.fits; inside = inside_raise low size a.pokes le h.0.inside }, h.1)

-- as long as the memory is
held_whole : (low : ℕ) (t : Held) → HeldIn low t → HeldIn (length (store_held t).memory) t
held_whole low (free s l) h = (store_whole low s h.0, h.1)
held_whole low (starting f s l) h = (store_whole low s h.0, h.1)
held_whole low (busy ph c l) h = (phase_raise low (length c.store.memory) ph h.1.store.memory.least h.0, record { store = store_whole low c.store h.1.store; here = h.1.here; under = h.1.under }, h.2)
held_whole low (calling ph s f args th l) h = (phase_raise low (length s.memory) ph h.1.memory.least h.0, store_whole low s h.1, h.2, h.3, h.4)
held_whole low (aside ph c th l) h =
    (phase_raise low (length c.store.memory) ph h.1.store.memory.least h.0, record { store = store_whole low c.store h.1.store; here = h.1.here; under = h.1.under }, h.2, h.3)
held_whole low (entering ph e s l) h = (phase_raise low (length s.memory) ph h.2.memory.least h.0, h.1, store_whole low s h.2, h.3)
held_whole low (over s) h = store_whole low s h

pub protocol_grows : ProtocolMemoryGrows
protocol_grows p plan s t n es w wide h l =
    let base = plan.area.at + plan.area.len in
    let low = length (store_held s).memory in
    let size : ℕ = h.0 in
    let enough : base ≤ size = h.1 in
    let long : size ≤ low = (held_store size s h.2).memory.least in
    let above : base ≤ low = omega arith in
    let from : HeldFrom low s = (low, omega arith, held_whole size s h.2) in
    let room : base ≤ base = omega arith in
    leads_keeps (protocol p (exports_of p) plan) (HeldFrom low) (NoteIn low) (λ u k. turn_in p w (exports_of p) plan base wide room low u above k) s t n es from l

-- a run begins in range
held_on_from : (low : ℕ) (s : Store) (l : Left) (es : List Entry) → StoreIn low s → LeftIn l → HeldIn low (held_on s l es)
held_on_from low s l [] ok h = ok
held_on_from low s l (e ∷ es) ok h = (ok, h)

module _ (p : Module) (w : CodesIn p) (plan : Plan) (n : ℕ) (area : AreaFits p plan.area) where
  abbrev declared : ℕ
  declared = least_of (all_memories p) * page_size

  abbrev RunsFrom : ℕ → Ran Held Note → Type 0
  RunsFrom low r = All (NoteIn low) (held_continued p plan n r).events × HeldFrom low (held_continued p plan n r).last

  -- where it opens the memory is as declared
  pub opened_in : (start : Option ℕ) (l : Left) (s : Store) → StoreIn declared s → LeftIn l → RunsFrom declared (held_started s l start)
  opened_in start l s h k =
      let same : declared ≤ declared = omega arith in
      after_keeps (protocol p (exports_of p) plan) (HeldFrom declared) (NoteIn declared)
      (λ u c. turn_in p w (exports_of p) plan declared area.least area.inside declared u same c) n (held_started s l start) (begins_in start)
    where
      begins_in : (o : Option ℕ) → All (NoteIn declared) (held_started s l o).events × HeldFrom declared (held_started s l o).last
      begins_in None = (done_in _ s l.entries h, (_, omega arith, held_on_from _ s l l.entries h k))
      begins_in (Some f) = (All-nil (NoteIn _), (_, omega arith, (h, k)))

  runs_lower : (low size : ℕ) (r : Ran Held Note) → low ≤ size → RunsFrom size r → RunsFrom low r
  runs_lower low size r le h =
      let far : size ≤ (h.1).0 = (h.1).1 in
      (notes_lower low size _ le h.0, ((h.1).0, omega arith, (h.1).2))

  ran_in : (start : Option ℕ) (l : Left) (o : Opening) → OpeningIn declared o → LeftIn l → RunsFrom 0 (held_begun start l o)
  ran_in start l (fails_as e) h k = by_count n
    where
      by_count : (n : ℕ) → All (NoteIn 0) (held_continued p plan n (held_begun start l (fails_as e))).events × HeldFrom 0 (held_continued p plan n (held_begun start l (fails_as e))).last
      by_count zero = (one_note 0 _ (note_in 0 (ended e) no_store h no_store_in), (0, omega arith, no_store_in))
      by_count (suc n) = (one_note 0 _ (note_in 0 (ended e) no_store h no_store_in), (0, omega arith, no_store_in))
  ran_in start l (opens s) h k = runs_lower 0 declared (held_started s l start) (omega arith) (opened_in start l s h k)

pub protocol_in : ProtocolIn
protocol_in p plan os n w v area fs =
    ran_in p w plan n area p.start (all_left plan os) (opening p plan.globals) (openings_in p plan.globals w v.globals) (record { entries = v.entries; outcomes = fs })

pub protocol_area : ProtocolHoldsArea
protocol_area p plan os n s w v area fs e =
    let low = plan.area.at + plan.area.len in
    let l = all_left plan os in
    let size = least_of (all_memories p) * page_size in
    let opened : StoreIn size s = subst (OpeningIn size) e (openings_in p plan.globals w v.globals) in
    let r = runs_lower p w plan n area low size (held_started s l p.start) area.inside (opened_in p w plan n area p.start l s opened (record { entries = v.entries; outcomes = fs })) in
    subst (λ (o : Opening). RunsFrom p w plan n area low (held_begun p.start l o)) (sym e) r

-- ---- longer runs

-- a run that is over before it begins stays so
none_moves : (p : Module) (plan : Plan) (low : ℕ) (t : Held) → t ≡ over no_store
    → TurnKeeps (protocol p (exports_of p) plan) (λ (u : Held). u ≡ over no_store) (NoteIn low) (protocol p (exports_of p) plan t)
none_moves p plan low t e = subst (λ (u : Held). TurnKeeps (protocol p (exports_of p) plan) (λ (u : Held). u ≡ over no_store) (NoteIn low) (protocol p (exports_of p) plan u)) (sym e) tt

-- what is made later than so much of a run
abbrev Later : Module → Plan → (n more : ℕ) → Ran Held Note → Type 0
Later p plan n more r =
    (later : List Note) × ((held_continued p plan (n + more) r).events ≡ (held_continued p plan n r).events ++ later)
    × All (NoteIn (length (store_held (held_continued p plan n r).last).memory)) later
    × StoreIn (length (store_held (held_continued p plan n r).last).memory) (store_held (held_continued p plan (n + more) r).last)

module _ (p : Module) (w : CodesIn p) (plan : Plan) (n more : ℕ) (area : AreaFits p plan.area) where
  over_later : (r : Ran Held Note) → r.last ≡ over no_store → Later p plan n more r
  over_later r e =
      let next = protocol p (exports_of p) plan in
      let low = length (store_held (held_continued p plan n r).last).memory in
      let there = run_keeps next (λ (u : Held). u ≡ over no_store) (NoteIn low) (none_moves p plan low) n r.last e in
      let k = later_keeps next (λ (u : Held). u ≡ over no_store) (NoteIn low) (none_moves p plan low) n more r there.1 in (
        k.0,
        k.1,
        k.2,
        subst (λ (u : Held). StoreIn (length (store_held u).memory) (store_held (held_continued p plan (n + more) r).last)) (sym there.1)
            (subst (λ (u : Held). StoreIn 0 (store_held u)) (sym k.3) no_store_in),
      )

  held_later : (r : Ran Held Note) → HeldFrom (least_of (all_memories p) * page_size) r.last → Later p plan n more r
  held_later r h =
      let next = protocol p (exports_of p) plan in
      let base = least_of (all_memories p) * page_size in
      let same : base ≤ base = omega arith in
      let there = run_keeps next (HeldFrom base) (NoteIn base) (λ u c. turn_in p w (exports_of p) plan base area.least area.inside base u same c) n r.last h in
      let t = (held_continued p plan n r).last in
      let low = length (store_held t).memory in
      let size : ℕ = (there.1).0 in
      let enough : base ≤ size = (there.1).1 in
      let long : size ≤ low = (held_store size t (there.1).2).memory.least in
      let above : base ≤ low = omega arith in
      let from : HeldFrom low t = (low, omega arith, held_whole size t (there.1).2) in
      let k = later_keeps next (HeldFrom low) (NoteIn low) (λ u c. turn_in p w (exports_of p) plan base area.least area.inside low u above c) n more r from in
      (k.0, k.1, k.2, store_lower low (k.3).0 _ (k.3).1 (held_store (k.3).0 _ (k.3).2))

  ran_later : (start : Option ℕ) (l : Left) (o : Opening) → OpeningIn (least_of (all_memories p) * page_size) o → LeftIn l → Later p plan n more (held_begun start l o)
  ran_later start l (fails_as e) h k = over_later (held_begun start l (fails_as e)) refl
  ran_later start l (opens s) h k = by_start start
    where
      by_start : (o : Option ℕ) → Later p plan n more (held_started s l o)
      by_start None = held_later (held_started s l None) (_, omega arith, held_on_from _ s l l.entries h k)
      by_start (Some f) = held_later (held_started s l (Some f)) (_, omega arith, (h, k))

pub protocol_later : ProtocolLater
protocol_later p plan os n more w v area fs =
    ran_later p w plan n more area p.start (all_left plan os) (opening p plan.globals) (openings_in p plan.globals w v.globals) (record { entries = v.entries; outcomes = fs })

-- ---- plans that fit

entries_in : (m : Module) (es : List Entry) → All (EntryFits m) es → All EntryIn es
entries_in m [] h = All-nil EntryIn
entries_in m (e ∷ es) h = All-cons EntryIn e es (All-head (EntryFits m) e es h).args.ranges (entries_in m es (All-tail (EntryFits m) e es h))

pub fits_in : FitsIn
fits_in m plan h = record { globals = h.globals.ranges; entries = entries_in m plan.entries h.entries }

pub fits_areas : FitsAreas
unfolding Base with_runtime
fits_areas m p plan imports memories h =
    let same : all_memories (Base m) ≡ all_memories p =
    ap (λ (is : List Import). filter_map (λ (i : Import). imported_memory i.kind) is ++ (m.memories ++ added_memories (all_memories m))) (sym imports)
    ∙ ap (λ (ls : List Limits). imported imported_memory p ++ ls) (sym memories) in
    let size : least_of (all_memories (Base m)) ≡ least_of (all_memories p) = ap least_of same in
    record { aligned = h.area.aligned; least = h.area.least; inside = subst (λ (k : ℕ). plan.area.at + plan.area.len ≤ k * page_size) size h.area.inside }

-- the runtime's globals begin with a zero
runtime_in : All (λ (g : GlobalDef). CodeFits g.init) runtime_globals
runtime_in =
    let fits : CodeFits zero_global.init = (omega arith, tt) in
    All-cons (λ (g : GlobalDef). CodeFits g.init) zero_global (zero_global ∷ []) fits (All-cons (λ (g : GlobalDef). CodeFits g.init) zero_global [] fits (All-nil (λ (g : GlobalDef). CodeFits g.init)))

-- a module with the runtime's globals holds constants in range, where its bodies do
rewritten_in : (m p : Module) → CodesIn m → All (λ (f : Func). CodeFits f.body) p.funcs → p.globals ≡ (with_runtime m).globals → p.segments ≡ m.segments → CodesIn p
unfolding with_runtime
rewritten_in m p w fs globals segments = record {
  funcs = fs;
  globals = subst (All (λ (g : GlobalDef). CodeFits g.init)) (sym globals) (All-append (λ (g : GlobalDef). CodeFits g.init) m.globals runtime_globals w.globals runtime_in);
  segments = subst (All (λ (s : Segment). All byte_in s.bytes)) (sym segments) w.segments;
}

pub compared_in : ComparedIn
compared_in m p plan os n k wm bodies imports memories globals segments h fs =
    let codes = well_formed_in m wm in
    let first = blocking_in m plan os n codes (fits_in m plan h) fs in
    let second = protocol_in p plan os k (rewritten_in m p codes bodies globals segments) (fits_in m plan h) (fits_areas m p plan imports memories h) fs in
    (first.0, first.1, second.0, second.1)
