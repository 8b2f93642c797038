-- How a turn begins: the first one's with instantiation, and behind a turn that of the strand that is due first.
use Rattle.std.proofs.Common.{arith, ◌≡◌, ◌<◌, ◌≤◌, ◌⊎◌, inl, inr, ℕ, zero, suc, ◌-◌, List, [], ◌∷◌, ◌++◌, length, Option, Some, None, Bool, true, false, refl, sym, ap, ◌∙◌, subst, append-nil}
use Rattle.std.specs.Prelude.{slice_get, slice_set}
use Rattle.wa_model.specs.declared.events.End.{End}
use Rattle.wa_model.specs.Blocking as B
use Rattle.wa_model.specs.Blocking.{Note, all_left, done_notes, no_store, note}
use Rattle.wa_model.specs.Instantiation.{Opening, fails_as, opening, opens}
use Rattle.wa_model.specs.Machine.{Ran, stays}
use Rattle.wa_model.specs.Outside.{Event, ended}
use Rattle.wa_model.specs.Plan.{Entry}
use Rattle.wa_model.specs.Protocol.{Held, exports_of, held_begun, held_on, over, starting as starting_at, store_held}
use Rattle.wa_model.specs.Store.{Store}
use Rattle.wa_types.specs.Syntax.{Module}
use Rattle.wa_types.specs.View.{module_of}
use Rattle.wa_model.specs.View.{event_of}
use Rattle.strand_host.specs.declared.program.StrandProgram.{StrandProgram as Program}
use Rattle.strand_host.specs.declared.program.State.TheVariants.{Failed}
use Rattle.strand_host.specs.declared.strands.StrandEvent.{StrandEvent}
use Rattle.strand_host.specs.StrandTelling.{TellsStrandNote}
use Rattle.world_model.specs.World.{Device}
use Rattle.world_laws.proofs.Places.{set_here, set_there}
use Rattle.run_laws.specs.FittingStates.{HeldFits}
use Rattle.event_order.specs.Dues.{IsLeast}
use Rattle.interp.specs.declared.instance.Instance.{Instance}
use Rattle.interp.specs.Host.{store_in, waits_in}
use Rattle.host_laws.specs.Places.{Place, stands}
use Rattle.pause_host.specs.Holding.{HeldHolds}
use Rattle.pause_host.specs.Views.{left_of, place_in}
use Rattle.strand_laws.proofs.Blocks.{none_is, set_length, the_same}
use Rattle.strand_laws.specs.StrandWorld.{StrandsInWorld}
use Rattle.strand_laws.specs.Strands.{held_wakes}
use Rattle.strand_laws.specs.ToldStrands.{ProgramTeller, StrandTeller, having_told, told_on}
use Rattle.strand_laws.specs.Weaving.{IsDueFirst, due_in, is_ready, is_there}
use Rattle.strand_laws.specs.Woven.{Thread, ends_strand, last_event}
use Rattle.strand_host.specs.declared.strands.Strand.{Strand}
use Rattle.strand_host.specs.StrandPrograms.{AtPlace, BetweenAt, EndedAt, FreshAt, IsProgram, NotesFit, OpensAt, Row, RowIs, StartsAt, Stock, TurnAt, place_of, FollowsStrands, TellsEvent, memory_of, stock_of}
use Rattle.strand_host.specs.Standing.{AreWaiting, InTurn, IsNoTrap, all_at_start, as_before, dues_of_strands, either_way, is_in_start, opened_first, unless_over}
use Rattle.strand_host.proofs.Rows.{row_stays}
use Rattle.strand_host.proofs.StandingEnds.{program_ends}
use Rattle.strand_host.proofs.StandingNext.{next_turn_begins, ready_teller}
use Rattle.strand_host.proofs.StandingStart.{first_turn_begins}
use Rattle.strand_host.proofs.StandingTellers.{get_lt}
use Rattle.strand_host.proofs.StandingTurns.{turn_moves}
use Rattle.strand_host.proofs.StandingWoven.{true_false}
use Rattle.strand_host.proofs.StrandPlaces.{NotesOver, place_over}

-- ---- rows

-- that of a strand that waits
row_some : (g : StrandsInWorld) (t : ProgramTeller) (x : Stock) (ts : List (Thread Held)) (low i : ℕ) (r : Row g t x ts low i) (s : Strand) → slice_get x.strands i ≡ Some (Some s)
    → RowIs g i x.setting low (Some s) r.due r.teller r.thread
row_some g t x ts low i r s e = subst (λ (o : Option Strand). RowIs g i x.setting low o r.due r.teller r.thread) (the_same r.slot (Some s) (sym r.slot_is ∙ e)) r.row

-- one that hasn't ended does
row_live : (g : StrandsInWorld) (t : ProgramTeller) (x : Stock) (ts : List (Thread Held)) (low i : ℕ) (r : Row g t x ts low i) → r.teller.has_ended ≡ false → r.due ≡ Some r.teller.due
row_live g t x ts low i r live = by r.slot r.row
  where
    by : (o : Option Strand) → RowIs g i x.setting low o r.due r.teller r.thread → r.due ≡ Some r.teller.due
    by None row = true_false (sym row.0 ∙ live)
    by (Some s) row = row.1

teller_ready : (ss : List StrandTeller) (k : ℕ) (s : StrandTeller) → slice_get ss k ≡ Some s → s.has_ended ≡ false → is_ready (slice_get (dues_of_strands ss) k) ≡ true
teller_ready [] k s e live = none_is s e
teller_ready (u ∷ ss) zero s e live =
    let z : u.has_ended ≡ false = ap (λ (v : StrandTeller). v.has_ended) (the_same u s e) ∙ live in
    ap (λ (b : Bool). is_there (unless_over b)) z
teller_ready (u ∷ ss) (suc k) s e live = teller_ready ss k s e live

teller_due : (ss : List StrandTeller) (k : ℕ) (s : StrandTeller) → slice_get ss k ≡ Some s → due_in (slice_get (dues_of_strands ss) k) ≡ s.due
teller_due [] k s e = none_is s e
teller_due (t ∷ ss) zero s e = ap (λ (u : StrandTeller). u.due) (the_same t s e)
teller_due (t ∷ ss) (suc k) s e = teller_due ss k s e

-- ---- behind a turn

module _ (g : StrandsInWorld) (t : ProgramTeller) (x : Stock) (ts : List (Thread Held)) (low : ℕ) (wide : length t.strands ≡ length g.program.strands)
    (rows : (i : ℕ) → i < length g.program.strands → Row g t x ts low i) where
  -- the least due tick is that of the strand that is due first
  pub least_first : (k due : ℕ) → k < length g.program.strands → IsLeast x.dues k due → IsDueFirst (dues_of_strands t.strands) k
  least_first k due lt l = record { ready = teller_ready t.strands k r.teller r.teller_is live; least = least }
    where
      r : Row g t x ts low k
      r = rows k lt

      is_due : r.due ≡ Some due
      is_due = the_same r.due (Some due) (sym r.due_is ∙ l.there)

      kinds : (o : Option Strand) → RowIs g k x.setting low o r.due r.teller r.thread → (r.teller.has_ended ≡ false) × (r.due ≡ Some r.teller.due)
      kinds None row = none_is due (sym row.1 ∙ is_due)
      kinds (Some s) row = (row.0.unfinished, row.1)

      live : r.teller.has_ended ≡ false
      live = (kinds r.slot r.row).0

      own : due_in (slice_get (dues_of_strands t.strands) k) ≡ due
      own = teller_due t.strands k r.teller r.teller_is ∙ the_same r.teller.due due (sym (kinds r.slot r.row).1 ∙ is_due)

      least : (j : ℕ) → is_ready (slice_get (dues_of_strands t.strands) j) ≡ true
          → (due_in (slice_get (dues_of_strands t.strands) k) < due_in (slice_get (dues_of_strands t.strands) j))
          ⊎ ((due_in (slice_get (dues_of_strands t.strands) k) ≡ due_in (slice_get (dues_of_strands t.strands) j)) × (k ≤ j))
      least j e = by (l.least j q.teller.due (q.due_is ∙ ap (λ (o : Option ℕ). Some o) (row_live g t x ts low j q (ap (λ (u : StrandTeller). u.has_ended) same ∙ u.2))))
        where
          u : (s : StrandTeller) × (slice_get t.strands j ≡ Some s) × (s.has_ended ≡ false)
          u = ready_teller t.strands j e

          q : Row g t x ts low j
          q = let a = get_lt t.strands j u.0 u.1 in let w = wide in rows j (omega (arith, a, w))

          same : q.teller ≡ u.0
          same = the_same q.teller u.0 (sym q.teller_is ∙ u.1)

          other : due_in (slice_get (dues_of_strands t.strands) j) ≡ q.teller.due
          other = teller_due t.strands j q.teller q.teller_is

          by : (due < q.teller.due) ⊎ ((due ≡ q.teller.due) × (k ≤ j))
              → (due_in (slice_get (dues_of_strands t.strands) k) < due_in (slice_get (dues_of_strands t.strands) j))
              ⊎ ((due_in (slice_get (dues_of_strands t.strands) k) ≡ due_in (slice_get (dues_of_strands t.strands) j)) × (k ≤ j))
          by (inl a) = inl (let m = own in let n = other in omega (arith, a, m, n))
          by (inr a) = inr (own ∙ a.0 ∙ sym other, a.1)

notes_fit : (g : StrandsInWorld) (low : ℕ) (ys : List Note) (h : Held) → NotesOver g.program.source low ys h → NotesFit g low ys h
notes_fit g low [] h n = tt
notes_fit g low (y ∷ ys) h n = (n.0, n.1, n.2, notes_fit g low ys h n.3)

-- what stays of a program whose strand of this number begins its turn
abbrev pub taken_out : Stock → ℕ → Stock
taken_out x k = record x { strands = slice_set x.strands k None }

program_stays : (g : StrandsInWorld) (t : ProgramTeller) (x : Stock) (ts : List (Thread Held)) (k : ℕ) → IsProgram g t x ts → IsProgram g t (taken_out x k) ts
program_stays g t x ts k p = record {
  source = p.source;
  globals = p.globals;
  globals_fit = p.globals_fit;
  few_steps = p.few_steps;
  some = p.some;
  few = p.few;
  slots = set_length x.strands k None ∙ p.slots;
  dues = p.dues;
  threads = p.threads;
  tellers = p.tellers;
}

others_stay : (g : StrandsInWorld) (t : ProgramTeller) (x : Stock) (ts : List (Thread Held)) (low k : ℕ) → ((i : ℕ) → i < length g.program.strands → Row g t x ts low i)
    → (i : ℕ) → i < length g.program.strands → (i ≡ k → ⊥) → Row g t (taken_out x k) ts low i
others_stay g t x ts low k rows i lt ne =
    row_stays g t t x (taken_out x k) ts ts low low i (let z : low ≤ low = omega arith in z) refl (set_there x.strands k i None ne) refl refl refl (rows i lt)

-- The turn of the strand that is due first begins, over the store of the moment.
pub begins_turn : (g : StrandsInWorld) (t : ProgramTeller) (x : Stock) (instance : Instance) (k due : ℕ) (s : Strand) → BetweenAt g t x instance → IsLeast x.dues k due
    → slice_get x.strands k ≡ Some (Some s) → TurnAt g t (taken_out x k) instance k s false
begins_turn g t x instance k due s b l e = record {
  at = record {
    ts = b.ts;
    low = b.low;
    is = program_stays g t x b.ts k b.is;
    there = lt;
    rows = others_stay g t x b.ts b.low k b.rows;
    slot = set_here x.strands k None (Some s) e;
    teller = r.teller;
    teller_is = r.teller_is;
    due = r.due_is ∙ ap (λ (o : Option ℕ). Some o) row.1;
    strand = row.0;
    ready = (held_wakes st h).events;
    held = (held_wakes st h).last;
    place_is = placed;
    turn = next_turn_begins g t x.steps_left st b.ts k r.teller.due h b.between (least_first g t x b.ts b.low b.is.tellers b.rows k due lt l)
        (r.thread_is ∙ ap (λ (o : Thread Held). Some o) row.3);
    fits = row.4.fits st b.fits b.long;
    holds = row.4.holds st b.long;
    notes = notes_fit g b.low (held_wakes st h).events (held_wakes st h).last there.0;
    long = there.1;
    behind_start = λ q. row.4.behind_start st;
  };
  code = b.code;
  fits = b.fits;
}
  where
    st : Store
    st = store_in instance

    lt : k < length g.program.strands
    lt = let a = get_lt x.strands k (Some s) e in let z = b.is.slots in omega (arith, a, z)

    r : Row g t x b.ts b.low k
    r = b.rows k lt

    row : RowIs g k x.setting b.low (Some s) r.due r.teller r.thread
    row = row_some g t x b.ts b.low k r s e

    h : Held
    h = row.2

    placed : place_of g instance s ≡ stands (held_wakes st h).events (held_wakes st h).last
    placed = row.4.place (waits_in instance) st

    there : NotesOver g.program.source b.low (held_wakes st h).events (held_wakes st h).last × (b.low ≤ length (store_held (held_wakes st h).last).memory)
    there =
        place_over g.program.source b.low (exports_of g.program.source) s.area (left_of s.left) st (waits_in instance) s.stage (held_wakes st h).events (held_wakes st h).last placed b.fits b.long

-- ---- at the start

module _ (g : StrandsInWorld) (t : ProgramTeller) (x : Stock) (f : FreshAt g t x) where
  -- what instantiation makes
  opened_is : (o : Opening) → opening x.source x.globals ≡ o → opened_first g.program ≡ held_begun x.source.start (left_of f.first.left) o
  opened_is o e =
      ap (λ (l : B.Left). held_begun g.program.source.start l (opening g.program.source g.program.globals)) (sym f.left)
      ∙ ap (λ (m : Module). held_begun m.start (left_of f.first.left) (opening m g.program.globals)) f.is.source
      ∙ ap (λ (vs : _). held_begun x.source.start (left_of f.first.left) (opening x.source vs)) (sym f.is.globals)
      ∙ ap (held_begun x.source.start (left_of f.first.left)) e

  begun_is : (o : Opening) → opening x.source x.globals ≡ o
      → held_begun g.program.source.start (left_of f.first.left) (opening g.program.source g.program.globals) ≡ held_begun x.source.start (left_of f.first.left) o
  begun_is o e =
      ap (λ (m : Module). held_begun m.start (left_of f.first.left) (opening m g.program.globals)) f.is.source
      ∙ ap (λ (vs : _). held_begun x.source.start (left_of f.first.left) (opening x.source vs)) (sym f.is.globals)
      ∙ ap (held_begun x.source.start (left_of f.first.left)) e

  first_turn : InTurn g t x.steps_left 0 0 true (opened_first g.program).events (opened_first g.program).last (all_at_start g.program)
  first_turn =
      subst (λ n. InTurn g t n 0 0 true (opened_first g.program).events (opened_first g.program).last (all_at_start g.program)) (sym f.steps)
      (subst (λ (u : ProgramTeller). InTurn g u g.steps 0 0 true (opened_first g.program).events (opened_first g.program).last (all_at_start g.program)) (sym f.told) (first_turn_begins g f.is.some))

  first_row : Row g t x (all_at_start g.program) f.low 0
  first_row = f.rows 0 f.is.some

  first_strand : RowIs g 0 x.setting f.low (Some f.first) first_row.due first_row.teller first_row.thread
  first_strand = row_some g t x (all_at_start g.program) f.low 0 first_row f.first f.first_is

  first_due : first_row.teller.due ≡ 0
  first_due =
      let m = first_turn in
      ap (λ (u : StrandTeller). u.due) (the_same first_row.teller m.s (sym first_row.teller_is ∙ m.there)) ∙ m.due_is

  -- the first turn stands where what instantiation makes leads
  pub first_at : (starts : Bool) (ready : List Note) (h : Held) (place : Place) → place ≡ stands ready h → InTurn g t x.steps_left 0 0 starts ready h (all_at_start g.program)
      → HeldFits g.program.source h → HeldHolds f.first.area h → NotesFit g f.low ready h → f.low ≤ length (store_held h).memory → (starts ≡ false → is_in_start h ≡ false)
      → AtPlace g t (taken_out x 0) 0 f.first starts place
  first_at starts ready h place placed m fits holds notes long behind = record {
    ts = all_at_start g.program;
    low = f.low;
    is = program_stays g t x (all_at_start g.program) 0 f.is;
    there = f.is.some;
    rows = others_stay g t x (all_at_start g.program) f.low 0 f.rows;
    slot = set_here x.strands 0 None (Some f.first) f.first_is;
    teller = first_row.teller;
    teller_is = first_row.teller_is;
    due = first_row.due_is ∙ ap (λ (o : Option ℕ). Some o) first_strand.1;
    strand = first_strand.0;
    ready = ready;
    held = h;
    place_is = placed;
    turn = subst (λ n. InTurn g t x.steps_left 0 n starts ready h (all_at_start g.program)) (sym first_due) m;
    fits = fits;
    holds = holds;
    notes = notes;
    long = long;
    behind_start = behind;
  }

  -- behind a start function that there isn't
  turn_behind : (ready : List Note) (h : Held) → IsNoTrap (last_event (ready ++ [])) → AreWaiting (ready ++ []) h → InTurn g t x.steps_left 0 0 true ready h (all_at_start g.program)
      → InTurn g t x.steps_left 0 0 false ready h (all_at_start g.program)
  turn_behind ready h no_trap wait m =
      let z : x.steps_left - 0 ≡ x.steps_left = omega arith in
      subst (λ (us : List Note). InTurn g t x.steps_left 0 0 false us h (all_at_start g.program)) (append-nil ready)
      (subst (λ n. InTurn g t n 0 0 false (ready ++ []) h (all_at_start g.program)) z
      (turn_moves g t x.steps_left 0 0 true false ready [] h h (all_at_start g.program) 0 m (either_way false no_trap (λ more. stays)) (omega arith) wait))

done_no_trap : (s : Store) (es : List Entry) → IsNoTrap (last_event (done_notes s es ++ []))
done_no_trap s [] = tt
done_no_trap s (e ∷ es) = tt

done_waiting : (s : Store) (l : B.Left) (es : List Entry) → AreWaiting (done_notes s es ++ []) (held_on s l es)
done_waiting s l [] = (refl, refl, refl, refl)
done_waiting s l (e ∷ es) = tt

on_starts : (s : Store) (l : B.Left) (es : List Entry) → is_in_start (held_on s l es) ≡ false
on_starts s l [] = refl
on_starts s l (e ∷ es) = refl

-- Without a start function the first strand's turn begins at its entries.
pub opens_first : (g : StrandsInWorld) (t : ProgramTeller) (x : Stock) (instance : Instance) (s : Strand) → OpensAt g t x instance → x.source.start ≡ None
    → slice_get x.strands 0 ≡ Some (Some s) → TurnAt g t (taken_out x 0) instance 0 s false
opens_first g t x instance s o none e = subst (λ (u : Strand). TurnAt g t (taken_out x 0) instance 0 u false) same (record {
  at = first_at g t x f false ready h (place_of g instance f.first) placed
      (turn_behind g t x f ready h (done_no_trap st l.entries) (done_waiting st l l.entries) (subst (λ (r : Ran Held Note). InTurn g t x.steps_left 0 0 true r.events r.last (all_at_start g.program)) opened (first_turn g t x f)))
      (subst (λ (r : Ran Held Note). HeldFits g.program.source r.last) begun f.fits) (subst (λ (r : Ran Held Note). HeldHolds f.first.area r.last) begun f.holds) notes
      long (λ q. on_starts st l l.entries);
  code = o.code ∙ sym f.is.source;
  fits = o.fits;
})
  where
    f : FreshAt g t x
    f = o.fresh

    st : Store
    st = store_in instance

    l : B.Left
    l = left_of f.first.left

    ready : List Note
    ready = done_notes st l.entries

    h : Held
    h = held_on st l l.entries

    same : f.first ≡ s
    same = the_same f.first s (the_same (Some f.first) (Some s) (sym f.first_is ∙ e))

    to_done : held_begun x.source.start l (opens st) ≡ record { events = ready; last = h }
    to_done = ap (λ (o : Option ℕ). held_begun o l (opens st)) none

    opened : opened_first g.program ≡ record { events = ready; last = h }
    opened = opened_is g t x f (opens st) o.store ∙ to_done

    begun : held_begun g.program.source.start l (opening g.program.source g.program.globals) ≡ record { events = ready; last = h }
    begun = begun_is g t x f (opens st) o.store ∙ to_done

    placed : place_of g instance f.first ≡ stands ready h
    placed = ap (place_in (exports_of g.program.source) f.first.area l st (waits_in instance)) f.stage

    on_store : (es : List Entry) → store_held (held_on st l es) ≡ st
    on_store [] = refl
    on_store (y ∷ es) = refl

    long : f.low ≤ length (store_held h).memory
    long = subst (λ (z : Store). f.low ≤ length z.memory) (sym (on_store l.entries)) (f.long st o.store)

    notes : NotesFit g f.low ready h
    notes = by l.entries (f.long st o.store)
      where
        by : (es : List Entry) → f.low ≤ length st.memory → NotesFit g f.low (done_notes st es) (held_on st l es)
        by [] le = (o.fits, le, (λ q. (refl, refl)), tt)
        by (y ∷ es) le = tt

-- Else at the start function.
pub opens_start : (g : StrandsInWorld) (t : ProgramTeller) (x : Stock) (instance : Instance) (s : Strand) (func : ℕ) → OpensAt g t x instance → x.source.start ≡ Some func
    → slice_get x.strands 0 ≡ Some (Some s) → StartsAt g t (taken_out x 0) instance s func
opens_start g t x instance s func o there e = subst (λ (u : Strand). StartsAt g t (taken_out x 0) instance u func) same (record {
  at = first_at g t x f true [] h (stands [] h) refl
      (subst (λ (r : Ran Held Note). InTurn g t x.steps_left 0 0 true r.events r.last (all_at_start g.program)) opened (first_turn g t x f))
      (subst (λ (r : Ran Held Note). HeldFits g.program.source r.last) begun f.fits) (subst (λ (r : Ran Held Note). HeldHolds f.first.area r.last) begun f.holds) tt
      (f.long st o.store) (λ q. true_false q);
  stage = f.stage;
  code = o.code ∙ sym f.is.source;
  fits = o.fits;
})
  where
    f : FreshAt g t x
    f = o.fresh

    st : Store
    st = store_in instance

    l : B.Left
    l = left_of f.first.left

    h : Held
    h = starting_at func st l

    same : f.first ≡ s
    same = the_same f.first s (the_same (Some f.first) (Some s) (sym f.first_is ∙ e))

    to_start : held_begun x.source.start l (opens st) ≡ record { events = []; last = h }
    to_start = ap (λ (o : Option ℕ). held_begun o l (opens st)) there

    opened : opened_first g.program ≡ record { events = []; last = h }
    opened = opened_is g t x f (opens st) o.store ∙ to_start

    begun : held_begun g.program.source.start l (opening g.program.source g.program.globals) ≡ record { events = []; last = h }
    begun = begun_is g t x f (opens st) o.store ∙ to_start

-- Where instantiation fails that is the program's end, which the first strand tells.
pub fails_first : (g : StrandsInWorld) (t : ProgramTeller) (x : Stock) (how : End) (answers : _) → FreshAt g t x → opening x.source x.globals ≡ fails_as how → ends_strand true how ≡ false
    → (s : StrandTeller) → slice_get t.strands 0 ≡ Some s
    → EndedAt g (told_on t 0 (having_told s (note (ended how) no_store ∷ []) [] answers) (note (ended how) no_store ∷ []) true)
fails_first g t x how answers f e all s there = record {
  whole = program_ends g t x.steps_left 0 0 true true ready (over no_store) (all_at_start g.program) s [] answers [] (note (ended how) no_store) 0 how no_store
      (subst (λ (r : Ran Held Note). InTurn g t x.steps_left 0 0 true r.events r.last (all_at_start g.program)) (opened_is g t x f (fails_as how) e) (first_turn g t x f)) there
      (as_before refl (λ more. stays)) (omega arith) refl refl all;
  ended = refl;
  few_steps = f.is.few_steps;
  some = f.is.some;
  few = f.is.few;
}
  where
    ready : List Note
    ready = note (ended how) no_store ∷ []

-- ---- the strand that is due first, as its program finds it

module _ (g : StrandsInWorld) (t : ProgramTeller) (x : Stock) (instance : Instance) (k due : ℕ) (b : BetweenAt g t x instance) (l : IsLeast x.dues k due) where
  least_there : k < length g.program.strands
  least_there = let a = get_lt x.dues k (Some due) l.there in let z = b.is.dues in omega (arith, a, z)

  pub least_lt : k < length x.strands
  least_lt = let a = least_there in let z = b.is.slots in omega (arith, a, z)

  pub least_small : k < 4294967296
  least_small = let a = least_there in let z = b.is.few in omega (arith, a, z)

  pub least_some : slice_get x.strands k ≡ Some None → ⊥
  least_some e = by r.row
    where
      r : Row g t x b.ts b.low k
      r = b.rows k least_there

      none : r.slot ≡ None
      none = the_same r.slot None (sym r.slot_is ∙ e)

      by : RowIs g k x.setting b.low r.slot r.due r.teller r.thread → ⊥
      by row =
          let gone = subst (λ (o : Option Strand). RowIs g k x.setting b.low o r.due r.teller r.thread) none row in
          none_is due (sym gone.1 ∙ the_same r.due (Some due) (sym r.due_is ∙ l.there))

-- ---- instantiation that fails

-- That is told by the first strand, and is all.
pub tells_failed : (g : StrandsInWorld) (t : ProgramTeller) (x x' : Program) (told : StrandEvent) (how : End) (ds : List Device) (faults : List ℕ) → opening (module_of x.valid.now) x.globals.items ≡ fails_as how
    → ends_strand true how ≡ false → FreshAt g t (stock_of x) → (told.strand ≡ 0) × (event_of told.event ≡ ended how) → x' ≡ record x { state = Failed } → TellsEvent g t told ds faults ds faults x'
tells_failed g t x x' told how ds faults fails all f event state =
    subst (λ (y : Program). Tells y told.strand (event_of told.event)) (sym state)
    (subst (λ n. Tells failed n (event_of told.event)) (sym event.0) (subst (Tells failed 0) (sym event.1) clean))
  where
    failed : Program
    failed = record x { state = Failed }

    Tells : Program → ℕ → Event → Type 0
    Tells y n e = TellsStrandNote (λ u. FollowsStrands g u y) (memory_of y) g t n e ds faults ds faults

    r : Row g t (stock_of x) (all_at_start g.program) f.low 0
    r = f.rows 0 f.is.some

    clean : Tells failed 0 (ended how)
    clean = record {
      s = r.teller;
      there = r.teller_is;
      unfinished = (row_some g t (stock_of x) (all_at_start g.program) f.low 0 r f.first f.first_is).0.unfinished;
      turn = (first_turn g t (stock_of x) f).turn;
      note = note (ended how) no_store;
      event_is = refl;
      memory_is = refl;
      met = [];
      answers = r.teller.answers;
      takes = (refl, refl);
      is_last = true;
      follow = fails_first g t (stock_of x) how r.teller.answers f fails all r.teller r.teller_is;
    }

-- there is a first strand
pub some_strand : (g : StrandsInWorld) (t : ProgramTeller) (x : Stock) (instance : Instance) → OpensAt g t x instance → 0 < length x.strands
some_strand g t x instance o = let a = o.fresh.is.some in let z = o.fresh.is.slots in omega (arith, a, z)
