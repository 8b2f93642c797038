-- Where a run of a rewritten module stands at a pause, its original's run has one, and the store holds it.
use Rattle.std.proofs.Common.{arith, ◌≡◌, ◌≤◌, ◌+◌, ◌-◌, ◌⊎◌, inl, inr, ℕ, zero, suc, List, [], ◌∷◌, ◌++◌, length, Option, Some, None, Bool, true, false, All, refl, sym, ap, ◌∙◌, subst, ⊎_elim, append-nil, length-append}
use Rattle.std.specs.Prelude.{slice_get}
use Rattle.std.proofs.lemmas.Bool.{cases_lt}
use Rattle.std.proofs.lemmas.List.{length-map}
use Rattle.wa_types.specs.declared.values.Value.{Value}
use Rattle.wa_types.specs.declared.values.Value.TheVariants as V
use Rattle.wa_types.specs.Base.{Base}
use Rattle.wa_types.specs.Frames.{Fit, Room, Suspended}
use Rattle.wa_types.specs.Pausing.{Settings}
use Rattle.wa_types.specs.Syntax.{Module}
use Rattle.wa_model.specs.Behaves.{BehavesOn, expected_notes, pause_stacks}
use Rattle.wa_model.specs.Blocking.{Blocking, Left, Note, State, all_left, begun, blocking, call_note, done_notes, halts, no_store, note, on_to}
use Rattle.wa_model.specs.Expected.{Expected, pause_note}
use Rattle.run_theory.specs.Shown.{shown_within as shown}
use Rattle.wa_model.specs.Instantiation.{Opening, fails_as, opening, opens}
use Rattle.wa_model.specs.Machine.{IsRun, Leads, Ran, Turn, after, run, still}
use Rattle.wa_model.specs.Outside.{Answer, ended, paused}
use Rattle.wa_model.specs.declared.events.End.TheVariants.{Done}
use Rattle.wa_model.specs.Plan.{Entry, Outcome, Plan}
use Rattle.wa_model.specs.Protocol.{Held, Protocol, call_again, calling, exports_of, held_begun, held_on, over, protocol, rewinds}
use Rattle.wa_model.specs.Store.{Store}
use Rattle.run_theory.specs.DeterminedRuns.{held_start_of, start_of}
use Rattle.run_theory.proofs.Runs.{leads_beyond, leads_on, leads_one, leads_run, leads_stopped, no_move, run_is_run}
use Rattle.run_laws.proofs.OwnEnds.{Own}
use Rattle.image_laws.specs.Image.{ComesThere, ComesToPause, Pause, held_at_pause, held_there, left_there, stack_there}
use Rattle.joined_worlds.proofs.Arrivals.{arrives, at_rewind}
use Rattle.joined_worlds.proofs.FoundPauses.{AtCall, Found, found}
use Rattle.joined_worlds.proofs.ShownRuns.{ShownPause, shown_pause}

-- ---- runs that come anywhere begin with no note

on_begins : (s : Store) (l : Left) (es : List Entry) → (done_notes s es ≡ []) ⊎ (held_on s l es ≡ over s)
on_begins s l [] = inr refl
on_begins s l (e ∷ es) = inl refl

held_begins : (start : Option ℕ) (l : Left) (o : Opening) → ((held_begun start l o).events ≡ []) ⊎ ((s : Store) × ((held_begun start l o).last ≡ over s))
held_begins start l (fails_as e) = inr (no_store, refl)
held_begins None l (opens s) = ⊎_elim (λ e. inl e) (λ e. inr (s, e)) (on_begins s l l.entries)
held_begins (Some f) l (opens s) = inl refl

on_not_rewind : (s : Store) (l : Left) (es : List Entry) → at_rewind (held_on s l es) ≡ false
on_not_rewind s l [] = refl
on_not_rewind s l (e ∷ es) = refl

not_rewind : (start : Option ℕ) (l : Left) (o : Opening) → at_rewind (held_begun start l o).last ≡ false
not_rewind start l (fails_as e) = refl
not_rewind None l (opens s) = on_not_rewind s l l.entries
not_rewind (Some f) l (opens s) = refl

done_begins : (s : Store) (l : Left) (es : List Entry) → (done_notes s es ≡ []) ⊎ (on_to s l es ≡ halts s)
done_begins s l [] = inr refl
done_begins s l (e ∷ es) = inl refl

run_begins : (start : Option ℕ) (l : Left) (o : Opening) → ((begun start l o).events ≡ []) ⊎ ((s : Store) × ((begun start l o).last ≡ halts s))
run_begins start l (fails_as e) = inr (no_store, refl)
run_begins None l (opens s) = ⊎_elim (λ e. inl e) (λ e. inr (s, e)) (done_begins s l l.entries)
run_begins (Some f) l (opens s) = inl refl

apart : {A : Type 0} → true ≡ false → A
apart e = cc

-- no note before the first move tells a pause
done_plain : (s : Store) (es : List Entry) (i : ℕ) (x : Note) → slice_get (done_notes s es) i ≡ Some x → x.pause ≡ None
done_plain s [] zero x at = let same : note (ended Done) s ≡ x = cc in ap (λ (z : Note). z.pause) (sym same)
done_plain s [] (suc i) x at = cc
done_plain s (e ∷ es) i x at = cc

begun_plain : (start : Option ℕ) (l : Left) (o : Opening) (i : ℕ) (x : Note) → slice_get (begun start l o).events i ≡ Some x → x.pause ≡ None
begun_plain start l (fails_as e) zero x at = let same : note (ended e) no_store ≡ x = cc in ap (λ (z : Note). z.pause) (sym same)
begun_plain start l (fails_as e) (suc i) x at = cc
begun_plain None l (opens s) i x at = done_plain s l.entries i x at
begun_plain (Some f) l (opens s) i x at = cc

none_some : {A : Type 0} (n : ℕ) → None ≡ Some n → A
none_some n e = cc

-- a pause is told by where the run stands
same_entry : (x : ℕ) (args : List Value) (e e' : Entry) (i i' : ℕ) (a a' : Answer) (t t' : Store) (l l' : Left)
    → calling (rewinds e i a t) t x args call_again l ≡ calling (rewinds e' i' a' t') t' x args call_again l' → (e ≡ e') × (i ≡ i') × (a ≡ a') × (t ≡ t') × (l ≡ l')
same_entry x args e e' i i' a a' t t' l l' h =
    let p1 : e ≡ e' = cc in let p2 : i ≡ i' = cc in let p3 : a ≡ a' = cc in let p4 : t ≡ t' = cc in let p5 : l ≡ l' = cc in (p1, p2, p3, p4, p5)

-- lists that are split by one note at one place
same_split : (xs ys xs' ys' : List Note) (x x' : Note) → xs ++ x ∷ ys ≡ xs' ++ x' ∷ ys' → length xs ≡ length xs' → (xs ≡ xs') × (x ≡ x') × (ys ≡ ys')
same_split [] ys [] ys' x x' e l = let a : x ≡ x' = cc in let b : ys ≡ ys' = cc in (refl, a, b)
same_split [] ys (z ∷ xs') ys' x x' e l = let no_way : ⊥ = omega arith in absurd no_way
same_split (z ∷ xs) ys [] ys' x x' e l = let no_way : ⊥ = omega arith in absurd no_way
same_split (z ∷ xs) ys (w ∷ xs') ys' x x' e l =
    let r = same_split xs ys xs' ys' x x' (rest e) (omega arith) in
    (ap (λ (v : Note). v ∷ xs) (head e) ∙ ap (λ (vs : List Note). w ∷ vs) r.0, r.1, r.2)
  where
    head : z ∷ (xs ++ x ∷ ys) ≡ w ∷ (xs' ++ x' ∷ ys') → z ≡ w
    head e = cc

    rest : z ∷ (xs ++ x ∷ ys) ≡ w ∷ (xs' ++ x' ∷ ys') → xs ++ x ∷ ys ≡ xs' ++ x' ∷ ys'
    rest e = cc

at_last : (xs : List Note) (x : Note) → slice_get (xs ++ x ∷ []) (length xs) ≡ Some x
at_last [] x = refl
at_last (y ∷ xs) x = at_last xs x

at_split : (xs ys : List Note) (x : Note) → slice_get (xs ++ x ∷ ys) (length xs) ≡ Some x
at_split [] ys x = refl
at_split (y ∷ xs) ys x = at_split xs ys x

none_left : (xs : List Note) → length xs ≡ 0 → xs ≡ []
none_left [] e = refl
none_left (x ∷ xs) e = let no_way : ⊥ = omega arith in absurd no_way

-- The run of p has come by these steps to a pause of its own: its original's run has come to that pause by no more steps, whose notes and
-- store are those of p.
pub record Matched (m : Module) (s : Settings) (p : Module) (plan : Plan) (which : List Bool) (os : List Outcome) (used : ℕ) (made : List Note) (e : Entry) (import : ℕ) (a : Answer) (t : Store)
    (l : Left) : Type 0 where
  pub pause : Pause
  pub there : ComesThere m s plan os pause
  pub within : pause.cost + suc pause.own_cost ≤ used
  pub comes : ComesToPause m s p plan which os pause
  pub cost_is : comes.cost ≡ used
  pub made_is : comes.made ≡ made
  pub store_is : comes.store ≡ t
  pub entry_is : pause.entry ≡ e
  pub import_is : pause.import ≡ import
  pub answer_is : pause.answer ≡ a
  pub left_is : left_there pause ≡ l
  -- before its first move nothing is told
  pub opens_none : (held_start_of p plan os).events ≡ []
  pub begins_none : (start_of m plan os).events ≡ []
  pub notes_made : length made ≡ suc (suc (length (Expected m s.policy plan.area pause.notes)))

module _ (m : Module) (s : Settings) (p : Module) (plan : Plan) (which : List Bool) (os : List Outcome) (used : ℕ) (made : List Note) (e : Entry) (import : ℕ) (a : Answer) (t : Store) (l : Left)
    (leads : Leads (protocol p (exports_of p) plan) (held_start_of p plan os).last used made (held_at_pause p plan e import a t l))
    (behaves : BehavesOn m s p plan os used which (expected_notes m s plan os used))
    (own : All Own (Blocking m plan os used).events)
    (pauses : (x : Pause) → ComesThere m s plan os x → x.cost + suc x.own_cost ≤ used → ComesToPause m s p plan which os x) where
  abbrev room : List Suspended → ℕ
  room = Room m s.policy

  abbrev fit : List Suspended → ℕ
  fit = λ stack. Fit m s.policy stack plan.area.len

  abbrev pr : Held → Turn Held Note
  pr = protocol p (exports_of p) plan

  abbrev bl : State → Turn State Note
  bl = blocking (Base m) plan

  abbrev h0 : Ran Held Note
  h0 = held_start_of p plan os

  abbrev a0 : Ran State Note
  a0 = start_of m plan os

  abbrev halt : Held
  halt = held_at_pause p plan e import a t l

  -- ---- what p has told

  opens_none : h0.events ≡ []
  opens_none = ⊎_elim (λ z. z) (λ z. absurd (from_over z.0 z.1)) (held_begins p.start (all_left plan os) (opening p plan.globals))
    where
      from_over : (o : Store) → h0.last ≡ over o → ⊥
      from_over o z =
          let w = leads_stopped Held Note pr h0.last halt used made (ap pr z) leads in
          let bad : over o ≡ halt = sym z ∙ w.1 in
          cc

  -- the last note is that of the pause
  last_note : (front : List Note) × (ticks used : ℕ) × (at : Store) × (made ≡ front ++ note (paused ticks used) at ∷ [])
  last_note =
      ⊎_elim (λ z. apart (sym (ap at_rewind z.1) ∙ not_rewind p.start (all_left plan os) (opening p plan.globals)))
      (λ z. z) (arrives p (exports_of p) plan h0.last halt used made refl leads)

  pub runs_so : Protocol p plan os used ≡ record { events = made; last = halt }
  runs_so =
      let z : used ≡ used + 0 = omega arith in
      ap (λ (n : ℕ). after h0.events (run pr n h0.last)) z
      ∙ ap (after h0.events) (leads_run Held Note pr h0.last halt used 0 made leads)
      ∙ ap (λ (es : List Note). after es (after made (still halt))) opens_none
      ∙ ap (λ (es : List Note). record { events = es; last = halt }) (append-nil made)

  -- ---- the pause of the original

  abbrev blocked : List Note
  blocked = (Blocking m plan os used).events

  told_pause : ShownPause room fit plan.area.len blocked (length last_note.0) last_note.2
  told_pause =
      let w = last_note in
      let at : slice_get (Protocol p plan os used).events (length w.0) ≡ Some (note (paused w.1 w.2) w.3) =
      ap (λ (r : Ran Held Note). slice_get r.events (length w.0)) runs_so ∙ ap (λ (es : List Note). slice_get es (length w.0)) w.4 ∙ at_last w.0 (note (paused w.1 w.2) w.3) in
      let z = behaves.notes (length w.0) (note (paused w.1 w.2) w.3) at in
      shown_pause room fit plan.area.len blocked (length w.0) z.0 w.2 own z.1 (w.1, z.2.event)

  abbrev ran : Ran State Note
  ran = run bl used a0.last

  begins_none : a0.events ≡ []
  begins_none = ⊎_elim (λ z. z) (λ z. absurd (from_halt z.0 z.1)) (run_begins (Base m).start (all_left plan os) (opening (Base m) plan.globals))
    where
      from_halt : (o : Store) → a0.last ≡ halts o → ⊥
      from_halt o z =
          let t = told_pause in
          let none : ran ≡ still a0.last = no_move State Note bl used a0.last (ap bl z) in
          let all : a0.events ≡ t.before ++ t.call ∷ t.behind =
          sym (append-nil a0.events) ∙ ap (λ (r : Ran State Note). a0.events ++ r.events) (sym none) ∙ t.split in
          let at : slice_get a0.events (length t.before) ≡ Some t.call = ap (λ (es : List Note). slice_get es (length t.before)) all ∙ at_split t.before t.behind t.call in
          none_some t.ticks (sym (begun_plain (Base m).start (all_left plan os) (opening (Base m) plan.globals) (length t.before) t.call at) ∙ t.pauses)

  split_so : ran.events ≡ told_pause.before ++ told_pause.call ∷ told_pause.behind
  split_so = ap (λ (es : List Note). es ++ ran.events) (sym begins_none) ∙ told_pause.split

  is_run : IsRun bl used a0.last ran
  is_run = let le : used ≤ used = omega arith in run_is_run State Note bl used used a0.last le

  found_so : Found (Base m) plan a0.last is_run.cost ran.events (length told_pause.before) told_pause.call told_pause.ticks
  found_so =
      found (Base m) plan a0.last ran.last is_run.cost ran.events is_run.leads (length told_pause.before) told_pause.call told_pause.ticks
      (ap (λ (es : List Note). slice_get es (length told_pause.before)) split_so ∙ at_split told_pause.before told_pause.behind told_pause.call) told_pause.pauses

  before_so : told_pause.before ≡ found_so.before
  before_so =
      let f = found_so in
      (same_split told_pause.before told_pause.behind f.before f.behind told_pause.call told_pause.call (sym split_so ∙ f.split) f.place).0

  the_call : AtCall (Base m) plan found_so.at found_so.own_cost 0 told_pause.call told_pause.ticks
  the_call = found_so.call

  the_pause : Pause
  the_pause = record {
    cost = found_so.cost;
    notes = found_so.before;
    entry = the_call.entry;
    left = the_call.left;
    calls = the_call.calls;
    own_cost = found_so.own_cost;
    waits = the_call.waits;
    import = the_call.import;
    args = the_call.args;
    answer = the_call.answer;
    ticks = told_pause.ticks;
    outcomes = the_call.outcomes;
  }

  comes_there : ComesThere m s plan os the_pause
  unfolding the_pause
  comes_there = record {
    leads = subst (λ (st : State). Leads bl a0.last found_so.cost found_so.before st) the_call.stands found_so.leads;
    roomy = subst (λ (ns : List Note). All (λ (stack : List Suspended). room stack ≤ plan.area.len) (pause_stacks ns)) before_so told_pause.roomy;
    asks_there = the_call.asks_there;
    outcome = the_call.outcome;
    passes = the_call.passes;
    pauses = the_call.pauses;
    room = subst (λ (stack : List Suspended). room stack ≤ plan.area.len) (ap (λ (x : Note). x.stack) the_call.told) told_pause.room_is;
  }

  within_so : the_pause.cost + suc the_pause.own_cost ≤ used
  unfolding the_pause
  within_so = omega (arith, found_so.within, is_run.within)

  notes_so : the_pause.notes ≡ told_pause.before
  unfolding the_pause
  notes_so = sym before_so

  comes_so : ComesToPause m s p plan which os the_pause
  comes_so = pauses the_pause comes_there within_so

  notes_made : length made ≡ suc (suc (length (Expected m s.policy plan.area the_pause.notes)))
  notes_made =
      let w = last_note in
      let t = told_pause in
      let a = ap length w.4 ∙ length-append w.0 (note (paused w.1 w.2) w.3 ∷ []) in
      let b : length (shown room fit plan.area.len t.before) ≡ length (Expected m s.policy plan.area the_pause.notes) = ap (λ (ns : List Note). length (shown room fit plan.area.len ns)) (sym notes_so) in
      omega (arith, a, b, t.place)

  notes_come : length comes_so.made ≡ suc (suc (length (Expected m s.policy plan.area the_pause.notes)))
  notes_come =
      let x1 : Note = call_note the_pause.import the_pause.args the_pause.waits.store (stack_there m the_pause) (Some the_pause.ticks) in
      let x2 : Note = pause_note the_pause.ticks (Room m s.policy (stack_there m the_pause)) the_pause.waits.store (stack_there m the_pause) in
      let a = length-map comes_so.made (λ (x : Note). x.event) in
      let b = ap length comes_so.events in
      let c = length-map (Expected m s.policy plan.area the_pause.notes ++ x1 ∷ x2 ∷ []) (λ (x : Note). x.event) in
      let d = length-append (Expected m s.policy plan.area the_pause.notes) (x1 ∷ x2 ∷ []) in
      omega arith

  -- ---- both stand at one pause

  abbrev come : Held
  come = held_there p plan the_pause comes_so.store

  abbrev Same : Type 0
  Same = (comes_so.cost ≡ used) × (comes_so.made ≡ made) × (come ≡ halt)

  -- behind a pause no other comes without a note
  no_more : (u v : Held) (n : ℕ) (gs : List Note) → at_rewind v ≡ true → length gs ≡ 0 → Leads pr u n gs v → (n ≡ 0) × (u ≡ v) × (gs ≡ [])
  no_more u v n gs is none l =
      ⊎_elim (λ z. z) (λ w. let a = ap length w.4 ∙ length-append w.0 (note (paused w.1 w.2) w.3 ∷ []) in let no_way : ⊥ = omega arith in absurd no_way) (arrives p (exports_of p) plan u v n gs is l)

  same_so : Same
  same_so = ⊎_elim (λ lt. sooner (omega arith)) (λ ge. later ge) (cases_lt comes_so.cost used)
    where
      sooner : comes_so.cost ≤ used → Same
      sooner le =
          let g = leads_beyond Held Note pr h0.last come halt comes_so.cost used comes_so.made made comes_so.leads leads le in
          let z : comes_so.cost + (used - comes_so.cost) ≡ used = omega arith in
          let both = leads_on Held Note pr h0.last come halt comes_so.cost (used - comes_so.cost) comes_so.made g.0 comes_so.leads g.1 in
          let one = leads_one Held Note pr h0.last halt halt used (comes_so.made ++ g.0) made (subst (λ (n : ℕ). Leads pr h0.last n (comes_so.made ++ g.0) halt) z both) leads in
          let len = ap length one.0 in
          let app = length-append comes_so.made g.0 in
          let n1 = notes_made in
          let n2 = notes_come in
          let none : length g.0 ≡ 0 = omega arith in
          let w = no_more come halt (used - comes_so.cost) g.0 refl none g.1 in
          (omega (arith, le, w.0), sym (append-nil comes_so.made) ∙ ap (λ (es : List Note). comes_so.made ++ es) (sym w.2) ∙ one.0, w.1)

      later : used ≤ comes_so.cost → Same
      later le =
          let g = leads_beyond Held Note pr h0.last halt come used comes_so.cost made comes_so.made leads comes_so.leads le in
          let z : used + (comes_so.cost - used) ≡ comes_so.cost = omega arith in
          let both = leads_on Held Note pr h0.last halt come used (comes_so.cost - used) made g.0 leads g.1 in
          let one = leads_one Held Note pr h0.last come come comes_so.cost (made ++ g.0) comes_so.made (subst (λ (n : ℕ). Leads pr h0.last n (made ++ g.0) come) z both) comes_so.leads in
          let len = ap length one.0 in
          let app = length-append made g.0 in
          let n1 = notes_made in
          let n2 = notes_come in
          let none : length g.0 ≡ 0 = omega arith in
          let w = no_more halt come (comes_so.cost - used) g.0 refl none g.1 in
          (omega (arith, le, w.0), sym one.0 ∙ ap (λ (es : List Note). made ++ es) w.2 ∙ append-nil made, sym w.1)

  -- THE PAUSES MATCH
  pub matched : Matched m s p plan which os used made e import a t l
  matched =
      let q = same_entry (exports_of p).start_rewind (V.I32 plan.area.at ∷ []) the_pause.entry e the_pause.import import the_pause.answer a comes_so.store t (left_there the_pause) l same_so.2 in
      record {
        pause = the_pause;
        there = comes_there;
        within = within_so;
        comes = comes_so;
        cost_is = same_so.0;
        made_is = same_so.1;
        store_is = q.3;
        entry_is = q.0;
        import_is = q.1;
        answer_is = q.2;
        left_is = q.4;
        opens_none = opens_none;
        begins_none = begins_none;
        notes_made = notes_made;
      }
