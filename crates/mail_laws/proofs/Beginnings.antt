-- What a program tells from where it begins.
use Rattle.std.proofs.Common.{arith, ◌≡◌, ◌<◌, ◌-◌, ℕ, suc, List, [], ◌∷◌, ◌++◌, length, map, Option, Some, None, Bool, true, false, refl, sym, ap, ◌∙◌, subst, append_assoc, append-nil, slice_get}
use Rattle.std.specs.Prelude.{is_none, nat_lt, ◌*◌, replicate}
use Rattle.wa_types.specs.declared.values.Value.{Value}
use Rattle.wa_types.specs.declared.values.Value.TheVariants as V
use Rattle.wa_types.specs.Memory.{page_size}
use Rattle.wa_types.specs.Syntax.{Module}
use Rattle.wa_types.specs.Modules.{all_memories, all_tables}
use Rattle.wa_model.specs.declared.events.End.{End}
use Rattle.wa_model.specs.declared.events.End.TheVariants.{Done}
use Rattle.wa_model.specs.Machine.{Ran, run_with, still}
use Rattle.wa_model.specs.Outside.{ended}
use Rattle.wa_model.specs.Store.{Store}
use Rattle.wa_model.specs.Plan.{Entry, Outcome}
use Rattle.wa_model.specs.Instantiation.{elem_piece, byte_piece, Piece, bytes_checked, elems_checked, first_out, opened_by, all_values, least_of, Opening, fails_as, opens, opening}
use Rattle.wa_model.specs.Blocking.{Note, note, all_left, no_store, done_notes}
use Rattle.wa_model.specs.Protocol.{Held, free, starting as held_starting, over, protocol, exports_of, held_begun, held_continued, held_on}
use Rattle.world_model.specs.World.{Halt, Origin, Program, at_pause, at_start, gone, halted, halted_in, protocol_story, story_from, told_by, unless_over}
use Rattle.world_laws.proofs.GoingOn.{none_to_come}
use Rattle.host_laws.specs.Stretch.{meeting as with_more}
use Rattle.host_laws.specs.Stories.{steps_from}
use Rattle.mail_laws.specs.Stalling.{is_stalled}
use Rattle.mail_laws.specs.Mailboxes.{mailed}
use Rattle.mail_laws.specs.MailWorld.{HeldStory, begins_over, over_at, pauses, to_end, to_wait}
use Rattle.mail_laws.specs.Told.{Amid, pending, starting}
use Rattle.mail_laws.proofs.OpenMoves.{IsTame, NotOver}
use Rattle.mail_laws.proofs.Tales.{tale_over}
use Rattle.mail_laws.proofs.WholeTurns.{some_note}
use Rattle.mail_laws.proofs.CallsTold.{Posted}
use Rattle.mail_laws.proofs.TurnsTold.{Behind, Knows, Turned, is_over, is_parked, is_paused, it_stands, only_ends, still_tells, turn_from}

opens_calm : Opening → Type 0
opens_calm (fails_as e) = is_stalled e ≡ false
opens_calm (opens s) = Unit {0}

abbrev none : Option ℕ
none = None

opening_calm : (m : Module) (imports : List Value) → opens_calm (opening m imports)
unfolding opens_calm
opening_calm m imports = by (nat_lt 1024 (least_of (all_memories m))) (nat_lt 100000 (least_of (all_tables m)))
  where
    bytes : (globals : List Value) (memory : List ℕ) (table : List (Option ℕ)) (elems : List (Piece (Option ℕ))) (bs : List (Piece ℕ)) (o : Option ℕ) → opens_calm (bytes_checked globals memory table elems bs o)
    bytes globals memory table elems bs (Some i) = refl
    bytes globals memory table elems bs None = tt

    elements : (globals : List Value) (memory : List ℕ) (table : List (Option ℕ)) (elems : List (Piece (Option ℕ))) (bs : List (Piece ℕ)) (o : Option ℕ) → opens_calm (elems_checked globals memory table elems bs o)
    elements globals memory table elems bs (Some i) = refl
    elements globals memory table elems bs None = bytes globals memory table elems bs (first_out (length memory) 0 bs)

    by : (a b : Bool) → opens_calm (opened_by m (all_values imports m) (least_of (all_memories m)) (least_of (all_tables m)) a b)
    by true b = refl
    by false true = refl
    by false false =
        elements (all_values imports m) (replicate (least_of (all_memories m) * page_size) 0) (replicate (least_of (all_tables m)) None) (map (elem_piece (all_values imports m)) m.elems)
        (map (byte_piece (all_values imports m)) m.segments) (first_out (length (replicate (least_of (all_tables m)) none)) 0 (map (elem_piece (all_values imports m)) m.elems))

pub fails_calm : (m : Module) (imports : List Value) (e : End) → opening m imports ≡ fails_as e → is_stalled e ≡ false
unfolding opens_calm
fails_calm m imports e eo = subst opens_calm eo (opening_calm m imports)

-- what a program tells whose run is told from such a beginning
module _ (w : Program) (steps : ℕ) (begins : List Outcome → Ran Held Note) (told : (more : List Outcome) → protocol_story w more ≡ told_by w.steps (held_continued w.source w.plan steps (begins more))) where
  tells_from : (r : List Outcome → Ran Held Note) → ((more : List Outcome) → begins more ≡ r more) → (more : List Outcome)
      → protocol_story w ([] ++ more) ≡ (r more).events ++ still_tells w steps steps (r more).last
  tells_from r same more =
      told more
      ∙ ap (λ (q : Ran Held Note). (q.events ++ (run_with (protocol w.source (exports_of w.source) w.plan) steps steps q.last).events)
      ++ unless_over w.steps (run_with (protocol w.source (exports_of w.source) w.plan) steps steps q.last).last) (same more)
      ∙ append_assoc (r more).events (run_with (protocol w.source (exports_of w.source) w.plan) steps steps (r more).last).events
      (unless_over w.steps (run_with (protocol w.source (exports_of w.source) w.plan) steps steps (r more).last).last)

  ends_at : (x : Note) (s : Store) → IsTame x.event → ((more : List Outcome) → begins more ≡ record { events = x ∷ []; last = over s }) → Knows w [] [] steps
  ends_at x s e same =
      only_ends [] x tt e
      (λ more. tells_from (λ (more : List Outcome). record { events = x ∷ []; last = over s }) same more
      ∙ ap (λ (l : List Note). x ∷ l) (tale_over w.source (exports_of w.source) w.plan w.steps steps steps s))

  stands_at : (h : Held) → NotOver h → ((more : List Outcome) → begins more ≡ record { events = []; last = with_more more h }) → Knows w [] [] steps
  stands_at h no_h same =
      it_stands (record { h = h; n = steps; not_over = no_h; story = λ more. tells_from (λ (more : List Outcome). record { events = []; last = with_more more h }) same more })

-- a program at its start
start_at : (w : Program) → w.origin ≡ at_start → Knows w [] [] w.steps
start_at w eo = by_opening w.source.start (opening w.source w.plan.globals) refl refl
  where
    told : (more : List Outcome) → protocol_story w more ≡ told_by w.steps (held_continued w.source w.plan w.steps (held_begun w.source.start (all_left w.plan more) (opening w.source w.plan.globals)))
    told more = ap (story_from w more) eo

    ends_here : (x : Note) (s : Store) → IsTame x.event
        → ((more : List Outcome) → held_begun w.source.start (all_left w.plan more) (opening w.source w.plan.globals) ≡ record { events = x ∷ []; last = over s }) → Knows w [] [] w.steps
    ends_here = ends_at w w.steps (λ (more : List Outcome). held_begun w.source.start (all_left w.plan more) (opening w.source w.plan.globals)) told

    stands_here : (h : Held) → NotOver h
        → ((more : List Outcome) → held_begun w.source.start (all_left w.plan more) (opening w.source w.plan.globals) ≡ record { events = []; last = with_more more h }) → Knows w [] [] w.steps
    stands_here = stands_at w w.steps (λ (more : List Outcome). held_begun w.source.start (all_left w.plan more) (opening w.source w.plan.globals)) told

    by_opening : (start : Option ℕ) (o : Opening) → w.source.start ≡ start → opening w.source w.plan.globals ≡ o → Knows w [] [] w.steps
    by_opening start (fails_as e) es eo = ends_here (note (ended e) no_store) no_store (refl, fails_calm w.source w.plan.globals e eo) (λ more. ap (held_begun w.source.start (all_left w.plan more)) eo)
    by_opening (Some f) (opens s) es eo =
        stands_here (held_starting f s (all_left w.plan [])) tt (λ more k. held_begun (es k) (all_left w.plan more) (eo k))
    by_opening None (opens s) es eo = by_entries w.plan.entries refl
      where
        begun_is : (more : List Outcome) → held_begun w.source.start (all_left w.plan more) (opening w.source w.plan.globals) ≡ record { events = done_notes s w.plan.entries; last = held_on s (all_left w.plan more) w.plan.entries }
        begun_is more = λ k. held_begun (es k) (all_left w.plan more) (eo k)

        by_entries : (entries : List Entry) → w.plan.entries ≡ entries → Knows w [] [] w.steps
        by_entries [] e = ends_here (note (ended Done) s) s (refl, refl) (λ more. begun_is more ∙ (λ k. record { events = done_notes s (e k); last = held_on s (all_left w.plan more) (e k) }))
        by_entries (x ∷ entries) e =
            stands_here (free s (all_left w.plan [])) tt (λ more. begun_is more ∙ (λ k. record { events = done_notes s (e k); last = held_on s (all_left w.plan more) (e k) }))

-- one at a pause of this entry
start_there : (w : Program) (x : Halt) (e : Entry) → w.origin ≡ at_pause x → slice_get w.plan.entries x.entry ≡ Some e → Knows w [] [] (w.steps - x.used)
start_there w x e eo there =
    stands_at w (w.steps - x.used) (λ (more : List Outcome). still (halted w.source w.plan x more)) (λ more. ap (story_from w more) eo)
    (halted_in w.source w.plan x [] (Some e)) tt (λ more. ap (λ (o : Option Entry). still (halted_in w.source w.plan x more o)) there)

-- more than how many moves it has
abbrev pub start_size : Program → ℕ
start_size w = suc (steps_from w.steps w.origin)

-- what it tells, unless it is over there
pub start_knows : (w : Program) → begins_over w ≡ false → Knows w [] [] (steps_from w.steps w.origin)
start_knows w going = by w.origin refl going
  where
    by : (o : Origin) → w.origin ≡ o → over_at w.plan.entries o ≡ false → Knows w [] [] (steps_from w.steps w.origin)
    by at_start eo f = subst (λ (z : Origin). Knows w [] [] (steps_from w.steps z)) (sym eo) (start_at w eo)
    by gone eo f = absurd cc
    by (at_pause x) eo f = at_entry (slice_get w.plan.entries x.entry) refl f
      where
        at_entry : (e : Option Entry) → slice_get w.plan.entries x.entry ≡ e → is_none e ≡ false → Knows w [] [] (steps_from w.steps w.origin)
        at_entry None ee g = absurd cc
        at_entry (Some e) ee g = subst (λ (z : Origin). Knows w [] [] (steps_from w.steps z)) (sym eo) (start_there w x e eo ee)

-- a program that is over there has nothing to tell
pub over_tells : (w : Program) → begins_over w ≡ true → (os : List Outcome) → protocol_story w os ≡ []
over_tells w done os = by w.origin refl done
  where
    over_tale : (n : ℕ) (s : Store) → told_by w.steps (held_continued w.source w.plan n (still (over s))) ≡ []
    over_tale n s = tale_over w.source (exports_of w.source) w.plan w.steps n n s

    by : (o : Origin) → w.origin ≡ o → over_at w.plan.entries o ≡ true → protocol_story w os ≡ []
    by at_start eo f = absurd cc
    by gone eo f = ap (story_from w os) eo
    by (at_pause x) eo f = ap (story_from w os) eo ∙ at_entry (slice_get w.plan.entries x.entry) refl f
      where
        at_entry : (e : Option Entry) → slice_get w.plan.entries x.entry ≡ e → is_none e ≡ true
            → told_by w.steps (held_continued w.source w.plan (w.steps - x.used) (still (halted w.source w.plan x os))) ≡ []
        at_entry (Some e) ee g = absurd cc
        at_entry None ee g =
            ap (λ (o : Option Entry). told_by w.steps (held_continued w.source w.plan (w.steps - x.used) (still (halted_in w.source w.plan x os o)))) ee
            ∙ over_tale (w.steps - x.used) x.store

pub over_notes : (w : Program) (os : List Outcome) (notes : List Note) → HeldStory w os notes → begins_over w ≡ true → notes ≡ []
over_notes w os notes (to_end e) done = e ∙ over_tells w done os
over_notes w os [] (to_wait rest e p) done = refl
over_notes w os (x ∷ notes) (to_wait rest e p) done = let no_way : [] ≡ x ∷ (notes ++ rest) = sym (over_tells w done os) ∙ e in cc

-- an event that has begun, where there are no devices
abbrev nothing_begun : Amid
nothing_begun = record { devices = []; boxes = []; settled = []; receive = None }

-- a program that isn't over tells something
some_story : (w : Program) → begins_over w ≡ false → (os : List Outcome) × (ys : List Note) × (protocol_story w os ≡ ys) × (0 < length ys)
some_story w going = of_turn (turn_from w 0 (starting w) [] nothing_begun (steps_from w.steps w.origin) refl posted (start_knows w going))
  where
    posted : Posted [] nothing_begun
    posted = record { once = λ j. omega arith; waits = λ j some. let never : ⊥ = omega (arith, some) in absurd never; small = tt }

    of_turn : Turned w 0 (starting w) [] nothing_begun (steps_from w.steps w.origin)
        → (os : List Outcome) × (ys : List Note) × (protocol_story w os ≡ ys) × (0 < length ys)
    of_turn tu = by tu.after
      where
        by : Behind w 0 (starting w) [] nothing_begun (steps_from w.steps w.origin) tu.turn tu.met tu.behind.receive
            → (os : List Outcome) × (ys : List Note) × (protocol_story w os ≡ ys) × (0 < length ys)
        by (is_over e value small more story any) =
            (tu.met ++ pending value tu.behind.receive ++ more, tu.turn, story, subst (λ (l : List Note). 0 < length l) (append-nil tu.turn) (some_note tu.turn [] tu.whole))
        by (is_paused e quiet size lt s) =
            (tu.met ++ [], tu.turn ++ still_tells w size s.n (with_more [] s.h), s.story [], some_note tu.turn (still_tells w size s.n (with_more [] s.h)) tu.whole)
        by (is_parked e r some size lt f) =
            let s = f 0 in (
              (tu.met ++ mailed (Some (V.I32 0)) 1 ∷ []) ++ [],
              tu.turn ++ still_tells w size s.n (with_more [] s.h),
              s.story [],
              some_note tu.turn (still_tells w size s.n (with_more [] s.h)) tu.whole,
            )

-- whatever its calls meet
pub none_empty : (w : Program) (os : List Outcome) → begins_over w ≡ false → protocol_story w os ≡ [] → ⊥
none_empty w os going none =
    let s = some_story w going in
    let z : length s.1 ≡ 0 = ap length (none_to_come w [] os s.0 [] [] s.1 refl none s.2 refl) in
    let h = s.3 in
    omega (arith, z, h)

-- where a program that isn't over begins it has notes to come
pub begins_some : (w : Program) (os : List Outcome) (notes : List Note) → HeldStory w os notes → begins_over w ≡ false → notes ≡ [] → ⊥
begins_some w os notes (to_end e) going none = none_empty w os going (sym e ∙ none)
begins_some w os notes (to_wait rest e p) going none = let no_way : false ≡ true = sym (ap pauses none) ∙ p in cc
