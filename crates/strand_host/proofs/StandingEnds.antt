-- A strand's turn ends by a pause or an end.
use Rattle.std.proofs.Common.{arith, ◌≡◌, ◌<◌, ℕ, suc, ◌+◌, ◌-◌, List, [], ◌∷◌, ◌++◌, length, Option, Some, None, Bool, true, refl, sym, ap, ◌∙◌, subst, append-nil}
use Rattle.std.specs.Prelude.{MatchBool, slice_get, slice_set, if◌then◌else◌}
use Rattle.wa_types.specs.Syntax.{Module}
use Rattle.wa_model.specs.Machine.{CostsMore, Leads, Ran, Turn, after, goes, moves, run, stays, still, stops}
use Rattle.wa_model.specs.Outside.{AnswerLine, Event, ended, paused}
use Rattle.wa_model.specs.Plan.{Outcome, Plan}
use Rattle.wa_model.specs.Blocking.{Note, note}
use Rattle.wa_model.specs.Protocol.{Held, over, store_held}
use Rattle.wa_model.specs.Store.{Store}
use Rattle.wa_model.specs.declared.events.End.{End}
use Rattle.wa_model.specs.declared.events.End.TheVariants.{StepsSpent}
use Rattle.run_theory.proofs.Runs.{leads_run, no_move, too_dear}
use Rattle.world_model.specs.World.{ends_turn, is_end}
use Rattle.host_laws.specs.Stretch.{Stretch, is_over, meeting}
use Rattle.host_laws.proofs.Stretches.{store_meeting}
use Rattle.strand_laws.proofs.Blocks.{set_length}
use Rattle.strand_laws.proofs.WovenRuns.{end_woven, finished_stops, pause_woven, stands, stands_none, woven_at}
use Rattle.strand_laws.specs.StrandWorld.{HeldStrands, StrandsInWorld, strand_unless_over}
use Rattle.strand_laws.specs.Strands.{ProtocolStrands, StrandProgram, held_loom, outcomes_at, plan_of, strand_at}
use Rattle.strand_laws.specs.ToldStrands.{ProgramTeller, StrandTeller, having_told, met_and}
use Rattle.strand_laws.specs.Weaving.{now_behind}
use Rattle.strand_laws.specs.Woven.{Loom, Ready, Thread, Told, Woven, ends_strand, finished, going, last_event, moved, put, standing_now, told_by, weave, weave_on}
use Rattle.strand_host.proofs.StandingGoes as G
use Rattle.strand_host.proofs.StandingLed.{ending_one, last_move_leads, led_same, led_so, led_tell, lt_meeting, standing_so}
use Rattle.strand_host.proofs.StandingMoves.{HasStore, MoveSo, Settles}
use Rattle.strand_host.proofs.StandingTellers.{dues_told, now_last, put_length, within_at, within_more, within_set}
use Rattle.strand_host.proofs.StandingThreads.{length_meeting, over_meeting, put_meeting}
use Rattle.strand_host.proofs.StandingTurns.{end_due, end_end, made_costs, nil_cons, pause_due, pause_end, same_s, steps_left}
use Rattle.strand_host.proofs.StandingWoven.{Ending, true_false, woven_open}
use Rattle.strand_host.specs.Standing.{AreWaiting, DueFits, GoesSo, InTurn, IsNoTrap, Led, LedTo, ProgramEnds, StepsRunOut, StrandEnds, TurnPauses}
use Rattle.strand_host.specs.Standing.{as_before, begun_strands, behind_start, by_last_move, either_way, is_in_start, threads_meeting, unless_over}

-- ---- what waits, and what is made

one_left : (x y : Note) (ys zs : List Note) → (y ∷ ys) ++ zs ≡ x ∷ [] → (y ≡ x) × (ys ++ zs ≡ [])
one_left x y ys zs e = (head e, tail e)
  where
    head : {u v : Note} {us vs : List Note} → u ∷ us ≡ v ∷ vs → u ≡ v
    head q = cc

    tail : {u v : Note} {us vs : List Note} → u ∷ us ≡ v ∷ vs → us ≡ vs
    tail q = cc

-- a note that waits and ends a turn is an end
waits_ending : (x : Note) (xs : List Note) (h : Held) → AreWaiting (x ∷ xs) h → ends_turn x.event ≡ true → (is_end x.event ≡ true) × (is_over h ≡ true) × (x.store ≡ store_held h)
waits_ending x xs h w e =
    let v = subst (λ b. MatchBool b ((xs ≡ []) × (is_end x.event ≡ true) × (is_over h ≡ true) × (x.store ≡ store_held h)) (AreWaiting xs h)) e w in
    (v.1, v.2, v.3)

-- a pause never waits
pause_made : (ready made : List Note) (h : Held) (x : Note) (ticks taken : ℕ) → AreWaiting ready h → ready ++ made ≡ x ∷ [] → x.event ≡ paused ticks taken → made ≡ x ∷ []
pause_made [] made h x ticks taken w e q = e
pause_made (y ∷ ys) made h x ticks taken w e q =
    let is : y.event ≡ paused ticks taken = ap (λ (n : Note). n.event) (one_left x y ys made e).0 ∙ q in
    true_false (sym (waits_ending y ys h w (ap ends_turn is)).0 ∙ ap is_end is)

-- an end that is made has the store that is left
made_store : (g : StrandProgram) (k : ℕ) (h h' : Held) (n : ℕ) (es : List Note) (x : Note) (how : End) → Leads (G.next g k) h n es h' → es ≡ x ∷ [] → x.event ≡ ended how → x.store ≡ store_held h'
made_store g k h _ _ _ x how stays e q = nil_cons x [] e
made_store g k h h' n es x how (moves {t = v} {k = j} {n = m} {es = xs} {fs = ys} move rest c d) e q = by xs ys (sym d ∙ e) (G.so g k h v j xs move) rest (λ z. made_store g k v h' m ys x how rest z q)
  where
    nil_both : (us vs : List Note) → us ++ vs ≡ [] → (us ≡ []) × (vs ≡ [])
    nil_both [] vs z = (refl, z)
    nil_both (u ∷ us) vs z = let no_way : ⊥ = cc in absurd no_way

    by : (us vs : List Note) → us ++ vs ≡ x ∷ [] → MoveSo (is_in_start h) (goes j us v) → Leads (G.next g k) v m vs h' → (vs ≡ x ∷ [] → x.store ≡ store_held h') → x.store ≡ store_held h'
    by [] vs z so on more = more z
    by (u ∷ us) vs z so on more =
        let one = one_left x u us vs z in
        let nil = nil_both us vs one.1 in
        let so2 : MoveSo (is_in_start h) (goes j (u ∷ []) v) = subst (λ (ws : List Note). MoveSo (is_in_start h) (goes j (u ∷ ws) v)) nil.0 so in
        let is : u.event ≡ ended how = ap (λ (y : Note). y.event) one.0 ∙ q in
        let over_v : is_over v ≡ true = subst (λ (a : Event). Settles (Some a) v) is so2.0 in
        let stored : u.store ≡ store_held v = subst (λ (a : Event). HasStore a u.store v) is so2.2 in
        let end = G.over_stays g k v h' m vs on over_v in
        ap (λ (y : Note). y.store) (sym one.0) ∙ stored ∙ ap store_held end.1

stretch_of : (p : Module) (plan : Plan) (st : Bool) (ready : List Note) (h : Held) (os : List Outcome) (made : List Note) (used : ℕ) (h' : Held) (b : Bool)
    → GoesSo p plan st ready h os made used h' b → Stretch p plan h os made used h'
stretch_of p plan st ready h os made used h' _ (as_before a x) = x
stretch_of p plan st ready h os made used h' _ (behind_start a b x) = x
stretch_of p plan st ready h os made used h' _ (by_last_move b m) = last_move_leads p plan h h' os made used b m
stretch_of p plan st ready h os made used h' _ (either_way b a x) = x

-- ready or made
end_store : (g : StrandProgram) (k : ℕ) (ready made : List Note) (h : Held) (os : List Outcome) (used : ℕ) (at : Store) (x : Note) (how : End) → AreWaiting ready h
    → Stretch g.source (plan_of g (strand_at g k)) h os made used (over at) → ready ++ made ≡ x ∷ [] → x.event ≡ ended how → x.store ≡ at
end_store g k [] made h os used at x how w s e q = made_store g k (meeting (os ++ []) h) (over at) used made x how (s []) e q
end_store g k (y ∷ ys) made h os used at x how w s e q =
    let same : y ≡ x = (one_left x y ys made e).0 in
    let waits = waits_ending y ys h w (ap (λ (n : Note). ends_turn n.event) same ∙ ap ends_turn q) in
    let end = G.over_stays g k (meeting (os ++ []) h) (over at) used made (s []) (over_meeting (os ++ []) h ∙ waits.1) in
    ap (λ (n : Note). n.store) (sym same) ∙ waits.2 ∙ sym (store_meeting (os ++ []) h) ∙ ap store_held end.1

-- ---- a pause

pub due_fits : DueFits
due_fits g t left k due st ready h h' ts os made x used ticks taken m stretch le split q few =
    let made_is = pause_made ready made h x ticks taken m.waiting split q in
    let cost = made_costs g.program k (meeting (os ++ []) h) (meeting [] h') used made x (stretch []) made_is in
    let w = within_at m.used k m.s t.strands m.within m.there in
    let d = m.due_is in
    let z = m.steps in
    omega (arith, cost, w, d, z, le, few)

pub turn_pauses : TurnPauses
turn_pauses g t left k due st ready h h' ts s os answers made x used ticks taken m there stretch le split q few at_pause = record {
  used = m.used + used;
  steps = steps_left g t left k due st ready h ts m used le;
  led = λ more.
      led_tell g.program (met_and (slice_set t.strands k s') more) (m.used + used) t.told (told_by k (x ∷ [])) (behind more)
      (led_same g.program (met_and (slice_set t.strands k s') more) (m.used + used) t.told _ _ (front more)
      (led_so g t left k due st st ready h ts m s s' os made used h' there refl (either_way st no_trap stretch)
      (subst (λ (us : List Note). Ending us h') (sym split) (ending_one x h' (ap ends_turn q) (λ z. at_pause))) more));
  dues = dues_told ts t.strands k due (due + ticks) (Some h) (Some h') s' m.dues due_is (ap unless_over (pause_end s x os answers ticks taken q));
  no_turn = now_last t.told (record { strand = k; note = x }) ∙ ap (now_behind k) q;
  wide = set_length t.strands k s' ∙ m.wide;
  within = within_set (m.used + used) k s' t.strands (within_more m.used used t.strands m.within)
      (let made_is = pause_made ready made h x ticks taken m.waiting split q in
      let cost = made_costs g.program k (meeting (os ++ []) h) (meeting [] h') used made x (stretch []) made_is in
      let w = within_at m.used k s t.strands m.within there in
      let d = due_is in
      let e = same_s g t left k due st ready h ts m s there in
      omega (arith, cost, w, d, e, few));
}
  where
    s' : StrandTeller
    s' = having_told s (x ∷ []) os answers

    us : List (Thread Held)
    us = put k (due + ticks) (Some h') ts

    due_is : s'.due ≡ due + ticks
    due_is = pause_due s x os answers due ticks taken (same_s g t left k due st ready h ts m s there) q

    no_trap : IsNoTrap (last_event (ready ++ made))
    no_trap = subst IsNoTrap (sym (ap last_event split ∙ ap (λ (e : Event). Some e) q)) tt

    loom : Loom Held
    loom = held_loom g.program

    behind : List (List Outcome) → Ran (Woven Held) Told
    behind more = weave_on loom (suc (length us)) (store_held h') (threads_meeting more us)

    front : (more : List (List Outcome)) → standing_so g t left k due st st ready h ts m more st (ready ++ made) h' ≡ after (told_by k (x ∷ [])) (behind more)
    front more =
        let f : ℕ → List Outcome = outcomes_at more in
        let hm : Held = meeting (f k) h' in
        ap (λ (ns : List Note). standing_so g t left k due st st ready h ts m more st ns h') split
        ∙ pause_woven loom st k due (x ∷ []) hm (threads_meeting more ts) ticks taken (ap (λ (e : Event). Some e) q)
        ∙ ap (λ n. after (told_by k (x ∷ [])) (weave_on loom (suc n) (store_held hm) (put k (due + ticks) (Some hm) (threads_meeting more ts))))
        (length_meeting f 0 ts ∙ sym (put_length k (due + ticks) (Some h') ts))
        ∙ ap (λ (s : Store). after (told_by k (x ∷ [])) (weave_on loom (suc (length us)) s (put k (due + ticks) (Some hm) (threads_meeting more ts)))) (store_meeting (f k) h')
        ∙ ap (λ (vs : List (Thread Held)). after (told_by k (x ∷ [])) (weave_on loom (suc (length us)) (store_held h') vs)) (put_meeting f k (due + ticks) (Some h') ts)

-- ---- an end

module _ (g : StrandsInWorld) (t : ProgramTeller) (left k due : ℕ) (st st' : Bool) (ready : List Note) (h : Held) (ts : List (Thread Held)) (s : StrandTeller) (os : List Outcome)
    (answers : List AnswerLine) (made : List Note) (x : Note) (used : ℕ) (how : End) (at : Store) (m : InTurn g t left k due st ready h ts) (there : slice_get t.strands k ≡ Some s)
    (so : GoesSo g.program.source (plan_of g.program (strand_at g.program k)) st ready h os made used (over at) st') (split : ready ++ made ≡ x ∷ []) (q : x.event ≡ ended how) where
  abbrev s' : StrandTeller
  s' = having_told s (x ∷ []) os answers

  abbrev loom : Loom Held
  loom = held_loom g.program

  abbrev behind : List (List Outcome) → Bool → Ran (Woven Held) Told
  behind more b =
      if b then weave_on loom (suc (length (threads_meeting more ts))) at (put k due None (threads_meeting more ts)) else still (finished (put k due None (threads_meeting more ts)))

  -- what is made behind it
  led_end : (more : List (List Outcome)) → LedTo g.program (met_and (slice_set t.strands k s') more) (m.used + used) (t.told ++ told_by k (x ∷ [])) (behind more (ends_strand st' how))
  led_end more =
      led_tell g.program (met_and (slice_set t.strands k s') more) (m.used + used) t.told (told_by k (x ∷ [])) (behind more (ends_strand st' how))
      (led_same g.program (met_and (slice_set t.strands k s') more) (m.used + used) t.told _ _
      (ap (λ (ns : List Note). standing_so g t left k due st st' ready h ts m more st' ns (over at)) split
      ∙ end_woven loom st' k due (x ∷ []) (over at) (threads_meeting more ts) how (ap (λ (e : Event). Some e) q))
      (led_so g t left k due st st' ready h ts m s s' os made used (over at) there refl so
      (subst (λ (us : List Note). Ending us (over at)) (sym split) (ending_one x (over at) (ap ends_turn q) (λ z. true_false (sym (ap is_end q) ∙ z)))) more))

pub strand_ends : StrandEnds
strand_ends g t left k due st st' ready h ts s os answers made x used how at m there so le split q own = record {
  used = m.used + used;
  steps = steps_left g t left k due st ready h ts m used le;
  led = λ more.
      led_same g.program (met_and (slice_set t.strands k s2) more) (m.used + used) (t.told ++ told_by k (x ∷ [])) _ _ (front more)
      (led_end g t left k due st st' ready h ts s os answers made x used how at m there so split q more);
  dues = dues_told ts t.strands k due due (Some h) None s2 m.dues due_is (ap unless_over (end_end s x os answers how q));
  no_turn = now_last t.told (record { strand = k; note = x }) ∙ ap (now_behind k) q;
  wide = set_length t.strands k s2 ∙ m.wide;
  within = within_set (m.used + used) k s2 t.strands (within_more m.used used t.strands m.within)
      (let w = within_at m.used k s t.strands m.within there in
      let d = due_is in
      let e = same_s g t left k due st ready h ts m s there in
      omega (arith, w, d, e));
}
  where
    s2 : StrandTeller
    s2 = having_told s (x ∷ []) os answers

    due_is : s2.due ≡ due
    due_is = end_due s x os answers due how (same_s g t left k due st ready h ts m s there) q

    us : List (Thread Held)
    us = put k due None ts

    stored : x.store ≡ at
    stored =
        end_store g.program k ready made h os used at x how m.waiting
        (stretch_of g.program.source (plan_of g.program (strand_at g.program k)) st ready h os made used (over at) st' so) split q

    front : (more : List (List Outcome)) → behind g t left k due st st' ready h ts s os answers made x used how at m there so split q more (ends_strand st' how)
        ≡ weave_on (held_loom g.program) (suc (length us)) x.store (threads_meeting more us)
    front more =
        let f : ℕ → List Outcome = outcomes_at more in
        ap (λ (b : Bool). behind g t left k due st st' ready h ts s os answers made x used how at m there so split q more b) own
        ∙ ap (λ n. weave_on (held_loom g.program) (suc n) at (put k due None (threads_meeting more ts))) (length_meeting f 0 ts ∙ sym (put_length k due None ts))
        ∙ ap (λ (vs : List (Thread Held)). weave_on (held_loom g.program) (suc (length us)) at vs) (put_meeting f k due None ts)
        ∙ ap (λ (z : Store). weave_on (held_loom g.program) (suc (length us)) z (threads_meeting more us)) (sym stored)

-- ---- all is told

-- where no move can be paid any more
pub whole_led : (g : StrandsInWorld) (oss : List (List Outcome)) (used left : ℕ) (notes : List Told) (w : Woven Held) → Led g.program oss used notes w → used + left ≡ g.steps
    → run (weave (held_loom g.program)) left w ≡ still w → HeldStrands g oss (notes ++ strand_unless_over g.steps (standing_now w))
whole_led g oss used left notes w l steps still_there =
    ap (λ (us : List Told). us ++ strand_unless_over g.steps (standing_now w)) (l.made ∙ ap (λ (us : List Told). b.events ++ us) (sym (append-nil l.behind)))
    ∙ sym (ap (λ (r : Ran (Woven Held) Told). r.events ++ strand_unless_over g.steps (standing_now r.last)) ran)
  where
    loom : Loom Held
    loom = held_loom g.program

    b : Ran (Woven Held) Told
    b = begun_strands g.program oss

    ran : ProtocolStrands g.program oss g.steps ≡ after b.events (after l.behind (still w))
    ran =
        ap (λ n. after b.events (run (weave loom) n b.last)) (sym steps)
        ∙ ap (after b.events) (leads_run (Woven Held) Told (weave loom) b.last w used left l.behind l.leads ∙ ap (after l.behind) still_there)

pub program_ends : ProgramEnds
program_ends g t left k due st st' ready h ts s os answers made x used how at m there so le split q own more =
    told_all (whole_led g oss (m.used + used) (left - used) ((t.told ++ told_by k (x ∷ [])) ++ []) (finished us) l (steps_left g t left k due st ready h ts m used le)
    (no_move (Woven Held) Told (weave loom) (left - used) (finished us) (finished_stops loom us)))
  where
    loom : Loom Held
    loom = held_loom g.program

    us : List (Thread Held)
    us = put k due None (threads_meeting more ts)

    oss : List (List Outcome)
    oss = met_and (slice_set t.strands k (having_told s (x ∷ []) os answers)) more

    notes : List Told
    notes = t.told ++ told_by k (x ∷ [])

    l : LedTo g.program oss (m.used + used) notes (still (finished us))
    l = led_same g.program oss (m.used + used) notes _ _
        (ap (λ (b : Bool). behind g t left k due st st' ready h ts s os answers made x used how at m there so split q more b) own)
        (led_end g t left k due st st' ready h ts s os answers made x used how at m there so split q more)

    told_all : HeldStrands g oss ((notes ++ []) ++ strand_unless_over g.steps (standing_now (finished us))) → HeldStrands g oss notes
    told_all e =
        sym (append-nil notes) ∙ sym (append-nil (notes ++ [])) ∙ ap (λ (o : Option (Ready Held)). (notes ++ []) ++ strand_unless_over g.steps o) (sym (stands_none loom us)) ∙ e

pub steps_run_out : StepsRunOut
steps_run_out g t left k due st h h' ts s os answers x used m there stretch le spent is more =
    told_all (whole_led g oss (m.used + used) (left - used) (t.told ++ []) (going k due hm (threads_meeting more ts)) l (steps_left g t left k due st [] h ts m used le) still_there)
  where
    loom : Loom Held
    loom = held_loom g.program

    hm : Held
    hm = meeting (outcomes_at more k) h'

    oss : List (List Outcome)
    oss = met_and (slice_set t.strands k (having_told s (x ∷ []) os answers)) more

    w : Woven Held
    w = going k due hm (threads_meeting more ts)

    ltm : k < length (threads_meeting more ts)
    ltm = lt_meeting g t left k due st st [] h ts m more

    l : Led g.program oss (m.used + used) (t.told ++ []) w
    l = led_same g.program oss (m.used + used) t.told _ (still w) (woven_open loom st k due [] hm (threads_meeting more ts) tt)
        (led_so g t left k due st st [] h ts m s (having_told s (x ∷ []) os answers) os [] used h' there refl (either_way st tt stretch) tt more)

    by_next : (o : Turn Held Note) → G.next g.program k hm ≡ o → CostsMore (left - used) o → run (weave loom) (left - used) w ≡ still w
    by_next stops e c =
        no_move (Woven Held) Told (weave loom) (left - used) w (woven_at loom k due hm (threads_meeting more ts) ltm ∙ ap (moved loom (loom.starts hm) k due (put k due (Some hm) (threads_meeting more ts))) e)
    by_next (goes j es u) e c =
        too_dear (Woven Held) Told (weave loom) j (left - used) _ w _
        (woven_at loom k due hm (threads_meeting more ts) ltm ∙ ap (moved loom (loom.starts hm) k due (put k due (Some hm) (threads_meeting more ts))) e) c

    still_there : run (weave loom) (left - used) w ≡ still w
    still_there = by_next (G.next g.program k hm) refl (spent.dearer (outcomes_at more k))

    ends_so : strand_unless_over g.steps (standing_now w) ≡ told_by k (x ∷ [])
    ends_so =
        ap (strand_unless_over g.steps) (stands loom k due hm (threads_meeting more ts) ltm)
        ∙ ap (λ (z : Store). told_by k (note (ended (StepsSpent g.steps)) z ∷ [])) (store_meeting (outcomes_at more k) h') ∙ ap (λ (y : Note). told_by k (y ∷ [])) (sym is)

    told_all : HeldStrands g oss ((t.told ++ []) ++ strand_unless_over g.steps (standing_now w)) → HeldStrands g oss (t.told ++ told_by k (x ∷ []))
    told_all e =
        ap (λ (us : List Told). us ++ told_by k (x ∷ [])) (sym (append-nil t.told)) ∙ ap (λ (us : List Told). (t.told ++ []) ++ us) (sym ends_so) ∙ e
