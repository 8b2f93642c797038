-- Who has no more to tell tells no more, and who hasn't ended has told no end.
use Rattle.std.proofs.Common.{arith, ◌≡◌, ◌⊎◌, inl, inr, ℕ, zero, suc, List, [], ◌∷◌, ◌++◌, length, map, Option, Some, None, Bool, true, false, nat_eq, slice_get, slice_set, refl, sym, ap, ◌∙◌}
use Rattle.std.specs.Prelude.{◌||◌, ◌&&◌}
use Rattle.std.specs.Option.{unwrap_or}
use Rattle.std.proofs.lemmas.Bool.{cases_eq, ne_eqb}
use Rattle.std.proofs.lemmas.List.Folds.{list_any-append}
use Rattle.std.proofs.lemmas.Option.{same_Some}
use Rattle.wa_model.specs.declared.answers.Detach.{Detach}
use Rattle.wa_model.specs.declared.events.End.TheVariants.{Stalled}
use Rattle.wa_model.specs.Outside.{Event, called, answered, paused, parked, returned, ended, shown, Line}
use Rattle.wa_model.specs.Blocking.{Note}
use Rattle.world_model.specs.World.{Look, Program, events_with_looks, is_end, line_at, look_events, looks_after, turn_of}
use Rattle.world_laws.proofs.Places.{set_here, set_there}
use Rattle.mail_laws.specs.Mailboxes.{Shared}
use Rattle.mail_laws.specs.MailWorld.{Actor, Parked, Plays, a_stall, a_turn, begins_over, nobody, parks, store_behind, tells_end, told_pause, wake, woken}
use Rattle.mail_laws.specs.Played.{Played}
use Rattle.mail_laws.specs.Told.{Common, Teller, TellsEvent, due_of, ends_program, having_told, tells_stall, tells_turn}
use Rattle.mail_laws.proofs.Stalling.{both_false}
use Rattle.mail_laws.proofs.ToldAreWorlds.{dues_at, set_back, settle_keeps}
use Rattle.mail_laws.proofs.GoingOn.{due_is}

-- ---- who has no more to tell tells no more

pub no_true : false ≡ true → ⊥
no_true e = cc

pub and_false : (a b : Bool) → b ≡ false → (a && b) ≡ false
and_false true b e = e
and_false false b e = refl

pub false_and : (a b : Bool) → a ≡ false → (a && b) ≡ false
false_and true b e = absurd cc
false_and false b e = refl

pub others_calm : (i j : ℕ) (g : Event → Line) → (i ≡ j → ⊥) → ((e : Event) → (g e).program ≡ i) → (es : List Event) → tells_end j (map g es) ≡ false
others_calm i j g other is [] = refl
others_calm i j g other is (e ∷ es) =
    both_false (nat_eq (g e).program j && is_end (g e).event) (tells_end j (map g es))
    (false_and (nat_eq (g e).program j) (is_end (g e).event) (ap (λ (k : ℕ). nat_eq k j) (is e) ∙ ne_eqb i j other)) (others_calm i j g other is es)

woken_at : (due : ℕ) (is : List ℕ) (actors : List Actor) (j : ℕ) (a : Actor) → slice_get actors j ≡ Some a
    → (b : Actor) × (slice_get (wake due is actors) j ≡ Some b) × (b.notes ≡ a.notes) × (a.parked ≡ None → b.parked ≡ None)
woken_at due [] actors j a e = (a, e, refl, λ x. x)
woken_at due (i ∷ is) actors j a e = by (cases_eq j i) (λ acts c f. woken_at due is acts j c f)
  where
    by : (j ≡ i) ⊎ (j ≡ i → ⊥)
        → ((acts : List Actor) (c : Actor) → slice_get acts j ≡ Some c → (b : Actor) × (slice_get (wake due is acts) j ≡ Some b) × (b.notes ≡ c.notes) × (c.parked ≡ None → b.parked ≡ None))
        → (b : Actor) × (slice_get (wake due is (slice_set actors i (woken due (unwrap_or (slice_get actors i) nobody)))) j ≡ Some b) × (b.notes ≡ a.notes) × (a.parked ≡ None → b.parked ≡ None)
    by (inl same) on =
        let there : slice_get actors i ≡ Some a = ap (slice_get actors) (sym same) ∙ e in
        let now2 : slice_get (slice_set actors i (woken due (unwrap_or (slice_get actors i) nobody))) j ≡ Some (woken due a) =
        ap (slice_get (slice_set actors i (woken due (unwrap_or (slice_get actors i) nobody)))) same ∙ set_here actors i (woken due (unwrap_or (slice_get actors i) nobody)) a there
        ∙ ap (λ (o : Option Actor). Some (woken due (unwrap_or o nobody))) there in
        let r = on (slice_set actors i (woken due (unwrap_or (slice_get actors i) nobody))) (woken due a) now2 in
        (r.0, r.1, r.2, λ x. r.3 refl)
    by (inr other) on =
        on (slice_set actors i (woken due (unwrap_or (slice_get actors i) nobody))) a (set_there actors i j (woken due (unwrap_or (slice_get actors i) nobody)) other ∙ e)

module _ (programs : List Program) (detaches : List Detach) where
  -- it stays so, and its lines tell no end
  abbrev pub Sleeps : ℕ → List Line → List Actor → Type 0
  Sleeps j lines actors = (tells_end j lines ≡ false) × (b : Actor) × (slice_get actors j ≡ Some b) × (b.notes ≡ []) × (b.parked ≡ None)

  sleeps_event : (number : ℕ) (actors actors' : List Actor) (sh sh' : Shared) (lines : List Line) (j : ℕ) (a : Actor) → slice_get actors j ≡ Some a → a.notes ≡ [] → a.parked ≡ None
      → Plays programs detaches number actors sh lines actors' sh' → Sleeps j lines actors'
  sleeps_event number actors actors' sh sh' lines j a there none awake (a_turn t) =
      let w = woken_at (suc t.a.due) t.behind.settled (slice_set actors t.i _) j a (set_there actors t.i j _ (λ e. other (sym e)) ∙ there) in (
        ap (tells_end j) t.made ∙ others_calm t.i j (λ (e : Event). line_at t.a.due t.i (told_pause (parks (turn_of t.a.notes) t.behind.receive) e)) other (λ e. refl) (events_with_looks t.w.looks (turn_of t.a.notes)),
        w.0,
        ap (λ (l : List Actor). slice_get l j) t.after ∙ w.1,
        w.2 ∙ none,
        w.3 awake,
      )
    where
      other : t.i ≡ j → ⊥
      other e =
          let same : a ≡ t.a = same_Some a t.a (sym there ∙ ap (slice_get actors) (sym e) ∙ t.next.there) in
          let z : length t.a.notes ≡ 0 = ap (λ (x : Actor). length x.notes) (sym same) ∙ ap length none in
          let r = t.next.ready.unfinished in omega (arith, z, r)
  sleeps_event number actors actors' sh sh' lines j a there none awake (a_stall s) = (
    ap (tells_end j) s.made ∙ others_calm s.i j (line_at sh.tick s.i) other (λ e. refl) (ended (Stalled s.at.import) ∷ look_events s.at.store s.w.looks),
    a,
    ap (λ (l : List Actor). slice_get l j) s.after ∙ set_there actors s.i j (record s.a { parked = None }) (λ e. other (sym e)) ∙ there,
    none,
    awake,
  )
    where
      no_parked : (p : Parked) → None ≡ Some p → ⊥
      no_parked p e = cc

      other : s.i ≡ j → ⊥
      other e =
          let same : a ≡ s.a = same_Some a s.a (sym there ∙ ap (slice_get actors) (sym e) ∙ s.there) in no_parked s.at (sym awake ∙ ap (λ (x : Actor). x.parked) same ∙ s.waits)

  pub sleeps_on : (count number : ℕ) (actors last : List Actor) (sh sh' : Shared) (lines : List Line) (j : ℕ) (a : Actor) → slice_get actors j ≡ Some a → a.notes ≡ [] → a.parked ≡ None
      → Played programs detaches number count actors sh lines last sh' → Sleeps j lines last
  sleeps_on zero number actors last sh sh' lines j a there none awake h = (ap (tells_end j) h.0, a, ap (λ (l : List Actor). slice_get l j) h.1 ∙ there, none, awake)
  sleeps_on (suc count) number actors last sh sh' lines j a there none awake h =
      let one = sleeps_event number actors h.2 sh h.3 h.0 j a there none awake h.4 in
      let on = sleeps_on count (suc number) h.2 last h.3 sh' h.1 j one.1 one.2 one.3 one.4 h.5 in
      (ap (tells_end j) h.6 ∙ list_any-append (λ (l : Line). nat_eq l.program j && is_end l.event) h.0 h.1 ∙ both_false (tells_end j h.0) (tells_end j h.1) one.0 on.0, on.1, on.2, on.3, on.4)

-- ---- who hasn't ended has told no end

abbrev pub Calm : List Line → List Teller → Type 0
Calm lines tellers = (j : ℕ) (t : Teller) → slice_get tellers j ≡ Some t → t.has_ended ≡ false → tells_end j lines ≡ false

still_goes : {X : Type 0} (p : Option X) (e : Event) → is_end e ≡ false → is_end (told_pause p e) ≡ false
still_goes None e h = h
still_goes (Some r) (paused t u) h = refl
still_goes (Some r) (ended how) h = h
still_goes (Some r) (called c) h = h
still_goes (Some r) (answered c) h = h
still_goes (Some r) (parked u) h = h
still_goes (Some r) (returned i v) h = h
still_goes (Some r) (shown i v) h = h

no_looks : (looks : List Look) (x : Note) (e : Event) → is_end e ≡ false → looks_after looks x e ≡ []
no_looks looks x (paused t u) h = refl
no_looks looks x (ended how) h = absurd cc
no_looks looks x (called c) h = refl
no_looks looks x (answered c) h = refl
no_looks looks x (parked u) h = refl
no_looks looks x (returned i v) h = refl
no_looks looks x (shown i v) h = refl

or_first : (a b : Bool) → (a || b) ≡ false → (a ≡ false) × (b ≡ false)
or_first true b e = absurd cc
or_first false b e = (refl, e)

pub turn_calm : {X : Type 0} (looks : List Look) (d i : ℕ) (p : Option X) (turn : List Note) → ends_program turn ≡ false
    → tells_end i (map (λ (e : Event). line_at d i (told_pause p e)) (events_with_looks looks turn)) ≡ false
turn_calm looks d i p [] h = refl
turn_calm looks d i p (x ∷ xs) h =
    let parts = or_first (is_end x.event) (ends_program xs) h in
    ap (λ (es : List Event). tells_end i (map (λ (e : Event). line_at d i (told_pause p e)) ((x.event ∷ es) ++ events_with_looks looks xs))) (no_looks looks x x.event parts.0)
    ∙ both_false (nat_eq i i && is_end (told_pause p x.event)) (tells_end i (map (λ (e : Event). line_at d i (told_pause p e)) (events_with_looks looks xs)))
    (and_false (nat_eq i i) (is_end (told_pause p x.event)) (still_goes p x.event parts.0)) (turn_calm looks d i p xs parts.1)

module _ (programs : List Program) (detaches : List Detach) (number : ℕ) (tellers : List Teller) (c : Common) (before lines : List Line) (calm : Calm before tellers) where
  joins : (j : ℕ) → tells_end j before ≡ false → tells_end j lines ≡ false → tells_end j (before ++ lines) ≡ false
  joins j a b = list_any-append (λ (l : Line). nat_eq l.program j && is_end l.event) before lines ∙ both_false (tells_end j before) (tells_end j lines) a b

  pub calm_event : (tellers' : List Teller) (c' : Common) → TellsEvent programs detaches number tellers c lines tellers' c' → Calm (before ++ lines) tellers'
  calm_event tellers' c' (tells_turn play) j t there unended = by (cases_eq j play.i)
    where
      told2 : Teller
      told2 = having_told play.t play.turn play.met play.answers play.behind.receive

      k : (u : Teller) × (slice_get (slice_set tellers play.i told2) j ≡ Some u) × (t.has_ended ≡ u.has_ended)
      k = settle_keeps (suc play.t.due) play.behind.settled (slice_set tellers play.i told2) j t (ap (λ (l : List Teller). slice_get l j) (sym play.after) ∙ there)

      by : (j ≡ play.i) ⊎ (j ≡ play.i → ⊥) → tells_end j (before ++ lines) ≡ false
      by (inl same) =
          let is : k.0 ≡ told2 = (set_back tellers play.i told2 k.0 (ap (slice_get (slice_set tellers play.i told2)) (sym same) ∙ k.1)).2 in
          let goes_on : ends_program play.turn ≡ false = ap (λ (x : Teller). x.has_ended) (sym is) ∙ sym k.2 ∙ unended in
          let was = due_is play.t.has_ended play.t.receive play.t.due play.t.due (same_Some (due_of play.t) (Some play.t.due) (sym (dues_at tellers play.i play.t play.there) ∙ play.next.there)) in
          joins j (calm j play.t (ap (slice_get tellers) same ∙ play.there) was.0)
          (ap (λ (n : ℕ). tells_end n lines) same ∙ ap (tells_end play.i) play.made ∙ turn_calm play.w.looks play.t.due play.i (parks play.turn play.behind.receive) play.turn goes_on)
      by (inr other) =
          joins j (calm j k.0 (sym (set_there tellers play.i j told2 other) ∙ k.1) (sym k.2 ∙ unended))
          (ap (tells_end j) play.made
          ∙ others_calm play.i j (λ (e : Event). line_at play.t.due play.i (told_pause (parks play.turn play.behind.receive) e)) (λ e. other (sym e)) (λ e. refl) (events_with_looks play.w.looks play.turn))
  calm_event tellers' c' (tells_stall play) j t there unended = by (cases_eq j play.i)
    where
      now2 : Teller
      now2 = record play.t { has_ended = true }

      there2 : slice_get (slice_set tellers play.i now2) j ≡ Some t
      there2 = ap (λ (l : List Teller). slice_get l j) (sym play.after) ∙ there

      by : (j ≡ play.i) ⊎ (j ≡ play.i → ⊥) → tells_end j (before ++ lines) ≡ false
      by (inl same) =
          let is : t ≡ now2 = (set_back tellers play.i now2 t (ap (slice_get (slice_set tellers play.i now2)) (sym same) ∙ there2)).2 in
          absurd (no_true (sym unended ∙ ap (λ (x : Teller). x.has_ended) is))
      by (inr other) =
          joins j (calm j t (sym (set_there tellers play.i j now2 other) ∙ there2) unended)
          (ap (tells_end j) play.made
          ∙ others_calm play.i j (line_at c.tick play.i) (λ e. other (sym e)) (λ e. refl)
          (ended (Stalled play.r.import) ∷ look_events (store_behind play.t.told) play.w.looks))

-- ---- who hasn't ended wasn't over where it began

abbrev pub Going : List Program → List Teller → Type 0
Going programs tellers = (j : ℕ) (w : Program) (t : Teller) → slice_get programs j ≡ Some w → slice_get tellers j ≡ Some t → t.has_ended ≡ false → begins_over w ≡ false

pub going_event : (programs : List Program) (detaches : List Detach) (number : ℕ) (tellers : List Teller) (c : Common) (lines : List Line) → Going programs tellers → (tellers' : List Teller) (c' : Common)
    → TellsEvent programs detaches number tellers c lines tellers' c' → Going programs tellers'
going_event programs detaches number tellers c lines going tellers' c' (tells_turn play) j w t ew there unended = by (cases_eq j play.i)
  where
    told2 : Teller
    told2 = having_told play.t play.turn play.met play.answers play.behind.receive

    k : (u : Teller) × (slice_get (slice_set tellers play.i told2) j ≡ Some u) × (t.has_ended ≡ u.has_ended)
    k = settle_keeps (suc play.t.due) play.behind.settled (slice_set tellers play.i told2) j t (ap (λ (l : List Teller). slice_get l j) (sym play.after) ∙ there)

    by : (j ≡ play.i) ⊎ (j ≡ play.i → ⊥) → begins_over w ≡ false
    by (inl same) =
        let was = due_is play.t.has_ended play.t.receive play.t.due play.t.due (same_Some (due_of play.t) (Some play.t.due) (sym (dues_at tellers play.i play.t play.there) ∙ play.next.there)) in
        going j w play.t ew (ap (slice_get tellers) same ∙ play.there) was.0
    by (inr other) = going j w k.0 ew (sym (set_there tellers play.i j told2 other) ∙ k.1) (sym k.2 ∙ unended)
going_event programs detaches number tellers c lines going tellers' c' (tells_stall play) j w t ew there unended = by (cases_eq j play.i)
  where
    now2 : Teller
    now2 = record play.t { has_ended = true }

    there2 : slice_get (slice_set tellers play.i now2) j ≡ Some t
    there2 = ap (λ (l : List Teller). slice_get l j) (sym play.after) ∙ there

    by : (j ≡ play.i) ⊎ (j ≡ play.i → ⊥) → begins_over w ≡ false
    by (inl same) =
        let is : t ≡ now2 = (set_back tellers play.i now2 t (ap (slice_get (slice_set tellers play.i now2)) (sym same) ∙ there2)).2 in
        absurd (no_true (sym unended ∙ ap (λ (x : Teller). x.has_ended) is))
    by (inr other) = going j w t ew (sym (set_there tellers play.i j now2 other) ∙ there2) unended
