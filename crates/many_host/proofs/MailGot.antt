-- Programs that were sent a value while they waited: they are held as those that have got it.
use Rattle.std.proofs.Common.{arith, ◌≡◌, ◌⊎◌, inl, inr, ◌++◌, ℕ, suc, List, [], ◌∷◌, length, map, Option, Some, None, true, false, refl, sym, ap, ◌∙◌, subst, append-nil, length-set}
use Rattle.std.specs.Prelude.{IsSome, is_some, slice_get, slice_set}
use Rattle.std.specs.Option.{unwrap_or}
use Rattle.std.proofs.lemmas.Bool.{cases_eq}
use Rattle.std.proofs.lemmas.List.{length-append, map-set}
use Rattle.std.proofs.lemmas.Option.{same_Some, slice_get_within}
use Rattle.wa_types.specs.declared.values.Value.TheVariants as V
use Rattle.wa_model.specs.Plan.{Outcome}
use Rattle.world_model.specs.World.{Program}
use Rattle.world_laws.specs.Originals.{new_calls}
use Rattle.world_laws.proofs.Places.{item, set_here, set_there}
use Rattle.event_order.specs.declared.shows.Show.{Show}
use Rattle.mailbox_device.specs.declared.mailbox.Settled.{Settled}
use Rattle.mail_laws.specs.Mailboxes.{mailed}
use Rattle.mail_laws.specs.MailWorld.{pauses}
use Rattle.mail_laws.specs.Told.{Await, NotAmong, Teller, due_of, having_got, if_going, no_teller, pending, settle_all, waits_at}
use Rattle.pause_host.specs.Programs.{Follows, begins_paused, parked_in}
use Rattle.many_host.specs.MailStanding.{AreParked, HasGot, HaveGot, Holds, IsHeld, dues_settled, met_so_far, on_its_way}
use Rattle.many_host.specs.declared.hosted.Hosted.{Hosted}
use Rattle.many_host.proofs.MailHeld.{WaitsHeld, at_pause_goes, ends_pausing, waits_parked}

-- ---- one program

module _ (shows : List Show) (i : ℕ) (w : Program) (t : Teller) (x x' : Hosted) (due value : ℕ) (r : Await) (h : IsHeld shows i w t x) (receive : t.receive ≡ Some r)
    (paused : pauses t.told ≡ true) (unfinished : t.has_ended ≡ false) (g : HasGot value x x') where
  abbrev zeroed : List Outcome
  zeroed = t.met ++ mailed (Some (V.I32 0)) 1 ∷ []

  abbrev valued : List Outcome
  valued = t.met ++ mailed (Some (V.I32 value)) 1 ∷ []

  met_before : met_so_far t ≡ zeroed
  met_before = ap (λ (o : Option Await). t.met ++ pending 0 o) receive

  calls : new_calls t.told ≡ suc (length t.met)
  calls =
      let many = h.as_many ∙ ap length met_before in
      let long = length-append t.met (mailed (Some (V.I32 0)) 1 ∷ []) in
      omega (arith, many, long)

  now : Follows w t.told valued x'.program
  now = g.follows w t.told t.met calls (subst (λ os. Follows w t.told os x.program) met_before h.follow.0)

  met_now : valued ≡ met_so_far (having_got due value t)
  met_now = sym (append-nil valued)

  pub got_held : IsHeld shows i w (having_got due value t) x'
  got_held =
      record {
        follow = (
          subst (λ os. Follows w t.told os x'.program) met_now now,
          g.lines ∙ h.follow.1,
          g.awake,
          λ q is. let z : None ≡ Some q = sym g.awake ∙ is in absurd cc,
        );
        ended_is = at_pause_goes x' (now.paused ∙ ends_pausing (begins_paused w.origin) t.told paused) ∙ sym unfinished;
        told_end = h.told_end;
        as_many = calls ∙ (let long = length-append t.met (mailed (Some (V.I32 value)) 1 ∷ []) in omega (arith, long)) ∙ ap length met_now;
        memory_is = λ some. g.memory_is ∙ h.memory_is some;
        looks = h.looks;
        live = h.live;
      }

-- ---- all of them

module _ (shows : List Show) (programs : List Program) (due : ℕ) where
  -- each program of a world is held
  abbrev pub EachHeld : List Teller → List Hosted → Type 0
  EachHeld tellers xs = (i : ℕ) (w : Program) (t : Teller) (x : Hosted) → slice_get programs i ≡ Some w → slice_get tellers i ≡ Some t → slice_get xs i ≡ Some x → Holds shows i w t x

  -- Each program that was sent a value told its pause, and is sent one only.
  pub record IsSent (tellers : List Teller) (s : Settled) (ss : List Settled) : Type 0 where
    pub t : Teller
    pub r : Await
    pub there : slice_get tellers s.program ≡ Some t
    pub unfinished : t.has_ended ≡ false
    pub receive : t.receive ≡ Some r
    pub paused : pauses t.told ≡ true
    pub once : NotAmong s.program ss

  abbrev pub SentPaused : List Teller → List Settled → Type 0
  SentPaused tellers [] = Unit {0}
  SentPaused tellers (s ∷ ss) = IsSent tellers s ss × SentPaused tellers ss

  -- another isn't changed
  pub sent_on : (tellers : List Teller) (i : ℕ) (t : Teller) (ss : List Settled) → NotAmong i ss → SentPaused tellers ss → SentPaused (slice_set tellers i t) ss
  sent_on tellers i t [] apart h = tt
  sent_on tellers i t (s ∷ ss) apart h = (
    record {
      t = h.0.t;
      r = h.0.r;
      there = set_there tellers i s.program t (λ e. apart.0 (sym e)) ∙ h.0.there;
      unfinished = h.0.unfinished;
      receive = h.0.receive;
      paused = h.0.paused;
      once = h.0.once;
    },
    sent_on tellers i t ss apart.1 h.1,
  )

  waits_is : (t : Teller) (r : Await) → t.has_ended ≡ false → t.receive ≡ Some r → waits_at t ≡ Some r
  waits_is t r e q = λ j. if_going (e j) (q j)

  module _ (s : Settled) (ss : List Settled) (tellers : List Teller) (sent : IsSent tellers s ss) where
    abbrev got : Teller
    got = having_got due s.value sent.t

    -- as it stands in the definition
    got_is : having_got due s.value (unwrap_or (slice_get tellers s.program) no_teller) ≡ got
    got_is = ap (λ o. having_got due s.value (unwrap_or o no_teller)) sent.there

    abbrev tellers' : List Teller
    tellers' = slice_set tellers s.program got

    due_is : due_of got ≡ Some due
    due_is = ap (λ b. if_going b (Some due)) sent.unfinished

    module _ (xs : List Hosted) (each : EachHeld tellers xs) where
      waits_held : (w : Program) (x : Hosted) → slice_get programs s.program ≡ Some w → slice_get xs s.program ≡ Some x → WaitsHeld shows s.program w sent.t x
      waits_held w x ew there =
          waits_parked shows s.program w sent.t x (each s.program w sent.t x ew sent.there there) sent.r (waits_is sent.t sent.r sent.unfinished sent.receive) sent.paused

      one_held : (x x' : Hosted) → slice_get xs s.program ≡ Some x → HasGot s.value x x' → EachHeld tellers' (slice_set xs s.program x')
      one_held x x' there g j w t y ew et ey = by (cases_eq j s.program)
        where
          by : (j ≡ s.program) ⊎ (j ≡ s.program → ⊥) → Holds shows j w t y
          by (inr other) = each j w t y ew (sym (set_there tellers s.program j got other) ∙ et) (sym (set_there xs s.program j x' other) ∙ ey)
          by (inl same) =
              let ew' : slice_get programs s.program ≡ Some w = ap (slice_get programs) (sym same) ∙ ew in
              let t_is : got ≡ t = same_Some got t (sym (set_here tellers s.program got sent.t sent.there) ∙ ap (slice_get tellers') (sym same) ∙ et) in
              let y_is : x' ≡ y = same_Some x' y (sym (set_here xs s.program x' x there) ∙ ap (slice_get (slice_set xs s.program x')) (sym same) ∙ ey) in
              let h = waits_held w x ew' there in
              let held : Holds shows s.program w got x' =
              on_its_way (got_held shows s.program w sent.t x x' due s.value sent.r h.held sent.receive sent.paused sent.unfinished g) in
              subst (λ (k : ℕ). Holds shows k w t y) (sym same)
              (subst (λ (v : Teller). Holds shows s.program w v y) t_is (subst (λ (v : Hosted). Holds shows s.program w got v) y_is held))

  -- they are held as those that have got it
  pub all_got : (ss : List Settled) (tellers : List Teller) (xs xs' : List Hosted) → EachHeld tellers xs → SentPaused tellers ss → HaveGot ss xs xs' → EachHeld (settle_all due ss tellers) xs'
  all_got [] tellers xs xs' each sent h = subst (EachHeld tellers) (sym h) each
  all_got (s ∷ ss) tellers xs xs' each sent h =
      subst (λ (t : Teller). EachHeld (settle_all due ss (slice_set tellers s.program t)) xs') (sym (got_is s ss tellers sent.0))
      (all_got ss (tellers' s ss tellers sent.0) (slice_set xs s.program h.1) xs' (one_held s ss tellers sent.0 xs each h.0 h.1 h.2 h.3)
      (sent_on tellers s.program (got s ss tellers sent.0) ss sent.0.once sent.1) h.4)

  -- and due then
  pub dues_got : (ss : List Settled) (tellers : List Teller) → SentPaused tellers ss → dues_settled due ss (map due_of tellers) ≡ map due_of (settle_all due ss tellers)
  dues_got [] tellers sent = refl
  dues_got (s ∷ ss) tellers sent =
      let t' = got s ss tellers sent.0 in
      ap (dues_settled due ss) (ap (slice_set (map due_of tellers) s.program) (sym (due_is s ss tellers sent.0)) ∙ sym (map-set due_of tellers s.program t'))
      ∙ dues_got ss (tellers' s ss tellers sent.0) (sent_on tellers s.program t' ss sent.0.once sent.1)
      ∙ ap (λ (t : Teller). map due_of (settle_all due ss (slice_set tellers s.program t))) (sym (got_is s ss tellers sent.0))

  pub many_got : (ss : List Settled) (tellers : List Teller) → length (settle_all due ss tellers) ≡ length tellers
  many_got [] tellers = refl
  many_got (s ∷ ss) tellers =
      let t = having_got due s.value (unwrap_or (slice_get tellers s.program) no_teller) in
      many_got ss (slice_set tellers s.program t) ∙ length-set tellers s.program t

  pub many_held : (ss : List Settled) (xs xs' : List Hosted) → HaveGot ss xs xs' → length xs' ≡ length xs
  many_held [] xs xs' h = ap length h
  many_held (s ∷ ss) xs xs' h = many_held ss (slice_set xs s.program h.1) xs' h.4 ∙ length-set xs s.program h.1

  -- ---- they can be settled one after another

  abbrev ParkedEach : List Hosted → List Settled → Type 0
  ParkedEach xs [] = Unit {0}
  ParkedEach xs (s ∷ ss) = ((x : Hosted) × (slice_get xs s.program ≡ Some x) × IsSome (parked_in x.program)) × NotAmong s.program ss × ParkedEach xs ss

  parked_on : (xs : List Hosted) (i : ℕ) (x : Hosted) (ss : List Settled) → NotAmong i ss → ParkedEach xs ss → ParkedEach (slice_set xs i x) ss
  parked_on xs i x [] apart h = tt
  parked_on xs i x (s ∷ ss) apart h =
      ((h.0.0, set_there xs i s.program x (λ e. apart.0 (sym e)) ∙ h.0.1, h.0.2), h.1, parked_on xs i x ss apart.1 h.2)

  settled_in_turn : (ss : List Settled) (xs : List Hosted) → ParkedEach xs ss → AreParked ss xs
  settled_in_turn [] xs h = tt
  settled_in_turn (s ∷ ss) xs h = (h.0.0, h.0.1, h.0.2, λ x'. settled_in_turn ss (slice_set xs s.program x') (parked_on xs s.program x' ss h.1 h.2))

  module _ (tellers : List Teller) (xs : List Hosted) (wide : length programs ≡ length tellers) (long : length xs ≡ length tellers) (each : EachHeld tellers xs) where
    parked_each : (ss : List Settled) → SentPaused tellers ss → ParkedEach xs ss
    parked_each [] sent = tt
    parked_each (s ∷ ss) sent =
        let within = slice_get_within tellers s.program sent.0.t sent.0.there in
        let w = item programs s.program (omega (arith, within, wide)) in
        let x = item xs s.program (omega (arith, within, long)) in
        let h = waits_held s ss tellers sent.0 xs each w.0 x.0 w.1 x.1 in
        ((x.0, x.1, ap is_some h.parked), sent.0.once, parked_each ss sent.1)

    pub are_parked : (ss : List Settled) → SentPaused tellers ss → AreParked ss xs
    are_parked ss sent = settled_in_turn ss xs (parked_each ss sent)
