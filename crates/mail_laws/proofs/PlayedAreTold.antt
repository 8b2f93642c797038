-- A world that is played is told.
use Rattle.std.proofs.Common.{arith, ◌≡◌, ◌<◌, ◌≤◌, ◌+◌, ◌^◌, ◌⊎◌, inl, inr, ℕ, zero, suc, List, [], ◌∷◌, ◌++◌, length, map, Option, Some, None, Bool, true, false, nat_eq, slice_get}
use Rattle.std.proofs.Common.{slice_set, refl, sym, ap, ◌∙◌, subst, append_assoc, append-nil, length-set}
use Rattle.std.specs.Prelude.{◌&&◌}
use Rattle.std.specs.List.{list_any}
use Rattle.std.specs.Option.{option_map, unwrap_or}
use Rattle.std.proofs.lemmas.Bool.{cases_eq}
use Rattle.std.proofs.lemmas.List.{append_cancel_left, length-map}
use Rattle.std.proofs.lemmas.List.Folds.{list_any-append}
use Rattle.std.proofs.lemmas.Option.{slice_get_within, same_Some}
use Rattle.wa_types.specs.declared.values.Value.TheVariants as V
use Rattle.wa_model.specs.Store.{Store}
use Rattle.wa_model.specs.declared.answers.Detach.{Detach}
use Rattle.wa_model.specs.Outside.{AnswerLine, Event, parked, ended, Line}
use Rattle.wa_model.specs.Plan.{Outcome}
use Rattle.wa_model.specs.Blocking.{Note, no_store}
use Rattle.world_model.specs.World.{Program, detached, turn_of, behind_turn, put_off, line_at, is_end, events_with_looks, protocol_story, Device, look_events}
use Rattle.world_laws.proofs.Places.{item, map_at, set_here, set_there, zip_both}
use Rattle.world_laws.proofs.Turns.{turn_parts}
use Rattle.mailbox_device.specs.Mail.{Box, empty_box as no_mail}
use Rattle.mailbox_device.specs.declared.mailbox.Settled.{Settled}
use Rattle.mail_laws.specs.MailWorld.{Actor, Parked, Plays, a_turn, a_stall, TakesTurn, Stalls, IsReady, HeldStory, to_end, to_wait, begun_event, nobody, parked_at, parks, told_pause}
use Rattle.mail_laws.specs.MailWorld.{store_behind, wake, woken, with_waiting, tells_end, StartsHeld, sharing, begins_over}
use Rattle.mail_laws.specs.Mailboxes.{Mailbox, Shared, Midst, CallsMeet, mailed, empty_box}
use Rattle.mail_laws.specs.Told.{Await, Common, Teller, promise, promised, receive_of, shared_by, number_of, midst_by, pending, KeepsPromises, waits_at, unless_waiting, due_of, IsLeast, NoneDue}
use Rattle.mail_laws.specs.Told.{having_told, having_got, no_teller, settle_all, NotAmong, AreSent, parked_in, begun_amid, starting as teller_at, opening as told_opening}
use Rattle.mail_laws.specs.Told.{Tells, TellsTurn, TellsStall, TellsEvent, tells_turn, tells_stall, if_going}
use Rattle.mail_laws.specs.Played.{ProtocolWorldUpToFrom, Played, EndsAreTold, WorldsGoOn}
use Rattle.mail_laws.specs.Stalling.{note_stalls, WorldsStallLast}
use Rattle.mail_laws.proofs.WholeTurns.{parks_unless, pauses_behind, store_last}
use Rattle.mail_laws.proofs.Promises.{pick, keeps_other, still_sent, parked_boxes, parks_map, told_map}
use Rattle.mail_laws.proofs.Stalling.{both_false, stalls_last}
use Rattle.mail_laws.proofs.Played.{starts_long}
use Rattle.mail_laws.proofs.ToldAreWorlds.{Whole, dues_at, none_going, not_parked, parked_of}
use Rattle.mail_laws.proofs.CallsTold.{times, times_waiting, one_where, one_here}
use Rattle.mail_laws.proofs.TurnsTold.{Knows, it_stands, only_ends, still_tells, Turned}
use Rattle.mail_laws.proofs.TurnsFollowed.{Cut, Followed, follow, f_end}
use Rattle.mail_laws.proofs.GoingOn.{AllHold, Holds, has_told, goes_along, waits_on, Waits, posted, turn, turn_holds, told, now, c2, told_lines, new_sizes, sent, out, not_waiting, start_holds}
use Rattle.mail_laws.proofs.GoingOn.{told_from, stall, stall_keeps, over_now, program_there, stall_lines, stall_common, due_is, no_await}
use Rattle.mail_laws.proofs.Beginnings.{over_notes, start_size}
use Rattle.mail_laws.proofs.CalmLines.{Calm, Going, calm_event, going_event, no_true, sleeps_on}

-- ---- promises with one of them changed

pub set_will : ℕ → ℕ → (ℕ → ℕ) → ℕ → ℕ
set_will i v will j = pick (cases_eq j i) v (will j)

set_will_here : (i v : ℕ) (will : ℕ → ℕ) → set_will i v will i ≡ v
unfolding set_will
set_will_here i v will = by (cases_eq i i)
  where
    by : (c : (i ≡ i) ⊎ (i ≡ i → ⊥)) → pick c v (will i) ≡ v
    by (inl e) = refl
    by (inr other) = absurd (other refl)

set_will_there : (i v : ℕ) (will : ℕ → ℕ) (j : ℕ) → (j ≡ i → ⊥) → set_will i v will j ≡ will j
unfolding set_will
set_will_there i v will j other = by (cases_eq j i)
  where
    by : (c : (j ≡ i) ⊎ (j ≡ i → ⊥)) → pick c v (will j) ≡ will j
    by (inl e) = absurd (other e)
    by (inr o) = refl

waits_other : (i v : ℕ) (will : ℕ → ℕ) (is : List ℕ) → times i is ≡ 0 → map (promise (set_will i v will)) is ≡ map (promise will) is
waits_other i v will [] none = refl
waits_other i v will (k ∷ is) none = λ q. record { program = k; value = set_will_there i v will k other q } ∷ waits_other i v will is (omega (arith, none)) q
  where
    other : k ≡ i → ⊥
    other e = let one : one_where (nat_eq i k) ≡ 1 = ap (λ (n : ℕ). one_where (nat_eq i n)) e ∙ one_here i in omega (arith, one, none)

boxes_other : (i v : ℕ) (will : ℕ → ℕ) (bs : List Box) → times_waiting i bs ≡ 0 → map (promised (set_will i v will)) bs ≡ map (promised will) bs
boxes_other i v will [] none = refl
boxes_other i v will (b ∷ bs) none =
    λ k. record { name = b.name; values = b.values; waits = waits_other i v will b.waits (omega (arith, none)) k } ∷ boxes_other i v will bs (omega (arith, none)) k

-- ---- where programs stand

-- a program of the world, and what is told of it: they are parts of one whole
pub record Tied (value : ℕ) (t : Teller) (h : Whole) (a : Actor) : Type 0 where
  pub due : a.due ≡ t.due
  pub answers : a.answers ≡ t.answers
  pub notes : t.told ++ a.notes ≡ h.notes
  pub outcomes : t.met ++ pending value t.receive ++ a.outcomes ≡ h.outcomes
  pub parked : a.parked ≡ parked_of (store_behind t.told) (waits_at t)
  pub over : t.has_ended ≡ true → a.notes ≡ []

pub record Beside (will : ℕ → ℕ) (wholes : List Whole) (tellers : List Teller) (actors : List Actor) : Type 0 where
  pub wide : length wholes ≡ length tellers
  pub long : length actors ≡ length tellers
  pub each : (i : ℕ) (t : Teller) (h : Whole) (a : Actor) → slice_get tellers i ≡ Some t → slice_get wholes i ≡ Some h → slice_get actors i ≡ Some a → Tied (will i) t h a

set_beside : (wholes : List Whole) (will will' : ℕ → ℕ) (tellers : List Teller) (actors : List Actor) (k : ℕ) (t t' : Teller) (h : Whole) (a a' : Actor) → ((j : ℕ) → (j ≡ k → ⊥) → will' j ≡ will j)
    → slice_get tellers k ≡ Some t → slice_get wholes k ≡ Some h → slice_get actors k ≡ Some a → Tied (will' k) t' h a' → Beside will wholes tellers actors
    → Beside will' wholes (slice_set tellers k t') (slice_set actors k a')
set_beside wholes will will' tellers actors k t t' h a a' same et eh ea tie b = record {
  wide = b.wide ∙ sym (length-set tellers k t');
  long = length-set actors k a' ∙ b.long ∙ sym (length-set tellers k t');
  each = λ j u g c eu eg ec. by j u g c eu eg ec (cases_eq j k);
}
  where
    by : (j : ℕ) (u : Teller) (g : Whole) (c : Actor) → slice_get (slice_set tellers k t') j ≡ Some u → slice_get wholes j ≡ Some g → slice_get (slice_set actors k a') j ≡ Some c → (j ≡ k) ⊎ (j ≡ k → ⊥)
        → Tied (will' j) u g c
    by j u g c eu eg ec (inl e) =
        let e1 : t' ≡ u = same_Some t' u (sym (set_here tellers k t' t et) ∙ ap (slice_get (slice_set tellers k t')) (sym e) ∙ eu) in
        let e2 : h ≡ g = same_Some h g (sym eh ∙ ap (slice_get wholes) (sym e) ∙ eg) in
        let e3 : a' ≡ c = same_Some a' c (sym (set_here actors k a' a ea) ∙ ap (slice_get (slice_set actors k a')) (sym e) ∙ ec) in
        subst (λ (x : Actor). Tied (will' j) u g x) e3
        (subst (λ (x : Whole). Tied (will' j) u x a') e2 (subst (λ (x : Teller). Tied (will' j) x h a') e1 (subst (λ (n : ℕ). Tied (will' n) t' h a') (sym e) tie)))
    by j u g c eu eg ec (inr other) =
        subst (λ (n : ℕ). Tied n u g c) (sym (same j other))
        (b.each j u g c (sym (set_there tellers k j t' other) ∙ eu) eg (sym (set_there actors k j a' other) ∙ ec))

-- those that were sent a value
settle_beside : (wholes : List Whole) (will : ℕ → ℕ) (due : ℕ) (ss : List Settled) (tellers : List Teller) (actors : List Actor) → AreSent tellers ss → KeepsPromises will ss
    → Beside will wholes tellers actors → Beside will wholes (settle_all due ss tellers) (wake due (map number_of ss) actors)
settle_beside wholes will due [] tellers actors s keeps b = b
settle_beside wholes will due (s ∷ ss) tellers actors are keeps b =
    subst (λ (o : Option Teller). Beside will wholes (settle_all due ss (slice_set tellers s.program (having_got due s.value (unwrap_or o no_teller))))
    (wake due (map number_of ss) (slice_set actors s.program (woken due (unwrap_or (slice_get actors s.program) nobody))))) (sym are.0.there)
    (subst (λ (o : Option Actor). Beside will wholes (settle_all due ss (slice_set tellers s.program got))
    (wake due (map number_of ss) (slice_set actors s.program (woken due (unwrap_or o nobody))))) (sym a.1)
    (settle_beside wholes will due ss (slice_set tellers s.program got) (slice_set actors s.program (woken due a.0)) (still_sent tellers ss s.program got are.2 are.3) keeps.1
    (set_beside wholes will will tellers actors s.program are.0.t got h.0 a.0 (woken due a.0) (λ j other. refl) are.0.there h.1 a.1 tie b)))
  where
    got : Teller
    got = having_got due s.value are.0.t

    a : (x : Actor) × (slice_get actors s.program ≡ Some x)
    a = item actors s.program (omega (arith, slice_get_within tellers s.program are.0.t are.0.there, b.long))

    h : (x : Whole) × (slice_get wholes s.program ≡ Some x)
    h = item wholes s.program (omega (arith, slice_get_within tellers s.program are.0.t are.0.there, b.wide))

    tie : Tied (will s.program) (having_got due s.value are.0.t) h.0 (woken due a.0)
    tie =
        let old = b.each s.program are.0.t h.0 a.0 are.0.there h.1 a.1 in
        record {
          due = refl;
          answers = old.answers;
          notes = old.notes;
          outcomes =
              ap (λ (l : List Outcome). l ++ a.0.outcomes) (append-nil (are.0.t.met ++ mailed (Some (V.I32 s.value)) 1 ∷ []))
              ∙ (λ k. are.0.t.met ++ pending (sym keeps.0 k) (sym are.0.waits k) ++ a.0.outcomes)
              ∙ old.outcomes;
          parked = ap (λ (y : Bool). parked_of (store_behind are.0.t.told) (if_going y None)) (sym are.0.unfinished);
          over = λ e. absurd (not_true (sym are.0.unfinished ∙ e));
        }
      where
        not_true : false ≡ true → ⊥
        not_true e = cc

-- ---- lists

-- what is to come of a story, up to where it may be cut
record Coming (told ms : List Note) (tale : List Note) : Type 0 where
  pub rest : List Note
  pub is : ms ++ rest ≡ tale
  pub cut : Cut ms rest

coming : (w : Program) (os : List Outcome) (told ms tale : List Note) → 0 < length ms → HeldStory w os (told ++ ms) → protocol_story w os ≡ told ++ tale → Coming told ms tale
coming w os told ms tale some (to_end e) f = record { rest = []; is = append-nil ms ∙ append_cancel_left told ms tale (e ∙ f); cut = inl refl }
coming w os told ms tale some (to_wait rest e p) f =
    record { rest = rest; is = append_cancel_left told (ms ++ rest) tale (sym (append_assoc told ms rest) ∙ sym e ∙ f); cut = inr (sym (pauses_behind told ms some) ∙ p) }

-- ---- one event

pub unready : (v : ℕ) (t : Teller) (h : Whole) (a : Actor) → Tied v t h a → IsReady a → (t.has_ended ≡ false) × (t.receive ≡ None)
unready v t h a tie ready = by t.has_ended t.receive refl refl
  where
    by : (b : Bool) (o : Option Await) → t.has_ended ≡ b → t.receive ≡ o → (t.has_ended ≡ false) × (t.receive ≡ None)
    by true o e f = let z = ap length (tie.over e) in let r = ready.unfinished in let never : ⊥ = omega (arith, z, r) in absurd never
    by false None e f = (e, f)
    by false (Some r) e f =
        absurd (no_await r (sym (not_parked (store_behind t.told) (waits_at t) (sym tie.parked ∙ ready.awake)) ∙ (λ k. if_going (e k) (f k))))

module _ (programs : List Program) (detaches : List Detach) (number : ℕ) (wholes : List Whole) (will : ℕ → ℕ) (tellers : List Teller) (c : Common) (sizes : List ℕ)
    (all : AllHold programs tellers c sizes) (actors : List Actor) (beside : Beside will wholes tellers actors)
    (stories : (i : ℕ) (w : Program) (h : Whole) → slice_get programs i ≡ Some w → slice_get wholes i ≡ Some h → HeldStory w h.outcomes h.notes)
    (awake : (j : ℕ) (t : Teller) (a : Actor) → slice_get tellers j ≡ Some t → slice_get actors j ≡ Some a → t.has_ended ≡ false → t.receive ≡ None → 0 < length a.notes) (small : (j : ℕ) → will j < 2 ^ 32) where
  -- the same event, told
  record Retold (lines : List Line) (actors' : List Actor) (sh' : Shared) : Type 0 where
    pub tellers' : List Teller
    pub c' : Common
    pub sizes' : List ℕ
    pub will' : ℕ → ℕ
    pub small' : (j : ℕ) → will' j < 2 ^ 32
    pub event : TellsEvent programs detaches number tellers c lines tellers' c'
    pub holds : AllHold programs tellers' c' sizes'
    pub beside' : Beside will' wholes tellers' actors'
    pub shared : sh' ≡ shared_by will' c'

  pub whole_at : (i : ℕ) (t : Teller) → slice_get tellers i ≡ Some t → (h : Whole) × (slice_get wholes i ≡ Some h)
  whole_at i t e = item wholes i (omega (arith, slice_get_within tellers i t e, beside.wide))

  pub teller_there : (i : ℕ) (a : Actor) → slice_get actors i ≡ Some a → (t : Teller) × (slice_get tellers i ≡ Some t)
  teller_there i a e = item tellers i (omega (arith, slice_get_within actors i a e, beside.long))

  actor_at : (i : ℕ) (t : Teller) → slice_get tellers i ≡ Some t → (a : Actor) × (slice_get actors i ≡ Some a)
  actor_at i t e = item actors i (omega (arith, slice_get_within tellers i t e, beside.long))

  -- who is due is ready
  due_ready : (j : ℕ) (u : Teller) (tick : ℕ) → slice_get tellers j ≡ Some u → due_of u ≡ Some tick → (b : Actor) × (slice_get actors j ≡ Some b) × IsReady b × (b.due ≡ tick)
  due_ready j u tick eu ed =
      let d = due_is u.has_ended u.receive u.due tick ed in
      let b = actor_at j u eu in
      let h = whole_at j u eu in
      let tie = beside.each j u h.0 b.0 eu h.1 b.1 in (
        b.0,
        b.1,
        record {
          unfinished = awake j u b.0 eu b.1 d.0 d.1;
          awake = tie.parked ∙ (λ k. parked_of (store_behind u.told) (if_going (d.0 k) (d.1 k)));
        },
        tie.due ∙ sym d.2,
      )

  dues_back : (j tick : ℕ) → slice_get (map due_of tellers) j ≡ Some (Some tick) → (u : Teller) × (slice_get tellers j ≡ Some u) × (due_of u ≡ Some tick)
  dues_back j tick e =
      let within = slice_get_within (map due_of tellers) j (Some tick) e in
      let u = item tellers j (omega (arith, within, length-map tellers due_of)) in
      (u.0, u.1, same_Some (due_of u.0) (Some tick) (sym (dues_at tellers j u.0 u.1) ∙ e))

  module _ (sh : Shared) (is_shared : sh ≡ shared_by will c) (lines : List Line) (actors' : List Actor) (sh' : Shared) where
    module _ (play : TakesTurn programs detaches number actors sh lines actors' sh') (t : (t : Teller) × (slice_get tellers play.i ≡ Some t)) (h : (h : Whole) × (slice_get wholes play.i ≡ Some h)) where
      pub tie : Tied (will play.i) t.0 h.0 play.a
      tie = beside.each play.i t.0 h.0 play.a t.1 h.1 play.next.there

      pub calm : (t.0.has_ended ≡ false) × (t.0.receive ≡ None)
      calm = unready (will play.i) t.0 h.0 play.a tie play.next.ready

      due_now : due_of t.0 ≡ Some t.0.due
      due_now = λ k. if_going (calm.0 k) (unless_waiting (calm.1 k) t.0.due)

      pub least : IsLeast (map due_of tellers) play.i t.0.due
      least = record {
        there = dues_at tellers play.i t.0 t.1 ∙ ap (λ (o : Option ℕ). Some o) due_now;
        least = λ j tick e.
            let u = dues_back j tick e in
            let r = due_ready j u.0 tick u.1 u.2 in
            let l = play.next.least j r.0 r.1 r.2 in
            subst (λ (n : ℕ). (n < tick) ⊎ ((n ≡ tick) × (play.i ≤ j))) tie.due (subst (λ (n : ℕ). (play.a.due < n) ⊎ ((play.a.due ≡ n) × (play.i ≤ j))) r.3 l);
      }

      begun_is : begun_event number detaches sh ≡ midst_by will play.i (begun_amid number detaches c)
      begun_is = ap (λ (z : Shared). begun_event number detaches z) is_shared

      here : CallsMeet play.w (turn_of play.a.notes) play.a.outcomes t.0.answers (midst_by will play.i (begun_amid number detaches c)) play.outcomes play.answers play.behind
      here =
          subst (λ (l : List AnswerLine). CallsMeet play.w (turn_of play.a.notes) play.a.outcomes l (midst_by will play.i (begun_amid number detaches c)) play.outcomes play.answers play.behind) tie.answers
          (subst (λ (z : Midst). CallsMeet play.w (turn_of play.a.notes) play.a.outcomes play.a.answers z play.outcomes play.answers play.behind) begun_is play.calls)

      -- the story so far, for what its calls will meet
      pub outcomes_are : t.0.met ++ play.a.outcomes ≡ h.0.outcomes
      outcomes_are =
          ap (λ (l : List Outcome). l ++ play.a.outcomes) (sym (append-nil t.0.met)) ∙ ap (λ (o : Option Await). t.0.met ++ pending (will play.i) o ++ play.a.outcomes) (sym calm.1) ∙ tie.outcomes

      held : HeldStory play.w (t.0.met ++ play.a.outcomes) (t.0.told ++ play.a.notes)
      held =
          subst (λ (os : List Outcome). HeldStory play.w os (t.0.told ++ play.a.notes)) (sym outcomes_are)
          (subst (λ (ns : List Note). HeldStory play.w h.0.outcomes ns) (sym tie.notes) (stories play.i play.w h.0 play.program h.1))

      post : Rattle.mail_laws.proofs.CallsTold.Posted tellers (begun_amid number detaches c)
      post = posted programs detaches number tellers c sizes all play.i t.0.due least

      abbrev pub FollowsIt : ℕ → Type 0
      FollowsIt size = Followed play.w play.i t.0 tellers (begun_amid number detaches c) size will play.outcomes play.answers play.behind [] [] play.a.notes play.a.outcomes

      pub follows : (size : ℕ) → Knows play.w t.0.met t.0.told size → FollowsIt size
      follows size (it_stands s) =
          let co = coming play.w (t.0.met ++ play.a.outcomes) t.0.told play.a.notes (still_tells play.w size s.n (Rattle.host_laws.specs.Stretch.meeting play.a.outcomes s.h)) play.next.ready.unfinished held
          (s.story play.a.outcomes) in
          follow play.w play.i t.0 tellers (begun_amid number detaches c) size will play.outcomes play.answers play.behind size s.n s.h s.not_over [] [] t.0.answers (begun_amid number detaches c)
          (record { plain = tt; calls = λ w2 small2 keeps. (refl, refl, refl); none = refl; known = (refl, refl, refl); posted = post }) tt (omega arith) s.story play.a.outcomes play.a.notes co.rest co.is co.cut here
      follows size (only_ends xs x pl e story) =
          let co = coming play.w (t.0.met ++ play.a.outcomes) t.0.told play.a.notes (xs ++ x ∷ []) play.next.ready.unfinished held (story play.a.outcomes) in
          f_end play.w play.i t.0 tellers (begun_amid number detaches c) size will play.outcomes play.answers play.behind [] [] t.0.answers (begun_amid number detaches c)
          (record { plain = tt; calls = λ w2 small2 keeps. (refl, refl, refl); none = refl; known = (refl, refl, refl); posted = post }) tt xs x pl e play.a.outcomes (story play.a.outcomes) play.a.notes co.rest co.is co.cut here

      module _ (n : ℕ) (sized : slice_get sizes play.i ≡ Some n) (size : ℕ) (n_is : n ≡ suc size)
          (f : Followed play.w play.i t.0 tellers (begun_amid number detaches c) size will play.outcomes play.answers play.behind [] [] play.a.notes play.a.outcomes) where
        abbrev tu : Turned play.w play.i t.0 tellers (begun_amid number detaches c) size
        tu = f.tu

        abbrev ss : List Settled
        ss = tu.behind.settled

        abbrev told1 : Teller
        told1 = having_told t.0 tu.turn tu.met tu.answers tu.behind.receive

        abbrev pub will1 : ℕ → ℕ
        will1 = set_will play.i f.value will

        abbrev actor1 : Actor
        actor1 = record {
          due = play.a.due + put_off (turn_of play.a.notes);
          notes = behind_turn play.a.notes;
          outcomes = play.outcomes;
          answers = play.answers;
          parked = parked_at (store_behind (turn_of play.a.notes)) (parks (turn_of play.a.notes) play.behind.receive);
        }

        value_is : will1 play.i ≡ f.value
        value_is = set_will_here play.i f.value will

        any_value : (s : Store) (v : ℕ) (o : Option Await) → parked_at s (option_map (receive_of v) o) ≡ parked_of s o
        any_value s v None = refl
        any_value s v (Some r) = refl

        receive_is : play.behind.receive ≡ option_map (receive_of f.value) tu.behind.receive
        receive_is = ap (λ (z : Midst). z.receive) f.behind_is

        parking_is : parks (turn_of play.a.notes) play.behind.receive ≡ option_map (receive_of f.value) (parks tu.turn tu.behind.receive)
        parking_is = (λ k. parks (sym f.turn_is k) (receive_is k)) ∙ parks_map (receive_of f.value) tu.turn tu.behind.receive

        tie1 : Tied (will1 play.i) told1 h.0 actor1
        tie1 = record {
          due = λ k. tie.due k + put_off (sym f.turn_is k);
          answers = sym f.answers_is;
          notes =
              append_assoc t.0.told tu.turn (behind_turn play.a.notes)
              ∙ ap (λ (l : List Note). t.0.told ++ (l ++ behind_turn play.a.notes)) f.turn_is
              ∙ ap (λ (l : List Note). t.0.told ++ l) (turn_parts play.a.notes) ∙ tie.notes;
          outcomes =
              ap (λ (v : ℕ). t.0.met ++ tu.met ++ pending v tu.behind.receive ++ play.outcomes) value_is
              ∙ ap (λ (l : List Outcome). l ++ play.outcomes) (append_assoc t.0.met tu.met (pending f.value tu.behind.receive))
              ∙ append_assoc t.0.met (tu.met ++ pending f.value tu.behind.receive) play.outcomes
              ∙ ap (λ (l : List Outcome). t.0.met ++ l) (sym f.met_is)
              ∙ outcomes_are;
          parked =
              (λ k. parked_at (store_behind (sym f.turn_is k)) (parking_is k))
              ∙ any_value (store_behind tu.turn) f.value (parks tu.turn tu.behind.receive)
              ∙ ap (parked_of (store_behind tu.turn)) (parks_unless tu.turn tu.behind.receive tu.whole)
              ∙ ap (λ (s : Store). parked_of s (waits_at told1)) (sym (store_last t.0.told tu.turn tu.whole));
          over = f.over_is;
        }

        pub small1 : (j : ℕ) → will1 j < 2 ^ 32
        small1 j = by (cases_eq j play.i)
          where
            by : (j ≡ play.i) ⊎ (j ≡ play.i → ⊥) → will1 j < 2 ^ 32
            by (inl e) = subst (λ (k : ℕ). k < 2 ^ 32) (sym (ap will1 e ∙ value_is)) f.small
            by (inr other) = subst (λ (k : ℕ). k < 2 ^ 32) (sym (set_will_there play.i f.value will j other)) (small j)

        abbrev sent1 : AreSent tellers ss
        sent1 = sent programs detaches number tellers c sizes all play.i play.w t.0 n play.program t.1 sized calm.0 calm.1 least size n_is tu

        abbrev out1 : NotAmong play.i ss
        out1 = out programs detaches number tellers c sizes all play.i play.w t.0 n play.program t.1 sized calm.0 calm.1 least size n_is tu

        beside1 : Beside will1 wholes (settle_all (suc t.0.due) ss (slice_set tellers play.i told1)) (wake (suc t.0.due) (map number_of ss) (slice_set actors play.i actor1))
        beside1 =
            settle_beside wholes will1 (suc t.0.due) ss (slice_set tellers play.i told1) (slice_set actors play.i actor1) (still_sent tellers ss play.i told1 out1 sent1)
            (keeps_other will1 will play.i (set_will_there play.i f.value will) ss out1 f.keeps)
            (set_beside wholes will will1 tellers actors play.i t.0 told1 h.0 play.a actor1 (set_will_there play.i f.value will) t.1 h.1 play.next.there tie1 beside)

        actors_are : actors' ≡ wake (suc t.0.due) (map number_of ss) (slice_set actors play.i actor1)
        actors_are = play.after ∙ (λ k. wake (suc (tie.due k)) (ap (λ (z : Midst). z.settled) f.behind_is k) (slice_set actors play.i actor1))

        none_waiting : times_waiting play.i tu.behind.boxes ≡ 0
        none_waiting =
            let z = not_waiting programs detaches number tellers c sizes all play.i play.w t.0 n play.program t.1 sized calm.0 calm.1 least size n_is tu in omega (arith, z)

        boxes_are : with_waiting play.i (parks (turn_of play.a.notes) play.behind.receive) play.behind.boxes ≡ map (promised will1) (parked_in play.i (parks tu.turn tu.behind.receive) tu.behind.boxes)
        boxes_are =
            (λ k. with_waiting play.i (parking_is k) (ap (λ (z : Midst). z.boxes) f.behind_is k))
            ∙ (λ k. with_waiting play.i (option_map (receive_of (sym value_is k)) (parks tu.turn tu.behind.receive)) (sym (boxes_other play.i f.value will tu.behind.boxes none_waiting) k))
            ∙ sym (parked_boxes will1 play.i (parks tu.turn tu.behind.receive) tu.behind.boxes)

        pub lines_are : lines ≡ told_lines programs detaches number tellers c sizes all play.i play.w t.0 n play.program t.1 sized calm.0 calm.1 least size n_is tu
        lines_are =
            play.made
            ∙ (λ k. map (λ (e : Event). line_at (tie.due k) play.i (told_pause (parking_is k) e)) (events_with_looks play.w.looks (sym f.turn_is k)))
            ∙ (λ k. map (λ (e : Event). line_at t.0.due play.i (told_map (receive_of f.value) (parks tu.turn tu.behind.receive) e k)) (events_with_looks play.w.looks tu.turn))

        pub turn_beside : Beside will1 wholes (now programs detaches number tellers c sizes all play.i play.w t.0 n play.program t.1 sized calm.0 calm.1 least size n_is tu) actors'
        turn_beside = subst (λ (l : List Actor). Beside will1 wholes (settle_all (suc t.0.due) ss (slice_set tellers play.i told1)) l) (sym actors_are) beside1

        pub turn_shared : sh' ≡ shared_by will1 (c2 programs detaches number tellers c sizes all play.i play.w t.0 n play.program t.1 sized calm.0 calm.1 least size n_is tu)
        turn_shared = play.shared ∙ (λ k. record { devices = ap (λ (z : Midst). z.devices) f.behind_is k; boxes = boxes_are k; tick = tie.due k })

        retold_turn : Retold lines actors' sh'
        retold_turn = record {
          tellers' = now programs detaches number tellers c sizes all play.i play.w t.0 n play.program t.1 sized calm.0 calm.1 least size n_is tu;
          c' = c2 programs detaches number tellers c sizes all play.i play.w t.0 n play.program t.1 sized calm.0 calm.1 least size n_is tu;
          sizes' = new_sizes programs detaches number tellers c sizes all play.i play.w t.0 n play.program t.1 sized calm.0 calm.1 least size n_is tu;
          will' = will1;
          small' = small1;
          event = tells_turn (subst (λ (l : List Line). TellsTurn programs detaches number tellers c l
              (now programs detaches number tellers c sizes all play.i play.w t.0 n play.program t.1 sized calm.0 calm.1 least size n_is tu)
              (c2 programs detaches number tellers c sizes all play.i play.w t.0 n play.program t.1 sized calm.0 calm.1 least size n_is tu)) (sym lines_are)
              (turn programs detaches number tellers c sizes all play.i play.w t.0 n play.program t.1 sized calm.0 calm.1 least size n_is tu));
          holds = turn_holds programs detaches number tellers c sizes all play.i play.w t.0 n play.program t.1 sized calm.0 calm.1 least size n_is tu;
          beside' = turn_beside;
          shared = turn_shared;
        }

      turn_again : Retold lines actors' sh'
      turn_again = at (item sizes play.i (omega (arith, slice_get_within tellers play.i t.0 t.1, all.wide)))
        where
          at : (n : ℕ) × (slice_get sizes play.i ≡ Some n) → Retold lines actors' sh'
          at n = by (all.each play.i play.w t.0 n.0 play.program t.1 n.1)
            where
              by : Holds play.w t.0 n.0 → Retold lines actors' sh'
              by (has_told e s) = let bad : true ≡ false = sym e ∙ calm.0 in absurd (no_way bad)
                where
                  no_way : true ≡ false → ⊥
                  no_way q = cc
              by (goes_along e none size ns k) = retold_turn n.0 n.1 size ns (follows size k)
              by (waits_on e r some size ns cut st) = absurd (no_await r (sym calm.1 ∙ some))

      calm_again : list_any note_stalls (turn_of play.a.notes) ≡ false
      calm_again = at (item sizes play.i (omega (arith, slice_get_within tellers play.i t.0 t.1, all.wide)))
        where
          at : (n : ℕ) × (slice_get sizes play.i ≡ Some n) → list_any note_stalls (turn_of play.a.notes) ≡ false
          at n = by (all.each play.i play.w t.0 n.0 play.program t.1 n.1)
            where
              by : Holds play.w t.0 n.0 → list_any note_stalls (turn_of play.a.notes) ≡ false
              by (has_told e s) = absurd (no_way (sym e ∙ calm.0))
                where
                  no_way : true ≡ false → ⊥
                  no_way q = cc
              by (goes_along e none size ns k) = let f = follows size k in subst (λ (l : List Note). list_any note_stalls l ≡ false) f.turn_is f.tu.calm
              by (waits_on e r some size ns cut st) = absurd (no_await r (sym calm.1 ∙ some))

    module _ (play : Stalls programs detaches number actors sh lines actors' sh') (t2 : (t : Teller) × (slice_get tellers play.i ≡ Some t)) (h2 : (h : Whole) × (slice_get wholes play.i ≡ Some h)) where
      pub tie2 : Tied (will play.i) t2.0 h2.0 play.a
      tie2 = beside.each play.i t2.0 h2.0 play.a t2.1 h2.1 play.there

      pub record ParksAt (s : Store) (o : Option Await) (p : Parked) : Type 0 where
        pub r : Await
        pub is : o ≡ Some r
        pub at : p ≡ record { import = r.import; store = s }

      parks_at : (s : Store) (o : Option Await) (p : Parked) → parked_of s o ≡ Some p → ParksAt s o p
      parks_at s None p e = absurd cc
      parks_at s (Some r) p e = record { r = r; is = refl; at = sym (same_Some (record { import = r.import; store = s }) p e) }

      pub waits2 : ParksAt (store_behind t2.0.told) (waits_at t2.0) play.at
      waits2 = parks_at (store_behind t2.0.told) (waits_at t2.0) play.at (sym tie2.parked ∙ play.waits)

      pub none_due : NoneDue (map due_of tellers)
      none_due j tick e =
          let u = dues_back j tick e in let r = due_ready j u.0 tick u.1 u.2 in play.none_ready j r.0 r.1 r.2

      pub first2 : (j : ℕ) (u : Teller) (q : Await) → slice_get tellers j ≡ Some u → waits_at u ≡ Some q → play.i ≤ j
      first2 j u q eu ew =
          let b = actor_at j u eu in
          let g = whole_at j u eu in
          let tj = beside.each j u g.0 b.0 eu g.1 b.1 in
          play.first j b.0 (record { import = q.import; store = store_behind u.told }) b.1 (tj.parked ∙ ap (parked_of (store_behind u.told)) ew)

      abbrev pub at2 : Waits tellers
      at2 = record { i = play.i; t = t2.0; r = waits2.r; there = t2.1; waits = waits2.is; first = first2 }

      w_is : (program_there programs detaches number tellers c sizes all none_due at2).0 ≡ play.w
      w_is = same_Some _ play.w (sym (program_there programs detaches number tellers c sizes all none_due at2).1 ∙ play.program)

      abbrev pub over2 : Teller
      over2 = record { due = t2.0.due; has_ended = true; answers = t2.0.answers; told = t2.0.told; met = t2.0.met; receive = t2.0.receive }

      pub stall_beside : Beside will wholes (slice_set tellers play.i over2) actors'
      stall_beside =
          subst (λ (l : List Actor). Beside will wholes (slice_set tellers play.i over2) l) (sym play.after)
          (set_beside wholes will will tellers actors play.i t2.0 over2 h2.0 play.a (record play.a { parked = None }) (λ j other. refl) t2.1 h2.1 play.there (record {
            due = tie2.due;
            answers = tie2.answers;
            notes = tie2.notes;
            outcomes = tie2.outcomes;
            parked = refl;
            over = λ e. play.no_more;
          }) beside)

      pub stall_shared : sh' ≡ shared_by will (record { devices = detached number detaches c.devices; boxes = c.boxes; tick = c.tick })
      stall_shared = play.shared ∙ ap (λ (z : Shared). record z { devices = detached number detaches z.devices }) is_shared

      pub stalled_lines : lines ≡ stall_lines programs detaches number tellers c sizes all none_due at2
      stalled_lines =
          play.made
          ∙ (λ k. map (line_at (ap (λ (z : Shared). z.tick) is_shared k) play.i)
          (Rattle.wa_model.specs.Outside.ended (Rattle.wa_model.specs.declared.events.End.TheVariants.Stalled (waits2.at k).import)
          ∷ Rattle.world_model.specs.World.look_events (waits2.at k).store (sym w_is k).looks))

      stall_again : Retold lines actors' sh'
      stall_again = record {
        tellers' = slice_set tellers play.i over2;
        c' = stall_common programs detaches number tellers c sizes all none_due at2;
        sizes' = slice_set sizes play.i 0;
        will' = will;
        small' = small;
        event = tells_stall (subst (λ (l : List Line). TellsStall programs detaches number tellers c l (slice_set tellers play.i (over_now programs detaches number tellers c sizes all none_due at2))
            (stall_common programs detaches number tellers c sizes all none_due at2)) (sym stalled_lines) (stall programs detaches number tellers c sizes all none_due at2));
        holds = stall_keeps programs detaches number tellers c sizes all none_due at2;
        beside' = stall_beside;
        shared = stall_shared;
      }

    event_again : Plays programs detaches number actors sh lines actors' sh' → Retold lines actors' sh'
    event_again (a_turn play) =
        let t = teller_there play.i play.a play.next.there in turn_again play t (whole_at play.i t.0 t.1)
    event_again (a_stall play) =
        let t = teller_there play.i play.a play.there in stall_again play t (whole_at play.i t.0 t.1)

-- who hasn't ended and doesn't wait has notes to come, where ends are told
module _ (programs : List Program) (detaches : List Detach) (count number : ℕ) (wholes : List Whole) (before lines : List Line) (tellers : List Teller) (c : Common) (sizes : List ℕ) (will : ℕ → ℕ)
    (actors last : List Actor) (sh sh' : Shared) (holds : AllHold programs tellers c sizes) (beside : Beside will wholes tellers actors) (calm : Calm before tellers) (going : Going programs tellers)
    (played : Played programs detaches number count actors sh lines last sh') (ends : EndsAreTold programs (before ++ lines) last) where
  pub awake_on : (j : ℕ) (t : Teller) (a : Actor) → slice_get tellers j ≡ Some t → slice_get actors j ≡ Some a → t.has_ended ≡ false → t.receive ≡ None → 0 < length a.notes
  awake_on j t a et ea unended none = by a.notes refl
    where
      by : (ns : List Note) → a.notes ≡ ns → 0 < length a.notes
      by (x ∷ ns) e = let z = ap length e in omega (arith, z)
      by [] e =
          let hw = item wholes j (omega (arith, slice_get_within tellers j t et, beside.wide)) in
          let w = item programs j (omega (arith, slice_get_within tellers j t et, holds.long)) in
          let tie = beside.each j t hw.0 a et hw.1 ea in
          let up : a.parked ≡ None = tie.parked ∙ (λ k. parked_of (store_behind t.told) (if_going (unended k) (none k))) in
          let s = sleeps_all j a ea e up in
          let told_it = ends j w.0 s.1 w.1 s.2 (going j w.0 t w.1 et unended) s.3 s.4 in
          absurd (no_true (sym (list_any-append (λ (l : Line). nat_eq l.program j && is_end l.event) before lines ∙ both_false (tells_end j before) (tells_end j lines) (calm j t et unended) s.0) ∙ told_it))
        where
          sleeps_all : (j : ℕ) (a : Actor) → slice_get actors j ≡ Some a → a.notes ≡ [] → a.parked ≡ None
              → (tells_end j lines ≡ false) × (b : Actor) × (slice_get last j ≡ Some b) × (b.notes ≡ []) × (b.parked ≡ None)
          sleeps_all j a ea e up = sleeps_on programs detaches count number actors last sh sh' lines j a ea e up played

-- ---- all events

pub record AllTold (begun : ℕ) (programs : List Program) (detaches : List Detach) (boxes : List (List ℕ)) (ds : List Device) (wholes : List Whole) (total : ℕ) (lines : List Line) (last : List Actor)
    (sh : Shared) : Type 0 where
  pub count : ℕ
  pub counted : count ≡ total
  pub tellers : List Teller
  pub c : Common
  pub sizes : List ℕ
  pub tells : Tells begun programs detaches boxes ds count lines tellers c
  pub holds : AllHold programs tellers c sizes
  pub will : ℕ → ℕ
  pub small : (j : ℕ) → will j < 2 ^ 32
  pub beside : Beside will wholes tellers last
  pub shared : sh ≡ shared_by will c
  calm : Calm lines tellers
  going : Going programs tellers

module _ (begun : ℕ) (programs : List Program) (detaches : List Detach) (boxes : List (List ℕ)) (ds : List Device) (wholes : List Whole)
    (stories : (i : ℕ) (w : Program) (h : Whole) → slice_get programs i ≡ Some w → slice_get wholes i ≡ Some h → HeldStory w h.outcomes h.notes) where
  walks : (count past number : ℕ) (before lines : List Line) (tellers : List Teller) (c : Common) (sizes : List ℕ) (will : ℕ → ℕ) (actors last : List Actor) (sh sh' : Shared)
      → number ≡ suc (begun + past) → ((j : ℕ) → will j < 2 ^ 32) → Tells begun programs detaches boxes ds past before tellers c → AllHold programs tellers c sizes → Beside will wholes tellers actors
      → Calm before tellers → Going programs tellers → sh ≡ shared_by will c → Played programs detaches number count actors sh lines last sh' → EndsAreTold programs (before ++ lines) last
      → (total : ℕ) → past + count ≡ total → AllTold begun programs detaches boxes ds wholes total (before ++ lines) last sh'
  walks zero past number before lines tellers c sizes will actors last sh sh' numbered small tells holds beside calm going is h ends total all_of =
      record {
        count = past;
        counted = omega (arith, all_of);
        tellers = tellers;
        c = c;
        sizes = sizes;
        tells = subst (λ (l : List Line). Tells begun programs detaches boxes ds past l tellers c) (sym (ap (λ (l : List Line). before ++ l) h.0 ∙ append-nil before)) tells;
        holds = holds;
        will = will;
        small = small;
        beside = subst (λ (l : List Actor). Beside will wholes tellers l) (sym h.1) beside;
        shared = h.2 ∙ is;
        calm = subst (λ (l : List Line). Calm l tellers) (sym (ap (λ (l : List Line). before ++ l) h.0 ∙ append-nil before)) calm;
        going = going;
      }
  walks (suc count) past number before lines tellers c sizes will actors last sh sh' numbered small tells holds beside calm going is h ends total all_of =
      let r = event_again programs detaches (suc (begun + past)) wholes will tellers c sizes holds actors beside stories
      (awake_on programs detaches (suc count) number wholes before lines tellers c sizes will actors last sh sh' holds beside calm going h ends) small sh is h.0 h.2 h.3
      (subst (λ (n : ℕ). Plays programs detaches n actors sh h.0 h.2 h.3) numbered h.4) in
      let lines_are : before ++ lines ≡ (before ++ h.0) ++ h.1 = ap (λ (l : List Line). before ++ l) h.6 ∙ sym (append_assoc before h.0 h.1) in
      subst (λ (l : List Line). AllTold begun programs detaches boxes ds wholes total l last sh') (sym lines_are)
      (walks count (suc past) (suc number) (before ++ h.0) h.1 r.tellers' r.c' r.sizes' r.will' h.2 last h.3 sh' (omega (arith, numbered)) r.small' (before, h.0, tellers, c, tells, r.event, refl) r.holds
      r.beside' (calm_event programs detaches (suc (begun + past)) tellers c before h.0 calm r.tellers' r.c' r.event)
      (going_event programs detaches (suc (begun + past)) tellers c h.0 going r.tellers' r.c' r.event) r.shared h.5 (subst (λ (l : List Line). EndsAreTold programs l last) lines_are ends) total (omega (arith, all_of)))

-- ---- from where programs begin

abbrev pub whole_from : Actor → Whole
whole_from a = record { notes = a.notes; outcomes = a.outcomes }

pub opens_so : (names : List (List ℕ)) → map empty_box names ≡ map (promised (λ (j : ℕ). 0)) (map no_mail names)
opens_so [] = refl
opens_so (n ∷ names) = ap (λ (l : List Mailbox). empty_box n ∷ l) (opens_so names)

module _ (begun : ℕ) (programs : List Program) (detaches : List Detach) (boxes : List (List ℕ)) (ds ds' : List Device) (number : ℕ) (lines : List Line)
    (world : ProtocolWorldUpToFrom begun programs detaches boxes ds number lines ds') where
  pub stories : (i : ℕ) (w : Program) (h : Whole) → slice_get programs i ≡ Some w → slice_get (map whole_from world.actors) i ≡ Some h → HeldStory w h.outcomes h.notes
  stories i w h ew eh =
      let a = item world.actors i (omega (arith, slice_get_within programs i w ew, starts_long programs world.actors world.starts)) in
      let e : whole_from a.0 ≡ h = same_Some (whole_from a.0) h (sym (map_at whole_from world.actors i a.0 a.1) ∙ eh) in
      subst (λ (x : Whole). HeldStory w x.outcomes x.notes) e (zip_both StartsHeld programs world.actors world.starts i w a.0 ew a.1).story

  pub beside : Beside (λ (j : ℕ). 0) (map whole_from world.actors) (map teller_at programs) world.actors
  beside = record {
    wide = length-map world.actors whole_from ∙ starts_long programs world.actors world.starts ∙ sym (length-map programs teller_at);
    long = starts_long programs world.actors world.starts ∙ sym (length-map programs teller_at);
    each = each;
  }
    where
      each : (i : ℕ) (t : Teller) (h : Whole) (a : Actor) → slice_get (map teller_at programs) i ≡ Some t → slice_get (map whole_from world.actors) i ≡ Some h → slice_get world.actors i ≡ Some a → Tied 0 t h a
      each i t h a et eh ea =
          let w = item programs i (omega (arith, slice_get_within (map teller_at programs) i t et, length-map programs teller_at)) in
          let st = zip_both StartsHeld programs world.actors world.starts i w.0 a w.1 ea in
          let e1 : teller_at w.0 ≡ t = same_Some (teller_at w.0) t (sym (map_at teller_at programs i w.0 w.1) ∙ et) in
          let e2 : whole_from a ≡ h = same_Some (whole_from a) h (sym (map_at whole_from world.actors i a ea) ∙ eh) in
          let tie : Tied 0 (teller_at w.0) (whole_from a) a = record {
            due = st.starts.due;
            answers = st.starts.answers;
            notes = refl;
            outcomes = refl;
            parked = st.starts.parked ∙ ap (parked_of no_store) (sym (none_going (begins_over w.0)));
            over = λ e. over_notes w.0 a.outcomes a.notes st.story e;
          } in
          subst (λ (x : Teller). Tied 0 x h a) e1 (subst (λ (x : Whole). Tied 0 (teller_at w.0) x a) e2 tie)

  pub start_going : Going programs (map teller_at programs)
  start_going j w t ew et f = ap (λ (x : Teller). x.has_ended) (same_Some (teller_at w) t (sym (map_at teller_at programs j w ew) ∙ et)) ∙ f

  pub world_told : AllTold begun programs detaches boxes ds (map whole_from world.actors) world.count lines world.now world.shared
  world_told =
      walks begun programs detaches boxes ds (map whole_from world.actors) stories world.count 0 (suc begun) [] lines (map teller_at programs) (told_opening boxes ds) (map start_size programs)
      (λ (j : ℕ). 0) world.actors world.now (sharing boxes ds) world.shared (omega arith) (λ j. omega arith) (refl, refl, refl) (start_holds programs boxes ds) beside (λ j t e f. refl) start_going
      (λ k. record { devices = ds; boxes = opens_so boxes k; tick = 0 }) world.played world.ends world.count (omega arith)

  pub awake_now : (j : ℕ) (t : Teller) (a : Actor) → slice_get world_told.tellers j ≡ Some t → slice_get world.now j ≡ Some a → t.has_ended ≡ false → t.receive ≡ None → 0 < length a.notes
  awake_now j t a et ea unended none = by a.notes refl
    where
      by : (ns : List Note) → a.notes ≡ ns → 0 < length a.notes
      by (x ∷ ns) e = let z = ap length e in omega (arith, z)
      by [] e =
          let hw = item (map whole_from world.actors) j (omega (arith, slice_get_within world_told.tellers j t et, world_told.beside.wide)) in
          let w = item programs j (omega (arith, slice_get_within world_told.tellers j t et, world_told.holds.long)) in
          let tie = world_told.beside.each j t hw.0 a et hw.1 ea in
          let up : a.parked ≡ None = tie.parked ∙ (λ k. parked_of (store_behind t.told) (if_going (unended k) (none k))) in
          absurd (no_true (sym (world_told.calm j t et unended) ∙ world.ends j w.0 a w.1 ea (world_told.going j w.0 t w.1 et unended) e up))

  world_calm : (more : List Line) (actors' : List Actor) (sh' : Shared) → (t : TakesTurn programs detaches (suc number) world.now world.shared more actors' sh')
      → list_any note_stalls (turn_of t.a.notes) ≡ false
  world_calm more actors' sh' t =
      let u = teller_there programs detaches (suc number) (map whole_from world.actors) world_told.will world_told.tellers world_told.c world_told.sizes world_told.holds world.now world_told.beside stories
      awake_now world_told.small t.i t.a t.next.there in
      let h = whole_at programs detaches (suc number) (map whole_from world.actors) world_told.will world_told.tellers world_told.c world_told.sizes world_told.holds world.now world_told.beside stories
      awake_now world_told.small t.i u.0 u.1 in
      calm_again programs detaches (suc number) (map whole_from world.actors) world_told.will world_told.tellers world_told.c world_told.sizes world_told.holds world.now world_told.beside stories
      awake_now world_told.small world.shared world_told.shared more actors' sh' t u h

pub worlds_go_on : WorldsGoOn
worlds_go_on begun programs detaches boxes ds ds' number lines world =
    let all = world_told begun programs detaches boxes ds ds' number lines world in
    told_from begun programs detaches boxes ds all.count lines all.tellers all.c all.sizes all.tells all.holds

pub worlds_stall_last : WorldsStallLast
worlds_stall_last begun programs detaches boxes ds ds' number lines more actors' sh' world play =
    stalls_last programs detaches (suc number) world.now actors' world.shared sh' more play (world_calm begun programs detaches boxes ds ds' number lines world more actors' sh')
