-- Told up to an event and the beginning of the next turn, a world goes on to an end.
use Rattle.std.proofs.Common.{arith, ◌≡◌, ◌<◌, ◌≤◌, ◌+◌, ◌^◌, ◌⊎◌, inl, inr, ℕ, zero, suc, List, [], ◌∷◌, ◌++◌, length, map, Option, Some, None, Bool, true, false, slice_get, slice_set}
use Rattle.std.proofs.Common.{refl, sym, ap, ◌∙◌, subst, append_assoc, append-nil, length-set, length-append}
use Rattle.std.specs.Prelude.{◌||◌}
use Rattle.std.specs.List.{AllZip}
use Rattle.std.specs.Option.{option_map, unwrap_or}
use Rattle.std.proofs.lemmas.Bool.{cases_eq}
use Rattle.std.proofs.lemmas.List.{append_cancel_right, same_from_push}
use Rattle.std.proofs.lemmas.Option.{slice_get_within, same_Some}
use Rattle.wa_types.specs.declared.values.Value.TheVariants as V
use Rattle.wa_model.specs.Behaves.{IsPrefix}
use Rattle.wa_model.specs.declared.answers.Detach.{Detach}
use Rattle.wa_model.specs.Outside.{AnswerLine, Event, Line, called, answered, paused, parked, returned, ended, shown}
use Rattle.wa_model.specs.Plan.{Outcome}
use Rattle.wa_model.specs.Blocking.{Note, events_of}
use Rattle.world_model.specs.World.{Device, Look, Program, ends_turn, events_with_looks, line_at, looks_after, protocol_story}
use Rattle.world_laws.specs.Originals.{new_calls}
use Rattle.world_laws.proofs.Counting.{calls_on}
use Rattle.world_laws.proofs.Places.{item, map_at, of_map, set_here, set_there, zip_both, zipped}
use Rattle.world_laws.proofs.StoryParts.{Begins, begins_any}
use Rattle.mailbox_device.specs.Mail.{Box}
use Rattle.mailbox_device.specs.declared.mailbox.Settled.{Settled}
use Rattle.mail_laws.specs.Mailboxes.{CallsMeet, Mailbox, Midst, Receive, Shared, Waiting, mailed}
use Rattle.mail_laws.specs.MailWorld.{Actor, HeldStory, ProtocolWorldFrom, store_behind, to_end, to_wait, told_pause}
use Rattle.mail_laws.specs.Played.{ProtocolWorldUpToFrom}
use Rattle.mail_laws.specs.Told.{AreSent, Await, BegunGoesOn, Common, HasStory, IsLeast, IsRest, KeepsPromises, NotAmong, Teller, Tells, TellsBeginning, TellsEvent, Unended, begun_amid, due_of, ends_program}
use Rattle.mail_laws.specs.Told.{having_got, having_told, if_going, midst_by, no_teller, number_of, pending, receive_of, HaveMet, promise, promised, settle_all, shared_by, tells_stall, tells_turn, waits_at}
use Rattle.mail_laws.proofs.CallsCounted.{Counted, set_counted, settled_counted, start_counted}
use Rattle.mail_laws.proofs.CallsInRange.{turn_takes}
use Rattle.mail_laws.proofs.SameTurns.{open_receive}
use Rattle.mail_laws.proofs.GoingOn.{Holds, has_told, goes_along, waits_on, c2, due_is, new_sizes, Whole, no_await, now, on_and_on, posted, sent, sum, told_lines, told_there, turn, turn_holds}
use Rattle.mail_laws.proofs.GoneOn.{Kept, going_so, met, run, waits_too}
use Rattle.mail_laws.proofs.Grown.{HasGot, event_grows, got_at, grown_on, prefix_on, settle_out, settled_long}
use Rattle.mail_laws.proofs.PlayedAreTold.{AllTold, Tied, awake_now, unready, whole_from, world_told}
use Rattle.mail_laws.proofs.Played.{starts_long}
use Rattle.mail_laws.proofs.Prepared.{MetOne, MetTo, told_is_world_met, zip_long}
use Rattle.mail_laws.proofs.Promises.{fixed, fixed_keeps, fixed_out, fixed_small, not_sent, still_sent}
use Rattle.mail_laws.proofs.ToldAreWorlds.{due_then, dues_at, not_parked, parked_of, rest_of_none, rest_of_some, rest_some}
use Rattle.mail_laws.proofs.TurnsBegun.{Agrees, Begun, Meeting, at_receive, begins_whole, goes_past}
use Rattle.mail_laws.proofs.TurnsTold.{no_end}

-- ---- promises

waits_back : (will : ℕ → ℕ) (is : List ℕ) → map (λ (x : Waiting). x.program) (map (promise will) is) ≡ is
waits_back will [] = refl
waits_back will (i ∷ is) = ap (λ (l : List ℕ). i ∷ l) (waits_back will is)

-- a mailbox without its promises
abbrev box_back : Mailbox → Box
box_back b = record { name = b.name; values = b.values; waits = map (λ (x : Waiting). x.program) b.waits }

boxes_back : (will : ℕ → ℕ) (bs : List Box) → map box_back (map (promised will) bs) ≡ bs
boxes_back will [] = refl
boxes_back will (b ∷ bs) = λ k. record { name = b.name; values = b.values; waits = waits_back will b.waits k } ∷ boxes_back will bs k

abbrev common_back : Shared → Common
common_back s = record { devices = s.devices; boxes = map box_back s.boxes; tick = s.tick }

back_is : (will : ℕ → ℕ) (c : Common) → common_back (shared_by will c) ≡ c
back_is will c = λ k. record { devices = c.devices; boxes = boxes_back will c.boxes k; tick = c.tick }

-- what is shared is the same whatever is promised
same_common : (will will' : ℕ → ℕ) (c c' : Common) → shared_by will c ≡ shared_by will' c' → c ≡ c'
same_common will will' c c' e = sym (back_is will c) ∙ ap common_back e ∙ back_is will' c'

-- ---- calls

pending_counts : (v : ℕ) (o : Option Await) → length (pending v o) ≡ open_receive o
pending_counts v None = refl
pending_counts v (Some r) = refl

calls_counted : (w : Program) (xs : List Note) (os : List Outcome) (lines left : List AnswerLine) (z z' : Midst) → CallsMeet w xs os lines z [] left z' → new_calls xs ≡ length os
calls_counted w xs os lines left z z' h =
    let t = turn_takes w xs os lines z [] left z' h in
    let e = ap length t.1 in
    omega (arith, e, t.2, length-append t.0 [])

module _ (begun : ℕ) (programs : List Program) (detaches : List Detach) (boxes : List (List ℕ)) (ds : List Device) where
  event_counted : (number : ℕ) (tellers : List Teller) (c : Common) (lines : List Line) (tellers' : List Teller) (c' : Common) → TellsEvent programs detaches number tellers c lines tellers' c'
      → Counted tellers → Counted tellers'
  event_counted number tellers c lines tellers' c' (tells_turn x) h =
      let awake = due_is x.t.has_ended x.t.receive x.t.due x.t.due (same_Some (due_of x.t) (Some x.t.due) (sym (dues_at tellers x.i x.t x.there) ∙ x.next.there)) in
      let out = not_sent tellers x.behind.settled x.i x.t x.there awake.1 x.sent in
      let will : ℕ → ℕ = fixed x.behind.settled (λ (j : ℕ). 0) in
      let small = fixed_small tellers x.behind.settled (λ (j : ℕ). 0) x.sent (λ j. omega arith) in
      let calls = x.calls will small (fixed_keeps tellers x.behind.settled (λ (j : ℕ). 0) x.sent) in
      let made = calls_counted x.w x.turn (x.met ++ pending (will x.i) x.behind.receive) x.t.answers x.answers _ _ calls in
      let both = length-append x.met (pending (will x.i) x.behind.receive) in
      let unanswered = pending_counts (will x.i) x.behind.receive in
      let one = h x.i x.t x.there in
      let none : open_receive x.t.receive ≡ 0 = ap open_receive awake.1 in
      subst Counted (sym x.after)
      (settled_counted (suc x.t.due) x.behind.settled (slice_set tellers x.i (having_told x.t x.turn x.met x.answers x.behind.receive))
      (still_sent tellers x.behind.settled x.i (having_told x.t x.turn x.met x.answers x.behind.receive) out x.sent)
      (set_counted tellers x.i (having_told x.t x.turn x.met x.answers x.behind.receive) h
      (omega (arith, calls_on x.t.told x.turn, length-append x.t.met x.met, one, none, made, both, unanswered))))
  event_counted number tellers c lines tellers' c' (tells_stall x) h = subst Counted (sym x.after) (set_counted tellers x.i (record x.t { has_ended = true }) h (h x.i x.t x.there))

  tells_counted : (count : ℕ) (lines : List Line) (tellers : List Teller) (c : Common) → Tells begun programs detaches boxes ds count lines tellers c → Counted tellers
  tells_counted zero lines tellers c tells = subst Counted (sym tells.1) (start_counted programs)
  tells_counted (suc count) lines tellers c tells =
      event_counted (suc (begun + count)) tells.2 tells.3 tells.1 tellers c tells.5 (tells_counted count tells.0 tells.2 tells.3 tells.4)

-- ---- lines

unended_live : (xs : List Note) → Unended xs → ends_program xs ≡ false
unended_live [] h = refl
unended_live (x ∷ xs) h = ap (λ (b : Bool). b || ends_program xs) (no_end x.event h.0) ∙ unended_live xs h.1

no_looks : (looks : List Look) (x : Note) (e : Event) → ends_turn e ≡ false → looks_after looks x e ≡ []
no_looks looks x (called c) h = refl
no_looks looks x (answered c) h = refl
no_looks looks x (parked u) h = refl
no_looks looks x (returned i v) h = refl
no_looks looks x (shown i v) h = refl
no_looks looks x (paused t u) h = absurd cc
no_looks looks x (ended how) h = absurd cc

as_told : {X : Type 0} (p : Option X) (e : Event) → ends_turn e ≡ false → told_pause p e ≡ e
as_told None e h = refl
as_told (Some r) (called c) h = refl
as_told (Some r) (answered c) h = refl
as_told (Some r) (parked u) h = refl
as_told (Some r) (returned i v) h = refl
as_told (Some r) (shown i v) h = refl
as_told (Some r) (paused t u) h = absurd cc
as_told (Some r) (ended how) h = absurd cc

-- the lines of a turn begin with those of the notes that don't end it
lines_begin : (looks : List Look) (due i : ℕ) (p : Option Await) (xs ys : List Note) → Unended xs
    → map (λ (e : Event). line_at due i (told_pause p e)) (events_with_looks looks (xs ++ ys)) ≡ map (line_at due i) (events_of xs) ++ map (λ (e : Event). line_at due i (told_pause p e)) (events_with_looks looks ys)
lines_begin looks due i p [] ys h = refl
lines_begin looks due i p (x ∷ xs) ys h =
    ap (λ (l : List Event). map (λ (e : Event). line_at due i (told_pause p e)) ((x.event ∷ l) ++ events_with_looks looks (xs ++ ys))) (no_looks looks x x.event h.0)
    ∙ (λ k. line_at due i (as_told p x.event h.0 k) ∷ lines_begin looks due i p xs ys h.1 k)

-- ---- who was sent a value

-- Who isn't among those that were sent one stays, and who is has got what was promised.
sent_at : (will : ℕ → ℕ) (due : ℕ) (ss : List Settled) (tellers : List Teller) (j : ℕ) (t : Teller) → AreSent tellers ss → KeepsPromises will ss → slice_get (settle_all due ss tellers) j ≡ Some t
    → ((slice_get tellers j ≡ Some t) × NotAmong j ss)
    ⊎ ((u : Teller) × (slice_get tellers j ≡ Some u) × (t ≡ having_got due (will j) u) × ((r : Await) × (u.receive ≡ Some r)) × (u.has_ended ≡ false)
    × ((other : ℕ → ℕ) → Agrees will other (map number_of ss) → other j ≡ will j))
sent_at will due [] tellers j t sends keeps e = inl (e, tt)
sent_at will due (s ∷ ss) tellers j t sends keeps e =
    by (cases_eq j s.program) (λ there. sent_at will due ss (slice_set tellers s.program got) j t (still_sent tellers ss s.program got sends.2 sends.3) keeps.1 there)
  where
    got : Teller
    got = having_got due s.value (unwrap_or (slice_get tellers s.program) no_teller)

    Result : Type 0
    Result =
        ((slice_get tellers j ≡ Some t) × NotAmong j (s ∷ ss))
        ⊎ ((u : Teller) × (slice_get tellers j ≡ Some u) × (t ≡ having_got due (will j) u) × ((r : Await) × (u.receive ≡ Some r)) × (u.has_ended ≡ false)
        × ((other : ℕ → ℕ) → Agrees will other (map number_of (s ∷ ss)) → other j ≡ will j))

    On : Type 0
    On =
        ((slice_get (slice_set tellers s.program got) j ≡ Some t) × NotAmong j ss)
        ⊎ ((u : Teller) × (slice_get (slice_set tellers s.program got) j ≡ Some u) × (t ≡ having_got due (will j) u) × ((r : Await) × (u.receive ≡ Some r)) × (u.has_ended ≡ false)
        × ((other : ℕ → ℕ) → Agrees will other (map number_of ss) → other j ≡ will j))

    by : (j ≡ s.program) ⊎ (j ≡ s.program → ⊥) → (slice_get (settle_all due ss (slice_set tellers s.program got)) j ≡ Some t → On) → Result
    by (inl same) later =
        let is : got ≡ t =
        same_Some got t (sym (settle_out due ss (slice_set tellers s.program got) s.program sends.2 ∙ set_here tellers s.program got sends.0.t sends.0.there)
        ∙ ap (slice_get (settle_all due ss (slice_set tellers s.program got))) (sym same) ∙ e) in
        let value : s.value ≡ will j = sym keeps.0 ∙ ap will (sym same) in
        inr (
          sends.0.t,
          ap (slice_get tellers) same ∙ sends.0.there,
          sym is ∙ ap (λ (o : Option Teller). having_got due s.value (unwrap_or o no_teller)) sends.0.there ∙ ap (λ (v : ℕ). having_got due v sends.0.t) value,
          (sends.0.r, sends.0.waits),
          sends.0.unfinished,
          λ other a. ap other same ∙ a.0 ∙ ap will (sym same),
        )
    by (inr other_one) later = on (later e)
      where
        on : On → Result
        on (inl h) = inl (sym (set_there tellers s.program j got other_one) ∙ h.0, (other_one, h.1))
        on (inr h) = inr (h.0, sym (set_there tellers s.program j got other_one) ∙ h.1, h.2, h.3, h.4, λ other a. h.5 other a.1)

-- ---- a turn that has begun

module _ (begun : ℕ) (programs : List Program) (detaches : List Detach) (boxes : List (List ℕ)) (ds : List Device) (count : ℕ) (lines : List Line) (tellers : List Teller)
    (b : TellsBeginning begun programs detaches boxes ds count lines tellers) (all : AllZip HasStory programs tellers) where
  abbrev ss : List Settled
  ss = b.behind.settled

  awake : (b.t.has_ended ≡ false) × (b.t.receive ≡ None) × (b.t.due ≡ b.t.due)
  awake = due_is b.t.has_ended b.t.receive b.t.due b.t.due (same_Some (due_of b.t) (Some b.t.due) (sym (dues_at b.mid b.i b.t b.there) ∙ b.next.there))

  out : NotAmong b.i ss
  out = not_sent b.mid ss b.i b.t b.there awake.1 b.sent

  abbrev told : Teller
  told = having_told b.t b.turn b.met b.answers b.behind.receive

  abbrev base : List Teller
  base = slice_set b.mid b.i told

  there_now : slice_get tellers b.i ≡ Some told
  there_now = ap (λ (l : List Teller). slice_get l b.i) b.after ∙ settle_out (suc b.t.due) ss base b.i out ∙ set_here b.mid b.i told b.t b.there

  story : HasStory b.w told
  story = zip_both HasStory programs tellers all b.i b.w told b.program there_now

  -- what was sent, and else what the story of the turn's program takes
  abbrev will : ℕ → ℕ
  will = fixed ss (λ (j : ℕ). story.value)

  small : (j : ℕ) → will j < 2 ^ 32
  small = fixed_small b.mid ss (λ (j : ℕ). story.value) b.sent (λ j. story.small)

  value_is : will b.i ≡ story.value
  value_is = fixed_out ss (λ (j : ℕ). story.value) b.i out

  abbrev us : List Outcome
  us = b.met ++ pending (will b.i) b.behind.receive

  calls : CallsMeet b.w b.turn us b.t.answers (midst_by will b.i (begun_amid (suc (begun + count)) detaches b.c)) [] b.answers (midst_by will b.i b.behind)
  calls = b.calls will small (fixed_keeps b.mid ss (λ (j : ℕ). story.value) b.sent)

  some_turn : (r : Await) → b.behind.receive ≡ Some r → 0 < length (b.turn ++ story.rest)
  some_turn r e =
      let made = calls_counted b.w b.turn us b.t.answers b.answers _ _ calls in
      let both = length-append b.met (pending (will b.i) b.behind.receive) in
      let unanswered = pending_counts (will b.i) b.behind.receive in
      let one : open_receive b.behind.receive ≡ 1 = ap open_receive e in
      by b.turn refl (omega (arith, made, both, unanswered, one))
    where
      by : (ns : List Note) → b.turn ≡ ns → 0 < new_calls b.turn → 0 < length (b.turn ++ story.rest)
      by [] is some = let z : new_calls b.turn ≡ 0 = ap new_calls is in let never : ⊥ = omega (arith, z, some) in absurd never
      by (x ∷ xs) is some = let z = ap length is in omega (arith, z, length-append b.turn story.rest)

  some_rest : 0 < length (b.turn ++ story.rest)
  some_rest = by b.behind.receive refl
    where
      by : (o : Option Await) → b.behind.receive ≡ o → 0 < length (b.turn ++ story.rest)
      by (Some r) e = some_turn r e
      by None e =
          let some : 0 < length story.rest = subst (λ (x : Bool). IsRest x None story.rest) (unended_live b.turn b.unended) (subst (λ (o : Option Await). IsRest (ends_program b.turn) o story.rest) e story.is_rest) in
          omega (arith, some, length-append b.turn story.rest)

  -- the story as it was before the turn
  before_story : HasStory b.w b.t
  before_story = record {
    value = 0;
    small = omega arith;
    rest = b.turn ++ story.rest;
    more = b.met ++ pending story.value b.behind.receive ++ story.more;
    story = subst (λ (ns : List Note). HeldStory b.w (b.t.met ++ pending 0 b.t.receive ++ (b.met ++ pending story.value b.behind.receive ++ story.more)) ns) (append_assoc b.t.told b.turn story.rest)
        (subst (λ (os : List Outcome). HeldStory b.w os ((b.t.told ++ b.turn) ++ story.rest)) outcomes story.story);
    is_rest = rest_of_none (b.turn ++ story.rest) b.t.has_ended b.t.receive awake.0 awake.1 some_rest;
  }
    where
      later : List Outcome
      later = b.met ++ pending story.value b.behind.receive

      outcomes : b.t.met ++ b.met ++ pending story.value b.behind.receive ++ story.more ≡ b.t.met ++ pending 0 b.t.receive ++ (later ++ story.more)
      outcomes =
          ap (λ (l : List Outcome). l ++ story.more) (append_assoc b.t.met b.met (pending story.value b.behind.receive))
          ∙ append_assoc b.t.met later story.more
          ∙ ap (λ (l : List Outcome). l ++ (later ++ story.more)) (sym (append-nil b.t.met))
          ∙ ap (λ (o : Option Await). b.t.met ++ pending 0 o ++ (later ++ story.more)) (sym awake.1)

  long : length tellers ≡ length b.mid
  long = ap length b.after ∙ settled_long (suc b.t.due) ss base ∙ length-set b.mid b.i told

  stories_before : AllZip HasStory programs b.mid
  stories_before = zipped HasStory programs b.mid (sym long ∙ zip_long programs tellers all) each
    where
      got_story : (w : Program) (u t : Teller) → HasGot (suc b.t.due) u t → HasStory w t → HasStory w u
      got_story w u t g s = by (subst (HasStory w) g.is s)
        where
          by : HasStory w (having_got (suc b.t.due) g.value u) → HasStory w u
          by s = record {
            value = g.value;
            small = g.small;
            rest = s.rest;
            more = s.more;
            story = subst (λ (os : List Outcome). HeldStory w os (u.told ++ s.rest))
                (ap (λ (l : List Outcome). l ++ s.more) (append-nil (u.met ++ pending g.value (Some g.r))) ∙ ap (λ (o : Option Await). u.met ++ pending g.value o ++ s.more) (sym g.receive)) s.story;
            is_rest = rest_of_some s.rest u.has_ended u.receive g.r g.unfinished g.receive;
          }

      each : (j : ℕ) (w : Program) (u : Teller) → slice_get programs j ≡ Some w → slice_get b.mid j ≡ Some u → HasStory w u
      each j w u ew eu = at (cases_eq j b.i)
        where
          at : (j ≡ b.i) ⊎ (j ≡ b.i → ⊥) → HasStory w u
          at (inl same) =
              subst (λ (x : Program). HasStory x u) (same_Some b.w w (sym b.program ∙ ap (slice_get programs) (sym same) ∙ ew))
              (subst (HasStory b.w) (same_Some b.t u (sym b.there ∙ ap (slice_get b.mid) (sym same) ∙ eu)) before_story)
          at (inr other) = by (item tellers j (omega (arith, slice_get_within b.mid j u eu, long)))
            where
              by : (t : Teller) × (slice_get tellers j ≡ Some t) → HasStory w u
              by t =
                  with_story (zip_both HasStory programs tellers all j w t.0 ew t.1)
                  (got_at (suc b.t.due) ss base j u t.0 (still_sent b.mid ss b.i told out b.sent) (set_there b.mid b.i j told other ∙ eu)
                  (ap (λ (l : List Teller). slice_get l j) (sym b.after) ∙ t.1))
                where
                  with_story : HasStory w t.0 → (t.0 ≡ u) ⊎ HasGot (suc b.t.due) u t.0 → HasStory w u
                  with_story s (inl same) = subst (HasStory w) same s
                  with_story s (inr g) = got_story w u t.0 g s

  abbrev up : (world : ProtocolWorldUpToFrom begun programs detaches boxes ds (begun + count) b.before b.c.devices) × MetTo b.mid world.actors world.now × (will : ℕ → ℕ) × (world.shared ≡ shared_by will b.c)
  up = told_is_world_met begun programs detaches boxes ds count b.before b.mid b.c b.whole stories_before

  -- the same told again, from which it goes on
  abbrev again : AllTold begun programs detaches boxes ds (map whole_from up.0.actors) up.0.count b.before up.0.now up.0.shared
  again = world_told begun programs detaches boxes ds b.c.devices (begun + count) b.before up.0

  common_is : b.c ≡ again.c
  common_is = same_common up.2 again.will b.c again.c (sym up.3 ∙ again.shared)

  count_is : count ≡ again.count
  count_is = let a = again.counted in let n = up.0.numbered in omega (arith, a, n)

  -- One program as it was told and as it is told again.
  record Twice (j : ℕ) : Type 0 where
    first : Actor
    now_there : Actor
    old : Teller
    new : Teller
    at_now : slice_get up.0.now j ≡ Some now_there
    at_old : slice_get b.mid j ≡ Some old
    at_new : slice_get again.tellers j ≡ Some new
    tied : Tied (again.will j) new (whole_from first) now_there
    met_one : MetOne old first now_there

  twice : (j : ℕ) → j < length programs → Twice j
  twice j within =
      let a = item up.0.actors j (omega (arith, within, starts_long programs up.0.actors up.0.starts)) in
      let t = item again.tellers j (omega (arith, within, again.holds.long)) in
      let n = item up.0.now j (omega (arith, within, again.holds.long, again.beside.long)) in
      let m = item b.mid j (omega (arith, within, zip_long programs b.mid stories_before)) in
      record {
        first = a.0;
        now_there = n.0;
        old = m.0;
        new = t.0;
        at_now = n.1;
        at_old = m.1;
        at_new = t.1;
        tied = again.beside.each j t.0 (whole_from a.0) n.0 t.1 (map_at whole_from up.0.actors j a.0 a.1) n.1;
        met_one = up.1 j m.0 a.0 n.0 m.1 a.1 n.1;
      }

  module _ (j : ℕ) (x : Twice j) where
    due_same : x.new.due ≡ x.old.due
    due_same = sym x.tied.due ∙ x.met_one.due

    told_same : x.new.told ≡ x.old.told
    told_same = append_cancel_right x.new.told x.old.told x.now_there.notes (x.tied.notes ∙ sym x.met_one.notes)

    -- who was due is
    due_still : x.old.has_ended ≡ false → x.old.receive ≡ None → (x.new.has_ended ≡ false) × (x.new.receive ≡ None)
    due_still e f =
        unready (again.will j) x.new (whole_from x.first) x.now_there x.tied (record {
          unfinished = subst (λ (o : Option Await). IsRest false o x.now_there.notes) f (subst (λ (y : Bool). IsRest y x.old.receive x.now_there.notes) e x.met_one.is_rest);
          awake = x.met_one.parked ∙ (λ k. parked_of (store_behind x.old.told) (if_going (e k) (f k)));
        })

    -- and no other is
    due_before : (tick : ℕ) → due_of x.new ≡ Some tick → due_of x.old ≡ Some tick
    due_before tick e =
        let d = due_is x.new.has_ended x.new.receive x.new.due tick e in
        let some = awake_now begun programs detaches boxes ds b.c.devices (begun + count) b.before up.0 j x.new x.now_there x.at_new x.at_now d.0 d.1 in
        let up_now : x.now_there.parked ≡ None = x.tied.parked ∙ (λ k. parked_of (store_behind x.new.told) (if_going (d.0 k) (d.1 k))) in
        due_then x.old.has_ended x.old.receive x.old.due (rest_some x.old.has_ended x.old.receive x.now_there.notes x.met_one.is_rest some)
        (not_parked (store_behind x.old.told) (waits_at x.old) (sym x.met_one.parked ∙ up_now))
        ∙ ap (λ (n : ℕ). Some n) (sym due_same ∙ sym d.2)

  abbrev here : Twice b.i
  here = twice b.i (slice_get_within programs b.i b.w b.program)

  old_is : here.old ≡ b.t
  old_is = same_Some here.old b.t (sym here.at_old ∙ b.there)

  new_awake : (here.new.has_ended ≡ false) × (here.new.receive ≡ None)
  new_awake = due_still b.i here (ap (λ (x : Teller). x.has_ended) old_is ∙ awake.0) (ap (λ (x : Teller). x.receive) old_is ∙ awake.1)

  due_new : here.new.due ≡ b.t.due
  due_new = due_same b.i here ∙ ap (λ (x : Teller). x.due) old_is

  told_new : here.new.told ≡ b.t.told
  told_new = told_same b.i here ∙ ap (λ (x : Teller). x.told) old_is

  answers_new : b.t.answers ≡ here.new.answers
  answers_new = sym (ap (λ (x : Teller). x.answers) old_is) ∙ sym here.met_one.answers ∙ here.tied.answers

  met_new : here.new.met ≡ b.t.met
  met_new =
      append_cancel_right here.new.met b.t.met here.now_there.outcomes
      (ap (λ (l : List Outcome). l ++ here.now_there.outcomes) (sym (append-nil here.new.met))
      ∙ ap (λ (o : Option Await). here.new.met ++ pending (again.will b.i) o ++ here.now_there.outcomes) (sym new_awake.1)
      ∙ here.tied.outcomes ∙ sym here.met_one.outcomes
      ∙ ap (λ (x : Teller). x.met ++ pending here.met_one.value x.receive ++ here.now_there.outcomes) old_is
      ∙ ap (λ (o : Option Await). b.t.met ++ pending here.met_one.value o ++ here.now_there.outcomes) awake.1
      ∙ ap (λ (l : List Outcome). l ++ here.now_there.outcomes) (append-nil b.t.met))

  next : IsLeast (map due_of again.tellers) b.i here.new.due
  next = record {
    there = dues_at again.tellers b.i here.new here.at_new ∙ ap (λ (o : Option ℕ). Some o) (due_then here.new.has_ended here.new.receive here.new.due new_awake.0 (λ k. if_going (new_awake.0 k) (new_awake.1 k)));
    least = λ other tick e.
        let u = of_map due_of again.tellers other (Some tick) e in
        let x = twice other (omega (arith, slice_get_within again.tellers other u.0 u.1, again.holds.long)) in
        let same : x.new ≡ u.0 = same_Some x.new u.0 (sym x.at_new ∙ u.1) in
        let was = due_before other x tick (ap due_of same ∙ u.2) in
        subst (λ (n : ℕ). (n < tick) ⊎ ((n ≡ tick) × (b.i ≤ other))) (sym due_new)
        (b.next.least other tick (dues_at b.mid other x.old x.at_old ∙ ap (λ (o : Option ℕ). Some o) was));
  }

  -- ---- what is told begins every story

  counted_now : new_calls (b.t.told ++ b.turn) ≡ length (b.t.met ++ us)
  counted_now =
      let one = tells_counted begun programs detaches boxes ds count b.before b.mid b.c b.whole b.i b.t b.there in
      let none : open_receive b.t.receive ≡ 0 = ap open_receive awake.1 in
      let made = calls_counted b.w b.turn us b.t.answers b.answers _ _ calls in
      omega (arith, one, none, made, calls_on b.t.told b.turn, length-append b.t.met us)

  begins : Begins b.w ((b.t.met ++ us) ++ story.more) (b.t.told ++ b.turn)
  begins = by (subst (λ (os : List Outcome). HeldStory b.w os ((b.t.told ++ b.turn) ++ story.rest)) outcomes story.story)
    where
      outcomes : b.t.met ++ b.met ++ pending story.value b.behind.receive ++ story.more ≡ (b.t.met ++ us) ++ story.more
      outcomes =
          ap (λ (l : List Outcome). l ++ story.more)
          (append_assoc b.t.met b.met (pending story.value b.behind.receive) ∙ ap (λ (n : ℕ). b.t.met ++ (b.met ++ pending n b.behind.receive)) (sym value_is))

      by : HeldStory b.w ((b.t.met ++ us) ++ story.more) ((b.t.told ++ b.turn) ++ story.rest) → Begins b.w ((b.t.met ++ us) ++ story.more) (b.t.told ++ b.turn)
      by (to_end e) = (story.rest, sym e)
      by (to_wait rest e cut) = (story.rest ++ rest, e ∙ append_assoc (b.t.told ++ b.turn) story.rest rest)

  fits : (more : List Outcome) → (rest : List Note) × (protocol_story b.w (here.new.met ++ (us ++ more)) ≡ here.new.told ++ (b.turn ++ rest))
  fits more =
      let any = begins_any b.w (b.t.met ++ us) story.more more (b.t.told ++ b.turn) counted_now begins in (
        any.0,
        ap (protocol_story b.w) (ap (λ (l : List Outcome). l ++ (us ++ more)) met_new ∙ sym (append_assoc b.t.met us more))
            ∙ any.1
            ∙ append_assoc b.t.told b.turn any.0
            ∙ ap (λ (l : List Note). l ++ (b.turn ++ any.0)) (sym told_new),
      )

  -- ---- the turn to its end

  abbrev number : ℕ
  number = suc (begun + again.count)

  calls_here : CallsMeet b.w b.turn us here.new.answers (midst_by will b.i (begun_amid number detaches again.c)) [] b.answers (midst_by will b.i b.behind)
  calls_here =
      subst (λ (l : List AnswerLine). CallsMeet b.w b.turn us l (midst_by will b.i (begun_amid number detaches again.c)) [] b.answers (midst_by will b.i b.behind)) answers_new
      (subst (λ (c : Common). CallsMeet b.w b.turn us b.t.answers (midst_by will b.i (begun_amid number detaches c)) [] b.answers (midst_by will b.i b.behind)) common_is
      (subst (λ (n : ℕ). CallsMeet b.w b.turn us b.t.answers (midst_by will b.i (begun_amid (suc (begun + n)) detaches b.c)) [] b.answers (midst_by will b.i b.behind)) count_is calls))

  abbrev Result : Type 0
  Result = (more : List Line) × (last : List Device) × (world : ProtocolWorldFrom begun programs detaches boxes ds (lines ++ more) last) × HaveMet tellers world.actors

  result : Result
  result = by_size (item again.sizes b.i (omega (arith, slice_get_within programs b.i b.w b.program, again.holds.long, again.holds.wide)))
    where
      by_size : (n : ℕ) × (slice_get again.sizes b.i ≡ Some n) → Result
      by_size n = by_held (again.holds.each b.i b.w here.new n.0 b.program here.at_new n.1)
        where
          by_held : Holds b.w here.new n.0 → Result
          by_held (has_told e s) = let bad : true ≡ false = sym e ∙ new_awake.0 in absurd cc
          by_held (waits_on e r some size ns cut st) = absurd (no_await r (sym new_awake.1 ∙ some))
          by_held (goes_along e none size ns knows) =
              by_turn
              (begins_whole b.w b.i here.new again.tellers (begun_amid number detaches again.c) size will b.answers (midst_by will b.i b.behind) us refl
              (posted programs detaches number again.tellers again.c again.sizes again.holds b.i here.new.due next) tt knows us b.turn fits b.unended calls_here refl)
            where
              by_turn : Begun b.w b.i here.new again.tellers (begun_amid number detaches again.c) size will b.answers (midst_by will b.i b.behind) us [] b.turn → Result
              by_turn be = (behind ++ on.more, last, both.0, both.1)
                where
                  made : List Line
                  made = told_lines programs detaches number again.tellers again.c again.sizes again.holds b.i b.w here.new n.0 b.program here.at_new n.1 new_awake.0 new_awake.1 next size ns be.tu

                  then : List Teller
                  then = now programs detaches number again.tellers again.c again.sizes again.holds b.i b.w here.new n.0 b.program here.at_new n.1 new_awake.0 new_awake.1 next size ns be.tu

                  c_then : Common
                  c_then = c2 programs detaches number again.tellers again.c again.sizes again.holds b.i b.w here.new n.0 b.program here.at_new n.1 new_awake.0 new_awake.1 next size ns be.tu

                  tells : Tells begun programs detaches boxes ds (suc again.count) (b.before ++ made) then c_then
                  tells = (
                    b.before,
                    made,
                    again.tellers,
                    again.c,
                    again.tells,
                    tells_turn (turn programs detaches number again.tellers again.c again.sizes again.holds b.i b.w here.new n.0 b.program here.at_new n.1 new_awake.0 new_awake.1 next size ns be.tu),
                    refl,
                  )

                  on : Whole begun programs detaches boxes ds (b.before ++ made) then
                  on =
                      on_and_on begun programs detaches boxes ds (sum (new_sizes programs detaches number again.tellers again.c again.sizes again.holds b.i b.w here.new n.0 b.program here.at_new n.1 new_awake.0 new_awake.1 next size ns be.tu)) (suc again.count) (b.before ++ made) then c_then
                      (new_sizes programs detaches number again.tellers again.c again.sizes again.holds b.i b.w here.new n.0 b.program here.at_new n.1 new_awake.0 new_awake.1 next size ns be.tu) (omega arith) tells (turn_holds programs detaches number again.tellers again.c again.sizes again.holds b.i b.w here.new n.0 b.program here.at_new n.1 new_awake.0 new_awake.1 next size ns be.tu)

                  all_on : Whole begun programs detaches boxes ds b.before again.tellers
                  all_on = record {
                    count = on.count;
                    more = made ++ on.more;
                    tellers = on.tellers;
                    c = on.c;
                    sizes = on.sizes;
                    tells = subst (λ (l : List Line). Tells begun programs detaches boxes ds on.count l on.tellers on.c) (append_assoc b.before made on.more) on.tells;
                    holds = on.holds;
                    over = on.over;
                    grown = grown_on again.tellers then on.tellers (event_grows programs detaches number again.tellers again.c made then c_then (tells_turn (turn programs detaches number again.tellers again.c again.sizes again.holds b.i b.w here.new n.0 b.program here.at_new n.1 new_awake.0 new_awake.1 next size ns be.tu))) on.grown;
                  }

                  last : List Device
                  last = on.c.devices

                  ran : (world : ProtocolWorldFrom begun programs detaches boxes ds (b.before ++ (made ++ on.more)) last)
                      × ((j : ℕ) (t : Teller) (a : Actor) → slice_get on.tellers j ≡ Some t → slice_get world.actors j ≡ Some a
                      → (value : ℕ) × (value < 2 ^ 32) × Kept begun programs detaches boxes ds count b.before b.mid b.c b.whole stories_before all_on j value × IsPrefix (t.met ++ pending value t.receive) a.outcomes)
                  ran = run begun programs detaches boxes ds count b.before b.mid b.c b.whole stories_before all_on

                  -- what a program met behind the turn it met in the end
                  in_the_end : (j : ℕ) (t : Teller) (a : Actor) → slice_get then j ≡ Some t → slice_get ran.0.actors j ≡ Some a
                      → (v : ℕ) × (v < 2 ^ 32) × IsPrefix (t.met ++ pending v t.receive) a.outcomes
                  in_the_end j t a et ea =
                      let x = item on.tellers j (omega (arith, slice_get_within then j t et, on.grown.long)) in
                      let f = ran.1 j x.0 a x.1 ea in
                      let k = (on.grown.each j t x.0 et x.1).later f.0 f.1 in
                      (k.0, k.1, prefix_on (t.met ++ pending k.0 t.receive) (x.0.met ++ pending f.0 x.0.receive) a.outcomes k.2 f.3)

                  Meets : Teller → Actor → Type 0
                  Meets t a = (value : ℕ) × (value < 2 ^ 32) × IsPrefix (t.met ++ pending value t.receive) a.outcomes

                  -- the program of the turn
                  turn_met : (a : Actor) → slice_get ran.0.actors b.i ≡ Some a → Meets told a
                  turn_met a ea = by be.meeting
                    where
                      k : (v : ℕ) × (v < 2 ^ 32) × IsPrefix ((here.new.met ++ be.tu.met) ++ pending v be.tu.behind.receive) a.outcomes
                      k = in_the_end b.i (having_told here.new be.tu.turn be.tu.met be.tu.answers be.tu.behind.receive) a (told_there programs detaches number again.tellers again.c again.sizes again.holds b.i b.w here.new n.0 b.program here.at_new n.1 new_awake.0 new_awake.1 next size ns be.tu) ea

                      pend : List Outcome
                      pend = pending k.0 be.tu.behind.receive

                      got_some : (o : Option Await) (q : Receive) → option_map (receive_of (will b.i)) o ≡ Some q → (r : Await) × (o ≡ Some r)
                      got_some None q e = absurd cc
                      got_some (Some r) q e = (r, refl)

                      by : Meeting b.w b.i here.new again.tellers (begun_amid number detaches again.c) size will b.answers (midst_by will b.i b.behind) us be.tu.met be.tu.behind.receive → Meets told a
                      by (goes_past later e) = (
                        will b.i,
                        small b.i,
                        prefix_on ((b.t.met ++ b.met) ++ pending (will b.i) b.behind.receive) ((here.new.met ++ be.tu.met) ++ pend) a.outcomes (
                          later ++ pend,
                          ap (λ (l : List Outcome). (l ++ be.tu.met) ++ pend) met_new
                              ∙ ap (λ (l : List Outcome). (b.t.met ++ l) ++ pend) e
                              ∙ ap (λ (l : List Outcome). l ++ pend) (sym (append_assoc b.t.met us later))
                              ∙ append_assoc (b.t.met ++ us) later pend
                              ∙ ap (λ (l : List Outcome). l ++ (later ++ pend)) (sym (append_assoc b.t.met b.met (pending (will b.i) b.behind.receive))),
                        )
                            k.2,
                      )
                      by (at_receive value little tot r received q zq) =
                          let some = got_some b.behind.receive q zq in
                          let is : b.met ≡ be.tu.met = (same_from_push b.met be.tu.met _ _ ((λ k. b.met ++ pending (will b.i) (sym some.1 k)) ∙ tot)).0 in (
                            k.0,
                            k.1,
                            subst (λ (os : List Outcome). IsPrefix os a.outcomes)
                                ((λ m. (met_new m ++ sym is m) ++ pending k.0 (received m)) ∙ (λ m. (b.t.met ++ b.met) ++ pending k.0 (sym some.1 m))) k.2,
                          )

                  -- who was sent a value
                  got_met : (j : ℕ) (a : Actor) (x : Twice j) → (j ≡ b.i → ⊥) → slice_get ran.0.actors j ≡ Some a → (u : Teller) → (u ≡ x.old) → (r : Await) → u.receive ≡ Some r → u.has_ended ≡ false
                      → ((other : ℕ → ℕ) → Agrees will other (map number_of ss) → other j ≡ will j) → Meets (having_got (suc b.t.due) (will j) u) a
                  got_met j a x apart ea u is r waits going agree = by (sent_at promises (suc here.new.due) be.tu.behind.settled base2 j v.0 sent2 kept v.1)
                    where
                      told2 : Teller
                      told2 = having_told here.new be.tu.turn be.tu.met be.tu.answers be.tu.behind.receive

                      base2 : List Teller
                      base2 = slice_set again.tellers b.i told2

                      v : (t : Teller) × (slice_get then j ≡ Some t)
                      v = item then j (omega (arith, slice_get_within again.tellers j x.new x.at_new, settled_long (suc here.new.due) be.tu.behind.settled base2, length-set again.tellers b.i told2))

                      promises : ℕ → ℕ
                      promises = fixed be.tu.behind.settled (λ (o : ℕ). suc (will j))

                      sent1 : AreSent again.tellers be.tu.behind.settled
                      sent1 = sent programs detaches number again.tellers again.c again.sizes again.holds b.i b.w here.new n.0 b.program here.at_new n.1 new_awake.0 new_awake.1 next size ns be.tu

                      sent2 : AreSent base2 be.tu.behind.settled
                      sent2 = still_sent again.tellers be.tu.behind.settled b.i told2 (not_sent again.tellers be.tu.behind.settled b.i here.new here.at_new new_awake.1 sent1) sent1

                      kept : KeepsPromises promises be.tu.behind.settled
                      kept = fixed_keeps again.tellers be.tu.behind.settled (λ (o : ℕ). suc (will j)) sent1

                      same_value : promises j ≡ will j
                      same_value = agree promises (be.sent promises kept)

                      -- it waited, in both
                      met_same : x.new.met ≡ u.met
                      met_same =
                          let old_waits : waits_at x.old ≡ Some r = ap waits_at (sym is) ∙ (λ k. if_going (going k) (waits k)) in
                          let w2 = waits_too (store_behind x.new.told) (store_behind x.old.told) (waits_at x.new) (waits_at x.old) r (sym x.tied.parked ∙ x.met_one.parked) old_waits in
                          let some : x.new.receive ≡ Some w2.0 = going_so x.new.has_ended x.new.receive w2.0 w2.1 in
                          let both : x.new.met ++ pending (again.will j) x.new.receive ≡ x.old.met ++ pending x.met_one.value x.old.receive =
                          append_cancel_right (x.new.met ++ pending (again.will j) x.new.receive) (x.old.met ++ pending x.met_one.value x.old.receive) x.now_there.outcomes
                          (x.tied.outcomes ∙ sym x.met_one.outcomes) in
                          let pushed : x.new.met ++ pending (again.will j) (Some w2.0) ≡ u.met ++ pending x.met_one.value (Some r) =
                          (λ k. x.new.met ++ pending (again.will j) (sym some k)) ∙ both ∙ ap (λ (y : Teller). y.met ++ pending x.met_one.value y.receive) (sym is)
                          ∙ (λ k. u.met ++ pending x.met_one.value (waits k)) in
                          (same_from_push x.new.met u.met _ _ pushed).0

                      by : ((slice_get base2 j ≡ Some v.0) × NotAmong j be.tu.behind.settled)
                          ⊎ ((y : Teller) × (slice_get base2 j ≡ Some y) × (v.0 ≡ having_got (suc here.new.due) (promises j) y) × ((q : Await) × (y.receive ≡ Some q)) × (y.has_ended ≡ false)
                          × ((other : ℕ → ℕ) → Agrees promises other (map number_of be.tu.behind.settled) → other j ≡ promises j)) → Meets (having_got (suc b.t.due) (will j) u) a
                      by (inl h) =
                          let apart_value = fixed_out be.tu.behind.settled (λ (o : ℕ). suc (will j)) j h.1 in
                          let never : ⊥ = omega (arith, same_value, apart_value) in absurd never
                      by (inr h) =
                          let was : x.new ≡ h.0 = same_Some x.new h.0 (sym x.at_new ∙ sym (set_there again.tellers b.i j told2 apart) ∙ h.1) in
                          let m = in_the_end j v.0 a v.1 ea in (
                            m.0,
                            m.1,
                            subst (λ (os : List Outcome). IsPrefix os a.outcomes)
                                (ap (λ (y : Teller). y.met ++ pending m.0 y.receive) h.2
                                ∙ ap (λ (y : Teller). (y.met ++ mailed (Some (V.I32 (promises j))) 1 ∷ []) ++ []) (sym was)
                                ∙ (λ k. (met_same k ++ mailed (Some (V.I32 (same_value k))) 1 ∷ []) ++ []))
                                m.2,
                          )

                  met_all : HaveMet tellers ran.0.actors
                  met_all j t a et ea = at (cases_eq j b.i)
                    where
                      at : (j ≡ b.i) ⊎ (j ≡ b.i → ⊥) → Meets t a
                      at (inl same) =
                          subst (λ (y : Teller). Meets y a) (same_Some told t (sym there_now ∙ ap (slice_get tellers) (sym same) ∙ et)) (turn_met a (ap (slice_get ran.0.actors) (sym same) ∙ ea))
                      at (inr apart) =
                          by (sent_at will (suc b.t.due) ss base j t (still_sent b.mid ss b.i told out b.sent) (fixed_keeps b.mid ss (λ (o : ℕ). story.value) b.sent)
                          (ap (λ (l : List Teller). slice_get l j) (sym b.after) ∙ et))
                        where
                          by : ((slice_get base j ≡ Some t) × NotAmong j ss)
                              ⊎ ((u : Teller) × (slice_get base j ≡ Some u) × (t ≡ having_got (suc b.t.due) (will j) u) × ((r : Await) × (u.receive ≡ Some r)) × (u.has_ended ≡ false)
                              × ((other : ℕ → ℕ) → Agrees will other (map number_of ss) → other j ≡ will j)) → Meets t a
                          by (inl h) = met begun programs detaches boxes ds count b.before b.mid b.c b.whole stories_before all_on j t a (sym (set_there b.mid b.i j told apart) ∙ h.0) ea
                          by (inr h) =
                              let x = twice j (omega (arith, slice_get_within tellers j t et, zip_long programs tellers all)) in
                              subst (λ (y : Teller). Meets y a) (sym h.2)
                              (got_met j a x apart ea h.0 (same_Some h.0 x.old (sym h.1 ∙ set_there b.mid b.i j told apart ∙ x.at_old)) h.3.0 h.3.1 h.4 h.5)

                  p : Option Await
                  p = Rattle.mail_laws.specs.MailWorld.parks be.tu.turn be.tu.behind.receive

                  behind : List Line
                  behind = map (λ (e : Event). line_at b.t.due b.i (told_pause p e)) (events_with_looks b.w.looks be.more)

                  made_is : made ≡ map (line_at b.t.due b.i) (events_of b.turn) ++ behind
                  made_is =
                      (λ k. map (λ (e : Event). line_at (due_new k) b.i (told_pause p e)) (events_with_looks b.w.looks (be.is k)))
                      ∙ lines_begin b.w.looks b.t.due b.i p b.turn be.more b.unended

                  lines_are : (b.before ++ made) ++ on.more ≡ lines ++ (behind ++ on.more)
                  lines_are =
                      ap (λ (l : List Line). l ++ on.more) (ap (λ (l : List Line). b.before ++ l) made_is ∙ sym (append_assoc b.before (map (line_at b.t.due b.i) (events_of b.turn)) behind) ∙ ap (λ (l : List Line). l ++ behind) (sym b.made))
                      ∙ append_assoc lines behind on.more

                  both : (world : ProtocolWorldFrom begun programs detaches boxes ds (lines ++ (behind ++ on.more)) last) × HaveMet tellers world.actors
                  both = subst (λ (l : List Line). (world : ProtocolWorldFrom begun programs detaches boxes ds l last) × HaveMet tellers world.actors) (sym (append_assoc b.before made on.more) ∙ lines_are) (ran.0, met_all)

pub begun_goes_on : BegunGoesOn
begun_goes_on begun programs detaches boxes ds count lines tellers b all = result begun programs detaches boxes ds count lines tellers b all
