-- How many events with mailboxes have been told.
use Rattle.std.proofs.Common.{arith, ◌≡◌, ◌+◌, ◌⊎◌, inl, inr, ℕ, zero, suc, List, [], ◌∷◌, ◌++◌, map, Option, Some, None, Bool, true, false, refl, sym, ap, ◌∙◌, subst, add_assoc}
use Rattle.std.specs.Prelude.{MatchBool, drop, if◌then◌else◌, slice_get, slice_set}
use Rattle.std.specs.Option.{unwrap_or}
use Rattle.std.proofs.lemmas.Bool.{cases_eq}
use Rattle.std.proofs.lemmas.List.{map-append}
use Rattle.std.proofs.lemmas.Option.{same_Some, slice_get_within}
use Rattle.wa_model.specs.declared.answers.Detach.{Detach}
use Rattle.wa_model.specs.Outside.{Event, answered, called, ended, parked, paused, returned, shown, Line}
use Rattle.wa_model.specs.Blocking.{Note, events_of}
use Rattle.world_model.specs.World.{Device, Look, Program, bytes_shown, ends_turn, events_with_looks, line_at, looks_after}
use Rattle.world_laws.proofs.Places.{item, set_here, set_there}
use Rattle.event_order.specs.Looks.{looks_of}
use Rattle.mailbox_device.specs.declared.mailbox.Settled.{Settled}
use Rattle.mailbox_device.specs.Mail.{Mail}
use Rattle.mail_laws.specs.MailWorld.{HeldStory, parks, store_behind, to_end, to_wait, told_pause}
use Rattle.mail_laws.specs.Told.{Amid, Common, EndsOnce, HasStory, Teller, Tells, TellsEvent, having_got, having_told, no_teller, pending, settle_all, tells_stall, tells_turn}
use Rattle.many_host.specs.Calls.{BegunBy}
use Rattle.many_host.specs.declared.host.Host.{Host}
use Rattle.many_host.specs.declared.turn_taking.Stage.{Stage}
use Rattle.many_host.specs.declared.turn_taking.Stage.TheVariants.{Between, Telling, Showing}
use Rattle.many_host.specs.Hosts.{memory_of}
use Rattle.many_host.specs.MailHosts.{HostTellsFrom}
use Rattle.many_host.specs.MailStanding.{StandsAtFrom}
use Rattle.many_host.specs.MailTurns.{TellsOnFrom}
use Rattle.many_host.specs.Notes.{GoesOn}
use Rattle.many_host.specs.Standing.{LooksOut, held_of, looks_at}
use Rattle.many_host.proofs.MailStories.{held_stories}
use Rattle.world_hosting.specs.Counts.{IsBegunBy, closes}
use Rattle.world_hosting.specs.MailCounts.{ends_event, event_count}
use Rattle.world_hosting.proofs.NoneParked.{Unparked, is_parking, story_unparked, unparked_front}

pub events_append : (front bs : List Line) → event_count (front ++ bs) ≡ event_count front + event_count bs
events_append [] bs = let e : event_count bs ≡ 0 + event_count bs = omega arith in e
events_append (a ∷ front) bs =
    ap (λ (n : ℕ). closes ends_event a.event + n) (events_append front bs) ∙ sym (add_assoc (closes ends_event a.event) (event_count front) (event_count bs))

-- ---- notes and their lines

-- an event of a note ends one where it ends a turn
ends_so : {X : Type 0} (p : Option X) (e : Event) → is_parking e ≡ false → ends_event (told_pause p e) ≡ ends_turn e
ends_so None (paused t u) h = refl
ends_so (Some r) (paused t u) h = refl
ends_so None (called c) h = refl
ends_so (Some r) (called c) h = refl
ends_so None (answered v) h = refl
ends_so (Some r) (answered v) h = refl
ends_so None (returned i v) h = refl
ends_so (Some r) (returned i v) h = refl
ends_so None (ended how) h = refl
ends_so (Some r) (ended how) h = refl
ends_so p (parked u) h = absurd cc
ends_so None (shown at bytes) h = refl
ends_so (Some r) (shown at bytes) h = refl

module _ {X : Type 0} (due i : ℕ) (p : Option X) where
  abbrev told_of : List Event → List Line
  told_of es = map (λ (e : Event). line_at due i (told_pause p e)) es

  looks_none : (memory : List ℕ) (looks : List Look) → event_count (told_of (looks_at memory looks)) ≡ 0
  looks_none memory [] = refl
  looks_none memory (k ∷ ks) = by p (looks_none memory ks)
    where
      by : (q : Option X) → event_count (told_of (looks_at memory ks)) ≡ 0
          → closes ends_event (told_pause q (shown k.at (bytes_shown memory k))) + event_count (told_of (looks_at memory ks)) ≡ 0
      by None e = ap (λ (n : ℕ). 0 + n) e
      by (Some r) e = ap (λ (n : ℕ). 0 + n) e

  after_none : (looks : List Look) (x : Note) (e : Event) → event_count (told_of (looks_after looks x e)) ≡ 0
  after_none looks x (called call) = refl
  after_none looks x (answered value) = refl
  after_none looks x (paused ticks used) = refl
  after_none looks x (returned entry value) = refl
  after_none looks x (ended how) = looks_none x.store.memory looks
  after_none looks x (parked used) = refl
  after_none looks x (shown at bytes) = refl

  turn_once : (looks : List Look) (turn : List Note) → EndsOnce turn → Unparked turn → event_count (told_of (events_with_looks looks turn)) ≡ 1
  turn_once looks [] h calm = absurd h
  turn_once looks (x ∷ xs) h calm =
      let parts : event_count (told_of (events_with_looks looks (x ∷ xs))) ≡ event_count (told_of (x.event ∷ looks_after looks x x.event)) + event_count (told_of (events_with_looks looks xs)) =
      ap event_count (map-append (λ (e : Event). line_at due i (told_pause p e)) (x.event ∷ looks_after looks x x.event) (events_with_looks looks xs))
      ∙ events_append (told_of (x.event ∷ looks_after looks x x.event)) (told_of (events_with_looks looks xs)) in
      let first : event_count (told_of (x.event ∷ looks_after looks x x.event)) ≡ closes ends_turn x.event + 0 =
      ap (λ (b : Bool). (if b then 1 else 0) + event_count (told_of (looks_after looks x x.event))) (ends_so p x.event calm.0)
      ∙ ap (λ (n : ℕ). closes ends_turn x.event + n) (after_none looks x x.event) in
      let one : closes ends_turn x.event + event_count (told_of (events_with_looks looks xs)) ≡ 1 = by (ends_turn x.event) h (λ m. turn_once looks xs m calm.1) in
      omega (arith, parts, first, one)
    where
      by : (b : Bool) → MatchBool b (xs ≡ []) (EndsOnce xs) → (EndsOnce xs → event_count (told_of (events_with_looks looks xs)) ≡ 1)
          → (if b then 1 else 0) + event_count (told_of (events_with_looks looks xs)) ≡ 1
      by true e on = ap (λ (l : List Note). 1 + event_count (told_of (events_with_looks looks l))) e
      by false m on = ap (λ (n : ℕ). 0 + n) (on m)

-- notes that go on end none
goes_none : (due i : ℕ) (turn : List Note) → GoesOn turn → Unparked turn → event_count (map (line_at due i) (events_of turn)) ≡ 0
goes_none due i [] h calm = refl
goes_none due i (x ∷ xs) h calm =
    ap (λ (b : Bool). (if b then 1 else 0) + event_count (map (line_at due i) (events_of xs))) (ends_so {X = ℕ} None x.event calm.0 ∙ h.0) ∙ ap (λ (n : ℕ). 0 + n) (goes_none due i xs h.1 calm.1)

-- ---- what tellers have told

abbrev pub AllUnparked : List Teller → Type 0
AllUnparked tellers = (i : ℕ) (t : Teller) → slice_get tellers i ≡ Some t → Unparked t.told

-- who gets a value has told what it had
settled_told : (due : ℕ) (ss : List Settled) (tellers : List Teller) (j : ℕ) (u : Teller) → slice_get tellers j ≡ Some u
    → (v : Teller) × (slice_get (settle_all due ss tellers) j ≡ Some v) × (v.told ≡ u.told)
settled_told due [] tellers j u e = (u, e, refl)
settled_told due (s ∷ ss) tellers j u e = by (cases_eq j s.program) (λ ts v f. settled_told due ss ts j v f)
  where
    got : Teller
    got = having_got due s.value (unwrap_or (slice_get tellers s.program) no_teller)

    by : (j ≡ s.program) ⊎ (j ≡ s.program → ⊥)
        → ((ts : List Teller) (v : Teller) → slice_get ts j ≡ Some v → (y : Teller) × (slice_get (settle_all due ss ts) j ≡ Some y) × (y.told ≡ v.told))
        → (y : Teller) × (slice_get (settle_all due ss (slice_set tellers s.program got)) j ≡ Some y) × (y.told ≡ u.told)
    by (inl same) on =
        let there : slice_get tellers s.program ≡ Some u = ap (slice_get tellers) (sym same) ∙ e in
        let r = on (slice_set tellers s.program got) got (ap (slice_get (slice_set tellers s.program got)) same ∙ set_here tellers s.program got u there) in
        (r.0, r.1, r.2 ∙ ap (λ (o : Option Teller). (unwrap_or o no_teller).told) there)
    by (inr other) on = on (slice_set tellers s.program got) u (set_there tellers s.program j got other ∙ e)

-- behind a turn, whose notes are told with what was told before
module _ (due i : ℕ) (ss : List Settled) (mid tellers : List Teller) (t told : Teller) (turn : List Note) (there : slice_get mid i ≡ Some t) (is : told.told ≡ t.told ++ turn)
    (after : tellers ≡ settle_all due ss (slice_set mid i told)) (calm : AllUnparked tellers) where
  calm_turn : Unparked turn
  calm_turn =
      let r = settled_told due ss (slice_set mid i told) i told (set_here mid i told t there) in
      (unparked_front t.told turn (subst Unparked (r.2 ∙ is) (calm i r.0 (ap (λ (l : List Teller). slice_get l i) after ∙ r.1)))).1

  calm_mid : AllUnparked mid
  calm_mid j u e = by (cases_eq j i)
    where
      by : (j ≡ i) ⊎ (j ≡ i → ⊥) → Unparked u.told
      by (inl same) =
          let r = settled_told due ss (slice_set mid i told) i told (set_here mid i told t there) in
          let is_u : t ≡ u = same_Some t u (sym there ∙ ap (slice_get mid) (sym same) ∙ e) in
          subst (λ (v : Teller). Unparked v.told) is_u
          (unparked_front t.told turn (subst Unparked (r.2 ∙ is) (calm i r.0 (ap (λ (l : List Teller). slice_get l i) after ∙ r.1)))).0
      by (inr other) =
          let r = settled_told due ss (slice_set mid i told) j u (set_there mid i j told other ∙ e) in
          subst Unparked r.2 (calm j r.0 (ap (λ (l : List Teller). slice_get l j) after ∙ r.1))

-- ---- so many events

pub events_told : (begun : ℕ) (programs : List Program) (detaches : List Detach) (boxes : List (List ℕ)) (ds : List Device) (count : ℕ) (lines : List Line) (tellers : List Teller) (c : Common)
    → Tells begun programs detaches boxes ds count lines tellers c → AllUnparked tellers → event_count lines ≡ count
events_told begun programs detaches boxes ds zero lines tellers c h calm = ap event_count h.0
events_told begun programs detaches boxes ds (suc count) lines tellers c h calm =
    let one = by h.5 in
    let before = events_told begun programs detaches boxes ds count h.0 h.2 h.3 h.4 one.0 in
    let all : event_count lines ≡ event_count h.0 + event_count h.1 = ap event_count h.6 ∙ events_append h.0 h.1 in
    let last = one.1 in
    omega (arith, before, last, all)
  where
    by : TellsEvent programs detaches (suc (begun + count)) h.2 h.3 h.1 tellers c → AllUnparked h.2 × (event_count h.1 ≡ 1)
    by (tells_turn play) =
        let told : Teller = having_told play.t play.turn play.met play.answers play.behind.receive in (
          calm_mid (suc play.t.due) play.i play.behind.settled h.2 tellers play.t told play.turn play.there refl play.after calm,
          ap event_count play.made
              ∙ turn_once play.t.due play.i (parks play.turn play.behind.receive) play.w.looks play.turn play.whole
              (calm_turn (suc play.t.due) play.i play.behind.settled h.2 tellers play.t told play.turn play.there refl play.after calm),
        )
    by (tells_stall play) = (mid, ap event_count play.made ∙ ap (λ (n : ℕ). 1 + n) (looks_none {X = ℕ} h.3.tick play.i None (store_behind play.t.told).memory play.w.looks))
      where
        now : Teller
        now = record play.t { has_ended = true }

        mid : AllUnparked h.2
        mid j u e = at (cases_eq j play.i)
          where
            at : (j ≡ play.i) ⊎ (j ≡ play.i → ⊥) → Unparked u.told
            at (inl same) =
                let is_u : play.t ≡ u = same_Some play.t u (sym play.there ∙ ap (slice_get h.2) (sym same) ∙ e) in
                subst (λ (v : Teller). Unparked v.told) is_u
                (calm play.i now (ap (λ (l : List Teller). slice_get l play.i) play.after ∙ set_here h.2 play.i now play.t play.there))
            at (inr other) = calm j u (ap (λ (l : List Teller). slice_get l j) play.after ∙ set_there h.2 play.i j now other ∙ e)

events_on_told : (begun : ℕ) (programs : List Program) (detaches : List Detach) (boxes : List (List ℕ)) (ds : List Device) (count i due : ℕ) (lines : List Line) (tellers : List Teller)
    (now : Amid) → TellsOnFrom begun programs detaches boxes ds count i due lines tellers now → AllUnparked tellers → event_count lines ≡ count
events_on_told begun programs detaches boxes ds count i due lines tellers now on calm =
    let told : Teller = having_told on.t on.turn on.met on.answers now.receive in
    let whole = events_told begun programs detaches boxes ds count on.before on.mid on.c on.whole (calm_mid (suc due) i now.settled on.mid tellers on.t told on.turn on.there refl on.after calm) in
    let parts : event_count lines ≡ event_count on.before + event_count (map (line_at due i) (events_of on.turn)) =
    ap event_count on.made ∙ events_append on.before (map (line_at due i) (events_of on.turn)) in
    let none = goes_none due i on.turn on.goes_on (calm_turn (suc due) i now.settled on.mid tellers on.t told on.turn on.there refl on.after calm) in
    omega (arith, whole, parts, none)

-- ---- what a host has told

-- what a program has told begins its story
has_story_calm : (w : Program) (t : Teller) → HasStory w t → Unparked t.told
has_story_calm w t s = by s.story
  where
    by : HeldStory w (t.met ++ pending s.value t.receive ++ s.more) (t.told ++ s.rest) → Unparked t.told
    by (to_end e) = (unparked_front t.told s.rest (subst Unparked (sym e) (story_unparked w (t.met ++ pending s.value t.receive ++ s.more)))).0
    by (to_wait rest e p) =
        (unparked_front t.told s.rest (unparked_front (t.told ++ s.rest) rest (subst Unparked e (story_unparked w (t.met ++ pending s.value t.receive ++ s.more)))).0).0

module _ (begun : ℕ) (programs : List Program) (detaches : List Detach) (boxes : List (List ℕ)) (ds : List Device) (lines : List Line) (h : Host) (ds' : List Device) (mail : Mail)
    (told : HostTellsFrom begun programs detaches boxes ds lines h ds' mail) where
  host_calm : AllUnparked told.tellers
  host_calm i t e =
      let inside = slice_get_within told.tellers i t e in
      let w = item programs i (let a = told.wide in omega (arith, inside, a)) in
      let x = item h.turns.programs.items i (let a = told.wide in let b = told.as_many in omega (arith, inside, a, b)) in
      has_story_calm w.0 t (held_stories h.turns.shows.items i w.0 t x.0 (told.each i w.0 t x.0 w.1 e x.1))

  own_events : (stage : Stage) → StandsAtFrom begun programs detaches boxes ds told.count lines told.tellers (held_of h.turns) h.turns.last ds' mail stage → LooksOut h.turns.shows.items stage
      → event_count lines ≡ told.count
  own_events Between at none = events_told begun programs detaches boxes ds told.count lines told.tellers _ at.0 host_calm
  own_events (Telling turn) at none = absurd none
  own_events (Showing turn from) at none =
      let looks : List Look = looks_of turn.program (drop from h.turns.shows.items) in
      let whole = events_told begun programs detaches boxes ds told.count (lines ++ map (line_at turn.due turn.program) (looks_at (memory_of at.0) looks)) told.tellers _ at.2 host_calm in
      let parts = events_append lines (map (line_at turn.due turn.program) (looks_at (memory_of at.0) looks)) in
      let shown_none = looks_none {X = ℕ} turn.due turn.program None (memory_of at.0) looks in
      omega (arith, whole, parts, shown_none)

  pub events_begun : LooksOut h.turns.shows.items h.turns.stage → begun + event_count lines ≡ h.turns.begun
  events_begun out = ap (λ (n : ℕ). begun + n) (own_events h.turns.stage told.at out) ∙ told.begun_is

  -- so many events have begun by the next line
  pub begun_by_next : (n : ℕ) (e : Event) → BegunBy h.turns.stage h.turns.begun n e → IsBegunBy h.turns.begun (begun + event_count lines) e n
  begun_by_next n e next = by h.turns.stage told.at next where
    by : (stage : Stage) → StandsAtFrom begun programs detaches boxes ds told.count lines told.tellers (held_of h.turns) h.turns.last ds' mail stage → BegunBy stage h.turns.begun n e
        → IsBegunBy h.turns.begun (begun + event_count lines) e n
    by Between at is =
        let ended = events_told begun programs detaches boxes ds told.count lines told.tellers _ at.0 host_calm in
        let sum = told.begun_is in
        inl (omega (arith, ended, is, sum))
    by (Telling turn) at is =
        let ended = events_on_told begun programs detaches boxes ds at.0 turn.program turn.due lines told.tellers _ at.6 host_calm in
        let one_more = at.1 in
        let sum = told.begun_is in
        inl (omega (arith, ended, one_more, is, sum))
    by (Showing turn from) at is =
        let looks : List Look = looks_of turn.program (drop from h.turns.shows.items) in
        let whole = events_told begun programs detaches boxes ds told.count (lines ++ map (line_at turn.due turn.program) (looks_at (memory_of at.0) looks)) told.tellers _ at.2 host_calm in
        let parts = events_append lines (map (line_at turn.due turn.program) (looks_at (memory_of at.0) looks)) in
        let shown_none = looks_none {X = ℕ} turn.due turn.program None (memory_of at.0) looks in
        let sum = told.begun_is in
        let ended : h.turns.begun ≡ begun + event_count lines = omega (arith, whole, parts, shown_none, sum) in
        elim is [ inl begins ↦ inl (omega (arith, ended, begins)) | inr stays ↦ inr (stays.0 ∙ ended, ended, stays.1) ]
