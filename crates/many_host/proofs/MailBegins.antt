-- The next event of a host with mailboxes begins: a turn, or the end of the first program that waits.
use Rattle.std.proofs.Common.{arith, ◌≡◌, ◌⊎◌, inl, inr, ◌<◌, ◌+◌, ◌++◌, ℕ, zero, suc, List, [], ◌∷◌, All, length, map, Option, Some, None, Bool, true, false, if◌then◌else◌, nat_eq, refl, sym, ap, ◌∙◌, subst, length-set, append-nil, append_assoc}
use Rattle.std.specs.Prelude.{MatchOption, is_some, slice_get, slice_set}
use Rattle.std.specs.Option.{option_map}
use Rattle.std.proofs.lemmas.Bool.{cases_eq}
use Rattle.std.proofs.lemmas.List.{length-map, map-set}
use Rattle.std.proofs.lemmas.List.Elements.{All-head, All-tail}
use Rattle.std.proofs.lemmas.Option.{same_Some, slice_get-map, slice_get_within}
use Rattle.wa_model.specs.declared.answers.Detach.{Detach}
use Rattle.wa_model.specs.declared.events.End.TheVariants.{Stalled}
use Rattle.wa_model.specs.Outside.{Call, Event, Line, ended}
use Rattle.wa_model.specs.Plan.{Outcome}
use Rattle.wa_model.specs.Blocking.{Note}
use Rattle.world_model.specs.World.{Device, Program, call_in, detached, line_at, look_events}
use Rattle.world_laws.proofs.Places.{item, set_here, set_same, set_there}
use Rattle.event_order.specs.Dues as E
use Rattle.event_order.specs.Left.{Counted}
use Rattle.event_order.specs.Looks.{looks_of}
use Rattle.event_order.specs.declared.turns.Turn.{Turn}
use Rattle.mailbox_device.specs.Mail.{Mail}
use Rattle.mail_laws.specs.MailWorld.{HeldStory, pauses, store_behind, to_end, to_wait}
use Rattle.mail_laws.specs.Told.{Await, HasStory, HaveEnded, IsLeast, NoneDue, Teller, Tells, due_of, if_going, pending, unless_waiting, waits_at}
use Rattle.pause_host.specs.Mailing.{amid_of}
use Rattle.pause_host.specs.Programs.{parked_in, receive_in}
use Rattle.many_host.specs.Hosts.{has_ended, memory_of}
use Rattle.many_host.specs.MailStanding.{CallTakes, Holds, IsFirstParked, MailStands, MeetMore, StandingFrom, TellsLineFrom, common_of, has_stalled, met_so_far, on_its_way}
use Rattle.many_host.specs.MailTurns.{TellsOnFrom}
use Rattle.many_host.specs.Standing.{Held, looks_at}
use Rattle.many_host.specs.declared.hosted.Hosted.{Hosted}
use Rattle.many_host.specs.declared.turn_taking.Stage.{Stage}
use Rattle.many_host.specs.declared.turn_taking.Stage.TheVariants.{Between, Telling, Showing}
use Rattle.many_host.proofs.MailBoxes.{waiter, waits_is}
use Rattle.many_host.proofs.MailHeld.{WaitsHeld, parked_waits, waits_parked}
use Rattle.many_host.proofs.MailNotes.{mail_stalls, mail_turn_begins}
use Rattle.many_host.proofs.MailStories.{held_has_story}
use Rattle.many_host.proofs.MailTells.{set_held}

abbrev the_none : List Outcome
the_none = []

some_note : (notes : List Note) → pauses notes ≡ true → 0 < length notes
some_note [] e = cc
some_note (x ∷ xs) e = omega arith

-- whether it is parked
decide : (o : Option (List ℕ)) → (o ≡ None) ⊎ ((name : List ℕ) × (o ≡ Some name))
decide None = inl refl
decide (Some name) = inr (name, refl)

pub free_at : (xs : List Hosted) (k : ℕ) (y : Hosted) → All (λ (x : Hosted). parked_in x.program ≡ None) xs → slice_get xs k ≡ Some y → parked_in y.program ≡ None
free_at [] k y all e = cc
free_at (x ∷ xs) zero y all e = subst (λ (v : Hosted). parked_in v.program ≡ None) (same_Some x y e) (All-head (λ (x : Hosted). parked_in x.program ≡ None) x xs all)
free_at (x ∷ xs) (suc k) y all e = free_at xs k y (All-tail (λ (x : Hosted). parked_in x.program ≡ None) x xs all) e

-- one that stalls keeps its story: it may end where it waits
stalled_story : (w : Program) (t : Teller) (r : Await) → t.has_ended ≡ false → t.receive ≡ Some r → pauses t.told ≡ true → HasStory w t → HasStory w (record t { has_ended = true })
stalled_story w t r goes waits paused h =
    record { value = h.value; small = h.small; rest = []; more = h.more; story = by h.story; is_rest = refl }
  where
    os : List Outcome
    os = t.met ++ pending h.value t.receive ++ h.more

    whole : t.told ≡ t.told ++ []
    whole = sym (append-nil t.told)

    by : HeldStory w os (t.told ++ h.rest) → HeldStory w os (t.told ++ [])
    by (to_end is) = to_wait h.rest (sym is ∙ ap (λ (l : List Note). l ++ h.rest) whole) (subst (λ (l : List Note). pauses l ≡ true) whole paused)
    by (to_wait rest is p) =
        to_wait (h.rest ++ rest) (is ∙ append_assoc t.told h.rest rest ∙ ap (λ (l : List Note). l ++ (h.rest ++ rest)) whole) (subst (λ (l : List Note). pauses l ≡ true) whole paused)

module _ (begun : ℕ) (programs : List Program) (detaches : List Detach) (boxes : List (List ℕ)) (ds : List Device) (lines : List Line) (h : Held Hosted) (last : ℕ) (ds' : List Device) (mail : Mail)
    (s : StandingFrom begun programs detaches boxes ds lines h last ds' mail Between) where
  abbrev begun_now : ℕ → Held Hosted
  begun_now next = record { programs = h.programs; dues = h.dues; detaches = h.detaches; shows = h.shows; begun = next; earlier = h.earlier }

  -- ---- a turn

  module _ (turn : Turn) (least : E.IsLeast h.dues turn.program turn.due) where
    abbrev i : ℕ
    i = turn.program

    least_is : IsLeast (map due_of s.tellers) i turn.due
    least_is =
        let l : E.IsLeast (map due_of s.tellers) i turn.due = subst (λ (d : List (Option ℕ)). E.IsLeast d i turn.due) s.dues least in
        record { there = l.there; least = l.least }

    within : i < length programs
    within = omega (arith, slice_get_within (map due_of s.tellers) i (Some turn.due) least_is.there, length-map s.tellers due_of, s.wide)

    abbrev w : (w : Program) × (slice_get programs i ≡ Some w)
    w = item programs i within

    pub law : (t : Teller) × (slice_get s.tellers i ≡ Some t) × (t.has_ended ≡ false) × (t.receive ≡ None)
        × TellsOnFrom begun programs detaches boxes ds s.count i turn.due lines s.tellers (record (amid_of (detached (suc (begun + s.count)) detaches ds') mail None) { settled = [] })
    law = mail_turn_begins begun programs detaches boxes ds ds' mail s.count last i turn.due lines s.tellers w.0 s.at.0 s.at.1 w.1 least_is

    pub idle : (x : Hosted) → slice_get h.programs i ≡ Some x → parked_in x.program ≡ None
    idle x there = by (decide (parked_in x.program))
      where
        by : (parked_in x.program ≡ None) ⊎ ((name : List ℕ) × (parked_in x.program ≡ Some name)) → parked_in x.program ≡ None
        by (inl none) = none
        by (inr some) =
            let waits = parked_waits h.shows i w.0 law.0 x (s.each i w.0 law.0 x w.1 law.1 there) some.0 some.1 in
            let z : None ≡ Some waits.r = sym law.3 ∙ waits.receive in absurd cc

    pub number_is : (next : ℕ) → next ≡ h.begun + 1 → suc (begun + s.count) ≡ next
    number_is next is = let b = s.begun_is in omega (arith, b, is)

    pub count_is : (next : ℕ) → next ≡ h.begun + 1 → begun + suc s.count ≡ next
    count_is next is = let b = s.begun_is in omega (arith, b, is)

    pub turn_on : (next : ℕ) (own : List Detach) (es : List Device) → next ≡ h.begun + 1 → own ≡ h.detaches → es ≡ detached next own ds'
        → TellsOnFrom begun programs detaches boxes ds s.count i turn.due lines s.tellers (amid_of es (record mail { settled = [] }) law.0.receive)
    turn_on next own es is own_is out =
        let out_is : detached (suc (begun + s.count)) detaches ds' ≡ es = (λ k. detached (number_is next is k) (sym (own_is ∙ s.detaches_are) k) ds') ∙ sym out in
        subst (λ (a : List Device). TellsOnFrom begun programs detaches boxes ds s.count i turn.due lines s.tellers (amid_of a (record mail { settled = [] }) law.0.receive)) out_is
        (subst (λ (r : Option Await). TellsOnFrom begun programs detaches boxes ds s.count i turn.due lines s.tellers
        (amid_of (detached (suc (begun + s.count)) detaches ds') (record mail { settled = [] }) r)) (sym law.3) law.4)

    pub dues_on : h.dues ≡ slice_set (map due_of s.tellers) i (Some turn.due)
    dues_on = s.dues ∙ sym (set_same (map due_of s.tellers) i (Some turn.due) least_is.there)

    abbrev pub begun_at : (next : ℕ) (own : List Detach) (es : List Device) → next ≡ h.begun + 1 → own ≡ h.detaches → es ≡ detached next own ds'
        → StandingFrom begun programs detaches boxes ds lines (begun_now next) turn.due es mail (Telling turn)
    begun_at next own es is own_is out =
        record {
          tellers = s.tellers;
          wide = s.wide;
          as_many = s.as_many;
          each = s.each;
          dues = dues_on;
          detaches_are = s.detaches_are;
          earlier_is = s.earlier_is;
          count = suc s.count;
          begun_is = count_is next is;
          at = (s.count, refl, law.0, law.1, [], s.at.1.unsettled, turn_on next own es is own_is out, refl, idle);
        }

  -- ---- the end of the first that waits

  -- a program that waits is parked
  each_parked : (j : ℕ) (u : Teller) (q : Await) (v : Program) (y : Hosted) → slice_get programs j ≡ Some v → slice_get s.tellers j ≡ Some u → slice_get h.programs j ≡ Some y → waits_at u ≡ Some q
      → WaitsHeld h.shows j v u y
  each_parked j u q v y ev eu ey waits =
      let some = waiter s.tellers j mail.boxes s.at.1.waiting (let one = s.at.1.each j u q eu waits in let w = waits_is j mail.boxes in omega (arith, one, w)) in
      let same : some.there.t ≡ u = same_Some some.there.t u (sym some.there.there ∙ eu) in
      waits_parked h.shows j v u y (s.each j v u y ev eu ey) q waits (ap (λ (z : Teller). pauses z.told) (sym same) ∙ some.there.paused)

  none_due : NoneDue h.dues → NoneDue (map due_of s.tellers)
  none_due none = subst (λ (d : List (Option ℕ)). NoneDue d) s.dues none

  -- where none is due and none parked, all have ended
  pub all_ended : NoneDue h.dues → All (λ (x : Hosted). parked_in x.program ≡ None) h.programs → HaveEnded s.tellers
  all_ended none free j u eu = by u.has_ended refl u.receive refl
    where
      within : j < length programs
      within = omega (arith, slice_get_within s.tellers j u eu, s.wide)

      by : (b : Bool) → u.has_ended ≡ b → (o : Option Await) → u.receive ≡ o → u.has_ended ≡ true
      by true e o q = e
      by false e None q =
          let due : slice_get (map due_of s.tellers) j ≡ Some (Some u.due) = slice_get-map due_of s.tellers j ∙ ap (option_map due_of) eu ∙ (λ k. Some (if_going (e k) (unless_waiting (q k) u.due))) in
          absurd (none_due none j u.due due)
      by false e (Some r) q =
          let v = item programs j within in
          let y = item h.programs j (omega (arith, within, s.as_many)) in
          let h' = each_parked j u r v.0 y.0 v.1 eu y.1 (λ k. if_going (e k) (q k)) in
          let z : None ≡ Some h'.r.box = sym (free_at h.programs j y.0 free y.1) ∙ h'.parked in absurd cc

  -- ---- the first that waits ends

  module _ (none : NoneDue h.dues) (i : ℕ) (first : IsFirstParked h.programs i) where
    some_parked : (o : Option (List ℕ)) → is_some o ≡ true → (name : List ℕ) × (o ≡ Some name)
    some_parked None e = cc
    some_parked (Some name) e = (name, refl)

    abbrev pub x : Hosted
    x = first.x

    abbrev v : (w : Program) × (slice_get programs i ≡ Some w)
    v = item programs i (let le = slice_get_within h.programs i x first.there in omega (arith, le, s.as_many))

    abbrev u : (t : Teller) × (slice_get s.tellers i ≡ Some t)
    u = item s.tellers i (let le = slice_get_within h.programs i x first.there in omega (arith, le, s.as_many, s.wide))

    pub name : (name : List ℕ) × (parked_in x.program ≡ Some name)
    name = some_parked (parked_in x.program) first.parked

    abbrev waits : WaitsHeld h.shows i v.0 u.0 x
    waits = parked_waits h.shows i v.0 u.0 x (s.each i v.0 u.0 x v.1 u.1 first.there) name.0 name.1

    abbrev pub r : Await
    r = waits.r

    pub receive_now : receive_in x.program ≡ Some r
    receive_now = waits.held.follow.2 ∙ waits.receive

    paused_now : pauses u.0.told ≡ true
    paused_now =
        let some = waiter s.tellers i mail.boxes s.at.1.waiting (let one = s.at.1.each i u.0 r u.1 waits.waits in let w = waits_is i mail.boxes in omega (arith, one, w)) in
        let same : some.there.t ≡ u.0 = same_Some some.there.t u.0 (sym some.there.there ∙ u.1) in
        ap (λ (z : Teller). pauses z.told) (sym same) ∙ some.there.paused

    abbrev stalled_teller : Teller
    stalled_teller = record u.0 { has_ended = true }

    abbrev pub stalled_tellers : List Teller
    stalled_tellers = slice_set s.tellers i stalled_teller

    law_stalls : Tells begun programs detaches boxes ds (suc s.count) (lines ++ map (line_at last i) (ended (Stalled r.import) ∷ look_events (store_behind u.0.told) v.0.looks)) stalled_tellers
        (common_of (detached (suc (begun + s.count)) detaches ds') mail last) × MailStands boxes stalled_tellers mail
    law_stalls =
        mail_stalls begun programs detaches boxes ds ds' mail s.count last i lines s.tellers v.0 u.0 r s.at.0 s.at.1 v.1 u.1 waits.waits (none_due none)
        (λ j t q et waits_j.
        let v' = item programs j (let le = slice_get_within s.tellers j t et in omega (arith, le, s.wide)) in
        let y = item h.programs j (let le = slice_get_within s.tellers j t et in omega (arith, le, s.wide, s.as_many)) in
        first.first j y.0 y.1 (ap is_some (each_parked j t q v'.0 y.0 v'.1 et y.1 waits_j).parked))

    -- as it is then held
    module _ (x' : Hosted) (e : Event) (next : ℕ) (own : List Detach) (es : List Device) (is : next ≡ h.begun + 1) (own_is : own ≡ h.detaches) (out : es ≡ detached next own ds')
        (e_is : e ≡ ended (Stalled r.import)) (over : has_ended x' ≡ true) (memory_is : memory_of x' ≡ memory_of x) where
      abbrev line : Line
      line = line_at last i e

      memory_now : memory_of x' ≡ (store_behind u.0.told).memory
      memory_now = memory_is ∙ waits.held.memory_is (some_note u.0.told paused_now)

      holds_now : Holds h.shows i v.0 stalled_teller x'
      holds_now =
          has_stalled (record {
            ended = refl;
            over_is = over;
            waited = (r, waits.receive);
            story = stalled_story v.0 u.0 r waits.unfinished waits.receive paused_now (held_has_story h.shows i v.0 u.0 x (on_its_way waits.held));
            memory_is = memory_now;
            looks = waits.held.looks;
            few_steps = waits.held.follow.0.at.few_steps;
          })

      abbrev held_then : Held Hosted
      held_then = record { programs = slice_set h.programs i x'; dues = h.dues; detaches = h.detaches; shows = h.shows; begun = next; earlier = h.earlier }

      number : suc (begun + s.count) ≡ next
      number = let b = s.begun_is in omega (arith, b, is)

      common_is : common_of (detached (suc (begun + s.count)) detaches ds') mail last ≡ common_of es mail last
      common_is = λ k. common_of (((λ j. detached (number j) (sym (own_is ∙ s.detaches_are) j) ds') ∙ sym out) k) mail last

      lines_are : lines ++ map (line_at last i) (ended (Stalled r.import) ∷ look_events (store_behind u.0.told) v.0.looks)
          ≡ (lines ++ line ∷ []) ++ map (line_at last i) (looks_at (memory_of x') (looks_of i h.shows))
      lines_are =
          (λ k. lines ++ line_at last i (sym e_is k) ∷ map (line_at last i) (looks_at (sym memory_now k) (waits.held.looks k)))
          ∙ sym (append_assoc lines (line ∷ []) (map (line_at last i) (looks_at (memory_of x') (looks_of i h.shows))))

      dues_now : h.dues ≡ map due_of stalled_tellers
      dues_now =
          let was : slice_get (map due_of s.tellers) i ≡ Some None =
          slice_get-map due_of s.tellers i ∙ ap (option_map due_of) u.1 ∙ (λ k. Some (if_going (waits.unfinished k) (unless_waiting (waits.receive k) u.0.due))) in
          s.dues ∙ sym (set_same (map due_of s.tellers) i None was) ∙ sym (map-set due_of s.tellers i stalled_teller)

      abbrev stalled_stands : StandingFrom begun programs detaches boxes ds (lines ++ line ∷ []) held_then last es mail (Showing (record { program = i; due = last }) 0)
      stalled_stands =
          record {
            tellers = stalled_tellers;
            wide = length-set s.tellers i stalled_teller ∙ s.wide;
            as_many = length-set h.programs i x' ∙ s.as_many;
            each = set_held h.shows programs 0 s.tellers h.programs i v.0 u.0 stalled_teller x x' s.each v.1 u.1 first.there holds_now;
            dues = dues_now;
            detaches_are = s.detaches_are;
            earlier_is = s.earlier_is;
            count = suc s.count;
            begun_is = (let b = s.begun_is in omega (arith, b, is));
            at = (
              x',
              set_here h.programs i x' x first.there,
              subst (λ (ls : List Line). Tells begun programs detaches boxes ds (suc s.count) ls stalled_tellers (common_of es mail last)) lines_are
                  (subst (Tells begun programs detaches boxes ds (suc s.count) (lines ++ map (line_at last i) (ended (Stalled r.import) ∷ look_events (store_behind u.0.told) v.0.looks)) stalled_tellers)
                  common_is law_stalls.0),
              law_stalls.1,
            );
          }

      meets_none : MeetMore i [] s.tellers stalled_tellers
      meets_none j t t' et et' = (0, omega arith, by (cases_eq j i))
        where
          nothing : (b : Bool) (os : List Outcome) → os ≡ os ++ (if b then [] else [])
          nothing true os = sym (append-nil os)
          nothing false os = sym (append-nil os)

          by : (j ≡ i) ⊎ (j ≡ i → ⊥) → met_so_far t' ≡ met_so_far t ++ (if nat_eq j i then [] else [])
          by (inr other) = ap met_so_far (same_Some t' t (sym et' ∙ set_there s.tellers i j stalled_teller other ∙ et)) ∙ nothing (nat_eq j i) (met_so_far t)
          by (inl same) =
              let was : t ≡ u.0 = same_Some t u.0 (sym et ∙ ap (slice_get s.tellers) same ∙ u.1) in
              let now : t' ≡ stalled_teller = same_Some t' stalled_teller (sym et' ∙ ap (slice_get stalled_tellers) same ∙ set_here s.tellers i stalled_teller u.0 u.1) in
              ap met_so_far now ∙ ap met_so_far (sym was) ∙ nothing (nat_eq j i) (met_so_far t)

      told_so : (co cn : List Counted) → cn ≡ co → TellsLineFrom begun programs detaches boxes ds lines s.tellers co cn mail line held_then last es mail (Showing (record { program = i; due = last }) 0)
      told_so co cn same =
          record {
            stands = stalled_stands;
            met = [];
            meets = meets_none;
            takes = record { w = v.0; program = v.1; takes = subst (λ (o : Option Call). MatchOption o (([] ≡ the_none) × (cn ≡ co)) (λ c. CallTakes v.0 c [] co cn mail mail)) (sym (ap call_in e_is)) (refl, same) };
          }

      pub stalled_line : (co co' cn : List Counted) → co ≡ co' → cn ≡ co → (es' : List Device) → es' ≡ es → (mail' : Mail) → mail' ≡ mail
          → TellsLineFrom begun programs detaches boxes ds lines s.tellers co' cn mail line held_then last es' mail' (Showing (record { program = i; due = last }) 0)
      stalled_line co co' cn left same es' devices mail' same_mail =
          subst (λ (c : List Counted). TellsLineFrom begun programs detaches boxes ds lines s.tellers c cn mail line held_then last es' mail' (Showing (record { program = i; due = last }) 0)) left
          (subst (λ (m : Mail). TellsLineFrom begun programs detaches boxes ds lines s.tellers co cn mail line held_then last es' m (Showing (record { program = i; due = last }) 0)) (sym same_mail)
          (subst (λ (d : List Device). TellsLineFrom begun programs detaches boxes ds lines s.tellers co cn mail line held_then last d mail (Showing (record { program = i; due = last }) 0)) (sym devices)
          (told_so co cn same)))

-- a line of devices that are told otherwise
pub line_from : {begun : ℕ} {programs : List Program} {detaches : List Detach} {boxes : List (List ℕ)} {ds : List Device} {lines : List Line} {tellers : List Teller} {co co' cn : List Counted} {mail : Mail}
    {line : Line} {h : Held Hosted} {last : ℕ} {ds' : List Device} {mail' : Mail} {stage : Stage} → co ≡ co'
    → TellsLineFrom begun programs detaches boxes ds lines tellers co cn mail line h last ds' mail' stage → TellsLineFrom begun programs detaches boxes ds lines tellers co' cn mail line h last ds' mail' stage
line_from {begun} {programs} {detaches} {boxes} {ds} {lines} {tellers} {co} {co'} {cn} {mail} {line} {h} {last} {ds'} {mail'} {stage} is t =
    subst (λ (c : List Counted). TellsLineFrom begun programs detaches boxes ds lines tellers c cn mail line h last ds' mail' stage) is t
