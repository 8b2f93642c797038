-- A program that waits has asked a mailbox by its last call, as lines tell it.
use Rattle.std.proofs.Common.{arith, ◌≡◌, ◌<◌, ◌+◌, ◌++◌, ◌⊎◌, inl, inr, ℕ, zero, suc, List, [], ◌∷◌, length, map, Option, Some, None, Bool, true, false, refl, sym, ap, ◌∙◌, subst}
use Rattle.std.specs.Prelude.{drop, slice_get, slice_set}
use Rattle.std.specs.Option.{option_map}
use Rattle.std.proofs.lemmas.Bool.{cases_eq}
use Rattle.std.proofs.lemmas.Option.{same_Some, slice_get-map, slice_get_within}
use Rattle.wa_model.specs.declared.answers.Detach.{Detach}
use Rattle.wa_model.specs.Outside.{Line}
use Rattle.wa_model.specs.Blocking.{events_of}
use Rattle.world_model.specs.World.{Device, Program, events_with_looks, line_at}
use Rattle.world_laws.proofs.Places.{item, set_here, set_there}
use Rattle.event_order.specs.Looks.{looks_of}
use Rattle.mailbox_device.specs.declared.mailbox.Settled.{Settled}
use Rattle.mailbox_device.specs.Mail.{Mail, names_of}
use Rattle.mailbox_device.specs.Mail as M
use Rattle.mail_laws.specs.MailWorld.{parks, store_behind, told_pause}
use Rattle.mail_laws.specs.Told.{Amid, AreSent, Await, Common, NotAmong, Teller, Tells, TellsEvent, begun_amid, due_of, having_told, if_going, settle_all, starting, tells_stall, tells_turn, unless_waiting}
use Rattle.mail_laws.proofs.Grown.{HasGot, got_at, settled_long}
use Rattle.mail_laws.proofs.Promises.{not_sent, still_sent}
use Rattle.mail_laws.proofs.SameTurns.{parked_names}
use Rattle.many_host.specs.declared.hosted.Hosted.{Hosted}
use Rattle.many_host.specs.declared.turn_taking.Stage.{Stage}
use Rattle.many_host.specs.declared.turn_taking.Stage.TheVariants.{Between, Showing, Telling}
use Rattle.many_host.specs.Hosts.{memory_of}
use Rattle.many_host.specs.MailStanding.{StandingFrom}
use Rattle.many_host.specs.MailTurns.{TellsOnFrom}
use Rattle.many_host.specs.Standing.{Held}
use Rattle.world_hosting.proofs.MailAsks.{AsksLast, NoCalls, asks_plain, asks_told, last_before, last_behind, last_front, looks_quiet, names_now, others_quiet, waits_asks}

opening_names : (names : List (List ℕ)) → names_of (map M.empty_box names) ≡ names
opening_names [] = refl
opening_names (n ∷ names) = ap (λ (ns : List (List ℕ)). n ∷ ns) (opening_names names)

starting_awake : (programs : List Program) (j : ℕ) (u : Teller) → slice_get (map starting programs) j ≡ Some u → u.receive ≡ None
starting_awake programs j u at = by (slice_get programs j) (sym (slice_get-map starting programs j) ∙ at)
  where
    by : (o : Option Program) → option_map starting o ≡ Some u → u.receive ≡ None
    by None e = cc
    by (Some w) e = ap (λ (x : Teller). x.receive) (sym (same_Some (starting w) u e))

-- who is due doesn't wait
due_awake : (mid : List Teller) (i due : ℕ) (t : Teller) → slice_get mid i ≡ Some t → slice_get (map due_of mid) i ≡ Some (Some due) → t.receive ≡ None
due_awake mid i due t there is =
    by t.has_ended t.receive (same_Some (due_of t) (Some due) (ap (option_map due_of) (sym there) ∙ sym (slice_get-map due_of mid i) ∙ is))
  where
    by : (b : Bool) (r : Option Await) → if_going b (unless_waiting r t.due) ≡ Some due → r ≡ None
    by true r e = absurd cc
    by false None e = refl
    by false (Some r) e = absurd cc

-- Behind a turn of a program who waits is the program itself, as it was told, or another that waited before.
module _ (i due : ℕ) (ss : List Settled) (mid tellers : List Teller) (t told : Teller) (there : slice_get mid i ≡ Some t) (awake : t.receive ≡ None) (sent : AreSent mid ss)
    (after : tellers ≡ settle_all due ss (slice_set mid i told)) where
  waits_still : (j : ℕ) (u : Teller) (r : Await) → slice_get tellers j ≡ Some u → u.receive ≡ Some r → ((j ≡ i) × (u ≡ told)) ⊎ ((j ≡ i → ⊥) × (slice_get mid j ≡ Some u))
  waits_still j u r e waits =
      by (got_at due ss (slice_set mid i told) j v.0 u (still_sent mid ss i told (not_sent mid ss i t there awake sent) sent) v.1 e')
    where
      e' : slice_get (settle_all due ss (slice_set mid i told)) j ≡ Some u
      e' = ap (λ (l : List Teller). slice_get l j) (sym after) ∙ e

      inside : j < length (slice_set mid i told)
      inside =
          let within = slice_get_within (settle_all due ss (slice_set mid i told)) j u e' in
          let long = settled_long due ss (slice_set mid i told) in
          omega (arith, within, long)

      v : (x : Teller) × (slice_get (slice_set mid i told) j ≡ Some x)
      v = item (slice_set mid i told) j inside

      at : (u ≡ v.0) → (j ≡ i) ⊎ (j ≡ i → ⊥) → ((j ≡ i) × (u ≡ told)) ⊎ ((j ≡ i → ⊥) × (slice_get mid j ≡ Some u))
      at same (inl own) =
          inl (own, same ∙ same_Some v.0 told (sym v.1 ∙ ap (slice_get (slice_set mid i told)) own ∙ set_here mid i told t there))
      at same (inr other) = inr (other, sym (set_there mid i j told other) ∙ v.1 ∙ ap (λ (x : Teller). Some x) (sym same))

      by : (u ≡ v.0) ⊎ HasGot due v.0 u → ((j ≡ i) × (u ≡ told)) ⊎ ((j ≡ i → ⊥) × (slice_get mid j ≡ Some u))
      by (inl same) = at same (cases_eq j i)
      by (inr got) = let bad : None ≡ Some r = sym (ap (λ (x : Teller). x.receive) got.is) ∙ waits in absurd cc

module _ (begun : ℕ) (programs : List Program) (detaches : List Detach) (boxes : List (List ℕ)) (ds : List Device) where
  -- each that waits has asked a mailbox by its last call
  abbrev pub AllAsked : List Line → List Teller → Type 0
  AllAsked lines tellers = (j : ℕ) (u : Teller) (r : Await) → slice_get tellers j ≡ Some u → u.receive ≡ Some r → AsksLast boxes programs j lines

  told_asked : (count : ℕ) (lines : List Line) (tellers : List Teller) (c : Common) → Tells begun programs detaches boxes ds count lines tellers c
      → (names_of c.boxes ≡ boxes) × AllAsked lines tellers
  told_asked zero lines tellers c h = (
    ap (λ (z : Common). names_of z.boxes) h.2 ∙ opening_names boxes,
    λ j u r e waits.
        let bad : None ≡ Some r = sym (starting_awake programs j u (ap (λ (l : List Teller). slice_get l j) (sym h.1) ∙ e)) ∙ waits in
        absurd cc,
  )
  told_asked (suc count) lines tellers c h = by (told_asked count h.0 h.2 h.3 h.4) h.5
    where
      by : (names_of h.3.boxes ≡ boxes) × AllAsked h.0 h.2 → TellsEvent programs detaches (suc (begun + count)) h.2 h.3 h.1 tellers c → (names_of c.boxes ≡ boxes) × AllAsked lines tellers
      by before (tells_turn play) = (
        ap (λ (z : Common). names_of z.boxes) play.common ∙ parked_names play.i (parks play.turn play.behind.receive) play.behind.boxes
            ∙ names_now boxes play.w play.i play.turn play.met play.t.answers play.answers (begun_amid (suc (begun + count)) detaches h.3) play.behind h.2 before.0 play.sent out play.calls,
        λ j u r e waits.
            subst (AsksLast boxes programs j) (sym h.6)
            (at j u r waits (waits_still play.i (suc play.t.due) play.behind.settled h.2 tellers play.t told play.there awake play.sent play.after j u r e waits)),
      )
        where
          told : Teller
          told = having_told play.t play.turn play.met play.answers play.behind.receive

          awake : play.t.receive ≡ None
          awake = due_awake h.2 play.i play.t.due play.t play.there play.next.there

          out : NotAmong play.i play.behind.settled
          out = not_sent h.2 play.behind.settled play.i play.t play.there awake play.sent

          own : (r : Await) → play.behind.receive ≡ Some r → AsksLast boxes programs play.i h.1
          own r is =
              subst (AsksLast boxes programs play.i) (sym play.made)
              (asks_told boxes programs play.i play.w play.program play.t.due (parks play.turn play.behind.receive) play.w.looks play.turn
              (waits_asks boxes play.w play.i play.turn play.met play.t.answers play.answers (begun_amid (suc (begun + count)) detaches h.3) play.behind h.2 before.0 play.sent out play.calls r is))

          at : (j : ℕ) (u : Teller) (r : Await) → u.receive ≡ Some r → ((j ≡ play.i) × (u ≡ told)) ⊎ ((j ≡ play.i → ⊥) × (slice_get h.2 j ≡ Some u)) → AsksLast boxes programs j (h.0 ++ h.1)
          at j u r waits (inl same) =
              subst (λ (k : ℕ). AsksLast boxes programs k (h.0 ++ h.1)) (sym same.0)
              (last_behind boxes programs play.i h.0 h.1 (own r (sym (ap (λ (x : Teller). x.receive) same.1) ∙ waits)))
          at j u r waits (inr other) =
              last_before boxes programs j h.0 h.1
              (subst (NoCalls j) (sym play.made) (others_quiet play.t.due play.i j (told_pause (parks play.turn play.behind.receive)) (events_with_looks play.w.looks play.turn) other.0))
              (before.1 j u r other.1 waits)
      by before (tells_stall play) = (
        ap (λ (z : Common). names_of z.boxes) play.common ∙ before.0,
        λ j u r e waits.
            subst (AsksLast boxes programs j) (sym h.6)
            (last_before boxes programs j h.0 h.1 (subst (NoCalls j) (sym play.made) (λ own. refl, looks_quiet h.3.tick play.i j (store_behind play.t.told).memory play.w.looks))
            (at j u r waits (ap (λ (l : List Teller). slice_get l j) (sym play.after) ∙ e) (cases_eq j play.i))),
      )
        where
          now : Teller
          now = record play.t { has_ended = true }

          at : (j : ℕ) (u : Teller) (r : Await) → u.receive ≡ Some r → slice_get (slice_set h.2 play.i now) j ≡ Some u → (j ≡ play.i) ⊎ (j ≡ play.i → ⊥) → AsksLast boxes programs j h.0
          at j u r waits e (inl own) =
              let is : now ≡ u = same_Some now u (sym (set_here h.2 play.i now play.t play.there) ∙ ap (slice_get (slice_set h.2 play.i now)) (sym own) ∙ e) in
              subst (λ (k : ℕ). AsksLast boxes programs k h.0) (sym own) (before.1 play.i play.t r play.there (ap (λ (x : Teller). x.receive) is ∙ waits))
          at j u r waits e (inr other) = before.1 j u r (sym (set_there h.2 play.i j now other) ∙ e) waits

  on_asked : (count i due : ℕ) (lines : List Line) (tellers : List Teller) (now : Amid) → TellsOnFrom begun programs detaches boxes ds count i due lines tellers now → AllAsked lines tellers
  on_asked count i due lines tellers now on = λ j u r e waits.
      subst (AsksLast boxes programs j) (sym on.made) (at j u r waits (waits_still i (suc due) now.settled on.mid tellers on.t told on.there awake on.sent on.after j u r e waits))
    where
      before : (names_of on.c.boxes ≡ boxes) × AllAsked on.before on.mid
      before = told_asked count on.before on.mid on.c on.whole

      told : Teller
      told = having_told on.t on.turn on.met on.answers now.receive

      awake : on.t.receive ≡ None
      awake = due_awake on.mid i due on.t on.there on.next.there

      more : List Line
      more = map (line_at due i) (events_of on.turn)

      own : (r : Await) → now.receive ≡ Some r → AsksLast boxes programs i more
      own r is =
          asks_plain boxes programs i on.w on.program due on.turn
          (waits_asks boxes on.w i on.turn on.met on.t.answers on.answers (begun_amid (suc (begun + count)) detaches on.c) now on.mid before.0 on.sent
          (not_sent on.mid now.settled i on.t on.there awake on.sent) on.calls r is)

      at : (j : ℕ) (u : Teller) (r : Await) → u.receive ≡ Some r → ((j ≡ i) × (u ≡ told)) ⊎ ((j ≡ i → ⊥) × (slice_get on.mid j ≡ Some u)) → AsksLast boxes programs j (on.before ++ more)
      at j u r waits (inl same) =
          subst (λ (k : ℕ). AsksLast boxes programs k (on.before ++ more)) (sym same.0)
          (last_behind boxes programs i on.before more (own r (sym (ap (λ (x : Teller). x.receive) same.1) ∙ waits)))
      at j u r waits (inr other) = last_before boxes programs j on.before more (others_quiet due i j (λ e. e) (events_of on.turn) other.0) (before.1 j u r other.1 waits)

  -- so it is with what a host has told
  pub stands_asked : (lines : List Line) (h : Held Hosted) (last : ℕ) (ds' : List Device) (mail : Mail) (stage : Stage) (s : StandingFrom begun programs detaches boxes ds lines h last ds' mail stage)
      → AllAsked lines s.tellers
  stands_asked lines h last ds' mail Between s = (told_asked s.count lines s.tellers _ s.at.0).1
  stands_asked lines h last ds' mail (Telling turn) s = on_asked s.at.0 turn.program turn.due lines s.tellers _ s.at.6
  stands_asked lines h last ds' mail (Showing turn from) s = λ j u r e waits.
      last_front boxes programs j lines _ (looks_quiet turn.due turn.program j (memory_of s.at.0) (looks_of turn.program (drop from h.shows)))
      ((told_asked s.count _ s.tellers _ s.at.2).1 j u r e waits)
