-- What a host with mailboxes has told, as a world's run.
use Rattle.std.proofs.Common.{arith, ◌≡◌, ℕ, List, Option, Some, None, slice_get, sym, subst, ◌++◌, map, drop, append_assoc, suc, slice_set, ap, ◌∙◌, [], ◌∷◌}
use Rattle.std.specs.Prelude.{MatchOption}
use Rattle.std.specs.List.{AllZip}
use Rattle.std.proofs.lemmas.Option.{slice_get_within}
use Rattle.wa_model.specs.declared.answers.Detach.{Detach}
use Rattle.wa_model.specs.declared.events.Line.{Line as LineValue}
use Rattle.wa_model.specs.Outside.{Line}
use Rattle.world_model.specs.World.{Device, Program, line_at}
use Rattle.world_laws.proofs.Places.{item, zipped}
use Rattle.event_order.specs.declared.turns.Turn.{Turn}
use Rattle.event_order.specs.Left.{Counted}
use Rattle.event_order.specs.Looks.{looks_of}
use Rattle.mailbox_device.specs.Mail.{Mail}
use Rattle.mail_laws.specs.MailWorld.{ProtocolWorldFrom}
use Rattle.wa_model.specs.Blocking.{Note, events_of}
use Rattle.pause_host.specs.Mailing.{amid_of}
use Rattle.mail_laws.proofs.BegunOn.{begun_goes_on}
use Rattle.many_host.specs.Notes.{GoesOn}
use Rattle.mail_laws.specs.Told.{IsLeast, Unended, due_of, having_told, settle_all, HasStory, HaveEnded, HaveMet, Teller}
use Rattle.mail_laws.proofs.GoneOn.{told_goes_on}
use Rattle.many_host.specs.MailHosts.{MailHostBegins, HostTellsNext}
use Rattle.many_host.specs.MailStanding.{AllTold, StandingFrom, TellsNext, common_of}
use Rattle.many_host.specs.Standing.{Held, held_of, looks_at}
use Rattle.many_host.specs.ToldMail.{MailBegunBegins, MailToldBegins, MailToldWhole, BeginsMailWorld}
use Rattle.many_host.specs.declared.host.Host.{Host}
use Rattle.many_host.specs.declared.hosted.Hosted.{Hosted}
use Rattle.many_host.specs.declared.turn_taking.Stage.{Stage}
use Rattle.many_host.specs.declared.turn_taking.Turns.{Turns}
use Rattle.mail_laws.proofs.Prepared.{all_told_is_world}
use Rattle.many_host.specs.Hosts.{memory_of}
use Rattle.many_host.specs.declared.turn_taking.Stage.TheVariants.{Between, Showing, Telling}
use Rattle.many_host.proofs.MailStories.{held_has_story}

pub mail_told_begins : MailToldBegins
mail_told_begins begun programs detaches boxes ds es mail count last lines tellers tells all = told_goes_on begun programs detaches boxes ds count lines tellers (common_of es mail last) tells all

pub mail_told_whole : MailToldWhole
mail_told_whole begun programs detaches boxes ds es mail count last lines tellers tells all over =
    all_told_is_world begun programs detaches boxes ds count lines tellers (common_of es mail last) tells all over

unended : (xs : List Note) → GoesOn xs → Unended xs
unended [] h = tt
unended (x ∷ xs) h = (h.0, unended xs h.1)

pub mail_begun_begins : MailBegunBegins
mail_begun_begins begun programs detaches boxes ds count i due lines tellers now on all =
    begun_goes_on begun programs detaches boxes ds count lines tellers
    (record {
      before = on.before;
      mid = on.mid;
      c = on.c;
      whole = on.whole;
      i = i;
      w = on.w;
      t = on.t;
      program = on.program;
      there = on.there;
      next = subst (λ (n : ℕ). IsLeast (map due_of on.mid) i n) (sym on.due_is) on.next;
      turn = on.turn;
      unended = unended on.turn on.goes_on;
      met = on.met;
      answers = on.answers;
      behind = now;
      calls = on.calls;
      sent = on.sent;
      made = on.made ∙ ap (λ (n : ℕ). on.before ++ map (line_at n i) (events_of on.turn)) (sym on.due_is);
      after = on.after ∙ ap (λ (n : ℕ). settle_all (suc n) now.settled (slice_set on.mid i (having_told on.t on.turn on.met on.answers now.receive))) (sym on.due_is);
    })
    all

module _ (begun : ℕ) (programs : List Program) (detaches : List Detach) (boxes : List (List ℕ)) (ds : List Device) (lines : List Line) (h : Held Hosted) (last : ℕ) (ds' : List Device) (mail : Mail) where
  -- what each program of a host has told begins its story
  pub stories_held : (stage : Stage) (s : StandingFrom begun programs detaches boxes ds lines h last ds' mail stage) → AllZip HasStory programs s.tellers
  stories_held stage s = zipped HasStory programs s.tellers s.wide each
    where
      each : (i : ℕ) (w : Program) (t : Teller) → slice_get programs i ≡ Some w → slice_get s.tellers i ≡ Some t → HasStory w t
      each i w t ew et =
          let x = item h.programs i (omega (arith, slice_get_within programs i w ew, s.as_many)) in
          held_has_story h.shows i w t x.0 (s.each i w t x.0 ew et x.1)

  -- once all have ended
  pub whole_told : (tellers : List Teller) (old new : List Counted) → AllTold begun programs detaches boxes ds lines tellers old new h last ds' mail
      → (world : ProtocolWorldFrom begun programs detaches boxes ds lines ds') × HaveMet tellers world.actors × (new ≡ old)
  whole_told tellers old new a =
      let over : HaveEnded a.stands.tellers = subst HaveEnded (sym a.tellers_are) a.have_ended in
      let run = mail_told_whole begun programs detaches boxes ds ds' mail a.stands.count last lines a.stands.tellers a.stands.at.0 (stories_held _ a.stands) over in
      (run.0, subst (λ (l : List Teller). HaveMet l run.0.actors) a.tellers_are run.1, a.kept)

  -- between turns, and while memory is shown, what was told begins a run of the world
  pub begins_between : (s : StandingFrom begun programs detaches boxes ds lines h last ds' mail Between) → BeginsMailWorld begun programs detaches boxes ds lines s.tellers
  begins_between s = mail_told_begins begun programs detaches boxes ds ds' mail s.count last lines s.tellers s.at.0 (stories_held Between s)

  pub begins_showing : (turn : Turn) (from : ℕ) (s : StandingFrom begun programs detaches boxes ds lines h last ds' mail (Showing turn from)) → BeginsMailWorld begun programs detaches boxes ds lines s.tellers
  begins_showing turn from s =
      let rest : List Line = map (line_at turn.due turn.program) (looks_at (memory_of s.at.0) (looks_of turn.program (drop from h.shows))) in
      let run = mail_told_begins begun programs detaches boxes ds ds' mail s.count last (lines ++ rest) s.tellers s.at.2 (stories_held (Showing turn from) s) in
      let both = subst (λ (l : List Line). (world : ProtocolWorldFrom begun programs detaches boxes ds l run.1) × HaveMet s.tellers world.actors) (append_assoc lines rest run.0) (run.2, run.3) in
      (rest ++ run.0, run.1, both.0, both.1)

  -- in the midst of a turn too
  pub begins_telling : (turn : Turn) (s : StandingFrom begun programs detaches boxes ds lines h last ds' mail (Telling turn)) → BeginsMailWorld begun programs detaches boxes ds lines s.tellers
  begins_telling turn s =
      mail_begun_begins begun programs detaches boxes ds s.at.0 turn.program turn.due lines s.tellers (amid_of ds' (record mail { settled = s.at.4 }) s.at.2.receive) s.at.6 (stories_held (Telling turn) s)

  -- at whatever stage
  pub stage_begins : (stage : Stage) (s : StandingFrom begun programs detaches boxes ds lines h last ds' mail stage) → BeginsMailWorld begun programs detaches boxes ds lines s.tellers
  stage_begins Between s = begins_between s
  stage_begins (Telling turn) s = begins_telling turn s
  stage_begins (Showing turn from) s = begins_showing turn from s

-- ---- a host

-- what it has told begins a run of the world
pub host_begins : MailHostBegins
host_begins begun programs detaches boxes ds lines h ds' mail s = stage_begins begun programs detaches boxes ds lines (held_of h.turns) h.turns.last ds' mail h.turns.stage s

-- what it tells next
pub host_tells_next : (begun : ℕ) (programs : List Program) (detaches : List Detach) (boxes : List (List ℕ)) (ds : List Device) (lines : List Line) (tellers : List Teller)
    (old left new : List Counted) (mail : Mail) (h : Host) (ds' : List Device) (mail' : Mail) (result : Option LineValue)
    → TellsNext begun programs detaches boxes ds lines tellers old left new mail h.turns ds' mail' result
    → HostTellsNext begun programs detaches boxes ds lines tellers old left new mail h ds' mail' result
host_tells_next begun programs detaches boxes ds lines tellers old left new mail h ds' mail' None t =
    whole_told begun programs detaches boxes ds lines (held_of h.turns) h.turns.last ds' mail' tellers old new t
host_tells_next begun programs detaches boxes ds lines tellers old left new mail h ds' mail' (Some line) t = t

-- where there is no line, the host and the mailboxes are as they were
pub same_mail_host : (now before : Turns Hosted) (mail mail' : Mail) (result : Option LineValue) → MatchOption result ((now ≡ before) × (mail' ≡ mail)) (λ l. Unit {0})
    → MatchOption result ((◌≡◌ {A = Host} (record { turns = now }) (record { turns = before })) × (mail' ≡ mail)) (λ l. Unit {0})
same_mail_host now before mail mail' None same = (λ k. record { turns = same.0 k }, same.1)
same_mail_host now before mail mail' (Some line) same = tt
