-- What a host has told, as a beginning of a world's run.
use Rattle.std.proofs.Common.{arith, ◌≡◌, ℕ, List, Option, Some, None, slice_get, subst, append_assoc}
use Rattle.std.specs.Prelude.{MatchOption}
use Rattle.std.specs.List.{AllZip}
use Rattle.std.proofs.lemmas.Option.{slice_get_within}
use Rattle.wa_model.specs.declared.answers.Detach.{Detach}
use Rattle.wa_model.specs.declared.events.Line.{Line as LineValue}
use Rattle.wa_model.specs.Outside.{Line}
use Rattle.world_model.specs.World.{Device, Program, ProtocolWorldFrom}
use Rattle.event_order.specs.Dues.{HaveEnded}
use Rattle.event_order.specs.Left.{Counted}
use Rattle.many_host.specs.Turns.{HaveMet, Teller, since}
use Rattle.world_laws.proofs.Places.{item, zipped}
use Rattle.many_host.specs.Notes.{OnStory}
use Rattle.many_host.proofs.WorldBegun.{BeginsMet, begins_on, lines_begin, turns_begin, turns_whole}
use Rattle.many_host.specs.declared.turn_taking.Turns.{Turns}
use Rattle.many_host.specs.declared.turn_taking.Stage.{Stage}
use Rattle.many_host.specs.declared.turn_taking.Stage.TheVariants.{Between, Telling, Showing}
use Rattle.many_host.specs.Standing.{AllTold, Held, StandingFrom, TellsNext, held_of}
use Rattle.many_host.specs.declared.hosted.Hosted.{Hosted}
use Rattle.many_host.specs.declared.host.Host.{Host}
use Rattle.many_host.specs.Hosts.{HostNextFrom, HostTold, HostToldFrom, follows, has_ended, memory_of}
use Rattle.many_host.specs.Laws.{ToldBeginsWorld}
use Rattle.many_host.proofs.Tellings.{on_story}

module _ (begun : ℕ) (programs : List Program) (detaches : List Detach) (ds : List Device) (lines : List Line) (h : Held Hosted) (ds' : List Device) where
  pub all_on : (stage : Stage) (s : StandingFrom begun follows has_ended memory_of programs detaches ds lines h ds' stage) → AllZip OnStory programs s.tellers
  all_on stage s = zipped OnStory programs s.tellers s.wide each where
    each : (i : ℕ) (w : Program) (t : Teller) → slice_get programs i ≡ Some w → slice_get s.tellers i ≡ Some t → OnStory w t
    each i w t ew et =
        let x = item h.programs i (omega (arith, slice_get_within programs i w ew, s.as_many)) in
        on_story h.shows i w t x.0 (s.each i w t x.0 ew et x.1)

  begins_at : (stage : Stage) (s : StandingFrom begun follows has_ended memory_of programs detaches ds lines h ds' stage) → BeginsMet begun programs detaches ds lines s.tellers
  begins_at Between s = turns_begin begun programs detaches ds ds' (since begun h.begun) lines s.tellers s.at (all_on Between s)
  begins_at (Telling turn) s = begins_on begun programs detaches ds ds' s.at.0 turn.program turn.due lines s.tellers s.at.2 (all_on (Telling turn) s)
  begins_at (Showing turn from) s =
      let run = turns_begin begun programs detaches ds ds' (since begun h.begun) _ s.tellers s.at.2 (all_on (Showing turn from) s) in
      let both = subst (λ (l : List Line). (world : ProtocolWorldFrom begun programs detaches ds l run.1) × HaveMet s.tellers world.actors) (append_assoc lines _ run.0) (run.2, run.3) in
      (_, run.1, both.0, both.1)

  whole_at : (tellers : List Teller) (old new : List Counted) → AllTold begun follows has_ended memory_of programs detaches ds lines tellers old new h ds'
      → (world : ProtocolWorldFrom begun programs detaches ds lines ds') × HaveMet tellers world.actors × (new ≡ old)
  whole_at tellers old new t =
      let run = turns_whole begun programs detaches ds ds' (since begun h.begun) lines t.stands.tellers t.stands.at (all_on Between t.stands) (subst (λ (l : List (Option ℕ)). HaveEnded l) t.stands.dues t.have_ended) in
      (run.0, subst (λ (l : List Teller). HaveMet l run.0.actors) t.tellers_are run.1, t.kept)

-- the first lines of a run, in which the programs' calls meet first what they have met
pub told_begins_met_from : (begun : ℕ) (programs : List Program) (detaches : List Detach) (ds ds' : List Device) (lines : List Line) (h : Host) (told : HostToldFrom begun programs detaches ds lines h ds')
    → BeginsMet begun programs detaches ds lines told.tellers
told_begins_met_from begun programs detaches ds ds' lines h told = begins_at begun programs detaches ds lines (held_of h.turns) ds' h.turns.stage told

-- from the first event on
pub told_begins_met : (programs : List Program) (detaches : List Detach) (ds ds' : List Device) (lines : List Line) (h : Host) (told : HostTold programs detaches ds lines h ds')
    → BeginsMet 0 programs detaches ds lines told.tellers
told_begins_met = told_begins_met_from 0

pub told_begins_world : ToldBeginsWorld
told_begins_world begun programs detaches ds ds' lines h told = lines_begin begun programs detaches ds lines told.tellers (told_begins_met_from begun programs detaches ds ds' lines h told)

pub host_next : (begun : ℕ) (programs : List Program) (detaches : List Detach) (ds : List Device) (lines : List Line) (tellers : List Teller) (old left new : List Counted) (h : Host) (ds' : List Device)
    (result : Option LineValue) → TellsNext begun follows has_ended memory_of programs detaches ds lines tellers old left new h.turns ds' result
    → HostNextFrom begun programs detaches ds lines tellers old left new h ds' result
host_next begun programs detaches ds lines tellers old left new h ds' None t = whole_at begun programs detaches ds lines (held_of h.turns) ds' tellers old new t
host_next begun programs detaches ds lines tellers old left new h ds' (Some line) t = t

-- where there is no line, the host is as it was
pub same_host : (now before : Turns Hosted) (result : Option LineValue) → MatchOption result (now ≡ before) (λ l. Unit {0})
    → MatchOption result (◌≡◌ {A = Host} (record { turns = now }) (record { turns = before })) (λ l. Unit {0})
same_host now before None same = λ k. record { turns = same k }
same_host now before (Some line) same = tt
