-- What a host of several programs has told.
use Rattle.std.specs.Prelude.{◌≡◌, ℕ, List, [], ◌∷◌, length, Option, Some, Bool, false, MatchBool, MatchOption, slice_get}
use Rattle.std.specs.Option.{is_some}
use Rattle.wa_model.specs.declared.answers.Detach.{Detach}
use Rattle.wa_model.specs.declared.events.Line.{Line as LineValue}
use Rattle.wa_model.specs.Outside.{AnswerLine, Line}
use Rattle.wa_model.specs.Plan.{Outcome}
use Rattle.wa_model.specs.Blocking.{Note}
use Rattle.wa_model.specs.View.{line_of}
use Rattle.world_model.specs.World.{Device, ProtocolWorldFrom, answers_from, at_start, due_from, gone}
use Rattle.world_model.specs.World as W
use Rattle.event_order.specs.declared.shows.Show.{Show}
use Rattle.event_order.specs.Looks.{looks_of}
use Rattle.pause_host.specs.declared.program.Program.{Program}
use Rattle.pause_host.specs.Programs.{Follows, ended_as, lines_left, memory_in}
use Rattle.event_order.specs.Left.{Counted}
use Rattle.many_host.specs.Standing.{Standing, StandingFrom, TellsLineFrom, held_of}
use Rattle.many_host.specs.Turns.{HaveMet, Teller, is_gone, unless}
use Rattle.many_host.specs.declared.hosted.Hosted.{Hosted}
use Rattle.many_host.specs.declared.host.Host.{Host}

-- ---- programs

-- a program has told these notes, its calls met these outcomes, and these answer lines are left
abbrev pub follows : Hosted → W.Program → List Note → List Outcome → List AnswerLine → Type 0
follows x w notes os answers = Follows w notes os x.program × (lines_left x.program ≡ answers)

-- it has told its end
abbrev pub has_ended : Hosted → Bool
has_ended x = is_some (ended_as x.program)

-- the bytes of its memory
abbrev pub memory_of : Hosted → List ℕ
memory_of x = memory_in x.program

-- Programs of a world that are set up and begin at their start, of which none was advanced, with what is shown behind their ends.
pub record AreSetUp (ws : List W.Program) (shows : List Show) (xs : List Program) : Type 0 where
  pub wide : length xs ≡ length ws
  pub each : (i : ℕ) (w : W.Program) (x : Program) → slice_get ws i ≡ Some w → slice_get xs i ≡ Some x → Follows w [] [] x × (lines_left x ≡ w.answers) × (w.looks ≡ looks_of i shows) × (w.origin ≡ at_start)

-- The program has told nothing since it was set up or put back, and is due at this tick; or it is marked as one that has ended, which the world's then
-- has, and nothing is asked of it.
abbrev pub IsResumed : W.Program → List Show → (i : ℕ) → Program → (due : ℕ) → (marked : Bool) → Type 0
IsResumed w shows i x due marked =
    (w.looks ≡ looks_of i shows)
    × MatchBool marked (w.origin ≡ gone) ((is_gone w ≡ false) × Follows w [] [] x × (lines_left x ≡ answers_from w.answers w.origin) × (due ≡ due_from w.origin))

-- Programs of a world where they begin: when each is due, and which have ended.
pub record AreResumed (ws : List W.Program) (shows : List Show) (xs : List Program) (dues : List ℕ) (ended : List Bool) : Type 0 where
  pub wide : length xs ≡ length ws
  pub each : (i : ℕ) (w : W.Program) (x : Program) (due : ℕ) (marked : Bool) → slice_get ws i ≡ Some w → slice_get xs i ≡ Some x → slice_get dues i ≡ Some due → slice_get ended i ≡ Some marked
      → IsResumed w shows i x due marked

-- the ticks at which those are due that haven't ended
abbrev pub dues_left : (dues : List ℕ) → (ended : List Bool) → List (Option ℕ)
dues_left [] ended = []
dues_left (due ∷ dues) [] = []
dues_left (due ∷ dues) (marked ∷ ended) = unless marked due ∷ dues_left dues ended

-- ---- a host

-- The host, which began behind so many events, has told these lines of a world of the programs: so many whole turns, and the beginning of the next;
-- these devices were there at first, and these are now.
abbrev pub HostToldFrom : (begun : ℕ) → List W.Program → List Detach → List Device → List Line → Host → List Device → Type 0
HostToldFrom begun programs detaches ds lines h ds' = StandingFrom begun follows has_ended memory_of programs detaches ds lines (held_of h.turns) ds' h.turns.stage

-- The same of a host that began with the first event.
abbrev pub HostTold : List W.Program → List Detach → List Device → List Line → Host → List Device → Type 0
HostTold programs detaches ds lines h ds' = Standing follows has_ended memory_of programs detaches ds lines (held_of h.turns) ds' h.turns.stage

-- It told one line more, with what its call met and took; or there is none, and what was told is a whole run of the world, whose calls
-- met what the programs' calls did, and which leaves these devices, as they were.
abbrev pub HostNextFrom : (begun : ℕ) → List W.Program → List Detach → List Device → List Line → List Teller → (old left new : List Counted) → Host → List Device → Option LineValue → Type 0
HostNextFrom begun programs detaches ds lines tellers old left new h ds' result =
    MatchOption result ((world : ProtocolWorldFrom begun programs detaches ds lines ds') × HaveMet tellers world.actors × (new ≡ old))
    (λ line. TellsLineFrom begun follows has_ended memory_of programs detaches ds lines tellers left new (line_of line) (held_of h.turns) ds' h.turns.stage)

-- from the first event on
abbrev pub HostNext : List W.Program → List Detach → List Device → List Line → List Teller → (old left new : List Counted) → Host → List Device → Option LineValue → Type 0
HostNext = HostNextFrom 0
