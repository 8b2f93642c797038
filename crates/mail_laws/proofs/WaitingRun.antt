-- The run of a program that waits for good: it parks at its first receive, and then stalls.
use Rattle.std.proofs.Common.{arith, ◌≡◌, ◌<◌, ◌≤◌, ◌⊎◌, inr, ℕ, zero, suc, List, [], ◌∷◌, Some, None, true, false, refl, ap, ◌∙◌}
use Rattle.std.specs.Prelude.{slice_get, take, drop}
use Rattle.std.proofs.lemmas.List.Elements.{All-nil, All-cons}
use Rattle.wa_types.specs.declared.values.Value.TheVariants as V
use Rattle.wa_types.specs.Base.{Base}
use Rattle.wa_types.specs.Pruned.{pruned}
use Rattle.wa_types.specs.Pausing.{calls_of}
use Rattle.wa_types.specs.Points.{points}
use Rattle.wa_model.specs.declared.events.End.TheVariants.{Stalled}
use Rattle.wa_model.specs.Outside.{called, ended, parked}
use Rattle.wa_model.specs.Store.{Store}
use Rattle.wa_model.specs.Plan.{Outcome}
use Rattle.wa_model.specs.Blocking.{Note}
use Rattle.wa_model.specs.Behaves.{expected_notes}
use Rattle.world_model.specs.World.{Program}
use Rattle.mail_laws.specs.Mailboxes.{Midst, Shared, mailed}
use Rattle.mail_laws.specs.MailWorld.{Actor, HasEnded, IsReady, Stalls, StartsBlocking, TakesTurn, a_stall, a_turn, an_event, begins_over, no_event, sharing, store_behind, tells_end, waits}
use Rattle.mail_laws.specs.WaitingRun.{WaitsForGood, all, box, getter, line, waiter, waiting_lines}

abbrev os : List Outcome
os = mailed (Some (V.I32 0)) 1 ∷ []

abbrev told : List Note
told = take 2 (expected_notes getter all waiter.plan os 2)

abbrev at_first : Actor
at_first = record { due = 0; notes = told; outcomes = os; answers = []; parked = None }

abbrev at_pause : Store
at_pause = store_behind told

abbrev waiting : Actor
waiting = record { due = 1; notes = []; outcomes = []; answers = []; parked = Some (record { import = 0; store = at_pause }) }

abbrev first : Shared
first = sharing (box ∷ []) []

abbrev behind : Midst
behind = record { devices = []; boxes = record { name = box; values = []; waits = [] } ∷ []; settled = []; receive = Some (record { import = 0; box = box; value = 0 }) }

abbrev parked_there : Shared
parked_there = record { devices = []; boxes = record { name = box; values = []; waits = record { program = 0; value = 0 } ∷ [] } ∷ []; tick = 0 }

abbrev at_end : Shared
at_end = record parked_there { devices = [] }

abbrev ps : List Program
ps = waiter ∷ []

starts_so : StartsBlocking all waiter at_first
unfolding pruned calls_of points Base
starts_so = record {
  origin = refl;
  starts = record { due = refl; answers = refl; parked = refl };
  story = waits 2 (drop 2 (expected_notes getter all waiter.plan os 2)) (omega arith) refl refl;
}

some_is : (x y : Actor) → Some x ≡ Some y → x ≡ y
some_is x y e = cc

turn : TakesTurn ps [] 1 (at_first ∷ []) first (line (called (record { import = 0; args = [] })) ∷ line (parked 20) ∷ []) (waiting ∷ []) parked_there
unfolding pruned calls_of points Base
turn = record {
  i = 0;
  a = at_first;
  w = waiter;
  next = record { there = refl; ready = record { unfinished = omega arith; awake = refl }; least = least };
  program = refl;
  outcomes = [];
  answers = [];
  behind = behind;
  calls = (mailed (Some (V.I32 0)) 1, [], [], behind, refl, ((0, omega arith, refl, refl), refl), (refl, refl, refl));
  made = refl;
  after = refl;
  shared = refl;
}
  where
    least : (j : ℕ) (b : Actor) → slice_get (at_first ∷ []) j ≡ Some b → IsReady b → (0 < b.due) ⊎ ((0 ≡ b.due) × (0 ≤ j))
    least zero b e r = inr (ap (λ (c : Actor). c.due) (some_is at_first b e), omega arith)
    least (suc j) b e r = cc

stall : Stalls ps [] 2 (waiting ∷ []) parked_there (line (ended (Stalled 0)) ∷ []) (record waiting { parked = None } ∷ []) at_end
stall = record {
  i = 0;
  a = waiting;
  w = waiter;
  at = record { import = 0; store = at_pause };
  there = refl;
  program = refl;
  waits = refl;
  no_more = refl;
  none_ready = none;
  first = λ j b p e q. omega arith;
  made = refl;
  after = refl;
  shared = refl;
}
  where
    none : (j : ℕ) (b : Actor) → slice_get (waiting ∷ []) j ≡ Some b → IsReady b → ⊥
    none zero b e r = let same : waiting ≡ b = some_is waiting b e in let awake : waiting.parked ≡ None = ap (λ (c : Actor). c.parked) same ∙ r.awake in cc
    none (suc j) b e r = cc

pub waits_for_good : WaitsForGood
waits_for_good = record {
  actors = at_first ∷ [];
  starts = (starts_so, tt);
  runs = record {
    last = record waiting { parked = None } ∷ [];
    shared = at_end;
    events = an_event (a_turn turn) (an_event (a_stall stall) no_event refl) refl;
    over = All-cons HasEnded (record waiting { parked = None }) [] (record { no_notes = refl; awake = refl }) (All-nil HasEnded);
    devices = refl;
  };
  ends = each;
}
  where
    each : (i : ℕ) (w : Program) → slice_get (waiter ∷ []) i ≡ Some w → begins_over w ≡ false → tells_end i waiting_lines ≡ true
    each zero w e going = refl
    each (suc i) w e going = cc
