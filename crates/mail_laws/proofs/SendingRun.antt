-- The run of a program that receives two values, and one that sends them.
use Rattle.std.proofs.Common.{arith, ◌≡◌, ◌<◌, ◌≤◌, ◌⊎◌, inr, ℕ, zero, suc, List, [], ◌∷◌, length, take, map, Some, None, true, false, refl, ap, ◌∙◌}
use Rattle.std.specs.Prelude.{slice_get}
use Rattle.std.proofs.lemmas.List.Elements.{All-nil, All-cons}
use Rattle.wa_types.specs.declared.values.Value.TheVariants as V
use Rattle.wa_types.specs.Base.{Base}
use Rattle.wa_types.specs.Pruned.{pruned}
use Rattle.wa_types.specs.Pausing.{calls_of}
use Rattle.wa_types.specs.Points.{points}
use Rattle.wa_model.specs.declared.answers.Said.TheVariants as S
use Rattle.wa_model.specs.declared.events.End.TheVariants.{Done}
use Rattle.wa_model.specs.Outside.{answered, called, ended, parked, returned}
use Rattle.wa_model.specs.Plan.{Outcome}
use Rattle.wa_model.specs.Blocking.{Note, no_store, note}
use Rattle.wa_model.specs.Behaves.{expected_notes}
use Rattle.world_model.specs.World.{Original, Program, behind_turn, line_at, turn_of, whole}
use Rattle.mail_laws.specs.Mailboxes.{Mailbox, Midst, Shared, mailed}
use Rattle.mail_laws.specs.MailWorld.{Actor, HasEnded, IsReady, StartsBlocking, TakesTurn, a_turn, an_event, begins_over, no_event, sharing, store_behind, tells_end, unblocked}
use Rattle.mail_laws.specs.SendingRun.{SendsAndReceives, both, putter, sender, sending_lines}
use Rattle.mail_laws.specs.WaitingRun.{all, box, getter, waiter}

-- ---- the programs on their way

abbrev got : List Outcome
got = mailed (Some (V.I32 5)) 1 ∷ mailed (Some (V.I32 6)) 0 ∷ []

abbrev put : List Outcome
put = mailed None 0 ∷ mailed None 0 ∷ []

abbrev getting : List Note
getting = expected_notes getter all waiter.plan got 100

abbrev putting : List Note
putting = expected_notes putter all sender.plan put 100

abbrev first : Actor
first = record { due = 0; notes = getting; outcomes = got; answers = []; parked = None }

abbrev waiting : Actor
waiting = record { due = 1; notes = behind_turn getting; outcomes = mailed (Some (V.I32 6)) 0 ∷ []; answers = []; parked = Some (record { import = 0; store = store_behind (turn_of getting) }) }

abbrev settled : Actor
settled = record waiting { parked = None }

abbrev second : Actor
second = record { due = 0; notes = putting; outcomes = put; answers = []; parked = None }

abbrev ended_at : ℕ → Actor
ended_at due = record { due = due; notes = []; outcomes = []; answers = []; parked = None }

-- the last of these notes
abbrev last_of : List Note → Note
last_of [] = note (ended Done) no_store
last_of (x ∷ []) = x
last_of (x ∷ y ∷ ys) = last_of (y ∷ ys)

-- ---- what they share

abbrev empty : Mailbox
empty = record { name = box; values = []; waits = [] }

abbrev awaited_five : Mailbox
awaited_five = record { name = box; values = []; waits = record { program = 0; value = 5 } ∷ [] }

abbrev holds_six : Mailbox
holds_six = record { name = box; values = 6 ∷ []; waits = [] }

abbrev shared : Mailbox → ℕ → Shared
shared b tick = record { devices = []; boxes = b ∷ []; tick = tick }

abbrev mid : Mailbox → List ℕ → Midst
mid b woke = record { devices = []; boxes = b ∷ []; settled = woke; receive = None }

abbrev receiving : Midst
receiving = record { devices = []; boxes = empty ∷ []; settled = []; receive = Some (record { import = 0; box = box; value = 5 }) }

-- ---- where they begin

first_starts : StartsBlocking all waiter first
unfolding pruned calls_of points Base
first_starts = record {
  origin = refl;
  starts = record { due = refl; answers = refl; parked = refl };
  story = unblocked (whole (last_of getting) (take 6 getting) getting refl refl refl);
}

second_starts : StartsBlocking all sender second
unfolding pruned calls_of points Base
second_starts = record {
  origin = refl;
  starts = record { due = refl; answers = refl; parked = refl };
  story = unblocked (whole (last_of putting) (take 5 putting) putting refl refl refl);
}

-- ---- three turns

abbrev ps : List Program
ps = waiter ∷ sender ∷ []

some_is : (x y : Actor) → Some x ≡ Some y → x ≡ y
some_is x y e = cc

abbrev IsAfter : ℕ → ℕ → ℕ → Actor → Type 0
IsAfter due i j b = (due < b.due) ⊎ ((due ≡ b.due) × (i ≤ j))

parking : TakesTurn ps [] 1 (first ∷ second ∷ []) (sharing (box ∷ []) []) (line_at 0 0 (called (record { import = 0; args = [] })) ∷ line_at 0 0 (parked 20) ∷ [])
    (waiting ∷ second ∷ []) (shared awaited_five 0)
unfolding pruned calls_of points Base
parking = record {
  i = 0;
  a = first;
  w = waiter;
  next = record { there = refl; ready = record { unfinished = omega arith; awake = refl }; least = least };
  program = refl;
  outcomes = mailed (Some (V.I32 6)) 0 ∷ [];
  answers = [];
  behind = receiving;
  calls = (mailed (Some (V.I32 5)) 1, mailed (Some (V.I32 6)) 0 ∷ [], [], receiving, refl, ((5, omega arith, refl, refl), refl), (refl, refl, refl));
  made = refl;
  after = refl;
  shared = refl;
}
  where
    least : (j : ℕ) (b : Actor) → slice_get (first ∷ second ∷ []) j ≡ Some b → IsReady b → IsAfter 0 0 j b
    least zero b e r = inr (ap (λ (c : Actor). c.due) (some_is first b e), omega arith)
    least (suc zero) b e r = inr (ap (λ (c : Actor). c.due) (some_is second b e), omega arith)
    least (suc (suc j)) b e r = cc

sending : TakesTurn ps [] 2 (waiting ∷ second ∷ []) (shared awaited_five 0)
    (line_at 0 1 (called (record { import = 0; args = V.I32 5 ∷ [] })) ∷ line_at 0 1 (answered (S.Value None)) ∷ line_at 0 1 (called (record { import = 0; args = V.I32 6 ∷ [] }))
    ∷ line_at 0 1 (answered (S.Value None)) ∷ line_at 0 1 (returned 0 None) ∷ line_at 0 1 (ended Done) ∷ []) (settled ∷ ended_at 0 ∷ []) (shared holds_six 0)
unfolding pruned calls_of points Base
sending = record {
  i = 1;
  a = second;
  w = sender;
  next = record { there = refl; ready = record { unfinished = omega arith; awake = refl }; least = least };
  program = refl;
  outcomes = [];
  answers = [];
  behind = mid holds_six (0 ∷ []);
  calls = (
    mailed None 0,
    mailed None 0 ∷ [],
    [],
    mid empty (0 ∷ []),
    refl,
    ((refl, refl, refl), refl),
    (mailed None 0, [], [], mid holds_six (0 ∷ []), refl, ((tt, refl, refl), refl), (refl, refl, refl)),
  );
  made = refl;
  after = refl;
  shared = refl;
}
  where
    least : (j : ℕ) (b : Actor) → slice_get (waiting ∷ second ∷ []) j ≡ Some b → IsReady b → IsAfter 0 1 j b
    least zero b e r = let awake : waiting.parked ≡ None = ap (λ (c : Actor). c.parked) (some_is waiting b e) ∙ r.awake in cc
    least (suc zero) b e r = inr (ap (λ (c : Actor). c.due) (some_is second b e), omega arith)
    least (suc (suc j)) b e r = cc

adding : TakesTurn ps [] 3 (settled ∷ ended_at 0 ∷ []) (shared holds_six 0)
    (line_at 1 0 (answered (S.Value (Some (V.I32 5)))) ∷ line_at 1 0 (called (record { import = 0; args = [] })) ∷ line_at 1 0 (answered (S.Value (Some (V.I32 6))))
    ∷ line_at 1 0 (returned 0 (Some (V.I32 11))) ∷ line_at 1 0 (ended Done) ∷ []) (ended_at 1 ∷ ended_at 0 ∷ []) (shared empty 1)
unfolding pruned calls_of points Base
adding = record {
  i = 0;
  a = settled;
  w = waiter;
  next = record { there = refl; ready = record { unfinished = omega arith; awake = refl }; least = least };
  program = refl;
  outcomes = [];
  answers = [];
  behind = mid empty [];
  calls = (mailed (Some (V.I32 6)) 0, [], [], mid empty [], refl, ((refl, refl), refl), (refl, refl, refl));
  made = refl;
  after = refl;
  shared = refl;
}
  where
    least : (j : ℕ) (b : Actor) → slice_get (settled ∷ ended_at 0 ∷ []) j ≡ Some b → IsReady b → IsAfter 1 0 j b
    least zero b e r = inr (ap (λ (c : Actor). c.due) (some_is settled b e), omega arith)
    least (suc zero) b e r =
        let none : 0 ≡ length b.notes = ap (λ (c : Actor). length c.notes) (some_is (ended_at 0) b e) in
        let some = r.unfinished in
        let never : ⊥ = omega (arith, none, some) in absurd never
    least (suc (suc j)) b e r = cc

pub sends_and_receives : SendsAndReceives
sends_and_receives = record {
  actors = first ∷ second ∷ [];
  starts = (first_starts, (second_starts, tt));
  runs = record {
    last = ended_at 1 ∷ ended_at 0 ∷ [];
    shared = shared empty 1;
    events = an_event (a_turn parking) (an_event (a_turn sending) (an_event (a_turn adding) no_event refl) refl) refl;
    over =
        All-cons HasEnded (ended_at 1) (ended_at 0 ∷ []) (record { no_notes = refl; awake = refl })
        (All-cons HasEnded (ended_at 0) [] (record { no_notes = refl; awake = refl }) (All-nil HasEnded));
    devices = refl;
  };
  ends = each;
}
  where
    each : (i : ℕ) (w : Program) → slice_get (map (λ (o : Original). o.program) both) i ≡ Some w → begins_over w ≡ false → tells_end i sending_lines ≡ true
    each zero w e going = refl
    each (suc zero) w e going = refl
    each (suc (suc i)) w e going = cc
