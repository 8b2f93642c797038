-- A machine that moves by itself: each move has a cost of at least 1 and makes events.
use Rattle.std.specs.Prelude.{◌≡◌, ℕ, zero, suc, ◌+◌, ◌-◌, ◌≤◌, nat_lt, if◌then◌else◌, List, [], ◌++◌}

-- What comes next: nothing, or a move that costs `suc k`.
pub data Turn (S E : Type 0) : Type 0 where
  stops : Turn S E
  goes : (k : ℕ) → (es : List E) → (t : S) → Turn S E

-- The events of a run, and where it stands.
pub record Ran (S E : Type 0) : Type 0 where
  pub events : List E
  pub last : S

-- a run with these events before it
abbrev pub after : {S E : Type 0} → List E → Ran S E → Ran S E
after es r = record { events = es ++ r.events; last = r.last }

-- a run that makes no move
abbrev pub still : {S E : Type 0} → S → Ran S E
still s = record { events = []; last = s }

-- the next move, where it costs no more than n, and then what `on` makes of what is left
abbrev pub pay : {S E : Type 0} → (ℕ → S → Ran S E) → ℕ → S → Turn S E → Ran S E
pay on n s stops = still s
pay on n s (goes k es t) = if nat_lt k n then after es (on (n - suc k) t) else still s

-- at most `moves` moves, of a total cost of at most n
abbrev pub run_with : {S E : Type 0} → (S → Turn S E) → ℕ → ℕ → S → Ran S E
run_with next zero n s = still s
run_with next (suc moves) n s = pay (run_with next moves) n s (next s)

-- the run up to a total cost of n; no run makes more moves than that
abbrev pub run : {S E : Type 0} → (S → Turn S E) → ℕ → S → Ran S E
run next n s = run_with next n n s

-- The machine goes by moves of this total cost and these events from one state to another.
pub data Leads {S E : Type 0} (next : S → Turn S E) : S → ℕ → List E → S → Type 0 where
  stays : {s : S} → Leads next s 0 [] s
  moves : {s t u : S} {k n m : ℕ} {es fs gs : List E} → next s ≡ goes k es t → Leads next t n fs u → m ≡ suc k + n → gs ≡ es ++ fs → Leads next s m gs u

-- a turn costs more than is left, or there is none
abbrev pub CostsMore : {S E : Type 0} → (left : ℕ) → Turn S E → Type 0
CostsMore left stops = Unit {0}
CostsMore left (goes k es t) = left ≤ k

-- The moves from a state that can be paid with n: they cost at most n, and the next one would pass it.
pub record IsRun {S E : Type 0} (next : S → Turn S E) (n : ℕ) (s : S) (r : Ran S E) : Type 0 where
  pub cost : ℕ
  pub within : cost ≤ n
  pub leads : Leads next s cost r.events r.last
  pub dearer : CostsMore (n - cost) (next r.last)
