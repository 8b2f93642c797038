-- What is seen along stretches of a module's own reductions that leave the original's store alone.
use Rattle.std.specs.Prelude.{◌≡◌, ◌↔◌, ◌≤◌, ℕ, List, [], true}
use Rattle.wa_types.specs.Syntax.{Module}
use Rattle.wa_model.specs.declared.answers.Area.{Area}
use Rattle.wa_model.specs.Machine.{run, Leads}
use Rattle.wa_model.specs.Configuration.{Configuration}
use Rattle.run_theory.specs.Alone.{alone}
use Rattle.wa_model.specs.Plan.{Plan}
use Rattle.wa_model.specs.Blocking.{Note, Left, Task, runs, blocking, store_of}
use Rattle.wa_model.specs.Untouched.{IsCalm}
use Rattle.wa_model.specs.Protocol.{Exports, Phase, Then, busy, aside, protocol, store_held}
use Rattle.wa_model.specs.Expected.{SameEnd}
use Rattle.run_theory.specs.Keeping.{keeps, silent, calm}

-- Along reductions that write none of so many globals, no byte outside the area, and don't grow the memory, at each cost
-- within them: a run under the protocol has made no event, and its store is the first one but for the area. In any phase,
abbrev pub KeptWhileBusy : Type 0
KeptWhileBusy =
    (globals : ℕ) (area : Area) (p : Module) (x : Exports) (plan : Plan) (ph : Phase) (l : Left) (c d : Configuration) (n : ℕ) (es : List Note)
    → Leads (alone (keeps globals area) p) c n es d → (j : ℕ) → j ≤ n
    → ((run (protocol p x plan) j (busy ph c l)).events ≡ []) × SameEnd globals area c.store (store_held (run (protocol p x plan) j (busy ph c l)).last)

-- in an export that the host has called,
abbrev pub KeptAside : Type 0
KeptAside =
    (globals : ℕ) (area : Area) (p : Module) (x : Exports) (plan : Plan) (ph : Phase) (th : Then) (l : Left) (c d : Configuration) (n : ℕ) (es : List Note)
    → Leads (alone (keeps globals area) p) c n es d → (j : ℕ) → j ≤ n
    → ((run (protocol p x plan) j (aside ph c th l)).events ≡ []) × SameEnd globals area c.store (store_held (run (protocol p x plan) j (aside ph c th l)).last)

-- and in a run with blocking imports.
abbrev pub KeptBlocking : Type 0
KeptBlocking =
    (globals : ℕ) (area : Area) (m : Module) (plan : Plan) (task : Task) (l : Left) (c d : Configuration) (n : ℕ) (es : List Note)
    → Leads (alone (keeps globals area) m) c n es d → (j : ℕ) → j ≤ n
    → ((run (blocking m plan) j (runs task c l)).events ≡ []) × SameEnd globals area c.store (store_of (run (blocking m plan) j (runs task c l)).last)

-- Reductions that are no call, load, store, copy, fill, change of a global or growth are such reductions, whatever the globals and the area,
abbrev pub SilentIsKept : Type 0
SilentIsKept = (globals : ℕ) (area : Area) (c : Configuration) → silent c ≡ true → keeps globals area c ≡ true

-- and leave the store as it is.
abbrev pub SilentStoresStay : Type 0
SilentStoresStay = (m : Module) (c d : Configuration) (n : ℕ) (es : List Note) → Leads (alone silent m) c n es d → (es ≡ []) × (d.store ≡ c.store)

-- The test of a configuration says what a run that doesn't touch the area says where it stands.
abbrev pub CalmIsCalm : Type 0
CalmIsCalm = (area : Area) (task : Task) (c : Configuration) (l : Left) → (calm area c ≡ true) ↔ IsCalm area (runs task c l)
