-- What a program holds wherever it stands: its area and what an answer still writes lie inside the memory, and its entries are numbered in
-- 32 bits.
use Rattle.std.specs.Prelude.{◌<◌, ◌≤◌, ◌+◌, ◌^◌, ℕ, List, [], ◌∷◌, length, Bool, true, ◌&&◌, nat_le, All}
use Rattle.wa_model.specs.declared.answers.Area.{Area}
use Rattle.wa_model.specs.Outside.{Poke}
use Rattle.wa_model.specs.Store.{Store}
use Rattle.wa_model.specs.Blocking.{Left, Task, the_start, an_entry}
use Rattle.wa_model.specs.Protocol.{Phase, is_running, unwinds, rewinds, Held, free, starting, busy, calling, aside, entering, over}
use Rattle.world_model.specs.World.{Program}
use Rattle.run_laws.specs.Ranges.{PokeInside}
use Rattle.host_laws.specs.Places.{Place, stands, has_ended, nowhere}

-- an area that has room for its two words lies inside the memory
pub record HoldsArea (area : Area) (s : Store) : Type 0 where
  pub wide : 8 ≤ area.len
  pub inside : area.at + area.len ≤ length s.memory

-- the pokes lie inside so many bytes
abbrev pub PokesInside : (size : ℕ) → List Poke → Type 0
PokesInside size pokes = All (PokeInside size) pokes

-- the entries that run and those that are left are numbered in 32 bits
abbrev pub FewEntries : (running : ℕ) → Left → Type 0
FewEntries running l = running + l.number + length l.entries < 2 ^ 32

-- so they are while the host's call for a task runs
abbrev pub TaskHolds : Left → Task → Type 0
TaskHolds l the_start = FewEntries 0 l
TaskHolds l (an_entry e) = FewEntries 1 l

-- and in a phase, and the pokes that wait lie inside so many bytes
abbrev pub PhaseHolds : (size : ℕ) → Left → Phase → Type 0
PhaseHolds size l (is_running task) = TaskHolds l task
PhaseHolds size l (unwinds e i a) = FewEntries 1 l × PokesInside size a.pokes
PhaseHolds size l (rewinds e i a at_pause) = FewEntries 1 l × PokesInside size a.pokes

-- where a run under the protocol stands
abbrev pub HeldHolds : Area → Held → Type 0
HeldHolds area (free s l) = HoldsArea area s × FewEntries 0 l
HeldHolds area (starting f s l) = HoldsArea area s × FewEntries 0 l
HeldHolds area (busy ph c l) = HoldsArea area c.store × PhaseHolds (length c.store.memory) l ph
HeldHolds area (calling ph s f args th l) = HoldsArea area s × PhaseHolds (length s.memory) l ph
HeldHolds area (aside ph c th l) = HoldsArea area c.store × PhaseHolds (length c.store.memory) l ph
HeldHolds area (entering ph e s l) = HoldsArea area s × PhaseHolds (length s.memory) l ph
HeldHolds area (over s) = Unit {0}

-- where a program stands
abbrev pub PlaceHolds : Program → Place → Type 0
PlaceHolds w (stands ready h) = HeldHolds w.plan.area h
PlaceHolds w (has_ended how) = Unit {0}
PlaceHolds w nowhere = ⊥

-- ---- tests of these, where a stage has still to write

-- the area lies inside the memory
abbrev pub is_held : Area → Store → Bool
is_held area s = nat_le (area.at + area.len) (length s.memory)

-- the pokes lie inside so many bytes
abbrev pub are_inside : (size : ℕ) → List Poke → Bool
are_inside size [] = true
are_inside size (p ∷ ps) = nat_le (p.at + length p.bytes) size && are_inside size ps
