-- What a host may do where its program stands: call an export, write into the memory, go on behind a stretch.
use Rattle.std.proofs.Common.{◌≡◌, ◌≤◌, ◌+◌, ◌<◌, ℕ, zero, suc, List, [], ◌∷◌, length, map, get_or, Some, None, Bool, true, false, cond, sym, ◌∙◌, subst, arith}
use Rattle.std.specs.Prelude.{nat_lt, nat_le}
use Rattle.std.proofs.lemmas.Bool.{le-leb}
use Rattle.std.proofs.lemmas.List.Elements.{All-head, All-tail}
use Rattle.wa_types.specs.declared.values.Value.{Value}
use Rattle.wa_types.specs.declared.values.Value.TheVariants as V
use Rattle.wa_types.specs.Syntax.{Module}
use Rattle.wa_types.specs.Memory.{overwritten}
use Rattle.wa_types.specs.Modules.{all_memories}
use Rattle.wa_model.specs.declared.answers.Answer.{Answer as AnswerValue}
use Rattle.wa_model.specs.declared.answers.Poke.{Poke as PokeValue}
use Rattle.wa_model.specs.View.{answer_of, poke_of}
use Rattle.wa_model.specs.Step.{entered}
use Rattle.run_laws.specs.Ranges.{PokeInside}
use Rattle.wa_model.specs.Store.{Store, with_memory}
use Rattle.wa_model.specs.Blocking.{Left, poked}
use Rattle.wa_model.specs.Protocol.{Exports, exports_of, Phase, Then, Held, calling, give_zero, with_words}
use Rattle.world_model.specs.World.{Program}
use Rattle.run_theory.specs.Fitting.{types_of}
use Rattle.run_laws.specs.FittingStates.{Callable}
use Rattle.interp.specs.Host.{memory_of, poked_in, Pokes, PokesTo}
use Rattle.interp.specs.Instance.{Waits}
use Rattle.host_laws.specs.Places.{nowhere}
use Rattle.host_laws.specs.Stretch.{Stretch}
use Rattle.pause_host.specs.declared.stages.Pause.{Pause}
use Rattle.pause_host.specs.declared.stages.Setting.{Setting}
use Rattle.pause_host.specs.declared.stages.Stage.TheVariants as S
use Rattle.pause_host.specs.declared.stages.Task as TV
use Rattle.pause_host.specs.Views.{answering, entry_of, exports_in, pausing, place_in, unwinding, with_asker}
use Rattle.pause_host.specs.Holding.{HoldsArea, PokesInside, PlaceHolds, are_inside}
use Rattle.pause_host.specs.Hosting.{HasMemory, HostsAt, HostsIn, HostsOver, MayCall}
use Rattle.pause_host.specs.Moves.{IsSetting, Returns}
use Rattle.pause_host.proofs.Comings.{fits_on}
use Rattle.pause_host.proofs.Holding.{holds_on, true_held, true_inside}
use Rattle.pause_host.proofs.MemoryGrows.{NextLong, goes_long, step_long}
use Rattle.pause_host.proofs.Stagings.{answer_inside, pauses}

-- ---- the memory

-- bytes that lie inside are written
pub poked_inside : (m : Module) (s : Store) (at : ℕ) (bytes : List ℕ) (done : Bool) (s' : Store) → HasMemory m → at + length bytes ≤ length s.memory → Pokes m s at bytes done s'
    → (done ≡ true) × (s' ≡ with_memory s (overwritten s.memory at bytes))
poked_inside m s at bytes done s' has le h =
    by_memory (nat_lt 0 (length (all_memories m))) has h
  where
    by_piece : (b : Bool) → b ≡ true → PokesTo (cond b (Some (overwritten s.memory at bytes)) None) s done s' → (done ≡ true) × (s' ≡ with_memory s (overwritten s.memory at bytes))
    by_piece true e k = k
    by_piece false e k = cc

    by_memory : (b : Bool) → b ≡ true → PokesTo (poked_in (cond b (Some s.memory) None) at bytes) s done s' → (done ≡ true) × (s' ≡ with_memory s (overwritten s.memory at bytes))
    by_memory true e k = by_piece (nat_le (at + length bytes) (length s.memory)) (le-leb (at + length bytes) (length s.memory) le) k
    by_memory false e k = cc

-- the bytes that are there
pub memory_is : (m : Module) (s : Store) (bytes : List ℕ) → HasMemory m → Some bytes ≡ memory_of m s → bytes ≡ s.memory
memory_is m s bytes has e = by (nat_lt 0 (length (all_memories m))) has e
  where
    by : (b : Bool) → b ≡ true → Some bytes ≡ cond b (Some s.memory) None → bytes ≡ s.memory
    by true h k = cc
    by false h k = cc

-- a poke of some that lie inside
pub poke_at : (size : ℕ) (ps : List PokeValue) (i : ℕ) (p : PokeValue) → i < length ps → p ≡ get_or ps i p → PokesInside size (map poke_of ps) → p.at + length p.bytes.items ≤ size
poke_at size [] i p lt e h = let no : ⊥ = omega arith in absurd no
poke_at size (q ∷ ps) zero p lt e h =
    subst (λ (z : PokeValue). z.at + length z.bytes.items ≤ size) (sym e) (All-head (PokeInside size) (poke_of q) (map poke_of ps) h)
poke_at size (q ∷ ps) (suc i) p lt e h = poke_at size ps i p (omega arith) e (All-tail (PokeInside size) (poke_of q) (map poke_of ps) h)

-- behind an export that returned the memory is no shorter
pub returns_longer : (p : Module) (s : Store) (f : ℕ) (args : List Value) (left used : ℕ) (values : List Value) (s' : Store) → Returns p s f args left used values s'
    → length s.memory ≤ length s'.memory
returns_longer p s f args left used values s' r =
    let low = length s.memory in
    let there = goes_long low p (entered s [] args f r.func) r.last r.cost (omega arith) r.runs in
    subst (NextLong low) r.returns_then (step_long low p r.last there)

-- ---- the area

pub area_told : (w : Program) (x : Setting) (s : Store) → IsSetting w x → HoldsArea w.plan.area s → HoldsArea x.area s
area_told w x s is h = subst (λ a. HoldsArea a s) is.area h

pub told_area : (w : Program) (x : Setting) (s : Store) → IsSetting w x → HoldsArea x.area s → HoldsArea w.plan.area s
told_area w x s is h = subst (λ a. HoldsArea a s) (sym is.area) h

-- ---- exports, and what comes behind them

-- an export that is to be called may be
pub may_call : (x : Setting) (m : Module) (s : Store) (ph : Phase) (name : Exports → ℕ) (args : Program → List Value) (th : Then)
    → (h : HostsIn x m (λ w l. calling ph s (name (exports_of w.source)) (args w) th l)) → MayCall x m s (name (exports_in x.exports)) (types_of (args h.program))
may_call x m s ph name args th h = record {
  program = h.program;
  setting = h.setting;
  code_is = h.code_is;
  fits = h.fits.0;
  callable = subst (λ e. Callable h.program.source (name e) (types_of (args h.program))) (sym h.setting.exports) h.fits.1;
  area = area_told h.program x s h.setting h.holds.0;
}

-- the same behind a stretch
pub hosts_on : (x : Setting) (m m' : Module) (from to : Program → Left → Held) (h : HostsIn x m from) (n : ℕ) → m' ≡ m
    → Stretch h.program.source h.program.plan (from h.program h.left) [] [] n (to h.program h.left) → HostsIn x m' to
hosts_on x m m' from to h n code stretch = record {
  program = h.program;
  left = h.left;
  setting = h.setting;
  code_is = code ∙ h.code_is;
  fits = fits_on h.program.source h.program.plan (from h.program h.left) (to h.program h.left) [] [] n h.setting.valid h.setting.typed stretch h.fits;
  holds = holds_on h.program.source h.program.plan (from h.program h.left) (to h.program h.left) [] [] n stretch h.holds;
}

-- ---- stages

-- a stack that is to be unwound waits, and the area lies inside the memory
pub pause_held : (x : Setting) (m : Module) (l : Left) (s : Store) (waits : Waits) (pause : Pause)
    → (h : HostsAt x m (λ w. pausing (exports_of w.source) w.plan.area l (entry_of pause.entry) pause.import (answer_of pause.answer) s waits)) → HoldsArea x.area s
pause_held x m l s waits pause h =
    let w = h.program in
    let g = pauses w pause waits l s h.fits in
    let holds = subst (PlaceHolds w) g.place_is h.holds in
    area_told w x s h.setting (true_held w.plan.area s (with_words s w.plan.area) g.held holds.0)

-- where it stands once its words are written
pub pause_over : (x : Setting) (m : Module) (l : Left) (s : Store) (waits : Waits) (pause : Pause)
    → HostsAt x m (λ w. pausing (exports_of w.source) w.plan.area l (entry_of pause.entry) pause.import (answer_of pause.answer) s waits)
    → HostsOver x m waits (λ w l here under. calling (unwinding pause) (with_words s w.plan.area) (exports_of w.source).start_unwind (V.I32 w.plan.area.at ∷ [])
    (give_zero (record { store = s; here = here; under = under })) l)
pause_over x m l s waits pause h =
    let w = h.program in
    let g = pauses w pause waits l s h.fits in
    record {
      here = g.here;
      under = g.under;
      waits_is = g.waits_is;
      hosts = record { program = w; left = l; setting = h.setting; code_is = h.code_is; fits = g.fits; holds = subst (PlaceHolds w) g.place_is h.holds };
    }

-- the pokes of an answer that is told next lie inside the memory
pub told_inside : (x : Setting) (m : Module) (l : Left) (s : Store) (waits : Waits) (task : TV.Task) (answer : AnswerValue)
    → HostsAt x m (λ w. place_in (exports_of w.source) w.plan.area l s waits (S.Answering task answer)) → PokesInside (length s.memory) (answer_of answer).pokes
told_inside x m l s waits task answer h =
    let a = answer_of answer in
    let test = are_inside (length s.memory) a.pokes in
    true_inside (length s.memory) a.pokes (answer_inside h.program test (with_asker nowhere s task waits (answering l a.said (poked s a.pokes))) h.fits)
