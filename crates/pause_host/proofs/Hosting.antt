-- Where a host stands at a place of its program's run it may go on.
use Rattle.std.proofs.Common.{◌≡◌, ◌<◌, ◌-◌, ℕ, List, [], length, map, length-append, Option, Some, None, Bool, true, false, cond, sym, ap, ◌∙◌, subst, refl, arith}
use Rattle.std.specs.Prelude.{nat_lt, slice_get}
use Rattle.std.proofs.lemmas.Bool.{ltb-false}
use Rattle.std.proofs.lemmas.List.{length-map}
use Rattle.std.proofs.lemmas.Option.{slice_get_within}
use Rattle.wa_types.specs.declared.values.ValType.{ValType}
use Rattle.wa_types.specs.declared.values.Value.{Value}
use Rattle.wa_types.specs.Syntax.{Func, Module}
use Rattle.wa_types.specs.Modules.{all_memories, defined_at, func_imports, func_sorts, imported, imported_func}
use Rattle.wa_model.specs.Store.{Store}
use Rattle.wa_model.specs.Configuration.{Activation}
use Rattle.wa_model.specs.Blocking.{Left, the_start, done_notes}
use Rattle.wa_model.specs.Protocol.{exports_of, Held, held_on}
use Rattle.world_model.specs.World.{Program}
use Rattle.run_laws.specs.FittingStates.{HeldFits}
use Rattle.interp.specs.declared.turns.Turn.{Turn}
use Rattle.interp.specs.declared.turns.Turn.TheVariants.{Returned, Trapped, Waiting, StepsSpent}
use Rattle.interp.specs.Host.{memory_of}
use Rattle.interp.specs.Instance as I
use Rattle.interp.specs.Instance.{Waits, FitsAgain}
use Rattle.host_laws.specs.Places.{nowhere}
use Rattle.pause_host.specs.declared.stages.Pause.{Pause}
use Rattle.pause_host.specs.declared.stages.Setting.{Setting}
use Rattle.pause_host.specs.declared.stages.Stage.{Stage}
use Rattle.pause_host.specs.declared.stages.Stage.TheVariants as S
use Rattle.pause_host.specs.declared.stages.Task.{Task}
use Rattle.pause_host.specs.declared.stages.Task.TheVariants as T
use Rattle.pause_host.specs.Hosting.{HostsAt, HasMemory, CallsOne, StopsFirst, StartRan}
use Rattle.pause_host.specs.Moves.{IsSetting, PlaceFits, TaskTurn}
use Rattle.pause_host.specs.Holding.{HeldHolds}
use Rattle.pause_host.proofs.Holding.{holds_on}
use Rattle.pause_host.specs.Views.{place_in, giving, with_asker}
use Rattle.pause_host.proofs.Comings.{fits_on}
use Rattle.pause_host.proofs.Stagings.{pauses}
use Rattle.pause_host.proofs.Tasks.{start_returned}

-- ---- the module

-- a defined function is one of all
pub defined_below : (m : Module) (x : ℕ) (f : Func) → defined_at m x ≡ Some f → x < length (func_sorts m)
defined_below m x f = by (nat_lt x (func_imports m)) refl
  where
    by : (b : Bool) → nat_lt x (func_imports m) ≡ b → cond b None (slice_get m.funcs (x - func_imports m)) ≡ Some f → x < length (func_sorts m)
    by true e h = cc
    by false e h =
        let le = ltb-false x (func_imports m) e in
        let lt = slice_get_within m.funcs (x - func_imports m) f h in
        let n = length-append (imported imported_func m) (map (λ (g : Func). g.sort) m.funcs) in
        let k = length-map m.funcs (λ (g : Func). g.sort) in
        omega arith

pub memory_kept : (m m' : Module) → m' ≡ m → HasMemory m → HasMemory m'
memory_kept m m' e h = subst HasMemory (sym e) h

pub memory_there : (w : Program) (x : Setting) (m : Module) → IsSetting w x → m ≡ w.source → HasMemory m
memory_there w x m is code = subst HasMemory (sym code) is.memory

-- what is shown of its memory is there
pub memory_shown : (m : Module) (s : Store) → HasMemory m → None ≡ memory_of m s → ⊥
memory_shown m s has e = by (nat_lt 0 (length (all_memories m))) has e
  where
    by : (b : Bool) → b ≡ true → None ≡ cond b (Some s.memory) None → ⊥
    by true h k = cc
    by false h k = cc

-- ---- turns

pub calls_one : (w : Program) (x : Setting) (m : Module) (outs : List ValType) (t : Turn) (s : Store) (waits : Waits) → IsSetting w x → m ≡ w.source → FitsAgain m outs t s waits
    → CallsOne (length x.imports.items) t
calls_one w x m outs (Returned value) s waits is code h = tt
calls_one w x m outs (Trapped trap) s waits is code h = tt
calls_one w x m outs (Waiting call) s waits is code h = subst (λ (n : ℕ). call.import < n) (ap func_imports code ∙ sym is.all) h.1.0
calls_one w x m outs StepsSpent s waits is code h = tt

pub stops_first : (n : ℕ) (t : Turn) → CallsOne n t → ((value : Option Value) → t ≡ Returned value → ⊥) → StopsFirst n t
stops_first n (Returned value) h other = other value refl
stops_first n (Trapped trap) h other = tt
stops_first n (Waiting call) h other = h
stops_first n StepsSpent h other = tt

pub start_stops : (x : Setting) (m : Module) (l : Left) (t : Turn) (s : Store) → StartRan x m l t s → ((value : Option Value) → t ≡ Returned value → ⊥) → StopsFirst (length x.imports.items) t
start_stops x m l (Returned value) s h other = other value refl
start_stops x m l (Trapped trap) s h other = tt
start_stops x m l (Waiting call) s h other = h
start_stops x m l StepsSpent s h other = tt

pub start_stands : (w : Program) (x : Setting) (m : Module) (h : Held) (l : Left) (left used : ℕ) (t : Turn) (s : Store) (waits : Waits) → IsSetting w x → m ≡ w.source → HeldFits w.source h
    → HeldHolds w.plan.area h → TaskTurn w h l the_start left used t s waits → CallsOne (length x.imports.items) t → StartRan x m l t s
start_stands w x m h l left used (Returned value) s waits is code fits holds ran one =
    let back = start_returned w h l left used value s waits ran in
    record {
      program = w;
      setting = is;
      code_is = code;
      fits = fits_on w.source w.plan h (held_on s l l.entries) [] (done_notes s l.entries) used is.valid is.typed back.0 fits;
      holds = holds_on w.source w.plan h (held_on s l l.entries) [] (done_notes s l.entries) used back.0 holds;
    }
start_stands w x m h l left used (Trapped trap) s waits is code fits holds ran one = tt
start_stands w x m h l left used (Waiting call) s waits is code fits holds ran one = one
start_stands w x m h l left used StepsSpent s waits is code fits holds ran one = tt

-- ---- stages

-- the same stage, told in another way
pub hosts_stage : (x : Setting) (m : Module) (l : Left) (s : Store) (waits : Waits) (stage stage' : Stage) → stage ≡ stage'
    → HostsAt x m (λ w. place_in (exports_of w.source) w.plan.area l s waits stage) → HostsAt x m (λ w. place_in (exports_of w.source) w.plan.area l s waits stage')
hosts_stage x m l s waits stage stage' e h = subst (λ (z : Stage). HostsAt x m (λ w. place_in (exports_of w.source) w.plan.area l s waits z)) e h

not_nothing : (waits : Waits) (here : Activation) (under : List Activation) → waits ≡ I.inside here under → waits ≡ I.nothing → ⊥
not_nothing waits here under is e = cc

-- a stack that is to be unwound waits
pub pausing_waits : (x : Setting) (m : Module) (l : Left) (s : Store) (waits : Waits) (pause : Pause) → HostsAt x m (λ w. place_in (exports_of w.source) w.plan.area l s waits (S.Pausing pause))
    → waits ≡ I.nothing → ⊥
pausing_waits x m l s waits pause h = let g = pauses h.program pause waits l s h.fits in not_nothing waits g.here g.under g.waits_is

-- so does what is given a value
giving_waits : (w : Program) (l : Left) (value : Option Value) (s : Store) (task : Task) (waits : Waits) → PlaceFits w (with_asker nowhere s task waits (giving l value s)) → waits ≡ I.nothing → ⊥
giving_waits w l value s T.Outermost I.nothing f e = absurd f
giving_waits w l value s T.Start I.nothing f e = absurd f
giving_waits w l value s (T.Entry y) I.nothing f e = absurd f
giving_waits w l value s task I.outermost f e = cc
giving_waits w l value s task (I.inside here under) f e = cc

pub given_waits : (x : Setting) (m : Module) (l : Left) (s : Store) (waits : Waits) (task : Task) (value : Option Value)
    → HostsAt x m (λ w. place_in (exports_of w.source) w.plan.area l s waits (S.Giving task value)) → waits ≡ I.nothing → ⊥
given_waits x m l s waits task value h = giving_waits h.program l value s task waits h.fits

-- an import that is the start function is given none
none_given : (w : Program) (l : Left) (value : Option Value) (s : Store) (waits : Waits) → PlaceFits w (with_asker nowhere s T.Outermost waits (giving l value s)) → ⊥
none_given w l value s I.nothing f = f
none_given w l value s I.outermost f = f
none_given w l value s (I.inside here under) f = f

pub outermost_given : (x : Setting) (m : Module) (l : Left) (s : Store) (waits : Waits) (task : Task) (value : Option Value) → task ≡ T.Outermost
    → HostsAt x m (λ w. place_in (exports_of w.source) w.plan.area l s waits (S.Giving task value)) → ⊥
outermost_given x m l s waits task value e h =
    none_given h.program l value s waits (subst (λ (z : Task). PlaceFits h.program (with_asker nowhere s z waits (giving l value s))) e h.fits)
