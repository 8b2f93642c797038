-- What the bytes of a module spell: the same runs, valid where the module is, and rewritten where the module is.
use Rattle.std.proofs.Common.{◌≡◌, ℕ, zero, suc, ◌+◌, List, [], ◌∷◌, ◌++◌, length, map, drop, Option, Some, None, Bool, refl, sym, ap, ◌∙◌, subst, arith}
use Rattle.std.specs.Prelude.{slice_get}
use Rattle.std.specs.List.{flat_map}
use Rattle.std.proofs.Math.Seq.{drop-append_seam}
use Rattle.std.specs.Option.{is_some, option_to_list}
use Rattle.wa_types.specs.declared.values.ValType.{ValType}
use Rattle.wa_types.specs.declared.syntax.Space.TheVariants.{Func as a_func}
use Rattle.wa_types.specs.Syntax.{Func, Elem, Module}
use Rattle.wa_types.specs.Encoding.{merged}
use Rattle.wa_types.specs.Norm.{has_some, written_flags, Norm}
use Rattle.wa_types.specs.Typing.{Around, Typed}
use Rattle.wa_types.specs.Modules.{imported, imported_func, func_sorts, type_at, declared_locals, around}
use Rattle.wa_types.specs.Runtime.{runtime_funcs, global_space, with_runtime}
use Rattle.wa_types.specs.Pausing.{Settings}
use Rattle.wa_types.specs.Bounds.{Bound}
use Rattle.wa_types.specs.Validity.{all_below, exported, start_fits, Valid}
use Rattle.run_theory.specs.FlatFits.{one_run}
use Rattle.wa_model.specs.Machine.{Ran}
use Rattle.wa_model.specs.Plan.{Plan, Outcome}
use Rattle.wa_model.specs.Outside.{Call, Event}
use Rattle.wa_model.specs.Store.{Store}
use Rattle.wa_model.specs.Blocking.{Note, events_of, Blocking}
use Rattle.wa_model.specs.Protocol.{Held, Protocol, aside, busy, calling, entering, free, is_running, over, rewinds, starting, store_held, unwinds}
use Rattle.wa_model.specs.Step.{step}
use Rattle.wa_model.specs.Configuration.{Configuration}
use Rattle.wa_model.specs.Expected.{SameEnd}
use Rattle.wa_model.specs.Behaves.{Behaves, IsPrefix, pause_stacks, expected_notes, without_pauses, IsMoment, BehavesOn, MakesCall, RewindsTo, RunsAlike, SameWhole, last_called}
use Rattle.wa_model.specs.Rewrites.{RewritesBy, RewritesButRuns, SameFunc, RewrittenFunc}
use Rattle.norm_laws.specs.Bare.{one_by_one, bare}
use Rattle.norm_laws.specs.Norms.{NormBlocking, NormProtocol, NormIsValid, NormIsRewritten}
use Rattle.norm_laws.proofs.Locals.{merged_keeps, merged_once}
use Rattle.norm_laws.proofs.Customs.{lowered_all, lowered_twice}
use Rattle.norm_laws.proofs.BareRuns.{bare_blocking, bare_protocol, bare_steps}

abbrev pub merged_func : Func → Func
merged_func f = record f { locals = merged f.locals }

-- ---- the same runs

bare_merged : (fs : List Func) → map one_by_one (map merged_func fs) ≡ map one_by_one fs
bare_merged [] = refl
bare_merged (f ∷ fs) =
    ap (λ (ts : List ValType). one_by_types f ts ∷ map one_by_one (map merged_func fs)) (merged_keeps f.locals) ∙ ap (λ gs. one_by_one f ∷ gs) (bare_merged fs)
  where
    one_by_types : Func → List ValType → Func
    one_by_types f ts = record { sort = f.sort; locals = map one_run ts; body = f.body }

bare_norm : (m : Module) → bare (Norm m) ≡ bare m
unfolding Norm
bare_norm m = ap (λ (fs : List Func). record (bare m) { funcs = fs }) (bare_merged m.funcs)

pub norm_blocking : NormBlocking
norm_blocking m plan os n = sym (bare_blocking (Norm m) plan os n) ∙ ap (λ (q : Module). Blocking q plan os n) (bare_norm m) ∙ bare_blocking m plan os n

pub norm_protocol : NormProtocol
norm_protocol p plan os n = sym (bare_protocol (Norm p) plan os n) ∙ ap (λ (q : Module). Protocol q plan os n) (bare_norm p) ∙ bare_protocol p plan os n

norm_steps : (p : Module) (c : Configuration) → step (Norm p) c ≡ step p c
norm_steps p c = sym (bare_steps (Norm p) c) ∙ ap (λ (q : Module). step q c) (bare_norm p) ∙ bare_steps p c

-- a rewound entry calls the same import
rewinds_same : (p : Module) (told : Option Call) (h : Held) → RewindsTo p told h → RewindsTo (Norm p) told h
rewinds_same p told (free s l) r = tt
rewinds_same p told (starting f s l) r = tt
rewinds_same p told (busy (is_running task) c l) r = tt
rewinds_same p told (busy (unwinds e i a) c l) r = tt
rewinds_same p told (busy (rewinds e i a sp) c l) r = subst (MakesCall told) (sym (norm_steps p c)) r
rewinds_same p told (calling ph s f args th l) r = tt
rewinds_same p told (aside ph c th l) r = tt
rewinds_same p told (entering ph e s l) r = tt
rewinds_same p told (over s) r = tt

-- ---- valid

sorts_merged : (fs : List Func) → map (λ (f : Func). f.sort) (map merged_func fs) ≡ map (λ (f : Func). f.sort) fs
sorts_merged [] = refl
sorts_merged (f ∷ fs) = ap (λ xs. f.sort ∷ xs) (sorts_merged fs)

norm_sorts : (m : Module) → func_sorts (Norm m) ≡ func_sorts m
unfolding Norm
norm_sorts m = ap (λ xs. imported imported_func m ++ xs) (sorts_merged m.funcs)

-- each function of the norm is one of the module's, with its runs merged
from_merged : (fs : List Func) (i : ℕ) (g : Func) → slice_get (map merged_func fs) i ≡ Some g → (f : Func) × (slice_get fs i ≡ Some f) × (g ≡ merged_func f)
from_merged [] i g e = cc
from_merged (f ∷ fs) zero g e = (f, refl, same e)
  where
    same : Some (merged_func f) ≡ Some g → g ≡ merged_func f
    same e = cc
from_merged (f ∷ fs) (suc i) g e = from_merged fs i g e

-- what stands around a body, by the types of all functions and the types of the locals
around_by : Module → Func → List ℕ → List ValType → Around
around_by m f sorts ts = record (around m f) { funcs = map (type_at m) sorts; locals = (type_at m f.sort).params ++ ts }

norm_around : (m : Module) (f : Func) → around (Norm m) (merged_func f) ≡ around m f
unfolding Norm around_by
norm_around m f =
    ap (λ (xs : List ℕ). around_by m f (imported imported_func m ++ xs) (declared_locals (merged f.locals))) (sorts_merged m.funcs)
    ∙ ap (around_by m f (func_sorts m)) (merged_keeps f.locals)

norm_bodies : (m : Module) → Valid m → (i : ℕ) (g : Func) → slice_get (map merged_func m.funcs) i ≡ Some g → Typed (around (Norm m) g) g.body
norm_bodies m v i g e =
    let k = from_merged m.funcs i g e in
    let f : Func = k.0 in
    let typed : Typed (around (Norm m) (merged_func f)) f.body = subst (λ (c : Around). Typed c f.body) (sym (norm_around m f)) (v.bodies i f k.1) in
    subst (λ (h : Func). Typed (around (Norm m) h) h.body) (sym k.2) typed

pub norm_valid : NormIsValid
unfolding Norm
norm_valid m v =
    let sorts = norm_sorts m in
    record {
      types = v.types;
      sorts = ap (all_below (length m.types)) sorts ∙ v.sorts;
      bodies = norm_bodies m v;
      limits = v.limits;
      single = v.single;
      constants = v.constants;
      globals = v.globals;
      tables = v.tables;
      memories = v.memories;
      funcs = ap (λ (xs : List ℕ). all_below (length xs) (exported a_func m ++ option_to_list m.start ++ flat_map (λ (e : Elem). e.funcs) m.elems)) sorts ∙ v.funcs;
      start = ap (λ (xs : List ℕ). start_fits m.start (map (type_at m) xs)) sorts ∙ v.start;
      names = v.names;
    }

-- ---- rewritten

some_kept : (fs : List Func) → has_some (map merged_func fs) ≡ has_some fs
some_kept [] = refl
some_kept (f ∷ fs) = refl

flags_kept : (m : Module) → written_flags (Norm m) ≡ written_flags m
unfolding Norm
flags_kept m =
    ap (λ b. has_some m.types ∷ has_some m.imports ∷ b ∷ has_some m.tables ∷ has_some m.memories
    ∷ has_some m.globals ∷ has_some m.exports ∷ is_some m.start ∷ has_some m.elems ∷ b ∷ has_some m.segments ∷ []) (some_kept m.funcs)

customs_kept : (m p : Module) → (Norm p).customs ≡ (Norm (record p { customs = m.customs })).customs → (Norm (Norm p)).customs ≡ (Norm (record (Norm p) { customs = m.customs })).customs
unfolding Norm
customs_kept m p h =
    let flags : List Bool = written_flags p in
    let count : length flags ≡ 11 = refl in
    ap (λ fs. lowered_all fs (lowered_all flags p.customs)) (flags_kept p)
    ∙ lowered_twice flags p.customs (omega (arith, count))
    ∙ h
    ∙ ap (λ fs. lowered_all fs m.customs) (sym (flags_kept p))

dropped : (n : ℕ) (fs : List Func) → drop n (map merged_func fs) ≡ map merged_func (drop n fs)
dropped zero fs = refl
dropped (suc n) [] = refl
dropped (suc n) (f ∷ fs) = dropped n fs

runtime_kept : (m p : Module) → drop (length m.funcs) p.funcs ≡ drop (length m.funcs) (with_runtime m).funcs → drop (length m.funcs) (Norm p).funcs ≡ drop (length m.funcs) (with_runtime m).funcs
unfolding Norm with_runtime
runtime_kept m p h =
    let parts : List Func = runtime_funcs (length m.types) (global_space m) (global_space m + 1) in
    let there : drop (length m.funcs) (m.funcs ++ parts) ≡ parts = drop-append_seam m.funcs parts in
    dropped (length m.funcs) p.funcs ∙ ap (map merged_func) (h ∙ there) ∙ sym there

-- ---- what it does

module _ (m : Module) (s : Settings) (p : Module) where
  pub behaves_on : (plan : Plan) (os : List Outcome) (n : ℕ) (which : List Bool) (expected : List Note) → BehavesOn m s p plan os n which expected → BehavesOn m s (Norm p) plan os n which expected
  behaves_on plan os n which expected r =
      let bound : ℕ = Bound m n (pause_stacks (Blocking m plan os n).events) in
      record {
        reaches = subst (λ (q : Ran Held Note). IsPrefix (events_of expected) (events_of q.events)) (sym (norm_protocol p plan os bound)) r.reaches;
        follows = subst (λ (q : Ran Held Note). IsPrefix (events_of q.events) (events_of expected)) (sym (norm_protocol p plan os n)) r.follows;
        notes = λ i y e. r.notes i y (subst (λ (q : Ran Held Note). slice_get q.events i ≡ Some y) (norm_protocol p plan os n) e);
        moments = subst (λ (q : Ran Held Note). (events : List Event) × (at : Store) × IsMoment m plan os n events at
            × (events ≡ without_pauses (events_of q.events)) × SameEnd (global_space m) plan.area at (store_held q.last)) (sym (norm_protocol p plan os n)) r.moments;
        again = subst (λ (q : Ran Held Note). RewindsTo (Norm p) (last_called None (events_of q.events)) q.last) (sym (norm_protocol p plan os n))
            (rewinds_same p (last_called None (events_of (Protocol p plan os n).events)) (Protocol p plan os n).last r.again);
      }

  rewritten_kept : (which : List Bool) (f g : Func) → RewrittenFunc m s p which f g → RewrittenFunc m s (Norm p) which f (merged_func g)
  unfolding Norm
  rewritten_kept which f g h = record {
    sort = h.sort;
    locals = ap (λ (ts : List ValType). length ((type_at p g.sort).params ++ ts)) (merged_keeps g.locals) ∙ h.locals;
    nesting = h.nesting;
    size = h.size;
  }

  runs_alike : (plan : Plan) (os : List Outcome) (n : ℕ) → RunsAlike m p plan os n → RunsAlike m (Norm p) plan os n
  runs_alike plan os n r =
      let xs : List Event = events_of (Blocking m plan os n).events in
      record {
        reaches = subst (λ (q : Ran Held Note). IsPrefix xs (events_of q.events)) (sym (norm_protocol p plan os (Bound m n []))) r.reaches;
        follows = subst (λ (q : Ran Held Note). IsPrefix (events_of q.events) xs) (sym (norm_protocol p plan os n)) r.follows;
        notes = λ i y e. r.notes i y (subst (λ (q : Ran Held Note). slice_get q.events i ≡ Some y) (norm_protocol p plan os n) e);
        moments = subst (λ (q : Ran Held Note). (events : List Event) × (at : Store) × IsMoment m plan os n events at
            × (events ≡ events_of q.events) × SameWhole (global_space m) at (store_held q.last)) (sym (norm_protocol p plan os n)) r.moments;
      }

-- what became of a function that can't pause may have its runs of locals merged
same_merged : (f g : Func) → SameFunc f g → SameFunc f (merged_func g)
same_merged f g h = record { sort = h.sort; locals = merged_once g.locals ∙ h.locals; body = h.body }

but_runs : (Stays : Func → Func → Type 0) → ((f g : Func) → Stays f g → Stays f (merged_func g))
    → (m : Module) (s : Settings) (p : Module) → RewritesButRuns Stays m s p → RewritesButRuns Stays m s (Norm p)
unfolding Norm
but_runs Stays kept m s p r = record {
  valid = r.valid;
  valid_rewritten = norm_valid p r.valid_rewritten;
  types = r.types;
  imports = r.imports;
  tables = r.tables;
  memories = r.memories;
  globals = r.globals;
  exports = r.exports;
  start = r.start;
  elems = r.elems;
  segments = r.segments;
  customs = customs_kept m p r.customs;
  runtime = runtime_kept m p r.runtime;
  unchanged = λ i f g e h quiet. let k = from_merged p.funcs i g h in subst (Stays f) (sym k.2) (kept f k.0 (r.unchanged i f k.0 e k.1 quiet));
  rewritten = λ i f g which e h tells pauses.
      let k = from_merged p.funcs i g h in subst (RewrittenFunc m s (Norm p) which f) (sym k.2) (rewritten_kept m s p which f k.0 (r.rewritten i f k.0 which e k.1 tells pauses));
}

-- The norm of a rewritten module is rewritten, whatever its functions that can't pause became and its runs owe, where both bear the norm.
pub norm_rewritten_by : (Stays : Func → Func → Type 0) → ((f g : Func) → Stays f g → Stays f (merged_func g)) → (Runs Normed : Type 0) → (Runs → Normed)
    → (m : Module) (s : Settings) (p : Module) → RewritesBy Stays Runs m s p → RewritesBy Stays Normed m s (Norm p)
norm_rewritten_by Stays kept Runs Normed runs m s p r = record {
  parts = but_runs Stays kept m s p r.parts;
  behaves = runs r.behaves;
  unpaused = λ w plan os n g. runs_alike m s p plan os n (r.unpaused w plan os n g);
}

pub norm_rewritten : NormIsRewritten
norm_rewritten m s p = norm_rewritten_by SameFunc same_merged (Behaves m s p) (Behaves m s (Norm p)) (λ behaves w which tells plan os n compared numbered.
    behaves_on m s p plan os n which (expected_notes m s plan os n) (behaves w which tells plan os n compared numbered)) m s p
