-- What comes of a call of an export.
use Rattle.std.proofs.Common.{◌≡◌, ℕ, suc, ◌+◌, ◌-◌, List, [], length, Option, sym, ap, ◌∙◌, subst, arith}
use Rattle.std.specs.Option.{option_to_list}
use Rattle.wa_types.specs.declared.values.Value.{Value}
use Rattle.wa_types.specs.declared.values.Trap.{Trap}
use Rattle.wa_types.specs.Syntax.{Module}
use Rattle.wa_types.specs.Modules.{func_type_at}
use Rattle.wa_model.specs.declared.events.Call.{Call as CallValue}
use Rattle.wa_model.specs.declared.events.End.TheVariants as E
use Rattle.wa_model.specs.Store.{Store}
use Rattle.wa_model.specs.Step.{entered}
use Rattle.wa_model.specs.Blocking.{Left}
use Rattle.run_theory.specs.Fitting.{types_of}
use Rattle.wa_model.specs.Protocol.{Phase, Then, calling, trap_end}
use Rattle.world_model.specs.World.{Program}
use Rattle.run_laws.specs.FittingStates.{Callable}
use Rattle.interp.specs.declared.turns.Turn.{Turn}
use Rattle.interp.specs.declared.turns.Turn.TheVariants.{Returned, Trapped, Waiting, StepsSpent}
use Rattle.interp.specs.Host.{CallsAside}
use Rattle.pause_host.specs.Moves.{EndsAt, Returns}
use Rattle.pause_host.proofs.Ways.{returns_by, export_trapped, export_asked, export_spent, export_dear}
use Rattle.pause_host.proofs.Pauses.{CallsIn, calls_in, too_dear, it_enters}

module _ (w : Program) (m : Module) (code : m ≡ w.source) (s : Store) (x : ℕ) (args : List Value) (left used : ℕ) (s' : Store) (callable : Callable w.source x (types_of args)) where
  -- the interpreter's conditions
  pub params_typed : types_of args ≡ (func_type_at m x).params
  params_typed = sym callable.1 ∙ ap (λ z. (func_type_at z x).params) (sym code)

  abbrev Came : Turn → Type 0
  Came t = CallsAside m s x args left used t s'

  came_in : (t : Turn) (h : Came t) → CallsIn w.source s x args callable.0.0 left used t s' h.0
  came_in t h = calls_in w.source s x args callable.0.0 left used t s' h.0 callable.0.1 (subst (λ z. CallsAside z s x args left used t s') code h).1

  pub came_returned : (v : Option Value) → Came (Returned v) → Returns w.source s x args left used (option_to_list v) s'
  came_returned v h = by_case (came_in (Returned v) h)
    where
      by_case : CallsIn w.source s x args callable.0.0 left used (Returned v) s' h.0 → Returns w.source s x args left used (option_to_list v) s'
      by_case (too_dear le u t same) = cc
      by_case (it_enters le more u k) =
          let r = returns_by w.source (entered s [] args x callable.0.0) (left - suc (length args)) more (option_to_list v) s' k.0 in
          record {
            func = callable.0.0;
            there = callable.0.1;
            last = r.at;
            cost = r.cost;
            k = r.k;
            runs = r.runs;
            returns_then = r.next_is;
            used_is = u
                ∙ ap (λ n. suc (length args) + n) r.used_is;
            within = omega (arith, r.within);
          }

  module _ (ph : Phase) (th : Then) (l : Left) where
    pub came_trapped : (t : Trap) → Came (Trapped t) → EndsAt w (calling ph s x args th l) left used (trap_end w.plan.area ph t s') s'
    came_trapped t h = by_case (came_in (Trapped t) h)
      where
        by_case : CallsIn w.source s x args callable.0.0 left used (Trapped t) s' h.0 → EndsAt w (calling ph s x args th l) left used (trap_end w.plan.area ph t s') s'
        by_case (too_dear le u z same) = cc
        by_case (it_enters le more u k) = export_trapped w ph s x args th l callable.0.0 left used more t s' callable.0.1 le u k.0

    pub came_asked : (call : CallValue) → Came (Waiting call) → EndsAt w (calling ph s x args th l) left used (E.Broken 6) s'
    came_asked call h = by_case (came_in (Waiting call) h)
      where
        by_case : CallsIn w.source s x args callable.0.0 left used (Waiting call) s' h.0 → EndsAt w (calling ph s x args th l) left used (E.Broken 6) s'
        by_case (too_dear le u z same) = cc
        by_case (it_enters le more u k) = export_asked w ph s x args th l callable.0.0 left used more call.import call.args.items k.at s' callable.0.1 le u k.store_is k.ends

    pub came_spent : Came StepsSpent → EndsAt w (calling ph s x args th l) left used (E.StepsSpent w.steps) s'
    came_spent h = by_case (came_in StepsSpent h)
      where
        by_case : CallsIn w.source s x args callable.0.0 left used StepsSpent s' h.0 → EndsAt w (calling ph s x args th l) left used (E.StepsSpent w.steps) s'
        by_case (too_dear le u z same) = export_dear w ph s x args th l left used s' le u same
        by_case (it_enters le more u k) = export_spent w ph s x args th l callable.0.0 left used more k.0.at s' callable.0.1 le u k.0.store_is k.0.ends
