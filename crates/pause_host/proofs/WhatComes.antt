-- What comes of a stage, an event or a new call, behind parts of the way to it.
use Rattle.std.proofs.Common.{◌≡◌, ℕ, ◌+◌, List, [], ◌∷◌, Result, Ok, Err, IfOk, refl, sym, ap, subst, arith}
use Rattle.wa_model.specs.declared.events.Call.{Call}
use Rattle.wa_model.specs.declared.events.End.{End}
use Rattle.wa_model.specs.declared.events.End.TheVariants as E
use Rattle.wa_model.specs.Outside.{ended}
use Rattle.wa_model.specs.Store.{Store}
use Rattle.wa_model.specs.Blocking.{Note, note, Left, no_store}
use Rattle.wa_model.specs.Protocol.{Held, exports_of, over, protocol}
use Rattle.world_model.specs.World.{Program}
use Rattle.run_theory.proofs.Runs.{leads_on}
use Rattle.interp.specs.Instance.{Waits}
use Rattle.host_laws.specs.Stretch.{meeting, Stretch}
use Rattle.host_laws.specs.Places.{Place, stands, has_ended, nowhere}
use Rattle.pause_host.specs.declared.stages.Moved.{Moved}
use Rattle.pause_host.specs.declared.stages.Next.{Next}
use Rattle.pause_host.specs.declared.stages.Next.TheVariants as N
use Rattle.pause_host.specs.declared.stages.Task.{Task}
use Rattle.pause_host.specs.Moves.{CallComes, EndsAt, NextFrom, TellsEnd}
use Rattle.pause_host.specs.Views.{free_place}
use Rattle.pause_host.proofs.Comings.{ends_come, comes_behind}
use Rattle.pause_host.proofs.Results.{ending_ok}
use Rattle.pause_host.proofs.Tasks.{done_comes}

-- ---- the parts of a place

abbrev ready_at : Place → List Note
ready_at (stands ready h) = ready
ready_at (has_ended how) = []
ready_at nowhere = []

abbrev held_at : Place → Held
held_at (stands ready h) = h
held_at (has_ended how) = over no_store
held_at nowhere = over no_store

-- ---- behind a stretch

calls_behind : (w : Program) (h h1 : Held) (ready : List Note) (left0 u left1 used1 : ℕ) (task : Task) (call : Call) (l : Left) (s : Store) (waits : Waits) → left1 + u ≡ left0
    → Stretch w.source w.plan h [] ready u h1 → CallComes w (stands ready h1) left1 used1 task call l s waits → CallComes w (stands [] h) left0 (u + used1) task call l s waits
calls_behind w h h1 ready left0 u left1 used1 task call l s waits sum stretch c =
    let none : ready ≡ [] = ap ready_at c.from_is in
    let there : h1 ≡ c.held = ap held_at c.from_is in
    let first : Stretch w.source w.plan h [] [] u c.held = subst (λ k. Stretch w.source w.plan h [] [] u k) there (subst (λ xs. Stretch w.source w.plan h [] xs u h1) none stretch) in
    record {
      held = h;
      from_is = refl;
      who = c.who;
      asks = record {
        k = c.asks.k;
        at = c.asks.at;
        cost = u + c.asks.cost;
        first = λ os.
            leads_on Held Note (protocol w.source (exports_of w.source) w.plan) (meeting os h) (meeting os c.held) (meeting os c.asks.at) u c.asks.cost [] [] (first os) (c.asks.first os);
        there = c.asks.there;
        asked = c.asks.asked;
        used_is = omega (arith, c.asks.used_is);
      };
      within = omega (arith, c.within);
      asking = c.asking;
    }

module _ {F : Type 0} (w : Program) where
  -- the end that was told
  pub ended_next : (h : Held) (left used : ℕ) (how : End) (s : Store) (r : Result Next F) (l : Left) (waits : Waits) → IfOk r (TellsEnd how) → EndsAt w h left used how s
      → IfOk r (λ n. NextFrom w (stands [] h) left used n l s waits)
  ended_next h left used how s (Ok (N.Told m)) l waits t k = λ supply. ends_come w h left used how s m supply l waits k t.0 t.1
  ended_next h left used how s (Ok (N.Calls task call)) l waits t k = absurd t
  ended_next h left used how s (Err d) l waits t k = tt

  -- the end behind the last entry
  pub done_next : (l : Left) (s : Store) (left n : ℕ) (r : Result Next F) (l' : Left) (waits : Waits) → l.entries ≡ [] → n ≡ 0 → IfOk r (TellsEnd E.Done)
      → IfOk r (λ k. NextFrom w (free_place l s) left n k l' s waits)
  done_next l s left n (Ok (N.Told m)) l' waits none z t =
      subst (λ k. NextFrom w (free_place l s) left k (N.Told m) l' s waits) (sym z) (λ supply. done_comes w l s left m supply l' waits none t.0 t.1)
  done_next l s left n (Ok (N.Calls task call)) l' waits none z t = absurd t
  done_next l s left n (Err d) l' waits none z t = tt

  -- an end that was ready
  pub ending_next : (how : End) (s : Store) (left n : ℕ) (r : Result Next F) (l : Left) (waits : Waits) → n ≡ 0 → IfOk r (TellsEnd how)
      → IfOk r (λ k. NextFrom w (stands (note (ended how) s ∷ []) (over s)) left n k l s waits)
  ending_next how s left n (Ok (N.Told m)) l waits z t = λ supply. let r : Result Moved F = Ok m in ending_ok w how s left n r supply l waits z t.0 t.1
  ending_next how s left n (Ok (N.Calls task call)) l waits z t = absurd t
  ending_next how s left n (Err d) l waits z t = tt

  pub next_behind : (h h1 : Held) (ready : List Note) (left0 u left1 used1 : ℕ) (r : Result Next F) (l : Left) (s : Store) (waits : Waits) → left1 + u ≡ left0
      → Stretch w.source w.plan h [] ready u h1 → IfOk r (λ n. NextFrom w (stands ready h1) left1 used1 n l s waits)
      → IfOk r (λ n. NextFrom w (stands [] h) left0 (u + used1) n l s waits)
  next_behind h h1 ready left0 u left1 used1 (Ok (N.Told m)) l s waits sum stretch c =
      λ supply. comes_behind w h h1 ready u left0 left1 used1 (u + used1) m supply supply l s waits stretch (omega arith) (omega arith) refl (c supply)
  next_behind h h1 ready left0 u left1 used1 (Ok (N.Calls task call)) l s waits sum stretch c = calls_behind w h h1 ready left0 u left1 used1 task call l s waits sum stretch c
  next_behind h h1 ready left0 u left1 used1 (Err d) l s waits sum stretch c = tt
