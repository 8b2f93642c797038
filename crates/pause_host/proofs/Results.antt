-- Answers of calls, behind parts of the way to them.
use Rattle.std.proofs.Common.{◌≡◌, ◌≤◌, ℕ, ◌+◌, ◌-◌, List, [], ◌∷◌, All, map, length, Result, Ok, Err, IfOk, refl, sym, ap, ◌∙◌, subst, arith}
use Rattle.wa_types.specs.declared.values.Value.{Value}
use Rattle.wa_model.specs.declared.events.End.{End}
use Rattle.wa_model.specs.declared.events.Event.TheVariants as V
use Rattle.wa_types.specs.Syntax.{Module}
use Rattle.wa_model.specs.Outside.{ended}
use Rattle.wa_model.specs.View.{event_of}
use Rattle.run_theory.specs.Fitting.{StoreFits}
use Rattle.std.proofs.lemmas.List.Elements.{All-head}
use Rattle.run_laws.specs.FittingStates.{HeldFits, EntryTyped}
use Rattle.wa_model.specs.Store.{Store}
use Rattle.wa_model.specs.Configuration.{Configuration}
use Rattle.wa_model.specs.Plan.{Entry}
use Rattle.wa_model.specs.Blocking.{Note, note, Left, done_notes, Task, inside, the_start, an_entry}
use Rattle.wa_model.specs.Protocol.{exports_of, Held, free, over, held_on}
use Rattle.world_model.specs.World.{Program}
use Rattle.interp.specs.Instance as I
use Rattle.interp.specs.Instance.{Waits}
use Rattle.host_laws.specs.Stretch.{Stretch}
use Rattle.host_laws.specs.Places.{stands, ends}
use Rattle.host_laws.proofs.Stretches.{nowhere_on}
use Rattle.pause_host.specs.Mailing.{MailSupply}
use Rattle.pause_host.specs.declared.stages.EntryCall.{EntryCall}
use Rattle.pause_host.specs.declared.exports.Exported.{Exported}
use Rattle.pause_host.specs.declared.exports.Work.{Work}
use Rattle.pause_host.specs.declared.stages.Moved.{Moved}
use Rattle.pause_host.specs.declared.stages.Stage.TheVariants as S
use Rattle.pause_host.specs.declared.stages.Task as TV
use Rattle.pause_host.specs.declared.stages.Task.TheVariants as T
use Rattle.pause_host.specs.Views.{entry_of, free_place, place_in}
use Rattle.pause_host.specs.Moves.{Comes, ComesFrom, EndsAt, Exports, IsAsking, IsTask}
use Rattle.pause_host.proofs.Comings.{ends_come, comes_behind}

module _ {F : Type 0} (w : Program) (h : Held) where
  -- the end that was told
  pub ended_ok : (left used : ℕ) (how : End) (s : Store) (r : Result Moved F) (supply : MailSupply) (l : Left) (waits : Waits) → IfOk r (λ m. m.event ≡ V.Ended how) → IfOk r (λ m. m.stage ≡ S.Ended how)
      → EndsAt w h left used how s → IfOk r (λ m. Comes w h left used m supply supply l s waits)
  ended_ok left used how s (Ok m) supply l waits e st k = ends_come w h left used how s m supply l waits k e st
  ended_ok left used how s (Err d) supply l waits e st k = tt

  -- behind a stretch, where l0 and u0 were left and used before it, l1 and u1 behind it, and u2 in the end
  pub behind_ok : (h1 : Held) (ready : List Note) (l0 u0 l1 u1 u2 : ℕ) (r : Result Moved F) (supply supply' : MailSupply) (l : Left) (s : Store) (waits : Waits) → l1 + u1 ≡ l0 + u0 → u0 ≤ u1 → u1 ≤ u2
      → Stretch w.source w.plan h [] ready (u1 - u0) h1 → IfOk r (λ m. ComesFrom w (stands ready h1) l1 (u2 - u1) m supply supply' l s waits)
      → IfOk r (λ m. Comes w h l0 (u2 - u0) m supply supply' l s waits)
  behind_ok h1 ready l0 u0 l1 u1 u2 (Ok m) supply supply' l s waits sum a b stretch c =
      comes_behind w h h1 ready (u1 - u0) l0 l1 (u2 - u1) (u2 - u0) m supply supply' l s waits stretch (omega arith) (omega arith) (omega arith) c
  behind_ok h1 ready l0 u0 l1 u1 u2 (Err d) supply supply' l s waits sum a b stretch c = tt

pub export_got : (w : Program) (work : Work) (s s' : Store) (func n : ℕ) (args args' : List Value) (left used : ℕ) (r r' : Exported) → func ≡ n → args ≡ args' → r ≡ r'
    → Exports w work s func args left used r s' → Exports w work s n args' left used r' s'
export_got w work s s' func n args args' left used r r' e a i h =
    subst (λ z. Exports w work s n args' left used z s') i (subst (λ z. Exports w work s n z left used r s') a (subst (λ z. Exports w work s z args left used r s') e h))

-- who asks for a task that waits
pub task_asking : (task : TV.Task) (t : Task) (at : Configuration) (s : Store) (waits : Waits) → IsTask task t → at.store ≡ s → waits ≡ I.inside at.here at.under → IsAsking task waits s (inside t at)
task_asking task t at s waits is same e = subst (λ ws. IsAsking task ws s (inside t at)) (sym e) (by_task task is)
  where
    by_task : (task' : TV.Task) → IsTask task' t → IsAsking task' (I.inside at.here at.under) s (inside t at)
    by_task T.Start k = ap (λ z. inside z at) k ∙ ap (λ z. inside the_start (record { store = z; here = at.here; under = at.under })) same
    by_task (T.Entry y) k = ap (λ z. inside z at) k ∙ ap (λ z. inside (an_entry (entry_of y)) (record { store = z; here = at.here; under = at.under })) same
    by_task T.Outermost k = absurd k

-- what comes next is an end that was ready
pub ending_ok : {F : Type 0} (w : Program) (how : End) (s : Store) (left n : ℕ) (r : Result Moved F) (supply : MailSupply) (l : Left) (waits : Waits) → n ≡ 0
    → IfOk r (λ m. m.event ≡ V.Ended how) → IfOk r (λ m. m.stage ≡ S.Ended how)
    → IfOk r (λ m. ComesFrom w (stands (note (ended how) s ∷ []) (over s)) left n m supply supply l s waits)
ending_ok w how s left n (Ok m) supply l waits z e st =
    subst (λ k. ComesFrom w (stands (note (ended how) s ∷ []) (over s)) left k m supply supply l s waits) (sym z)
    (record {
      note = note (ended how) s;
      event_is = ap event_of (sym e);
      store_is = refl;
      tells = record {
        outcomes = [];
        takes = (refl, refl);
        within = omega arith;
        lands =
            ends how [] s (nowhere_on w.source w.plan (over s)) refl refl (ap (place_in (exports_of w.source) w.plan.area l s waits) st);
      };
    })
ending_ok w how s left n (Err d) supply l waits z e st = tt

-- the place before an entry is called
pub free_is : (s : Store) (l : Left) (y : Entry) (ys : List Entry) → l.entries ≡ y ∷ ys → free_place l s ≡ stands [] (free s l)
free_is s l y ys e = ap (λ es. stands (done_notes s es) (held_on s l es)) e

-- what fits there
pub free_fits : (p : Module) (s : Store) (l : Left) (y : Entry) (ys : List Entry) → l.entries ≡ y ∷ ys → HeldFits p (held_on s l l.entries) → StoreFits p s × EntryTyped p y
free_fits p s l y ys e f = let g : HeldFits p (free s l) = subst (λ es. HeldFits p (held_on s l es)) e f in (g.0, All-head (EntryTyped p) y ys (subst (All (EntryTyped p)) e g.2))

pub none_left : (ys : List EntryCall) → length ys ≡ 0 → map entry_of ys ≡ []
none_left [] e = refl
none_left (y ∷ ys) e = let no : ⊥ = omega arith in absurd no
