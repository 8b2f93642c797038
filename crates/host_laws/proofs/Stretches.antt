-- Stretches compose, and are parts of whole runs.
use Rattle.std.proofs.Common.{◌≡◌, ℕ, ◌+◌, ◌-◌, ◌++◌, List, [], ◌∷◌, Option, Some, None, refl, sym, ap, ◌∙◌, subst, append_assoc}
use Rattle.std.specs.Prelude.{slice_get}
use Rattle.wa_types.specs.Syntax.{Module}
use Rattle.wa_model.specs.Machine.{Turn, stops, goes, Ran, after, still, run, Leads, stays, CostsMore}
use Rattle.wa_model.specs.Store.{Store}
use Rattle.wa_model.specs.Plan.{Entry, Plan, Outcome}
use Rattle.wa_model.specs.Instantiation.{Opening, fails_as, opens, opening}
use Rattle.wa_model.specs.Blocking.{Note, Left, with_outcomes, all_left, no_store}
use Rattle.wa_model.specs.Protocol.{Held, free, starting, busy, calling, aside, entering, over, held_on, exports_of, protocol, held_begun, store_held}
use Rattle.world_model.specs.World.{Halt, Origin, at_start, gone, at_pause, Program, halted_in, protocol_story, story_from, told_by}
use Rattle.run_theory.proofs.Runs.{leads_on, leads_run, too_dear, no_move}
use Rattle.host_laws.specs.Stretch.{meeting, Stretch, IsSpent}
use Rattle.host_laws.specs.Stories.{opened, opened_at, opened_from, steps_from}
use Rattle.host_laws.specs.Laws.{StretchesCompose}

pub compose : StretchesCompose
compose p plan h h' h'' os os' notes notes' cost cost' a b = λ more.
    subst (λ xs. Leads (protocol p (exports_of p) plan) (meeting xs h) (cost + cost') (notes ++ notes') (meeting more h'')) (sym (append_assoc os os' more))
    (leads_on Held Note (protocol p (exports_of p) plan) (meeting (os ++ (os' ++ more)) h) (meeting (os' ++ more) h') (meeting more h'') cost cost' notes notes' (a (os' ++ more)) (b more))

pub nowhere_on : (p : Module) (plan : Plan) (h : Held) → Stretch p plan h [] [] 0 h
nowhere_on p plan h = λ more. stays

-- ---- what instantiation makes doesn't depend on the outcomes

pub on_last : (s : Store) (l : Left) (es : List Entry) (os : List Outcome) → held_on s (with_outcomes l os) es ≡ meeting os (held_on s l es)
on_last s l [] os = refl
on_last s l (e ∷ es) os = refl

begun_last : (start : Option ℕ) (l : Left) (o : Opening) (os : List Outcome) → (held_begun start (with_outcomes l os) o).last ≡ meeting os (held_begun start l o).last
begun_last start l (fails_as e) os = refl
begun_last None l (opens s) os = on_last s l l.entries os
begun_last (Some f) l (opens s) os = refl

begun_events : (start : Option ℕ) (l : Left) (o : Opening) (os : List Outcome) → (held_begun start (with_outcomes l os) o).events ≡ (held_begun start l o).events
begun_events start l (fails_as e) os = refl
begun_events None l (opens s) os = refl
begun_events (Some f) l (opens s) os = refl

module _ (p : Module) (plan : Plan) where
  abbrev next : Held → Turn Held Note
  next = protocol p (exports_of p) plan

  pub over_still : (n : ℕ) (s : Store) → run next n (over s) ≡ still (over s)
  over_still n s = no_move Held Note next n (over s) refl

  still_by : (n : ℕ) (t : Held) (o : Turn Held Note) → next t ≡ o → CostsMore n o → run next n t ≡ still t
  still_by n t stops e h = no_move Held Note next n t e
  still_by n t (goes k es u) e h = too_dear Held Note next k n es t u e h

  pub spent_still : (n : ℕ) (h : Held) (more : List Outcome) → IsSpent p plan n h → run next n (meeting more h) ≡ still (meeting more h)
  spent_still n h more spent = still_by n (meeting more h) (next (meeting more h)) refl (spent.dearer more)

-- ---- where a program begins doesn't depend on them

on_entry : (p : Module) (plan : Plan) (x : Halt) (os : List Outcome) (e : Option Entry) → halted_in p plan x os e ≡ meeting os (halted_in p plan x [] e)
on_entry p plan x os None = refl
on_entry p plan x os (Some e) = refl

module _ (w : Program) where
  abbrev going : ℕ → Held → Ran Held Note
  going n h = run (next w.source w.plan) n h

  abbrev Begins : List Outcome → Origin → Type 0
  Begins os o = story_from w os o ≡ told_by w.steps (after (opened_from w.source w.plan o).events (going (steps_from w.steps o) (meeting os (opened_from w.source w.plan o).last)))

  begins_by : (os : List Outcome) (o : Origin) → Begins os o
  begins_by os at_start =
      let l : Left = all_left w.plan [] in
      let o : Opening = opening w.source w.plan.globals in
      let b : Ran Held Note = held_begun w.source.start (with_outcomes l os) o in
      ap (λ es. told_by w.steps (after es (going w.steps b.last))) (begun_events w.source.start l o os)
      ∙ ap (λ s. told_by w.steps (after (opened w.source w.plan).events (going w.steps s))) (begun_last w.source.start l o os)
  begins_by os gone = sym (ap (λ (r : Ran Held Note). told_by w.steps (after [] r)) (over_still w.source w.plan w.steps no_store))
  begins_by os (at_pause x) = ap (λ s. told_by w.steps (after [] (going (w.steps - x.used) s))) (on_entry w.source w.plan x os (slice_get w.plan.entries x.entry))

  -- the story of a program is told from where it begins, and goes on from where a stretch leads
  pub story_on : (os : List Outcome) (notes : List Note) (used n : ℕ) (h : Held) (more : List Outcome) → used + n ≡ steps_from w.steps w.origin
      → Stretch w.source w.plan (opened_at w).last os notes used h
      → protocol_story w (os ++ more) ≡ told_by w.steps (after (opened_at w).events (after notes (going n (meeting more h))))
  story_on os notes used n h more steps stretch =
      begins_by (os ++ more) w.origin
      ∙ ap (λ k. told_by w.steps (after (opened_at w).events (going k (meeting (os ++ more) (opened_at w).last)))) (sym steps)
      ∙ ap (λ r. told_by w.steps (after (opened_at w).events r))
      (leads_run Held Note (next w.source w.plan) (meeting (os ++ more) (opened_at w).last) (meeting more h) used n notes (stretch more))

pub store_meeting : (os : List Outcome) (h : Held) → store_held (meeting os h) ≡ store_held h
store_meeting os (free s l) = refl
store_meeting os (starting f s l) = refl
store_meeting os (busy ph c l) = refl
store_meeting os (calling ph s f args th l) = refl
store_meeting os (aside ph c th l) = refl
store_meeting os (entering ph e s l) = refl
store_meeting os (over s) = refl
