-- Of which programs something is to come.
use Rattle.std.proofs.Common.{◌≡◌, ℕ, ◌-◌, inl, inr, List, [], ◌∷◌, ◌++◌, length, Option, Some, None, true, false, refl, sym, ap, ◌∙◌, append-nil, arith}
use Rattle.std.specs.Prelude.{is_none, slice_get}
use Rattle.wa_model.specs.Machine.{Ran, after, still}
use Rattle.wa_model.specs.Plan.{Entry, Outcome}
use Rattle.wa_model.specs.Blocking.{Note}
use Rattle.wa_model.specs.Protocol.{Held, free, starting, busy, calling, aside, entering, over, exports_of, held_continued, Protocol}
use Rattle.world_model.specs.World.{Halt, Origin, at_start, gone, at_pause, Program, halted_in, protocol_story, story_from, told_by, unless_over}
use Rattle.world_laws.proofs.Counting.{Tells, after_tells, protocol_tells}
use Rattle.host_laws.proofs.Stretches.{over_still}
use Rattle.many_host.specs.Turns.{is_gone, is_over_at}

no_last : {X : Type 0} (xs : List X) (x : X) → xs ++ x ∷ [] ≡ [] → ⊥
no_last [] x e = cc
no_last (y ∷ ys) x e = cc

-- what has told of its calls has told something
some_told : (n steps : ℕ) (es : List Note) (h : Held) → Tells n es h → es ++ unless_over steps h ≡ [] → ⊥
some_told n steps es (free s l) t e = no_last es _ e
some_told n steps es (starting f s l) t e = no_last es _ e
some_told n steps es (busy ph c l) t e = no_last es _ e
some_told n steps es (calling ph s f args th l) t e = no_last es _ e
some_told n steps es (aside ph c th l) t e = no_last es _ e
some_told n steps es (entering ph x s l) t e = no_last es _ e
some_told n steps [] (over s) (inl t) e = t.0
some_told n steps (x ∷ es) (over s) (inl t) e = cc
some_told n steps es (over s) (inr t) e = no_last t.before t.last (sym t.split ∙ sym (append-nil es) ∙ e)

module _ (w : Program) where
  by_entry : (x : Halt) (o : Option Entry) → is_none o ≡ true → (os : List Outcome)
      → told_by w.steps (held_continued w.source w.plan (w.steps - x.used) (still (halted_in w.source w.plan x os o))) ≡ []
  by_entry x None e os = ap (λ (r : Ran Held Note). told_by w.steps (after [] r)) (over_still w.source w.plan (w.steps - x.used) x.store)
  by_entry x (Some entry) e os = cc

  by_origin : (o : Origin) → is_over_at w.plan.entries o ≡ true → (os : List Outcome) → story_from w os o ≡ []
  by_origin at_start e os = cc
  by_origin gone e os = refl
  by_origin (at_pause x) e os = by_entry x (slice_get w.plan.entries x.entry) e os

  pub no_story : is_gone w ≡ true → (os : List Outcome) → protocol_story w os ≡ []
  no_story e os = by_origin w.origin e os

  some_entry : (x : Halt) (o : Option Entry) → is_none o ≡ false → (os : List Outcome)
      → told_by w.steps (held_continued w.source w.plan (w.steps - x.used) (still (halted_in w.source w.plan x os o))) ≡ [] → ⊥
  some_entry x None e os none = cc
  some_entry x (Some entry) e os none =
      let begun : Ran Held Note = still (halted_in w.source w.plan x os (Some entry)) in
      let r : Ran Held Note = held_continued w.source w.plan (w.steps - x.used) begun in
      some_told (length os) w.steps r.events r.last (after_tells w.source (exports_of w.source) w.plan (length os) (w.steps - x.used) begun (tt, omega arith)) none

  some_origin : (o : Origin) → is_over_at w.plan.entries o ≡ false → (os : List Outcome) → story_from w os o ≡ [] → ⊥
  some_origin at_start e os none =
      let r : Ran Held Note = Protocol w.source w.plan os w.steps in
      some_told (length os) w.steps r.events r.last (protocol_tells w.source w.plan os w.steps) none
  some_origin gone e os none = cc
  some_origin (at_pause x) e os none = some_entry x (slice_get w.plan.entries x.entry) e os none

  pub some_story : is_gone w ≡ false → (os : List Outcome) → protocol_story w os ≡ [] → ⊥
  some_story e os none = some_origin w.origin e os none
