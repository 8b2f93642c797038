-- A program that hasn't ended has something to tell.
use Rattle.std.proofs.Common.{arith, ◌≡◌, ◌<◌, ◌+◌, ◌-◌, ℕ, zero, suc, List, [], ◌∷◌, ◌++◌, length, Option, Some, refl, sym, subst, inl, inr, length-append}
use Rattle.std.specs.Prelude.{slice_get}
use Rattle.wa_model.specs.Blocking.{Note}
use Rattle.wa_model.specs.Machine.{Ran, still}
use Rattle.wa_model.specs.Plan.{Entry, Outcome}
use Rattle.wa_model.specs.Protocol.{Held, Protocol, aside, busy, calling, entering, exports_of, free, held_continued, over, starting}
use Rattle.world_model.specs.World.{Program, halted_in, protocol_story, told_by, unless_over}
use Rattle.snapshot_store.specs.Snapshots.{PausedParts, fresh, paused}
use Rattle.world_laws.specs.Snapshots.{from_record, halt_at}
use Rattle.world_laws.proofs.Counting.{Ends, Tells, after_tells, protocol_tells}

some_ends : (es : List Note) → Ends es → 0 < length es
some_ends [] h = absurd h
some_ends (x ∷ es) h = omega arith

some_last : (es : List Note) (x : Note) → 0 < length (es ++ x ∷ [])
some_last es x = let n = length-append es (x ∷ []) in omega arith

some_front : (es xs : List Note) → 0 < length es → 0 < length (es ++ xs)
some_front es xs h = let n = length-append es xs in omega arith

some_told : (n left : ℕ) (es : List Note) (h : Held) → Tells left es h → 0 < length (es ++ unless_over n h)
some_told n left es (free s l) t = some_last es _
some_told n left es (starting f s l) t = some_last es _
some_told n left es (busy ph c l) t = some_last es _
some_told n left es (calling ph s f args th l) t = some_last es _
some_told n left es (aside ph c th l) t = some_last es _
some_told n left es (entering ph e s l) t = some_last es _
some_told n left es (over s) (inl t) = some_front es [] (some_ends es t.0)
some_told n left es (over s) (inr t) = some_front es [] (subst (λ (xs : List Note). 0 < length xs) (sym t.split) (some_last t.before t.last))

-- one at its start,
pub fresh_some : (w : Program) (os : List Outcome) → 0 < length (protocol_story (from_record w fresh) os)
fresh_some w os = some_told w.steps (length os) (Protocol w.source w.plan os w.steps).events (Protocol w.source w.plan os w.steps).last (protocol_tells w.source w.plan os w.steps)

-- an entry of a list is there
pub some_at : (xs : List Entry) (i : ℕ) → i < length xs → (e : Entry) × (slice_get xs i ≡ Some e)
some_at [] i lt = let no_way : ⊥ = omega arith in absurd no_way
some_at (x ∷ xs) zero lt = (x, refl)
some_at (x ∷ xs) (suc i) lt = some_at xs i (omega arith)

-- and one at a pause of an entry
pub paused_some : (w : Program) (due : ℕ) (x : PausedParts) (memory : List ℕ) → x.entry < length w.plan.entries → (os : List Outcome) → 0 < length (protocol_story (from_record w (paused due x memory)) os)
paused_some w due x memory lt os =
    let e = some_at w.plan.entries x.entry lt in
    let none : 0 + length os ≡ length os = omega arith in
    let ran : Ran Held Note = held_continued w.source w.plan (w.steps - x.steps_used) (still (halted_in w.source w.plan (halt_at w due x memory) os (Some e.0))) in
    let tells : Tells (length os) ran.events ran.last =
    after_tells w.source (exports_of w.source) w.plan (length os) (w.steps - x.steps_used) (still (halted_in w.source w.plan (halt_at w due x memory) os (Some e.0))) (tt, none) in
    let here : 0 < length (told_by w.steps ran) = some_told w.steps (length os) ran.events ran.last tells in
    subst (λ (q : Option Entry). 0 < length (told_by w.steps (held_continued w.source w.plan (w.steps - x.steps_used) (still (halted_in w.source w.plan (halt_at w due x memory) os q))))) (sym e.1) here
