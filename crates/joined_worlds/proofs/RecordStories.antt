-- What one program of an original has told, and another one tells from its record on, is a story of the original.
use Rattle.std.proofs.Common.{arith, ◌≡◌, ◌≤◌, ◌<◌, ◌-◌, ℕ, suc, List, [], ◌++◌, length, drop, Option, Some, Bool, All, sym, ap, ◌∙◌, subst, append-nil}
use Rattle.std.specs.Prelude.{slice_get}
use Rattle.wa_model.specs.Instantiation.{opening}
use Rattle.wa_model.specs.Blocking.{Blocking, Note, all_left}
use Rattle.wa_model.specs.Behaves.{PausesNumbered}
use Rattle.wa_model.specs.Machine.{Leads, Ran, run, still}
use Rattle.wa_model.specs.Outside.{AnswerLine}
use Rattle.wa_model.specs.Plan.{Entry, Outcome, OutcomeFits, Plan}
use Rattle.wa_model.specs.Protocol.{Held, exports_of, held_begun, held_continued, protocol}
use Rattle.wa_model.specs.Untouched.{Untouched}
use Rattle.world_model.specs.World.{Actor, Halt, Original, Program, StartsHeld, at_start, halted, halted_in, protocol_story, story_from, told_by}
use Rattle.wa_types.specs.Pausing.{TellsMayPause}
use Rattle.run_theory.specs.DeterminedRuns.{held_start_of}
use Rattle.snapshot_store.specs.Snapshots.{PausedParts, ProgramRecord, fresh, over, paused}
use Rattle.world_laws.specs.Originals.{MayRun, Orderly, StandsIn, new_calls}
use Rattle.world_laws.specs.Snapshots.{ComesTo, IsFresh, IsPaused, StandsSo, answer_in, begun_from, from_record, halt_at, table_made, used_from}
use Rattle.world_laws.proofs.GoingOn.{whole_alone, whole_any}
use Rattle.world_laws.proofs.Replaying.{Since}
use Rattle.world_laws.proofs.Counting.{calls_on}
use Rattle.world_laws.proofs.Stories.{IsStory, stories_of_originals}
use Rattle.world_laws.proofs.Tails.{told_calls}
use Rattle.image_laws.specs.Image.{held_at_pause}
use Rattle.joined_worlds.proofs.JoinedStories.{RunsKnown, joined_story, none_before}
use Rattle.joined_worlds.proofs.SomeTold.{some_at}

-- Within its steps the original's run with these outcomes touches no byte of the area, and its pauses find each activation at a numbered call
-- of these functions.
pub record Ordered (o : Original) (which : List Bool) (os : List Outcome) : Type 0 where
  pub untouched : Untouched o.program.source o.program.plan os o.program.steps
  pub numbered : PausesNumbered o.program.source o.settings which (Blocking o.program.source o.program.plan os o.program.steps).events

-- the pause of a record, by the answer lines and the table
abbrev halt_by : (due : ℕ) → PausedParts → (memory : List ℕ) → List AnswerLine → List (Option ℕ) → Halt
halt_by due x memory answers table = record {
  due = due;
  used = x.steps_used;
  taken = x.answers;
  entry = x.entry;
  import = x.import;
  answer = answer_in (slice_get answers (x.answers - 1));
  store = record { globals = x.globals; memory = memory; table = table };
}

module _ (o : Original) (w v : Program) (first : StandsIn o w) (second : StandsIn o v) (which : List Bool) (tells : TellsMayPause o.program.source o.settings which) (may : MayRun o)
    (known : (os : List Outcome) → All OutcomeFits os → Ordered o which os → RunsKnown o w.source v.source which os)
    (tables : table_made (opening w.source o.program.plan.globals) ≡ table_made (opening v.source o.program.plan.globals)) where
  abbrev P : Plan
  P = o.program.plan

  abbrev N : ℕ
  N = o.program.steps

  abbrev A : List AnswerLine
  A = o.program.answers

  abbrev T : List (Option ℕ)
  T = table_made (opening w.source o.program.plan.globals)

  orderly_so : (os : List Outcome) → Ordered o which os → Orderly o os
  orderly_so os h = record { untouched = h.untouched; which = which; tells = tells; numbered = h.numbered }

  -- ---- a pause

  module _ (made : List Note) (met : List Outcome) (now : Actor) (due : ℕ) (x : PausedParts) (memory : List ℕ) (h : IsPaused w made met now due x memory) (rest : List Outcome) where
    abbrev os : List Outcome
    os = met ++ rest

    abbrev there : Halt
    there = halt_by due x memory o.program.answers (table_made (opening w.source o.program.plan.globals))

    the_entry : (e : Entry) × (slice_get P.entries x.entry ≡ Some e)
    the_entry = some_at P.entries x.entry (subst (λ (pl : Plan). x.entry < length pl.entries) first.plan h.entry)

    comes : ComesTo w made met x.steps_used (halted w.source w.plan (halt_at w due x memory))
    comes = h.comes

    way : (behind : List Note) × (made ≡ (held_start_of w.source P os).events ++ behind)
        × Leads (protocol w.source (exports_of w.source) P) (held_start_of w.source P os).last comes.cost behind (halted w.source P there rest)
    way =
        let c = comes in
        let y = c.way rest in
        let at : made ≡ (begun_from w os at_start).events ++ y.0 = subst (λ z. made ≡ (begun_from w (met ++ rest) z).events ++ y.0) first.start y.1 in
        let moved : Leads (protocol w.source (exports_of w.source) w.plan) (begun_from w os at_start).last c.cost y.0 (halted w.source w.plan (halt_at w due x memory) rest) =
        subst (λ z. Leads (protocol w.source (exports_of w.source) w.plan) (begun_from w (met ++ rest) z).last c.cost y.0 (halted w.source w.plan (halt_at w due x memory) rest)) first.start y.2 in
        let planned : Leads (protocol w.source (exports_of w.source) P) (held_start_of w.source P os).last c.cost y.0
        (halted w.source P (halt_by due x memory w.answers (table_made (opening w.source o.program.plan.globals))) rest) =
        subst (λ (pl : Plan). Leads (protocol w.source (exports_of w.source) pl) (held_begun w.source.start (all_left pl (met ++ rest)) (opening w.source pl.globals)).last c.cost y.0
        (halted w.source pl (halt_by due x memory w.answers (table_made (opening w.source pl.globals))) rest)) first.plan moved in (
          y.0,
          subst (λ (pl : Plan). made ≡ (held_begun w.source.start (all_left pl (met ++ rest)) (opening w.source pl.globals)).events ++ y.0) first.plan at,
          subst (λ (ls : List AnswerLine). Leads (protocol w.source (exports_of w.source) P) (held_start_of w.source P (met ++ rest)).last c.cost y.0
              (halted w.source P (halt_by due x memory ls (table_made (opening w.source o.program.plan.globals))) rest)) first.answers planned,
        )

    leads : Leads (protocol w.source (exports_of w.source) P) (held_start_of w.source P os).last x.steps_used way.0
        (held_at_pause w.source P the_entry.0 x.import there.answer there.store (record { number = x.entry; entries = drop (suc x.entry) P.entries; outcomes = rest }))
    leads =
        let c = comes in
        let z : c.cost ≡ x.steps_used = let u = ap used_from first.start in omega (arith, c.steps, u) in
        subst (λ (n : ℕ). Leads (protocol w.source (exports_of w.source) P) (held_start_of w.source P (met ++ rest)).last n way.0
        (held_at_pause w.source P the_entry.0 x.import there.answer there.store (record { number = x.entry; entries = drop (suc x.entry) P.entries; outcomes = rest }))) z
        (subst (λ (q : Option Entry). Leads (protocol w.source (exports_of w.source) P) (held_start_of w.source P (met ++ rest)).last c.cost way.0 (halted_in w.source P there rest q)) the_entry.1 way.2)

    -- the second program's story from there on
    abbrev ran : Ran Held Note
    ran = run (protocol v.source (exports_of v.source) P) (N - x.steps_used) (held_at_pause v.source P the_entry.0 x.import there.answer there.store (record { number = x.entry; entries = drop (suc x.entry) P.entries; outcomes = rest }))

    abbrev by_parts : Plan → ℕ → List AnswerLine → List (Option ℕ) → List Note
    by_parts pl n ls table = told_by n (held_continued v.source pl (n - x.steps_used) (still (halted v.source pl (halt_by due x memory ls table) rest)))

    story_there : protocol_story (from_record v (paused due x memory)) rest ≡ told_by N ran
    story_there =
        ap (λ (pl : Plan). by_parts pl v.steps v.answers (table_made (opening v.source pl.globals))) second.plan
        ∙ ap (λ (n : ℕ). by_parts P n v.answers (table_made (opening v.source P.globals))) second.steps
        ∙ ap (λ (ls : List AnswerLine). by_parts P N ls (table_made (opening v.source P.globals))) second.answers
        ∙ ap (λ (table : List (Option ℕ)). by_parts P N A table) (sym tables)
        ∙ ap (λ (q : Option Entry). told_by N (held_continued v.source P (N - x.steps_used) (still (halted_in v.source P there rest q)))) the_entry.1

    paused_joined : All OutcomeFits os → Ordered o which os → new_calls (made ++ protocol_story (from_record v (paused due x memory)) rest) ≤ length os
        → IsStory o os (made ++ protocol_story (from_record v (paused due x memory)) rest)
    paused_joined fits ordered few =
        let runs = known (met ++ rest) fits ordered in
        let le : x.steps_used ≤ N = let z = h.within in let n = first.steps in omega arith in
        let none =
        none_before o w.source v.source which (met ++ rest) runs x.steps_used le way.0 the_entry.0 x.import there.answer there.store
        (record { number = x.entry; entries = drop (suc x.entry) P.entries; outcomes = rest }) leads in
        let same : made ≡ way.0 = way.1 ∙ ap (λ (es : List Note). es ++ way.0) none in
        let whole : way.0 ++ told_by N ran ≡ made ++ protocol_story (from_record v (paused due x memory)) rest =
        ap (λ (es : List Note). way.0 ++ es) (sym story_there) ∙ ap (λ (es : List Note). es ++ protocol_story (from_record v (paused due x memory)) rest) (sym same) in
        let c1 = ap new_calls whole in
        let c2 = calls_on way.0 (told_by N ran) in
        let c3 = told_calls N ran in
        let c4 = calls_on way.0 ran.events in
        let fewer : new_calls (way.0 ++ ran.events) ≤ length (met ++ rest) = omega (arith, few, c1, c2, c3, c4) in
        subst (IsStory o (met ++ rest)) whole
        (joined_story o w.source v.source which (met ++ rest) runs x.steps_used le way.0 the_entry.0 x.import there.answer there.store
        (record { number = x.entry; entries = drop (suc x.entry) P.entries; outcomes = rest }) leads fewer)

  -- ---- any record

  fresh_joined : (made : List Note) (met : List Outcome) (now : Actor) → IsFresh w made met now → (rest : List Outcome) → All OutcomeFits (met ++ rest) → Ordered o which (met ++ rest)
      → new_calls (made ++ protocol_story (from_record v fresh) rest) ≤ length (met ++ rest) → IsStory o (met ++ rest) (made ++ protocol_story (from_record v fresh) rest)
  fresh_joined made met now h rest fits ordered few =
      let same : protocol_story v rest ≡ protocol_story (from_record v fresh) rest = ap (story_from v rest) second.start in
      let fits' : All OutcomeFits rest = subst (λ (us : List Outcome). All OutcomeFits (us ++ rest)) h.none_met fits in
      let ordered' : Ordered o which rest = subst (λ (us : List Outcome). Ordered o which (us ++ rest)) h.none_met ordered in
      let fewer : new_calls ([] ++ protocol_story (from_record v fresh) rest) ≤ length rest =
      subst (λ (es : List Note). new_calls (es ++ protocol_story (from_record v fresh) rest) ≤ length rest) h.none_made
      (subst (λ (us : List Outcome). new_calls (made ++ protocol_story (from_record v fresh) rest) ≤ length (us ++ rest)) h.none_met few) in
      let few_there : new_calls (protocol_story v rest) ≤ length rest = subst (λ (es : List Note). new_calls es ≤ length rest) (sym same) fewer in
      let base : IsStory o rest (protocol_story v rest) = stories_of_originals o v rest second may fits' few_there (orderly_so rest ordered') in
      subst (λ (us : List Outcome). IsStory o (us ++ rest) (made ++ protocol_story (from_record v fresh) rest)) (sym h.none_met)
      (subst (λ (es : List Note). IsStory o rest (es ++ protocol_story (from_record v fresh) rest)) (sym h.none_made) (subst (IsStory o rest) same base))

  over_joined : (was now : Actor) → StartsHeld w was → (s : Since was now) → now.notes ≡ [] → (rest : List Outcome) → All OutcomeFits (s.used ++ rest) → Ordered o which (s.used ++ rest)
      → new_calls (s.made ++ []) ≤ length (s.used ++ rest) → IsStory o (s.used ++ rest) (s.made ++ [])
  over_joined was now held s none rest fits ordered few =
      let all : was.notes ≡ s.made = s.notes ∙ ap (λ (es : List Note). s.made ++ es) none ∙ append-nil s.made in
      let here : protocol_story w (s.used ++ now.outcomes) ≡ s.made = ap (protocol_story w) (sym s.outcomes) ∙ sym held.story ∙ all in
      let told : protocol_story w (s.used ++ rest) ≡ s.made = whole_any w s.used rest s.made s.count (whole_alone w s.used now.outcomes s.made s.count here) in
      let same : protocol_story w (s.used ++ rest) ≡ s.made ++ [] = told ∙ sym (append-nil s.made) in
      let fewer : new_calls (protocol_story w (s.used ++ rest)) ≤ length (s.used ++ rest) = subst (λ (es : List Note). new_calls es ≤ length (s.used ++ rest)) (sym same) few in
      subst (IsStory o (s.used ++ rest)) same (stories_of_originals o w (s.used ++ rest) first may fits fewer (orderly_so (s.used ++ rest) ordered))

  pub record_joined : (was now : Actor) (r : ProgramRecord) → StartsHeld w was → (s : Since was now) → StandsSo w s.made s.used now r → (rest : List Outcome) → All OutcomeFits (s.used ++ rest)
      → Ordered o which (s.used ++ rest) → new_calls (s.made ++ protocol_story (from_record v r) rest) ≤ length (s.used ++ rest)
      → IsStory o (s.used ++ rest) (s.made ++ protocol_story (from_record v r) rest)
  record_joined was now fresh held s h rest fits ordered few = fresh_joined s.made s.used now h rest fits ordered few
  record_joined was now (paused due x memory) held s h rest fits ordered few = paused_joined s.made s.used now due x memory h rest fits ordered few
  record_joined was now over held s h rest fits ordered few = over_joined was now held s h rest fits ordered few
