-- A snapshot of programs that are set up suits them: what holds of each pause of a run is what is asked of its record.
use Rattle.std.proofs.Common.{◌≡◌, ◌≤◌, ◌<◌, ◌+◌, ◌-◌, ◌*◌, ℕ, zero, suc, false, List, [], ◌∷◌, ◌++◌, length, Option, Some, None, refl, sym, ap, ◌∙◌, subst, append-nil, length-append, length-drop, length-set, arith}
use Rattle.std.specs.Prelude.{◌%◌, ◌==◌, ◌&&◌, nat_le, slice_get}
use Rattle.std.specs.List.{cons_option, filter_map}
use Rattle.std.specs.Option.{unwrap_or}
use Rattle.std.proofs.lemmas.Bool.{and_parts, leb-true}
use Rattle.std.proofs.lemmas.List.{append_cancel_right}
use Rattle.std.proofs.lemmas.Option.{same_Some, slice_get_within}
use Rattle.wa_types.specs.declared.syntax.Import.{Import}
use Rattle.wa_types.specs.Memory.{page_size}
use Rattle.wa_types.specs.Modules.{all_memories, func_imports, func_type_at, imported_func}
use Rattle.wa_types.specs.Pausing.{joined_name}
use Rattle.wa_types.specs.Syntax.{Module}
use Rattle.wa_model.specs.declared.answers.Detach.{Detach}
use Rattle.wa_model.specs.Machine.{Leads, Ran, moves, stays}
use Rattle.wa_model.specs.Store.{Store}
use Rattle.wa_model.specs.Outside.{Answer, AnswerLine, Call, Line}
use Rattle.wa_model.specs.Plan.{Entry, Outcome, given}
use Rattle.wa_model.specs.Instantiation.{Opening, fails_as, least_of, opening, opens}
use Rattle.wa_model.specs.Blocking.{Note, all_left, fault_of}
use Rattle.wa_model.specs.Protocol.{Held, exports_of, held_begun, over as held_over, protocol}
use Rattle.world_model.specs.World.{Actor, Device, Halt, Origin, Program, StartsHeld, due_from, answers_from, halted, halted_in, import_names, name_at, name_if}
use Rattle.run_theory.proofs.FittingOpenings.{openings_fit}
use Rattle.run_theory.proofs.NamedModules.{valid_instance}
use Rattle.run_laws.specs.FittingStates.{HeldFits}
use Rattle.run_laws.proofs.ProtocolStopping.{begun_fits}
use Rattle.run_laws.proofs.SpotRuns.{start_takes_none}
use Rattle.run_laws.proofs.Stopping.{start_there}
use Rattle.many_host.specs.Saving.{CanBeSaved}
use Rattle.snapshot_store.specs.Snapshots.{PausedParts, ProgramRecord, fresh, over, paused}
use Rattle.world_laws.specs.Snapshots.{IsPaused, IsRecordOf, StandsSo, answer_in, begun_from, halt_at, used_from}
use Rattle.world_laws.specs.Played.{Played}
use Rattle.world_laws.proofs.Journals.{name_same}
use Rattle.world_laws.proofs.Places.{all_at, item, zip_at, zipped}
use Rattle.world_hosting.specs.SnapshotsSuit.{IsSetUp, SnapshotsSuit}
use Rattle.world_hosting.specs.Suiting.{PauseSuits, RecordSuits}
use Rattle.world_hosting.proofs.KeptStores.{IsKept, opened_kept}
use Rattle.world_hosting.proofs.PausedRuns.{Account, HeldSo, IsWaiting, accounted, accounted_on, begun_so, leads_so, nothing_told, ticks_met, ticks_on}
use Rattle.world_hosting.proofs.ServedLines.{HasGone, LastLine, not_gone, played_gone}

-- ---- names of imports

name_more : (name : List ℕ) (o : Option ℕ) (names : List (List ℕ)) (funcs : List ℕ) → length names ≡ length funcs → length (cons_option (name_if name o) names) ≡ length (cons_option o funcs)
name_more name None names funcs e = e
name_more name (Some sort) names funcs e = ap suc e

names_many : (is : List Import) → length (filter_map (λ (i : Import). name_if (joined_name i) (imported_func i.kind)) is) ≡ length (filter_map (λ (i : Import). imported_func i.kind) is)
names_many [] = refl
names_many (i ∷ is) = name_more (joined_name i) (imported_func i.kind) _ _ (names_many is)

-- ---- answer lines

got_behind : (before : List AnswerLine) (l : AnswerLine) (rest : List AnswerLine) → slice_get (before ++ l ∷ rest) (length before) ≡ Some l
got_behind [] l rest = refl
got_behind (b ∷ before) l rest = got_behind before l rest

-- ---- a program that is over makes no move

over_stays : (p : Module) (plan : _) (s : Store) (n : ℕ) (es : List Note) (t : Held) → Leads (protocol p (exports_of p) plan) (held_over s) n es t → t ≡ held_over s
over_stays p plan s _ _ t stays = refl
over_stays p plan s n es t (moves e rest em eg) = cc

-- ---- a program at a pause

module _ (w : Program) (set : IsSetUp w) (can : CanBeSaved w) where
  area : (8 ≤ w.plan.area.len) × (w.plan.area.at + w.plan.area.len ≤ least_of (all_memories w.source) * page_size)
  area =
      let a = and_parts ((w.plan.area.at % 4 == 0) && nat_le 8 w.plan.area.len) (nat_le (w.plan.area.at + w.plan.area.len) (least_of (all_memories w.source) * page_size)) set.area in
      let b = and_parts (w.plan.area.at % 4 == 0) (nat_le 8 w.plan.area.len) a.0 in
      (leb-true 8 w.plan.area.len b.1, leb-true (w.plan.area.at + w.plan.area.len) (least_of (all_memories w.source) * page_size) a.1)

  abbrev begun : List Outcome → Opening → Ran Held Note
  begun os o = held_begun w.source.start (all_left w.plan os) o

  -- where it begins all code has its type
  begins_fitting : (os : List Outcome) → HeldFits w.source (begun os (opening w.source w.plan.globals)).last
  begins_fitting os =
      (begun_fits w.source set.valid w.plan set.exports (all_left w.plan os) (opening w.source w.plan.globals) w.source.start 0 set.entries
      (λ s o. openings_fit w.source w.plan.globals s set.valid set.globals o)
      (λ f o. (start_takes_none w.source f set.valid o, start_there w.source f w.source.start (valid_instance w.source set.valid).start o))).1

  module _ (was now : Actor) (made : List Note) (met : List Outcome) (gone : HasGone w set.answers can.1 was now) (first : was.due ≡ 0) (notes : was.notes ≡ made ++ now.notes)
      (outcomes : was.outcomes ≡ met ++ now.outcomes) (due : ℕ) (x : PausedParts) (memory : List ℕ) (h : IsPaused w made met now due x memory) where
    same_made : gone.made ≡ made
    same_made = append_cancel_right gone.made made now.notes (sym gone.notes ∙ notes)

    same_met : gone.met ≡ met
    same_met = append_cancel_right gone.met met now.outcomes (sym gone.outcomes ∙ outcomes)

    abbrev halt : Halt
    halt = halt_at w due x memory

    entry : (e : Entry) × (slice_get w.plan.entries x.entry ≡ Some e)
    entry = item w.plan.entries x.entry h.entry

    abbrev place : Held
    place = halted_in w.source w.plan halt [] (Some entry.0)

    cost_is : h.comes.cost ≡ x.steps_used
    cost_is =
        let steps = h.comes.steps in
        let none = ap used_from can.0 in
        omega (arith, steps, none)

    -- the way there from the start
    way : (behind : List Note) × (made ≡ (begun (met ++ []) (opening w.source w.plan.globals)).events ++ behind)
        × Leads (protocol w.source (exports_of w.source) w.plan) (begun (met ++ []) (opening w.source w.plan.globals)).last h.comes.cost behind place
    way =
        subst (λ (o : Option Entry). (behind : List Note) × (made ≡ (begun (met ++ []) (opening w.source w.plan.globals)).events ++ behind)
        × Leads (protocol w.source (exports_of w.source) w.plan) (begun (met ++ []) (opening w.source w.plan.globals)).last h.comes.cost behind (halted_in w.source w.plan halt [] o)) entry.1
        (subst (λ (o : Origin). (behind : List Note) × (made ≡ (begun_from w (met ++ []) o).events ++ behind)
        × Leads (protocol w.source (exports_of w.source) w.plan) (begun_from w (met ++ []) o).last h.comes.cost behind (halted w.source w.plan halt [])) can.0 (h.comes.way []))

    -- instantiation made a store
    opened_by : (o : Opening) → opening w.source w.plan.globals ≡ o
        → Leads (protocol w.source (exports_of w.source) w.plan) (begun (met ++ []) o).last h.comes.cost way.0 place → (s : Store) × (opening w.source w.plan.globals ≡ opens s)
    opened_by (opens s) e l = (s, e)
    opened_by (fails_as how) e l = let never = over_stays w.source w.plan _ h.comes.cost way.0 place l in cc

    opened : (s : Store) × (opening w.source w.plan.globals ≡ opens s)
    opened = opened_by (opening w.source w.plan.globals) refl way.2

    abbrev start : Store
    start = opened.0

    -- what holds there
    there : HeldFits w.source place × HeldSo w.source w.plan start.globals (met ++ []) (0 + h.comes.cost) (accounted made nothing_told) place
    there =
        let begins = begun (met ++ []) (opening w.source w.plan.globals) in
        let kept : (s : Store) → opening w.source w.plan.globals ≡ opens s → IsKept w.source start.globals s =
        λ s e. (let same : s ≡ start = (let both : opens s ≡ opens start = sym e ∙ opened.1 in cc) in subst (λ (z : Store). IsKept w.source start.globals z) (sym same) (opened_kept w.source w.plan.globals start set.valid opened.1)) in
        let on = leads_so w.source w.plan start.globals (met ++ []) area.0 area.1 set.valid set.exports 0 h.comes.cost (accounted begins.events nothing_told) begins.last place way.0
        (begins_fitting (met ++ [])) (begun_so w.source w.plan start.globals (met ++ []) w.source.start (opening w.source w.plan.globals) kept) way.2 in
        let told : accounted way.0 (accounted begins.events nothing_told) ≡ accounted made nothing_told =
        sym (accounted_on begins.events way.0 nothing_told) ∙ ap (λ (ns : List Note). accounted ns nothing_told) (sym way.1) in
        (on.0, subst (λ (z : Account). HeldSo w.source w.plan start.globals (met ++ []) (0 + h.comes.cost) z place) told on.1)

    abbrev a : Answer
    a = answer_in (slice_get w.answers (x.answers - 1))

    abbrev waits : IsWaiting w.source w.plan start.globals (met ++ []) (length memory) (0 + h.comes.cost) (accounted made nothing_told) x.import a a.ticks []
    waits = there.1.1

    ends_so : met ≡ waits.done ++ given a ∷ []
    ends_so = sym (append-nil met) ∙ waits.is

    -- the last line taken
    last : LastLine w (accounted gone.made nothing_told) now.answers a
    last = gone.served.last waits.done a (same_met ∙ ends_so)

    taken : suc (length last.before) ≡ x.answers
    taken =
        let all = ap length last.is ∙ length-append last.before (last.line ∷ now.answers) in
        let left = ap length h.answers ∙ length-drop x.answers w.answers in
        let few = h.taken in
        omega (arith, all, left, few)

    line_there : slice_get w.answers (x.answers - 1) ≡ Some last.line
    line_there =
        let place_is : x.answers - 1 ≡ length last.before = (let t = taken in omega (arith, t)) in
        ap (λ (ls : List AnswerLine). slice_get ls (x.answers - 1)) last.is ∙ ap (slice_get (last.before ++ last.line ∷ now.answers)) place_is ∙ got_behind last.before last.line now.answers

    import_is : last.call.import ≡ x.import
    import_is =
        let told : Some last.call ≡ Some (record { import = x.import; args = waits.args }) = sym last.told_is ∙ ap (λ (ns : List Note). (accounted ns nothing_told).last) same_made ∙ waits.last in
        ap (λ (c : Call). c.import) (same_Some last.call _ told)

    names : slice_get (import_names w.source) x.import ≡ Some last.line.import
    names =
        let many = names_many w.source.imports in
        let below : x.import < func_imports w.source = there.0.2.2 in
        let n = item (import_names w.source) x.import (omega (arith, many, below)) in
        let is : last.line.import ≡ n.0 =
        name_same last.line.import (name_at (import_names w.source) last.call.import) last.named ∙ ap (name_at (import_names w.source)) import_is ∙ ap (λ (o : Option (List ℕ)). unwrap_or o []) n.1 in
        n.1 ∙ ap (λ (bs : List ℕ). Some bs) (sym is)

    passes : fault_of (func_type_at w.source x.import).results (x.pages * page_size) w.plan false x.import last.line.answer ≡ None
    passes =
        sym (ap (λ (size : ℕ). fault_of (func_type_at w.source x.import).results size w.plan false x.import last.line.answer) h.pages)
        ∙ ap (λ (y : Answer). fault_of (func_type_at w.source x.import).results (length memory) w.plan false x.import y) last.answer ∙ waits.passes

    -- its parts suit it
    pub pause_suits : PauseSuits w x
    pause_suits =
        let kept : IsKept w.source start.globals halt.store = there.1.0 in
        let held = kept.memory.whole in
        let whole = h.pages in
        let least = kept.memory.fit.least in
        let most = kept.memory.fit.most in
        let pauses = waits.pauses in
        let ticks = ap (λ (y : Answer). y.ticks) last.answer in
        record {
          steps = h.within;
          entry = h.entry;
          globals = record { typed = there.0.0.globals; opened = start; is_opened = opened.1; constants = kept.constants };
          pages = record { least = omega (arith, held, whole, least); most = omega (arith, held, whole, most) };
          last = record { some = h.some_taken; line = last.line; there = line_there; pauses = omega (arith, pauses, ticks); names = names; passes = passes };
        }

    -- and it is due early
    pub due_early : due < 4611686018427387904
    due_early =
        let is = h.is_due in
        let by = gone.due in
        let same = ap (λ (ns : List Note). (accounted ns nothing_told).ticks) same_made in
        let told = waits.ticks in
        let sum = ticks_on waits.done (given a ∷ []) in
        let met_is = ap ticks_met (same_met ∙ ends_so) in
        let most = gone.served.ticks in
        let many = ap length (same_met ∙ ends_so) ∙ length-append waits.done (given a ∷ []) in
        let few = waits.few in
        let cost = cost_is in
        let within = h.within in
        let steps = set.few_steps in
        omega (arith, is, by, first, same, told, sum, met_is, most, many, few, cost, within, steps)

  -- ---- its record

  pub record_suits : (was now : Actor) (r : ProgramRecord) → StartsHeld w was → HasGone w set.answers can.1 was now → IsRecordOf w was now r → RecordSuits w r
  record_suits was now r starts gone is = by r is.stands
    where
      by : (z : ProgramRecord) → StandsSo w is.made is.met now z → RecordSuits w z
      by fresh h = tt
      by (paused due x memory) h =
          let first = starts.starts.due ∙ ap due_from can.0 in
          (due_early was now is.made is.met gone first is.notes is.outcomes due x memory h, pause_suits was now is.made is.met gone first is.notes is.outcomes due x memory h)
      by over h = tt

-- as many actors stand at each event
now_many : (programs : List Program) (detaches : List Detach) (number count : ℕ) (actors : List Actor) (ds : List Device) (lines : List Line) (now : List Actor) (ds' : List Device)
    → Played programs detaches number count actors ds lines now ds' → length now ≡ length actors
now_many programs detaches number zero actors ds lines now ds' h = ap length h.1
now_many programs detaches number (suc count) actors ds lines now ds' h =
    now_many programs detaches (suc number) count h.2 h.3 h.1 now ds' h.5 ∙ ap length h.4.after ∙ length-set actors h.4.i _

pub snapshots_suit : SnapshotsSuit
snapshots_suit begun programs detaches ds ds' number lines s set can few world is = record {
  events = subst (λ (n : ℕ). n < 4611686018427387904) (sym is.events) few;
  records = zipped RecordSuits programs s.programs is.count each;
}
  where
    each : (i : ℕ) (w : Program) (r : ProgramRecord) → slice_get programs i ≡ Some w → slice_get s.programs i ≡ Some r → RecordSuits w r
    each i w r ew er =
        let a = zip_at StartsHeld programs world.actors world.starts i w ew in
        let c = item world.now i (omega (arith, slice_get_within world.actors i a.0 a.1, now_many programs detaches (suc begun) world.count world.actors ds lines world.now ds' world.played)) in
        let is_set = all_at IsSetUp programs i w set ew in
        let is_can = all_at CanBeSaved programs i w can ew in
        let gone = played_gone w is_set.answers is_can.1 programs detaches (suc begun) world.count world.actors ds lines world.now ds' world.played i a.0 a.0 c.0 ew a.1 c.1
        (not_gone w is_set.answers is_can.1 a.0 (a.2.starts.answers ∙ ap (answers_from w.answers) is_can.0)) in
        record_suits w is_set is_can a.0 c.0 r a.2 gone (is.each i w a.0 c.0 r ew a.1 c.1 er)
