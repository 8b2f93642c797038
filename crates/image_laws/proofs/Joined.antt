-- One emitted module comes to a pause, and another one goes on from its store; and what both may cost together.
use Rattle.std.proofs.Common.{List, [], ap, arith, length, map, refl, subst, suc, sym, ℕ, ◌+◌, ◌++◌, ◌∙◌, ◌∷◌, ◌≡◌, Option, Some, None}
use Rattle.wa_types.specs.Base.{Base}
use Rattle.wa_types.specs.Bounds.{Bound}
use Rattle.wa_types.specs.Modules.{all_globals, func_sorts, imported, imported_func}
use Rattle.wa_types.specs.Syntax.{done, Func, Module}
use Rattle.run_theory.proofs.Runs.{leads_run, one_move}
use Rattle.wa_model.specs.declared.answers.Said.{Said}
use Rattle.wa_model.specs.declared.answers.Said.TheVariants as S
use Rattle.wa_model.specs.Behaves.{pause_stacks}
use Rattle.wa_model.specs.Blocking.{Blocking, Left, Note, State, all_left, an_entry, asked, begun, blocking, by_step, call_note, done_notes, go_on, inside, poked, runs, tested}
use Rattle.run_theory.specs.Fitting.{StoreFits, global_types}
use Rattle.run_theory.specs.Growth.{Each, EntryNamed}
use Rattle.wa_model.specs.Instantiation.{Opening, fails_as, opening, opens}
use Rattle.run_theory.specs.DeterminedRuns.{start_of}
use Rattle.wa_model.specs.Machine.{Ran, goes, run}
use Rattle.wa_model.specs.Plan.{Entry}
use Rattle.wa_model.specs.Store.{Store}
use Rattle.emitted_form.proofs.CodeAlone.{code_alone}
use Rattle.emitted_form.specs.PolicyLaws.{without_code}
use Rattle.image_laws.specs.Image.{HoldsPause, answer_there, goes_on_there, left_there, rest_of_cost, stack_there}
use Rattle.image_laws.specs.HeldPauses.{OneSavesAnotherGoesOn, WholeBound}
use Rattle.image_laws.proofs.Apart.{bounds_join}
use Rattle.image_laws.proofs.Emitted.{image_goes_on, pauses_hold}
use Rattle.image_laws.proofs.Reached.{stacks_on}
use Rattle.headline.specs.Told.{answer_notes}
use Rattle.headline.proofs.Pauses.{told_moves}

-- ---- a store that fits one fits the other

sorts_alone : (fs : List Func) → map (λ (f : Func). f.sort) (map (λ (f : Func). record f { body = done }) fs) ≡ map (λ (f : Func). f.sort) fs
sorts_alone [] = refl
sorts_alone (f ∷ fs) = ap (λ ks. f.sort ∷ ks) (sorts_alone fs)

same_sorts : (p q : Module) → without_code p ≡ without_code q → func_sorts p ≡ func_sorts q
same_sorts p q e =
    ap (λ ks. imported imported_func p ++ ks) (sym (sorts_alone p.funcs)) ∙ ap func_sorts e ∙ ap (λ ks. imported imported_func q ++ ks) (sorts_alone q.funcs)

fits_other : (p q : Module) (t : Store) → without_code p ≡ without_code q → StoreFits p t → StoreFits q t
fits_other p q t e h = record {
  globals = h.globals ∙ ap (λ (z : Module). global_types (all_globals z)) e;
  table = subst (λ ss. Each (EntryNamed (length ss)) t.table) (same_sorts p q e) h.table;
}

pub one_saves_another_goes_on : OneSavesAnotherGoesOn
one_saves_another_goes_on m s which p q plan os n run ep eq x pause =
    let z = pauses_hold m s which p plan os n run ep x pause in
    let h = z.holds in
    let hq : HoldsPause m q s which plan x.waits z.store =
    record { fits = fits_other p q z.store (code_alone m s which p q ep eq) h.fits; ranges = h.ranges; state = h.state; same = h.same; table = h.table; image = h.image } in
    (z, image_goes_on m s which q plan os n run eq x pause z.store hq)

-- ---- the bound of the whole

done_none : (s : Store) (es : List Entry) → pause_stacks (done_notes s es) ≡ []
done_none s [] = refl
done_none s (e ∷ es) = refl

begun_none : (start : Option ℕ) (l : Left) (o : Opening) → pause_stacks (begun start l o).events ≡ []
begun_none start l (fails_as e) = refl
begun_none None l (opens s) = done_none s l.entries
begun_none (Some x) l (opens s) = refl

told_none : (said : Said) (s : Store) → pause_stacks (answer_notes said s) ≡ []
told_none (S.Value v) s = refl
told_none S.Trap s = refl

pub whole_bound : WholeBound
whole_bound m s plan os n x pause =
    let at = pause.there in
    let le = pause.within in
    let a0 : State = (start_of m plan os).last in
    let stands : State = runs (an_entry x.entry) x.calls x.left in
    let left : ℕ = rest_of_cost n x in
    let rest : List Note = (run (blocking (Base m) plan) (rest_of_cost n x) (goes_on_there x)).events in
    let x1 : Note = call_note x.import x.args x.waits.store (stack_there m x) (Some x.ticks) in
    let x3 : List Note = answer_there x in
    let mv : blocking (Base m) plan stands ≡ goes x.own_cost (x1 ∷ x3) (goes_on_there x) =
    ap (by_step (Base m) plan (an_entry x.entry) x.left) at.asks_there ∙ ap (asked (Base m) plan x.own_cost x.import x.args (inside (an_entry x.entry) x.waits) x.left) at.outcome
    ∙ ap (tested (Base m) x.own_cost x.import x.args (inside (an_entry x.entry) x.waits) (left_there x) x.answer) at.passes
    ∙ ap (λ z. go_on x.own_cost (call_note x.import x.args x.waits.store (stack_there m x) z) x.answer.said (poked x.waits.store x.answer.pokes) (left_there x) (inside (an_entry x.entry) x.waits)) at.pauses
    ∙ told_moves x.own_cost x1 x.answer.said (poked x.waits.store x.answer.pokes) (left_there x) x.entry x.waits in
    let z : n ≡ x.cost + suc (x.own_cost + left) = omega arith in
    let r : (run (blocking (Base m) plan) n a0).events ≡ x.notes ++ (x1 ∷ (x3 ++ rest)) =
    ap (λ i. (run (blocking (Base m) plan) i a0).events) z
    ∙ ap (λ (q : Ran State Note). q.events) (leads_run State Note (blocking (Base m) plan) a0 stands x.cost (suc (x.own_cost + left)) x.notes at.leads)
    ∙ ap (λ (q : Ran State Note). x.notes ++ q.events) (one_move State Note (blocking (Base m) plan) x.own_cost left (x1 ∷ x3) stands (goes_on_there x) mv) in
    let all : pause_stacks (Blocking m plan os n).events ≡ pause_stacks x.notes ++ stack_there m x ∷ pause_stacks rest =
    stacks_on (start_of m plan os).events (run (blocking (Base m) plan) n a0).events
    ∙ ap (λ zs. zs ++ pause_stacks (run (blocking (Base m) plan) n a0).events) (begun_none (Base m).start (all_left plan os) (opening (Base m) plan.globals))
    ∙ ap pause_stacks r ∙ stacks_on x.notes (x1 ∷ (x3 ++ rest))
    ∙ ap (λ zs. pause_stacks x.notes ++ stack_there m x ∷ zs)
    (stacks_on x3 rest ∙ ap (λ zs. zs ++ pause_stacks rest) (told_none x.answer.said (poked x.waits.store x.answer.pokes))) in
    let y : x.cost + x.own_cost + 1 + left ≡ n = omega arith in
    bounds_join m (x.cost + x.own_cost) left (stack_there m x) (pause_stacks x.notes) (pause_stacks rest)
    ∙ ap (λ i. Bound m i (pause_stacks x.notes ++ stack_there m x ∷ pause_stacks rest)) y ∙ ap (Bound m n) (sym all)
