use Rattle.std.proofs.Common.{◌<◌, ◌∷◌, ℕ, drop, subst, sym, length, arith}
use Rattle.wa_types.specs.Begun.{Inside}
use Rattle.wasm_grammar.specs.Goals.{goal_of}
use Rattle.wasm_grammar.specs.Machine.{StopsAt, IsPartOf}
use Rattle.wasm_grammar.proofs.Faults.{ready, on_from, reached_at, stop_at, end_room, ended_there, stop_there, fault_end, fault_wrong, fault_step, goes_on, goes_far, stop_last, waits_there, on_true, on_false}
use Rattle.wasm_grammar.proofs.PieceEnds.{fault_none}
use Rattle.wasm_grammar.proofs.machine.Machine.advance.Goals as goal

pub returns-in_default-clause-err : goal.returns-in_default-clause-err
returns-in_default-clause-err c = fault_none c.args.bytes.now.all c.args.self.now.at c.args.self.now.goals c.requires.stands c.in_default.ensures.none
    (let h = c.requires.stands.within in let n = c.if-self-last.false in let e = c.len-last.ensures.len in omega (arith, h, n, e))

pub item_between-requires-clause-start : goal.item_between-requires-clause-start
item_between-requires-clause-start c =
    let s = on_from c.args.bytes.now.all c.args.self.now.at c.skip-self.result c.unwrap_or-stop.result c.args.self.now.goals (drop 1 c.args.self.now.goals)
    (goal_of c.in-Some.goal) c.end_within-end.result c.requires.stands c.in-Some.ensures.some
    (reached_at c.args.self.now.goals c.end_within-end.result c.len-last.ensures.len c.end_within-end.ensures)
    (stop_at c.end_within-end.result c.len-last.ensures.len c.unwrap_or-stop.ensures)
    (c.skip-self.ensures.on c.args.bounds.now c.args.self.now.marks c.args.bytes.now.all (drop 1 c.args.self.now.goals)) in
    let y = ready c.args.bytes.now.all c.skip-self.result c.unwrap_or-stop.result c.args.self.now.goals (drop 1 c.args.self.now.goals)
    (goal_of c.in-Some.goal) c.end_within-end.result s c.in-Some.ensures.some (reached_at c.args.self.now.goals c.end_within-end.result c.len-last.ensures.len c.end_within-end.ensures)
    (stop_at c.end_within-end.result c.len-last.ensures.len c.unwrap_or-stop.ensures) in
    y.room

pub returns-in-Wrong-clause-err : goal.returns-in-Wrong-clause-err
returns-in-Wrong-clause-err c =
    let s = on_from c.args.bytes.now.all c.args.self.now.at c.skip-self.result c.unwrap_or-stop.result c.args.self.now.goals (drop 1 c.args.self.now.goals)
    (goal_of c.in-Some.goal) c.end_within-end.result c.requires.stands c.in-Some.ensures.some
    (reached_at c.args.self.now.goals c.end_within-end.result c.len-last.ensures.len c.end_within-end.ensures)
    (stop_at c.end_within-end.result c.len-last.ensures.len c.unwrap_or-stop.ensures)
    (c.skip-self.ensures.on c.args.bounds.now c.args.self.now.marks c.args.bytes.now.all (drop 1 c.args.self.now.goals)) in
    let y = ready c.args.bytes.now.all c.skip-self.result c.unwrap_or-stop.result c.args.self.now.goals (drop 1 c.args.self.now.goals)
    (goal_of c.in-Some.goal) c.end_within-end.result s c.in-Some.ensures.some (reached_at c.args.self.now.goals c.end_within-end.result c.len-last.ensures.len c.end_within-end.ensures)
    (stop_at c.end_within-end.result c.len-last.ensures.len c.unwrap_or-stop.ensures) in
    fault_wrong c.args.bytes.now.all c.skip-self.result c.unwrap_or-stop.result (goal_of c.in-Some.goal) (drop 1 c.args.self.now.goals) y c.in-Wrong.used c.in-Wrong.ensures

pub returns-in-Some-end-clause-err : goal.returns-in-Some-end-clause-err
returns-in-Some-end-clause-err c =
    let s = on_from c.args.bytes.now.all c.args.self.now.at c.skip-self.result c.unwrap_or-stop.result c.args.self.now.goals (drop 1 c.args.self.now.goals)
    (goal_of c.in-Some.goal) c.end_within-end.result c.requires.stands c.in-Some.ensures.some
    (reached_at c.args.self.now.goals c.end_within-end.result c.len-last.ensures.len c.end_within-end.ensures)
    (stop_at c.end_within-end.result c.len-last.ensures.len c.unwrap_or-stop.ensures)
    (c.skip-self.ensures.on c.args.bounds.now c.args.self.now.marks c.args.bytes.now.all (drop 1 c.args.self.now.goals)) in
    let y = ready c.args.bytes.now.all c.skip-self.result c.unwrap_or-stop.result c.args.self.now.goals (drop 1 c.args.self.now.goals)
    (goal_of c.in-Some.goal) c.end_within-end.result s c.in-Some.ensures.some (reached_at c.args.self.now.goals c.end_within-end.result c.len-last.ensures.len c.end_within-end.ensures)
    (stop_at c.end_within-end.result c.len-last.ensures.len c.unwrap_or-stop.ensures) in
    let there = stop_there c.end_within-end.result c.unwrap_or-stop.result (length c.args.bytes.now.all) c.in-Some-end.at c.in-Some-end.is
    (stop_at c.end_within-end.result c.len-last.ensures.len c.unwrap_or-stop.ensures) in
    let room : c.skip-self.result < c.unwrap_or-stop.result =
    omega (
      arith,
      there,
      end_room c.args.bytes.now.all c.skip-self.result (length c.args.bytes.now.all) c.in-Some-end.at c.args.self.now.goals c.end_within-end.result s c.in-Some-end.is
          (reached_at c.args.self.now.goals c.end_within-end.result c.len-last.ensures.len c.end_within-end.ensures),
    ) in
    subst (StopsAt c.args.bytes.now.all) there
    (fault_end c.args.bytes.now.all c.skip-self.result c.unwrap_or-stop.result (goal_of c.in-Some.goal) (drop 1 c.args.self.now.goals) y room c.in-Part.ensures
    (λ i. ended_there c.args.self.now.goals _ (length c.args.bytes.now.all) c.in-Some-end.at c.end_within-end.result c.in-Some.ensures.some c.in-Some-end.is
    (reached_at c.args.self.now.goals c.end_within-end.result c.len-last.ensures.len c.end_within-end.ensures)
    (let P : ℕ → Type 0 = λ n. Inside n (goal_of c.in-Some.goal ∷ drop 1 c.args.self.now.goals) in subst P there i)))

pub returns-then-not-branch-clause-err : goal.returns-then-not-branch-clause-err
returns-then-not-branch-clause-err c =
    let s = on_from c.args.bytes.now.all c.args.self.now.at c.skip-self.result c.unwrap_or-stop.result c.args.self.now.goals (drop 1 c.args.self.now.goals)
    (goal_of c.in-Some.goal) c.end_within-end.result c.requires.stands c.in-Some.ensures.some
    (reached_at c.args.self.now.goals c.end_within-end.result c.len-last.ensures.len c.end_within-end.ensures)
    (stop_at c.end_within-end.result c.len-last.ensures.len c.unwrap_or-stop.ensures)
    (c.skip-self.ensures.on c.args.bounds.now c.args.self.now.marks c.args.bytes.now.all (drop 1 c.args.self.now.goals)) in
    let y = ready c.args.bytes.now.all c.skip-self.result c.unwrap_or-stop.result c.args.self.now.goals (drop 1 c.args.self.now.goals)
    (goal_of c.in-Some.goal) c.end_within-end.result s c.in-Some.ensures.some (reached_at c.args.self.now.goals c.end_within-end.result c.len-last.ensures.len c.end_within-end.ensures)
    (stop_at c.end_within-end.result c.len-last.ensures.len c.unwrap_or-stop.ensures) in
    fault_step c.args.bytes.now.all c.skip-self.result c.unwrap_or-stop.result (goal_of c.in-Some.goal) (drop 1 c.args.self.now.goals) y c.in-Whole.value c.in-Whole.used c.in-Whole.ensures
    (on_false _ _ _ c.if-not-branch.true c.in_ok-step-in-Whole.ensures)

pub returns-else-not-branch-clause-on : goal.returns-else-not-branch-clause-on
returns-else-not-branch-clause-on c =
    let s = on_from c.args.bytes.now.all c.args.self.now.at c.skip-self.result c.unwrap_or-stop.result c.args.self.now.goals (drop 1 c.args.self.now.goals)
    (goal_of c.in-Some.goal) c.end_within-end.result c.requires.stands c.in-Some.ensures.some
    (reached_at c.args.self.now.goals c.end_within-end.result c.len-last.ensures.len c.end_within-end.ensures)
    (stop_at c.end_within-end.result c.len-last.ensures.len c.unwrap_or-stop.ensures)
    (c.skip-self.ensures.on c.args.bounds.now c.args.self.now.marks c.args.bytes.now.all (drop 1 c.args.self.now.goals)) in
    let y = ready c.args.bytes.now.all c.skip-self.result c.unwrap_or-stop.result c.args.self.now.goals (drop 1 c.args.self.now.goals)
    (goal_of c.in-Some.goal) c.end_within-end.result s c.in-Some.ensures.some (reached_at c.args.self.now.goals c.end_within-end.result c.len-last.ensures.len c.end_within-end.ensures)
    (stop_at c.end_within-end.result c.len-last.ensures.len c.unwrap_or-stop.ensures) in
    goes_on c.args.bytes.now.all c.skip-self.result c.unwrap_or-stop.result (goal_of c.in-Some.goal)
    (drop 1 c.args.self.now.goals) y c.note.new.marks c.in-Whole.value c.in-Whole.used c.step.new.self c.in-Whole.ensures c.note.ensures
    (on_true _ _ _ c.if-not-branch.false c.in_ok-step-in-Whole.ensures)

pub returns-in-None-clause-on : goal.returns-in-None-clause-on
returns-in-None-clause-on c =
    let s = on_from c.args.bytes.now.all c.args.self.now.at c.skip-self.result c.unwrap_or-stop.result c.args.self.now.goals (drop 1 c.args.self.now.goals)
    (goal_of c.in-Some.goal) c.end_within-end.result c.requires.stands c.in-Some.ensures.some
    (reached_at c.args.self.now.goals c.end_within-end.result c.len-last.ensures.len c.end_within-end.ensures)
    (stop_at c.end_within-end.result c.len-last.ensures.len c.unwrap_or-stop.ensures)
    (c.skip-self.ensures.on c.args.bounds.now c.args.self.now.marks c.args.bytes.now.all (drop 1 c.args.self.now.goals)) in
    let y = ready c.args.bytes.now.all c.skip-self.result c.unwrap_or-stop.result c.args.self.now.goals (drop 1 c.args.self.now.goals)
    (goal_of c.in-Some.goal) c.end_within-end.result s c.in-Some.ensures.some (reached_at c.args.self.now.goals c.end_within-end.result c.len-last.ensures.len c.end_within-end.ensures)
    (stop_at c.end_within-end.result c.len-last.ensures.len c.unwrap_or-stop.ensures) in
    let stop = stop_last c.end_within-end.result c.unwrap_or-stop.result (length c.args.bytes.now.all) c.in-None.is (stop_at c.end_within-end.result c.len-last.ensures.len c.unwrap_or-stop.ensures) in
    let left = waits_there c.args.bytes.now.all c.skip-self.result c.unwrap_or-stop.result (goal_of c.in-Some.goal) (drop 1 c.args.self.now.goals) y stop
    (let r = y.room in let f = y.fits in omega (arith, r, f)) c.in-Part.ensures in
    record {
      stands = s;
      inside = c.in-None.ensures (length c.args.bytes.now.all) (let e = c.len-last.ensures.len in omega (arith, e));
      left = subst (λ z. IsPartOf z (drop c.skip-self.result c.args.bytes.now.all)) (sym c.in-Some.ensures.some) left;
    }

pub returns-else-not-branch-clause-more : goal.returns-else-not-branch-clause-more
returns-else-not-branch-clause-more c =
    let s = on_from c.args.bytes.now.all c.args.self.now.at c.skip-self.result c.unwrap_or-stop.result c.args.self.now.goals (drop 1 c.args.self.now.goals)
    (goal_of c.in-Some.goal) c.end_within-end.result c.requires.stands c.in-Some.ensures.some
    (reached_at c.args.self.now.goals c.end_within-end.result c.len-last.ensures.len c.end_within-end.ensures)
    (stop_at c.end_within-end.result c.len-last.ensures.len c.unwrap_or-stop.ensures)
    (c.skip-self.ensures.on c.args.bounds.now c.args.self.now.marks c.args.bytes.now.all (drop 1 c.args.self.now.goals)) in
    let y = ready c.args.bytes.now.all c.skip-self.result c.unwrap_or-stop.result c.args.self.now.goals (drop 1 c.args.self.now.goals)
    (goal_of c.in-Some.goal) c.end_within-end.result s c.in-Some.ensures.some (reached_at c.args.self.now.goals c.end_within-end.result c.len-last.ensures.len c.end_within-end.ensures)
    (stop_at c.end_within-end.result c.len-last.ensures.len c.unwrap_or-stop.ensures) in
    let t =
    goes_on c.args.bytes.now.all c.skip-self.result c.unwrap_or-stop.result (goal_of c.in-Some.goal)
    (drop 1 c.args.self.now.goals) y c.note.new.marks c.in-Whole.value c.in-Whole.used c.step.new.self c.in-Whole.ensures c.note.ensures
    (on_true _ _ _ c.if-not-branch.false c.in_ok-step-in-Whole.ensures) in
    let ahead = c.skip-self.ensures.ahead in
    let far = goes_far c.args.bytes.now.all c.skip-self.result c.unwrap_or-stop.result (goal_of c.in-Some.goal) (drop 1 c.args.self.now.goals) y c.in-Whole.value c.in-Whole.used c.in-Whole.ensures in
    (omega (arith, ahead, far), t.within)
