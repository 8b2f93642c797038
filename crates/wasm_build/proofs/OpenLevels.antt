-- Code that is read instruction by instruction, with the constructs that are open on a stack.
use Rattle.std.proofs.Common.{◌≡◌, ℕ, length, arith, OnOk, IfOk, List, [], ◌∷◌, ◌++◌, reverse, Bool, true, false, Option, Result, Ok, Err, refl, ap, sym, ◌∙◌, subst}
use Rattle.std.specs.Result.{IfErr}
use Rattle.std.proofs.lemmas.List.{reverse-append}
use Rattle.std.specs.declared.vec.Vec.{Vec}
use Rattle.std.specs.declared.alloc.Global.{Global}
use Rattle.wa_types.specs.declared.values.ValType.{ValType}
use Rattle.wa_types.specs.declared.instrs.Instr.{Instr}
use Rattle.wa_types.specs.Syntax.{a_block, a_loop, Code, done, nest, branch}
use Rattle.wa_types.specs.View.{code, onto}
use Rattle.wa_types.proofs.ViewLemmas.{onto_append, onto_done, onto_none}
use Rattle.wasm_build.specs.declared.build_types.BuildFault.{BuildFault}
use Rattle.wasm_build.specs.declared.build_types.BuildFault.TheVariants.{Memory, NotSpelled}
use Rattle.wasm_build.specs.declared.levels.Opened.{Opened}
use Rattle.wasm_build.specs.declared.levels.Opened.TheVariants.{Block, Loop, Then, Else}
use Rattle.wasm_build.specs.declared.levels.Level.{Level}
use Rattle.wasm_grammar.specs.Places.{Place, with_more}
use Rattle.wasm_build.specs.Builds.{Between, Builds}
use Rattle.wasm_build.specs.BuildsPlain.{Puts}
use Rattle.wasm_build.specs.BuildsCode.{CodeItem, an_instr, open_block, open_loop, open_if, an_else, an_end, SpelledCode, SpelledExpression, BuildsNext}
use Rattle.wasm_build.specs.BuildsLevels.{Inside, Ahead, Running, Turned, Turns, closed, IsTurned, IsLost}
use Rattle.wasm_build.proofs.Betweens.{fails}
use Rattle.wasm_build.proofs.CodeParts.{whole_is, ByteRead, IsOther, plain_stop, next_plain}
use Rattle.wasm_build.proofs.Steps.{never}

-- the rest of the innermost sequence, which may be exchanged
pub record Focus (A : (Code → Code) → Place → Type 0) (f : Code → Code) (here : Place) : Type 0 where
  pub first_arm : Bool
  pub rest : Code
  pub else_arm : Code
  pub middle : Place
  pub spelled : Between (SpelledCode first_arm rest else_arm) here middle
  pub back : (g : Code → Code) (more : Code) (new : Place) → g more ≡ f rest → Between (SpelledCode first_arm more else_arm) new middle → A g new

focus_in : (o : Opened) (ty : Option ValType) (before : List Instr) (Outside : (Code → Code) → Place → Type 0) (f : Code → Code) (here : Place) → Inside o ty before Outside f here
    → Focus (Inside o ty before Outside) f here
focus_in Then ty before Outside f here a = record {
  first_arm = true;
  rest = a.0;
  else_arm = a.1;
  middle = a.2;
  spelled = a.3;
  back = λ g more new e b. (more, a.1, a.2, b, subst (λ z. Outside (λ k. onto before (branch ty z a.1 k)) a.2) (sym e) a.4);
}
focus_in Block ty before Outside f here a = record {
  first_arm = false;
  rest = a.0;
  else_arm = done;
  middle = a.1;
  spelled = a.2;
  back = λ g more new e b. (more, a.1, b, subst (λ z. Outside (λ k. onto before (nest a_block ty z k)) a.1) (sym e) a.3);
}
focus_in Loop ty before Outside f here a = record {
  first_arm = false;
  rest = a.0;
  else_arm = done;
  middle = a.1;
  spelled = a.2;
  back = λ g more new e b. (more, a.1, b, subst (λ z. Outside (λ k. onto before (nest a_loop ty z k)) a.1) (sym e) a.3);
}
focus_in (Else arm) ty before Outside f here a = record {
  first_arm = false;
  rest = a.0;
  else_arm = done;
  middle = a.1;
  spelled = a.2;
  back = λ g more new e b. (more, a.1, b, subst (λ z. Outside (λ k. onto before (branch ty (code arm.items) z k)) a.1) (sym e) a.3);
}

focus : (ls : List Level) (c : Code) (end : Place) (f : Code → Code) (here : Place) → Ahead ls c end f here → Focus (Ahead ls c end) f here
focus [] c end f here a = record { first_arm = false; rest = a.0; else_arm = done; middle = end; spelled = a.2; back = λ g more new e b. (more, e ∙ a.1, b) }
focus (l ∷ ls) c end f here a = focus_in l.opened l.ty l.before.items (Ahead ls c end) f here a

pub run_start : (old : Place) (levels : List Level) (got : List Instr) → levels ≡ [] → got ≡ [] → Running old levels got old
run_start old levels got e f = record {
  going = λ tail c end b. subst (λ z. Ahead (reverse z) c end (onto got) (with_more old tail)) (sym e) (c, ap (λ z. onto z c) f ∙ onto_none c, b);
}

pub run_instr : (old here new : Place) (levels : List Level) (got more : List Instr) (i : Instr) → Running old levels got here → BuildsNext (Ok (an_instr i)) here new → more ≡ got ++ i ∷ []
    → Running old levels more new
run_instr old here new levels got more i r n e = record {
  going = λ tail c end b.
      let f = focus (reverse levels) c end (onto got) (with_more here tail) (r.going tail c end b) in
      let g = n.built tail f.first_arm f.rest f.else_arm f.middle f.spelled in
      f.back (onto more) g.0 (with_more new tail) (ap (λ s. onto s g.0) e ∙ onto_append got i g.0 ∙ ap (onto got) (sym g.1)) g.2;
}

-- a construct is opened
deeper : (levels new_levels : List Level) (l : Level) (c : Code) (end : Place) (got : List Instr) (here : Place) → new_levels ≡ levels ++ l ∷ [] → got ≡ []
    → Ahead (l ∷ reverse levels) c end (onto []) here → Ahead (reverse new_levels) c end (onto got) here
deeper levels new_levels l c end got here e f a =
    subst (λ z. Ahead z c end (onto got) here) (sym (ap reverse e ∙ reverse-append levels (l ∷ []))) (subst (λ z. Ahead (l ∷ reverse levels) c end (onto z) here) (sym f) a)

module _ (old here new : Place) (levels new_levels : List Level) (body : Vec Instr Global) (got : List Instr) (ty : Option ValType) (r : Running old levels body.items here) (none : got ≡ []) where
  pub run_block : BuildsNext (Ok (open_block ty)) here new → new_levels ≡ levels ++ (record { before = body; ty = ty; opened = Block }) ∷ [] → Running old new_levels got new
  run_block n e = record {
    going = λ tail c end b.
        let f = focus (reverse levels) c end (onto body.items) (with_more here tail) (r.going tail c end b) in
        let g = n.built tail f.first_arm f.rest f.else_arm f.middle f.spelled in
        let back = f.back (λ more. onto body.items (nest a_block ty (onto [] g.0) more)) g.1 g.2 (ap (λ z. onto body.items (nest a_block ty z g.1)) (onto_none g.0)
        ∙ ap (onto body.items) (sym g.3)) g.5 in
        deeper levels new_levels (record { before = body; ty = ty; opened = Block }) c end got (with_more new tail) e none (g.0, g.2, g.4, back);
  }

  pub run_loop : BuildsNext (Ok (open_loop ty)) here new → new_levels ≡ levels ++ (record { before = body; ty = ty; opened = Loop }) ∷ [] → Running old new_levels got new
  run_loop n e = record {
    going = λ tail c end b.
        let f = focus (reverse levels) c end (onto body.items) (with_more here tail) (r.going tail c end b) in
        let g = n.built tail f.first_arm f.rest f.else_arm f.middle f.spelled in
        let back = f.back (λ more. onto body.items (nest a_loop ty (onto [] g.0) more)) g.1 g.2 (ap (λ z. onto body.items (nest a_loop ty z g.1)) (onto_none g.0)
        ∙ ap (onto body.items) (sym g.3)) g.5 in
        deeper levels new_levels (record { before = body; ty = ty; opened = Loop }) c end got (with_more new tail) e none (g.0, g.2, g.4, back);
  }

  pub run_if : BuildsNext (Ok (open_if ty)) here new → new_levels ≡ levels ++ (record { before = body; ty = ty; opened = Then }) ∷ [] → Running old new_levels got new
  run_if n e = record {
    going = λ tail c end b.
        let f = focus (reverse levels) c end (onto body.items) (with_more here tail) (r.going tail c end b) in
        let g = n.built tail f.first_arm f.rest f.else_arm f.middle f.spelled in
        let back = f.back (λ more. onto body.items (branch ty (onto [] g.0) g.1 more)) g.2 g.3 (ap (λ z. onto body.items (branch ty z g.1 g.2)) (onto_none g.0) ∙ ap (onto body.items) (sym g.4)) g.6 in
        deeper levels new_levels (record { before = body; ty = ty; opened = Then }) c end got (with_more new tail) e none (g.0, g.1, g.3, g.5, back);
  }

-- the innermost construct is the last of the stack
shown_last : (levels low : List Level) (l : Level) (c : Code) (end : Place) (f : Code → Code) (here : Place) → levels ≡ low ++ l ∷ [] → Ahead (reverse levels) c end f here
    → Inside l.opened l.ty l.before.items (Ahead (reverse low) c end) f here
shown_last levels low l c end f here e a = subst (λ z. Ahead z c end f here) (ap reverse e ∙ reverse-append low (l ∷ [])) a

-- an else
turned_in : (ty : Option ValType) (before : List Instr) (Outside : (Code → Code) → Place → Type 0) (body : Vec Instr Global) (here new : Place) (tail : List ℕ) → BuildsNext (Ok an_else) here new
    → Inside Then ty before Outside (onto body.items) (with_more here tail) → Inside (Else body) ty before Outside (onto []) (with_more new tail)
turned_in ty before Outside body here new tail n a =
    let g = n.built tail true a.0 a.1 a.2 a.3 in
    let p : onto body.items a.0 ≡ code body.items = ap (onto body.items) g.0 ∙ onto_done body.items in (
      a.1,
      a.2,
      g.2,
      subst (λ z. Outside (λ more. onto before (branch ty (code body.items) z more)) a.2) (sym (onto_none a.1))
          (subst (λ z. Outside (λ more. onto before (branch ty z a.1 more)) a.2) p a.4),
    )

pub run_else : (old here new : Place) (levels low new_levels : List Level) (l : Level) (body : Vec Instr Global) (got : List Instr) → Running old levels body.items here
    → BuildsNext (Ok an_else) here new → levels ≡ low ++ l ∷ [] → IsTurned l low body new_levels → got ≡ [] → Running old new_levels got new
run_else old here new levels low new_levels l body got r n e t none = record {
  going = λ tail c end b.
      let a = shown_last levels low l c end (onto body.items) (with_more here tail) e (r.going tail c end b) in
      let k = subst (λ o. Inside o l.ty l.before.items (Ahead (reverse low) c end) (onto body.items) (with_more here tail)) t.first a in
      deeper low new_levels (record l { opened = Else body }) c end got (with_more new tail) t.turned none (turned_in l.ty l.before.items (Ahead (reverse low) c end) body here new tail n k);
}

no_arm : false ≡ true → ⊥
no_arm e = cc

else_in : (o : Opened) (ty : Option ValType) (before : List Instr) (Outside : (Code → Code) → Place → Type 0) (f : Code → Code) (here new : Place) (tail : List ℕ) → (o ≡ Then → ⊥)
    → BuildsNext (Ok an_else) here new → Inside o ty before Outside f (with_more here tail) → ⊥
else_in Then ty before Outside f here new tail none n a = none refl
else_in Block ty before Outside f here new tail none n a = no_arm (n.built tail false a.0 done a.1 a.2).1
else_in Loop ty before Outside f here new tail none n a = no_arm (n.built tail false a.0 done a.1 a.2).1
else_in (Else arm) ty before Outside f here new tail none n a = no_arm (n.built tail false a.0 done a.1 a.2).1

pub else_alone : {old here new last : Place} {levels : List Level} {got : List Instr} {d : BuildFault} → Running old levels got here → levels ≡ []
    → BuildsNext (Ok an_else) here new → Builds (λ (v : Vec Instr Global). code v.items) SpelledExpression (Err d) old last
else_alone {here = here} {got = got} r e n = never refl (λ tail c end b none.
    let a = subst (λ z. Ahead (reverse z) c end (onto got) (with_more here tail)) e (r.going tail c end b) in
    no_arm (n.built tail false a.0 done end a.2).1)

-- want of memory
pub memory_stop : {old last : Place} {d y : BuildFault} {q : Result (Vec Instr Global) BuildFault} → q ≡ Err y → y ≡ d → d ≡ Memory
    → Builds (λ (v : Vec Instr Global). code v.items) SpelledExpression q old last
memory_stop e f g = record { built = λ tail c end b. fails (λ (v : Vec Instr Global). code v.items) tail _ c _ end _ _ e f (λ none. g) }

-- an else that isn't taken
pub turn_stop : {old here new last : Place} {levels : List Level} {got : List Instr} {y : BuildFault} {q : Result (Vec Instr Global) BuildFault} (low : List Level) (l : Level)
    (d : BuildFault) → Running old levels got here → BuildsNext (Ok an_else) here new → levels ≡ low ++ l ∷ [] → IsLost l d → q ≡ Err y → y ≡ d
    → Builds (λ (v : Vec Instr Global). code v.items) SpelledExpression q old last
turn_stop low l Memory r n e h f g = memory_stop f g refl
turn_stop {here = here} {new = new} {levels = levels} {got = got} low l NotSpelled r n e h f g = never f (λ tail c end b none.
    else_in l.opened l.ty l.before.items (Ahead (reverse low) c end) (onto got) here new tail h n (shown_last levels low l c end (onto got) (with_more here tail) e (r.going tail c end b)))

pub next_stop : {old here new last : Place} {levels : List Level} {got : List Instr} {d y : BuildFault} {q : Result (Vec Instr Global) BuildFault} → Running old levels got here
    → BuildsNext (Err d) here new → q ≡ Err y → y ≡ d → Builds (λ (v : Vec Instr Global). code v.items) SpelledExpression q old last
next_stop {here = here} {levels = levels} {got = got} r n e f = record {
  built = λ tail c end b.
      let k = focus (reverse levels) c end (onto got) (with_more here tail) (r.going tail c end b) in
      fails (λ (v : Vec Instr Global). code v.items) tail _ c _ end _ _ e f (n.built tail k.first_arm k.rest k.else_arm k.middle k.spelled);
}

-- an end
pub run_last : {old here new : Place} {levels : List Level} (v : Vec Instr Global) → Running old levels v.items here → levels ≡ [] → BuildsNext (Ok an_end) here new
    → Builds (λ (v : Vec Instr Global). code v.items) SpelledExpression (Ok v) old new
run_last {here = here} v r e n = record {
  built = λ tail c end b.
      let a = subst (λ z. Ahead (reverse z) c end (onto v.items) (with_more here tail)) e (r.going tail c end b) in
      let g = n.built tail false a.0 done end a.2 in
      (whole_is v.items a.0 c a.1 g.0, g.2);
}

-- what stands outside goes on behind the construct
outside : (Outside : (Code → Code) → Place → Type 0) (f g : Code → Code) (middle new : Place) → ((more : Code) → g more ≡ f more) → new ≡ middle → Outside f middle → Outside g new
outside Outside f g middle new h e a = subst (λ p. Outside g p) (sym e) (subst (λ k. Outside k middle) (λ i more. sym (h more) i) a)

closed_in : (o : Opened) (ty : Option ValType) (before : List Instr) (Outside : (Code → Code) → Place → Type 0) (got more : List Instr) (here new : Place) (tail : List ℕ) → BuildsNext
    (Ok an_end) here new
    → ((rest : Code) → onto more rest ≡ onto before (closed o ty (code got) rest))
    → Inside o ty before Outside (onto got) (with_more here tail) → Outside (onto more) (with_more new tail)
closed_in Then ty before Outside got more here new tail n h a =
    let g = n.built tail true a.0 a.1 a.2 a.3 in
    let p : onto got a.0 ≡ code got = ap (onto got) g.0 ∙ onto_done got in
    outside Outside (λ k. onto before (branch ty (onto got a.0) a.1 k)) (onto more) a.2 (with_more new tail)
    (λ k. h k ∙ ap (λ z. onto before (branch ty z done k)) (sym p) ∙ ap (λ z. onto before (branch ty (onto got a.0) z k)) (sym g.1)) g.2 a.4
closed_in Block ty before Outside got more here new tail n h a =
    let g = n.built tail false a.0 done a.1 a.2 in
    let p : onto got a.0 ≡ code got = ap (onto got) g.0 ∙ onto_done got in
    outside Outside (λ k. onto before (nest a_block ty (onto got a.0) k)) (onto more) a.1 (with_more new tail) (λ k. h k ∙ ap (λ z. onto before (nest a_block ty z k)) (sym p)) g.2 a.3
closed_in Loop ty before Outside got more here new tail n h a =
    let g = n.built tail false a.0 done a.1 a.2 in
    let p : onto got a.0 ≡ code got = ap (onto got) g.0 ∙ onto_done got in
    outside Outside (λ k. onto before (nest a_loop ty (onto got a.0) k)) (onto more) a.1 (with_more new tail) (λ k. h k ∙ ap (λ z. onto before (nest a_loop ty z k)) (sym p)) g.2 a.3
closed_in (Else arm) ty before Outside got more here new tail n h a =
    let g = n.built tail false a.0 done a.1 a.2 in
    let p : onto got a.0 ≡ code got = ap (onto got) g.0 ∙ onto_done got in
    outside Outside (λ k. onto before (branch ty (code arm.items) (onto got a.0) k)) (onto more) a.1 (with_more new tail) (λ k. h k ∙ ap (λ z. onto before (branch ty
    (code arm.items) z k)) (sym p)) g.2 a.3

pub run_close : (old here new : Place) (levels low : List Level) (l : Level) (got more : List Instr) → Running old levels got here → BuildsNext (Ok an_end) here new → levels ≡ low ++ l ∷ []
    → ((rest : Code) → onto more rest ≡ onto l.before.items (closed l.opened l.ty (code got) rest)) → Running old low more new
run_close old here new levels low l got more r n e h = record {
  going = λ tail c end b. closed_in l.opened l.ty l.before.items (Ahead (reverse low) c end) got more here new tail n h
      (shown_last levels low l c end (onto got) (with_more here tail) e (r.going tail c end b));
}

-- Turns.

pub no_level : (levels : List Level) (n : ℕ) → n ≡ length levels → n ≡ 0 → levels ≡ []
no_level [] n e f = refl
no_level (l ∷ levels) n e f = absurd (omega (arith, e, f))

abbrev view : Vec Instr Global → Code
view v = code v.items

yes_no : true ≡ false → ⊥
yes_no e = cc

-- by what a call answered
by_answer : (q : Result Bool BuildFault) (old new : Place) (levels : List Level) (body : Vec Instr Global) → IfOk q (λ ended. ended ≡ false) → OnOk q (Running old levels body.items new)
    → IfErr q (λ d. Builds view SpelledExpression (Err d) old new) → Turned q old levels body new
by_answer (Ok true) old new levels body on ok err = absurd (yes_no on)
by_answer (Ok false) old new levels body on ok err = ok
by_answer (Err d) old new levels body on ok err = err

ok_by : {A B : Type 0} (q : Result Bool BuildFault) → (A → B) → OnOk q A → OnOk q B
ok_by (Ok b) f h = f h
ok_by (Err d) f h = tt

ok_both : {A B C : Type 0} (q : Result Bool BuildFault) → (A → B → C) → OnOk q A → OnOk q B → OnOk q C
ok_both (Ok b) f h k = f h k
ok_both (Err d) f h k = tt

err_by : (q : Result Bool BuildFault) (P Q : BuildFault → Type 0) → ((d : BuildFault) → P d → Q d) → IfErr q P → IfErr q Q
err_by (Ok b) P Q f h = tt
err_by (Err d) P Q f h = f d h

memory_is : (old new : Place) (d : BuildFault) → d ≡ Memory → Builds view SpelledExpression (Err d) old new
memory_is old new d e = record { built = λ tail c end b none. e }

pub turned_memory : (q : Result Bool BuildFault) (d y : BuildFault) (old new : Place) (levels : List Level) (body : Vec Instr Global) → q ≡ Err y → y ≡ d → d ≡ Memory → Turned q old levels body new
turned_memory q d y old new levels body e f g = subst (λ z. Turned z old levels body new) (sym e) (memory_is old new y (f ∙ g))

-- the head of a construct
pub turn_open : (opened : Opened) (ty : Option ValType) (next : CodeItem) (q : Result Bool BuildFault) (levels new_levels : List Level) (body new_body : Vec Instr Global) → IfOk q
    (λ ended. ended ≡ false)
    → OnOk q (new_levels ≡ levels ++ (record { before = body; ty = ty; opened = opened }) ∷ []) → OnOk q (new_body.items ≡ []) → IfErr q (λ e. e ≡ Memory)
    → ((old here new : Place) → Running old levels body.items here → BuildsNext (Ok next) here new → new_body.items ≡ []
    → new_levels ≡ levels ++ (record { before = body; ty = ty; opened = opened }) ∷ [] → Running old new_levels new_body.items new)
    → Turns next levels body q new_levels new_body
turn_open opened ty next q levels new_levels body new_body on there none err run = λ old here new r n.
    by_answer q old new new_levels new_body on (ok_both q (λ e f. run old here new r n f e) there none)
    (err_by q (λ e. e ≡ Memory) (λ d. Builds view SpelledExpression (Err d) old new) (λ d e. memory_is old new d e) err)

pub turn_instr : (levels : List Level) (body new_body : Vec Instr Global) (i : Instr) → new_body.items ≡ body.items ++ i ∷ [] → Turns (an_instr i) levels body (Ok false) levels new_body
turn_instr levels body new_body i e = λ old here new r n. run_instr old here new levels body.items new_body.items i r n e

pub turn_else : (q : Result Bool BuildFault) (levels low new_levels : List Level) (l : Level) (body new_body : Vec Instr Global) → levels ≡ low ++ l ∷ [] → IfOk q (λ ended. ended ≡ false)
    → OnOk q (IsTurned l low body new_levels) → OnOk q (new_body.items ≡ []) → IfErr q (IsLost l)
    → Turns an_else levels body q new_levels new_body
turn_else q levels low new_levels l body new_body e on there none err = λ old here new r n.
    by_answer q old new new_levels new_body on (ok_both q (λ t f. run_else old here new levels low new_levels l body new_body.items r n e t f) there none)
    (err_by q (IsLost l) (λ d. Builds view SpelledExpression (Err d) old new) (λ d h. turn_stop low l d r n e h refl refl) err)

pub turn_no_else : (levels new_levels : List Level) (body new_body : Vec Instr Global) → levels ≡ [] → Turns an_else levels body (Err NotSpelled) new_levels new_body
turn_no_else levels new_levels body new_body e = λ old here new r n. else_alone r e n

pub turn_last : (levels new_levels : List Level) (body : Vec Instr Global) → levels ≡ [] → Turns an_end levels body (Ok true) new_levels body
turn_last levels new_levels body e = λ old here new r n. run_last body r e n

pub turn_close : (q : Result Bool BuildFault) (levels low : List Level) (l : Level) (body new_body : Vec Instr Global) → levels ≡ low ++ l ∷ [] → IfOk q (λ ended. ended ≡ false)
    → OnOk q ((rest : Code) → onto new_body.items rest ≡ onto l.before.items (closed l.opened l.ty (code body.items) rest)) → IfErr q (λ e. e ≡ Memory) → Turns an_end levels body q low new_body
turn_close q levels low l body new_body e on there err = λ old here new r n.
    by_answer q old new low new_body on (ok_by q (λ h. run_close old here new levels low l body.items new_body.items r n e h) there)
    (err_by q (λ d. d ≡ Memory) (λ d. Builds view SpelledExpression (Err d) old new) (λ d e. memory_is old new d e) err)

-- a fault of what stands next
pub turned_stop : {old here new : Place} {levels : List Level} {got : List Instr} (new_levels : List Level) (body : Vec Instr Global) (q : Result Bool BuildFault) (y : BuildFault)
    → q ≡ Err y → BuildsNext (Err y) here new → Running old levels got here → Turned q old new_levels body new
turned_stop {old = old} {new = new} new_levels body q y e n r = subst (λ z. Turned z old new_levels body new) (sym e) (next_stop r n refl refl)

-- an instruction that holds no other
pub turn_put : (op : ℕ) (q : Result Bool BuildFault) (old before here new : Place) (levels : List Level) (body new_body : Vec Instr Global) → ByteRead op before here → IsOther op
    → Puts op q body.items new_body.items here new → Running old levels body.items before → Turned q old levels new_body new
turn_put op (Ok ended) old before here new levels body new_body b o p r =
    subst (λ z. Turned (Ok z) old levels new_body new) (sym p.1) (turn_instr levels body new_body p.0 p.2 old before new r (next_plain op before here new p.0 b o p.3))
turn_put op (Err d) old before here new levels body new_body b o p r =
    turned_stop levels new_body (Err d) d refl (plain_stop op before here new d d (Err d) b o refl refl p) r
