-- What is written of a unit, and along units.
use Rattle.std.proofs.Common.{◌≡◌, ℕ, suc, ◌+◌, ◌<◌, ◌≤◌, List, [], length, get_or, drop, Option, Some, None, Bool, true, false, refl, sym, ap, ◌∙◌, subst, arith}
use Rattle.wa_types.specs.declared.instrs.Instr.{Instr}
use Rattle.wa_types.specs.Pausing.{Callee}
use Rattle.wa_types.specs.Syntax.{a_block, a_loop, Shape, Code, done, plain, nest, branch}
use Rattle.wa_types.specs.View.{onto, code}
use Rattle.wa_types.proofs.ViewLemmas.{code_none, onto_none}
use Rattle.wa_model.specs.declared.flat.Operand.{Operand}
use Rattle.guard_form.specs.Pieces.{Units, no_unit, call_unit, nest_unit, if_unit, any_unit, numbers_in}
use Rattle.guard_form.proofs.UnitLemmas.{last_none}
use Rattle.guard_form.specs.Bounds.{unit_count}
use Rattle.guard_form.specs.Guarded.{GuardIndices, arm, Exit, its_end, by_label, nowhere, function_end, ending, exit_inside, own_block, call_guarded, front}
use Rattle.flow_rewrite.specs.Begun.{begun, block_begun, call_begun, condition_code, guarded_begun, last_begun, Fronted}
use Rattle.flow_rewrite.specs.Exits.{exit_at}
use Rattle.flow_rewrite.specs.Putting.{Puts}
use Rattle.flow_rewrite.specs.declared.guards.Guards.{Guards}
use Rattle.flow_rewrite.specs.Emitting.{indices}
use Rattle.flow_rewrite.specs.declared.pieces.Target.{Target}
use Rattle.flow_rewrite.specs.declared.pieces.Unit.{Unit}
use Rattle.flow_rewrite.specs.UnitView.{callee_of, unit_in_front, units_of}
use Rattle.flow_rewrite.specs.Fronts.{piece_behind, IsFront, IsArm, Ready, Stepped, Walked}
use Rattle.flow_rewrite.proofs.UnitLemmas.{units_step, units_end, any_left, ready_at, ready_one, ready_behind, count_front}

-- ---- sequences by their lead

begun_call : (i : GuardIndices) (lead : Option Code) (e : Exit) (d k : ℕ) (piece : Code) (xs : List ℕ) (x : Callee) (to : Option ℕ) (behind : Code) (rest : Units)
    → begun i lead e d k piece (call_unit xs x to behind rest)
    ≡ call_begun i lead e (any_unit rest) k piece (λ own. call_guarded i e own d k xs x to behind) (front i e d (suc k) done rest)
begun_call i None e d k piece xs x to behind rest = refl
begun_call i (Some h) e d k piece xs x to behind rest = refl

begun_block : (i : GuardIndices) (lead : Option Code) (e : Exit) (d k : ℕ) (piece first : Code) (body : Units) (behind : Code) (rest : Units)
    → begun i lead e d k piece (nest_unit a_block first body behind rest)
    ≡ block_begun i lead piece (exit_inside e a_block (any_unit rest)) (suc d) k first body (front i e d (k + numbers_in body) behind rest)
begun_block i None e d k done first body behind rest = refl
begun_block i None e d k (plain p c) first body behind rest = refl
begun_block i None e d k (nest s r b c) first body behind rest = refl
begun_block i None e d k (branch r a b c) first body behind rest = refl
begun_block i (Some h) e d k done first body behind rest = refl
begun_block i (Some h) e d k (plain p c) first body behind rest = refl
begun_block i (Some h) e d k (nest s r b c) first body behind rest = refl
begun_block i (Some h) e d k (branch r a b c) first body behind rest = refl

begun_loop : (i : GuardIndices) (lead : Option Code) (e : Exit) (d k : ℕ) (piece first : Code) (body : Units) (behind : Code) (rest : Units)
    → begun i lead e d k piece (nest_unit a_loop first body behind rest)
    ≡ guarded_begun i lead piece (nest a_loop None (front i (exit_inside e a_loop (any_unit rest)) (suc d) k first body) (front i e d (k + numbers_in body) behind rest))
begun_loop i None e d k piece first body behind rest = refl
begun_loop i (Some h) e d k done first body behind rest = refl
begun_loop i (Some h) e d k (plain p c) first body behind rest = refl
begun_loop i (Some h) e d k (nest s r b c) first body behind rest = refl
begun_loop i (Some h) e d k (branch r a b c) first body behind rest = refl

begun_if : (i : GuardIndices) (lead : Option Code) (e : Exit) (d k : ℕ) (piece : Code) (o : Option Operand) (fa : Code) (a : Units) (fb : Code) (b : Units) (behind : Code) (rest : Units)
    → begun i lead e d k piece (if_unit o fa a fb b behind rest)
    ≡ condition_code i lead k piece o a b (branch None (arm a fa (front i (exit_inside e a_block (any_unit rest)) (suc d) k fa a))
    (arm b fb (front i (exit_inside e a_block (any_unit rest)) (suc d) (k + numbers_in a) fb b)) (front i e d (k + numbers_in a + numbers_in b) behind rest))
begun_if i None e d k piece o fa a fb b behind rest = refl
begun_if i (Some h) e d k piece o fa a fb b behind rest = refl

begun_none : (i : GuardIndices) (lead : Option Code) (e : Exit) (d k : ℕ) (piece : Code) → begun i lead e d k piece no_unit ≡ last_begun i lead e piece
begun_none i None e d k piece = refl
begun_none i (Some h) e d k piece = refl

-- ---- units

-- inside a unit with units behind it it is as inside one with none and an exit to its end
inside_at : (e : Exit) (s : Shape) (more : Bool) → exit_inside (exit_at e more) s false ≡ exit_inside e s more
inside_at e s false = refl
inside_at its_end s true = refl
inside_at (by_label l) s true = refl
inside_at nowhere s true = refl
inside_at function_end s true = refl

-- so is a call
call_as : (i : GuardIndices) (lead : Option Code) (e : Exit) (more : Bool) (d k : ℕ) (first : Code) (xs : List ℕ) (x : Callee) (to : Option ℕ) (behind next : Code)
    → call_begun i lead e more k first (λ own. call_guarded i e own d k xs x to behind) next
    ≡ call_begun i lead (exit_at e more) false k first (λ own. call_guarded i (exit_at e more) own d k xs x to behind) next
call_as i lead e false d k first xs x to behind next = refl
call_as i None its_end true d k first xs x to behind next = refl
call_as i None (by_label l) true d k first xs x to behind next = refl
call_as i None nowhere true d k first xs x to behind next = refl
call_as i None function_end true d k first xs x to behind next = refl
call_as i (Some h) its_end true d k first xs x to behind next = refl
call_as i (Some h) (by_label l) true d k first xs x to behind next = refl
call_as i (Some h) nowhere true d k first xs x to behind next = refl
call_as i (Some h) function_end true d k first xs x to behind next = refl

-- behind a call without a block of its own stands what ends the sequence
nothing_more : (i : GuardIndices) (e v : Exit) (d k : ℕ) (rest : Units) → v ≡ exit_at e (any_unit rest) → own_block v false ≡ false → front i e d k done rest ≡ ending v
nothing_more i e v d k no_unit ve own = last_none i e ∙ ap ending (sym ve)
nothing_more i e v d k (call_unit _ _ _ _ _) ve own = let z = ap (λ w. own_block w false) ve in cc
nothing_more i e v d k (nest_unit _ _ _ _ _) ve own = let z = ap (λ w. own_block w false) ve in cc
nothing_more i e v d k (if_unit _ _ _ _ _ _ _) ve own = let z = ap (λ w. own_block w false) ve in cc

pub call_stepped : (g : Guards) (lead : Option Code) (v : Exit) (d k : ℕ) (old new piece : List Instr) (u : Unit) (xs : List ℕ) (x : Target) (to : Option ℕ) (ys : List Instr)
    → ((rest : Units) → unit_in_front u rest ≡ call_unit xs (callee_of x) to (code ys) rest) → piece_behind u ≡ []
    → ((next : Code) → (own_block v false ≡ false → next ≡ ending v)
    → onto new next ≡ onto old (call_begun (indices g) lead v false k (code piece) (λ own. call_guarded (indices g) v own d k xs (callee_of x) to (code ys)) next))
    → Stepped g lead v d k old new piece u (k + 1)
call_stepped g lead v d k old new piece u xs x to ys is behind puts =
    let i = indices g in
    let z : k + 1 ≡ suc k = omega arith in
    let n : numbers_in (unit_in_front u no_unit) ≡ 1 = ap numbers_in (is no_unit) in
    record {
      written = λ e rest ve.
          let next = front i e d (suc k) done rest in
          ap (λ y. onto old (begun i lead e d k (code piece) y)) (is rest)
          ∙ ap (onto old) (begun_call i lead e d k (code piece) xs (callee_of x) to (code ys) rest
          ∙ call_as i lead e (any_unit rest) d k (code piece) xs (callee_of x) to (code ys) next
          ∙ ap (λ w. call_begun i lead w false k (code piece) (λ own. call_guarded i w own d k xs (callee_of x) to (code ys)) next) (sym ve))
          ∙ sym (puts next (nothing_more i e v d (suc k) rest ve))
          ∙ sym (λ j. onto new (front i e d (z j) ((ap code behind ∙ code_none) j) rest));
      number = omega arith;
    }

pub block_stepped : (g : Guards) (lead inner : Option Code) (v w : Exit) (d l k : ℕ) (old mid new piece : List Instr) (u : Unit) (first : Code) (body : Units) (behind : List Instr) (f : List Instr) (n : ℕ)
    → w ≡ exit_inside v a_block false → l ≡ d + 1
    → ((rest : Units) → unit_in_front u rest ≡ nest_unit a_block first body (code behind) rest) → piece_behind u ≡ behind → IsFront g inner w l k first body f n
    → Fronted (indices g) lead inner old mid (code piece) → Puts mid new (nest a_block None (code f))
    → Stepped g lead v d k old new piece u n
block_stepped g lead inner v w d l k old mid new piece u first body behind f n ew q is next part puts put =
    let i = indices g in
    let z : l ≡ suc d = q ∙ omega arith in
    let num = part.number in
    let nn : numbers_in (unit_in_front u no_unit) ≡ numbers_in body + 0 = ap numbers_in (is no_unit) in
    record {
      written = λ e rest ve.
          let behind_code = front i e d (k + numbers_in body) (code behind) rest in
          let we : w ≡ exit_inside e a_block (any_unit rest) = ew ∙ ap (λ y. exit_inside y a_block false) ve ∙ inside_at e a_block (any_unit rest) in
          let within : code f ≡ begun i inner (exit_inside e a_block (any_unit rest)) (suc d) k first body =
          part.written ∙ (λ j. begun i inner (we j) (z j) k first body) in
          ap (λ y. onto old (begun i lead e d k (code piece) y)) (is rest)
          ∙ ap (onto old) (begun_block i lead e d k (code piece) first body (code behind) rest)
          ∙ sym (puts (exit_inside e a_block (any_unit rest)) (suc d) k first body behind_code)
          ∙ ap (λ y. onto mid (nest a_block None y behind_code)) (sym within) ∙ sym (put behind_code)
          ∙ sym (λ j. onto new (front i e d (num j) (code (next j)) rest));
      number = num ∙ omega arith;
    }

pub loop_stepped : (g : Guards) (lead : Option Code) (v w : Exit) (d l k : ℕ) (old mid new piece : List Instr) (u : Unit) (first : Code) (body : Units) (behind : List Instr) (f : List Instr) (n : ℕ)
    → w ≡ exit_inside v a_loop false → l ≡ d + 1
    → ((rest : Units) → unit_in_front u rest ≡ nest_unit a_loop first body (code behind) rest) → piece_behind u ≡ behind → IsFront g None w l k first body f n
    → Puts old mid (guarded_begun (indices g) lead (code piece)) → Puts mid new (nest a_loop None (code f))
    → Stepped g lead v d k old new piece u n
loop_stepped g lead v w d l k old mid new piece u first body behind f n ew q is next part puts put =
    let i = indices g in
    let z : l ≡ suc d = q ∙ omega arith in
    let num = part.number in
    let nn : numbers_in (unit_in_front u no_unit) ≡ numbers_in body + 0 = ap numbers_in (is no_unit) in
    record {
      written = λ e rest ve.
          let behind_code = front i e d (k + numbers_in body) (code behind) rest in
          let we : w ≡ exit_inside e a_loop (any_unit rest) = ew ∙ ap (λ y. exit_inside y a_loop false) ve ∙ inside_at e a_loop (any_unit rest) in
          let within : code f ≡ front i (exit_inside e a_loop (any_unit rest)) (suc d) k first body =
          part.written ∙ (λ j. front i (we j) (z j) k first body) in
          ap (λ y. onto old (begun i lead e d k (code piece) y)) (is rest)
          ∙ ap (onto old) (begun_loop i lead e d k (code piece) first body (code behind) rest)
          ∙ ap (λ y. onto old (guarded_begun i lead (code piece) (nest a_loop None y behind_code))) (sym within)
          ∙ sym (puts (nest a_loop None (code f) behind_code)) ∙ sym (put behind_code)
          ∙ sym (λ j. onto new (front i e d (num j) (code (next j)) rest));
      number = num ∙ omega arith;
    }

pub if_stepped : (g : Guards) (lead : Option Code) (v w : Exit) (d l k : ℕ) (old mid new piece : List Instr) (u : Unit) (o : Option Operand) (fa : Code) (a : Units) (fb : Code) (b : Units)
    (behind : List Instr) (p q : List Instr) (m n : ℕ)
    → w ≡ exit_inside v a_block false → l ≡ d + 1 → ((rest : Units) → unit_in_front u rest ≡ if_unit o fa a fb b (code behind) rest) → piece_behind u ≡ behind
    → IsArm g w l k fa a p m → IsArm g w l m fb b q n
    → Puts old mid (condition_code (indices g) lead k (code piece) o a b)
    → Puts mid new (branch None (code p) (code q)) → Stepped g lead v d k old new piece u n
if_stepped g lead v w d l k old mid new piece u o fa a fb b behind p q m n ew es is next first second puts put =
    let i = indices g in
    let z : l ≡ suc d = es ∙ omega arith in
    let pn = first.number in
    let qn : n ≡ k + numbers_in a + numbers_in b = second.number ∙ ap (λ l. l + numbers_in b) pn in
    let nn : numbers_in (unit_in_front u no_unit) ≡ numbers_in a + numbers_in b + 0 = ap numbers_in (is no_unit) in
    record {
      written = λ e rest ve.
          let behind_code = front i e d (k + numbers_in a + numbers_in b) (code behind) rest in
          let wi = exit_inside e a_block (any_unit rest) in
          let we : w ≡ wi = ew ∙ ap (λ y. exit_inside y a_block false) ve ∙ inside_at e a_block (any_unit rest) in
          let wp : code p ≡ arm a fa (front i wi (suc d) k fa a) = first.written ∙ (λ j. arm a fa (front i (we j) (z j) k fa a)) in
          let wq : code q ≡ arm b fb (front i wi (suc d) (k + numbers_in a) fb b) = second.written ∙ (λ j. arm b fb (front i (we j) (z j) (pn j) fb b)) in
          ap (λ y. onto old (begun i lead e d k (code piece) y)) (is rest)
          ∙ ap (onto old) (begun_if i lead e d k (code piece) o fa a fb b (code behind) rest)
          ∙ (λ j. onto old (condition_code i lead k (code piece) o a b (branch None (sym wp j) (sym wq j) behind_code)))
          ∙ sym (puts (branch None (code p) (code q) behind_code))
          ∙ sym (put behind_code) ∙ sym (λ j. onto new (front i e d (qn j) (code (next j)) rest));
      number = qn ∙ omega arith;
    }

-- ---- along units

pub walked_start : (g : Guards) (lead : Option Code) (e : Exit) (d k : ℕ) (first : List Instr) (us : Units) (out : List Instr) → Ready e d k (code first) us → out ≡ []
    → Walked g lead e d k (code first) us out lead first k us
walked_start g lead e d k first us out rd q = record {
  written = sym (ap (λ z. onto z (begun (indices g) lead e d k (code first) us)) q ∙ onto_none (begun (indices g) lead e d k (code first) us));
  number = refl;
  count = omega arith;
  ready = rd;
}

module _ (g : Guards) (lead : Option Code) (e : Exit) (d k : ℕ) (first : Code) (us : Units) (out : List Instr) (had : Option Code) (piece : List Instr) (next : ℕ) (xs : List Unit) (j : ℕ) where
  pub walked_ready : (u : Unit) → j < length xs → u ≡ get_or xs j u → Walked g lead e d k first us out had piece next (units_of (drop j xs))
      → (v : Exit) (more : Bool) → v ≡ exit_at e more → Ready v d next (code piece) (unit_in_front u no_unit)
  walked_ready u lt is w v more ve =
      ready_at e v more d next (code piece) (unit_in_front u no_unit) ve
      (ready_one e d next (code piece) u (units_of (drop (j + 1) xs)) (subst (Ready e d next (code piece)) (units_step xs j u lt is) w.ready))

  pub walked_next : (new : List Instr) (taken has : Option Code) (v : Exit) (m left : ℕ) (more : Bool) (u : Unit) (behind : List Instr) → j < length xs
      → u ≡ get_or xs j u → Walked g lead e d k first us out had piece next (units_of (drop j xs)) → taken ≡ had → has ≡ None → v ≡ exit_at e more
      → Stepped g taken v d next out new piece u m → behind ≡ piece_behind u → left + (j + 1) ≡ length xs
      → (more ≡ true → 0 < left) → (more ≡ false → left ≤ 0)
      → Walked g lead e d k first us new has behind m (units_of (drop (j + 1) xs))
  walked_next new taken has v m left more u behind lt is w same gone ve st q ll some none =
      let rest = units_of (drop (j + 1) xs) in
      let s = units_step xs j u lt is in
      let r = ready_behind e d next m (code piece) u rest (subst (Ready e d next (code piece)) s w.ready) st.number in
      record {
        written = w.written ∙ (λ l. onto out (begun (indices g) (sym same l) e d next (code piece) (s l)))
            ∙ st.written e rest (ve ∙ ap (exit_at e) (sym (any_left xs (j + 1) left more ll some none)))
            ∙ (λ l. onto new (begun (indices g) (sym gone l) e d m (code (sym q l)) rest));
        number = w.number ∙ ap (λ y. next + numbers_in y) s ∙ r.1;
        count = let a = ap unit_count s ∙ count_front u rest in let b = w.count in omega arith;
        ready = subst (λ y. Ready e d m (code y) rest) (sym q) r.0;
      }

  pub walked_end : (f : List Instr) (m : ℕ) → length xs ≤ j → Walked g lead e d k first us out had piece next (units_of (drop j xs))
      → code f ≡ onto out (last_begun (indices g) had e (code piece)) → m ≡ next → IsFront g lead e d k first us f m
  walked_end f m le w is same =
      let q = units_end xs j le in
      let total : k + numbers_in us ≡ next + 0 = w.number ∙ ap (λ y. next + numbers_in y) q in
      record {
        written = is ∙ sym (w.written ∙ ap (λ y. onto out (begun (indices g) had e d next (code piece) y)) q ∙ ap (onto out) (begun_none (indices g) had e d next (code piece)));
        number = omega arith;
      }

  pub walked_fewer : (u : Unit) → j < length xs → u ≡ get_or xs j u → Walked g lead e d k first us out had piece next (units_of (drop j xs)) → unit_count (unit_in_front u no_unit) ≤ unit_count us
  walked_fewer u lt is w =
      let a = ap unit_count (units_step xs j u lt is) ∙ count_front u (units_of (drop (j + 1) xs)) in let b = w.count in omega arith
