-- Code that is read instruction by instruction.
use Rattle.std.proofs.Common.{◌≡◌, ℕ, ◌+◌, ◌≤◌, List, [], ◌∷◌, ◌++◌, Bool, true, false, Option, Some, None, Result, Ok, Err, refl, ap, sym, ◌∙◌, subst, arith, length, length-append, append_assoc}
use Rattle.wa_types.specs.declared.values.ValType.{ValType}
use Rattle.wa_types.specs.declared.instrs.Instr.{Instr}
use Rattle.wa_types.specs.Binary.{RawCode, ended, otherwise, instr, nested, branched}
use Rattle.wa_types.specs.Encoding.{shape_byte}
use Rattle.wa_types.specs.Opcodes.{Form, follows, form}
use Rattle.wa_types.specs.Spells.{◌▸◌, BlockType, ImmediatesOf, CodeOf}
use Rattle.wa_types.specs.Syntax.{Plain, Shape, a_block, a_loop, Code, done, plain, nest, branch}
use Rattle.wa_types.specs.View.{in_front, code, onto}
use Rattle.wa_types.specs.Reading.{IsCode}
use Rattle.wa_types.proofs.ViewLemmas.{in_block, in_loop, in_if, onto_done, is_block, is_loop, is_if, is_plain, instr_kind}
use Rattle.wasm_build.specs.declared.build_types.BuildFault.{BuildFault}
use Rattle.wasm_grammar.specs.Places.{Place, with_more}
use Rattle.wasm_build.specs.Builds.{Between, IsWant, Builds}
use Rattle.wasm_build.specs.BuildsCode.{CodeItem, an_instr, open_block, open_loop, open_if, an_else, an_end, SpelledCode, SpelledExpression, SpelledResult, SpelledConstruct, SpelledArms, GivesNext, GivesNest, BuildsNext}
use Rattle.wasm_build.specs.BuildsPlain.{IsOfOpcode, SpelledPlain, code_of_one}
use Rattle.wasm_build.proofs.Betweens.{Parts, parts, behind_first, nothing_between}

-- What code begins with, by its first byte, and what stands behind that byte.
pub data Opens (first_arm : Bool) (v : ℕ) (body else_arm : Code) : ℕ → List ℕ → Type 0 where
  opens_end : {at : ℕ} {back : List ℕ} → v ≡ 0x0B → body ≡ done → else_arm ≡ done → back ≡ [] → Opens first_arm v body else_arm at back
  opens_else : {at : ℕ} {back : List ℕ} → v ≡ 0x05 → body ≡ done → first_arm ≡ true → SpelledExpression else_arm at back → Opens first_arm v body else_arm at back
  opens_plain : {at : ℕ} {back : List ℕ} (p : Plain) (rest : Code) → body ≡ plain p rest → IsOfOpcode v p → (SpelledPlain v (plain p done) ▸ SpelledCode first_arm rest else_arm) at back
      → Opens first_arm v body else_arm at back
  opens_nest : {at : ℕ} {back : List ℕ} (s : Shape) (r : Option ValType) (inner rest : Code) → v ≡ shape_byte s → body ≡ nest s r inner rest
      → (SpelledConstruct (r, inner) ▸ SpelledCode first_arm rest else_arm) at back → Opens first_arm v body else_arm at back
  opens_if : {at : ℕ} {back : List ℕ} (r : Option ValType) (a b rest : Code) → v ≡ 0x04 → body ≡ branch r a b rest → (SpelledArms (r, a, b) ▸ SpelledCode first_arm rest else_arm) at back
      → Opens first_arm v body else_arm at back

-- the first byte of code
record Opened (first_arm : Bool) (body else_arm : Code) (at : ℕ) (bytes : List ℕ) : Type 0 where
  byte : ℕ
  pub back : List ℕ
  whole : bytes ≡ byte ∷ back
  opens : Opens first_arm byte body else_arm (at + 1) back

regroup : (P Q R : ℕ → List ℕ → Type 0) (at : ℕ) (bytes : List ℕ) → (P ▸ Q ▸ R) at bytes → ((P ▸ Q) ▸ R) at bytes
regroup P Q R at bytes h =
    let g = h.4 in
    (h.0 ++ g.0, g.1, h.2 ∙ ap (λ z. h.0 ++ z) g.2 ∙ sym (append_assoc h.0 g.0 g.1), (h.0, g.0, refl, h.3, g.3), subst (λ n. R n g.1) (omega (arith, length-append h.0 g.0)) g.4)

one_back : (v at : ℕ) (a b bytes : List ℕ) (Q : ℕ → List ℕ → Type 0) → bytes ≡ a ++ b → a ≡ v ∷ [] → Q (at + length a) b → (bytes ≡ v ∷ b) × Q (at + 1) b
one_back v at a b bytes Q e f q = (e ∙ ap (λ z. z ++ b) f, subst (λ z. Q (at + length z) b) f q)

opened : (first_arm : Bool) (raw : RawCode) (body else_arm : Code) (at : ℕ) (bytes : List ℕ) → IsCode raw body else_arm → CodeOf first_arm raw at bytes → Opened first_arm body else_arm at bytes
opened first_arm (ended k) done else_arm at bytes e h = record { byte = 0x0B; back = []; whole = h.1; opens = opens_end refl refl e refl }
opened first_arm (ended k) (plain p r) else_arm at bytes e h = absurd e
opened first_arm (ended k) (nest s r b m) else_arm at bytes e h = absurd e
opened first_arm (ended k) (branch r a b m) else_arm at bytes e h = absurd e
opened first_arm (otherwise k arm) done else_arm at bytes e h =
    let g = h.1 in
    let w = one_back 0x05 at g.0 g.1 bytes (CodeOf false arm) g.2 g.3.1 g.4 in
    record { byte = 0x05; back = g.1; whole = w.0; opens = opens_else refl refl h.0 (arm, e, w.1) }
opened first_arm (otherwise k arm) (plain p r) else_arm at bytes e h = absurd e
opened first_arm (otherwise k arm) (nest s r b m) else_arm at bytes e h = absurd e
opened first_arm (otherwise k arm) (branch r a b m) else_arm at bytes e h = absurd e
opened first_arm (instr op operands raw) (plain p rest) else_arm at bytes e h =
    let g = h.1 in
    let w = one_back op.byte at g.0 g.1 bytes (ImmediatesOf operands ▸ CodeOf first_arm raw) g.2 g.3.1 g.4 in
    let is : IsOfOpcode op.byte p = record { opcode = e.0.opcode; operands = h.0 ∙ ap (λ z. Some (form z)) e.0.follows; kind = e.0.kind } in
    let q = w.1 in
    record {
      byte = op.byte;
      back = g.1;
      whole = w.0;
      opens = opens_plain p rest refl is (q.0, q.1, q.2, (p, refl, is, subst (λ o. ImmediatesOf o (at + 1) q.0) e.0.follows q.3), (raw, e.1, q.4));
    }
opened first_arm (instr op operands raw) done else_arm at bytes e h = absurd e
opened first_arm (instr op operands raw) (nest s r b m) else_arm at bytes e h = absurd e
opened first_arm (instr op operands raw) (branch r a b m) else_arm at bytes e h = absurd e
opened first_arm (nested op result raw more) (nest s r inner rest) else_arm at bytes e h =
    let g = h.1 in
    let w = one_back op.byte at g.0 g.1 bytes (BlockType result ▸ CodeOf false raw ▸ CodeOf first_arm more) g.2 g.3.1 g.4 in
    let q = regroup (BlockType result) (CodeOf false raw) (CodeOf first_arm more) (at + 1) g.1 w.1 in
    let k = q.3 in
    record {
      byte = op.byte;
      back = g.1;
      whole = w.0;
      opens = opens_nest s r inner rest e.0 refl (q.0, q.1, q.2, (k.0, k.1, k.2, (result, e.1, k.3), (raw, e.2, k.4)), (more, e.3, q.4));
    }
opened first_arm (nested op result raw more) done else_arm at bytes e h = absurd e
opened first_arm (nested op result raw more) (plain p r) else_arm at bytes e h = absurd e
opened first_arm (nested op result raw more) (branch r a b m) else_arm at bytes e h = absurd e
opened first_arm (branched op result arms more) (branch r a b rest) else_arm at bytes e h =
    let g = h.1 in
    let w = one_back op.byte at g.0 g.1 bytes (BlockType result ▸ CodeOf true arms ▸ CodeOf first_arm more) g.2 g.3.1 g.4 in
    let q = regroup (BlockType result) (CodeOf true arms) (CodeOf first_arm more) (at + 1) g.1 w.1 in
    let k = q.3 in
    record {
      byte = op.byte;
      back = g.1;
      whole = w.0;
      opens = opens_if r a b rest h.0 refl (q.0, q.1, q.2, (k.0, k.1, k.2, (result, e.0, k.3), (arms, e.1, k.4)), (more, e.2, q.4));
    }
opened first_arm (branched op result arms more) done else_arm at bytes e h = absurd e
opened first_arm (branched op result arms more) (plain p r) else_arm at bytes e h = absurd e
opened first_arm (branched op result arms more) (nest s r b m) else_arm at bytes e h = absurd e

-- the same where that byte is read
pub record Onto (first_arm : Bool) (v : ℕ) (body else_arm : Code) (here end : Place) : Type 0 where
  pub back : List ℕ
  opens : Opens first_arm v body else_arm here.at back
  left : here.left ≡ back ++ end.left
  place : end.at ≡ here.at + length back

cons_same : (v w : ℕ) (xs ys : List ℕ) → v ∷ xs ≡ w ∷ ys → (v ≡ w) × (xs ≡ ys)
cons_same v w xs ys e = ((let p : v ≡ w = cc in p), (let p : xs ≡ ys = cc in p))

opens_here : (first_arm : Bool) (v : ℕ) (body else_arm : Code) (old here end : Place) → old.left ≡ v ∷ here.left → here.at ≡ old.at + 1
    → Between (SpelledCode first_arm body else_arm) old end → Onto first_arm v body else_arm here end
opens_here first_arm v body else_arm old here end e f b =
    let (raw, is, h) = b.spelled in
    let o = opened first_arm raw body else_arm old.at b.front is h in
    let same = cons_same v o.byte here.left (o.back ++ end.left) (sym e ∙ b.left ∙ ap (λ z. z ++ end.left) o.whole) in
    record {
      back = o.back;
      opens = subst (λ n. Opens first_arm v body else_arm n o.back) (sym f) (subst (λ n. Opens first_arm n body else_arm (old.at + 1) o.back) (sym same.0) o.opens);
      left = same.1;
      place = let p = b.place in let q = ap length o.whole in omega (arith, p, q, f);
    }

pub whole_is : (got : List Instr) (rest body : Code) → onto got rest ≡ body → rest ≡ done → code got ≡ body
whole_is got rest body e f = sym (onto_done got) ∙ ap (onto got) (sym f) ∙ e

-- what stands behind a first byte
none_some : (f : Form) → None ≡ Some f → ⊥
none_some f e = cc

no_plain : (v k : ℕ) (p : Plain) → follows k ≡ None → v ≡ k → IsOfOpcode v p → ⊥
no_plain v k p e f is = none_some _ (sym e ∙ ap follows (sym f) ∙ is.operands)

shape_range : (s : Shape) → (2 ≤ shape_byte s) × (shape_byte s ≤ 3)
shape_range a_block = (omega arith, omega arith)
shape_range a_loop = (omega arith, omega arith)

end_of : {first_arm : Bool} {v : ℕ} {body else_arm : Code} {at : ℕ} {back : List ℕ} → v ≡ 0x0B → Opens first_arm v body else_arm at back → (body ≡ done) × (else_arm ≡ done) × (back ≡ [])
unfolding follows
end_of e (opens_end f g h k) = (g, h, k)
end_of e (opens_else f g h k) = absurd (omega (arith, e, f))
end_of e (opens_plain p rest f is k) = absurd (no_plain _ 0x0B p refl e is)
end_of e (opens_nest s r inner rest f g k) = absurd (omega (arith, e, f, (shape_range s).1))
end_of e (opens_if r a b rest f g k) = absurd (omega (arith, e, f))

else_of : {first_arm : Bool} {v : ℕ} {body else_arm : Code} {at : ℕ} {back : List ℕ} → v ≡ 0x05 → Opens first_arm v body else_arm at back
    → (body ≡ done) × (first_arm ≡ true) × SpelledExpression else_arm at back
unfolding follows
else_of e (opens_end f g h k) = absurd (omega (arith, e, f))
else_of e (opens_else f g h k) = (g, h, k)
else_of e (opens_plain p rest f is k) = absurd (no_plain _ 0x05 p refl e is)
else_of e (opens_nest s r inner rest f g k) = absurd (omega (arith, e, f, (shape_range s).1))
else_of e (opens_if r a b rest f g k) = absurd (omega (arith, e, f))

-- a block or a loop before the rest
pub record Nested (s : Shape) (first_arm : Bool) (body else_arm : Code) (at : ℕ) (back : List ℕ) : Type 0 where
  pub result : Option ValType
  pub inner : Code
  pub rest : Code
  pub whole : body ≡ nest s result inner rest
  pub spelled : (SpelledConstruct (result, inner) ▸ SpelledCode first_arm rest else_arm) at back

same_shape : (s t : Shape) → shape_byte s ≡ shape_byte t → s ≡ t
same_shape a_block a_block e = refl
same_shape a_loop a_loop e = refl
same_shape a_block a_loop e = absurd (omega (arith, e))
same_shape a_loop a_block e = absurd (omega (arith, e))

no_shape : (s : Shape) → follows (shape_byte s) ≡ None
unfolding follows
no_shape a_block = refl
no_shape a_loop = refl

nest_of : (s : Shape) {first_arm : Bool} {v : ℕ} {body else_arm : Code} {at : ℕ} {back : List ℕ} → v ≡ shape_byte s → Opens first_arm v body else_arm at back → Nested s first_arm body else_arm at back
nest_of s e (opens_end f g h k) = absurd (omega (arith, e, f, (shape_range s).1))
nest_of s e (opens_else f g h k) = absurd (omega (arith, e, f, (shape_range s).1))
nest_of s e (opens_plain p rest f is k) = absurd (no_plain _ (shape_byte s) p (no_shape s) e is)
nest_of s e (opens_nest t r inner rest f g k) = record {
  result = r;
  inner = inner;
  rest = rest;
  whole = g ∙ ap (λ z. nest z r inner rest) (same_shape t s (sym f ∙ e));
  spelled = k;
}
nest_of s e (opens_if r a b rest f g k) = absurd (omega (arith, e, f, (shape_range s).1))

-- an if before the rest
pub record Branched (first_arm : Bool) (body else_arm : Code) (at : ℕ) (back : List ℕ) : Type 0 where
  pub result : Option ValType
  pub then_arm : Code
  pub other : Code
  pub rest : Code
  pub whole : body ≡ branch result then_arm other rest
  pub spelled : (SpelledArms (result, then_arm, other) ▸ SpelledCode first_arm rest else_arm) at back

if_of : {first_arm : Bool} {v : ℕ} {body else_arm : Code} {at : ℕ} {back : List ℕ} → v ≡ 0x04 → Opens first_arm v body else_arm at back → Branched first_arm body else_arm at back
unfolding follows
if_of e (opens_end f g h k) = absurd (omega (arith, e, f))
if_of e (opens_else f g h k) = absurd (omega (arith, e, f))
if_of e (opens_plain p rest f is k) = absurd (no_plain _ 0x04 p refl e is)
if_of e (opens_nest s r inner rest f g k) = absurd (omega (arith, e, f, (shape_range s).1))
if_of e (opens_if r a b rest f g k) = record { result = r; then_arm = a; other = b; rest = rest; whole = g; spelled = k }

-- an instruction that holds no other before the rest
pub record First (v : ℕ) (first_arm : Bool) (body else_arm : Code) (at : ℕ) (back : List ℕ) : Type 0 where
  pub instr : Plain
  pub rest : Code
  pub whole : body ≡ plain instr rest
  pub spelled : (SpelledPlain v (plain instr done) ▸ SpelledCode first_arm rest else_arm) at back

-- the byte is of no construct, no end and no else
pub record IsOther (v : ℕ) : Type 0 where
  pub not_end : v ≡ 0x0B → ⊥
  pub not_else : v ≡ 0x05 → ⊥
  pub not_block : v ≡ 0x02 → ⊥
  pub not_loop : v ≡ 0x03 → ⊥
  pub not_if : v ≡ 0x04 → ⊥

not_nest : (v : ℕ) (s : Shape) → IsOther v → v ≡ shape_byte s → ⊥
not_nest v a_block o e = o.not_block e
not_nest v a_loop o e = o.not_loop e

first_of_other : {first_arm : Bool} {v : ℕ} {body else_arm : Code} {at : ℕ} {back : List ℕ} → IsOther v → Opens first_arm v body else_arm at back → First v first_arm body else_arm at back
first_of_other o (opens_end f g h k) = absurd (o.not_end f)
first_of_other o (opens_else f g h k) = absurd (o.not_else f)
first_of_other o (opens_plain p rest f is k) = record { instr = p; rest = rest; whole = f; spelled = k }
first_of_other o (opens_nest s r inner rest f g k) = absurd (not_nest _ s o f)
first_of_other o (opens_if r a b rest f g k) = absurd (o.not_if f)

onto_parts : (P Q : ℕ → List ℕ → Type 0) (here end : Place) (back : List ℕ) → (P ▸ Q) here.at back → here.left ≡ back ++ end.left → end.at ≡ here.at + length back → Parts P Q here end
onto_parts P Q here end back h e f = parts P Q here end (record { front = back; spelled = h; left = e; place = f })

-- a byte at the front of a place, and the place behind it
pub record ByteRead (v : ℕ) (old here : Place) : Type 0 where
  pub left : old.left ≡ v ∷ here.left
  pub at : here.at ≡ old.at + 1

read_more : (v : ℕ) (old here : Place) (more : List ℕ) → ByteRead v old here → ByteRead v (with_more old more) (with_more here more)
read_more v old here more r = record { left = ap (λ z. z ++ more) r.left; at = r.at }

-- what stands behind the opcode of a block or a loop
record NestHead (s : Shape) (first_arm : Bool) (body else_arm : Code) (here end : Place) : Type 0 where
  result : Option ValType
  inner : Code
  rest : Code
  whole : body ≡ nest s result inner rest
  middle : Place
  head : Parts (SpelledResult result) (SpelledExpression inner) here middle
  second : Between (SpelledCode first_arm rest else_arm) middle end

-- what stands behind the opcode of an if
record BranchHead (first_arm : Bool) (body else_arm : Code) (here end : Place) : Type 0 where
  result : Option ValType
  arm : Code
  other : Code
  rest : Code
  whole : body ≡ branch result arm other rest
  middle : Place
  head : Parts (SpelledResult result) (SpelledCode true arm other) here middle
  second : Between (SpelledCode first_arm rest else_arm) middle end

pub next_end : (v : ℕ) (old here : Place) → ByteRead v old here → v ≡ 0x0B → BuildsNext (Ok an_end) old here
next_end v old here r e = record {
  built = λ more first_arm body else_arm end b.
      let o = opens_here first_arm v body else_arm (with_more old more) (with_more here more) end (ap (λ z. z ++ more) r.left) r.at b in
      let k = end_of e o.opens in
      (k.0, k.1, nothing_between (with_more here more) end (record { front = o.back; spelled = k.2; left = o.left; place = o.place }));
}

pub next_else : (v : ℕ) (old here : Place) → ByteRead v old here → v ≡ 0x05 → BuildsNext (Ok an_else) old here
next_else v old here r e = record {
  built = λ more first_arm body else_arm end b.
      let o = opens_here first_arm v body else_arm (with_more old more) (with_more here more) end (ap (λ z. z ++ more) r.left) r.at b in
      let k = else_of e o.opens in
      (k.0, k.1, record { front = o.back; spelled = k.2; left = o.left; place = o.place });
}

no_bytes : (v : ℕ) (xs ys : List ℕ) → [] ≡ (v ∷ xs) ++ ys → ⊥
no_bytes v xs ys e = cc

pub next_none : (d : BuildFault) (old here : Place) → old.left ≡ [] → BuildsNext (Err d) old here
next_none d old here e = record {
  built = λ more first_arm body else_arm end b.
      let (raw, is, h) = b.spelled in
      let o = opened first_arm raw body else_arm old.at b.front is h in
      λ none. absurd (no_bytes o.byte o.back end.left (sym (ap (λ z. z ++ more) e ∙ none) ∙ b.left ∙ ap (λ z. z ++ end.left) o.whole));
}

next_fails : (more : List ℕ) (q : Result CodeItem BuildFault) (first_arm : Bool) (body else_arm : Code) (new end : Place) (d y : BuildFault) → q ≡ Err y → y ≡ d → IsWant more d
    → GivesNext more q first_arm body else_arm new end
next_fails more q first_arm body else_arm new end d y e f g =
    let P : Result _ BuildFault → Type 0 = λ z. GivesNext more z first_arm body else_arm new end in subst P (sym e) (λ none. f ∙ g none)

-- the head of a construct, whose result was read or not
head_parts : (s : Shape) (v : ℕ) (old here end : Place) (first_arm : Bool) (body else_arm : Code) → ByteRead v old here → v ≡ shape_byte s
    → Between (SpelledCode first_arm body else_arm) old end → NestHead s first_arm body else_arm here end
head_parts s v old here end first_arm body else_arm r e b =
    let o = opens_here first_arm v body else_arm old here end r.left r.at b in
    let k = nest_of s e o.opens in
    let w = onto_parts (SpelledConstruct (k.result, k.inner)) (SpelledCode first_arm k.rest else_arm) here end o.back k.spelled o.left o.place in
    record {
      result = k.result;
      inner = k.inner;
      rest = k.rest;
      whole = k.whole;
      middle = w.middle;
      head =
          parts (SpelledResult k.result) (SpelledExpression k.inner) here w.middle w.first;
      second = w.second;
    }

branch_parts : (v : ℕ) (old here end : Place) (first_arm : Bool) (body else_arm : Code) → ByteRead v old here → v ≡ 0x04 → Between (SpelledCode first_arm body else_arm) old end
    → BranchHead first_arm body else_arm here end
branch_parts v old here end first_arm body else_arm r e b =
    let o = opens_here first_arm v body else_arm old here end r.left r.at b in
    let k = if_of e o.opens in
    let w = onto_parts (SpelledArms (k.result, k.then_arm, k.other)) (SpelledCode first_arm k.rest else_arm) here end o.back k.spelled o.left o.place in
    record {
      result = k.result;
      arm = k.then_arm;
      other = k.other;
      rest = k.rest;
      whole = k.whole;
      middle = w.middle;
      head = parts (SpelledResult k.result) (SpelledCode true k.then_arm k.other) here w.middle w.first;
      second = w.second;
    }

pub nest_stop : (s : Shape) (v : ℕ) (old here new : Place) (d y : BuildFault) (q : Result CodeItem BuildFault) → ByteRead v old here → v ≡ shape_byte s → q ≡ Err y → y ≡ d
    → Builds (λ (r : Option ValType). r) SpelledResult (Err d) here new → BuildsNext q old new
nest_stop s v old here new d y q r e f g n = record {
  built = λ more first_arm body else_arm end b.
      let k = head_parts s v (with_more old more) (with_more here more) end first_arm body else_arm (read_more v old here more r) e b in
      next_fails more q first_arm body else_arm (with_more new more) end d y f g (n.built more k.result k.head.middle k.head.first);
}

pub if_stop : (v : ℕ) (old here new : Place) (d y : BuildFault) (q : Result CodeItem BuildFault) → ByteRead v old here → v ≡ 0x04 → q ≡ Err y → y ≡ d
    → Builds (λ (r : Option ValType). r) SpelledResult (Err d) here new → BuildsNext q old new
if_stop v old here new d y q r e f g n = record {
  built = λ more first_arm body else_arm end b.
      let k = branch_parts v (with_more old more) (with_more here more) end first_arm body else_arm (read_more v old here more r) e b in
      next_fails more q first_arm body else_arm (with_more new more) end d y f g (n.built more k.result k.head.middle k.head.first);
}

nest_given : (s : Shape) (v : ℕ) (old here new : Place) (more : List ℕ) (end : Place) (r : Option ValType) (first_arm : Bool) (body else_arm : Code) → ByteRead v old here → v ≡ shape_byte s
    → Builds (λ (r : Option ValType). r) SpelledResult (Ok r) here new
    → Between (SpelledCode first_arm body else_arm) (with_more old more) end → GivesNest s r first_arm body else_arm (with_more new more) end
nest_given s v old here new more end r first_arm body else_arm w e n b =
    let k = head_parts s v (with_more old more) (with_more here more) end first_arm body else_arm (read_more v old here more w) e b in
    let g = n.built more k.result k.head.middle k.head.first in
    (k.inner, k.rest, k.middle, k.whole ∙ ap (λ z. nest s z k.inner k.rest) (sym g.0), behind_first _ _ (with_more here more) k.middle (with_more new more) k.head g.1, k.second)

pub next_block : (v : ℕ) (old here new : Place) (r : Option ValType) → ByteRead v old here → v ≡ 0x02 → Builds (λ (r : Option ValType). r) SpelledResult (Ok r) here new
    → BuildsNext (Ok (open_block r)) old new
next_block v old here new r w e n = record { built = λ more first_arm body else_arm end b. nest_given a_block v old here new more end r first_arm body else_arm w e n b }

pub next_loop : (v : ℕ) (old here new : Place) (r : Option ValType) → ByteRead v old here → v ≡ 0x03 → Builds (λ (r : Option ValType). r) SpelledResult (Ok r) here new
    → BuildsNext (Ok (open_loop r)) old new
next_loop v old here new r w e n = record { built = λ more first_arm body else_arm end b. nest_given a_loop v old here new more end r first_arm body else_arm w e n b }

pub next_if : (v : ℕ) (old here new : Place) (r : Option ValType) → ByteRead v old here → v ≡ 0x04 → Builds (λ (r : Option ValType). r) SpelledResult (Ok r) here new
    → BuildsNext (Ok (open_if r)) old new
next_if v old here new r w e n = record {
  built = λ more first_arm body else_arm end b.
      let k = branch_parts v (with_more old more) (with_more here more) end first_arm body else_arm (read_more v old here more w) e b in
      let g = n.built more k.result k.head.middle k.head.first in
      (k.arm, k.other, k.rest, k.middle, k.whole ∙ ap (λ z. branch z k.arm k.other k.rest) (sym g.0), behind_first _ _ (with_more here more) k.middle (with_more new more) k.head g.1, k.second);
}

pub plain_stop : (v : ℕ) (old here new : Place) (d y : BuildFault) (q : Result CodeItem BuildFault) → ByteRead v old here → IsOther v → q ≡ Err y → y ≡ d
    → Builds code_of_one (SpelledPlain v) (Err d) here new → BuildsNext q old new
plain_stop v old here new d y q r e f g n = record {
  built = λ more first_arm body else_arm end b.
      let o = opens_here first_arm v body else_arm (with_more old more) (with_more here more) end (ap (λ z. z ++ more) r.left) r.at b in
      let k = first_of_other e o.opens in
      let w = onto_parts (SpelledPlain v (plain k.instr done)) (SpelledCode first_arm k.rest else_arm) (with_more here more) end o.back k.spelled o.left o.place in
      next_fails more q first_arm body else_arm (with_more new more) end d y f g (n.built more (plain k.instr done) w.middle w.first);
}

plain_same : (p q : Plain) → plain p done ≡ plain q done → p ≡ q
plain_same p q e = cc

nest_not : (s : Shape) (r : Option ValType) (c : Code) (p : Plain) → nest s r c done ≡ plain p done → ⊥
nest_not s r c p e = cc

branch_not : (r : Option ValType) (c d : Code) (p : Plain) → branch r c d done ≡ plain p done → ⊥
branch_not r c d p e = cc

-- an instruction that is this one alone is this one before whatever code
alone_is : (i : Instr) (p : Plain) → code_of_one i ≡ plain p done → (rest : Code) → in_front i rest ≡ plain p rest
alone_is i p e rest = elim (instr_kind i) [
  | is_block r v f ↦ absurd (nest_not a_block r (code v.items) p (sym (in_block r v done) ∙ ap (λ z. in_front z done) (sym f) ∙ e))
  | is_loop r v f ↦ absurd (nest_not a_loop r (code v.items) p (sym (in_loop r v done) ∙ ap (λ z. in_front z done) (sym f) ∙ e))
  | is_if r v w f ↦ absurd (branch_not r (code v.items) (code w.items) p (sym (in_if r v w done) ∙ ap (λ z. in_front z done) (sym f) ∙ e))
  | is_plain q f ↦ f rest ∙ ap (λ z. plain z rest) (plain_same q p (sym (f done) ∙ e))
]

pub next_plain : (v : ℕ) (old here new : Place) (i : Instr) → ByteRead v old here → IsOther v → Builds code_of_one (SpelledPlain v) (Ok i) here new → BuildsNext (Ok (an_instr i)) old new
next_plain v old here new i r e n = record {
  built = λ more first_arm body else_arm end b.
      let o = opens_here first_arm v body else_arm (with_more old more) (with_more here more) end (ap (λ z. z ++ more) r.left) r.at b in
      let k = first_of_other e o.opens in
      let w = onto_parts (SpelledPlain v (plain k.instr done)) (SpelledCode first_arm k.rest else_arm) (with_more here more) end o.back k.spelled o.left o.place in
      let g = n.built more (plain k.instr done) w.middle w.first in
      (k.rest, k.whole ∙ sym (alone_is i k.instr g.0 k.rest), behind_first _ _ _ end (with_more new more) w g.1);
}
