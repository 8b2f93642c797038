-- A file goes on behind what has been read and built of it.
use Rattle.std.proofs.Common.{◌≡◌, ℕ, ◌+◌, ◌≤◌, List, [], ◌++◌, Option, Some, None, Bool, true, Result, Ok, Err, refl, sym, ap, ◌∙◌, subst, arith, length, take, drop, length-append, length-take-le, append_assoc, append-nil, length-drop, ◌-◌}
use Rattle.std.specs.Bool.{OnTrue}
use Rattle.std.specs.List.{copy_within}
use Rattle.std.proofs.lemmas.List.{take-append-drop}
use Rattle.std.proofs.lemmas.List.Edits.{paste_all}
use Rattle.file_laws.proofs.Items.{same_cut}
use Rattle.wa_types.specs.declared.syntax.Module.{Module as ModuleValue}
use Rattle.wa_types.specs.Binary.{Section}
use Rattle.wa_types.specs.ModuleBounds.{ModuleBounds}
use Rattle.wa_types.specs.Reading.{IsModule, SpellsModule}
use Rattle.wa_types.specs.Syntax.{Module}
use Rattle.wa_types.specs.View.{module_of}
use Rattle.wasm_build.specs.declared.build_types.BuildFault.{BuildFault}
use Rattle.wasm_build.specs.declared.build_types.BuildFault.TheVariants.{Memory, NotSpelled}
use Rattle.wasm_build.specs.declared.builder.Builder.{Builder}
use Rattle.wasm_build.specs.BuildsModule.{GivesModule}
use Rattle.wasm_build.specs.BuildsPieces.{Comes, Coming, Holds, Takes}
use Rattle.wasm_build.proofs.PieceParts.{cut_at}
use Rattle.file_laws.proofs.Judged.{deep_stays}
use Rattle.wasm_grammar.specs.Machine.{Stands, Waits}
use Rattle.wasm_grammar.specs.declared.machine.Machine.{Machine}
use Rattle.wasm_grammar.specs.Input.{Input, input_of}
use Rattle.wasm_grammar.proofs.PieceEnds.{stands_on}
use Rattle.wasm_reader.specs.Answers.{IsShallow}
use Rattle.wasm_reader.specs.declared.progress.Progress.{Progress}
use Rattle.wasm_reader.specs.Progress.{IsGoing, Hopeless, Awaits, AwaitsBehind, bytes_of, Goes, BuildsOn, IsLeft, GivesLeft}
use Rattle.wasm_reader.proofs.Accepting.{spelled_in}

pub going_on : (b : ModuleBounds) (old piece bytes : List ℕ) (base : ℕ) (o : Option Machine) (m : Machine) → o ≡ Some m → IsGoing b old base o → bytes ≡ old ++ piece
    → Stands b m.marks bytes m.at m.goals
going_on b old piece bytes base o m e h f =
    let w = subst (IsGoing b old base) e h in
    subst (λ z. Stands b m.marks z m.at m.goals) (sym f) (stands_on old piece m.at m.goals w.0.stands)

pub going_from : (b : ModuleBounds) (old : List ℕ) (base : ℕ) (o : Option Machine) (m : Machine) → o ≡ Some m → IsGoing b old base o → base ≤ m.at
going_from b old base o m e h = (subst (IsGoing b old base) e h).1

pub first_from : (b : ModuleBounds) (old : List ℕ) (base : ℕ) (o : Option Machine) (m : Machine) → o ≡ None → IsGoing b old base o → base ≤ m.at
first_from b old base o m e h = let w = subst (IsGoing b old base) e h in omega (arith, w.1)

pub same_machine : (b : ModuleBounds) (bytes : List ℕ) (m n : Machine) → n ≡ m → Stands b m.marks bytes m.at m.goals → Stands b n.marks bytes n.at n.goals
same_machine b bytes m n e h = subst (λ (z : Machine). Stands b z.marks bytes z.at z.goals) (sym e) h

pub same_from : (base : ℕ) (m n : Machine) → n ≡ m → base ≤ m.at → base ≤ n.at
same_from base m n e h = omega (arith, h, ap (λ (z : Machine). z.at) e)

-- nothing changes as bytes are let go
pub shifted : (before left : List ℕ) (used : ℕ) → (before ++ take used left) ++ drop used left ≡ before ++ left
shifted before left used = append_assoc before (take used left) (drop used left) ∙ ap (λ z. before ++ z) (take-append-drop used left)

-- what came still comes, with a piece behind it
pub awaits_more : (b : ModuleBounds) (before old piece left : List ℕ) (o : Option Builder) → left ≡ old ++ piece → Awaits b before old o → Awaits b before left o
awaits_more b before old piece left (Some k) e a = λ more m s.
    let far : (before ++ left) ++ more ≡ (before ++ old) ++ (piece ++ more) =
    ap (λ z. (before ++ z) ++ more) e ∙ ap (λ z. z ++ more) (sym (append_assoc before old piece)) ∙ append_assoc (before ++ old) piece more in
    let near : left ++ more ≡ old ++ (piece ++ more) = ap (λ z. z ++ more) e ∙ append_assoc old piece more in
    subst (Comes k m (length before)) (sym near) (a (piece ++ more) m (subst (λ z. SpellsModule z m) far s))
awaits_more b before old piece left None e a = λ more ss m s.
    let far : (before ++ left) ++ more ≡ (before ++ old) ++ (piece ++ more) =
    ap (λ z. (before ++ z) ++ more) e ∙ ap (λ z. z ++ more) (sym (append_assoc before old piece)) ∙ append_assoc (before ++ old) piece more in
    a (piece ++ more) ss m (subst (λ z. IsShallow b z ss) far s)

-- where nesting is too deep no file is within the bounds
pub hopeless_deep : (b : ModuleBounds) (bytes : List ℕ) (m : Machine) (deep : Bool) → Waits b m.marks bytes m.at m.goals → OnTrue deep ((k : ℕ) × (m.marks.deep ≡ Some k)) → deep ≡ true
    → Hopeless b bytes
hopeless_deep b bytes m deep w d e = λ more ss n s i.
    let f = subst (λ z. OnTrue z ((k : ℕ) × (m.marks.deep ≡ Some k))) e d in
    deep_stays b bytes more m.at f.0 m.goals m.marks w.stands.marked f.1 ss s.before.before.before.before.file.spells s.nesting

pub not_memory : NotSpelled ≡ Memory → ⊥
not_memory e = cc

-- where these are the bytes that come next, whatever follows
comes_next : (b : ModuleBounds) (before bytes later more : List ℕ) (base : ℕ) (m : Module) (o : Option Builder) (k : Builder) → o ≡ Some k → length before ≡ base
    → Awaits b before (bytes ++ later) o → SpellsModule ((before ++ (bytes ++ later)) ++ more) m → Comes k m base (bytes ++ (later ++ more))
comes_next b before bytes later more base m o k e held a s =
    subst (λ n. Comes k m n (bytes ++ (later ++ more))) held
    (subst (Comes k m (length before)) (append_assoc bytes later more) (subst (Awaits b before (bytes ++ later)) e a more m s))

-- nothing is built, and what comes is the same
pub builds_same : (o new : Option Builder) (deep : Bool) (base : ℕ) (bytes : List ℕ) → o ≡ new → BuildsOn o deep base bytes new 0
builds_same o new deep base bytes e = subst (λ z. BuildsOn o deep base bytes z 0) e (record {
  builds = λ b before later held d a. subst (λ z. Awaits b z (bytes ++ later) o) (sym (append-nil before)) a;
})

pub builds_none : (o : Option Builder) (deep : Bool) (base : ℕ) (bytes : List ℕ) → o ≡ None → BuildsOn o deep base bytes None 0
builds_none o deep base bytes e = record {
  builds = λ b before later held d a. subst (Hopeless b) (sym (shifted before (bytes ++ later) 0)) (subst (Awaits b before (bytes ++ later)) e a);
}

pub builds_deep : (o : Option Builder) (deep : Bool) (base : ℕ) (bytes : List ℕ) → deep ≡ true → BuildsOn o deep base bytes None 0
builds_deep o deep base bytes e = record {
  builds = λ b before later held d a. subst (Hopeless b) (sym (shifted before (bytes ++ later) 0)) (d e);
}

pub builds_lost : {f : BuildFault} (o : Option Builder) (deep : Bool) (base : ℕ) (bytes : List ℕ) (k new : Builder) → o ≡ Some k → f ≡ NotSpelled → Takes (Err f) k new base bytes
    → BuildsOn o deep base bytes None 0
builds_lost o deep base bytes k new e lost t = record {
  builds = λ b before later held d a. subst (Hopeless b) (sym (shifted before (bytes ++ later) 0)) (λ more ss m s i.
      not_memory (sym lost ∙ t.takes (later ++ more) m (comes_next b before bytes later more base m o k e held a (spelled_in b ((before ++ (bytes ++ later)) ++ more) ss m s i))));
}

pub builds_some : (o : Option Builder) (deep : Bool) (base used : ℕ) (bytes : List ℕ) (k new : Builder) → o ≡ Some k → used ≤ length bytes → Takes (Ok used) k new base bytes
    → BuildsOn o deep base bytes (Some new) used
builds_some o deep base used bytes k new e within t = record {
  builds = λ b before later held d a more m s.
      let left = bytes ++ later in
      let all = subst (λ z. SpellsModule (z ++ more) m) (shifted before left used) s in
      let g = (t.takes (later ++ more) m (comes_next b before bytes later more base m o k e held a all)).0 in
      let long : used ≤ length left = omega (arith, within, length-append bytes later) in
      let place : base + used ≡ length (before ++ take used left) = omega (arith, held, length-append before (take used left), length-take-le used left long) in
      let cut : drop used bytes ++ later ≡ drop used left =
      cut_at bytes later (take used left) (drop used left) used (sym (take-append-drop used left)) (sym (length-take-le used left long)) within in
      let near : drop used bytes ++ (later ++ more) ≡ drop used left ++ more = sym (append_assoc (drop used bytes) later more) ∙ ap (λ z. z ++ more) cut in
      subst (λ n. Comes new m n (drop used left ++ more)) place (subst (Comes new m (base + used)) near g);
}

-- what is known of what is held, part by part
abbrev Held : Type 0
Held = List ℕ × List ℕ × ℕ × Option Machine × Option Builder

abbrev IsHeld : ModuleBounds → Held → Type 0
IsHeld b t = (length t.0 ≡ t.2) × IsGoing b (t.0 ++ t.1) t.2 t.3 × Awaits b t.0 t.1 t.4

pub goes_behind : (b : ModuleBounds) (before left : List ℕ) (base used : ℕ) (m : Machine) (o : Option Builder) (new : Progress) → length before ≡ base
    → IsGoing b (before ++ left) base (Some m) → AwaitsBehind b before left used o → base + used ≤ m.at → used ≤ length left → new.before.bytes ≡ before ++ take used left
    → new.window.items ≡ drop used left → new.base ≡ base + used → new.machine ≡ Some m → new.builder ≡ o → Goes b new new.window.items
goes_behind b before left base used m o new held going awaits from within e f g h k =
    let t : Held = (before ++ take used left, drop used left, base + used, Some m, o) in
    let same : (new.before.bytes, new.window.items, new.base, new.machine, new.builder) ≡ t = λ i. (e i, f i, g i, h i, k i) in
    let there : IsHeld b t = (
      omega (arith, held, length-append before (take used left), length-take-le used left within),
      (subst (λ z. Waits b m.marks z m.at m.goals) (sym (shifted before left used)) going.0, from),
      awaits,
    ) in
    let n = subst (IsHeld b) (sym same) there in
    record { held = n.0; going = n.1; awaits = n.2 }

pub same_bytes : (before left : List ℕ) (used : ℕ) (new : Progress) → new.before.bytes ≡ before ++ take used left → new.window.items ≡ drop used left → bytes_of new ≡ before ++ left
same_bytes before left used new e f = (λ i. e i ++ f i) ∙ shifted before left used

-- the last bytes
pub gives_left : (o : Option Builder) (k new : Builder) (left : List ℕ) (base used : ℕ) (r : ModuleValue) → o ≡ Some k → Takes (Ok used) k new base left → Holds new (module_of r)
    → GivesLeft (Ok r) o left base
gives_left o k new left base used r e t is = λ b before ss m held a s i.
    let all = spelled_in b (before ++ left) ss m s i in
    let c = subst (Awaits b before left) e a [] m (subst (λ z. SpellsModule z m) (sym (append-nil (before ++ left))) all) in
    let g = (t.takes [] m (subst (λ n. Comes k m n (left ++ [])) held c)).1 refl in
    sym is ∙ g.1

pub gives_fault : {d y : BuildFault} (o : Option Builder) (k new : Builder) (left : List ℕ) (base : ℕ) (q : Result ModuleValue BuildFault) → o ≡ Some k → q ≡ Err y → y ≡ d
    → Takes (Err d) k new base left → GivesLeft q o left base
gives_fault o k new left base q e f g t = λ b before ss m held a s i.
    let all = spelled_in b (before ++ left) ss m s i in
    let c = subst (Awaits b before left) e a [] m (subst (λ z. SpellsModule z m) (sym (append-nil (before ++ left))) all) in
    subst (λ z. GivesModule z m) (sym f) (g ∙ t.takes [] m (subst (λ n. Comes k m n (left ++ [])) held c))

pub gives_none : (o : Option Builder) (left : List ℕ) (base : ℕ) → o ≡ None → GivesLeft (Err NotSpelled) o left base
gives_none o left base e = λ b before ss m held a s i.
    absurd (subst (Awaits b before left) e a [] ss m (subst (λ z. IsShallow b z ss) (sym (append-nil (before ++ left))) s) i)

pub left_built : (b : ModuleBounds) (all left : List ℕ) (base : ℕ) (o : Option Builder) (r : ModuleValue) → IsLeft b all o left base → GivesLeft (Ok r) o left base
    → (ss : List Section) → IsShallow b all ss → (n : Module) → IsModule ss n → module_of r ≡ n
left_built b all left base o r l g = λ ss s n i. g b l.0 ss n l.2 l.3 (subst (λ z. IsShallow b z ss) l.1 s) i

pub left_fails : (b : ModuleBounds) (all left : List ℕ) (base : ℕ) (o : Option Builder) (e : BuildFault) → IsLeft b all o left base → GivesLeft (Err e) o left base
    → (ss : List Section) → IsShallow b all ss → (n : Module) → IsModule ss n → e ≡ Memory
left_fails b all left base o e l g = λ ss s n i. g b l.0 ss n l.2 l.3 (subst (λ z. IsShallow b z ss) l.1 s) i

-- all bytes are left at first
pub first_left : (b : ModuleBounds) (all left : List ℕ) (o : Option Builder) (k : Builder) → o ≡ Some k → all ≡ left → Coming k → IsLeft b all o left 0
first_left b all left o k e f h = ([], f, refl, subst (Awaits b [] left) (sym e) (λ more m s. h (left ++ more) m s))

-- what has been read of all bytes, as those that are held lie behind those that are built
pub at_file : (b : ModuleBounds) (file : Input) (before slice left : List ℕ) (base : ℕ) (o : Option Machine) → file ≡ input_of before slice base → slice ≡ left
    → IsGoing b file.all file.base o → IsGoing b (before ++ left) base o
at_file b file before slice left base o e f h = subst (λ z. IsGoing b (before ++ z) base o) f (subst (λ (z : Input). IsGoing b z.all z.base o) e h)

pub in_file : (b : ModuleBounds) (file : Input) (before slice left : List ℕ) (base : ℕ) (o p : Option Machine) → file ≡ input_of before slice base → o ≡ p
    → IsGoing b left base p → IsGoing b left file.base o
in_file b file before slice left base o p e f h = subst (λ (z : Input). IsGoing b left z.base o) (sym e) (subst (IsGoing b left base) (sym f) h)

pub all_of : (file : Input) (before slice left : List ℕ) (base : ℕ) → file ≡ input_of before slice base → slice ≡ left → file.all ≡ before ++ left
all_of file before slice left base e f = ap (λ (z : Input). z.all) e ∙ ap (λ z. before ++ z) f

-- what is built of those bytes whose items have been read
pub behind_passed : (b : ModuleBounds) (before left bytes : List ℕ) (passed base used : ℕ) (old new : Option Builder) (deep : Bool) → bytes ≡ take passed left
    → BuildsOn old deep base bytes new used → length before ≡ base → (deep ≡ true → Hopeless b (before ++ left)) → Awaits b before left old → AwaitsBehind b before left used new
behind_passed b before left bytes passed base used old new deep e r held hopeless a =
    let whole : bytes ++ drop passed left ≡ left = ap (λ z. z ++ drop passed left) e ∙ take-append-drop passed left in
    subst (λ z. AwaitsBehind b before z used new) whole
    (r.builds b before (drop passed left) held (λ d. subst (λ z. Hopeless b (before ++ z)) (sym whole) (hopeless d)) (subst (λ z. Awaits b before z old) (sym whole) a))

-- how far bytes are let go: no farther than items have been read
pub used_reached : (before left bytes : List ℕ) (at passed base used : ℕ) → bytes ≡ take passed left → passed ≡ at - base → base ≤ at → at ≤ length (before ++ left) → length before ≡ base
    → used ≤ length bytes → (base + used ≤ at) × (used ≤ length left)
used_reached before left bytes at passed base used e p from within held fits =
    let all = length-append before left in
    let few : passed ≤ length left = omega (arith, p, from, within, held, all) in
    let long = ap length e ∙ length-take-le passed left few in
    (omega (arith, fits, long, p, from), omega (arith, fits, long, few))

take_front : (xs ys : List ℕ) → take (length xs) (xs ++ ys) ≡ xs
take_front xs ys = (same_cut (take (length xs) (xs ++ ys)) (drop (length xs) (xs ++ ys)) xs ys (take-append-drop (length xs) (xs ++ ys))
    (length-take-le (length xs) (xs ++ ys) (omega (arith, length-append xs ys)))).0

-- what is left of the bytes as they move to the front
pub kept : (xs ys : List ℕ) (n used end : ℕ) → n ≡ length xs → end ≡ length xs → used ≤ length xs → ys ≡ copy_within xs used end 0 → take (n - used) ys ≡ drop used xs
kept xs ys n used end f e h is =
    let k : end - used ≡ length (drop used xs) = omega (arith, h, e, length-drop used xs) in
    let m : n - used ≡ length (drop used xs) = omega (arith, f, length-drop used xs) in
    let whole : ys ≡ drop used xs ++ drop (0 + (end - used)) xs = is ∙ paste_all xs 0 (drop used xs) (end - used) k in
    ap (take (n - used)) whole ∙ ap (λ k. take k (drop used xs ++ drop (0 + (end - used)) xs)) m ∙ take_front (drop used xs) (drop (0 + (end - used)) xs)
