-- Into constructs and behind them.
use Rattle.std.proofs.Common.{◌≡◌, ℕ, suc, ◌+◌, ◌-◌, ◌^◌, ◌<◌, ◌≤◌, ◌++◌, List, [], ◌∷◌, length, reverse, take, drop, Option, None, false, subst, arith, ap, sym, ◌∙◌, length-append}
use Rattle.std.proofs.lemmas.List.{append_assoc, length-reverse, reverse-append}
use Rattle.std.proofs.Math.Seq.{drop-append_seam, take-append_seam}
use Rattle.std.specs.declared.vec.Vec.{Vec}
use Rattle.std.specs.declared.alloc.Global.{Global}
use Rattle.wa_types.specs.declared.values.ValType.{ValType}
use Rattle.wa_types.specs.declared.values.ValType.TheVariants.{I32}
use Rattle.wa_types.specs.declared.instrs.Instr.{Instr}
use Rattle.wa_types.specs.declared.instrs.Instr.TheVariants.{Block, Loop, If}
use Rattle.wa_types.specs.Syntax.{Shape, a_block, a_loop, Code, done, nest, branch}
use Rattle.wa_types.specs.View.{code, in_front}
use Rattle.wa_types.specs.Sizes.{code_items}
use Rattle.wa_types.specs.Typing.{label, listed, Types}
use Rattle.wa_types.proofs.ViewLemmas.{in_block, in_loop, in_if}
use Rattle.wa_types.specs.Leaves.{is_leaf}
use Rattle.wasm_validate.specs.Walk.{Walk, Stays, Inside, TypedAt, left_at}
use Rattle.wa_model.specs.declared.flat.Stmt.{Stmt}
use Rattle.wa_model.specs.declared.flat.Operand.TheVariants.{Local}
use Rattle.run_theory.specs.Flat.{Stmts, nests, decides}
use Rattle.run_theory.specs.FlatView.{stmts}
use Rattle.flat_laws.specs.Flatten.{Names, slots, top, arrive, flat}
use Rattle.flatten.specs.declared.position.Position.{Position}
use Rattle.flatten.specs.Emitting.{onto_stmts, all_of, flat_at, label_locals, result_at, ArrivesAt, HeldToo, PutBlock, PutLoop, PutIf, Put, Ready, SmallTypes}
use Rattle.flatten.proofs.CarryLemmas.{locals_long}
use Rattle.flatten.proofs.PositionLemmas.{slots_drop, slots_long}
use Rattle.flatten.proofs.TakenLemmas.{kept_reversed}

module _ (n : Names) (v : Walk) (lab given : Option ValType) (own0 : List ValType) where
  -- inside the construct, and behind it
  abbrev pub inner : Walk
  inner = record { around = v.around; labels = lab ∷ v.labels; own = []; under = own0 ++ v.under }

  abbrev pub outer : Walk
  outer = record { around = v.around; labels = v.labels; own = listed given ++ own0; under = v.under }

  pub left_outer : (base : ℕ) → base ≡ length v.under → left_at given base inner ≡ outer
  left_outer base e =
      let k : length (own0 ++ v.under) - base ≡ length own0 = omega (arith, length-append own0 v.under) in
      let own : listed given ++ take (length (own0 ++ v.under) - base) (own0 ++ v.under) ≡ listed given
      ++ own0 = ap (λ z. listed given ++ z) (ap (λ j. take j (own0 ++ v.under)) k ∙ take-append_seam own0 v.under) in
      let under : drop (length (own0 ++ v.under) - base) (own0 ++ v.under) ≡ v.under = ap (λ j. drop j (own0 ++ v.under)) k ∙ drop-append_seam own0 v.under in
      (λ j. record { around = v.around; labels = v.labels; own = own j; under = under j })

  pub left_same : (q : Walk) (base : ℕ) → Stays inner q → left_at given base q ≡ left_at given base inner
  left_same q base st =
      let own : listed given ++ take (length q.under - base) q.under ≡ listed given ++ take (length (own0 ++ v.under) - base) (own0 ++ v.under) =
      ap (λ z. listed given ++ take (length z - base) z) st.under in
      let under : drop (length q.under - base) q.under ≡ drop (length (own0 ++ v.under) - base) (own0 ++ v.under) = ap (λ z. drop (length z - base) z) st.under in
      (λ j. record { around = st.around j; labels = drop 1 (st.labels j); own = own j; under = under j })

  module _ (ss : List ℕ) (ls : List (Option ℕ)) (held : reverse ss ≡ slots n (own0 ++ v.under)) (labels : reverse ls ≡ label_locals n v.labels) where
    pub labels_count : length ls ≡ length v.labels
    labels_count = sym (length-reverse ls) ∙ ap length labels ∙ locals_long n v.labels

    pub opened : (p : Position) → p.typing ≡ inner → p.slots.items ≡ ss → p.labels.items ≡ ls ++ result_at n (length ls) lab ∷ [] → Ready n p
    opened p e es el = record {
      held = ap reverse es ∙ held ∙ ap (λ (w : Walk). slots n (all_of w)) (sym e);
      labels = ap reverse el ∙ reverse-append ls (result_at n (length ls) lab ∷ []) ∙ ap (λ z. result_at n (length ls) lab ∷ z) labels
          ∙ ap (λ d. result_at n d lab ∷ label_locals n v.labels) labels_count ∙ ap (λ (w : Walk). label_locals n w.labels) (sym e);
    }

    pub record ClosedAt (r : Position) : Type 0 where
      pub typing : r.typing ≡ outer
      pub labels_are : reverse r.labels.items ≡ label_locals n v.labels
      pub arrives : ArrivesAt n given r
      pub arrives_all : all_of r.typing ≡ listed given ++ (own0 ++ v.under)

    pub closed : (q r : Position) (base height : ℕ) → Ready n q → Stays inner q.typing → base ≡ length v.under → height ≡ length ss → r.typing ≡ left_at given base q.typing
        → r.slots.items ≡ take height q.slots.items → reverse r.labels.items ≡ drop 1 (reverse q.labels.items) → ClosedAt r
    closed q r base height rd st eb eh et es el =
        let k : ℕ = length q.typing.own in
        let under : q.typing.under ≡ own0 ++ v.under = st.under in
        let ty : r.typing ≡ outer = et ∙ left_same q.typing base st ∙ left_outer base eb in
        let count : height ≡ length q.typing.under = omega (arith, eh, length-reverse ss, ap length held, slots_long n (own0 ++ v.under), ap length under) in
        let long : height + k ≡ length q.slots.items = omega (
          arith,
          count,
          length-reverse q.slots.items,
          ap length rd.held,
          slots_long n (all_of q.typing),
          length-append q.typing.own q.typing.under,
        ) in
        let kept : reverse r.slots.items ≡ slots n (own0 ++ v.under) =
        ap reverse es ∙ kept_reversed height k q.slots.items long ∙ ap (drop k) rd.held ∙ slots_drop n k (all_of q.typing) ∙ ap (slots n) (drop-append_seam q.typing.own q.typing.under ∙ under) in
        record {
          typing = ty;
          labels_are = el ∙ ap (drop 1) (rd.labels ∙ ap (label_locals n) st.labels);
          arrives = (own0 ++ v.under, ap (λ (w : Walk). all_of w) ty ∙ append_assoc (listed given) own0 v.under, kept);
          arrives_all = ap (λ (w : Walk). all_of w) ty ∙ append_assoc (listed given) own0 v.under;
        }

    pub base_within : (q : Walk) (base : ℕ) → Stays inner q → base ≡ length v.under → base ≤ length q.under
    base_within q base st eb = omega (arith, eb, ap length st.under, length-append own0 v.under)

    -- behind it, with the result's slot
    pub ready_again : (r t : Position) → ClosedAt r → HeldToo n r t → Ready n t
    ready_again r t c h = record {
      held = h.held ∙ ap (λ (w : Walk). slots n (all_of w)) (sym h.typing);
      labels = ap reverse h.labels ∙ c.labels_are ∙ ap (λ (w : Walk). label_locals n w.labels) (sym (h.typing ∙ c.typing));
    }

    pub stays_around : (r t : Position) → ClosedAt r → HeldToo n r t → Stays v t.typing
    stays_around r t c h =
        let e : t.typing ≡ outer = h.typing ∙ c.typing in
        record { around = ap (λ (w : Walk). w.around) e; labels = ap (λ (w : Walk). w.labels) e; under = ap (λ (w : Walk). w.under) e }

    pub depth_is : (r : Position) → ClosedAt r → length r.labels.items ≡ length v.labels
    depth_is r c = sym (length-reverse r.labels.items) ∙ ap length c.labels_are ∙ locals_long n v.labels

    -- what stands behind, over the operands there
    pub behind_is : (r t : Position) (rest : Code) → ClosedAt r → HeldToo n r t → flat_at n t.typing rest ≡ flat n v.around v.labels rest (listed given ++ (own0 ++ v.under))
    behind_is r t rest c h = ap (λ (w : Walk). flat_at n w rest) (h.typing ∙ c.typing) ∙ ap (flat n v.around v.labels rest) (append_assoc (listed given) own0 v.under)

-- ---- blocks and loops

module _ (n : Names) (a : Position) (i : Instr) (s : Shape) (given : Option ValType) (body : Code) (is : (rest : Code) → in_front i rest ≡ nest s given body rest) (ready : Ready n a)
    (typed : TypedAt a.typing (in_front i done)) where
  pub nest_inside : (w : Walk) → Inside a.typing (in_front i done) w → w ≡ inner n a.typing (label s given) given a.typing.own
  nest_inside w h = subst (λ (k : Code). Inside a.typing k w) (is done) h

  nest_typed : Types a.typing.around a.typing.labels (nest s given body done) typed.0 a.typing.own
  nest_typed = subst (λ (k : Code). Types a.typing.around a.typing.labels k typed.0 a.typing.own) (is done) typed.1

  pub nest_body : (w : Walk) → w ≡ inner n a.typing (label s given) given a.typing.own → TypedAt w body
  unfolding Types
  nest_body w e = subst (λ (z : Walk). TypedAt z body) (sym e) (listed given, nest_typed.0)

  pub nest_room : (size m : ℕ) → m + code_items (in_front i done) < size → suc m + code_items body < size
  unfolding code_items
  nest_room size m lt = omega (arith, lt, ap code_items (is done))

  pub nest_fewer : code_items (in_front i done) ≡ 2 + code_items body
  unfolding code_items
  nest_fewer = ap code_items (is done) ∙ omega arith

  nest_behind : (w : Walk) → w ≡ outer n a.typing (label s given) given a.typing.own → Types a.typing.around a.typing.labels (in_front i done) w.own a.typing.own
  unfolding Types
  nest_behind w e =
      subst (λ (k : Code). Types a.typing.around a.typing.labels k w.own a.typing.own) (sym (is done)) (nest_typed.0, sym (ap (λ (z : Walk). z.own) e))

  pub nest_put : (r t : Position) (old new inside : List Stmt) → ClosedAt n a.typing (label s given) given a.typing.own a.slots.items a.labels.items ready.held ready.labels r
      → HeldToo n r t → stmts inside ≡ flat_at n (inner n a.typing (label s given) given a.typing.own) body
      → ((k : Stmts) → onto_stmts new k ≡ onto_stmts old (nests s (stmts inside) (arrive n (length a.typing.labels) (label s given) (all_of a.typing) k))) → Put n a t i old new
  unfolding flat
  nest_put r t old new inside c h ei puts =
      let v : Walk = a.typing in
      record {
        ready = ready_again n v (label s given) given v.own a.slots.items a.labels.items ready.held ready.labels r t c h;
        stays = stays_around n v (label s given) given v.own a.slots.items a.labels.items ready.held ready.labels r t c h;
        typed = nest_behind t.typing (h.typing ∙ c.typing);
        emits = λ rest.
            ap (onto_stmts new) (behind_is n v (label s given) given v.own a.slots.items a.labels.items ready.held ready.labels r t rest c h)
            ∙ puts (flat n v.around v.labels rest (listed given ++ all_of v))
            ∙ ap (λ z. onto_stmts old (nests s z (arrive n (length v.labels) (label s given) (all_of v) (flat n v.around v.labels rest (listed given ++ all_of v))))) ei
            ∙ sym (ap (λ k. onto_stmts old (flat n v.around v.labels k (all_of v))) (is rest));
      }

-- ---- ifs

module _ (n : Names) (a : Position) (i : Instr) (given : Option ValType) (one two : Code) (is : (rest : Code) → in_front i rest ≡ branch given one two rest) (ready : Ready n a)
    (typed : TypedAt a.typing (in_front i done)) where
  pub low : List ValType
  low = drop 1 a.typing.own

  if_typed : Types a.typing.around a.typing.labels (branch given one two done) typed.0 a.typing.own
  if_typed = subst (λ (k : Code). Types a.typing.around a.typing.labels k typed.0 a.typing.own) (is done) typed.1

  pub if_inside : (w : Walk) → Inside a.typing (in_front i done) w → w ≡ inner n a.typing given given (drop 1 a.typing.own)
  if_inside w h = subst (λ (k : Code). Inside a.typing k w) (is done) h

  -- the condition
  pub if_top : (below : List ValType) × (a.typing.own ≡ I32 ∷ below)
  unfolding Types
  if_top = (if_typed.0, if_typed.1)

  pub if_some : 0 < length a.slots.items
  if_some =
      omega (arith, length-reverse a.slots.items, ap length ready.held, slots_long n (all_of a.typing), ap (λ z. length (z ++ a.typing.under)) if_top.1)

  pub if_held : (ss : List ℕ) → reverse ss ≡ drop 1 (reverse a.slots.items) → reverse ss ≡ slots n (drop 1 a.typing.own ++ a.typing.under)
  if_held ss e =
      e ∙ ap (drop 1) ready.held ∙ ap (λ z. drop 1 (slots n (z ++ a.typing.under))) if_top.1 ∙ ap (λ z. slots n (drop 1 z ++ a.typing.under)) (sym if_top.1)

  pub if_first : (w : Walk) → w ≡ inner n a.typing given given (drop 1 a.typing.own) → TypedAt w one
  unfolding Types
  if_first w e = subst (λ (z : Walk). TypedAt z one) (sym e) (listed given, if_typed.2)

  pub if_second : (w : Walk) → w ≡ inner n a.typing given given (drop 1 a.typing.own) → TypedAt w two
  unfolding Types
  if_second w e = subst (λ (z : Walk). TypedAt z two) (sym e) (listed given, if_typed.3)

  pub if_room : (size m : ℕ) → m + code_items (in_front i done) < size → (suc m + code_items one < size) × (suc m + code_items two < size)
  unfolding code_items
  if_room size m lt = (omega (arith, lt, ap code_items (is done)), omega (arith, lt, ap code_items (is done)))

  pub if_fewer : (code_items one + 2 ≤ code_items (in_front i done)) × (code_items two + 2 ≤ code_items (in_front i done))
  unfolding code_items
  if_fewer = (omega (arith, ap code_items (is done)), omega (arith, ap code_items (is done)))

  if_behind : (w : Walk) → w ≡ outer n a.typing given given (drop 1 a.typing.own) → Types a.typing.around a.typing.labels (in_front i done) w.own a.typing.own
  unfolding Types
  if_behind w e =
      let own : w.own ≡ listed given ++ if_typed.0 = ap (λ (z : Walk). z.own) e ∙ ap (λ z. listed given ++ drop 1 z) if_typed.1 in
      subst (λ (k : Code). Types a.typing.around a.typing.labels k w.own a.typing.own) (sym (is done)) (if_typed.0, if_typed.1, if_typed.2, if_typed.3, sym own)

  pub if_put : (ss : List ℕ) (popped : reverse ss ≡ drop 1 (reverse a.slots.items)) (r t : Position) (old new first second : List Stmt) (condition : ℕ) → condition ≡ top n (all_of a.typing)
      → ClosedAt n a.typing given given (drop 1 a.typing.own) ss a.labels.items (if_held ss popped) ready.labels r → HeldToo n r t
      → stmts first ≡ flat_at n (inner n a.typing given given (drop 1 a.typing.own)) one → stmts second ≡ flat_at n (inner n a.typing given given (drop 1 a.typing.own)) two
      → ((k : Stmts) → onto_stmts new k ≡ onto_stmts old (decides (Local condition) (stmts first) (stmts second)
      (arrive n (length a.typing.labels) given (drop 1 a.typing.own ++ a.typing.under) k))) → Put n a t i old new
  unfolding flat
  if_put ss popped r t old new first second condition ec c h e1 e2 puts =
      let v : Walk = a.typing in
      let below : List ValType = drop 1 v.own ++ v.under in
      let same : below ≡ drop 1 (all_of v) = ap (λ z. drop 1 z ++ v.under) if_top.1 ∙ ap (λ z. drop 1 (z ++ v.under)) (sym if_top.1) in
      let held = if_held ss popped in
      record {
        ready = ready_again n v given given (drop 1 v.own) ss a.labels.items held ready.labels r t c h;
        stays = stays_around n v given given (drop 1 v.own) ss a.labels.items held ready.labels r t c h;
        typed = if_behind t.typing (h.typing ∙ c.typing);
        emits = λ rest.
            ap (onto_stmts new) (behind_is n v given given (drop 1 v.own) ss a.labels.items held ready.labels r t rest c h)
            ∙ puts (flat n v.around v.labels rest (listed given ++ below))
            ∙ ap (λ z. onto_stmts old (decides (Local condition) z (stmts second) (arrive n (length v.labels) given below (flat n v.around v.labels rest (listed given ++ below))))) e1
            ∙ ap (λ z. onto_stmts old (decides (Local condition) (flat n v.around (given ∷ v.labels) one below) z
            (arrive n (length v.labels) given below (flat n v.around v.labels rest (listed given ++ below))))) e2
            ∙ ap (λ z. onto_stmts old (decides (Local z) (flat n v.around (given ∷ v.labels) one below) (flat n v.around (given ∷ v.labels) two below)
            (arrive n (length v.labels) given below (flat n v.around v.labels rest (listed given ++ below))))) ec
            ∙ ap (λ ops. onto_stmts old (decides (Local (top n (all_of v))) (flat n v.around (given ∷ v.labels) one ops) (flat n v.around (given ∷ v.labels) two ops)
            (arrive n (length v.labels) given ops (flat n v.around v.labels rest (listed given ++ ops))))) same
            ∙ sym (ap (λ k. onto_stmts old (flat n v.around v.labels k (all_of v))) (is rest));
      }

-- ---- which instructions these are

pub block_is : (i : Instr) (r : Option ValType) (b : Vec Instr Global) → i ≡ Block r b → (rest : Code) → in_front i rest ≡ nest a_block r (code b.items) rest
block_is i r b e rest = ap (λ j. in_front j rest) e ∙ in_block r b rest

pub loop_is : (i : Instr) (r : Option ValType) (b : Vec Instr Global) → i ≡ Loop r b → (rest : Code) → in_front i rest ≡ nest a_loop r (code b.items) rest
loop_is i r b e rest = ap (λ j. in_front j rest) e ∙ in_loop r b rest

pub if_is : (i : Instr) (r : Option ValType) (b d : Vec Instr Global) → i ≡ If r b d → (rest : Code) → in_front i rest ≡ branch r (code b.items) (code d.items) rest
if_is i r b d e rest = ap (λ j. in_front j rest) e ∙ in_if r b d rest

pub block_opens : (i : Instr) (r : Option ValType) (b : Vec Instr Global) → i ≡ Block r b → is_leaf i ≡ false
unfolding is_leaf
block_opens i r b e = ap is_leaf e

pub loop_opens : (i : Instr) (r : Option ValType) (b : Vec Instr Global) → i ≡ Loop r b → is_leaf i ≡ false
unfolding is_leaf
loop_opens i r b e = ap is_leaf e

pub if_opens : (i : Instr) (r : Option ValType) (b d : Vec Instr Global) → i ≡ If r b d → is_leaf i ≡ false
unfolding is_leaf
if_opens i r b d e = ap is_leaf e

-- ---- the kinds

module _ (n : Names) (a p q r t : Position) (i : Instr) (given : Option ValType) (body : Code) (old new : List Stmt) (inside : List Stmt) (ready : Ready n a)
    (typed : TypedAt a.typing (in_front i done)) where
  pub block_done : (is : (rest : Code) → in_front i rest ≡ nest a_block given body rest)
      → ClosedAt n a.typing given given a.typing.own a.slots.items a.labels.items ready.held ready.labels r → p.typing ≡ inner n a.typing given given a.typing.own
      → stmts inside ≡ flat_at n p.typing body → PutBlock n given inside r t old new → Put n a t i old new
  block_done is c e ei pb =
      nest_put n a i a_block given body is ready typed r t old new inside c pb.now (ei ∙ ap (λ (w : Walk). flat_at n w body) e)
      (λ k. pb.puts (all_of a.typing) k (c.arrives_all) ∙ ap (λ d. onto_stmts old (nests a_block (stmts inside) (arrive n d given (all_of a.typing) k)))
      (depth_is n a.typing given given a.typing.own a.slots.items a.labels.items ready.held ready.labels r c))

  pub loop_done : (is : (rest : Code) → in_front i rest ≡ nest a_loop given body rest) → ClosedAt n a.typing None given a.typing.own a.slots.items a.labels.items ready.held ready.labels r
      → p.typing ≡ inner n a.typing None given a.typing.own
      → stmts inside ≡ flat_at n p.typing body → PutLoop n inside r t old new → Put n a t i old new
  loop_done is c e ei pl =
      nest_put n a i a_loop given body is ready typed r t old new inside c pl.now (ei ∙ ap (λ (w : Walk). flat_at n w body) e) (λ k. pl.puts k)

module _ (n : Names) (a p q r t : Position) (i : Instr) (given : Option ValType) (one two : Code) (old new : List Stmt) (first second : List Stmt) (ss : List ℕ) (condition : ℕ)
    (ready : Ready n a) (typed : TypedAt a.typing (in_front i done)) (popped : reverse ss ≡ drop 1 (reverse a.slots.items)) (is : (rest : Code)
    → in_front i rest ≡ branch given one two rest) where
  abbrev low_own : List ValType
  low_own = drop 1 a.typing.own

  pub if_done : ClosedAt n a.typing given given (drop 1 a.typing.own) ss a.labels.items (if_held n a i given one two is ready typed ss popped) ready.labels r
      → condition ≡ top n (all_of a.typing) → p.typing ≡ inner n a.typing given given (drop 1 a.typing.own) → q.typing ≡ inner n a.typing given given (drop 1 a.typing.own)
      → stmts first ≡ flat_at n p.typing one → stmts second ≡ flat_at n q.typing two → PutIf n given condition first second r t old new → Put n a t i old new
  if_done c ec e1 e2 s1 s2 pi =
      if_put n a i given one two is ready typed ss popped r t old new first second condition ec c pi.now (s1 ∙ ap (λ (w : Walk). flat_at n w one) e1) (s2 ∙ ap (λ (w : Walk). flat_at n w two) e2)
      (λ k. pi.puts (low_own ++ a.typing.under) k c.arrives_all ∙ ap (λ d. onto_stmts old
      (decides (Local condition) (stmts first) (stmts second) (arrive n d given (low_own ++ a.typing.under) k)))
      (depth_is n a.typing given given (drop 1 a.typing.own) ss a.labels.items (if_held n a i given one two is ready typed ss popped) ready.labels r c))

-- what a body's statements ask for
pub asks_of : (n : Names) (a p : Position) (k : Code) (xs : List Instr) → code xs ≡ k → TypedAt p.typing k → Ready n p → SmallTypes a.typing.around → p.typing.around ≡ a.typing.around
    → length p.labels.items ≡ suc (length a.labels.items) → suc (length a.labels.items) + code_items k < 2 ^ 32
    → TypedAt p.typing (code xs) × (Ready n p × (SmallTypes p.typing.around × ((length p.labels.items + code_items (code xs) < 2 ^ 32) × (0 < length p.labels.items))))
asks_of n a p k xs e t r s around size room =
    (subst (TypedAt p.typing) (sym e) t, (r, (subst SmallTypes (sym around) s, (omega (arith, room, size, ap code_items e), omega (arith, size)))))

pub one_label : (old new : List (Option ℕ)) (x : Option ℕ) → new ≡ old ++ x ∷ [] → length new ≡ suc (length old)
one_label old new x e = omega (arith, ap length e, length-append old (x ∷ []))
